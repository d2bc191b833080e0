-- Uniqueness: two families of sorted histories that each account for every message below an hour agree below that hour.
use mathlib.Core.List.{List, [], ◌∷◌, ◌++◌}
use mathlib.Core.Path.{◌≡◌, refl, sym, ap, subst, ◌∙◌}
use mathlib.Core.Logic.{◌≢◌}
use Prim.Native.Nat.{ℕ, zero, suc, ◌+◌, ◌≤◌, ◌<◌}
use native.Mathlib.Omega.{arith}
use native.Mathlib.Decide.{dec_lt, ℕ_discrete}
use Rattle.lists.specs.Lists.{All, nil, cons}
use Rattle.lists.specs.Families.{sum}
use Rattle.lists.proofs.ListLaws.{all_map, count_none, matches-other}
use Rattle.lists.proofs.FamilyLaws.{sum-agree}
use Rattle.event_steps.specs.Models.{Model, ModelLaws, hour}
use Rattle.event_steps.proofs.OrderLaws.{Sorted, newest, sorted-unique, hour-order, message-eq}
use Rattle.event_steps.proofs.EventCounts.{times, times-cons}
use Rattle.event_steps.proofs.Addressing.{sent-later}
use Rattle.event_steps.proofs.Conservation.{sent_in, sent-cons}

module _ (M : Model) where
  open M use {Message, to, last, opening}

  -- `Below t h b`: b is what is left of the history h after its latest events of hour t or more.
  pub data Below (t : ℕ) : List Message → List Message → Type 0 where
    ends : Below t [] []
    keeps : {m : Message} {h : List Message} → hour M m < t → Below t (m ∷ h) (m ∷ h)
    drops : {m : Message} {h b : List Message} → t ≤ hour M m → Below t h b → Below t (m ∷ h) b

  pub below : (t : ℕ) (h : List Message) → (b : List Message) × Below t h b
  below t [] = ([], ends)
  below t (m ∷ h) = go (dec_lt (hour M m) t) (below t h)
    where
      go : Dec (hour M m < t) → (b : List Message) × Below t h b → (b : List Message) × Below t (m ∷ h) b
      go (yes e) r = (m ∷ h, keeps e)
      go (no e) r = (r.0, drops {m = m} (omega arith) r.1)

  pub below_rest : {t : ℕ} {h b : List Message} → Below t h b → (more : List Message) × (h ≡ more ++ b)
  below_rest ends = ([], refl)
  below_rest (keeps e) = ([], refl)
  below_rest (drops {m = m} e r) = let p = below_rest r in (m ∷ p.0, ap (λ l. m ∷ l) p.1)

  pub below-any : {p : Message → Type 0} {t : ℕ} {h b : List Message} → Below t h b → All p h → All p b
  below-any ends a = a
  below-any (keeps e) a = a
  below-any (drops e r) (cons h a) = below-any r a

  below-sorted : {t : ℕ} {h b : List Message} → Below t h b → Sorted M h → Sorted M b
  below-sorted ends s = s
  below-sorted (keeps e) s = s
  below-sorted (drops e r) (newest a s) = below-sorted r s

  below-early : {t : ℕ} {h b : List Message} → Below t h b → Sorted M h → All (λ m. hour M m < t) b
  below-early ends s = nil
  below-early (keeps {m = m} e) (newest a s) = cons e (all_map (λ p k. omega (arith, hour-order M p m k)) a)
  below-early (drops e r) (newest a s) = below-early r s

  below-count : {t : ℕ} {h b : List Message} → Below t h b → (x : Message) → hour M x < t → times M x b ≡ times M x h
  below-count ends x k = refl
  below-count (keeps e) x k = refl
  below-count (drops {m = m} {h = h} e r) x k =
      let apart : x ≢ m = λ p. absurd (omega (arith, ap (hour M) p)) in
      omega (arith, below-count r x k, times-cons M x m h, matches-other (message-eq M) apart)

  -- What a history sent up to hour t, its events below t sent.
  below-sent :
      ModelLaws M →
      (i : ℕ) {t : ℕ} {h b : List Message} →
      i ≤ last →
      Below t h b →
      (x : Message) →
      hour M x ≤ t →
      times M x (sent_in M i b) ≡ times M x (sent_in M i h)
  below-sent laws i inside ends x k = refl
  below-sent laws i inside (keeps e) x k = refl
  below-sent laws i inside (drops {m = m} {h = h} e r) x k =
      omega (
        arith,
        below-sent laws i inside r x k,
        sent-cons M i x m h,
        count_none (message-eq M) x (sent-later M laws i inside h m) (λ l. omega arith),
      )

  -- A beginning that lies below t is a beginning of what is below t.
  pub below-beginning :
      {t : ℕ} (p c : List Message) {b : List Message} →
      All (λ m. hour M m < t) c →
      Below t (p ++ c) b →
      (more : List Message) × (b ≡ more ++ c)
  below-beginning [] [] a ends = ([], refl)
  below-beginning [] (m ∷ c) a (keeps e) = ([], refl)
  below-beginning [] (m ∷ c) (cons k a) (drops e r) = absurd (omega arith)
  below-beginning (m ∷ p) c a (keeps e) = (m ∷ p, refl)
  below-beginning (m ∷ p) c a (drops e r) = below-beginning p c a r

  pub below-whole : {t : ℕ} {h b : List Message} → All (λ m. hour M m < t) h → Below t h b → b ≡ h
  below-whole a ends = refl
  below-whole a (keeps e) = refl
  below-whole (cons k a) (drops e r) = absurd (omega arith)

  -- Sorted histories at the gateways that their messages are addressed to, which account for every message below hour t:
  -- it was there at first or was sent as often as it was done.
  pub record Accounts (t : ℕ) (h : ℕ → List Message) : Type 0 where
    pub sorted : (i : ℕ) → Sorted M (h i)
    pub here : (i : ℕ) → i ≤ last → All (λ m. to m ≡ i) (h i)
    pub balance :
        (x : Message) →
        to x ≤ last →
        hour M x < t →
        times M x (opening (to x)) + sum (suc last) (λ j. times M x (sent_in M j (h j))) ≡ times M x (h (to x))

  module _ (laws : ModelLaws M) {G : ℕ} {h k : ℕ → List Message} (a : Accounts G h) (c : Accounts G k) where
    -- Below t they agree.
    abbrev pub Agree : ℕ → Type 0
    Agree t = (i : ℕ) → i ≤ last → (b d : List Message) → Below t (h i) b → Below t (k i) d → b ≡ d

    -- Up to hour t they sent the same if below t they agree.
    same_sent :
        (t : ℕ) →
        Agree t →
        (x : Message) →
        hour M x ≤ t →
        sum (suc last) (λ j. times M x (sent_in M j (h j))) ≡ sum (suc last) (λ j. times M x (sent_in M j (k j)))
    same_sent t agree x l =
        sum-agree
        (suc last)
        (λ j. times M x (sent_in M j (h j)))
        (λ j. times M x (sent_in M j (k j)))
        (λ j fits.
        let inside : j ≤ last = omega arith in
        let b = below t (h j) in
        let d = below t (k j) in
        sym (below-sent laws j inside b.1 x l)
        ∙ ap (λ z. times M x (sent_in M j z)) (agree j inside b.0 d.0 b.1 d.1)
        ∙ below-sent laws j inside d.1 x l)

    -- Below t they have the same of each message if it is so for messages that have an hour below t and are addressed there.
    same_parts :
        (t : ℕ) →
        ((x : Message) → to x ≤ last → hour M x < t → times M x (h (to x)) ≡ times M x (k (to x))) →
        Agree t
    same_parts t e i inside b d p q =
        sorted-unique M (below-sorted p (a.sorted i)) (below-sorted q (c.sorted i)) (λ x. go x (dec_lt (hour M x) t) (ℕ_discrete (to x) i))
      where
        go : (x : Message) → Dec (hour M x < t) → Dec (to x ≡ i) → times M x b ≡ times M x d
        go x (yes l) (yes f) =
            below-count p x l ∙ subst (λ (j : ℕ). times M x (h j) ≡ times M x (k j)) f (e x (omega arith) l) ∙ sym (below-count q x l)
        go x (yes l) (no f) =
            count_none (message-eq M) x (below-any p (a.here i inside)) f ∙ sym (count_none (message-eq M) x (below-any q (c.here i inside)) f)
        go x (no l) f =
            count_none (message-eq M) x (below-early p (a.sorted i)) l ∙ sym (count_none (message-eq M) x (below-early q (c.sorted i)) l)

    pub unique : (t : ℕ) → t ≤ G → Agree t
    unique zero l = same_parts zero (λ x inside e. absurd (omega arith))
    unique (suc t) l = same_parts (suc t) (λ x inside e. omega (
      arith,
      a.balance x inside (omega arith),
      c.balance x inside (omega arith),
      same_sent t (unique t (omega arith)) x (omega arith),
    ))
