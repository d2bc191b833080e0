-- The single queue on bytes does what the abstract theory's single queue does.
use mathlib.Core.Path.{◌≡◌, refl, sym, ◌∙◌, ap, ap₂, subst}
use Prim.Native.Nat.{ℕ, zero, suc, ◌+◌, ◌-◌, ◌≤◌, ◌<◌}
use native.Mathlib.Omega.{arith}
use mathlib.Core.Bool.{Bool, true, false, cond, not}
use mathlib.Core.List.{List, [], ◌∷◌, ◌++◌, append_assoc, append-nil}
use lib.Dec.{eqb}
use lib.ListN.{length}
use borrow.Author.Tests.{eqb-true}
use Rattle.lists.specs.Lists.{All, tally, count, matches}
use Rattle.lists.specs.Families.{change}
use Rattle.lists.proofs.ListLaws.{all_insert, all_rest, all-taken, all_append, all_both, tally-insert, tally-append, matches-same}
use Rattle.lists.proofs.ListLaws.{count-nil, count-cons, count-append, count-insert, all-count}
use Rattle.model.specs.Doing.{after, sent}
use Rattle.model.specs.EventOrder.{key, compared}
use Rattle.model.specs.Messages.{origin_of}
use Rattle.model.specs.declared.Message.{Message}
use Rattle.model.specs.declared.State.{State}
use Rattle.memory.proofs.LeadTimeFacts.{at_least_one}
use Rattle.model.proofs.Sending.{sending}
use Rattle.frame.specs.Limits.{nothing_due}
use Rattle.memory.specs.Validity.{later}
use Rattle.std.specs.Ordering.{is_gt}
use Rattle.event_steps.specs.Models.{Model, ModelLaws, NotLater, state_after, sent_by}
use Rattle.event_steps.specs.SingleQueue as Theory
use Rattle.event_steps.proofs.OrderLaws.{order-refl, order-antisym, message-eq}
use Rattle.event_steps.proofs.QueueLaws.{first_taken, first-least, queue-ends}
use Rattle.gateway.specs.Committing.{record_for}
use Rattle.run.specs.Forecast.{SetUpInput}
use Rattle.run.specs.SingleQueue.{Queue, opening_queue, earliest, others, do_one, step_on, steps, turns_for, whole_record}
use Rattle.run.proofs.EventOrders.{keys-agree}
use Rattle.run.proofs.ForecastModel.{forecast_model, site_at, Settled, forecast_laws, sends_at, sends-all-sent, sends-origins}
use Rattle.run.proofs.SavedStates.{state_at}

-- equal lists but for their order: first of them, and the others
module _ (M : Model) where
  open M use {Message}

  abbrev pub Alike : List Message → List Message → Type 0
  Alike k l = (x : Message) → count (message-eq M) x k ≡ count (message-eq M) x l

  least-of : (m : Message) (l : List Message) → All (NotLater M (Theory.earliest M m l)) (m ∷ l)
  least-of m l = all_insert (first_taken M m l) (order-refl M (Theory.earliest M m l)) (first-least M m l)

  stands-in : (m : Message) (l : List Message) → 1 ≤ count (message-eq M) (Theory.earliest M m l) (m ∷ l)
  stands-in m l =
      omega (
        arith,
        count-insert (message-eq M) (Theory.earliest M m l) (first_taken M m l),
        matches-same (message-eq M) (Theory.earliest M m l),
      )

  pub same_first : (m n : Message) (k l : List Message) → Alike (m ∷ k) (n ∷ l) → Theory.earliest M m k ≡ Theory.earliest M n l
  same_first m n k l a =
      order-antisym M (Theory.earliest M m k) (Theory.earliest M n l)
      (all-count (message-eq M) (Theory.earliest M n l) (least-of m k) (omega (arith, stands-in n l, a (Theory.earliest M n l))))
      (all-count (message-eq M) (Theory.earliest M m k) (least-of n l) (omega (arith, stands-in m k, a (Theory.earliest M m k))))

  pub same-others : (m n : Message) (k l : List Message) → Alike (m ∷ k) (n ∷ l) → Alike (Theory.others M m k) (Theory.others M n l)
  same-others m n k l a x =
      omega (
        arith,
        count-insert (message-eq M) x (first_taken M m k),
        count-insert (message-eq M) x (first_taken M n l),
        ap (matches (message-eq M) x) (same_first m n k l a),
        a x,
      )

  pub not_alike : (m : Message) (l : List Message) → Alike [] (m ∷ l) → ⊥
  not_alike m l a = omega (arith, a m, count-nil (message-eq M) m, count-cons (message-eq M) m m l, matches-same (message-eq M) m)

module _ (n last : ℕ) (setups : ℕ → SetUpInput) where
  abbrev model : Model
  model = forecast_model n last setups

  -- the two machines choose alike
  chooses : (m e : Message) → cond (later m e) e m ≡ cond (Theory.is_not_later (key m) (key e)) m e
  unfolding later
  chooses m e = rw (keys-agree (key m) (key e)) (by-case (is_gt (compared (key m) (key e))))
    where
      by-case : (t : Bool) → cond t e m ≡ cond (not t) m e
      by-case true = refl
      by-case false = refl

  leaves : (m e : Message) (k l : List Message) → cond (later m e) k l ≡ cond (Theory.is_not_later (key m) (key e)) l k
  unfolding later
  leaves m e k l = rw (keys-agree (key m) (key e)) (by-case (is_gt (compared (key m) (key e))))
    where
      by-case : (t : Bool) → cond t k l ≡ cond (not t) l k
      by-case true = refl
      by-case false = refl

  pub earliest-is : (m : Message) (l : List Message) → earliest m l ≡ Theory.earliest model m l
  unfolding earliest Theory.earliest
  earliest-is m [] = refl
  earliest-is m (x ∷ l) = ap (λ (e : Message). cond (later m e) e m) (earliest-is x l) ∙ chooses m (Theory.earliest model x l)

  others-are : (m : Message) (l : List Message) → others m l ≡ Theory.others model m l
  unfolding others Theory.others
  others-are m [] = refl
  others-are m (x ∷ l) =
      ap (λ (e : Message). cond (later m e) (m ∷ others x l) (x ∷ l)) (earliest-is x l)
      ∙ ap (λ r. cond (later m (Theory.earliest model x l)) (m ∷ r) (x ∷ l)) (others-are x l)
      ∙ leaves m (Theory.earliest model x l) (m ∷ Theory.others model x l) (x ∷ l)

  -- the bytes of a history, the newest event in front: each event's frame and the state after it
  unfoldable pub history_record : ℕ → List Message → List ℕ
  history_record i [] = []
  history_record i (m ∷ h) = history_record i h ++ record_for m (state_at n last setups i (m ∷ h))

  -- a beginning of a history is a beginning of its record
  pub record-beginning : (i : ℕ) (later h : List Message) → (rest : List ℕ) × (history_record i (later ++ h) ≡ history_record i h ++ rest)
  unfolding history_record
  record-beginning i [] h = ([], sym (append-nil (history_record i h)))
  record-beginning i (m ∷ later) h =
      let r = record-beginning i later h in
      let bytes = record_for m (state_at n last setups i (m ∷ (later ++ h))) in
      (r.0 ++ bytes, ap (λ k. k ++ bytes) r.1 ∙ append_assoc (history_record i h) r.0 bytes)

  -- a message between gateways of the forecast
  pub record Inside (m : Message) : Type 0 where
    pub to : m.to < n
    pub origin : origin_of m.kind < n

  -- the two machines are alike
  pub record Agree (q : Queue) (t : Theory.Queue Message) : Type 0 where
    pub lists : Alike model q.list t.list
    pub states : (i : ℕ) → q.states i ≡ state_at n last setups i (t.done i)
    pub records : (i : ℕ) → q.records i ≡ history_record i (t.done i)
    pub inside : All Inside q.list

  module _ (some : 1 ≤ n) (hours : last < nothing_due) (settled : (i : ℕ) → i < n → Settled n last setups i) where
    -- the model's laws
    laws : ModelLaws model
    laws = forecast_laws n last setups some settled

    -- what is sent there is what the model sends
    sends-same : (m : Message) → Inside m → (s : State) → sent (site_at setups m.to) s m ≡ sends_at n last setups m.to s m
    sends-same m h s = sym (sends-all-sent n last setups m.to h.to (settled m.to h.to) hours s m h.origin)

    sends-inside : (m : Message) → Inside m → (s : State) → All Inside (sends_at n last setups m.to s m)
    sends-inside m h s =
        all_both
        (λ x p q. record { to = omega (arith, p, h.to); origin = q })
        (laws.sends-inside m.to (omega (arith, h.to)) s m)
        (sends-origins n last setups m.to h.to (settled m.to h.to) hours s m h.origin)

    module _ (m : Message) (h : Inside m) (rest rest' : List Message) (alike : Alike model rest rest') (q : Queue) (t : Theory.Queue
        Message) (a : Agree q t) (inside : All Inside rest) where
      sends-eq : sent (site_at setups m.to) (q.states m.to) m ≡ sends_at n last setups m.to (state_at n last setups m.to (t.done m.to)) m
      sends-eq = sends-same m h (q.states m.to) ∙ ap (λ (s : State). sends_at n last setups m.to s m) (a.states m.to)

      state-after : (i : ℕ) (b : Bool) → eqb m.to i ≡ b → cond b (after (q.states m.to) m.kind) (q.states i) ≡ state_at n last
          setups i (cond b (m ∷ t.done m.to) (t.done i))
      unfolding state_after
      state-after i true e =
          subst (λ (j : ℕ). after (q.states m.to) m.kind ≡ state_at n last setups j (m ∷ t.done m.to)) (eqb-true m.to i e) (ap
          (λ (s : State). after s m.kind) (a.states m.to))
      state-after i false e = a.states i

      record-after : (i : ℕ) (b : Bool) → eqb m.to i ≡ b
          → cond b (q.records m.to ++ record_for m (after (q.states m.to) m.kind)) (q.records i) ≡ history_record i (cond b (m ∷
          t.done m.to) (t.done i))
      unfolding history_record state_after
      record-after i true e =
          subst
          (λ (j : ℕ). q.records m.to ++ record_for m (after (q.states m.to) m.kind) ≡ history_record j (m ∷ t.done m.to))
          (eqb-true m.to i e)
          (ap₂ ◌++◌ (a.records m.to) (ap (λ (s : State). record_for m (after s m.kind)) (a.states m.to)))
      record-after i false e = a.records i

      do-agrees : Agree (do_one setups m rest q) (Theory.do_next model m rest' t.done)
      unfolding do_one Theory.do_next sent_by change
      do-agrees =
          record {
            lists = λ x. omega (
              arith,
              count-append (message-eq model) x rest (sent (site_at setups m.to) (q.states m.to) m),
              count-append (message-eq model) x (sends_at n last setups m.to (state_at n last setups m.to (t.done m.to)) m) rest',
              ap (count (message-eq model) x) sends-eq,
              alike x,
            );
            states = λ i. state-after i (eqb m.to i) refl;
            records = λ i. record-after i (eqb m.to i) refl;
            inside = all_append inside (subst (All Inside) (sym sends-eq) (sends-inside m h (state_at n last setups m.to (t.done m.to))));
          }

    -- a step of each
    pub step-agrees : (q : Queue) (t : Theory.Queue Message) → Agree q t → Agree (step_on setups q q.list) (Theory.next model t.list t.done)
    unfolding step_on Theory.next
    step-agrees q t a = by-case q.list t.list refl refl a.lists a.inside
      where
        by-case : (k l : List Message) → q.list ≡ k → t.list ≡ l → Alike model k l → All Inside k → Agree (step_on setups q k) (Theory.next model l t.done)
        by-case [] [] e f b c = record { lists = λ x. ap (count (message-eq model) x) e; states = a.states; records = a.records; inside = a.inside }
        by-case [] (y ∷ l) e f b c = absurd (not_alike model y l b)
        by-case (x ∷ k) [] e f b c = absurd (not_alike model x k (λ z. sym (b z)))
        by-case (x ∷ k) (y ∷ l) e f b c =
            let first = same_first model x y k l b in
            subst
            (λ (z : Message). Agree (do_one setups z (others x k) q) (Theory.do_next model (Theory.earliest model y l) (Theory.others model y l) t.done))
            (sym (earliest-is x k ∙ first))
            (do-agrees
            (Theory.earliest model y l)
            (subst Inside first (all-taken (first_taken model x k) c))
            (others x k)
            (Theory.others model y l)
            (λ z. ap (count (message-eq model) z) (others-are x k) ∙ same-others model x y k l b z)
            q
            t
            a
            (subst (All Inside) (sym (others-are x k)) (all_rest (first_taken model x k) c)))

    steps-agree : (turns : ℕ) (q : Queue) (t : Theory.Queue Message) → Agree q t → Agree (steps setups turns q) (Theory.steps model turns t)
    unfolding steps Theory.steps
    steps-agree zero q t a = a
    steps-agree (suc turns) q t a = steps-agree turns _ _ (step-agrees q t a)

    -- what is left to do falls in each step
    weight : Message → ℕ
    weight m = suc (last - m.hour)

    turns-tally : (l : List Message) → turns_for last l ≡ tally weight l
    unfolding turns_for tally weight
    turns-tally [] = refl
    turns-tally (m ∷ l) = ap (λ (k : ℕ). suc (last - m.hour) + k) (turns-tally l)

    sent-weight : (m : Message) (l : List Message) → length l ≤ 1 → ((x : Message) → l ≡ x ∷ [] → (m.hour < x.hour) × (x.hour ≤ last)) →
        tally weight l ≤ last - m.hour
    unfolding tally weight
    sent-weight m [] h f = omega arith
    sent-weight m (x ∷ []) h f = omega (arith, (f x refl).0, (f x refl).1)
    sent-weight m (x ∷ y ∷ l) h f = absurd (omega arith)

    sends-weight : (m : Message) → Inside m → (s : State) → tally weight (sent (site_at setups m.to) s m) ≤ last - m.hour
    sends-weight m h s =
        let z = site_at setups m.to in
        sent-weight m (sent z s m) (sending z s m).one
        (λ x e. ((sending z s m).later (at_least_one _ (settled m.to h.to).hours) x e, omega (arith, (sending z s m).inside x e, (settled m.to h.to).until)))

    step_falls : (q : Queue) (x : Message) (k : List Message) → All Inside (x ∷ k) → suc (turns_for last (step_on setups q (x ∷ k)).list) ≤ turns_for last (x ∷ k)
    unfolding step_on do_one weight
    step_falls q x k c =
        let e = earliest x k in
        let inside : Inside e = subst Inside (sym (earliest-is x k)) (all-taken (first_taken model x k) c) in
        omega (
          arith,
          turns-tally (others x k ++ sent (site_at setups e.to) (q.states e.to) e),
          turns-tally (x ∷ k),
          tally-append weight (others x k) (sent (site_at setups e.to) (q.states e.to) e),
          sends-weight e inside (q.states e.to),
          tally-insert weight (first_taken model x k),
          ap weight (earliest-is x k),
          ap (tally weight) (others-are x k),
        )

    turns-cons : (x : Message) (k : List Message) → 1 ≤ turns_for last (x ∷ k)
    unfolding turns_for
    turns-cons x k = omega arith

    none_left : (q : Queue) → q.list ≡ [] → turns_for last (step_on setups q []).list ≡ 0
    unfolding step_on turns_for
    none_left q e = rw e

    pub steps-end : (turns : ℕ) (q : Queue) (t : Theory.Queue Message) → Agree q t → turns_for last q.list ≤ turns → (steps setups turns q).list ≡ []
    unfolding steps
    steps-end zero q t a h = by-case q.list h
      where
        by-case : (k : List Message) → turns_for last k ≤ 0 → k ≡ []
        by-case [] h = refl
        by-case (x ∷ k) h = absurd (omega (arith, turns-cons x k))
    steps-end (suc turns) q t a h = steps-end turns (step_on setups q q.list) (Theory.next model t.list t.done) (step-agrees q t a)
        (by-case q.list refl a.inside h)
      where
        by-case : (k : List Message) → q.list ≡ k → All Inside k → turns_for last k ≤ suc turns → turns_for last (step_on setups q k).list ≤ turns
        by-case [] e c h = omega (arith, none_left q e)
        by-case (x ∷ k) e c h = omega (arith, step_falls q x k c)

    -- where the theory's machine has ended it stays
    ended-stays : (turns i : ℕ) (t : Theory.Queue Message) → t.list ≡ [] → (Theory.steps model turns t).done i ≡ t.done i
    unfolding Theory.steps Theory.next
    ended-stays zero i t e = refl
    ended-stays (suc turns) i t e = ended-stays turns i (Theory.next model t.list t.done) (rw e) ∙ rw e

    ended_same : (j k i : ℕ) (t : Theory.Queue Message) → (Theory.steps model j t).list ≡ [] → (Theory.steps model k t).list ≡ [] →
        (Theory.steps model j t).done i ≡ (Theory.steps model k t).done i
    unfolding Theory.steps
    ended_same zero zero i t e f = refl
    ended_same zero (suc k) i t e f = sym (ended-stays (suc k) i t e)
    ended_same (suc j) zero i t e f = ended-stays (suc j) i t f
    ended_same (suc j) (suc k) i t e f = ended_same j k i (Theory.next model t.list t.done) e f

    list-ended : (q : Queue) (t : Theory.Queue Message) → Agree q t → q.list ≡ [] → t.list ≡ []
    list-ended q t a e = by-case t.list (λ x. ap (count (message-eq model) x) (sym e) ∙ a.lists x)
      where
        by-case : (l : List Message) → Alike model [] l → l ≡ []
        by-case [] b = refl
        by-case (y ∷ l) b = absurd (not_alike model y l b)

    -- the machines that begin with the opening lists
    module _ (a : Agree (opening_queue n setups) (Theory.opening_queue model)) (i : ℕ) where
      abbrev turns : ℕ
      turns = turns_for last (opening_queue n setups).list

      -- as many steps do all of the theory's single queue
      pub whole-history : (Theory.steps model turns (Theory.opening_queue model)).done i ≡ Theory.single_history model i
      unfolding Theory.single_history
      whole-history =
          let q = opening_queue n setups in
          let t = Theory.opening_queue model in
          let b = steps-agree turns q t a in
          let e = list-ended (steps setups turns q) (Theory.steps model turns t) b (steps-end turns q t a (omega arith)) in
          ended_same turns (Theory.measure model t.list) i t e (queue-ends model laws)

      -- the whole record of the single queue on bytes is that of the theory's single queue
      pub whole-record : whole_record n last setups i ≡ history_record i (Theory.single_history model i)
      unfolding whole_record
      whole-record = (steps-agree turns (opening_queue n setups) (Theory.opening_queue model) a).records i ∙ ap (history_record i) whole-history
