-- The single queue accounts for every message, and ends.
use mathlib.Core.Bool.{cond}
use mathlib.Core.List.{List, [], ◌∷◌, ◌++◌}
use mathlib.Core.Path.{◌≡◌, refl, sym, ap}
use mathlib.Core.Logic.{◌≢◌}
use Prim.Native.Nat.{ℕ, zero, suc, ◌+◌, ◌-◌, ◌≤◌, ◌<◌}
use native.Mathlib.Omega.{arith}
use native.Mathlib.Decide.{ℕ_discrete}
use lib.ListN.{length}
use Rattle.lists.specs.Lists.{All, nil, cons, Insert, here, there}
use Rattle.lists.specs.Families.{change, sum, together}
use Rattle.lists.proofs.ListLaws.{all_append, all_insert, all-taken, all_rest, all_map, all_both, all-every, count-nil, count_none, count-append, matches-other}
use Rattle.lists.proofs.FamilyLaws.{together-all, Changed, at, off, change?, sum-agree, sum-constant, change-each, sum-change}
use Rattle.event_steps.specs.Models.{Model, ModelLaws, hour, NotLater, sent_by}
use Rattle.event_steps.specs.SingleQueue.{is_not_later, Queue, earliest, others, opening_queue, do_next, next, steps, measure, single_history}
use Rattle.event_steps.proofs.OrderLaws.{Compared, sooner, later, compared, Sorted, empty, newest, order-refl, order_trans, order-hour, message-eq}
use Rattle.event_steps.proofs.EventCounts.{times, times-cons, times-insert}
use Rattle.event_steps.proofs.Addressing.{sent-one, sent-later, sent-inside, sent-due}
use Rattle.event_steps.proofs.Conservation.{sent_in, sent-cons}
use Rattle.event_steps.proofs.Uniqueness.{Accounts}

module _ (M : Model) where
  open M use {Message, key, to, last, never, opening}

  -- The first is one of them, and not later than the others.
  pub first_taken : (m : Message) (l : List Message) → Insert (earliest M m l) (others M m l) (m ∷ l)
  unfolding earliest others
  first_taken m [] = here
  first_taken m (n ∷ l) = go (compared (key m) (key (earliest M n l))) (first_taken n l)
    where
      go : Compared (key m) (key (earliest M n l)) → Insert (earliest M n l) (others M n l) (n ∷ l) → Insert (cond (is_not_later (key m) (key
          (earliest M n l))) m (earliest M n l)) (cond (is_not_later (key m) (key (earliest M n l))) (n ∷ l) (m ∷ others M n l)) (m ∷ (n ∷ l))
      go (sooner c e) i = rw e here
      go (later c e) i = rw e (there i)

  pub first-least : (m : Message) (l : List Message) → All (NotLater M (earliest M m l)) (others M m l)
  unfolding earliest others
  first-least m [] = nil
  first-least m (n ∷ l) = go (compared (key m) (key (earliest M n l))) (first-least n l)
    where
      go : Compared (key m) (key (earliest M n l)) → All (NotLater M (earliest M n l)) (others M n l) → All (NotLater M (cond (is_not_later
          (key m) (key (earliest M n l))) m (earliest M n l))) (cond (is_not_later (key m) (key (earliest M n l))) (n ∷ l) (m ∷ others M n l))
      go (sooner c e) a = rw e (all_insert (first_taken n l) c (all_map (λ y b. order_trans M m (earliest M n l) y c b) a))
      go (later c e) a = rw e (cons c a)

  -- What holds of the queue at every step.
  pub record Kept (q : Queue Message) : Type 0 where
    pub sorted : (i : ℕ) → Sorted M (q.done i)
    pub here : (i : ℕ) → All (λ m. to m ≡ i) (q.done i)
    pub done-due : (i : ℕ) → All (λ m. hour M m < never) (q.done i)
    pub up_to : (i : ℕ) → All (λ y. All (λ p. NotLater M p y) (q.done i)) q.list
    pub inside : All (λ y. to y ≤ last) q.list
    pub due : All (λ y. hour M y < never) q.list
    pub balance :
        (x : Message) →
        to x ≤ last →
        times M x (opening (to x)) + sum (suc last) (λ j. times M x (sent_in M j (q.done j))) ≡ times M x (q.done (to x)) + times M x q.list

  -- The measure of a list with a message more, and of two lists.
  measure-insert : {m : Message} {l k : List Message} → Insert m l k → measure M k ≡ (never - hour M m) + measure M l
  unfolding measure
  measure-insert here = refl
  measure-insert (there i) = omega (arith, measure-insert i)

  measure-append : (l k : List Message) → measure M (l ++ k) ≡ measure M l + measure M k
  unfolding measure
  measure-append [] k = omega arith
  measure-append (m ∷ l) k = omega (arith, measure-append l k)

  -- At most one message, later than m, weighs less than m.
  measure-later :
      (m : Message) (l : List Message) →
      hour M m < never →
      length l ≤ 1 →
      All (λ y. hour M m < hour M y) l →
      All (λ y. hour M y < never) l →
      measure M l < never - hour M m
  unfolding measure
  measure-later m [] d n a b = omega arith
  measure-later m (y ∷ []) d n (cons h a) (cons k b) = omega arith
  measure-later m (y ∷ (z ∷ l)) d n a b = absurd (omega arith)

  measure-none : (l : List Message) → All (λ y. hour M y < never) l → measure M l ≤ 0 → l ≡ []
  unfolding measure
  measure-none [] a e = refl
  measure-none (m ∷ l) (cons h a) e = absurd (omega arith)

module _ (M : Model) (laws : ModelLaws M) where
  open M use {Message, to, last, never, opening}

  module _ (m : Message) (rest list : List Message) (h : ℕ → List Message) (taken : Insert m rest list) (least : All (NotLater M m) rest) (k
      : Kept M (record { list = list; done = h })) where
    -- m is addressed to one of the gateways.
    to-gateway : to m ≤ last
    to-gateway = all-taken taken k.inside

    sent : List Message
    sent = sent_by M (to m) (h (to m)) m

    up-to-m : (i : ℕ) → All (λ p. NotLater M p m) (h i)
    up-to-m i = all-taken taken (k.up_to i)

    up-to-next : (i : ℕ) (d : List Message) → All (λ p. NotLater M p m) d → All (λ y. All (λ p. NotLater M p y) d) rest → All (λ y. All (λ
        p. NotLater M p y) d) (sent ++ rest)
    unfolding sent
    up-to-next i d a b =
        all_append
        (all_map (λ y l. all_map (λ p c. order_trans M p m y c (order-hour M m y l)) a) (sent-later M laws (to m) to-gateway (h (to m)) m))
        b

    balance-next : (x : Message) → to x ≤ last → times M x (opening (to x)) + sum (suc last) (λ j. times M x (sent_in M j (change (to m) (m ∷
        h (to m)) h j))) ≡ times M x (change (to m) (m ∷ h (to m)) h (to x)) + times M x (sent ++ rest)
    unfolding sent
    balance-next x inside = go (change? (to m) (m ∷ h (to m)) h (to x))
      where
        total : sum (suc last) (λ j. times M x (sent_in M j (change (to m) (m ∷ h (to m)) h j))) + times M x (sent_in M (to m) (h (to m))) ≡
            sum (suc last) (λ j. times M x (sent_in M j (h j))) + times M x (sent_in M (to m) (m ∷ h (to m)))
        total = sum-change (suc last) (to m) (m ∷ h (to m)) h (λ j d. times M x (sent_in M j d)) (omega (arith, to-gateway))

        go : Changed (to m) (m ∷ h (to m)) h (to x) → times M x (opening (to x)) + sum (suc last) (λ j. times M x (sent_in M j (change (to m)
            (m ∷ h (to m)) h j))) ≡ times M x (change (to m) (m ∷ h (to m)) h (to x)) + times M x (sent_by M (to m) (h (to m)) m ++ rest)
        go (at p q) =
            omega (
              arith,
              total,
              k.balance x inside,
              sent-cons M (to m) x m (h (to m)),
              times-insert M x taken,
              count-append (message-eq M) x (sent_by M (to m) (h (to m)) m) rest,
              ap (times M x) q,
              ap (λ j. times M x (h j)) p,
              times-cons M x m (h (to m)),
            )
        go (off p q) =
            omega (
              arith,
              total,
              k.balance x inside,
              sent-cons M (to m) x m (h (to m)),
              times-insert M x taken,
              count-append (message-eq M) x (sent_by M (to m) (h (to m)) m) rest,
              ap (times M x) q,
              matches-other (message-eq M) {a = x} {b = m} (λ e. p (sym (ap to e))),
            )

    kept-do : Kept M (do_next M m rest h)
    unfolding do_next sent
    kept-do =
        record {
          sorted = change-each (λ i d. Sorted M d) (to m) (m ∷ h (to m)) h (newest (up-to-m (to m)) (k.sorted (to m))) k.sorted;
          here = change-each (λ i d. All (λ y. to y ≡ i) d) (to m) (m ∷ h (to m)) h (cons refl (k.here (to m))) k.here;
          done-due =
              change-each
              (λ i d. All (λ y. hour M y < never) d)
              (to m)
              (m ∷ h (to m))
              h
              (cons (all-taken taken k.due) (k.done-due (to m)))
              k.done-due;
          up_to =
              change-each
              (λ i d. All (λ y. All (λ p. NotLater M p y) d) (sent ++ rest))
              (to m)
              (m ∷ h (to m))
              h
              (up-to-next (to m) (m ∷ h (to m)) (cons (order-refl M m) (up-to-m (to m))) (all_both (λ y a b. cons a b) least (all_rest taken
              (k.up_to (to m)))))
              (λ i. up-to-next i (h i) (up-to-m i) (all_rest taken (k.up_to i)));
          inside = all_append (sent-inside M laws (to m) to-gateway (h (to m)) m) (all_rest taken k.inside);
          due = all_append (sent-due M laws (to m) to-gateway (h (to m)) m) (all_rest taken k.due);
          balance = balance-next;
        }

  measure-do :
      (m : Message) (rest list : List Message) (h : ℕ → List Message) →
      Insert m rest list →
      to m ≤ last →
      hour M m < never →
      measure M (do_next M m rest h).list < measure M list
  unfolding do_next
  measure-do m rest list h taken inside d =
      let sent = sent_by M (to m) (h (to m)) m in
      omega (
        arith,
        measure-insert M taken,
        measure-append M sent rest,
        measure-later
            M
            m
            sent
            d
            (sent-one M laws (to m) inside (h (to m)) m)
            (sent-later M laws (to m) inside (h (to m)) m)
            (sent-due M laws (to m) inside (h (to m)) m),
      )

  kept_next : (l : List Message) (h : ℕ → List Message) → Kept M (record { list = l; done = h }) → Kept M (next M l h)
  unfolding next
  kept_next [] h k = k
  kept_next (m ∷ l) h k = kept-do (earliest M m l) (others M m l) (m ∷ l) h (first_taken M m l) (first-least M m l) k

  measure-next : (l : List Message) (h : ℕ → List Message) (n : ℕ) → Kept M (record { list = l; done = h }) → measure M l ≤ suc n → measure M
      (next M l h).list ≤ n
  unfolding next measure
  measure-next [] h n k e = omega arith
  measure-next (m ∷ l) h n k e =
      let taken = first_taken M m l in
      omega
      (arith, measure-do (earliest M m l) (others M m l) (m ∷ l) h taken (all-taken taken k.inside) (all-taken taken k.due))

  kept-steps : (n : ℕ) (q : Queue Message) → Kept M q → Kept M (steps M n q)
  unfolding steps
  kept-steps zero q k = k
  kept-steps (suc n) q k = kept-steps n (next M q.list q.done) (kept_next q.list q.done k)

  measure-steps : (n : ℕ) (q : Queue Message) → Kept M q → measure M q.list ≤ n → measure M (steps M n q).list ≤ 0
  unfolding steps
  measure-steps zero q k e = e
  measure-steps (suc n) q k e =
      measure-steps n (next M q.list q.done) (kept_next q.list q.done k) (measure-next q.list q.done n k e)

  -- All opening lists together hold what the addressee's holds.
  opening-elsewhere : (x : Message) (i : ℕ) → i ≤ last → to x ≢ i → times M x (opening i) ≡ 0
  opening-elsewhere x i inside e = count_none (message-eq M) x (laws.opening-here i inside) e

  together-none : (x : Message) (n : ℕ) → n ≤ suc last → n ≤ to x → times M x (together n opening) ≡ 0
  unfolding together
  together-none x zero inside e = count-nil (message-eq M) x
  together-none x (suc n) inside e =
      omega (
        arith,
        count-append (message-eq M) x (together n opening) (opening n),
        together-none x n (omega arith) (omega arith),
        opening-elsewhere x n (omega arith) (omega arith),
      )

  together-times : (x : Message) (n : ℕ) → n ≤ suc last → to x < n → times M x (together n opening) ≡ times M x (opening (to x))
  unfolding together
  together-times x zero inside e = absurd (omega arith)
  together-times x (suc n) inside e = go (ℕ_discrete (to x) n) (together-times x n (omega arith))
    where
      go : Dec (to x ≡ n) → (to x < n → times M x (together n opening) ≡ times M x (opening (to x))) → times M x (together n opening ++
          opening n) ≡ times M x (opening (to x))
      go (yes p) ih =
          omega (
            arith,
            count-append (message-eq M) x (together n opening) (opening n),
            together-none x n (omega arith) (omega arith),
            ap (λ i. times M x (opening i)) p,
          )
      go (no p) ih =
          omega (
            arith,
            count-append (message-eq M) x (together n opening) (opening n),
            ih (omega arith),
            opening-elsewhere x n (omega arith) p,
          )

  kept-opening : Kept M (opening_queue M)
  unfolding opening_queue sent_in hour
  kept-opening =
      record {
        sorted = λ i. empty;
        here = λ i. nil;
        done-due = λ i. nil;
        up_to = λ i. all-every (λ y. nil) _;
        inside = together-all (suc last) opening (λ i e. all_map (λ y p. omega arith) (laws.opening-here i (omega arith)));
        due = together-all (suc last) opening (λ i e. laws.opening-due i (omega arith));
        balance =
            λ x e. omega (
              arith,
              together-times x (suc last) (omega arith) (omega arith),
              count-nil (message-eq M) x,
              sum-agree (suc last) (λ k. times M x []) (λ k. 0) (λ k l. count-nil (message-eq M) x),
              sum-constant (suc last) 0,
            );
      }

  -- Where it ends.
  final : Queue Message
  final = steps M (measure M (opening_queue M).list) (opening_queue M)

  final-kept : Kept M final
  unfolding final
  final-kept = kept-steps (measure M (opening_queue M).list) (opening_queue M) kept-opening

  -- The single queue ends: nothing is left in its list.
  pub queue-ends : (steps M (measure M (opening_queue M).list) (opening_queue M)).list ≡ []
  unfolding final
  queue-ends = measure-none M _ final-kept.due (measure-steps (measure M (opening_queue M).list) (opening_queue M) kept-opening (omega arith))

  -- So its histories account for every message.
  pub queue-accounts : (t : ℕ) → Accounts M t (single_history M)
  unfolding single_history final
  queue-accounts t =
      record {
        sorted = final-kept.sorted;
        here = λ i inside. final-kept.here i;
        balance =
            λ x inside e. omega
            (arith, final-kept.balance x inside, ap (times M x) queue-ends, count-nil (message-eq M) x);
      }

  pub queue-due : (i : ℕ) → All (λ m. hour M m < never) (single_history M i)
  unfolding single_history final
  queue-due = final-kept.done-due
