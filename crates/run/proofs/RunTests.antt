-- Tests that go through a run once, and what holds of a run that passes them.
use mathlib.Core.Path.{◌≡◌, refl, ap}
use Prim.Native.Nat.{ℕ, zero, suc, ◌<◌}
use native.Mathlib.Omega.{arith}
use mathlib.Core.Bool.{Bool, true, false, cond, not, ◌&&◌, ◌||◌, false≢true}
use mathlib.Core.List.{List, [], ◌∷◌}
use lib.Dec.{leb, ltb, eqb}
use lib.ListN.{length}
use borrow.Author.Tests.{leb-true, ltb-true, eqb-true, eq-eqb, ne_eqb}
use Rattle.lists.specs.Lists.{any}
use Rattle.lists.proofs.BoolLaws.{and_left, and_right}
use Rattle.lists.proofs.FamilyLaws.{Same, same, other, same?}
use Rattle.buffer.specs.Slice.{Bytes, same_bytes}
use Rattle.buffer.proofs.Equality.{same_bytes_lem}
use Rattle.frame.specs.Writing.{all_between}
use Rattle.frame.specs.Limits.{nothing_due}
use Rattle.gateway.specs.Calls.{taken, committed, set_up}
use Rattle.run.specs.Forecast.{SetUpInput, Forecast}
use Rattle.run.specs.World.{World, Carried, Rounds, Call, works, takes, starts, commits, sets_up, frames_in, is_frame, after_taking, with_memory}
use Rattle.run.specs.World.{after_call, after_calls, opening_world, Allowed, AllAllowed}
use Rattle.run.specs.Demand3.{agreed, Completed}
use Rattle.run.specs.ExampleRun.{world_at_end, WholeRun}
use Rattle.run.specs.RunExamples.{seen_along}

-- every number below n passes
every_below : ℕ → (ℕ → Bool) → Bool
every_below zero f = true
every_below (suc n) f = every_below n f && f n

each_below : (n : ℕ) (f : ℕ → Bool) → every_below n f ≡ true → (i : ℕ) → i < n → f i ≡ true
unfolding every_below
each_below zero f h i l = absurd (omega arith)
each_below (suc n) f h i l = by-case (same? i n) (each_below n f (and_left (every_below n f) (f n) h) i)
  where
    by-case : Same i n → (i < n → f i ≡ true) → f i ≡ true
    by-case (same e t) before = rw e (and_right (every_below n f) (f n) h)
    by-case (other e t) before = before (omega arith)

-- the parts of a test that passes
ruleset parts = (and_left, and_right)

-- one of two tests passes, and not the first
or_else : (a b : Bool) → (a || b) ≡ true → a ≡ false → b ≡ true
or_else a b h e = rw e at h

-- bytes of a list
bytes-by : (l : List ℕ) → all_between 0 255 l ≡ true → Bytes l
unfolding all_between
bytes-by [] h i = omega arith
bytes-by (b ∷ l) h zero = omega (arith, leb-true b 255 (search parts))
bytes-by (b ∷ l) h (suc i) = bytes-by l (search parts) i

-- gateway i is set up with that N and last hour and its own number, its memory and its opening list are bytes, and it is accepted
is_set_up : ℕ → ℕ → (ℕ → SetUpInput) → (ℕ → List ℕ) → ℕ → Bool
is_set_up n last setups lent i =
    eqb (setups i).opening.n n && eqb (setups i).opening.own i && eqb (setups i).opening.last last
    && all_between 0 255 (lent i) && all_between 0 255 (setups i).list
    && eqb (set_up (setups i).opening (setups i).list (lent i)).answer.number 0

-- a forecast
unfoldable pub is_forecast : ℕ → ℕ → (ℕ → SetUpInput) → (ℕ → List ℕ) → Bool
unfolding is_set_up every_below
is_forecast n last setups lent = leb 1 n && leb n 255 && every_below n (is_set_up n last setups lent)

-- what a test that passes says
ruleset told = (parts, leb-true, eqb-true, bytes-by)

pub forecast-by : (n last : ℕ) (setups : ℕ → SetUpInput) (lent : ℕ → List ℕ) → is_forecast n last setups lent ≡ true → Forecast n last setups lent
unfolding is_forecast
forecast-by n last setups lent h =
    record {
      some = search told;
      most = search told;
      gateways = λ i l. let p = at i l in search told;
      numbers = λ i l. let p = at i l in search told;
      one_last = λ i l. let p = at i l in search told;
      bytes = λ i l. let p = at i l in (bytes-by (lent i) (search parts), bytes-by (setups i).list (search parts));
      accepted = λ i l. let p = at i l in search told;
    }
  where
    at : (i : ℕ) → i < n → is_set_up n last setups lent i ≡ true
    at = each_below n (is_set_up n last setups lent) (search parts)

-- whether a call may stand in the list, and the world after it; a frame is taken once for both
examined : ℕ → World → Call → Bool × World
examined n w (works i b output) = (ltb i n, after_call n w (works i b output))
examined n w (takes i frame output) =
    let r = taken (w.memories i) frame output in
    let accepted = eqb r.answer.number 0 in (
      ltb i n && all_between 0 255 frame && cond accepted (any (is_frame frame) w.under_way) true,
      cond accepted (after_taking n i frame r.memory (frames_in r.answer.written r.output) w) (with_memory i r.memory w),
    )
examined n w (starts i output) = (ltb i n, after_call n w (starts i output))
examined n w (commits i output) = (ltb i n, after_call n w (commits i output))
examined n w (sets_up i opening list) = (
  ltb i n && not (eqb (set_up opening list (w.memories i)).answer.number 0),
  after_call n w (sets_up i opening list),
)

allowed-by : (n : ℕ) (w : World) (c : Call) → (examined n w c).0 ≡ true → Allowed n w c
unfolding examined
allowed-by n w (works i b output) h = ltb-true i n h
allowed-by n w (takes i frame output) h = (
  ltb-true i n (search parts),
  bytes-by frame (search parts),
  λ e. let k = rw (eq-eqb _ _ e) at h in search parts,
)
allowed-by n w (starts i output) h = ltb-true i n h
allowed-by n w (commits i output) h = ltb-true i n h
allowed-by n w (sets_up i opening list) h = (
  ltb-true i n (search parts),
  λ e. absurd (false≢true (and_right (ltb i n) false (rw (eq-eqb _ _ e) at h))),
)

is-after : (n : ℕ) (w : World) (c : Call) → (examined n w c).1 ≡ after_call n w c
unfolding examined after_call
is-after n w (works i b output) = refl
is-after n w (takes i frame output) = refl
is-after n w (starts i output) = refl
is-after n w (commits i output) = refl
is-after n w (sets_up i opening list) = refl

-- every call of a list may stand in it, and the world after them passes
leads_to : ℕ → World → List Call → (World → Bool) → Bool
unfolding examined
leads_to n w [] end = end w
leads_to n w (c ∷ cs) end = let e = examined n w c in e.0 && leads_to n e.1 cs end

led : (n : ℕ) (w : World) (cs : List Call) (end : World → Bool) → leads_to n w cs end ≡ true → AllAllowed n w cs × (end (after_calls n w cs) ≡ true)
unfolding leads_to after_calls
led n w [] end h = (tt, h)
led n w (c ∷ cs) end h =
    let r = led n (after_call n w c) cs end (rw (is-after n w c) at (and_right (examined n w c).0 (leads_to n (examined n w c).1 cs end) h)) in
    ((allowed-by n w c (search parts), r.0), r.1)

-- what is seen of a world, and of the one after each call as long as the calls may stand in the list
unfoldable pub walked : {A : Type 0} → (World → A) → ℕ → World → List Call → List A
unfolding examined
walked look n w [] = look w ∷ []
walked look n w (c ∷ cs) =
    let e = examined n w c in
    let rest = walked look n e.1 cs in
    look w ∷ cond e.0 rest []

-- where that is seen after the last call too, they all may
pub walked_through : {A : Type 0} (look : World → A) (n : ℕ) (w : World) (cs : List Call) → length (walked look n w cs) ≡ suc (length cs)
    → AllAllowed n w cs × (seen_along look n w cs ≡ walked look n w cs)
unfolding walked seen_along
walked_through look n w [] h = (tt, refl)
walked_through {A} look n w (c ∷ cs) h = by-case (examined n w c).0 refl (walked_through look n (after_call n w c) cs)
  where
    Through : World → List Call → Type 0
    Through v ds = AllAllowed n v ds × (seen_along look n v ds ≡ walked look n v ds)

    by-case : (t : Bool) → (examined n w c).0 ≡ t → (length (walked look n (after_call n w c) cs) ≡ suc (length cs) → Through (after_call n w c) cs)
        → Through w (c ∷ cs)
    by-case true p next =
        let k = rw (p, is-after n w c) at h in
        let r = next (omega arith) in
        ((allowed-by n w c p, r.0), rw (p, is-after n w c) (ap (λ (l : List A). look w ∷ l) r.1))
    by-case false p next = let k = rw p at h in absurd (omega arith)

-- round t is completed
unfoldable pub is_completed : ℕ → Rounds → ℕ → Bool
unfolding every_below
is_completed n r t = r.closed t && every_below n (λ i. eqb i 0 || r.accepted t i)

pub completed-by : (n : ℕ) (r : Rounds) (t : ℕ) → is_completed n r t ≡ true → Completed n r t
unfolding is_completed
completed-by n r t h =
    record {
      is_closed = search parts;
      all_accepted = λ i p l. or_else (eqb i 0) (r.accepted t i) (each_below n (λ k. eqb k 0 || r.accepted t k) (search parts) i l) (ne_eqb i 0 (omega arith));
    }

-- gateway i has come to its end with that record: nothing is due, and nothing left to commit
is_at_end : World → (ℕ → List ℕ) → ℕ → Bool
is_at_end w records i =
    eqb (agreed w i) nothing_due && eqb (committed (w.memories i) []).answer.number 6 && same_bytes (w.records i) (records i)

-- a list of length 0
is-empty : (l : List Carried) → length l ≡ 0 → l ≡ []
is-empty [] h = refl
is-empty (c ∷ cs) h = absurd (omega (arith, h))

-- the world at the end of a whole run
is_end : ℕ → (ℕ → List ℕ) → ℕ → World → Bool
unfolding is_at_end is_completed
is_end n records messages w =
    eqb (length w.under_way) 0 && every_below n (is_at_end w records) && is_completed n w.rounds 1 && eqb (w.rounds.took 1) messages

module _ (n last : ℕ) (setups : ℕ → SetUpInput) (lent : ℕ → List ℕ) (calls : List Call) (records : ℕ → List ℕ) (messages : ℕ) where
  -- a whole run, whose end passes one more test
  unfoldable pub is_whole_run : (World → Bool) → Bool
  unfolding is_forecast leads_to is_end
  is_whole_run more = is_forecast n last setups lent && leads_to n (opening_world setups lent) calls (λ w. is_end n records messages w && more w)

  module _ (more : World → Bool) (h : is_whole_run more ≡ true) where
    -- the world at the end passes both
    both : (is_end n records messages (world_at_end n last setups lent calls) && more (world_at_end n last setups lent calls)) ≡ true
    unfolding is_whole_run world_at_end
    both = (led n (opening_world setups lent) calls (λ w. is_end n records messages w && more w) (search parts)).1

    pub more_by : more (world_at_end n last setups lent calls) ≡ true
    more_by = let b = both in search parts

    at-end : (i : ℕ) → i < n → is_at_end (world_at_end n last setups lent calls) records i ≡ true
    unfolding is_end
    at-end = let b = both in each_below n (is_at_end (world_at_end n last setups lent calls) records) (search parts)

    pub whole-run-by : WholeRun n last setups lent calls records messages
    unfolding is_whole_run
    whole-run-by =
        let b = both in
        record {
          forecast = forecast-by n last setups lent (search parts);
          allowed = (led n (opening_world setups lent) calls (λ w. is_end n records messages w && more w) (search parts)).0;
          nothing_under_way = is-empty (world_at_end n last setups lent calls).under_way (search told);
          nothing_is_due = λ i l. let p = at-end i l in search told;
          nothing_left = λ i l. let p = at-end i l in ([], search told);
          whole = λ i l. let p = at-end i l in same_bytes_lem _ (records i) (search parts);
          completed = completed-by n (world_at_end n last setups lent calls).rounds 1 (search parts);
          took = search told;
        }
