-- Whole rounds by computation, of one gateway, of two and of four.

use mathlib.Core.Path.{◌≡◌, refl}
use Prim.Native.Nat.{ℕ, zero, suc, ◌≤◌, ◌<◌, min, max}
use native.Mathlib.Decide.{ℕ_discrete}
use native.Mathlib.Omega.{arith}
use Rattle.routing.specs.Arcs.{children}
use Rattle.lists.specs.Lists.{nil, cons, here, there, tally, matches, count}
use Rattle.lists.specs.Families.{change, put}
use Rattle.round_steps.specs.Arcs.{Graph}
use Rattle.round_steps.specs.RoundSteps.{Rounds, opening, raise, noted, lower, begin, hear, stop, take_lvt, finish, close, take_update}
use Rattle.round_steps.specs.RoundSteps.{as-it-starts, at-an-lvt, RoundStep, begins, hears, stops, takes-lvt, finishes, closes}
use Rattle.round_steps.specs.RoundSteps.{takes-update, Completed}
use Rattle.timewarp.proofs.SmallGraphs.{single, two, to_of_two, from_of_two, four, to_of_four, from_of_four}
use Rattle.round_steps.proofs.RoundCarried.{all-to, all_from}

-- the queues of the examples are read as the steps say
abbrev Any : ℕ → ℕ → Type 0
Any i v = Unit {0}

-- a step of a round, or a message sent meanwhile
data Step (G : Graph) (r : Rounds) : Rounds → Type 0 where
  round : {q : Rounds} → RoundStep G Any Any r q → Step G r q
  send : (i h : ℕ) → Step G r (lower i h r)

-- a chain of them
infixl 10 ◌then◌
data Run (G : Graph) (r : Rounds) : Rounds → Type 0 where
  ready : Run G r r
  ◌then◌ : {q p : Rounds} → Run G r q → Step G q p → Run G r p

-- A round of one gateway: begin, stop, close, and no frame.
round-of-one : (o w : ℕ) → (r : Rounds) × Run single opening r
unfolding begin stop opening change single tally count
round-of-one o w = (
  _,
  ready
      then round (begins 0 o (omega arith) refl (all_from single 0 nil) tt)
      then round (stops 0 w (omega arith) refl (as-it-starts refl) tt)
      then round (closes refl (all-to single 0 nil)),
)

agreed-of-one : (o w : ℕ) → (round-of-one o w).0.agreed 0 ≡ min o w
unfolding round-of-one begin stop close opening change
agreed-of-one o w = refl

-- A round of two gateways. The least hours outstanding before the round are o at 0 and p at 1, the least due v at 0 and
-- w at 1; and 1 sends a message of hour h between its start and its stop.
round-of-two : (o v p h w : ℕ) → (r : Rounds) × Run two opening r
unfolding begin hear stop finish take_lvt close lower noted opening change put raise two to_of_two from_of_two children tally matches count ℕ_discrete
round-of-two o v p h w = (
  _,
  ready
      then round (begins 0 o (omega arith) refl (all_from two 0 nil) tt)
      then round (hears 0 1 0 here)
      then round (begins 1 p (omega arith) refl (all_from two 1 (cons refl nil)) tt)
      then send 1 h
      then round (stops 1 w (omega arith) refl (as-it-starts refl) tt)
      then round (finishes 1 (omega arith) (omega arith) refl (all-to two 1 nil))
      then round (stops 0 v (omega arith) refl (at-an-lvt here) tt)
      then round (takes-lvt 1 0 0 (min (min p h) w) refl here)
      then round (closes refl (all-to two 0 (cons refl nil)))
      then round (takes-update 0 1 0 (min (min o v) (min (min p h) w)) here),
)

-- both gateways agree on the least of all five
agreed-of-two : (o v p h w : ℕ)
    → ((round-of-two o v p h w).0.agreed 0 ≡ min (min o v) (min (min p h) w))
    × ((round-of-two o v p h w).0.agreed 1 ≡ max 0 (min (min o v) (min (min p h) w)))
    × ((round-of-two o v p h w).0.written 0 ≡ 3)
unfolding round-of-two begin hear stop finish take_lvt close take_update lower noted opening change put raise two to_of_two from_of_two children
agreed-of-two o v p h w = (refl, refl, refl)

-- Hours 7 and 9 are due, 99 is nothing due: without messages under way 7 is agreed.
nothing-sent : (round-of-two 99 7 99 99 9).0.agreed 0 ≡ 7
unfolding round-of-two begin hear stop finish take_lvt close take_update lower noted opening change put raise two to_of_two from_of_two children
nothing-sent = refl

-- a message of hour 5, sent by 1 before the round and not acknowledged
sent-before : (round-of-two 99 7 5 99 9).0.agreed 0 ≡ 5
unfolding round-of-two begin hear stop finish take_lvt close take_update lower noted opening change put raise two to_of_two from_of_two children
sent-before = refl

-- a message of hour 6, sent by 1 between its start and its stop
sent-between : (round-of-two 99 7 99 6 9).0.agreed 0 ≡ 6
unfolding round-of-two begin hear stop finish take_lvt close take_update lower noted opening change put raise two to_of_two from_of_two children
sent-between = refl

-- A round of four gateways, with nothing outstanding (n is nothing due) and a, b, c, d the least due hours: gateway 3
-- begins when both its Starts have come, gateway 0 closes when both its Lvts have.
round-of-four : (n a b c d : ℕ) → (r : Rounds) × Run four opening r
unfolding begin hear stop finish take_lvt close take_update opening change put raise four to_of_four from_of_four children tally matches count ℕ_discrete
round-of-four n a b c d = (
  _,
  ready
      then round (begins 0 n (omega arith) refl (all_from four 0 nil) tt)
      then round (hears 0 1 0 here)
      then round (begins 1 n (omega arith) refl (all_from four 1 (cons refl nil)) tt)
      then round (hears 0 2 0 here)
      then round (begins 2 n (omega arith) refl (all_from four 2 (cons refl nil)) tt)
      then round (hears 1 3 0 here)
      then round (hears 2 3 0 here)
      then round (begins 3 n (omega arith) refl (all_from four 3 (cons refl (cons refl nil))) tt)
      then round (stops 3 d (omega arith) refl (as-it-starts refl) tt)
      then round (finishes 3 (omega arith) (omega arith) refl (all-to four 3 nil))
      then round (stops 1 b (omega arith) refl (at-an-lvt here) tt)
      then round (takes-lvt 3 1 0 (m3) refl here)
      then round (finishes 1 (omega arith) (omega arith) refl (all-to four 1 (cons refl nil)))
      then round (stops 0 a (omega arith) refl (at-an-lvt (there here)) tt)
      then round (takes-lvt 1 0 0 (m1) refl (there here))
      then round (stops 2 c (omega arith) refl (at-an-lvt here) tt)
      then round (takes-lvt 3 2 0 (m3) refl here)
      then round (finishes 2 (omega arith) (omega arith) refl (all-to four 2 (cons refl nil)))
      then round (takes-lvt 2 0 0 (m2) refl here)
      then round (closes refl (all-to four 0 (cons refl (cons refl nil))))
      then round (takes-update 0 1 0 (m0) here)
      then round (takes-update 0 2 0 (m0) here)
      then round (takes-update 1 3 0 (m0) here),
)
  where
    m3 : ℕ
    m3 = min n d

    m1 : ℕ
    m1 = min (min n b) m3

    m2 : ℕ
    m2 = min (min n c) m3

    m0 : ℕ
    m0 = min (min (min n a) m1) m2

agreed-of-four : (n a b c d : ℕ)
    → ((round-of-four n a b c d).0.agreed 0 ≡ min (min (min n a) (min (min n b) (min n d))) (min (min n c) (min n d)))
    × ((round-of-four n a b c d).0.written 0 ≡ 11)
unfolding round-of-four begin hear stop finish take_lvt close take_update opening change put raise four to_of_four from_of_four children
agreed-of-four n a b c d = (refl, refl)

-- that round is completed
completed-of-four : (n a b c d : ℕ) → Completed four (round-of-four n a b c d).0 0
unfolding round-of-four begin hear stop finish take_lvt close take_update opening change put raise four to_of_four from_of_four children
completed-of-four n a b c d = record { is-closed = omega arith; all-accepted = accepted-by }
  where
    accepted-by : (j : ℕ) → 0 < j → j ≤ 3 → 1 ≤ (round-of-four n a b c d).0.accepted 0 j
    accepted-by zero p l = absurd (omega arith)
    accepted-by (suc zero) p l = omega arith
    accepted-by (suc (suc zero)) p l = omega arith
    accepted-by (suc (suc (suc zero))) p l = omega arith
    accepted-by (suc (suc (suc (suc j)))) p l = absurd (omega arith)
