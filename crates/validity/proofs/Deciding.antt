-- The tests of validity, a law for each branch of the code that makes them where a chain of tests does not say it.
use mathlib.Core.Path.{◌≡◌, ◌∙◌, ap}
use Prim.Native.Nat.{ℕ}
use mathlib.Core.List.{List}
use lib.ListN.{length}
use mathlib.Core.Bool.{Bool, true, false}
use lib.Dec.{leb}
use borrow.Author.Tests.{eq-eqb, ne_eqb}
use Rattle.routing.specs.Arcs.{from, to}
use Rattle.model.specs.declared.Message.{Message}
use Rattle.frame.specs.Writing.{well_formed}
use Rattle.frame.specs.declared.Frame.{Frame}
use Rattle.memory.specs.Validity.{one_of_two, arrivals_possible, round_possible, is_waiting, frame_if, storable}
use Rattle.memory.specs.declared.Settings.{Settings}
use Rattle.memory.specs.declared.Round.{Round}
use Rattle.memory.specs.declared.Entry.{Entry}
use Rattle.memory.specs.declared.Phase.{Phase}
use Rattle.memory.specs.declared.Phase.TheVariants.{Idle, Counting, Stopped}

-- arrivals by phase
module _ (arrived froms tos : ℕ) {phase : Phase} where
  pub idle-none : phase ≡ Idle → arrived ≡ 0 → true ≡ arrivals_possible arrived froms tos phase
  idle-none p h = rw (p, eq-eqb arrived 0 h)

  pub idle-one-arc : phase ≡ Idle → (arrived ≡ 0 → ⊥) → (froms ≡ 2 → ⊥) → false ≡ arrivals_possible arrived froms tos phase
  idle-one-arc p h k = rw (p, ne_eqb arrived 0 h, ne_eqb froms 2 k)

  pub idle-some : {r : Bool} → phase ≡ Idle → (arrived ≡ 0 → ⊥) → froms ≡ 2 → r ≡ one_of_two arrived → r ≡ arrivals_possible arrived froms tos phase
  idle-some p h k e = e ∙ rw (p, ne_eqb arrived 0 h, eq-eqb froms 2 k)

  pub counting-some : phase ≡ Counting → (arrived ≡ 0 → ⊥) → false ≡ arrivals_possible arrived froms tos phase
  counting-some p h = rw (p, ne_eqb arrived 0 h)

  pub counting-none : phase ≡ Counting → arrived ≡ 0 → leb 1 tos ≡ arrivals_possible arrived froms tos phase
  counting-none p h = rw (p, eq-eqb arrived 0 h)

  pub stopped-one-arc : phase ≡ Stopped → (tos ≡ 2 → ⊥) → false ≡ arrivals_possible arrived froms tos phase
  stopped-one-arc p h = rw (p, ne_eqb tos 2 h)

  pub stopped-some : {r : Bool} → phase ≡ Stopped → tos ≡ 2 → r ≡ one_of_two arrived → r ≡ arrivals_possible arrived froms tos phase
  stopped-some p h e = e ∙ rw (p, eq-eqb tos 2 h)

-- the arcs that routing gives
pub round-decided : (s : Settings) (round : Round) {n froms tos : ℕ} {f t : List ℕ} {r : Bool} → n ≡ s.n → f ≡ from n s.own → froms ≡ length f
    → t ≡ to n s.own → tos ≡ length t → r ≡ arrivals_possible round.arrived froms tos round.phase → r ≡ round_possible s round
unfolding round_possible
round-decided s round n f k t l e = e ∙ rw (k, f, l, t, n)

-- the form of a message as the frame that it was made into
pub formed-as : (cancel : Bool) (m : Message) {f : Frame} {x : Bool} → f ≡ frame_if cancel m → x ≡ well_formed f → x ≡ well_formed (frame_if cancel m)
formed-as cancel m p q = q ∙ ap well_formed p

-- a queued message is a cancel where it waits
pub stored-as : (s : Settings) (e : Entry) {waits x : Bool} → waits ≡ is_waiting e → x ≡ storable s waits e.message → x ≡ storable s
    (is_waiting e) e.message
stored-as s e p q = q ∙ ap (λ (w : Bool). storable s w e.message) p
