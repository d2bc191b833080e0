-- Frames of events and acknowledgments beside the rounds: none of them is one of a round, and none counts for one.
use mathlib.Core.Path.{◌≡◌, refl, ◌∙◌, ap}
use mathlib.Core.Bool.{Bool, true, false, cond, ◌&&◌}
use mathlib.Core.List.{List, [], ◌++◌, map, append-nil}
use Prim.Native.Nat.{ℕ, ◌+◌, ◌-◌, ◌<◌}
use native.Mathlib.Omega.{arith}
use lib.Dec.{eqb}
use borrow.Author.Tests.{eqb-true, ne_eqb}
use Rattle.lists.specs.Lists.{without_first, All, nil, cons}
use Rattle.lists.specs.Families.{change}
use Rattle.lists.proofs.ListLaws.{all_map}
use Rattle.model.specs.Messages.{kind_number}
use Rattle.model.specs.declared.Message.{Message}
use Rattle.model.specs.declared.Kind.{Kind}
use Rattle.model.specs.declared.Kind.TheVariants.{Failure, Request, Delivery, Restock, Start, Lvt, Update}
use Rattle.frame.specs.Reasons.{frame_read}
use Rattle.frame.specs.Writing.{written}
use Rattle.frame.specs.declared.Frame.{Frame}
use Rattle.run.specs.World.{Carried, Rounds, carry, is_frame, kind_in, round_frames, took_more}
use Rattle.run.proofs.ArrivalBits.{one_if}
use Rattle.run.proofs.RoundsUnderWay.{by_kind, round_of, rounds_in, rounds-append, tagged, round-left, Numbered, carried-more}
use Rattle.run.proofs.RoundForms.{counts}
use Rattle.run.proofs.PassingFrames.{Passing}
use Rattle.run.proofs.ReadableFrames.{EventFrame}

-- a kind below 4 is none of a round
no-round : (t : ℕ) (m : Message) (kind : Kind) → kind_number kind < 4 → by_kind t m kind ≡ []
no-round t m (Failure origin) h = refl
no-round t m (Request origin) h = refl
no-round t m (Delivery origin) h = refl
no-round t m (Restock quantity) h = refl
no-round t m Start h = absurd (omega arith)
no-round t m Lvt h = absurd (omega arith)
no-round t m Update h = absurd (omega arith)

none_written : (tag : ℕ) {n last : ℕ} {fs : List Frame} → All (EventFrame n last) fs → rounds_in (map (tagged tag) (map written fs)) ≡ []
unfolding rounds_in
none_written tag nil = refl
none_written tag (cons {a = f} e a) =
    ap (λ l. round_of (tag - 1) (frame_read (written f)) ++ l) (none_written tag a)
    ∙ append-nil (round_of (tag - 1) (frame_read (written f)))
    ∙ ap (round_of (tag - 1)) e.readable
    ∙ no-round (tag - 1) f.message f.message.kind (omega (arith, e.kind))

-- the frames of rounds that are under way stay the same when such frames are put under way
pub rounds-still : (tag : ℕ) {n last : ℕ} {fs : List Frame} → All (EventFrame n last) fs → (cs : List Carried) → rounds_in (carry tag (map
    written fs) cs) ≡ rounds_in cs
rounds-still tag {fs} a cs =
    rounds-append cs (map (tagged tag) (map written fs))
    ∙ ap (λ l. rounds_in cs ++ l) (none_written tag a)
    ∙ append-nil (rounds_in cs)

-- and when one is taken
pub rounds-left : (frame : List ℕ) (cs : List Carried) → kind_in frame < 4 → rounds_in (without_first (is_frame frame) cs) ≡ rounds_in cs
rounds-left frame cs h = round-left frame cs (λ t. no-round t (frame_read frame).message (frame_read frame).message.kind h)

-- none counts for a round
not-counted : (is_open : Bool) (kind : Kind) → kind_number kind < 4 → counts is_open kind ≡ false
not-counted is_open kind h =
    rw (
      ne_eqb (kind_number kind) 6 (λ e. omega arith),
      ne_eqb (kind_number kind) 4 (λ e. omega arith),
      ne_eqb (kind_number kind) 5 (λ e. omega
          arith),
    ) (by-case is_open)
  where
    by-case : (b : Bool) → (b && false) ≡ false
    by-case true = refl
    by-case false = refl

pub none-counted : (is_open : Bool) {n last : ℕ} {fs : List Frame} → All (EventFrame n last) fs → round_frames is_open (map written fs) ≡ 0
unfolding round_frames
none-counted is_open nil = refl
none-counted is_open (cons {a = f} e a) =
    omega (
      arith,
      ap one_if (ap (λ (x : Frame). counts is_open x.message.kind) e.readable ∙ not-counted is_open f.message.kind (omega (arith, e.kind))),
      none-counted is_open a,
    )

-- a round that took no frame more
pub took-none : (tag : ℕ) (r : Rounds) → took_more tag 0 r ≡ r
unfolding change
took-none tag r = λ k. record { opened = r.opened; open? = r.open?; lvts = r.lvts; took = λ t. same t k; closed = r.closed; accepted = r.accepted }
  where
    by-case : (t : ℕ) (b : Bool) → eqb tag t ≡ b → cond b (r.took tag + 0) (r.took t) ≡ r.took t
    by-case t true e = omega (arith, ap r.took (eqb-true tag t e))
    by-case t false e = refl

    same : (t : ℕ) → cond (eqb tag t) (r.took tag + 0) (r.took t) ≡ r.took t
    same t = by-case t (eqb tag t) refl

-- none needs the number of a round
pub numbered-still : (tag : ℕ) {n last : ℕ} {fs : List Frame} → All (EventFrame n last) fs → {cs : List Carried} → All Numbered cs → All
    Numbered (carry tag (map written fs) cs)
numbered-still tag a b = carried-more tag (all_map (λ f e k. absurd (omega (
  arith,
  e.kind,
  ap (λ (x : Frame). kind_number
      x.message.kind) e.readable,
))) a) b

-- each passes
pub passing-still : (tag : ℕ) {n last : ℕ} {fs : List Frame} → All (EventFrame n last) fs → {cs : List Carried} → All (λ c. Passing n last
    c.frame) cs → All (λ c. Passing n last c.frame) (carry tag (map written fs) cs)
passing-still tag a b = carried-more tag (all_map (λ f e. e.passing) a) b
