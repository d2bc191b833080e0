-- How long a frame of each form is, and how long any frame is at least and at most.
use mathlib.Core.Path.{◌≡◌, refl, ◌∙◌}
use mathlib.Core.Bool.{Bool, true, false, cond}
use Prim.Native.Nat.{ℕ, ◌+◌, ◌≤◌, ◌<◌}
use native.Mathlib.Omega.{arith}
use lib.Dec.{leb}
use lib.ListN.{length}
use borrow.Author.Tests.{le-leb}
use Rattle.model.specs.Messages.{kind_number}
use Rattle.model.specs.declared.Kind.{Kind}
use Rattle.model.specs.declared.Kind.TheVariants.{Failure, Request, Delivery, Restock, Start, Lvt, Update}
use Rattle.frame.specs.Layout.{whole_length}
use Rattle.frame.specs.Kinds.{map_of, map_of_kind, sense_number}
use Rattle.frame.specs.Writing.{written}
use Rattle.frame.specs.declared.Frame.{Frame}
use Rattle.frame.proofs.Output.{whole-size}
use Rattle.frame.proofs.Branches.{lamp-map}

-- a plain message's whole length by its kind: one with a lamp, a Restock, a Start, an Lvt or an Update
module _ (kind : Kind) where
  pub plain-length : kind_number kind ≤ 2 → whole_length (map_of_kind (kind_number kind)) ≡ 27
  unfolding whole_length
  plain-length h = rw (lamp-map (kind_number kind) h)

  pub restock-length : kind_number kind ≡ 3 → whole_length (map_of_kind (kind_number kind)) ≡ 10
  unfolding whole_length map_of_kind
  restock-length e = rw e

  pub start-length : kind_number kind ≡ 4 → whole_length (map_of_kind (kind_number kind)) ≡ 4
  unfolding whole_length map_of_kind
  start-length e = rw e

pub lvt-length : (kind : Kind) → 4 < kind_number kind → whole_length (map_of_kind (kind_number kind)) ≡ 8
unfolding whole_length map_of_kind
lvt-length (Failure origin) h = absurd (omega arith)
lvt-length (Request origin) h = absurd (omega arith)
lvt-length (Delivery origin) h = absurd (omega arith)
lvt-length (Restock quantity) h = absurd (omega arith)
lvt-length Start h = absurd (omega arith)
lvt-length Lvt h = refl
lvt-length Update h = refl

-- a frame with a lamp and a sense
pub sense-size : (f : Frame) → length f.message.lamp ≡ 18 → kind_number f.message.kind ≤ 2 → 1 ≤ sense_number f.sense → length (written f) ≡ 28
unfolding map_of whole_length
sense-size f lamp k s = whole-size f lamp ∙ rw (le-leb 1 (sense_number f.sense) s, lamp-map (kind_number f.message.kind) k)

-- a frame has a byte: its map
pub whole-some : (map : ℕ) → 1 ≤ whole_length map
unfolding whole_length
whole-some map = omega arith

-- a kind's whole length is small, and so are two of them
pub kind-small : (kind : Kind) → whole_length (map_of_kind (kind_number kind)) ≤ 28
unfolding whole_length map_of_kind
kind-small (Failure origin) = omega arith
kind-small (Request origin) = omega arith
kind-small (Delivery origin) = omega arith
kind-small (Restock quantity) = omega arith
kind-small Start = omega arith
kind-small Lvt = omega arith
kind-small Update = omega arith

-- every frame with a sense is short
sense-small : (kind : Kind) → whole_length (map_of_kind (kind_number kind) + 128) ≤ 28
unfolding whole_length map_of_kind
sense-small (Failure origin) = omega arith
sense-small (Request origin) = omega arith
sense-small (Delivery origin) = omega arith
sense-small (Restock quantity) = omega arith
sense-small Start = omega arith
sense-small Lvt = omega arith
sense-small Update = omega arith

-- no frame has more than twenty-eight bytes
pub frame_small : (f : Frame) → length f.message.lamp ≡ 18 → length (written f) ≤ 28
unfolding map_of
frame_small f lamp = rw (whole-size f lamp) (with-sense (leb 1 (sense_number f.sense)) f.message.kind)
  where
    with-sense : (b : Bool) (kind : Kind) → whole_length (cond b (map_of_kind (kind_number kind) + 128) (map_of_kind (kind_number kind))) ≤ 28
    with-sense true kind = sense-small kind
    with-sense false kind = kind-small kind
