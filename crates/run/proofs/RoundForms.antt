-- The frames of a round are read as they were written.
use mathlib.Core.Path.{◌≡◌, refl, ◌∙◌, ap}
use mathlib.Core.Bool.{Bool, true, ◌&&◌, ◌||◌}
use mathlib.Core.List.{List, map}
use Prim.Native.Nat.{ℕ, zero, suc, ◌<◌, ◌^◌}
use native.Mathlib.Omega.{arith}
use lib.Dec.{eqb}
use lib.ListN.{length, get_or, replicate}
use Rattle.lists.specs.Lists.{tally, joined, All, nil, cons}
use Rattle.lists.proofs.ListLaws.{all-image, all_map, all-every}
use Rattle.buffer.specs.Number.{bytes_of}
use Rattle.model.specs.Messages.{kind_number, origin_of, quantity_of}
use Rattle.model.specs.declared.Kind.{Kind}
use Rattle.model.specs.declared.Kind.TheVariants.{Start, Lvt, Update}
use Rattle.frame.specs.Layout.{whole_length, standing}
use Rattle.frame.specs.Kinds.{has_hour, map_of, map_of_kind}
use Rattle.frame.specs.Writing.{written, contents, well_formed, lamp_fits, all_between}
use Rattle.frame.specs.Reasons.{frame_in}
use Rattle.frame.specs.Claims.{RangedFrame, OneToOne}
use Rattle.frame.specs.declared.Frame.{Frame}
use Rattle.gateway.specs.Rounds.{frame_in_round, frames_in_round}
use Rattle.run.proofs.RoundsUnderWay.{Readable}
use Rattle.run.proofs.FramesCut.{Whole}
use Rattle.run.proofs.ArrivalBits.{one_if}
use Rattle.run.specs.World.{round_frames}

-- no lamp
zeros : (k i : ℕ) → ◌≡◌ {A = ℕ} (get_or (replicate k 0) i 0) 0
zeros zero i = refl
zeros (suc k) zero = refl
zeros (suc k) (suc i) = zeros k i

-- a frame of a round: its kind has no field of its own, and its numbers fit
pub round-ranged : (kind : Kind) → origin_of kind ≡ 0 → quantity_of kind ≡ 0 → (hour i j : ℕ) → hour < 256 ^ 4 → i < 256 → j < 256
    → RangedFrame (frame_in_round kind hour i j)
round-ranged kind o q hour i j h l m =
    record {
      hour = h;
      from = l;
      to = m;
      origin = omega arith;
      quantity = omega arith;
      lamp = refl;
      bytes = λ x. omega (arith, zeros 18 x);
    }

-- frames of a round to some gateways are read as they were written
module _ (one : OneToOne) (kind : Kind) (o : origin_of kind ≡ 0) (q : quantity_of kind ≡ 0) (v i : ℕ) (h : v < 256 ^ 4) (l : i < 256)
    (formed : (j : ℕ) → well_formed (frame_in_round kind v i j) ≡ true) where
  pub frames-readable : {js : List ℕ} → All (λ j. j < 256) js → All Readable (frames_in_round kind v i js)
  frames-readable a =
      all-image (frame_in_round kind v i)
      (all_map (λ j m. ap frame_in (one.written_read (frame_in_round kind v i j) (round-ranged kind o q v i j h l m) (formed j))) a)

module _ (v i j : ℕ) where
  pub start-formed : well_formed (frame_in_round Start 0 i j) ≡ true
  unfolding well_formed has_hour lamp_fits all_between
  start-formed = refl

  pub lvt-formed : well_formed (frame_in_round Lvt v i j) ≡ true
  unfolding well_formed has_hour lamp_fits all_between
  lvt-formed = refl

  pub update-formed : well_formed (frame_in_round Update v i j) ≡ true
  unfolding well_formed has_hour lamp_fits all_between
  update-formed = refl

  -- and are as long as the table says
  pub start-whole : Whole (frame_in_round Start 0 i j)
  unfolding whole_length standing tally map_of map_of_kind written contents joined bytes_of
  start-whole = refl

  pub lvt-whole : Whole (frame_in_round Lvt v i j)
  unfolding whole_length standing tally map_of map_of_kind written contents joined bytes_of
  lvt-whole = refl

  pub update-whole : Whole (frame_in_round Update v i j)
  unfolding whole_length standing tally map_of map_of_kind written contents joined bytes_of
  update-whole = refl

-- a frame that counts for a round: an Update, and while the round is open a Start or an Lvt
abbrev pub counts : Bool → Kind → Bool
counts is_open kind = eqb (kind_number kind) 6 || (is_open && (eqb (kind_number kind) 4 || eqb (kind_number kind) 5))

-- each of them counts once
pub frames-counted : (is_open : Bool) {fs : List Frame} → All Readable fs → All (λ f. counts is_open f.message.kind ≡ true) fs
    → round_frames is_open (map written fs) ≡ length fs
unfolding round_frames
frames-counted is_open nil nil = refl
frames-counted is_open (cons {a = f} e a) (cons p b) =
    omega (
      arith,
      ap one_if (ap (λ (x : Frame). counts is_open x.message.kind) e ∙ p),
      frames-counted is_open a b,
    )

-- all of one kind
pub kind-counted : (is_open : Bool) (kind : Kind) (v i : ℕ) (js : List ℕ) → counts is_open kind ≡ true
    → All (λ f. counts is_open f.message.kind ≡ true) (frames_in_round kind v i js)
kind-counted is_open kind v i js e = all-image (frame_in_round kind v i) (all-every (λ j. e) js)
