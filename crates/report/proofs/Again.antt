-- A frame written again: by what the writer answers, and that a frame that was read is written as it was.
use mathlib.Core.Path.{◌≡◌, refl, sym, ◌∙◌, ap, subst}
use mathlib.Core.Bool.{Bool, true, false, not}
use mathlib.Core.List.{List}
use Prim.Native.Nat.{ℕ, ◌≤◌, ◌<◌}
use native.Mathlib.Omega.{arith}
use lib.Dec.{leb, eqb}
use lib.ListN.{length, length-take, take}
use borrow.Author.Tests.{leb-true, leb-false, eqb-false, le-leb, lt-leb}
use Rattle.buffer.specs.Slice.{Bytes, part, same_bytes, write}
use Rattle.buffer.proofs.Equality.{bytes_same, same_bytes_lem}
use Rattle.buffer.proofs.Standing.{stands-written}
use Rattle.buffer.proofs.Writes.{length-write}
use Rattle.frame.specs.Writing.{WriteOutcome, count_in, outcome_of, not_written, unless, value_refusal, well_formed, written, writing}
use Rattle.frame.specs.Reasons.{reading}
use Rattle.frame.specs.declared.Frame.{Frame}
use Rattle.std.specs.Prelude.{Result, Ok, Err}
use Rattle.refusal.specs.Numbers.{number_in}
use Rattle.refusal.specs.declared.Refusal.{Refusal}
use Rattle.refusal.proofs.Numbers.{refusal-some}
use Rattle.frame.proofs.Laws.{one-to-one}
use Rattle.frame.proofs.Sizes.{frame_small}
use Rattle.frame.proofs.Values.{value-numbers}
use Rattle.report.specs.Inside.Again.{written_as}

-- what writing comes to: number, bytes written and output
data Writes (f : Frame) (m : List ℕ) : ℕ → ℕ → List ℕ → Type 0 where
  wrote : well_formed f ≡ true → length (written f) ≤ length m → Writes f m 0 (length (written f)) (write 0 (written f) m)
  crowded : well_formed f ≡ true → length m < length (written f) → Writes f m 5 0 m
  formless : (number : ℕ) → well_formed f ≡ false → (number ≡ 0 → ⊥) → Writes f m number 0 m

writes : (f : Frame) (m : List ℕ) → Writes f m (writing f m).number (writing f m).count (writing f m).output
unfolding writing
writes f m = by-test (eqb (value_refusal f) 0) (leb (length (written f)) (length m)) refl refl
  where
    outcome : Bool → Bool → WriteOutcome
    outcome b c =
        unless b (not_written (value_refusal f) m)
        (unless c (not_written 5 m) (record { number = 0; count = length (written f); output = write 0 (written f) m }))

    formed : (b : Bool) → eqb (value_refusal f) 0 ≡ b → well_formed f ≡ b
    formed b e = value-numbers.formed f ∙ e

    by-test : (b c : Bool) → eqb (value_refusal f) 0 ≡ b → leb (length (written f)) (length m) ≡ c
        → Writes f m (outcome b c).number (outcome b c).count (outcome b c).output
    by-test true true e d = wrote (formed true e) (leb-true (length (written f)) (length m) d)
    by-test true false e d = crowded (formed true e) (leb-false (length (written f)) (length m) d)
    by-test false c e d = formless (value_refusal f) (formed false e) (eqb-false (value_refusal f) 0 e)

-- by its number
unwritten : {f : Frame} {m out : List ℕ} {number count : ℕ} (item : List ℕ) → Writes f m number count out → (number ≡ 0 → ⊥)
    → false ≡ written_as f item (length m)
unwritten item (wrote v l) n = absurd (n refl)
unwritten {f} {m} item (crowded v l) n = rw (v, lt-leb (length (written f)) (length m) l)
unwritten item (formless number v k) n = rw v

-- the frame was written, in the first count bytes
record Rewritten (f : Frame) (m out : List ℕ) (count : ℕ) : Type 0 where
  form : well_formed f ≡ true
  room : length (written f) ≤ length m
  inside : count ≤ length out
  bytes : take count out ≡ written f

rewritten : {f : Frame} {m out : List ℕ} {number count : ℕ} → Writes f m number count out → number ≡ 0 → Rewritten f m out count
unfolding part
rewritten {f} {m} (wrote v l) e = record {
  form = v;
  room = l;
  inside = rw (length-write 0 (written f) m (omega arith)) (omega arith);
  bytes = stands-written 0 (written f) m (omega arith);
}
rewritten (crowded v l) e = absurd (omega arith)
rewritten (formless number v k) e = absurd (k e)

module _ (f : Frame) (item m : List ℕ) {out : List ℕ} (a : Result ℕ Refusal) (w : outcome_of a out ≡ writing f m) where
  came : Writes f m (number_in a) (count_in a) out
  came = subst (λ (o : WriteOutcome). Writes f m o.number o.count o.output) (sym w) (writes f m)

  came-written : (count : ℕ) → a ≡ Ok count → Rewritten f m out count
  came-written count e = subst (λ (n : ℕ). Rewritten f m out n) (ap count_in e) (rewritten came (ap number_in e))

  pub output-is : out ≡ (writing f m).output
  output-is = ap (λ (o : WriteOutcome). o.output) w

  pub refused-again : (why : Refusal) → a ≡ Err why → false ≡ written_as f item (length m)
  refused-again why e = unwritten item came (λ z. refusal-some why (sym (ap number_in e) ∙ z))

  pub inside-again : (count : ℕ) → a ≡ Ok count → count ≤ length out
  inside-again count e = (came-written count e).inside

  pub prefix-again : (count : ℕ) → a ≡ Ok count → count ≡ length (take count out)
  prefix-again count e = let h = inside-again count e in simp length-take (omega arith)

  -- comparing the bytes decides
  pub compared : (count : ℕ) {same : Bool} → a ≡ Ok count → (same ≡ true → item ≡ take count out) × (item ≡ take count out → same ≡ true)
      → same ≡ written_as f item (length m)
  compared count {same} e (yes-same, no_other) =
      let r = came-written count e in
      rw (r.form, le-leb (length (written f)) (length m) r.room) (by-case same (same_bytes (written f) item) refl refl)
    where
      by-case : (s t : Bool) → same ≡ s → same_bytes (written f) item ≡ t → s ≡ t
      by-case true true p q = refl
      by-case false false p q = refl
      by-case true false p q =
          sym (sym q ∙ rw (yes-same p ∙ (came-written count e).bytes) (bytes_same (written f)))
      by-case false true p q =
          sym p ∙ no_other (sym ((came-written count e).bytes ∙ same_bytes_lem (written f) item q))

-- a frame that was read is written as it was, in twenty-eight bytes
pub read_again : (item : List ℕ) → Bytes item → (f : Frame) → reading item ≡ Ok f → {ok : Bool} → ok ≡ written_as f item 28 → not ok ≡ false
read_again item bytes f e o =
    let again : written f ≡ item = one-to-one.read_written item bytes f e in
    let small = frame_small f (one-to-one.read_ranged item bytes f e).lamp in
    rw (o, one-to-one.read_well_formed item bytes f e, le-leb (length (written f)) 28 small, again, bytes_same item)
