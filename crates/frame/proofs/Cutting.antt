-- Cutting a byte string into fields and joining the fields again.
use mathlib.Core.Path.{◌≡◌, refl, sym, ◌∙◌, ap, ap₂}
use Prim.Native.Nat.{ℕ, ◌+◌, ◌/◌, ◌^◌, ◌<◌, ◌≤◌}
use native.Mathlib.Nat.{add-zero}
use native.Mathlib.Omega.{arith}
use mathlib.Core.Bool.{Bool, true, false, cond}
use mathlib.Core.List.{List, [], ◌∷◌, ◌++◌, append_assoc, map as mapped}
use lib.ListN.{length, take, drop, length-append, drop_of_length-le, take-append-drop}
use lib.Seq.{drop-drop, take_at, drop_at}
use Rattle.buffer.proofs.Lent.{bytes-part}
use Rattle.lists.specs.Lists.{tally, joined}
use Rattle.buffer.specs.Slice.{Bytes, part}
use Rattle.buffer.specs.Number.{bytes_of, number_of}
use Rattle.buffer.proofs.Writes.{part-nil, length_part}
use Rattle.buffer.proofs.Numbers.{bytes-of-number, number-below}
use Rattle.frame.specs.Layout.{odd, standing, cut}

-- the fields of a byte string, joined, are its bytes
pub joined-cut : (at map : ℕ) (ws s : List ℕ) → length s ≡ at + tally (λ n. n) (standing map ws) → joined (λ x. x) (standing map (cut at map ws s)) ≡ drop at s
unfolding joined standing tally cut part
joined-cut at map [] s e = sym (drop_of_length-le s {i = at} (omega arith))
joined-cut at map (w ∷ ws) s e = by (odd map) e (λ n. joined-cut (at + n) (map / 2) ws s)
  where
    by : (b : Bool) → length s ≡ at + tally (λ n. n) (cond b (w ∷ standing (map / 2) ws) (standing (map / 2) ws))
        → ((n : ℕ) → length s ≡ at + n + tally (λ n. n) (standing (map / 2) ws) → joined (λ x. x) (standing (map / 2) (cut (at + n) (map /
        2) ws s)) ≡ drop (at + n) s)
        → joined (λ x. x) (cond b (part s at (cond b w 0) ∷ standing (map / 2) (cut (at + cond b w 0) (map / 2) ws s)) (standing (map / 2)
        (cut (at + cond b w 0) (map / 2) ws s)))
        ≡ drop at s
    by true e rest = ap (λ (l : List ℕ). take w (drop at s) ++ l) (rest w (omega arith) ∙ sym (drop-drop w at s)) ∙ take-append-drop w (drop at s)
    by false e rest = rest 0 (omega arith) ∙ rw add-zero

module _ (s : List ℕ) (at w : ℕ) (b : Bytes s) (h : at + w ≤ length s) where
  -- a field's bytes are those of its number
  pub bytes_back : bytes_of w (number_of (part s at w)) ≡ part s at w
  bytes_back = ap (λ (n : ℕ). bytes_of n (number_of (part s at w))) (sym (length_part s at w h)) ∙ bytes-of-number (part s at w) (bytes-part s at w b)

  pub part_small : number_of (part s at w) < 256 ^ w
  part_small = rw (length_part s at w h) at (number-below (part s at w) (bytes-part s at w b))

-- of a list with an entry for each bit, none in the place of an entry whose bit does not stand
unfoldable pub kept : ℕ → List (List ℕ) → List (List ℕ)
kept map [] = []
kept map (p ∷ ps) = cond (odd map) p [] ∷ kept (map / 2) ps

part-front : (front p rest : List ℕ) → part (front ++ (p ++ rest)) (length front) (length p) ≡ p
unfolding part
part-front front p rest = rw (drop_at front (p ++ rest) (length front) refl) (take_at p rest (length p) refl)

-- the fields of what was joined
pub cut-joined : (front : List ℕ) (map : ℕ) (ps : List (List ℕ)) → cut (length front) map (mapped length ps) (front ++ joined (λ x. x)
    (standing map ps)) ≡ kept map ps
unfolding joined standing cut kept
cut-joined front map [] = refl
cut-joined front map (p ∷ ps) = by (odd map) (λ f. cut-joined f (map / 2) ps)
  where
    by : (b : Bool) → ((f : List ℕ) → cut (length f) (map / 2) (mapped length ps) (f ++ joined (λ x. x) (standing (map / 2) ps)) ≡ kept (map / 2) ps)
        → let s : List ℕ = front ++ joined (λ x. x) (cond b (p ∷ standing (map / 2) ps) (standing (map / 2) ps)) in
        part s (length front) (cond b (length p) 0) ∷ cut (length front + cond b (length p) 0) (map / 2) (mapped length ps) s ≡ cond b p [] ∷ kept (map / 2) ps
    by true rest =
        let behind = rw (length-append, append_assoc) at (rest (front ++ p)) in
        ap₂ ◌∷◌ (part-front front p _) behind
    by false rest = ap₂ ◌∷◌ (part-nil _ _) (rw add-zero (rest front))
