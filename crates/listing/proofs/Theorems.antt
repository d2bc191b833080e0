-- Which inputs are listed and which are refused, and how long the output is.
use mathlib.Core.Path.{◌≡◌, refl, sym, ◌∙◌, ap}
use mathlib.Core.Logic.{◌⊎◌, inl, inr, ⊎_elim}
use mathlib.Core.List.Memᴰ.{head as here}
use mathlib.Core.List.Memᴰ.{tail as there}
use mathlib.Core.List.{List, [], ◌∷◌, ◌++◌}
use Prim.Native.Nat.{ℕ, zero, suc, ◌*◌, ◌-◌, ◌≤◌, ◌<◌}
use native.Mathlib.Omega.{arith}
use native.Mathlib.Decide.{ℕ_discrete, dec_le}
use lib.ListN.{length, get_or, take, length-append}
use lib.Seq.{take_all, take-append_seam, get_or-append_seam, take-suc, length-take-le}
use borrow.Author.Tests.{eq-eqb, ne_eqb}
use Rattle.lists.specs.Lists.{◌∈◌, joined}
use Rattle.routing.specs.Arcs.{Arc, arcs, arc_count, round_messages}
use Rattle.routing.proofs.Reading.{mids}
use Rattle.routing.proofs.Theorems.{count-is, laws as arc-laws}
use Rattle.std.specs.Prelude.{Option, Some, None, unwrap_or}
use Rattle.text.specs.Decimal.{decimal, spelled}
use Rattle.text.proofs.Digits.{decimal-plain, is_spelled, spelled-iff}
use Rattle.text.proofs.Putting.{length-within}
use Rattle.text.proofs.Reading.{digit_at, plain-digits, plain-some}
use Rattle.listing.specs.Output.{line_end, first_line, arc_line, listing, without_end, number_in, printed, Laws}
use Rattle.listing.proofs.Lines.{length-arc_line, length-first_line}

-- a decimal text does not end in a line end
no_end : (N : ℕ) → without_end (decimal N) ≡ decimal N
unfolding without_end
no_end N =
    let some : 1 ≤ length (decimal N) = plain-some (decimal-plain N) in
    let digit = digit_at (plain-digits (decimal-plain N)) (length (decimal N) - 1) (omega arith) in
    rw (ne_eqb (get_or (decimal N) (length (decimal N) - 1) 0) line_end (λ e. omega (arith, digit)))

one_end : (text : List ℕ) → without_end (text ++ (line_end ∷ [])) ≡ text
unfolding without_end
one_end text =
    let e : length (text ++ (line_end ∷ [])) - 1 ≡ length text = omega (arith, length-append text (line_end ∷ [])) in
    rw (e, get_or-append_seam text line_end [] 0) (take-append_seam text (line_end ∷ []))

given : (input : List ℕ) (N : ℕ) → N ≤ 65535 → without_end input ≡ decimal N → printed input ≡ listing N
unfolding printed number_in
given input N h e = ap listing (ap (λ (o : Option ℕ). unwrap_or o 0) (is_spelled 65535 (without_end input) N (sym e) h))

-- an input is what stands before its line end, alone or with the line end
with-end : (input : List ℕ) → (input ≡ without_end input) ⊎ (input ≡ without_end input ++ (line_end ∷ []))
unfolding without_end
with-end [] = inl refl
with-end (x ∷ xs) = go (ℕ_discrete (get_or input last 0) line_end)
  where
    input : List ℕ
    input = x ∷ xs

    last : ℕ
    last = length input - 1

    go : Dec (get_or input last 0 ≡ line_end) → (input ≡ without_end input) ⊎ (input ≡ without_end input ++ (line_end ∷ []))
    go (yes e) =
        inr
        (rw (eq-eqb (get_or input last 0) line_end e)
        (sym (take_all (suc last) input (omega arith)) ∙ take-suc input last 0 (omega arith) ∙ ap (λ (b : ℕ). take last input ++ (b ∷ [])) e))
    go (no e) = inl (sym (rw (ne_eqb (get_or input last 0) line_end e)))

module _ (input : List ℕ) (other : (N : ℕ) → 1 ≤ N → N ≤ 65535 → (input ≡ decimal N → ⊥) × (input ≡ decimal N ++ (line_end ∷ []) → ⊥)) where
  not-one : (N : ℕ) → 1 ≤ N → N ≤ 65535 → decimal N ≡ without_end input → ⊥
  not-one N low high e =
      ⊎_elim
      (λ f. (other N low high).0 (f ∙ sym e))
      (λ f. (other N low high).1 (f ∙ ap (λ (l : List ℕ). l ++ (line_end ∷ [])) (sym e)))
      (with-end input)

  none : number_in input ≡ 0
  unfolding number_in
  none = go (spelled 65535 (without_end input)) refl
    where
      go : (found : Option ℕ) → spelled 65535 (without_end input) ≡ found → unwrap_or found 0 ≡ 0
      go (Some zero) e = refl
      go (Some (suc n)) e =
          let d = (spelled-iff 65535 (without_end input) (suc n)).0 e in
          absurd (not-one (suc n) (omega arith) d.1 d.0)
      go None e = refl

  refused : printed input ≡ 56 ∷ line_end ∷ []
  unfolding printed listing
  refused = ap listing none

-- no input of more than six bytes gives a number
long : (input : List ℕ) → 6 < length input → printed input ≡ 56 ∷ line_end ∷ []
long input h =
    refused input
    (λ N low high.
    let most : length (decimal N) ≤ 5 = (length-within 4 N (omega arith)).1 in
    (λ e. omega (arith, ap length e), λ e. omega (arith, ap length e, length-append (decimal N) (line_end ∷ []))))

sixteen : (input : List ℕ) → printed (take 16 input) ≡ printed input
sixteen input = go (dec_le (length input) 16)
  where
    go : Dec (length input ≤ 16) → printed (take 16 input) ≡ printed input
    go (yes h) = ap printed (take_all 16 input h)
    go (no h) = long (take 16 input) (omega (arith, length-take-le 16 input (omega arith))) ∙ sym (long input (omega arith))

-- the lines of arcs with numbers of at most five digits
lines-bound : (l : List Arc) → ((c : Arc) → c ∈ l → (c.0 < 100000) × (c.1 < 100000)) → length (joined arc_line l) ≤ 12 * length l
unfolding joined
lines-bound [] h = omega arith
lines-bound (c ∷ l) h =
    let b = h c (here refl) in
    omega (
      arith,
      length-append (arc_line c) (joined arc_line l),
      length-arc_line c.0 c.1,
      length-within 4 c.0 b.0,
      length-within 4
          c.1 b.1,
      lines-bound l (λ d m. h d (there m)),
    )

held : (n : ℕ) → n ≤ 65535 → length (listing n) ≤ 1100000
unfolding listing
held zero h = omega arith
held (suc k) h =
    let n : ℕ = suc k in
    let l = arc-laws n (omega arith) in
    let s = (mids n 0 (omega arith)).split in
    let first = length-first_line n (arc_count n) (round_messages n) in
    let count = count-is n (omega arith) in
    let lines = lines-bound (arcs n) (λ c m. let k = (l.complete c.0 c.1).0 m in let u = l.upward c.0 c.1 k.0 k.1 in
    (omega arith, omega (arith, u.1))) in
    omega (
      arith,
      s.all,
      s.upper,
      first,
      count,
      lines,
      l.counted,
      l.bounded,
      length-append (first_line n (arc_count n) (round_messages n))
          (joined arc_line (arcs n)),
      length-within 9 n (omega arith),
      length-within 9 (arc_count n) (omega arith),
      length-within 9
          (round_messages n) (omega arith),
    )

number-below : (input : List ℕ) → number_in input ≤ 65535
unfolding number_in
number-below input = go (spelled 65535 (without_end input)) refl
  where
    go : (found : Option ℕ) → spelled 65535 (without_end input) ≡ found → unwrap_or found 0 ≤ 65535
    go (Some n) e = ((spelled-iff 65535 (without_end input) n).0 e).1
    go None e = omega arith

pub laws : Laws
unfolding printed
laws =
    record {
      listed = λ N low high. (given (decimal N) N high (no_end N), given (decimal N ++ (line_end ∷ [])) N high (one_end (decimal N)));
      refused = refused;
      sixteen = sixteen;
      held = λ input. held (number_in input) (number-below input);
    }
