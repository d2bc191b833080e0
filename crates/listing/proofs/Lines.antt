-- The lines of the listing: their lengths, and how they follow one another.
use mathlib.Core.Path.{◌≡◌, refl, ◌∙◌, ap}
use mathlib.Core.List.{List, [], ◌∷◌, ◌++◌, map, append-nil}
use Prim.Native.Nat.{ℕ, zero, suc, ◌+◌, ◌-◌, ◌≤◌, ◌<◌}
use native.Mathlib.Nat.{add-zero}
use native.Mathlib.Numerals.{add-one}
use native.Mathlib.Omega.{arith}
use lib.ListN.{length, set, length-append}
use Rattle.lists.proofs.ListLaws.{joined-append}
use Rattle.lists.specs.Lists.{joined}
use Rattle.buffer.specs.Slice.{Puts}
use Rattle.routing.specs.AtMostTwo.{listed}
use Rattle.routing.specs.declared.at_most_two.AtMostTwo.{AtMostTwo}
use Rattle.routing.specs.declared.at_most_two.AtMostTwo.TheVariants.{None, One, Two}
use Rattle.routing.specs.Arcs.{Arc, arcs, arcs_of_first, to}
use Rattle.text.specs.Decimal.{decimal}
use Rattle.listing.specs.Output.{nodes_word, arcs_word, round_word, first_line, arc_line, lines_from}
use Rattle.buffer.proofs.Putting.{puts-nothing, puts-byte, puts-more, puts-length}

pub length-arc_line : (i j : ℕ) → length (arc_line (i, j)) ≡ length (decimal i) + length (decimal j) + 2
unfolding arc_line
length-arc_line i j = simp length-append (omega arith)

pub length-first_line : (N arcs messages : ℕ) → length (first_line N arcs messages) ≡ 20 + length (decimal N) + length (decimal arcs) + length (decimal messages)
unfolding first_line
length-first_line N arcs messages = simp length-append (omega arith)

-- the lines of no, one or two arcs from a gateway
module _ (own : ℕ) where
  pub no_line : {to : AtMostTwo ℕ} → to ≡ None → lines_from own (listed to) ≡ []
  unfolding lines_from joined
  no_line e = rw e

  pub one_line : {to : AtMostTwo ℕ} (i : ℕ) → to ≡ One i → lines_from own (listed to) ≡ arc_line (own, i)
  unfolding lines_from joined
  one_line i e = rw e (append-nil (arc_line (own, i)))

  pub two-lines : {to : AtMostTwo ℕ} (i j : ℕ) → to ≡ Two i j → lines_from own (listed to) ≡ arc_line (own, i) ++ arc_line (own, j)
  unfolding lines_from joined
  two-lines i j e = rw e (ap (λ (l : List ℕ). arc_line (own, i) ++ l) (append-nil (arc_line (own, j))))

  pub two-length : {to : AtMostTwo ℕ} (i j : ℕ) → to ≡ Two i j → length (lines_from own (listed to)) ≡ length (arc_line (own, i)) + length (arc_line (own, j))
  two-length i j e = ap length (two-lines i j e) ∙ length-append (arc_line (own, i)) (arc_line (own, j))

  -- those lines put
  module _ (at : ℕ) (m : List ℕ) {to : AtMostTwo ℕ} where
    pub none-put : to ≡ None → Puts at (lines_from own (listed to)) m m at
    none-put e = rw (no_line e) (puts-nothing at m)

    pub one-put : {i p : ℕ} {now : List ℕ} → to ≡ One i → Puts at (arc_line (own, i)) m now p → Puts at (lines_from own (listed to)) m now p
    one-put {i} e a = rw (one_line i e) a

    pub two-put : {i j p q : ℕ} {now later : List ℕ} → to ≡ Two i j → at + length (lines_from own (listed to)) ≤ length m
        → Puts at (arc_line (own, i)) m now p → Puts p (arc_line (own, j)) now later q → Puts at (lines_from own (listed to)) m later q
    two-put {i} {j} e room a b = rw (two-lines i j e) (puts-more (omega (arith, two-length i j e)) a b)

-- the lines of one gateway more
pub lines_next : (n i : ℕ) → joined arc_line (arcs_of_first n (i + 1)) ≡ joined arc_line (arcs_of_first n i) ++ lines_from i (to n i)
unfolding arcs_of_first lines_from
lines_next n i = rw (add-one i) (joined-append arc_line (arcs_of_first n i) (map (λ (j : ℕ). (i, j)) (to n i)))

-- a whole line put
pub arc-put : (at i j : ℕ) (m : List ℕ) {p q : ℕ} {now later : List ℕ} → at + length (arc_line (i, j)) ≤ length m
    → Puts at (decimal i) m now p → Puts (p + 1) (decimal j) (set now p 32) later q → Puts at (arc_line (i, j)) m (set later q 10) (q + 1)
unfolding arc_line
arc-put at i j m {p} {q} {now} {later} room a b =
    let l : length (arc_line (i, j)) ≡ length (decimal i) + length (decimal j) + 2 = length-arc_line i j in
    let one : length (decimal i ++ (32 ∷ [])) ≡ length (decimal i) + 1 = length-append (decimal i) (32 ∷ []) in
    let two : length (decimal i ++ (32 ∷ []) ++ decimal j) ≡ length (decimal i ++ (32 ∷ [])) + length (decimal j) = length-append (decimal i
    ++ (32 ∷ [])) (decimal j) in
    let first : at + length (decimal i) ≤ length m = omega arith in
    let both : at + length (decimal i ++ (32 ∷ []) ++ decimal j) ≤ length m = omega arith in
    let put = puts-more (omega arith) (puts-more first a (puts-byte p 32 now (omega (arith, puts-length first a)))) b in
    puts-more both put (puts-byte q 10 later (omega (arith, puts-length both put)))

-- the first line put
pub first-put : (n arcs messages : ℕ) (m : List ℕ) {p q r : ℕ} {now later last : List ℕ} → length (first_line n arcs messages) ≤ length m
    → Puts 0 (nodes_word ++ decimal n) m now p → Puts p (arcs_word ++ decimal arcs) now later q → Puts q (round_word ++ decimal messages) later last r
    → Puts 0 (first_line n arcs messages) m (set last r 10) (r + 1)
unfolding first_line
first-put n arcs messages m {p} {q} {r} {now} {later} {last} room a b c =
    let all : length (first_line n arcs messages) ≡ 20 + length (decimal n) + length (decimal arcs) + length (decimal messages) =
    length-first_line n arcs messages in
    let one : length (nodes_word ++ decimal n) ≡ 6 + length (decimal n) = length-append nodes_word (decimal n) in
    let two : length ((nodes_word ++ decimal n) ++ (arcs_word ++ decimal arcs)) ≡ 12 + length (decimal n) + length (decimal arcs) = simp
    length-append (omega arith) in
    let three : length ((nodes_word ++ decimal n) ++ (arcs_word ++ decimal arcs) ++ (round_word ++ decimal messages)) ≡ 19 + length (decimal n)
    + length (decimal arcs) + length (decimal messages) = simp length-append (omega arith) in
    let fits : 0 + length ((nodes_word ++ decimal n) ++ (arcs_word ++ decimal arcs) ++ (round_word ++ decimal messages)) ≤ length m = omega arith in
    let put = puts-more (omega arith) (puts-more (omega arith) a b) c in
    puts-more fits put (puts-byte r 10 last (omega (arith, puts-length fits put)))

-- the lines of the first gateways are within those of more
lines-grow : (n i d : ℕ) → length (joined arc_line (arcs_of_first n i)) ≤ length (joined arc_line (arcs_of_first n (i + d)))
lines-grow n i zero = omega (arith, ap (λ (k : ℕ). length (joined arc_line (arcs_of_first n k))) (add-zero i))
lines-grow n i (suc d) =
    let e : i + suc d ≡ i + d + 1 = omega arith in
    omega (
      arith,
      lines-grow n i d,
      ap (λ (k : ℕ). length (joined arc_line (arcs_of_first n k))) e,
      ap length (lines_next n (i + d)),
      length-append (joined arc_line (arcs_of_first n (i + d))) (lines_from (i + d) (to n (i + d))),
    )

pub all_lines : (n i : ℕ) → n ≤ i → i ≤ n → arcs_of_first n i ≡ arcs n
unfolding arcs
all_lines n i p q = ap (arcs_of_first n) (omega arith)

pub lines-within : (n i : ℕ) → i ≤ n → length (joined arc_line (arcs_of_first n i)) ≤ length (joined arc_line (arcs n))
lines-within n i h =
    let e : i + (n - i) ≡ n = omega arith in
    omega (
      arith,
      lines-grow n i (n - i),
      ap (λ (k : ℕ). length (joined arc_line (arcs_of_first n k))) e,
      ap (λ (l : List Arc). length (joined
          arc_line l)) (all_lines n n (omega arith) (omega arith)),
    )

pub no_lines : (n : ℕ) → joined arc_line (arcs_of_first n 0) ≡ []
unfolding joined arcs_of_first
no_lines n = refl

pub no-lines-put : (n at : ℕ) (m : List ℕ) → Puts at (joined arc_line (arcs_of_first n 0)) m m at
no-lines-put n at m = rw (no_lines n) (puts-nothing at m)

-- one gateway's lines more
module _ (n i : ℕ) (h : i < n) {l : List ℕ} (e : l ≡ to n i) where
  pub length-turn : length (joined arc_line (arcs_of_first n (i + 1))) ≡ length (joined arc_line (arcs_of_first n i)) + length (lines_from i l)
  length-turn = rw e (ap length (lines_next n i) ∙ length-append (joined arc_line (arcs_of_first n i)) (lines_from i (to n i)))

  pub lines-turn : (at : ℕ) (m : List ℕ) {p q : ℕ} {now later : List ℕ} → at + length (joined arc_line (arcs n)) ≤ length m
      → Puts at (joined arc_line (arcs_of_first n i)) m now p → Puts p (lines_from i l) now later q → Puts at
      (joined arc_line (arcs_of_first n (i + 1))) m later q
  lines-turn at m room a b = rw (lines_next n i) (puts-more (omega (arith, lines-within n i (omega arith))) a (rw e at b))

  -- and these are within the whole
  pub turn-within : length (joined arc_line (arcs_of_first n i)) + length (lines_from i l) ≤ length (joined arc_line (arcs n))
  turn-within = omega (arith, length-turn, lines-within n (i + 1) (omega arith))
