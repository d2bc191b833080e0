-- Figure 2 of document 000: the code by which a node configures itself, statement by statement, with its names and in its order.
-- C's int is ℤ here: pen0 can be -1, In0 and In1 can be below 0. C's / is quot_z, which rounds toward 0.
use Rattle.std.specs.Prelude.{ℕ, zero, suc, ◌%◌, Bool, true, false, cond, ◌&&◌, List, [], ◌∷◌, eqb, ℤ, pos, nat_abs, ◌+ℤ◌, ◌-ℤ◌, ◌*ℤ◌}
use Rattle.std.specs.Int.Signed.{lt_z, le_z, quot_z}

-- C's ==
abbrev pub eq_z : ℤ → ℤ → Bool
eq_z a b = le_z a b && le_z b a

-- C's n & 0x01, as a condition
abbrev pub odd_z : ℤ → Bool
odd_z n = eqb (nat_abs n % 2) 1

-- for ( ; pen0 < Mid0 + 1; pen0 = 2 * pen0 + 1 ), for at most so many turns
unfoldable pub widen : ℕ → (Mid0 pen0 : ℤ) → ℤ
widen zero Mid0 pen0 = pen0
widen (suc turns) Mid0 pen0 =
    elim (lt_z pen0 (Mid0 +ℤ pos 1)) [ true ↦ widen turns Mid0 (pos 2 *ℤ pen0 +ℤ pos 1) | false ↦ pen0 ]

-- The two middles, and whether the two trees share the bottom row.
pub record Row : Type 0 where
  pub shared : Bool
  pub Mid0 : ℤ
  pub Mid1 : ℤ

-- if ( pen1 <= 2 * pen0 + 3 ): the two trees can share the bottom row
unfoldable pub share : (pen0 pen1 Mid0 Mid1 : ℤ) → Row
share pen0 pen1 Mid0 Mid1 =
    cond (le_z pen1 (pos 2 *ℤ pen0 +ℤ pos 3))
    (record { shared = true; Mid0 = pen1 -ℤ pos 1; Mid1 = pen0 +ℤ pos 1 })
    (record { shared = false; Mid0 = Mid0; Mid1 = Mid1 })

-- if ( my_num == 0 ) and its else branches: the first num_from elements of from
unfoldable pub set_from : (my_num Mid0 Mid1 OutFrom In0 In1 my_inv : ℤ) → List ℤ
set_from my_num Mid0 Mid1 OutFrom In0 In1 my_inv =
    cond (eq_z my_num (pos 0)) []
    (cond (le_z my_num Mid0) (OutFrom ∷ [])
    (cond (le_z Mid1 In1) (In0 ∷ In1 ∷ [])
    (cond (eq_z Mid1 In0) (In0 ∷ [])
    (my_inv ∷ []))))

-- if ( my_num == num_nodes - 1 ) and its else branches: the first num_to elements of to
unfoldable pub set_to : (num_nodes my_num Mid0 Mid1 InTo Out0 Out1 my_inv : ℤ) → List ℤ
set_to num_nodes my_num Mid0 Mid1 InTo Out0 Out1 my_inv =
    cond (eq_z my_num (num_nodes -ℤ pos 1)) []
    (cond (le_z Mid1 my_num) (InTo ∷ [])
    (cond (le_z Out1 Mid0) (Out0 ∷ Out1 ∷ [])
    (cond (eq_z Mid0 Out0) (Out0 ∷ [])
    (my_inv ∷ []))))

-- What gvtcfg() leaves.
pub record Config : Type 0 where
  pub row : Row
  pub from : List ℤ
  pub to : List ℤ

-- gvtcfg() of node my_num among num_nodes; the loop ends within num_nodes turns
unfoldable pub gvtcfg : (num_nodes my_num : ℤ) → Config
gvtcfg num_nodes my_num =
    let Mid0 : ℤ = quot_z (num_nodes -ℤ pos 1) (pos 2) in
    let Mid1 : ℤ = cond (odd_z num_nodes) Mid0 (Mid0 +ℤ pos 1) in
    let my_inv : ℤ = num_nodes -ℤ my_num -ℤ pos 1 in
    let Out0 : ℤ = pos 2 *ℤ my_num +ℤ pos 1 in
    let Out1 : ℤ = Out0 +ℤ pos 1 in
    let OutFrom : ℤ = quot_z (my_num -ℤ pos 1) (pos 2) in
    let In0 : ℤ = pos 2 *ℤ my_num -ℤ num_nodes in
    let In1 : ℤ = In0 -ℤ pos 1 in
    let InTo : ℤ = quot_z (num_nodes +ℤ my_num +ℤ pos 1) (pos 2) in
    let pen0 : ℤ = widen (nat_abs num_nodes) Mid0 (pos 1) in
    let pen0 : ℤ = quot_z pen0 (pos 2) -ℤ pos 1 in
    let pen1 : ℤ = num_nodes -ℤ pen0 -ℤ pos 1 in
    let row : Row = share pen0 pen1 Mid0 Mid1 in
    let from : List ℤ = set_from my_num row.Mid0 row.Mid1 OutFrom In0 In1 my_inv in
    let to : List ℤ = set_to num_nodes my_num row.Mid0 row.Mid1 InTo Out0 Out1 my_inv in
    record { row = row; from = from; to = to }
