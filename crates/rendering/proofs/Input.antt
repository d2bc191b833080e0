-- How the input is read: the line end that may stand last, and the number.
use mathlib.Core.Path.{◌≡◌, refl, sym, ◌∙◌, ap}
use mathlib.Core.List.{List, [], ◌∷◌}
use Prim.Native.Nat.{ℕ, ◌-◌, ◌≤◌, ◌<◌}
use native.Mathlib.Omega.{arith}
use lib.ListN.{length, get_or, take}
use borrow.Author.Tests.{eq-eqb, ne_eqb}
use Rattle.std.specs.Prelude.{Option, Some, unwrap_or}
use Rattle.text.specs.Decimal.{spelled}
use Rattle.text.proofs.Digits.{spelled-iff}
use Rattle.listing.specs.Output.{without_end, number_in}

pub end_empty : (input : List ℕ) → length input < 1 → input ≡ without_end input
unfolding without_end
end_empty [] h = refl
end_empty (x ∷ input) h = absurd (omega arith)

pub end_line : (input : List ℕ) → get_or input (length input - 1) 0 ≡ 10 → take (length input - 1) input ≡ without_end input
unfolding without_end
end_line input e = rw (eq-eqb (get_or input (length input - 1) 0) 10 e)

pub end_none : (input : List ℕ) → (get_or input (length input - 1) 0 ≡ 10 → ⊥) → input ≡ without_end input
unfolding without_end
end_none input e = rw (ne_eqb (get_or input (length input - 1) 0) 10 e)

module _ (input : List ℕ) {text : List ℕ} (e : text ≡ without_end input) (found : Option ℕ) (f : found ≡ spelled 65535 text) where
  pub number_read : unwrap_or found 0 ≡ number_in input
  unfolding number_in
  number_read = ap (λ (o : Option ℕ). unwrap_or o 0) (f ∙ ap (spelled 65535) e)

  pub number_below : {n : ℕ} → found ≡ Some n → n ≤ 65535
  number_below {n} g = ((spelled-iff 65535 text n).0 (sym f ∙ g)).1
