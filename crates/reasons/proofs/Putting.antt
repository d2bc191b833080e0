-- Words put one behind the other.
use mathlib.Core.Path.{◌≡◌}
use Prim.Native.Nat.{ℕ, ◌+◌, ◌≤◌}
use native.Mathlib.Omega.{arith}
use mathlib.Core.List.{List}
use lib.ListN.{length}
use Rattle.std.specs.Prelude.{Some}
use Rattle.buffer.specs.Slice.{Puts}
use Rattle.buffer.proofs.Putting.{puts-more}
use Rattle.text.specs.Decimal.{field}
use Rattle.frame.specs.Reasons.{form_number}
use Rattle.frame.specs.declared.forms.FormError.{FormError}
use Rattle.frame.specs.declared.forms.FormError.TheVariants.{WrongLength}
use Rattle.reasons.specs.Words.{reason_text, refused_text, cut_reason, cut_text}

-- a number, then words
module _ (at : ℕ) (m : List ℕ) {m₁ m₂ : List ℕ} {p q n : ℕ} (room : at + 61 ≤ length m) (a : (Puts at (field n) m m₁ p) × (p ≤ at + 11)) where
  pub number_put : (reason : FormError) {words : List ℕ} → n ≡ form_number reason → words ≡ reason_text reason → Puts p words m₁ m₂ q
      → Puts at (refused_text (Some reason)) m m₂ q
  unfolding refused_text
  number_put reason e w b =
      let first : Puts at (field (form_number reason)) m m₁ p = rw e at a.0 in
      puts-more (omega (arith, first.position, a.1)) first (rw w at b)

  pub cut-put : n ≡ form_number WrongLength → Puts p cut_reason m₁ m₂ q → Puts at cut_text m m₂ q
  unfolding cut_text
  cut-put e b =
      let first : Puts at (field (form_number WrongLength)) m m₁ p = rw e at a.0 in
      puts-more (omega (arith, first.position, a.1)) first b
