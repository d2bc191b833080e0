-- A law for each branch of the call of the balance.
use mathlib.Core.Path.{◌≡◌}
use mathlib.Core.List.{List, ◌∷◌}
use Prim.Native.Nat.{ℕ, ◌≤◌, ◌<◌}
use lib.ListN.{length, drop}
use borrow.Author.Tests.{le-leb, lt-leb, eq-eqb, ne_eqb}
use Rattle.records.specs.Balancing.{BalanceAnswer, balanced}
use Rattle.hurfaith.specs.Exported.{balance_given}

module _ (opening : ℕ) (bytes l : List ℕ) {r : BalanceAnswer} (e : r ≡ balanced opening bytes) where
  pub balance-refused : (r.number ≡ 0 → ⊥) → record { answer = r.number; figures = l } ≡ balance_given opening bytes l
  unfolding balance_given
  balance-refused h = rw (← e, ne_eqb r.number 0 h)

  pub balance-no-room : r.number ≡ 0 → length l < 3 → record { answer = 5; figures = l } ≡ balance_given opening bytes l
  unfolding balance_given
  balance-no-room h k = rw (← e, eq-eqb r.number 0 h, lt-leb 3 (length l) k)

  pub balance-found : r.number ≡ 0 → 3 ≤ length l → {after : List ℕ} → after ≡ r.received ∷ r.served ∷ r.stock ∷ drop 3 l
      → record { answer = 0; figures = after } ≡ balance_given opening bytes l
  unfolding balance_given
  balance-found h k f = rw (← e, eq-eqb r.number 0 h, le-leb 3 (length l) k, f)
