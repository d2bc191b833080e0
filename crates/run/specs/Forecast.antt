-- A forecast: N gateways, each set up in memory of its own.
use Rattle.std.specs.Prelude.{◌≡◌, ℕ, ◌≤◌, ◌<◌, List}
use Rattle.buffer.specs.Slice.{Bytes}
use Rattle.gateway.specs.Calls.{set_up}
use Rattle.gateway.specs.declared.Opening.{Opening}

-- What a gateway was set up with: its settings and its opening list.
pub record SetUpInput : Type 0 where
  pub opening : Opening
  pub list : List ℕ

-- N gateways, 1 to 255, each number once, one last hour H, each set up in memory of its own and accepted
pub record Forecast (n last : ℕ) (setups : ℕ → SetUpInput) (lent : ℕ → List ℕ) : Type 0 where
  pub some : 1 ≤ n
  pub most : n ≤ 255
  pub gateways : (i : ℕ) → i < n → (setups i).opening.n ≡ n
  pub numbers : (i : ℕ) → i < n → (setups i).opening.own ≡ i
  pub one_last : (i : ℕ) → i < n → (setups i).opening.last ≡ last
  pub bytes : (i : ℕ) → i < n → Bytes (lent i) × Bytes (setups i).list
  pub accepted : (i : ℕ) → i < n → (set_up (setups i).opening (setups i).list (lent i)).answer.number ≡ 0
