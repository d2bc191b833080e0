-- What is proved of the call beside its contract and the law of secrecy.
use Rattle.std.specs.Prelude.{◌≡◌, ℕ, ◌≤◌, ◌<◌, ◌^◌, List, length}
use Rattle.buffer.specs.Slice.{Bytes}
use Rattle.records.specs.declared.StockField.{StockField}
use Rattle.views.specs.Bytes.{view}
use Rattle.views.specs.Viewing.{stock_field_of, viewed}
use Rattle.views.specs.Secrecy.{Taken}
use Rattle.views.specs.declared.Reader.{Reader}

pub record ViewClaims : Type 0 where
  -- a view of a record that is taken is no longer than the record, with the present stock and with the old one
  pub within : (reader : Reader) (field : StockField) (r : List ℕ) → Bytes r → Taken field r → length (view reader field r) ≤ length r
  -- so that with an output as long as the record the call answers 0
  pub answered : (reader old_stock : ℕ) (r out : List ℕ) → Bytes r → Taken (stock_field_of old_stock) r → reader < 2 → old_stock < 2
      → length r < 2 ^ 48 → length r ≤ length out → (viewed reader old_stock r out).answer.number ≡ 0
