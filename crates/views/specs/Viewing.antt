-- The call: one reader's view of a whole record.
use Rattle.std.specs.Prelude.{ℕ, ◌^◌, Bool, cond, ◌&&◌, Result, Ok, Err, List, leb, ltb, eqb, length}
use Rattle.refusal.specs.Numbers.{refusal_number}
use Rattle.refusal.specs.declared.Refusal.{Refusal}
use Rattle.buffer.specs.Slice.{write}
use Rattle.records.specs.Events.{record_refusal}
use Rattle.records.specs.declared.StockField.{StockField}
use Rattle.records.specs.declared.StockField.TheVariants.{Present, Old}
use Rattle.views.specs.Bytes.{view}
use Rattle.views.specs.declared.Reader.{Reader}
use Rattle.views.specs.declared.Reader.TheVariants.{Purchasing, Maintenance}

-- the readers' numbers: 0 purchasing, 1 maintenance
abbrev pub reader_of : ℕ → Reader
reader_of number = cond (eqb number 0) Purchasing Maintenance

-- whether a record has the old stock: 0 no, 1 yes
abbrev pub stock_field_of : ℕ → StockField
stock_field_of number = cond (eqb number 0) Present Old

-- one of these numbers each, and a record of fewer than 2^48 bytes; else 8
abbrev pub askable : (reader old_stock : ℕ) → List ℕ → Bool
askable reader old_stock bytes = ltb reader 2 && (ltb old_stock 2 && ltb (length bytes) (2 ^ 48))

-- what the call answers: 0 and the bytes written, or what it is refused with
pub record ViewAnswer : Type 0 where
  pub number : ℕ
  pub written : ℕ

abbrev pub answer_in : Result ℕ Refusal → ViewAnswer
answer_in (Ok written) = record { number = 0; written = written }
answer_in (Err why) = record { number = refusal_number why; written = 0 }

-- what the call leaves: its answer and the output
pub record ViewResult : Type 0 where
  pub answer : ViewAnswer
  pub output : List ℕ

-- a refusal writes nothing
abbrev pub refused_view : ℕ → List ℕ → ViewResult
refused_view number out = record { answer = record { number = number; written = 0 }; output = out }

-- bytes at the front of the output, those past them as they were; 5 where there is no room for all of them
unfoldable pub put_view : List ℕ → List ℕ → ViewResult
put_view bytes out =
    cond (leb (length bytes) (length out))
    (record { answer = record { number = 0; written = length bytes }; output = write 0 bytes out })
    (refused_view 5 out)

-- the refusals of the record, event by event, and 5 last
unfoldable pub view_for : Reader → StockField → List ℕ → List ℕ → ViewResult
unfolding record_refusal view put_view
view_for reader field bytes out =
    let number = record_refusal field bytes in
    cond (eqb number 0) (put_view (view reader field bytes) out) (refused_view number out)

-- 8 first of all
unfoldable pub viewed : (reader old_stock : ℕ) → List ℕ → List ℕ → ViewResult
unfolding view_for
viewed reader old_stock bytes out =
    cond (askable reader old_stock bytes) (view_for (reader_of reader) (stock_field_of old_stock) bytes out) (refused_view 8 out)
