-- The answer of the call: its number fits a byte, and it writes no more than the record has bytes.
use mathlib.Core.Path.{◌≡◌, refl}
use mathlib.Core.Bool.{Bool, true, false, cond}
use mathlib.Core.List.{List}
use Prim.Native.Nat.{ℕ, ◌≤◌, ◌<◌, ◌^◌}
use native.Mathlib.Omega.{arith}
use lib.Dec.{leb, ltb, eqb}
use lib.ListN.{length}
use borrow.Author.Tests.{eqb-true, ltb-true, eq-eqb, lt-ltb, le-leb}
use Rattle.lists.proofs.BoolLaws.{and_right}
use Rattle.lists.proofs.PieceLaws.{first_below}
use Rattle.buffer.specs.Slice.{Bytes, write}
use Rattle.records.specs.Events.{cut_events, event_refusal, record_refusal}
use Rattle.records.specs.declared.StockField.{StockField}
use Rattle.records.proofs.EventNumbers.{event-number}
use Rattle.views.specs.Bytes.{view}
use Rattle.views.specs.Viewing.{reader_of, stock_field_of, askable, ViewResult, refused_view, put_view, view_for, viewed}
use Rattle.views.specs.Secrecy.{Taken}
use Rattle.views.specs.Claims.{ViewClaims}
use Rattle.views.specs.declared.Reader.{Reader}
use Rattle.views.proofs.Measuring.{view-within}

-- the record's number
refusal-small : (field : StockField) (bytes : List ℕ) → record_refusal field bytes < 256
unfolding record_refusal
refusal-small field bytes = first_below (event_refusal field) 256 (omega arith) (event-number field) (cut_events field bytes)

module _ (reader : Reader) (field : StockField) (bytes out : List ℕ) where
  abbrev left : Bool → Bool → ViewResult
  left taken room =
      cond taken
      (cond room (record { answer = record { number = 0; written = length (view reader field bytes) }; output = write 0 (view reader field bytes) out }) (refused_view 5 out))
      (refused_view (record_refusal field bytes) out)

  for-number : (view_for reader field bytes out).answer.number < 256
  unfolding view_for put_view
  for-number = by (eqb (record_refusal field bytes) 0) (leb (length (view reader field bytes)) (length out))
    where
      by : (taken room : Bool) → (left taken room).answer.number < 256
      by true true = omega arith
      by true false = omega arith
      by false room = refusal-small field bytes

  for-written : Bytes bytes → (view_for reader field bytes out).answer.written ≤ length bytes
  unfolding view_for put_view
  for-written b = by (eqb (record_refusal field bytes) 0) refl (leb (length (view reader field bytes)) (length out))
    where
      by : (taken : Bool) → eqb (record_refusal field bytes) 0 ≡ taken → (room : Bool) → (left taken room).answer.written ≤ length bytes
      by true e true = view-within reader field bytes b (eqb-true (record_refusal field bytes) 0 e)
      by true e false = omega arith
      by false e room = omega arith

module _ (reader old_stock : ℕ) (bytes out : List ℕ) where
  pub number_small : (viewed reader old_stock bytes out).answer.number < 256
  unfolding viewed
  number_small = by (askable reader old_stock bytes)
    where
      by : (b : Bool) → (cond b (view_for (reader_of reader) (stock_field_of old_stock) bytes out) (refused_view 8 out)).answer.number < 256
      by true = for-number (reader_of reader) (stock_field_of old_stock) bytes out
      by false = omega arith

  pub written-few : Bytes bytes → (viewed reader old_stock bytes out).answer.written < 2 ^ 48
  unfolding viewed
  written-few b = by (askable reader old_stock bytes) refl
    where
      by : (t : Bool) → askable reader old_stock bytes ≡ t → (cond t (view_for (reader_of reader) (stock_field_of old_stock) bytes out) (refused_view 8 out)).answer.written < 2 ^ 48
      by true e =
          let few : length bytes < 2 ^ 48 = ltb-true (length bytes) (2 ^ 48) (and_right (ltb old_stock 2) _ (and_right (ltb reader 2) _ e)) in
          omega (arith, few, for-written (reader_of reader) (stock_field_of old_stock) bytes out b)
      by false e = omega arith

answered-zero : (reader old_stock : ℕ) (r out : List ℕ) → Bytes r → Taken (stock_field_of old_stock) r → reader < 2 → old_stock < 2 → length r < 2 ^ 48
    → length r ≤ length out → (viewed reader old_stock r out).answer.number ≡ 0
unfolding viewed view_for put_view
answered-zero reader old_stock r out b t who which long room =
    let field = stock_field_of old_stock in
    let fits : length (view (reader_of reader) field r) ≤ length out = omega (arith, view-within (reader_of reader) field r b t) in
    rw (
      lt-ltb reader 2 who,
      lt-ltb old_stock 2 which,
      lt-ltb (length r) (2 ^ 48) long,
      eq-eqb (record_refusal field r) 0 t,
      le-leb (length (view (reader_of reader) field r)) (length out) fits,
    )

pub view-claims : ViewClaims
view-claims = record { within = view-within; answered = answered-zero }
