-- The call: a law for each branch of the code.
use mathlib.Core.Path.{◌≡◌, sym, ◌∙◌, ap}
use mathlib.Core.Bool.{cond}
use mathlib.Core.List.{List}
use Prim.Native.Nat.{ℕ, ◌≤◌, ◌<◌}
use native.Mathlib.Omega.{arith}
use native.Mathlib.Decide.{ℕ_discrete}
use lib.Dec.{eqb}
use lib.ListN.{length}
use borrow.Author.Tests.{eq-eqb, ne_eqb, le-leb, lt-leb, lt-ltb, le-ltb}
use Rattle.std.specs.Prelude.{Ok, Err}
use Rattle.refusal.specs.declared.Refusal.{Refusal}
use Rattle.refusal.specs.declared.Refusal.TheVariants.{OutOfRange}
use Rattle.buffer.specs.Slice.{Bytes, write}
use Rattle.records.specs.Events.{record_refusal}
use Rattle.records.specs.Inside.Finding.{numbered, Passed, passed_as}
use Rattle.records.specs.declared.Weights.{Weights}
use Rattle.records.specs.declared.StockField.{StockField}
use Rattle.views.specs.Bytes.{view}
use Rattle.views.specs.Viewing.{reader_of, stock_field_of, ViewResult, refused_view, put_view, view_for, viewed}
use Rattle.views.specs.Inside.Parts.{lengths_for}
use Rattle.views.specs.declared.Reader.{Reader}
use Rattle.views.proofs.Measuring.{all-measured}

module _ (reader : Reader) (field : StockField) (bytes out : List ℕ) {weights : Weights} (w : weights ≡ lengths_for reader) {p : Passed}
    (q : p ≡ passed_as field weights bytes)
  where
    number_is : p.number ≡ record_refusal field bytes
    number_is = ap (λ (x : Passed). x.number) q

    pub record-refused : (p.number ≡ 0 → ⊥) → record { answer = record { number = p.number; written = 0 }; output = out } ≡ view_for reader field bytes out
    unfolding view_for
    record-refused d = rw (← number_is, ne_eqb p.number 0 d)

    module _ (b : Bytes bytes) (z : p.number ≡ 0) where
      pub record-taken : record_refusal field bytes ≡ 0
      record-taken = sym number_is ∙ z

      size : p.weight ≡ length (view reader field bytes)
      size = all-measured reader field bytes b w q z

      pub no_room : length out < p.weight → record { answer = record { number = 5; written = 0 }; output = out } ≡ view_for reader field bytes out
      unfolding view_for put_view
      no_room h = rw (eq-eqb (record_refusal field bytes) 0 record-taken, lt-leb (length (view reader field bytes)) (length out) (rw (← size) h))

      module _ (h : p.weight ≤ length out) where
        pub enough-room : length (view reader field bytes) ≤ length out
        enough-room = rw (← size) h

        pub all-written : {later : List ℕ} → later ≡ write 0 (view reader field bytes) out
            → record { answer = record { number = 0; written = p.weight }; output = later } ≡ view_for reader field bytes out
        unfolding view_for put_view
        all-written e = rw (e, size, eq-eqb (record_refusal field bytes) 0 record-taken, le-leb (length (view reader field bytes)) (length out) enough-room)

-- one of two things by its number
module _ {A : Type 0} (a b : A) (n : ℕ) where
  pub named : {x : A} → Ok x ≡ numbered a b n → (x ≡ cond (eqb n 0) a b) × (n < 2)
  named {x} e = by (ℕ_discrete n 0) (ℕ_discrete n 1)
    where
      by : Dec (n ≡ 0) → Dec (n ≡ 1) → (x ≡ cond (eqb n 0) a b) × (n < 2)
      by (yes p) d = let is = rw (eq-eqb n 0 p) at e in (rw (eq-eqb n 0 p) cc, omega (arith, p))
      by (no p) (yes q) = let is = rw (ne_eqb n 0 p, eq-eqb n 1 q) at e in (rw (ne_eqb n 0 p) cc, omega (arith, q))
      by (no p) (no q) = let is = rw (ne_eqb n 0 p, ne_eqb n 1 q) at e in absurd cc

  pub nameless : {why : Refusal} → Err why ≡ numbered a b n → (why ≡ OutOfRange) × (2 ≤ n)
  nameless {why} e = by (ℕ_discrete n 0) (ℕ_discrete n 1)
    where
      by : Dec (n ≡ 0) → Dec (n ≡ 1) → (why ≡ OutOfRange) × (2 ≤ n)
      by (yes p) d = let is = rw (eq-eqb n 0 p) at e in absurd cc
      by (no p) (yes q) = let is = rw (ne_eqb n 0 p, eq-eqb n 1 q) at e in absurd cc
      by (no p) (no q) = let is = rw (ne_eqb n 0 p, ne_eqb n 1 q) at e in (cc, omega arith)

module _ (reader old_stock : ℕ) (bytes out : List ℕ) where
  pub no_reader : 2 ≤ reader → refused_view 8 out ≡ viewed reader old_stock bytes out
  unfolding viewed
  no_reader h = rw (le-ltb reader 2 h)

  module _ (h : reader < 2) where
    pub no-such-stock : 2 ≤ old_stock → refused_view 8 out ≡ viewed reader old_stock bytes out
    unfolding viewed
    no-such-stock l = rw (lt-ltb reader 2 h, le-ltb old_stock 2 l)

    module _ (l : old_stock < 2) where
      pub too_long : 281474976710656 ≤ length bytes → refused_view 8 out ≡ viewed reader old_stock bytes out
      unfolding viewed
      too_long k = rw (lt-ltb reader 2 h, lt-ltb old_stock 2 l, le-ltb (length bytes) 281474976710656 k)

      pub in-range : {r : Reader} {field : StockField} {left : ViewResult} → length bytes < 281474976710656 → r ≡ reader_of reader → field ≡ stock_field_of old_stock
          → left ≡ view_for r field bytes out → left ≡ viewed reader old_stock bytes out
      unfolding viewed
      in-range k e f p = p ∙ rw (e, f, lt-ltb reader 2 h, lt-ltb old_stock 2 l, lt-ltb (length bytes) 281474976710656 k)
