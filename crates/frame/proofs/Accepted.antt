-- What is known of a byte string that is read.
use mathlib.Core.Path.{◌≡◌, refl, sym, ◌∙◌, ap}
use Prim.Native.Nat.{ℕ, zero, suc, ◌<◌, ◌≤◌}
use native.Mathlib.Omega.{arith}
use mathlib.Core.Bool.{Bool, true, false, ◌||◌, false≢true}
use mathlib.Core.Logic.{◌⊎◌, inl, inr, ⊎_elim}
use mathlib.Core.List.{List}
use lib.Dec.{eqb}
use lib.ListN.{length, get_or}
use borrow.Author.Tests.{leb-true, ltb-true, eqb-true, eq-eqb, ne_eqb}
use Rattle.lists.proofs.BoolLaws.{and_left}
use Rattle.model.specs.Messages.{kind_number, kind_of}
use Rattle.frame.specs.Layout.{odd, whole_length}
use Rattle.frame.specs.Writing.{lamp_fits, gateways_agree, unless}
use Rattle.std.specs.Prelude.{Result, Ok, Err, is_ok}
use Rattle.frame.specs.Reasons.{fields_of, frame_of, map_fits, sense_fits, fields_reading, reading, frame_in, frame_read}
use Rattle.buffer.proofs.Readings.{read_one}
use Rattle.frame.specs.Lamps.{lamp_form, carries_lamp, lamp_refusal}
use Rattle.frame.proofs.Presence.{lamp-kinds}
use Rattle.frame.proofs.FormNumbers.{ok-number, ok-passed}
use Rattle.frame.specs.declared.Frame.{Frame}
use Rattle.frame.specs.declared.forms.FormError.{FormError}

-- each test was passed
pub record Passes (s : List ℕ) : Type 0 where
  pub long : 2 ≤ length s
  pub map : map_fits (get_or s 0 0) (get_or s 1 0) ≡ true
  pub whole : length s ≡ whole_length (get_or s 0 0)
  pub sense : sense_fits (get_or s 0 0) (fields_of s).sense ≡ true
  pub lamp : lamp_fits (frame_of (fields_of s)).message ≡ true
  pub gateways : gateways_agree (fields_of s).from (fields_of s).to (frame_of (fields_of s)).message.kind ≡ true
  pub frame : frame_read s ≡ frame_of (fields_of s)

-- a reason counts unless its test was passed
passed : (b : Bool) (reason : FormError) (rest : Result Frame FormError) {f : Frame} → unless b (Err reason) rest ≡ Ok f → (b ≡ true) × (rest ≡ Ok f)
passed true reason rest e = (refl, e)
passed false reason rest e = absurd (false≢true (ap is_ok e))

pub accepted : (s : List ℕ) {f : Frame} → reading s ≡ Ok f → Passes s
unfolding reading fields_reading
accepted s e =
    let a = passed _ _ _ e in
    let b = passed _ _ _ a.1 in
    let c = passed _ _ _ b.1 in
    let d = passed _ _ _ c.1 in
    let g = passed _ _ _ d.1 in
    let h = passed _ _ _ g.1 in
    record {
      long = leb-true _ _ a.0;
      map = b.0;
      whole = eqb-true _ _ c.0;
      sense = d.0;
      lamp = g.0;
      gateways = h.0;
      frame = ap frame_in (e ∙ sym h.1);
    }

-- the five maps, with the kinds that have them
pub data Table (map kind : ℕ) : Type 0 where
  plain : map ≡ 63 → kind ≤ 2 → Table map kind
  sensed : map ≡ 191 → kind ≤ 2 → Table map kind
  restock : map ≡ 79 → kind ≡ 3 → Table map kind
  start : map ≡ 7 → kind ≡ 4 → Table map kind
  hourly : map ≡ 15 → 5 ≤ kind → kind ≤ 6 → Table map kind

either : (a b : Bool) → (a || b) ≡ true → (a ≡ true) ⊎ (b ≡ true)
either true b e = inl refl
either false b e = inr e

with-lamp : (map kind : ℕ) → kind ≤ 2 → (eqb map 63 || eqb map 191) ≡ true → Table map kind
with-lamp map kind h e = ⊎_elim (λ p. plain (eqb-true map 63 p) h) (λ p. sensed (eqb-true map 191 p) h) (either (eqb map 63) (eqb map 191) e)

without-lamp : (map n : ℕ) → (eqb map n || false) ≡ true → map ≡ n
without-lamp map n e = ⊎_elim (λ p. eqb-true map n p) (λ p. absurd (false≢true p)) (either (eqb map n) false e)

pub table : (map kind : ℕ) → map_fits map kind ≡ true → Table map kind
unfolding map_fits
table map zero e = with-lamp map 0 (omega arith) e
table map (suc zero) e = with-lamp map 1 (omega arith) e
table map (suc (suc zero)) e = with-lamp map 2 (omega arith) e
table map (suc (suc (suc zero))) e = restock (without-lamp map 79 e) refl
table map (suc (suc (suc (suc zero)))) e = start (without-lamp map 7 e) refl
table map (suc (suc (suc (suc (suc zero))))) e = hourly (without-lamp map 15 e) (omega arith) (omega arith)
table map (suc (suc (suc (suc (suc (suc zero)))))) e = hourly (without-lamp map 15 e) (omega arith) (omega arith)
table map (suc (suc (suc (suc (suc (suc (suc kind))))))) e =
    let below : suc (suc (suc (suc (suc (suc (suc kind)))))) < 7 = ltb-true _ 7 (and_left _ _ e) in
    absurd (omega arith)

pub kind-back : (kind origin quantity : ℕ) → kind < 7 → kind_number (kind_of kind origin quantity) ≡ kind
kind-back zero origin quantity h = refl
kind-back (suc zero) origin quantity h = refl
kind-back (suc (suc zero)) origin quantity h = refl
kind-back (suc (suc (suc zero))) origin quantity h = refl
kind-back (suc (suc (suc (suc zero)))) origin quantity h = refl
kind-back (suc (suc (suc (suc (suc zero))))) origin quantity h = refl
kind-back (suc (suc (suc (suc (suc (suc zero)))))) origin quantity h = refl
kind-back (suc (suc (suc (suc (suc (suc (suc kind))))))) origin quantity h = absurd (omega arith)

-- the kind is the second byte
pub kind-byte : (s : List ℕ) → Passes s → (fields_of s).kind ≡ get_or s 1 0
unfolding fields_of
kind-byte s p = by (table (get_or s 0 0) (get_or s 1 0) p.map)
  where
    from : (map : ℕ) → get_or s 0 0 ≡ map → odd map ≡ true → (fields_of s).kind ≡ get_or s 1 0
    from map e o = rw (e, o) (sym (read_one s 1 p.long))

    by : Table (get_or s 0 0) (get_or s 1 0) → (fields_of s).kind ≡ get_or s 1 0
    by (plain e h) = from 63 e refl
    by (sensed e h) = from 191 e refl
    by (restock e h) = from 79 e refl
    by (start e h) = from 7 e refl
    by (hourly e h k) = from 15 e refl

-- there is a lamp just where reading it is not refused
pub lamp-carried : (s : List ℕ) → lamp_refusal s ≡ 0 → carries_lamp (reading s) ≡ true
lamp-carried s h = ok-number (lamp_form (reading s)) ∙ eq-eqb (lamp_refusal s) 0 h

pub lamp-not-carried : (s : List ℕ) → (lamp_refusal s ≡ 0 → ⊥) → carries_lamp (reading s) ≡ false
lamp-not-carried s h = ok-number (lamp_form (reading s)) ∙ ne_eqb (lamp_refusal s) 0 h

-- a frame with a lamp has one of two maps
pub lamp-maps : (s : List ℕ) → carries_lamp (reading s) ≡ true → Passes s × ((get_or s 0 0 ≡ 63) ⊎ (get_or s 0 0 ≡ 191))
lamp-maps s e =
    let both = ok-passed _ (reading s) e in
    let p : Passes s = accepted s both.0 in
    (p, by p (table (get_or s 0 0) (get_or s 1 0) p.map) (leb-true _ 2 (sym (lamp-kinds _) ∙ both.1)))
  where
    kind : (p : Passes s) → get_or s 1 0 < 7 → kind_number (frame_read s).message.kind ≡ get_or s 1 0
    kind p h = ap (λ (f : Frame). kind_number f.message.kind) p.frame ∙ kind-back (fields_of s).kind _ _ (rw (kind-byte s p) h) ∙ kind-byte s p

    by : (p : Passes s) → Table (get_or s 0 0) (get_or s 1 0) → kind_number (frame_read s).message.kind ≤ 2 → (get_or s 0 0 ≡ 63) ⊎ (get_or s 0 0 ≡ 191)
    by p (plain q h) k = inl q
    by p (sensed q h) k = inr q
    by p (restock q h) k = let same = kind p (omega arith) in absurd (omega arith)
    by p (start q h) k = let same = kind p (omega arith) in absurd (omega arith)
    by p (hourly q h j) k = let same = kind p (omega arith) in absurd (omega arith)

-- so it has at least 27 bytes
pub lamp-inside : (s : List ℕ) → carries_lamp (reading s) ≡ true → 27 ≤ length s
unfolding whole_length
lamp-inside s e =
    let (p, maps) = lamp-maps s e in
    ⊎_elim (λ q. let size = rw q at p.whole in omega arith) (λ q. let size = rw q at p.whole in omega arith) maps
