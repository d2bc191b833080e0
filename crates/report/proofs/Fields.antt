-- Fields put one behind the other, and the lamp or a dash behind them.
use mathlib.Core.Path.{◌≡◌, refl, sym, ◌∙◌, ap}
use Prim.Native.Nat.{ℕ, ◌+◌, ◌≤◌, ◌<◌}
use native.Mathlib.Omega.{arith}
use mathlib.Core.Bool.{Bool, true, false}
use mathlib.Core.List.{List, ◌++◌, append_assoc}
use lib.Dec.{eqb}
use lib.ListN.{length, set}
use denote.Ref.{Bor}
use borrow.Author.Tests.{eqb-true, eqb-false, eq-eqb, ne_eqb}
use Rattle.buffer.specs.Slice.{write, Puts}
use Rattle.buffer.proofs.Putting.{puts-byte, puts-more, puts-length}
use Rattle.model.specs.Messages.{kind_number, origin_of, quantity_of}
use Rattle.model.specs.declared.Message.{Message}
use Rattle.frame.specs.Kinds.{has_lamp, sense_number}
use Rattle.std.specs.Prelude.{Some, Ok, Err, is_ok}
use Rattle.frame.specs.Reasons.{reading, frame_read}
use Rattle.frame.specs.Lamps.{IsLamp, lamp_form, lamp_refusal, with_lamp}
use Rattle.frame.specs.declared.Frame.{Frame}
use Rattle.frame.specs.declared.forms.FormError.{FormError}
use Rattle.frame.proofs.FormNumbers.{ok-number, ok-passes}
use Rattle.frame.proofs.Laws.{lamp-and-number}
use Rattle.text.specs.Decimal.{field}
use Rattle.reasons.specs.Words.{refused_text}
use Rattle.report.specs.Line.{route, content, lamp_text, frame_text, line}

-- a stretch that is no longer than a bound leaves the length, and more can be put behind it
same : (at a : ℕ) (m : List ℕ) {xs m₁ : List ℕ} {p : ℕ} → at + a ≤ length m → Puts at xs m m₁ p → p ≤ at + a → length m₁ ≡ length m
same at a m room x b = puts-length (omega (arith, x.position)) x

two : (at a : ℕ) (m : List ℕ) {xs ys m₁ m₂ : List ℕ} {p q : ℕ} → at + a ≤ length m → Puts at xs m m₁ p → p ≤ at + a → Puts p ys m₁ m₂ q →
    Puts at (xs ++ ys) m m₂ q
two at a m room x b y = puts-more (omega (arith, x.position)) x y

three : (at a b : ℕ) (m : List ℕ) {xs ys zs m₁ m₂ m₃ : List ℕ} {p q r : ℕ} → at + (a + b) ≤ length m → Puts at xs m m₁ p → p ≤ at + a
    → Puts p ys m₁ m₂ q → q ≤ p + b → Puts q zs m₂ m₃ r → Puts at (xs ++ (ys ++ zs)) m m₃ r
three at a b m {m₁ = m₁} {p = p} room x h y k z =
    let l = same at a m (omega arith) x h in
    two at a m (omega arith) x h (two p b m₁ (omega arith) y k z)

-- the stretches of the code, each with its bound
module _ (at : ℕ) (m : List ℕ) {m₁ m₂ m₃ : List ℕ} {p q r : ℕ} where
  pub route-put : (x : Message) {k : ℕ} {m₄ : List ℕ} {s : ℕ} → at + 44 ≤ length m → k ≡ kind_number x.kind
      → (Puts at (field k) m m₁ p) × (p ≤ at + 11) → (Puts p (field x.from) m₁ m₂ q) × (q ≤ p + 11)
      → (Puts q (field x.to) m₂ m₃ r) × (r ≤ q + 11) → (Puts r (field x.hour) m₃ m₄ s) × (s ≤ r + 11) → Puts at (route x) m m₄ s
  unfolding route
  route-put x {k} room e a b c d =
      let l = same at 11 m (omega arith) a.0 a.1 in
      let first : Puts at (field (kind_number x.kind)) m m₁ p = rw e at a.0 in
      two at 11 m (omega arith) first a.1 (three p 11 11 m₁ (omega (arith, a.1)) b.0 b.1 c.0 c.1 d.0)

  pub content-put : (f : Frame) {o w n : ℕ} → at + 33 ≤ length m → o ≡ origin_of f.message.kind
      → (Puts at (field o) m m₁ p) × (p ≤ at + 11) → w ≡ quantity_of f.message.kind → (Puts p (field w) m₁ m₂ q) × (q ≤ p + 11)
      → n ≡ sense_number f.sense → (Puts q (field n) m₂ m₃ r) × (r ≤ q + 11) → Puts at (content f) m m₃ r
  unfolding content
  content-put f {o} {w} {n} room e a g b h c =
      let first : Puts at (field (origin_of f.message.kind)) m m₁ p = rw e at a.0 in
      let second : Puts p (field (quantity_of f.message.kind)) m₁ m₂ q = rw g at b.0 in
      let third : Puts q (field (sense_number f.sense)) m₂ m₃ r = rw h at c.0 in
      three at 11 11 m (omega arith) first a.1 second b.1 third

pub fields-put : (at : ℕ) (m : List ℕ) {m₁ m₂ : List ℕ} {p q : ℕ} (f : Frame) → at + 77 ≤ length m → (Puts at (route f.message) m m₁ p) × (p ≤ at + 44)
    → (Puts p (content f) m₁ m₂ q) × (q ≤ p + 33) → Puts at (route f.message ++ content f) m m₂ q
fields-put at m f room a b = two at 44 m (omega arith) a.0 a.1 b.0

-- the lamp of a frame, or a dash
module _ (item : Bor (List ℕ)) (good : is_ok (reading item.now) ≡ true) where
  abbrev frame : Frame
  frame = frame_read item.now

  -- a frame has a lamp just where reading it is not refused
  lamp-test : has_lamp (kind_number frame.message.kind) ≡ is_ok (lamp_form (reading item.now))
  lamp-test = sym (ok-passes with_lamp (reading item.now) ∙ rw good)

  -- the part that reading it hands back
  module _ (part : Bor (List ℕ)) (is : IsLamp item part) where
    refused : length part.now ≡ 0 → lamp_refusal item.now ≡ 0 → ⊥
    refused h z = let size = lamp-and-number.whole item part is z in omega arith

    found : (length part.now ≡ 0 → ⊥) → lamp_refusal item.now ≡ 0
    found h = by (eqb (lamp_refusal item.now) 0) refl
      where
        by : (b : Bool) → eqb (lamp_refusal item.now) 0 ≡ b → lamp_refusal item.now ≡ 0
        by true e = eqb-true _ 0 e
        by false e = absurd (h (ap length (lamp-and-number.refused item part is (eqb-false _ 0 e))))

    pub part_length : (length part.now ≡ 0 → ⊥) → length part.now ≡ 18
    part_length h = lamp-and-number.whole item part is (found h)

    pub lamp-put : (at : ℕ) (m : List ℕ) {after : List ℕ} → (length part.now ≡ 0 → ⊥) → after ≡ write at part.now m
        → Puts at (lamp_text frame.message) m after (at + length part.now)
    unfolding lamp_text
    lamp-put at m h w =
        let carried : is_ok (lamp_form (reading item.now)) ≡ true = ok-number (lamp_form (reading item.now)) ∙ eq-eqb (lamp_refusal item.now) 0 (found h) in
        rw (lamp-test, carried, ← lamp-and-number.found item part is (found h)) (record { position = refl; output = w })

    pub dash-put : (at : ℕ) (m : List ℕ) → length part.now ≡ 0 → at < length m → Puts at (lamp_text frame.message) m (set m at 45) (at + 1)
    unfolding lamp_text
    dash-put at m h room =
        let none : is_ok (lamp_form (reading item.now)) ≡ false = ok-number (lamp_form (reading item.now)) ∙ ne_eqb (lamp_refusal item.now) 0 (refused h) in
        rw (lamp-test, none) (puts-byte at 45 m room)

module _ (at : ℕ) (m s : List ℕ) where
  pub frame-put : {f : Frame} {m₁ m₂ : List ℕ} {p q : ℕ} → Ok f ≡ reading s → at + 100 ≤ length m
      → (Puts at (route f.message ++ content f) m m₁ p) × (p ≤ at + 77)
      → (Puts p (lamp_text (frame_read s).message) m₁ m₂ q) × (q ≤ p + 18) → Puts at (line s) m m₂ q
  unfolding line frame_text
  frame-put {f} e room fields lamp =
      let same-lamp = rw (← e) at lamp.0 in
      rw (← e, ← append_assoc (route f.message) (content f) (lamp_text f.message))
      (two at 77 m (omega arith) fields.0 fields.1 same-lamp)

  pub refused-put : {reason : FormError} {now : List ℕ} {p : ℕ} → Err reason ≡ reading s → Puts at (refused_text (Some reason)) m now p → Puts at (line s) m now p
  unfolding line
  refused-put e x = rw (← e) x
