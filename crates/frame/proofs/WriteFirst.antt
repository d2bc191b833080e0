-- Reading what a well-formed frame was written as gives the frame.
use mathlib.Core.Path.{◌≡◌, refl, sym, ◌∙◌, ap, ap₂, subst}
use Prim.Native.Nat.{ℕ, zero, suc, ◌+◌, ◌^◌, ◌<◌, ◌≤◌}
use native.Mathlib.Omega.{arith}
use mathlib.Core.Bool.{Bool, true, false, cond, ◌&&◌}
use mathlib.Core.List.{List, [], ◌∷◌}
use lib.Dec.{leb, eqb}
use lib.ListN.{length, get_or, replicate}
use borrow.Author.Tests.{le-leb, lt-leb, leb-true, eq-eqb, eqb-true}
use Rattle.model.proofs.Ordered.{kind-again}
use Rattle.buffer.specs.Number.{bytes_of, number_of, number_from}
use Rattle.buffer.proofs.Numbers.{number-of-bytes}
use Rattle.model.specs.Messages.{kind_number, origin_of, quantity_of}
use Rattle.model.specs.declared.Kind.{Kind}
use Rattle.model.specs.declared.Kind.TheVariants.{Failure, Request, Delivery, Restock, Start, Lvt, Update}
use Rattle.frame.specs.Layout.{widths, whole_length, cut}
use Rattle.frame.specs.Kinds.{map_of_kind, has_hour, map_of, sense_number, sense_of, with_sense}
use Rattle.frame.specs.Writing.{contents, written, all_between, sense_allowed, hour_fits, well_formed, lamp_fits, gateways_agree}
use Rattle.frame.specs.Reasons.{lamp_of, values_of, fields_of, frame_of, map_fits, sense_fits, fields_reading, reading}
use Rattle.frame.specs.Inside.Steps.{head_bytes}
use Rattle.frame.specs.Claims.{RangedFrame}
use Rattle.frame.specs.declared.Frame.{Frame}
use Rattle.frame.specs.declared.Sense.{Sense}
use Rattle.frame.specs.declared.Sense.TheVariants.{Plain, Cancel, Acknowledgment, CancelAcknowledgment}
use Rattle.std.specs.Prelude.{Ok}
use Rattle.frame.specs.declared.Fields.{Fields}
use Rattle.lists.proofs.BoolLaws.{and_left, and_right}
use Rattle.frame.proofs.Cutting.{kept, cut-joined}
use Rattle.frame.proofs.Output.{written-parts, written-size, contents-sizes, whole-size}
use Rattle.frame.proofs.Presence.{map-small}
use Rattle.model.proofs.KindNumbers.{kind-below}

-- what a well-formed value keeps to
record Keeps (f : Frame) : Type 0 where
  sense : sense_allowed (kind_number f.message.kind) (sense_number f.sense) ≡ true
  hour : hour_fits (kind_number f.message.kind) f.message.hour ≡ true
  lamp : lamp_fits f.message ≡ true
  gateways : gateways_agree f.message.from f.message.to f.message.kind ≡ true

four : (a b c d : Bool) → (a && b && c && d) ≡ true → (a ≡ true) × (b ≡ true) × (c ≡ true) × (d ≡ true)
four a b c d e =
    let three = and_left (a && b && c) d e in
    let two = and_left (a && b) c three in
    (and_left a b two, and_right a b two, and_right (a && b) c three, and_right (a && b && c) d e)

keeps : (f : Frame) → well_formed f ≡ true → Keeps f
unfolding well_formed
keeps f e =
    let kind : ℕ = kind_number f.message.kind in
    let all = four (sense_allowed kind (sense_number f.sense)) (hour_fits kind f.message.hour) (lamp_fits f.message) (gateways_agree
    f.message.from f.message.to f.message.kind) e in
    record { sense = all.0; hour = all.1; lamp = all.2; gateways = all.3 }

sense-three : (s : Sense) → sense_number s ≤ 3
sense-three Plain = omega arith
sense-three Cancel = omega arith
sense-three Acknowledgment = omega arith
sense-three CancelAcknowledgment = omega arith

sense-same : (s : Sense) → sense_of (sense_number s) ≡ s
sense-same Plain = refl
sense-same Cancel = refl
sense-same Acknowledgment = refl
sense-same CancelAcknowledgment = refl

-- the fields of a frame as numbers
abbrev values_for : Frame → Fields
values_for f = record {
  kind = kind_number f.message.kind;
  from = f.message.from;
  to = f.message.to;
  hour = f.message.hour;
  origin = origin_of f.message.kind;
  lamp = f.message.lamp;
  quantity = quantity_of f.message.kind;
  sense = sense_number f.sense;
}

values-frame : (f : Frame) → frame_of (values_for f) ≡ f
values-frame f = ap₂ (λ (k : Kind) (s : Sense). record {
  message = record {
    hour = f.message.hour;
    from = f.message.from;
    to =
        f.message.to;
    kind = k;
    lamp = f.message.lamp;
  };
  sense = s;
}) (kind-again f.message.kind) (sense-same f.sense)

no_number : number_of [] ≡ 0
unfolding number_of number_from
no_number = refl

sense-value : (n : ℕ) → n ≤ 3 → number_of (cond (leb 1 n) (bytes_of 1 n) []) ≡ n
sense-value zero h = no_number
sense-value (suc n) h = rw (le-leb 1 (suc n) (omega arith)) (number-of-bytes 1 (suc n) (omega arith))

lamp-value : (lamp : List ℕ) → length lamp ≡ 18 → lamp_of lamp ≡ lamp
lamp-value [] e = absurd (omega arith)
lamp-value (b ∷ bs) e = refl

zero-lamp : (l : List ℕ) → all_between 0 0 l ≡ true → replicate (length l) 0 ≡ l
unfolding all_between
zero-lamp [] e = refl
zero-lamp (b ∷ bs) e =
    let here = and_left _ _ e in
    let low : b ≤ 0 = leb-true b 0 (and_right (leb 0 b) (leb b 0) here) in
    let none : 0 ≡ b = omega arith in
    ap₂ ◌∷◌ none (zero-lamp bs (and_right (leb 0 b && leb b 0) _ e))

no-lamp : (l : List ℕ) → length l ≡ 18 → all_between 0 0 l ≡ true → replicate 18 0 ≡ l
no-lamp l e t = ap (λ (n : ℕ). replicate n 0) (sym e) ∙ zero-lamp l t

-- which fields are there for each map
module _ (a b c d e l q s : List ℕ) where
  abbrev all : List (List ℕ)
  all = a ∷ b ∷ c ∷ d ∷ e ∷ l ∷ q ∷ s ∷ []

  kept-lamp : (has : Bool) → kept (cond has (63 + 128) 63) all ≡ a ∷ b ∷ c ∷ d ∷ e ∷ l ∷ [] ∷ cond has s [] ∷ []
  unfolding kept
  kept-lamp true = refl
  kept-lamp false = refl

  kept-quantity : (has : Bool) → kept (cond has (79 + 128) 79) all ≡ a ∷ b ∷ c ∷ d ∷ [] ∷ [] ∷ q ∷ cond has s [] ∷ []
  unfolding kept
  kept-quantity true = refl
  kept-quantity false = refl

  kept-start : (has : Bool) → kept (cond has (7 + 128) 7) all ≡ a ∷ b ∷ c ∷ [] ∷ [] ∷ [] ∷ [] ∷ cond has s [] ∷ []
  unfolding kept
  kept-start true = refl
  kept-start false = refl

  kept-hour : (has : Bool) → kept (cond has (15 + 128) 15) all ≡ a ∷ b ∷ c ∷ d ∷ [] ∷ [] ∷ [] ∷ cond has s [] ∷ []
  unfolding kept
  kept-hour true = refl
  kept-hour false = refl

module _ {k from to hour n : ℕ} (hk : k < 256 ^ 1) (hf : from < 256 ^ 1) (ht : to < 256 ^ 1) (hn : n ≤ 3) where
  lamp-values : (origin q : ℕ) (lamp : List ℕ) → hour < 256 ^ 4 → origin < 256 ^ 1 → length lamp ≡ 18
      → values_of (kept (cond (leb 1 n) (63 + 128) 63) (bytes_of 1 k ∷ bytes_of 1 from ∷ bytes_of 1 to ∷ bytes_of 4 hour ∷ bytes_of 1 origin ∷
      lamp ∷ bytes_of 2 q ∷ bytes_of 1 n ∷ []))
      ≡ record { kind = k; from = from; to = to; hour = hour; origin = origin; lamp = lamp; quantity = 0; sense = n }
  unfolding values_of
  lamp-values origin q lamp hh ho hl =
      rw (
        kept-lamp,
        number-of-bytes 1 k hk,
        number-of-bytes 1 from hf,
        number-of-bytes 1 to ht,
        number-of-bytes 4 hour hh,
        number-of-bytes
            1 origin ho,
        lamp-value lamp hl,
        sense-value n hn,
        no_number,
      )

  quantity-values : (origin q : ℕ) (lamp : List ℕ) → hour < 256 ^ 4 → q < 256 ^ 2 → replicate 18 0 ≡ lamp
      → values_of (kept (cond (leb 1 n) (79 + 128) 79) (bytes_of 1 k ∷ bytes_of 1 from ∷ bytes_of 1 to ∷ bytes_of 4 hour ∷ bytes_of 1 origin ∷
      lamp ∷ bytes_of 2 q ∷ bytes_of 1 n ∷ []))
      ≡ record { kind = k; from = from; to = to; hour = hour; origin = 0; lamp = lamp; quantity = q; sense = n }
  unfolding values_of
  quantity-values origin q lamp hh hq z =
      rw (
        ← z,
        kept-quantity,
        number-of-bytes 1 k hk,
        number-of-bytes 1 from hf,
        number-of-bytes 1 to ht,
        number-of-bytes 4 hour hh,
        number-of-bytes 2 q hq,
        sense-value n hn,
        no_number,
      )

  start-values : (origin q : ℕ) (lamp : List ℕ) → 0 ≡ hour → replicate 18 0 ≡ lamp
      → values_of (kept (cond (leb 1 n) (7 + 128) 7) (bytes_of 1 k ∷ bytes_of 1 from ∷ bytes_of 1 to ∷ bytes_of 4 hour ∷ bytes_of 1 origin ∷ lamp
      ∷ bytes_of 2 q ∷ bytes_of 1 n ∷ []))
      ≡ record { kind = k; from = from; to = to; hour = hour; origin = 0; lamp = lamp; quantity = 0; sense = n }
  unfolding values_of
  start-values origin q lamp zh z =
      rw (← z, ← zh, kept-start, number-of-bytes 1 k hk, number-of-bytes 1 from hf, number-of-bytes 1 to ht, sense-value n hn, no_number)

  hour-values : (origin q : ℕ) (lamp : List ℕ) → hour < 256 ^ 4 → replicate 18 0 ≡ lamp
      → values_of (kept (cond (leb 1 n) (15 + 128) 15) (bytes_of 1 k ∷ bytes_of 1 from ∷ bytes_of 1 to ∷ bytes_of 4 hour ∷ bytes_of 1 origin ∷
      lamp ∷ bytes_of 2 q ∷ bytes_of 1 n ∷ []))
      ≡ record { kind = k; from = from; to = to; hour = hour; origin = 0; lamp = lamp; quantity = 0; sense = n }
  unfolding values_of
  hour-values origin q lamp hh z =
      rw (← z, kept-hour, number-of-bytes 1 k hk, number-of-bytes 1 from hf, number-of-bytes 1 to ht, number-of-bytes 4 hour hh, sense-value n hn, no_number)

-- the fields of what a well-formed frame is written as, kind by kind
by-kind : (hour from to : ℕ) (kind : Kind) (lamp : List ℕ) (sense : Sense)
    → let f : Frame = record { message = record { hour = hour; from = from; to = to; kind = kind; lamp = lamp }; sense = sense } in
    RangedFrame f → Keeps f → values_of (kept (map_of f) (contents f)) ≡ values_for f
unfolding map_of contents lamp_fits has_hour
by-kind hour from to (Failure origin) lamp sense r w = lamp-values (omega arith) r.from r.to (sense-three sense) origin 0 lamp
    r.hour r.origin r.lamp
by-kind hour from to (Request origin) lamp sense r w = lamp-values (omega arith) r.from r.to (sense-three sense) origin 0 lamp
    r.hour r.origin r.lamp
by-kind hour from to (Delivery origin) lamp sense r w = lamp-values (omega arith) r.from r.to (sense-three sense) origin 0 lamp
    r.hour r.origin r.lamp
by-kind hour from to (Restock quantity) lamp sense r w =
    quantity-values (omega arith) r.from r.to (sense-three sense) 0 quantity lamp r.hour r.quantity (no-lamp lamp r.lamp w.lamp)
by-kind hour from to Start lamp sense r w =
    start-values (omega arith) r.from r.to (sense-three sense) 0 0 lamp (sym (eqb-true hour 0 w.hour)) (no-lamp lamp r.lamp w.lamp)
by-kind hour from to Lvt lamp sense r w =
    hour-values (omega arith) r.from r.to (sense-three sense) 0 0 lamp r.hour (no-lamp lamp r.lamp w.lamp)
by-kind hour from to Update lamp sense r w =
    hour-values (omega arith) r.from r.to (sense-three sense) 0 0 lamp r.hour (no-lamp lamp r.lamp w.lamp)

module _ (f : Frame) (r : RangedFrame f) (w : Keeps f) where
  fields_back : fields_of (written f) ≡ values_for f
  unfolding fields_of written
  fields_back =
      let cuts : cut 1 (map_of f) widths (written f) ≡ kept (map_of f) (contents f) = subst (λ (ws : List ℕ). cut 1 (map_of f) ws (written f) ≡
      kept (map_of f) (contents f)) (contents-sizes f r.lamp) (cut-joined (map_of f ∷ []) (map_of f) (contents f)) in
      ap values_of cuts ∙ by-kind f.message.hour f.message.from f.message.to f.message.kind f.message.lamp f.sense r w

  frame_back : frame_of (fields_of (written f)) ≡ f
  frame_back = ap frame_of fields_back ∙ values-frame f

  -- the kind is the second byte
  second-byte : get_or (written f) 1 0 ≡ kind_number f.message.kind
  unfolding head_bytes bytes_of
  second-byte = let below = kind-below f.message.kind in ap (λ (l : List ℕ). get_or l 1 0) (written-parts f) ∙ omega arith

map-allowed : (k : Kind) (n : ℕ) → sense_allowed (kind_number k) n ≡ true → map_fits (with_sense (map_of_kind (kind_number k)) n) (kind_number k) ≡ true
unfolding map_fits
map-allowed (Failure origin) n e = by (leb 1 n)
  where
    by : (b : Bool) → map_fits (cond b (63 + 128) 63) 0 ≡ true
    by true = refl
    by false = refl
map-allowed (Request origin) n e = by (leb 1 n)
  where
    by : (b : Bool) → map_fits (cond b (63 + 128) 63) 1 ≡ true
    by true = refl
    by false = refl
map-allowed (Delivery origin) n e = by (leb 1 n)
  where
    by : (b : Bool) → map_fits (cond b (63 + 128) 63) 2 ≡ true
    by true = refl
    by false = refl
map-allowed (Restock quantity) n e = rw (eqb-true n 0 e)
map-allowed Start n e = rw (eqb-true n 0 e)
map-allowed Lvt n e = rw (eqb-true n 0 e)
map-allowed Update n e = rw (eqb-true n 0 e)

sense-allowed : (map n : ℕ) → map < 128 → n ≤ 3 → sense_fits (with_sense map n) n ≡ true
sense-allowed map zero h k = rw (lt-leb 128 map h)
sense-allowed map (suc n) h k = rw (le-leb 1 (suc n) (omega arith), le-leb 128 (map + 128) (omega arith), le-leb (suc n) 3 k)

-- every test is passed
module _ (f : Frame) (r : RangedFrame f) (w : Keeps f) where
  first_byte : get_or (written f) 0 0 ≡ map_of f
  unfolding written
  first_byte = refl

  map-passes : map_fits (map_of f) (kind_number f.message.kind) ≡ true
  unfolding map_of
  map-passes = map-allowed f.message.kind (sense_number f.sense) w.sense

  sense-passes : sense_fits (map_of f) (sense_number f.sense) ≡ true
  unfolding map_of
  sense-passes = sense-allowed (map_of_kind (kind_number f.message.kind)) (sense_number f.sense) (map-small (kind_number f.message.kind)) (sense-three f.sense)

  long-passes : leb 2 (length (written f)) ≡ true
  long-passes = let size = written-size f in le-leb 2 (length (written f)) (omega arith)

  frame-read : reading (written f) ≡ Ok f
  unfolding reading fields_reading
  frame-read =
      let map : map_fits (get_or (written f) 0 0) (get_or (written f) 1 0) ≡ true = ap₂ map_fits first_byte (second-byte f r w) ∙ map-passes in
      let whole : eqb (length (written f)) (whole_length (get_or (written f) 0 0)) ≡ true = eq-eqb _ _ (whole-size f r.lamp ∙ ap whole_length
      (sym first_byte)) in
      let sense : sense_fits (get_or (written f) 0 0) (fields_of (written f)).sense ≡ true = ap₂ sense_fits first_byte (ap (λ (v : Fields).
      v.sense) (fields_back f r w)) ∙ sense-passes in
      let lamp : lamp_fits (frame_of (fields_of (written f))).message ≡ true = ap (λ (x : Frame). lamp_fits x.message) (frame_back f r w) ∙ w.lamp in
      let gateways : gateways_agree (frame_of (fields_of (written f))).message.from (frame_of (fields_of (written f))).message.to (frame_of
      (fields_of (written f))).message.kind ≡ true =
      ap (λ (x : Frame). gateways_agree x.message.from x.message.to x.message.kind) (frame_back f r w) ∙ w.gateways
      in
      rw (long-passes, map, whole, sense, lamp, gateways) (ap Ok (frame_back f r w))

pub read-after-write : (f : Frame) → RangedFrame f → well_formed f ≡ true → reading (written f) ≡ Ok f
read-after-write f r e = frame-read f r (keeps f e)
