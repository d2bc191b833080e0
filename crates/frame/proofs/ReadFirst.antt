-- A byte string that is read is what its frame is written as, and its frame is well formed.
use mathlib.Core.Path.{◌≡◌, refl, sym, ◌∙◌, ap, ap₂, subst}
use mathlib.Core.Logic.{◌⊎◌, inl, inr}
use Prim.Native.Nat.{ℕ, zero, suc, ◌+◌, ◌/◌, ◌^◌, ◌<◌, ◌≤◌}
use native.Mathlib.Nat.{lt_of_lt_of_le, one-le-pow, pow-le-pow_right}
use native.Mathlib.Omega.{arith}
use mathlib.Core.Bool.{Bool, true, false, cond, ◌&&◌, ◌||◌}
use mathlib.Core.List.{List, [], ◌∷◌}
use lib.Dec.{leb, eqb}
use lib.ListN.{length, drop, get_or, replicate, length-take, length-drop}
use borrow.Author.Tests.{le-leb, leb-true, eq-eqb}
use Rattle.lists.proofs.BoolLaws.{and_left, and_right}
use Rattle.buffer.proofs.Lent.{bytes-part}
use Rattle.lists.specs.Lists.{tally}
use Rattle.buffer.specs.Slice.{Bytes, part}
use Rattle.buffer.specs.Number.{bytes_of, number_of, number_from}
use Rattle.buffer.proofs.Writes.{part-nil, length_part}
use Rattle.buffer.proofs.Numbers.{number-below}
use Rattle.model.specs.Messages.{kind_number, origin_of, quantity_of, kind_of}
use Rattle.model.specs.declared.Kind.{Kind}
use Rattle.model.specs.declared.Kind.TheVariants.{Failure, Request, Delivery, Restock, Start, Lvt, Update}
use Rattle.frame.specs.Layout.{widths, odd, standing, whole_length, cut}
use Rattle.frame.specs.Kinds.{map_of_kind, has_hour, has_lamp, map_of, sense_number, sense_of}
use Rattle.frame.specs.Writing.{contents, written, sense_allowed, hour_fits, well_formed}
use Rattle.frame.specs.Reasons.{fields_of, frame_of, sense_fits}
use Rattle.frame.specs.Claims.{RangedFrame}
use Rattle.frame.specs.declared.Frame.{Frame}
use Rattle.frame.specs.declared.Fields.{Fields}
use Rattle.frame.proofs.Branches.{lamp-map}
use Rattle.frame.proofs.Presence.{lamp-kinds, hour-stands}
use Rattle.frame.proofs.Walking.{lamp-bytes}
use Rattle.frame.proofs.Cutting.{joined-cut, bytes_back}
use Rattle.frame.proofs.Accepted.{Passes, Table, plain, sensed, restock, start, hourly, table, kind-back, kind-byte}

sense-back : (n : ℕ) → n ≤ 3 → sense_number (sense_of n) ≡ n
sense-back zero h = refl
sense-back (suc zero) h = refl
sense-back (suc (suc zero)) h = refl
sense-back (suc (suc (suc zero))) h = refl
sense-back (suc (suc (suc (suc n)))) h = absurd (omega arith)

origin-back : (kind origin quantity : ℕ) → kind ≤ 2 → origin_of (kind_of kind origin quantity) ≡ origin
origin-back zero origin quantity h = refl
origin-back (suc zero) origin quantity h = refl
origin-back (suc (suc zero)) origin quantity h = refl
origin-back (suc (suc (suc kind))) origin quantity h = absurd (omega arith)

hour-map : (kind : ℕ) → 5 ≤ kind → kind ≤ 6 → map_of_kind kind ≡ 15
unfolding map_of_kind
hour-map zero l h = absurd (omega arith)
hour-map (suc zero) l h = absurd (omega arith)
hour-map (suc (suc zero)) l h = absurd (omega arith)
hour-map (suc (suc (suc zero))) l h = absurd (omega arith)
hour-map (suc (suc (suc (suc zero)))) l h = absurd (omega arith)
hour-map (suc (suc (suc (suc (suc zero))))) l h = refl
hour-map (suc (suc (suc (suc (suc (suc zero)))))) l h = refl
hour-map (suc (suc (suc (suc (suc (suc (suc kind))))))) l h = absurd (omega arith)

sense-told : (map sense : ℕ) → map ≡ 191 → sense_fits map sense ≡ true → (leb 1 sense && leb sense 3) ≡ true
sense-told map sense e t = rw e at t

-- no bytes are the number zero
no_bytes : (s : List ℕ) (at : ℕ) → number_of (part s at 0) ≡ 0
unfolding number_of number_from
no_bytes s at = rw part-nil

bytes-zeros : (n : ℕ) → Bytes (replicate n 0)
bytes-zeros zero i = omega arith
bytes-zeros (suc n) zero = omega arith
bytes-zeros (suc n) (suc i) = bytes-zeros n i

cons-back : (s : List ℕ) → 2 ≤ length s → get_or s 0 0 ∷ drop 1 s ≡ s
cons-back [] h = absurd (omega arith)
cons-back (x ∷ s) h = refl

-- the map of a frame by its fields
module _ (v : Fields) {kind map : ℕ} (k : v.kind ≡ kind) (h : kind < 7) (m : map_of_kind kind ≡ map) where
  kind-is : kind_number (frame_of v).message.kind ≡ kind
  kind-is = kind-back v.kind v.origin v.quantity (rw k h) ∙ k

  map-without : v.sense ≡ 0 → map_of (frame_of v) ≡ map
  unfolding map_of
  map-without s = rw (kind-is, s) m

  map_with : 1 ≤ v.sense → v.sense ≤ 3 → map_of (frame_of v) ≡ map + 128
  unfolding map_of
  map_with l u = rw (kind-is, sense-back v.sense u, le-leb 1 v.sense l, m)

-- the fields' bytes for each map
module _ (v : Fields) {a b c : List ℕ} (ka : bytes_of 1 v.kind ≡ a) (fb : bytes_of 1 v.from ≡ b) (tc : bytes_of 1 v.to ≡ c) (small : v.kind < 7) where
  start-contents : standing 7 (contents (frame_of v)) ≡ a ∷ b ∷ c ∷ []
  unfolding contents standing
  start-contents = rw (kind-back v.kind v.origin v.quantity small, ka, fb, tc)

  module _ {d : List ℕ} (hd : bytes_of 4 v.hour ≡ d) where
    hour-contents : standing 15 (contents (frame_of v)) ≡ a ∷ b ∷ c ∷ d ∷ []
    unfolding contents standing
    hour-contents = rw (kind-back v.kind v.origin v.quantity small, ka, fb, tc, hd)

    restock-contents : {q : List ℕ} → v.kind ≡ 3 → bytes_of 2 v.quantity ≡ q → standing 79 (contents (frame_of v)) ≡ a ∷ b ∷ c ∷ d ∷ q ∷ []
    unfolding contents standing
    restock-contents k hq =
        let number : quantity_of (kind_of v.kind v.origin v.quantity) ≡ v.quantity = rw k in
        rw (kind-back v.kind v.origin v.quantity small, number, ka, fb, tc, hd, hq)

    module _ (k : v.kind ≤ 2) {e l : List ℕ} (oe : bytes_of 1 v.origin ≡ e) (vl : v.lamp ≡ l) where
      lamp-contents : standing 63 (contents (frame_of v)) ≡ a ∷ b ∷ c ∷ d ∷ e ∷ l ∷ []
      unfolding contents standing
      lamp-contents = rw (kind-back v.kind v.origin v.quantity small, origin-back v.kind v.origin v.quantity k, ka, fb, tc, hd, oe, vl)

      sense-contents : {n : List ℕ} → v.sense ≤ 3 → bytes_of 1 v.sense ≡ n → standing 191 (contents (frame_of v)) ≡ a ∷ b ∷ c ∷ d ∷ e ∷ l ∷ n ∷ []
      unfolding contents standing
      sense-contents u sn =
          rw (
            kind-back v.kind v.origin v.quantity small,
            origin-back v.kind v.origin v.quantity k,
            sense-back v.sense
                u,
            ka,
            fb,
            tc,
            hd,
            oe,
            vl,
            sn,
          )

-- joined again, the fields are the byte string
rejoin : (s : List ℕ) → Passes s → (map : ℕ) → get_or s 0 0 ≡ map → map_of (frame_of (fields_of s)) ≡ map
    → standing map (contents (frame_of (fields_of s))) ≡ standing map (cut 1 map widths s) → written (frame_of (fields_of s)) ≡ s
unfolding written whole_length
rejoin s p map e m same =
    let size : length s ≡ 1 + tally (λ n. n) (standing map widths) = rw e at p.whole in
    ap₂ ◌∷◌ (m ∙ sym e) (rw (m, same) (joined-cut 1 map widths s size)) ∙ cons-back s p.long

-- sense and hour are such as the kind may have
pub record Formed (f : Frame) : Type 0 where
  pub sense : sense_allowed (kind_number f.message.kind) (sense_number f.sense) ≡ true
  pub hour : hour_fits (kind_number f.message.kind) f.message.hour ≡ true

lamp-formed : (v : Fields) → v.kind ≤ 2 → Formed (frame_of v)
lamp-formed v k =
    let kind = kind-is v refl (omega arith) refl in
    record {
      sense = rw (kind, lamp-kinds v.kind, le-leb v.kind 2 k);
      hour = rw (kind, hour-stands v.kind (lamp-map v.kind k) refl);
    }

other-formed : (v : Fields) {kind : ℕ} → v.kind ≡ kind → kind < 7 → v.sense ≡ 0 → hour_fits kind v.hour ≡ true → Formed (frame_of v)
other-formed v {kind} k h s t =
    let number = kind-is v k h refl in
    record {
      sense = rw (s) (either-zero (has_lamp (kind_number (frame_of v).message.kind)));
      hour = rw number t;
    }
  where
    either-zero : (a : Bool) → (a || true) ≡ true
    either-zero true = refl
    either-zero false = refl

-- what is claimed of a byte string that is read
pub record Returns (s : List ℕ) (f : Frame) : Type 0 where
  pub same : written f ≡ s
  pub formed : Formed f

module _ (s : List ℕ) (b : Bytes s) (p : Passes s) where
  plain-returns : get_or s 0 0 ≡ 63 → get_or s 1 0 ≤ 2 → Returns s (frame_of (fields_of s))
  unfolding fields_of whole_length standing cut
  plain-returns e h =
      let size : length s ≡ 27 = rw e at p.whole in
      let kind : (fields_of s).kind ≤ 2 = rw (kind-byte s p) h in
      let none : (fields_of s).sense ≡ 0 = rw e (no_bytes s 27) in
      let m : map_of (frame_of (fields_of s)) ≡ 63 = map-without (fields_of s) refl (omega arith) (lamp-map (fields_of s).kind kind) none in
      record {
        same =
            rejoin s p 63 e m
            (lamp-contents (fields_of s)
            (rw e (bytes_back s 1 1 b (omega arith)))
            (rw e (bytes_back s 2 1 b (omega arith)))
            (rw e (bytes_back s 3 1 b (omega arith)))
            (omega arith)
            (rw e (bytes_back s 4 4 b (omega arith)))
            kind
            (rw e (bytes_back s 8 1 b (omega arith)))
            (rw e (lamp-bytes s 9 (omega arith))));
        formed = lamp-formed (fields_of s) kind;
      }

  sensed-returns : get_or s 0 0 ≡ 191 → get_or s 1 0 ≤ 2 → Returns s (frame_of (fields_of s))
  unfolding fields_of whole_length standing cut
  sensed-returns e h =
      let size : length s ≡ 28 = rw e at p.whole in
      let kind : (fields_of s).kind ≤ 2 = rw (kind-byte s p) h in
      let told : (leb 1 (fields_of s).sense && leb (fields_of s).sense 3) ≡ true = sense-told (get_or s 0 0) (fields_of s).sense e p.sense in
      let low : 1 ≤ (fields_of s).sense = leb-true 1 (fields_of s).sense (and_left _ _ told) in
      let high : (fields_of s).sense ≤ 3 = leb-true (fields_of s).sense 3 (and_right (leb 1 (fields_of s).sense) _ told) in
      let m : map_of (frame_of (fields_of s)) ≡ 191 = map_with (fields_of s) refl (omega arith) (lamp-map (fields_of s).kind kind) low high in
      record {
        same =
            rejoin s p 191 e m
            (sense-contents (fields_of s)
            (rw e (bytes_back s 1 1 b (omega arith)))
            (rw e (bytes_back s 2 1 b (omega arith)))
            (rw e (bytes_back s 3 1 b (omega arith)))
            (omega arith)
            (rw e (bytes_back s 4 4 b (omega arith)))
            kind
            (rw e (bytes_back s 8 1 b (omega arith)))
            (rw e (lamp-bytes s 9 (omega arith)))
            high
            (rw e (bytes_back s 27 1 b (omega arith))));
        formed = lamp-formed (fields_of s) kind;
      }

  restock-returns : get_or s 0 0 ≡ 79 → get_or s 1 0 ≡ 3 → Returns s (frame_of (fields_of s))
  unfolding fields_of whole_length standing cut map_of_kind has_hour
  restock-returns e h =
      let size : length s ≡ 10 = rw e at p.whole in
      let kind : (fields_of s).kind ≡ 3 = kind-byte s p ∙ h in
      let none : (fields_of s).sense ≡ 0 = rw e (no_bytes s 10) in
      let m : map_of (frame_of (fields_of s)) ≡ 79 = map-without (fields_of s) kind (omega arith) refl none in
      record {
        same =
            rejoin s p 79 e m
            (restock-contents (fields_of s)
            (rw e (bytes_back s 1 1 b (omega arith)))
            (rw e (bytes_back s 2 1 b (omega arith)))
            (rw e (bytes_back s 3 1 b (omega arith)))
            (omega arith)
            (rw e (bytes_back s 4 4 b (omega arith)))
            kind
            (rw e (bytes_back s 8 2 b (omega arith))));
        formed = other-formed (fields_of s) kind (omega arith) none refl;
      }

  start-returns : get_or s 0 0 ≡ 7 → get_or s 1 0 ≡ 4 → Returns s (frame_of (fields_of s))
  unfolding fields_of whole_length standing cut map_of_kind has_hour
  start-returns e h =
      let size : length s ≡ 4 = rw e at p.whole in
      let kind : (fields_of s).kind ≡ 4 = kind-byte s p ∙ h in
      let none : (fields_of s).sense ≡ 0 = rw e (no_bytes s 4) in
      let zero-hour : (fields_of s).hour ≡ 0 = rw e (no_bytes s 4) in
      let m : map_of (frame_of (fields_of s)) ≡ 7 = map-without (fields_of s) kind (omega arith) refl none in
      record {
        same =
            rejoin s p 7 e m
            (start-contents (fields_of s)
            (rw e (bytes_back s 1 1 b (omega arith)))
            (rw e (bytes_back s 2 1 b (omega arith)))
            (rw e (bytes_back s 3 1 b (omega arith)))
            (omega arith));
        formed = other-formed (fields_of s) kind (omega arith) none (eq-eqb _ 0 zero-hour);
      }

  hourly-returns : get_or s 0 0 ≡ 15 → 5 ≤ get_or s 1 0 → get_or s 1 0 ≤ 6 → Returns s (frame_of (fields_of s))
  unfolding fields_of whole_length standing cut
  hourly-returns e h k =
      let size : length s ≡ 8 = rw e at p.whole in
      let kind : (fields_of s).kind ≡ get_or s 1 0 = kind-byte s p in
      let none : (fields_of s).sense ≡ 0 = rw e (no_bytes s 8) in
      let m : map_of (frame_of (fields_of s)) ≡ 15 = map-without (fields_of s) kind (omega arith) (hour-map (get_or s 1 0) h k) none in
      record {
        same =
            rejoin s p 15 e m
            (hour-contents (fields_of s)
            (rw e (bytes_back s 1 1 b (omega arith)))
            (rw e (bytes_back s 2 1 b (omega arith)))
            (rw e (bytes_back s 3 1 b (omega arith)))
            (omega arith)
            (rw e (bytes_back s 4 4 b (omega arith))));
        formed = other-formed (fields_of s) kind (omega arith) none (rw (hour-stands (get_or s 1 0) (hour-map (get_or s 1 0) h k) refl));
      }

  pub returned : Returns s (frame_of (fields_of s))
  returned = by (table (get_or s 0 0) (get_or s 1 0) p.map)
    where
      by : Table (get_or s 0 0) (get_or s 1 0) → Returns s (frame_of (fields_of s))
      by (plain e h) = plain-returns e h
      by (sensed e h) = sensed-returns e h
      by (restock e h) = restock-returns e h
      by (start e h) = start-returns e h
      by (hourly e h k) = hourly-returns e h k

  pub returned-formed : well_formed (frame_of (fields_of s)) ≡ true
  unfolding well_formed
  returned-formed = rw (returned.formed.sense, returned.formed.hour, p.lamp, p.gateways)

-- the numbers of what is read fit their fields
kind-fields : (a b c d e f : Bool) (origin quantity : ℕ) → origin < 256 → quantity < 65536
    → let kind : Kind = cond a (Failure origin) (cond b (Request origin) (cond c (Delivery origin) (cond d (Restock quantity) (cond e Start
    (cond f Lvt Update))))) in
    (origin_of kind < 256) × (quantity_of kind < 65536)
kind-fields true b c d e f origin quantity h k = (h, omega arith)
kind-fields false true c d e f origin quantity h k = (h, omega arith)
kind-fields false false true d e f origin quantity h k = (h, omega arith)
kind-fields false false false true e f origin quantity h k = (omega arith, k)
kind-fields false false false false true f origin quantity h k = (omega arith, omega arith)
kind-fields false false false false false true origin quantity h k = (omega arith, omega arith)
kind-fields false false false false false false origin quantity h k = (omega arith, omega arith)

kind-small : (kind origin quantity : ℕ) → origin < 256 → quantity < 65536
    → (origin_of (kind_of kind origin quantity) < 256) × (quantity_of (kind_of kind origin quantity) < 65536)
kind-small kind = kind-fields (eqb kind 0) (eqb kind 1) (eqb kind 2) (eqb kind 3) (eqb kind 4) (eqb kind 5)

number_small : (s : List ℕ) (at w : ℕ) → Bytes s → number_of (part s at w) < 256 ^ w
unfolding part
number_small s at w b =
    let short : length (part s at w) ≤ w = simp (length-take, length-drop) (omega arith) in
    lt_of_lt_of_le (number-below (part s at w) (bytes-part s at w b)) (pow-le-pow_right {n = 256} (omega arith) short)

cut_small : (at map : ℕ) (ws s : List ℕ) (i : ℕ) → Bytes s → number_of (get_or (cut at map ws s) i []) < 256 ^ get_or ws i 0
unfolding cut number_of number_from
cut_small at map [] s i b = omega arith
cut_small at map (w ∷ ws) s zero b = by (odd map)
  where
    by : (o : Bool) → number_of (part s at (cond o w 0)) < 256 ^ w
    by true = number_small s at w b
    by false = rw (no_bytes s at) (one-le-pow w 256 (omega arith))
cut_small at map (w ∷ ws) s (suc i) b = cut_small (at + cond (odd map) w 0) (map / 2) ws s i b

-- where the lamp stands
pub lamp-part : (s : List ℕ) → get_or s 0 0 ≡ 63 ⊎ get_or s 0 0 ≡ 191 → 27 ≤ length s → (fields_of s).lamp ≡ part s 9 18
unfolding fields_of
lamp-part s (inl e) h = rw e (lamp-bytes s 9 h)
lamp-part s (inr e) h = rw e (lamp-bytes s 9 h)

module _ (s : List ℕ) (b : Bytes s) (p : Passes s) where
  abbrev LampRanged : Type 0
  LampRanged = (length (fields_of s).lamp ≡ 18) × Bytes (fields_of s).lamp

  lamp-ranged : LampRanged
  unfolding fields_of whole_length
  lamp-ranged = by (table (get_or s 0 0) (get_or s 1 0) p.map)
    where
      there : get_or s 0 0 ≡ 63 ⊎ get_or s 0 0 ≡ 191 → 27 ≤ length s → LampRanged
      there e h = (ap length (lamp-part s e h) ∙ length_part s 9 18 h, subst Bytes (sym (lamp-part s e h)) (bytes-part s 9 18 b))

      none : (fields_of s).lamp ≡ replicate 18 0 → LampRanged
      none e = (ap length e, subst Bytes (sym e) (bytes-zeros 18))

      by : Table (get_or s 0 0) (get_or s 1 0) → LampRanged
      by (plain e h) = there (inl e) (let size : length s ≡ 27 = rw e at p.whole in omega arith)
      by (sensed e h) = there (inr e) (let size : length s ≡ 28 = rw e at p.whole in omega arith)
      by (restock e h) = none (rw (e, part-nil))
      by (start e h) = none (rw (e, part-nil))
      by (hourly e h k) = none (rw (e, part-nil))

  pub returned-ranged : RangedFrame (frame_of (fields_of s))
  unfolding fields_of
  returned-ranged =
      let map : ℕ = get_or s 0 0 in
      let inside = kind-small (fields_of s).kind _ _ (cut_small 1 map widths s 4 b) (cut_small 1 map widths s 6 b) in
      record {
        hour = cut_small 1 map widths s 3 b;
        from = cut_small 1 map widths s 1 b;
        to = cut_small 1 map widths s 2 b;
        origin = inside.0;
        quantity = inside.1;
        lamp = lamp-ranged.0;
        bytes = lamp-ranged.1;
      }
