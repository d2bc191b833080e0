-- The bytes of a view tell its fields: a map tells which fields stand, and then each its value.
use mathlib.Core.Path.{◌≡◌, refl, sym, ◌∙◌, ap, ap₂}
use mathlib.Core.Bool.{Bool, true, false}
use mathlib.Core.List.{List, [], ◌∷◌, ◌++◌, append_assoc, map}
use Prim.Native.Nat.{ℕ, ◌<◌, ◌^◌}
use native.Mathlib.Omega.{arith}
use lib.ListN.{length, take, drop, get_or}
use lib.Seq.{take_at, drop_at}
use Rattle.lists.specs.Lists.{All, nil, cons, joined}
use Rattle.buffer.specs.Number.{bytes_of}
use Rattle.buffer.proofs.Numbers.{number-of-bytes, length-bytes_of}
use Rattle.model.specs.Messages.{kind_number, origin_of, quantity_of}
use Rattle.frame.specs.Kinds.{has_origin, has_lamp, has_quantity}
use Rattle.memory.specs.Layout.{stock_width}
use Rattle.memory.specs.Ranges.{RangedState}
use Rattle.records.specs.Events.{Event}
use Rattle.views.specs.Fields.{Field, hour, kind, quantity, stock, failed, fitted, short, lamp, origin, Place, holds, lacks, held_if, seen}
use Rattle.views.specs.Bytes.{field_bytes, place_bytes, view_map, places_bytes, event_view}
use Rattle.views.specs.declared.Reader.{Reader}
use Rattle.views.specs.declared.Reader.TheVariants.{Purchasing, Maintenance}

-- lists one behind the other are told apart by the length of the first
module _ (x y : List ℕ) (n : length x ≡ length y) (xs ys : List ℕ) (e : x ++ xs ≡ y ++ ys) where
  fronts : x ≡ y
  fronts = sym (take_at x xs (length y) n) ∙ ap (take (length y)) e ∙ take_at y ys (length y) refl

  rests : xs ≡ ys
  rests = sym (drop_at x xs (length y) n) ∙ ap (drop (length y)) e ∙ drop_at y ys (length y) refl

-- two fields of one name: equally long, and each told by its bytes
record Alike (f g : Field) : Type 0 where
  long : length (field_bytes f) ≡ length (field_bytes g)
  same : field_bytes f ≡ field_bytes g → f ≡ g

-- two places of one name
data Pair : Place → Place → Type 0 where
  both : (f g : Field) → Alike f g → Pair (holds f) (holds g)
  first : (f : Field) → Pair (holds f) lacks
  second : (g : Field) → Pair lacks (holds g)
  neither : Pair lacks lacks

pair-if : (s t : Bool) {f g : Field} → Alike f g → Pair (held_if s f) (held_if t g)
pair-if true true {f} {g} a = both f g a
pair-if true false {f} a = first f
pair-if false true {g = g} a = second g
pair-if false false a = neither

data Pairs : List Place → List Place → Type 0 where
  none : Pairs [] []
  next : {p q : Place} {ps qs : List Place} → Pair p q → Pairs ps qs → Pairs (p ∷ ps) (q ∷ qs)

-- equal maps and equal bytes are those of equal places
places-told : {ps qs : List Place} → Pairs ps qs → view_map ps ≡ view_map qs → (xs ys : List ℕ) → joined place_bytes ps ++ xs ≡ joined place_bytes qs ++ ys
    → (ps ≡ qs) × (xs ≡ ys)
unfolding view_map place_bytes joined
places-told none m xs ys e = (refl, e)
places-told (next {ps = ps} {qs = qs} (both f g a) r) m xs ys e =
    let here : List ℕ = joined place_bytes ps ++ xs in
    let there : List ℕ = joined place_bytes qs ++ ys in
    let apart : field_bytes f ++ here ≡ field_bytes g ++ there =
    sym (append_assoc (field_bytes f) (joined place_bytes ps) xs) ∙ e ∙ append_assoc (field_bytes g) (joined place_bytes qs) ys in
    let field = a.same (fronts (field_bytes f) (field_bytes g) a.long here there apart) in
    let (places, behind) = places-told r (omega (arith, m)) xs ys (rests (field_bytes f) (field_bytes g) a.long here there apart) in
    (ap₂ (λ (h : Field) (l : List Place). holds h ∷ l) field places, behind)
places-told (next (first f) r) m xs ys e = absurd (omega (arith, m))
places-told (next (second g) r) m xs ys e = absurd (omega (arith, m))
places-told (next neither r) m xs ys e =
    let (places, behind) = places-told r (omega (arith, m)) xs ys e in (ap (λ (l : List Place). lacks ∷ l) places, behind)

-- with the map in front
view-told : {ps qs : List Place} → Pairs ps qs → (xs ys : List ℕ) → places_bytes ps ++ xs ≡ places_bytes qs ++ ys → (ps ≡ qs) × (xs ≡ ys)
unfolding places_bytes
view-told r xs ys e = places-told r (ap (λ (l : List ℕ). get_or l 0 0) e) xs ys (ap (drop 1) e)

-- the values of an event fit their fields
pub record RangedEvent (e : Event) : Type 0 where
  pub hour : e.message.hour < 256 ^ 4
  pub kind : kind_number e.message.kind < 256 ^ 1
  pub quantity : quantity_of e.message.kind < 256 ^ 2
  pub origin : origin_of e.message.kind < 256 ^ 1
  pub lamp : length e.message.lamp ≡ 18
  pub state : RangedState e.state

-- a number is told by its bytes
number-told : (width : ℕ) {a b : ℕ} → a < 256 ^ width → b < 256 ^ width → bytes_of width a ≡ bytes_of width b → a ≡ b
number-told width {a} {b} h k e = sym (number-of-bytes width a h) ∙ rw e (number-of-bytes width b k)

equally-long : (width a b : ℕ) → length (bytes_of width a) ≡ length (bytes_of width b)
equally-long width a b = length-bytes_of width a ∙ sym (length-bytes_of width b)

module _ {d e : Event} (c : RangedEvent d) (r : RangedEvent e) where
  hours : Alike (hour d.message.hour) (hour e.message.hour)
  unfolding field_bytes
  hours = record { long = equally-long 4 _ _; same = λ p. ap hour (number-told 4 c.hour r.hour p) }

  kinds : Alike (kind (kind_number d.message.kind)) (kind (kind_number e.message.kind))
  unfolding field_bytes
  kinds = record { long = equally-long 1 _ _; same = λ p. ap kind (number-told 1 c.kind r.kind p) }

  quantities : Alike (quantity (quantity_of d.message.kind)) (quantity (quantity_of e.message.kind))
  unfolding field_bytes
  quantities = record { long = equally-long 2 _ _; same = λ p. ap quantity (number-told 2 c.quantity r.quantity p) }

  stocks : Alike (stock d.state.stock) (stock e.state.stock)
  unfolding field_bytes
  stocks = record { long = equally-long stock_width _ _; same = λ p. ap stock (number-told stock_width c.state.stock r.state.stock p) }

  failures : Alike (failed d.state.failed) (failed e.state.failed)
  unfolding field_bytes
  failures = record { long = equally-long 4 _ _; same = λ p. ap failed (number-told 4 c.state.failed r.state.failed p) }

  fittings : Alike (fitted d.state.fitted) (fitted e.state.fitted)
  unfolding field_bytes
  fittings = record { long = equally-long 4 _ _; same = λ p. ap fitted (number-told 4 c.state.fitted r.state.fitted p) }

  shorts : Alike (short d.state.short) (short e.state.short)
  unfolding field_bytes
  shorts = record { long = equally-long 4 _ _; same = λ p. ap short (number-told 4 c.state.short r.state.short p) }

  lamps : Alike (lamp d.message.lamp) (lamp e.message.lamp)
  unfolding field_bytes
  lamps = record { long = c.lamp ∙ sym r.lamp; same = λ p. ap lamp p }

  origins : Alike (origin (origin_of d.message.kind)) (origin (origin_of e.message.kind))
  unfolding field_bytes
  origins = record { long = equally-long 1 _ _; same = λ p. ap origin (number-told 1 c.origin r.origin p) }

  seen-pairs : (reader : Reader) → Pairs (seen reader d) (seen reader e)
  unfolding seen
  seen-pairs Purchasing =
      next (both _ _ hours)
      (next (both _ _ kinds)
      (next (pair-if (has_quantity (kind_number d.message.kind)) (has_quantity (kind_number e.message.kind)) quantities)
      (next (both _ _ stocks) (next (both _ _ failures) (next (both _ _ fittings) (next (both _ _ shorts) none))))))
  seen-pairs Maintenance =
      next (both _ _ hours)
      (next (both _ _ kinds)
      (next (pair-if (has_lamp (kind_number d.message.kind)) (has_lamp (kind_number e.message.kind)) lamps)
      (next (pair-if (has_origin (kind_number d.message.kind)) (has_origin (kind_number e.message.kind)) origins) none)))

  pub event-told : (reader : Reader) (xs ys : List ℕ) → event_view reader d ++ xs ≡ event_view reader e ++ ys → (seen reader d ≡ seen reader e) × (xs ≡ ys)
  event-told reader xs ys p = view-told (seen-pairs reader) xs ys p

-- and so are those of events one behind the other
pub events-told : (reader : Reader) {ds es : List Event} → All RangedEvent ds → All RangedEvent es
    → joined (event_view reader) ds ≡ joined (event_view reader) es → map (seen reader) ds ≡ map (seen reader) es
unfolding joined places_bytes
events-told reader nil nil p = refl
events-told reader nil (cons h hs) p = cc
events-told reader (cons g gs) nil p = cc
events-told reader (cons {l = ds} g gs) (cons {l = es} h hs) p =
    let (same, rest) = event-told g h reader (joined (event_view reader) ds) (joined (event_view reader) es) p in
    ap₂ ◌∷◌ same (events-told reader gs hs rest)
