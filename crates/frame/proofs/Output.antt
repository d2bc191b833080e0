-- Laws of what the writer puts into an output.
use mathlib.Core.Path.{◌≡◌, refl, sym, ◌∙◌, ap}
use Prim.Native.Nat.{ℕ, suc, ◌+◌, ◌/◌, ◌<◌, ◌≤◌}
use native.Mathlib.Nat.{zero-add}
use native.Mathlib.Omega.{arith}
use mathlib.Core.Bool.{Bool, true, false, cond, not}
use mathlib.Core.List.{List, [], ◌∷◌, ◌++◌, append_assoc, append-nil, map as mapped}
use lib.Dec.{leb}
use lib.ListN.{length, set, length-append}
use borrow.Author.Tests.{le-leb, lt-leb, ne_eqb, not-true, not-false}
use Rattle.buffer.proofs.Numbers.{one_byte}
use Rattle.lists.specs.Lists.{tally, joined}
use Rattle.buffer.specs.Slice.{write, Puts}
use Rattle.buffer.specs.Number.{bytes_of}
use Rattle.buffer.proofs.Putting.{puts-nothing, puts-more}
use Rattle.buffer.proofs.Writes.{set-write, write-snoc}
use Rattle.buffer.proofs.Numbers.{length-bytes_of}
use Rattle.model.specs.Messages.{kind_number, origin_of, quantity_of}
use Rattle.model.specs.declared.Message.{Message}
use Rattle.frame.specs.Layout.{widths, odd, standing, whole_length}
use Rattle.frame.specs.Kinds.{map_of, map_of_kind, sense_number}
use Rattle.frame.specs.Writing.{contents, written, value_refusal, outcome_of, writing}
use Rattle.frame.specs.Inside.Steps.{head_bytes, field_bytes, body_bytes}
use Rattle.frame.proofs.Presence.{HasHead, head-stands}
use Rattle.frame.specs.declared.Frame.{Frame}
use Rattle.std.specs.Prelude.{Ok, Err}
use Rattle.refusal.specs.Numbers.{refusal_number}
use Rattle.refusal.specs.declared.Refusal.{Refusal}
use Rattle.refusal.specs.declared.Refusal.TheVariants.{NoRoom}
use Rattle.refusal.proofs.Numbers.{refusal-some}

pub puts-as : {at behind : ℕ} {xs ys m after : List ℕ} → Puts at xs m after behind → xs ≡ ys → Puts at ys m after behind
puts-as p e = record { position = p.position ∙ rw e; output = p.output ∙ rw e }

length-head : (map : ℕ) (m : Message) → length (head_bytes map m) ≡ 4
unfolding head_bytes
length-head map m = simp (length-append, length-bytes_of)

-- map, kind, from and to, each behind the one before
pub head-put : (map : ℕ) (message : Message) (at : ℕ) (m : List ℕ) {kind from_at to_at behind : ℕ}
    → at + 4 ≤ length m → kind ≡ kind_number message.kind → kind < 256 → message.from < 256 → message.to < 256
    → from_at ≡ at + 2 → to_at ≡ at + 3 → behind ≡ at + 4
    → Puts at (head_bytes map message) m (set (set (set (set m at map) (at + 1) kind) from_at message.from) to_at message.to) behind
unfolding head_bytes
head-put map message at m {kind} room e k f t from_is to_is behind-is =
    let bytes : head_bytes map message ≡ map ∷ kind ∷ message.from ∷ message.to ∷ [] = rw (
      one_byte message.from f,
      one_byte
          message.to t,
      ← e,
      one_byte kind k,
    ) in
    record {
      position = behind-is ∙ rw (length-head map message);
      output =
          rw (
            from_is,
            to_is,
            bytes,
            set-write m at map (omega arith),
            write-snoc at (map ∷ []) m kind (at + 1) (omega arith) refl,
            write-snoc at (map ∷
                kind ∷ []) m message.from (at + 2) (omega arith) refl,
          )
          (write-snoc at (map ∷ kind ∷ message.from ∷ []) m message.to (at + 3) (omega arith) refl);
    }

-- a field, where its bit stands in the map
module _ (map bit : ℕ) {there : Bool} (e : there ≡ odd (map / bit)) (at : ℕ) (m bytes : List ℕ) where
  pub field-absent : not there ≡ true → Puts at (field_bytes map bit bytes) m m at
  unfolding field_bytes
  field-absent h = puts-as (puts-nothing at m) (rw (sym e ∙ not-true there h))

  module _ (h : not there ≡ false) where
    pub field-present : field_bytes map bit bytes ≡ bytes
    unfolding field_bytes
    field-present = rw (sym e ∙ not-false there h)

    module _ {n : ℕ} (size : length bytes ≡ n) where
      pub field_room : at + length (field_bytes map bit bytes) ≤ length m → at + n ≤ length m
      field_room room = rw (field-present, size) at room

      pub field_put : {after : List ℕ} → after ≡ write at bytes m → Puts at (field_bytes map bit bytes) m after (at + n)
      field_put q = puts-as (record { position = rw size; output = q }) (sym field-present)

-- hour, origin, lamp and quantity
module _ (map : ℕ) (message : Message) (at : ℕ) (m : List ℕ) (room : at + length (body_bytes map message) ≤ length m) where
  abbrev hour : List ℕ
  hour = field_bytes map 8 (bytes_of 4 message.hour)

  abbrev origin : List ℕ
  origin = field_bytes map 16 (bytes_of 1 (origin_of message.kind))

  abbrev lamp : List ℕ
  lamp = field_bytes map 32 message.lamp

  abbrev quantity : List ℕ
  quantity = field_bytes map 64 (bytes_of 2 (quantity_of message.kind))

  body-size : length (body_bytes map message) ≡ length hour + (length origin + (length lamp + length quantity))
  unfolding body_bytes
  body-size = simp length-append

  pub hour-room : at + length hour ≤ length m
  hour-room = let size = body-size in omega arith

  module _ {one : List ℕ} {a : ℕ} (p : Puts at hour m one a) (k : length one ≡ length m) {o : ℕ} (eo : o ≡ origin_of message.kind) where
    abbrev origin_put : List ℕ
    origin_put = field_bytes map 16 (bytes_of 1 o)

    same-origin : origin_put ≡ origin
    same-origin = rw eo

    pub origin-room : a + length origin_put ≤ length one
    origin-room = rw eo (let size = body-size in let place = p.position in omega arith)

    module _ {two : List ℕ} {b : ℕ} (q : Puts a origin_put one two b) (l : length two ≡ length one) where
      behind-origin : b ≡ a + length origin
      behind-origin = q.position ∙ rw eo

      pub lamp-room : b + length lamp ≤ length two
      lamp-room = let size = body-size in let place = p.position in let next = behind-origin in omega arith

      module _ {three : List ℕ} {c : ℕ} (r : Puts b lamp two three c) (n : length three ≡ length two) {amount : ℕ} (ea : amount ≡ quantity_of message.kind) where
        pub quantity-room : c + length (field_bytes map 64 (bytes_of 2 amount)) ≤ length three
        quantity-room =
            rw ea (let size = body-size in let place = p.position in let next = behind-origin in let last = r.position in omega arith)

        pub body-put : {four : List ℕ} {d : ℕ} → Puts c (field_bytes map 64 (bytes_of 2 amount)) three four d → Puts at (body_bytes map message) m four d
        unfolding body_bytes
        body-put s = puts-more hour-room p (puts-more (rw same-origin at origin-room) (puts-as q same-origin) (puts-more lamp-room r (puts-as s (rw ea))))

-- the fields whose bit stands, one behind the other
standing-next : (map : ℕ) (x : List ℕ) (xs : List (List ℕ))
    → joined (λ y. y) (standing map (x ∷ xs)) ≡ cond (odd map) x [] ++ joined (λ y. y) (standing (map / 2) xs)
unfolding standing joined
standing-next map x xs = by (odd map)
  where
    by : (there : Bool) → joined (λ y. y) (cond there (x ∷ standing (map / 2) xs) (standing (map / 2) xs)) ≡ cond there x [] ++ joined (λ y. y)
        (standing (map / 2) xs)
    by true = refl
    by false = refl

standing-none : (map : ℕ) → joined {A = List ℕ} {B = ℕ} (λ y. y) (standing map []) ≡ []
unfolding standing joined
standing-none map = refl

-- halved again and again
module _ (map : ℕ) where
  by_4 : map / 2 / 2 ≡ map / 4
  by_4 = omega arith

  by_8 : map / 4 / 2 ≡ map / 8
  by_8 = omega arith

  by-16 : map / 8 / 2 ≡ map / 16
  by-16 = omega arith

  by-32 : map / 16 / 2 ≡ map / 32
  by-32 = omega arith

  by-64 : map / 32 / 2 ≡ map / 64
  by-64 = omega arith

  by-128 : map / 64 / 2 ≡ map / 128
  by-128 = omega arith

  fields-standing : HasHead map → (a b c d e l q s : List ℕ)
      → joined (λ y. y) (standing map (a ∷ b ∷ c ∷ d ∷ e ∷ l ∷ q ∷ s ∷ []))
      ≡ a ++ (b ++ (c ++ (field_bytes map 8 d ++ (field_bytes map 16 e ++ (field_bytes map 32 l ++ (field_bytes map 64 q ++ field_bytes map 128 s))))))
  unfolding field_bytes
  fields-standing h a b c d e l q s =
      rw (
        standing-next map a (b ∷ c ∷ d ∷ e ∷ l ∷ q ∷ s ∷ []),
        h.kind,
        standing-next (map / 2) b (c ∷ d ∷ e ∷ l ∷ q ∷ s ∷ []),
        h.from,
        by_4,
        standing-next (map / 4) c (d ∷ e ∷ l ∷ q ∷ s ∷ []),
        h.to,
        by_8,
        standing-next (map / 8) d (e ∷ l ∷ q ∷ s ∷ []),
        by-16,
        standing-next (map / 16) e (l ∷ q ∷ s ∷ []),
        by-32,
        standing-next (map / 32) l (q ∷ s ∷ []),
        by-64,
        standing-next (map / 64) q (s ∷ []),
        by-128,
        standing-next (map / 128) s [],
        standing-none (map / 128 / 2),
        append-nil (cond (odd (map / 128)) s []),
      )

module _ (f : Frame) where
  abbrev sense : List ℕ
  sense = field_bytes (map_of f) 128 (bytes_of 1 (sense_number f.sense))

  pub written-parts : written f ≡ head_bytes (map_of f) f.message ++ (body_bytes (map_of f) f.message ++ sense)
  unfolding written contents map_of head_bytes body_bytes
  written-parts =
      ap (◌∷◌ (map_of f)) (fields-standing (map_of f) (head-stands f.message.kind (leb 1 (sense_number f.sense))) _ _ _ _ _ _ _ _)
      ∙ simp append_assoc

  pub written-size : length (written f) ≡ 4 + (length (body_bytes (map_of f) f.message) + length sense)
  written-size = ap length written-parts ∙ simp length-append (rw length-head)

  module _ (at : ℕ) (m : List ℕ) (room : at + length (written f) ≤ length m) where
    pub head-room : at + 4 ≤ length m
    head-room = let size = written-size in omega arith

    module _ {map : ℕ} (e : map ≡ map_of f) {middle : ℕ} {one : List ℕ} (h : Puts at (head_bytes map f.message) m one middle) (k : length one ≡ length m) where
      behind-head : middle ≡ at + 4
      behind-head = rw length-head at h.position

      pub body-room : middle + length (body_bytes map f.message) ≤ length one
      body-room = rw e (let size = written-size in let place = behind-head in omega arith)

      module _ {end : ℕ} {two : List ℕ} (b : Puts middle (body_bytes map f.message) one two end) (l : length two ≡ length one) where
        module _ {number : ℕ} (n : number ≡ sense_number f.sense) where
          pub tail-room : end + length (field_bytes map 128 (bytes_of 1 number)) ≤ length two
          tail-room = rw (e, n) (let size = written-size in let place = behind-head in let next = rw e at b.position in omega arith)

          pub frame-put : {behind : ℕ} {three : List ℕ} → Puts end (field_bytes map 128 (bytes_of 1 number)) two three behind → Puts at (written f) m three behind
          frame-put t =
              let body = puts-more body-room b t in
              let all = puts-more (rw length-head head-room) h body in
              puts-as all (rw (e, n) (sym written-parts))

module _ (f : Frame) {kind plain sense : ℕ} (k : kind ≡ kind_number f.message.kind) (p : plain ≡ map_of_kind kind) (s : sense ≡ sense_number f.sense) where
  pub map-plain : sense ≡ 0 → plain ≡ map_of f
  unfolding map_of
  map-plain z = p ∙ rw (k, lt-leb 1 (sense_number f.sense) (omega arith))

  pub map-sense : (sense ≡ 0 → ⊥) → plain + 128 ≡ map_of f
  unfolding map_of
  map-sense z = rw (p, k, le-leb 1 (sense_number f.sense) (omega arith))

-- the length of a frame's bytes is its map's
joined-size : (map : ℕ) (parts : List (List ℕ)) → length (joined (λ x. x) (standing map parts)) ≡ tally (λ n. n) (standing map (mapped length parts))
unfolding joined standing tally
joined-size map [] = refl
joined-size map (p ∷ ps) = by (odd map) (joined-size (map / 2) ps)
  where
    by : (b : Bool) → length (joined (λ x. x) (standing (map / 2) ps)) ≡ tally (λ n. n) (standing (map / 2) (mapped length ps))
        → length (joined (λ x. x) (cond b (p ∷ standing (map / 2) ps) (standing (map / 2) ps)))
        ≡ tally (λ n. n) (cond b (length p ∷ standing (map / 2) (mapped length ps)) (standing (map / 2) (mapped length ps)))
    by true e = length-append p _ ∙ rw e
    by false e = e

pub contents-sizes : (f : Frame) → length f.message.lamp ≡ 18 → mapped length (contents f) ≡ widths
unfolding contents
contents-sizes f e = simp (length-bytes_of, e)

pub whole-size : (f : Frame) → length f.message.lamp ≡ 18 → length (written f) ≡ whole_length (map_of f)
unfolding written whole_length
whole-size f e = ap (λ (n : ℕ). suc n) (joined-size (map_of f) (contents f) ∙ ap (λ (l : List ℕ). tally (λ n. n) (standing (map_of f) l))
    (contents-sizes f e)) ∙ omega arith

-- a frame written, by what its value is refused with
module _ (f : Frame) (m : List ℕ) where
  pub value-refused : (why : Refusal) → refusal_number why ≡ value_refusal f → outcome_of (Err why) m ≡ writing f m
  unfolding writing
  value-refused why e = rw (← e, ne_eqb (refusal_number why) 0 (refusal-some why))

  module _ (h : 0 ≡ value_refusal f) (lamp : length f.message.lamp ≡ 18) {map size : ℕ} (g : map ≡ map_of f) (s : size ≡ whole_length map) where
    size_is : size ≡ length (written f)
    size_is = s ∙ rw g (sym (whole-size f lamp))

    pub no_room : length m < size → outcome_of (Err NoRoom) m ≡ writing f m
    unfolding writing
    no_room l = rw (sym h, lt-leb (length (written f)) (length m) (rw (← size_is) l))

    pub room-enough : size ≤ length m → 0 + length (written f) ≤ length m
    room-enough l = rw (← size_is) (omega arith)

    pub all-written : {after : List ℕ} {count : ℕ} → size ≤ length m → Puts 0 (written f) m after count
        → outcome_of (Ok count) after ≡ writing f m
    unfolding writing
    all-written l p = rw (sym h, le-leb (length (written f)) (length m) (rw (← size_is) l), p.position, p.output, zero-add)
