-- A view tells the fields that its reader is to see, and nothing else.
use mathlib.Core.Path.{◌≡◌, sym, ◌∙◌, ap, ap₂}
use mathlib.Core.Bool.{Bool, cond, ◌&&◌}
use lib.Dec.{ltb}
use mathlib.Core.List.{List, map}
use Prim.Native.Nat.{ℕ, ◌≤◌, ◌<◌, ◌^◌}
use native.Mathlib.Omega.{arith}
use lib.ListN.{length, get_or}
use borrow.Author.Tests.{eq-eqb, ne_eqb}
use Rattle.lists.specs.Lists.{◌∈◌, All, joined, tally}
use Rattle.lists.proofs.ListLaws.{all_of, all-image, length-joined, joined-map, tally-map, tally-same}
use Rattle.lists.proofs.PieceLaws.{first-none, pieces-join, piece-short}
use Rattle.buffer.specs.Slice.{Bytes}
use Rattle.buffer.proofs.Lent.{bytes_take, bytes-part}
use Rattle.model.specs.Messages.{kind_number}
use Rattle.frame.specs.Layout.{whole_length}
use Rattle.frame.proofs.Laws.{one-to-one}
use Rattle.frame.proofs.PieceBytes.{cut-bytes}
use Rattle.buffer.specs.Number.{bytes_of}
use Rattle.memory.proofs.RoundTrips.{byte-back}
use Rattle.memory.proofs.FromBytes.{state-ranged}
use Rattle.records.specs.Events.{Event, state_size_of, event_length, cut_events, frame_in, state_in, event_refusal, record_refusal, event_of, events_of}
use Rattle.records.specs.Inside.Finding.{length_of_kind}
use Rattle.records.specs.declared.StockField.{StockField}
use Rattle.records.proofs.EventBranches.{event-some}
use Rattle.records.proofs.EventParts.{event-taken, Parts, with_lamp, restock, parts}
use Rattle.views.specs.Fields.{Place, seen}
use Rattle.views.specs.Bytes.{field_bytes, place_bytes, places_bytes, view}
use Rattle.views.specs.Viewing.{reader_of, stock_field_of, askable, ViewResult, refused_view, put_view, view_for, viewed}
use Rattle.views.specs.Secrecy.{Taken, fields_seen, Agree, Secrecy}
use Rattle.views.specs.Inside.Parts.{widened}
use Rattle.views.specs.declared.Reader.{Reader}
use Rattle.views.specs.declared.Reader.TheVariants.{Purchasing, Maintenance}
use Rattle.views.proofs.ViewParts.{wide-state, wide-length, wide-bytes}
use Rattle.views.proofs.SeenAlike.{alike-to-purchasing, purchasing-told, alike-to-maintenance, maintenance-told}
use Rattle.views.proofs.Telling.{RangedEvent, events-told}

-- a view is made of the fields that are seen
view_of : (reader : Reader) (field : StockField) (bytes : List ℕ) → view reader field bytes ≡ joined places_bytes (fields_seen reader field bytes)
unfolding view
view_of reader field bytes = sym (joined-map places_bytes (seen reader) (events_of field bytes))

equal-views : (reader : Reader) (field field' : StockField) (r s : List ℕ) → Taken field r → Taken field' s → Agree reader field r field' s
    → view reader field r ≡ view reader field' s
equal-views reader field field' r s t u a = view_of reader field r ∙ ap (joined places_bytes) a ∙ sym (view_of reader field' s)

-- an event of a record that is taken
module _ (field : StockField) (bytes : List ℕ) (b : Bytes bytes) (t : Taken field bytes) (s : List ℕ) (m : s ∈ cut_events field bytes) where
  piece_bytes : Bytes s
  piece_bytes = cut-bytes (event_length field) (length bytes) bytes b s m

  piece-taken : event_refusal field s ≡ 0
  unfolding record_refusal
  piece-taken = first-none (event_refusal field) (cut_events field bytes) t s m

  piece-ranged : RangedEvent (event_of field s)
  unfolding event_of
  piece-ranged =
      let p = event-taken field s piece-taken in
      let state = state_in field s in
      let bytes = bytes-part s (whole_length (get_or s 0 0)) (state_size_of field) piece_bytes in
      let r = one-to-one.read_ranged (frame_in s) (bytes_take (whole_length (get_or s 0 0)) s piece_bytes) _ p.form in
      record {
        hour = r.hour;
        kind = omega (arith, p.kind);
        quantity = r.quantity;
        origin = r.origin;
        lamp = r.lamp;
        state = rw (wide-state field state)
            (state-ranged (widened field state) (omega (arith, wide-length field state, p.state)) (wide-bytes field state bytes));
      }

record-ranged : (field : StockField) (bytes : List ℕ) → Bytes bytes → Taken field bytes → All RangedEvent (events_of field bytes)
unfolding events_of
record-ranged field bytes b t = all-image (event_of field) (all_of (cut_events field bytes) (piece-ranged field bytes b t))

fields_told : (reader : Reader) (field field' : StockField) (r s : List ℕ) → Bytes r → Bytes s → Taken field r → Taken field' s
    → view reader field r ≡ view reader field' s → Agree reader field r field' s
unfolding view
fields_told reader field field' r s b c t u e = events-told reader (record-ranged field r b t) (record-ranged field' s c u) e

-- the length of an event, by the kind that is seen of it
abbrev size_seen : StockField → List Place → ℕ
size_seen field ps = length_of_kind field (get_or (joined place_bytes ps) 4 0)

kind-seen : (reader : Reader) (e : Event) → kind_number e.message.kind < 256
    → get_or (joined place_bytes (seen reader e)) 4 0 ≡ kind_number e.message.kind
unfolding seen place_bytes field_bytes joined bytes_of
kind-seen Purchasing e h = byte-back (kind_number e.message.kind) h
kind-seen Maintenance e h = byte-back (kind_number e.message.kind) h

size-seen : (reader : Reader) (field : StockField) (bytes : List ℕ) → Bytes bytes → Taken field bytes → (s : List ℕ) → s ∈ cut_events field bytes
    → length s ≡ size_seen field (seen reader (event_of field s))
size-seen reader field bytes b t s m =
    let its = parts field s (piece_bytes field bytes b t s m) (event-taken field s (piece-taken field bytes b t s m)) in
    let few = piece-short (event_length field) (event-some field) (length bytes) bytes s m in
    rw (kind-seen reader (event_of field s) (piece-ranged field bytes b t s m).kind) (by its few)
  where
    by : Parts field s → length s ≤ event_length field (get_or s 0 0) → length s ≡ length_of_kind field (kind_number (event_of field s).message.kind)
    by (with_lamp p) few = rw (p.number, ne_eqb (get_or s 1 0) 3 (λ e. omega (arith, p.kind))) (omega (arith, p.long, p.whole, few))
    by (restock p) few = rw (p.number, p.kind) (omega (arith, p.long, p.whole, few))

-- and so that of a record
length_seen : (reader : Reader) (field : StockField) (bytes : List ℕ) → Bytes bytes → Taken field bytes
    → length bytes ≡ tally (size_seen field) (fields_seen reader field bytes)
unfolding events_of
length_seen reader field bytes b t =
    let pieces = cut_events field bytes in
    sym (ap length (pieces-join (event_length field) (event-some field) (length bytes) bytes (omega arith)))
    ∙ length-joined (λ p. p) pieces
    ∙ tally-same length (λ s. size_seen field (seen reader (event_of field s))) pieces (size-seen reader field bytes b t)
    ∙ sym (tally-map (λ e. size_seen field (seen reader e)) (event_of field) pieces)
    ∙ sym (tally-map (size_seen field) (seen reader) (map (event_of field) pieces))

askable-alike : (reader old_stock : ℕ) (r s : List ℕ) → Bytes r → Bytes s → Taken (stock_field_of old_stock) r → Taken (stock_field_of old_stock) s
    → Agree (reader_of reader) (stock_field_of old_stock) r (stock_field_of old_stock) s → askable reader old_stock r ≡ askable reader old_stock s
askable-alike reader old_stock r s b c t u a =
    let who = reader_of reader in
    let field = stock_field_of old_stock in
    let long : length r ≡ length s = length_seen who field r b t ∙ ap (tally (size_seen field)) a ∙ sym (length_seen who field s c u) in
    ap (λ (n : ℕ). ltb reader 2 && (ltb old_stock 2 && ltb n (2 ^ 48))) long

for-taken : (reader : Reader) (field : StockField) (bytes out : List ℕ) → Taken field bytes
    → view_for reader field bytes out ≡ put_view (view reader field bytes) out
unfolding view_for
for-taken reader field bytes out t = rw (eq-eqb (record_refusal field bytes) 0 t)

equal-calls : (reader old_stock old_stock' : ℕ) (r s out : List ℕ) → Taken (stock_field_of old_stock) r → Taken (stock_field_of old_stock') s
    → Agree (reader_of reader) (stock_field_of old_stock) r (stock_field_of old_stock') s → askable reader old_stock r ≡ askable reader old_stock' s
    → viewed reader old_stock r out ≡ viewed reader old_stock' s out
unfolding viewed
equal-calls reader old_stock old_stock' r s out t u a asked =
    let who = reader_of reader in
    let field = stock_field_of old_stock in
    let field' = stock_field_of old_stock' in
    let same : view_for who field r out ≡ view_for who field' s out =
    for-taken who field r out t
    ∙ ap (λ (v : List ℕ). put_view v out) (equal-views who field field' r s t u a)
    ∙ sym (for-taken who field' s out u) in
    ap₂ (λ (b : Bool) (left : ViewResult). cond b left (refused_view 8 out)) asked same

pub secrecy : Secrecy
secrecy = record {
  purchasing = alike-to-purchasing;
  purchasing_told = purchasing-told;
  maintenance = alike-to-maintenance;
  maintenance_told = maintenance-told;
  equal = equal-views;
  calls = equal-calls;
  askable_alike = askable-alike;
  told = fields_told;
}
