-- The examples of shelves that do not stop hold: by computation, and for 512 Restocks by induction.
use mathlib.Core.Path.{◌≡◌, refl, sym, ◌∙◌, ap}
use Prim.Native.Nat.{ℕ, zero, suc, ◌+◌, ◌-◌, ◌*◌, ◌≤◌}
use native.Mathlib.Omega.{arith}
use mathlib.Core.Bool.{true, false}
use mathlib.Core.List.Memᴰ
use mathlib.Core.List.Memᴰ.{head as here}
use mathlib.Core.List.Memᴰ.{tail as there}
use mathlib.Core.List.{List, [], ◌∷◌, ◌++◌, map, append_assoc}
use mathlib.Core.Logic.{⊎_elim}
use lib.ListN.{length, replicate, length-replicate, length-append}
use borrow.Author.Tests.{le-leb}
use Rattle.lists.specs.Lists.{◌∈◌, All, nil, cons, tally, joined, every, any, without_first, before_first, from_first, before_last, from_last, first_number, cut_by}
use Rattle.lists.proofs.PieceLaws.{none_first, pieces-joined}
use Rattle.buffer.specs.Slice.{part, write, same_bytes}
use Rattle.buffer.specs.Number.{bytes_of, number_from, number_of}
use Rattle.routing.specs.Figure2.{gvtcfg, widen, share, set_from, set_to}
use Rattle.routing.specs.Arcs.{from, to, mid0, mid1}
use Rattle.model.specs.Doing.{lead_times_valid, opening_state, after, sent}
use Rattle.model.specs.EventOrder.{key, compared}
use Rattle.model.specs.declared.Message.{Message}
use Rattle.model.specs.declared.State.{State}
use Rattle.frame.specs.Layout.{standing, whole_length, cut}
use Rattle.frame.specs.Kinds.{map_of_kind, has_hour, has_lamp, map_of}
use Rattle.frame.specs.Writing.{contents, written, all_between, lamp_fits, well_formed}
use Rattle.frame.specs.Reasons.{values_of, fields_of, map_fits, fields_reading, reading, frame_read}
use Rattle.frame.specs.Limits.{refusal, refusal_where}
use Rattle.frame.specs.declared.Frame.{Frame}
use Rattle.memory.specs.Records.{Gateway}
use Rattle.memory.specs.Codec.{state_bytes, state_with, message_bytes, message_of, entry_bytes, entry_of, sent_bytes, header_at, header_front, header_back, places_at, decode, encode}
use Rattle.memory.specs.Validity.{is_pending, frame_if, settings_valid, round_possible, equal, later, ordered, processed_first, none_meet, storable, entry_valid, sent_valid}
use Rattle.memory.specs.Validity.{saved_stocks_bounded, held_stock_bounded, valid}
use Rattle.memory.specs.Soundness.{sound}
use Rattle.memory.specs.declared.Entry.{Entry}
use Rattle.memory.specs.declared.Mark.TheVariants.{Processed}
use Rattle.frame.proofs.Sizes.{whole-some}
use Rattle.memory.proofs.EventLaws.{not-later-self}
use Rattle.gateway.specs.Effects.{bytes_of_frames, fits, settled, sent_all}
use Rattle.gateway.specs.Undoing.{pending_entry, processed_of, undone, restored, sent_back, rolled_back}
use Rattle.gateway.specs.Taking.{is_later, take_cancel}
use Rattle.gateway.specs.Working.{pending_of, processed_next, done, worked}
use Rattle.gateway.specs.Rounds.{idle}
use Rattle.gateway.specs.Committing.{record_for, commit}
use Rattle.gateway.specs.SettingUp.{settings_of, opening_valid, cut_frames, opening_refusal, queued, opened, set_up_refusal}
use Rattle.gateway.specs.Calls.{agreed_time}
use Rattle.gateway.specs.StockExamples.{restock, told, restocks, stock_after, ShelvesWithoutAStop}

-- the Restock of the lists, its frame, and its entry before it is done
abbrev one : Message
one = restock 5 65535

abbrev frame : Frame
frame = frame_if false one

abbrev entry : Entry
entry = pending_entry one

all_same : {A : Type 0} {P : A → Type 0} (n : ℕ) (a : A) → P a → All P (replicate n a)
all_same zero a p = nil
all_same (suc n) a p = cons p (all_same n a p)

map_same : {A B : Type 0} (f : A → B) (n : ℕ) (a : A) → map f (replicate n a) ≡ replicate n (f a)
map_same f zero a = refl
map_same f (suc n) a = ap (◌∷◌ (f a)) (map_same f n a)

-- such a list is cut into its frames, each of which is accepted
frames-cut : (n : ℕ) → cut_frames (length (restocks n)) (restocks n) ≡ replicate n (written frame)
unfolding written contents joined whole_length standing tally map_of map_of_kind bytes_of
frames-cut n = pieces-joined whole_length whole-some written (replicate n frame) (all_same n frame refl) ∙ map_same written n frame

frame-accepted : opening_refusal (settings_of (told 65535)) (written frame) ≡ 0
unfolding
    opening_refusal tally joined every part bytes_of number_from number_of standing whole_length cut map_of_kind has_hour has_lamp map_of contents written all_between lamp_fits values_of
    fields_of map_fits fields_reading reading refusal refusal_where
frame-accepted = refl

told-valid : opening_valid (told 65535) 33056 ≡ true
unfolding opening_valid settings_valid lead_times_valid
told-valid = refl

list-accepted : (n : ℕ) → n ≤ 512 → set_up_refusal (told 65535) 33056 (restocks n) ≡ 0
unfolding set_up_refusal
list-accepted n few =
    rw (
      told-valid,
      frames-cut n,
      none_first (opening_refusal (settings_of (told 65535))) (all_same n (written frame) frame-accepted),
      length-replicate n (written frame),
      le-leb n 512 few,
    )

-- its messages enter the queue one behind the other
enters-last : (k : ℕ) → before_first (is_later one) (replicate k entry) ++ (entry ∷ from_first (is_later one) (replicate k entry)) ≡ replicate (suc k) entry
unfolding before_first from_first
enters-last zero = refl
enters-last (suc k) = rw (not-later-self one) (ap (◌∷◌ entry) (enters-last k))

frame-read : (frame_read (written frame)).message ≡ one
unfolding
    tally joined every part bytes_of number_from number_of standing whole_length cut map_of_kind has_hour has_lamp map_of contents written all_between lamp_fits values_of fields_of map_fits
    fields_reading reading
frame-read = refl

enters-next : (es : List Entry) (fs : List (List ℕ)) (f : List ℕ) (m : Message) → (frame_read f).message ≡ m
    → queued es (f ∷ fs) ≡ queued (before_first (is_later m) es ++ (pending_entry m ∷ from_first (is_later m) es)) fs
unfolding queued
enters-next es fs f m e = ap (λ (x : Message). queued (before_first (is_later x) es ++ (pending_entry x ∷ from_first (is_later x) es)) fs) e

all-queued : (k n : ℕ) → queued (replicate k entry) (replicate n (written frame)) ≡ replicate (k + n) entry
unfolding queued
all-queued k zero = let e : k + 0 ≡ k = omega arith in rw e
all-queued k (suc n) =
    let e : suc k + n ≡ k + suc n = omega arith in
    enters-next (replicate k entry) (replicate n (written frame)) (written frame) one frame-read
    ∙ (ap (λ (es : List Entry). queued es (replicate n (written frame))) (enters-last k) ∙ (all-queued (suc k) n ∙ ap (λ (x : ℕ). replicate x entry) e))

-- a gateway with that state and queue, set up so; with some done, and so many still to be done
abbrev shelf : State → List Entry → Gateway
shelf state queue = record { settings = settings_of (told 65535); state = state; agreed = 0; round = idle; queue = queue; outstanding = [] }

abbrev processed : State → Entry
processed state = record { message = one; mark = Processed; before = state }

-- behind what is done the next is done
pending-behind : (ds es : List Entry) → ((e : Entry) → e ∈ ds → is_pending e ≡ false) → pending_of (ds ++ (entry ∷ es)) ≡ one ∷ pending_of es
unfolding pending_of
pending-behind [] es none = refl
pending-behind (d ∷ ds) es none = rw (none d (here refl)) (pending-behind ds es (λ e m. none e (there m)))

next-behind : (state : State) (ds es : List Entry) → ((e : Entry) → e ∈ ds → is_pending e ≡ false)
    → processed_next state (ds ++ (entry ∷ es)) ≡ ds ++ (processed state ∷ es)
unfolding processed_next
next-behind state [] es none = refl
next-behind state (d ∷ ds) es none = rw (none d (here refl)) (ap (◌∷◌ d) (next-behind state ds es (λ e m. none e (there m))))

still-none : (state : State) (ds : List Entry) → ((e : Entry) → e ∈ ds → is_pending e ≡ false) → (e : Entry) → e ∈ (ds ++ (processed state ∷ [])) → is_pending e ≡ false
still-none state ds none e m = ⊎_elim (none e) (λ n. ap is_pending (Memᴰ.eq_of_singleton n)) (Memᴰ.append_cases ds m)

one-done : (state : State) (queue : List Entry) → done one (shelf state queue) ≡ record { gateway = shelf (after state one.kind) (processed_next state queue); frames = [] }
unfolding done sent sent_all
one-done state queue = refl

one_more : (n : ℕ) (g : Gateway) {ms : List Message} → pending_of g.queue ≡ one ∷ ms → fits 0 (done one g) ≡ true
    → (worked (suc n) 0 g).gateway ≡ (worked n (0 - length (bytes_of_frames (done one g).frames)) (done one g).gateway).gateway
unfolding worked
one_more n g p f = rw (p, f)

module _ (n : ℕ) (ds : List Entry) (none : (e : Entry) → e ∈ ds → is_pending e ≡ false) (state : State) (few : length ds + suc n ≤ 512) where
  queue-then : processed_next state (ds ++ (entry ∷ replicate n entry)) ≡ (ds ++ (processed state ∷ [])) ++ replicate n entry
  queue-then = next-behind state ds (replicate n entry) none ∙ sym (append_assoc ds (processed state ∷ []) (replicate n entry))

  as_long : length ((ds ++ (processed state ∷ [])) ++ replicate n entry) ≤ 512
  as_long = rw (length-append, length-append, length-replicate n entry) (omega arith)

  one-fits : fits 0 (done one (shelf state (ds ++ (entry ∷ replicate n entry)))) ≡ true
  unfolding fits joined
  one-fits = rw (one-done state (ds ++ (entry ∷ replicate n entry)), queue-then, le-leb (length ((ds ++ (processed state ∷ [])) ++ replicate n entry)) 512 as_long)

  further : (worked (suc n) 0 (shelf state (ds ++ (entry ∷ replicate n entry)))).gateway
      ≡ (worked n 0 (shelf (after state one.kind) ((ds ++ (processed state ∷ [])) ++ replicate n entry))).gateway
  unfolding joined
  further =
      one_more n (shelf state (ds ++ (entry ∷ replicate n entry))) (pending-behind ds (replicate n entry) none) one-fits
      ∙ rw (one-done state (ds ++ (entry ∷ replicate n entry)), queue-then)

all_done : (n : ℕ) (ds : List Entry) → ((e : Entry) → e ∈ ds → is_pending e ≡ false) → (state : State) → length ds + n ≤ 512
    → (worked n 0 (shelf state (ds ++ replicate n entry))).gateway.state.stock ≡ state.stock + 65535 * n
unfolding worked
all_done zero ds none state few = omega arith
all_done (suc n) ds none state few =
    let few-then : length (ds ++ (processed state ∷ [])) + n ≤ 512 = rw length-append (omega arith) in
    let rest = all_done n (ds ++ (processed state ∷ [])) (still-none state ds none) (after state one.kind) few-then in
    let total : state.stock + 65535 + 65535 * n ≡ state.stock + 65535 * suc n = omega arith in
    ap (λ (g : Gateway). g.state.stock) (further n ds none state few) ∙ rest ∙ total

most-reached : (n : ℕ) → n ≤ 512 → stock_after 65535 n ≡ 65535 + 65535 * n
unfolding opened
most-reached n few =
    let none : 0 + n ≡ n = omega arith in
    let queue : queued [] (replicate n (written frame)) ≡ replicate n entry = all-queued 0 n ∙ ap (λ (x : ℕ). replicate x entry) none in
    ap (λ (fs : List (List ℕ)). (worked n 0 (opened (told 65535) fs)).gateway.state.stock) (frames-cut n)
    ∙ (ap (λ (es : List Entry). (worked n 0 (shelf (opening_state 65535) es)).gateway.state.stock) queue
    ∙ all_done n [] (λ e m. absurd (Memᴰ.not-nil m)) (opening_state 65535) (omega arith))

pub shelves-without-a-stop : ShelvesWithoutAStop
unfolding
    gvtcfg widen share set_from set_to from to mid0 mid1 tally joined every any without_first before_first from_first before_last from_last part write same_bytes bytes_of number_from
    number_of key compared standing whole_length cut map_of_kind has_hour has_lamp map_of contents written all_between lamp_fits well_formed settings_valid lead_times_valid
    round_possible equal later ordered processed_first none_meet saved_stocks_bounded held_stock_bounded storable entry_valid sent_valid valid sound state_bytes state_with
    message_bytes message_of entry_bytes entry_of sent_bytes header_at header_front header_back places_at decode encode fits settled sent_all processed_of undone restored sent_back
    rolled_back sent take_cancel record_for commit opening_valid first_number cut_by set_up_refusal agreed_time
shelves-without-a-stop =
    record {
      no_stop = refl;
      recorded = refl;
      restored = refl;
      opening_stock = (refl, refl);
      accepted = list-accepted 512 (omega arith);
      reached = most-reached 512 (omega arith);
      held = (refl, refl, refl);
      held_pending = (refl, refl);
      held_done = refl;
      saved = (refl, refl, refl);
      saved_behind = (refl, refl, refl);
      saved_before = refl;
    }
