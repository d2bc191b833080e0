-- The events that a gateway has committed: their bytes are its record, and each of them may stand in one.
use mathlib.Core.Path.{◌≡◌, refl, sym, ◌∙◌, ap, ap₂, subst}
use mathlib.Core.Logic.{⊎_elim}
use Prim.Native.Nat.{ℕ}
use native.Mathlib.Omega.{arith}
use mathlib.Core.Bool.{Bool, true, false, true≢false}
use mathlib.Core.List.Memᴰ
use mathlib.Core.List.Memᴰ.{head as member-first}
use mathlib.Core.List.{List, [], ◌∷◌, ◌++◌, append-nil}
use Rattle.lists.specs.Lists.{◌∈◌, All, nil, cons, joined}
use Rattle.lists.proofs.ListLaws.{all_append, joined-append}
use Rattle.model.specs.Doing.{after}
use Rattle.model.specs.declared.Message.{Message}
use Rattle.model.specs.declared.State.{State}
use Rattle.frame.specs.Writing.{well_formed}
use Rattle.memory.specs.Ranges.{RangedState}
use Rattle.memory.specs.Records.{Gateway}
use Rattle.memory.specs.Codec.{decode}
use Rattle.memory.specs.Validity.{is_processed, is_waiting, frame_if}
use Rattle.memory.specs.declared.Entry.{Entry}
use Rattle.gateway.specs.Undoing.{processed_of}
use Rattle.gateway.specs.Committing.{record_for}
use Rattle.gateway.specs.Claims.{SoundBytes}
use Rattle.gateway.proofs.Maintaining.{standing}
use Rattle.gateway.proofs.Replies.{after-ranged}
use Rattle.gateway.proofs.Searches.{processed-member}
use Rattle.gateway.proofs.Stocks.{no-stock-wraps}
use Rattle.event_steps.specs.Models.{state_after}
use Rattle.records.specs.Events.{Event}
use Rattle.records.proofs.WrittenEvents.{Recordable, RecordableEvent, event_bytes}
use Rattle.run.specs.Forecast.{SetUpInput}
use Rattle.run.proofs.QueueViews.{Marked, marked, pending, processed, waiting}
use Rattle.run.proofs.QueueChanges.{saved-committed}
use Rattle.run.proofs.ReadableFrames.{stored-fits, frame-ranged}
use Rattle.run.proofs.SavedStates.{state_at, Saved}
use Rattle.run.proofs.SingleQueues.{history_record}
use Rattle.run.proofs.HeldGateways.{held-proper}

module _ (n last : ℕ) (setups : ℕ → SetUpInput) (i : ℕ) where
  -- the events of a history at gateway i, the first first
  unfoldable pub events_after : List Message → List Event
  events_after [] = []
  events_after (m ∷ h) = events_after h ++ (record { message = m; state = state_at n last setups i (m ∷ h) } ∷ [])

  -- their bytes are the record
  pub record-events : (h : List Message) → history_record n last setups i h ≡ joined event_bytes (events_after h)
  unfolding history_record events_after record_for event_bytes joined
  record-events [] = refl
  record-events (m ∷ h) =
      let e : Event = record { message = m; state = state_at n last setups i (m ∷ h) } in
      ap₂ ◌++◌ (record-events h) (sym (append-nil (event_bytes e))) ∙ sym (joined-append event_bytes (events_after h) (e ∷ []))

  -- each of them may stand in a record
  abbrev pub Committed : List Message → Type 0
  Committed h = All RecordableEvent (events_after h)

  pub none-committed : Committed []
  unfolding events_after
  none-committed = nil

-- a processed message is one by its mark
processed-marked : (es : List Entry) (x : Entry) → x ∈ processed_of es → is_processed x ≡ true
unfolding processed_of
processed-marked [] x n = absurd (Memᴰ.not-nil n)
processed-marked (e ∷ es) x n = by-mark (is_processed e) refl (processed-marked es x)
  where
    by-mark : (t : Bool) → is_processed e ≡ t → (x ∈ processed_of es → is_processed x ≡ true) → is_processed x ≡ true
    by-mark true p rest = ⊎_elim (λ (d : x ≡ e). ap (λ (y : Entry). is_processed y) d ∙ p) rest (Memᴰ.cases_cons (rw p at n))
    by-mark false p rest = rest (rw p at n)

-- and no waiting cancel
processed-plain : (x : Entry) → is_processed x ≡ true → is_waiting x ≡ false
processed-plain x h = by-mark (marked x)
  where
    by-mark : Marked x → is_waiting x ≡ false
    by-mark (pending p q r) = r
    by-mark (processed p q r) = r
    by-mark (waiting p q r) = absurd (true≢false (sym h ∙ q))

-- what sound memory has processed may stand in a record, and so may the state after it
module _ (memory : List ℕ) (b : SoundBytes memory) (e : Entry) (m : e ∈ processed_of (decode memory).queue) where
  abbrev g : Gateway
  g = decode memory

  is-processed : is_processed e ≡ true
  is-processed = processed-marked g.queue e m

  queued : e ∈ g.queue
  queued = processed-member g.queue e m

  message-recordable : Recordable e.message
  message-recordable =
      let s = standing (held-proper memory b) in
      let good = s.entries e queued in
      let t = good.valid.message in
      let form : well_formed (frame_if false e.message) ≡ true =
      subst (λ (c : Bool). well_formed (frame_if c e.message) ≡ true) (processed-plain e is-processed) t.form in
      record {
        kind = t.kind;
        form = form;
        ranged = frame-ranged (frame_if false e.message) form (stored-fits g.settings s.settings e.message t good.ranged.message);
        from = omega (arith, t.from, s.settings.n);
        to = omega (arith, t.to, s.settings.n);
        origin = omega (arith, t.origin, s.settings.n);
        hour = omega (arith, t.hour, s.settings.last);
      }

  state-ranged : RangedState (after e.before e.message.kind)
  state-ranged =
      after-ranged ((standing (held-proper memory b)).entries e queued).ranged.before e.message.kind (no-stock-wraps.saved memory b e queued is-processed)

-- one more event is committed
pub one-committed : (n last : ℕ) (setups : ℕ → SetUpInput) (i : ℕ) (memory : List ℕ) → SoundBytes memory → {c : List Message} {s : State}
    → Saved n last setups i c (decode memory).queue s → (e : Entry) (newer : List Entry) → processed_of (decode memory).queue ≡ e ∷ newer
    → Committed n last setups i c → Committed n last setups i (e.message ∷ c)
unfolding events_after state_after
one-committed n last setups i memory b {c} saved e newer k all =
    let member : e ∈ processed_of (decode memory).queue = subst (λ (es : List Entry). e ∈ es) (sym k) (member-first refl) in
    let before = (saved-committed n last setups i saved e newer k).before in
    all_append all
    (cons
    (record {
      message = message-recordable memory b e member;
      state = subst (λ (t : State). RangedState (after t e.message.kind)) before (state-ranged memory b e member);
    })
    nil)
