-- An accepted event or acknowledgment that was under way: the theory's world goes on, and gateway, ledger and note follow.
use mathlib.Core.Path.{◌≡◌, refl, sym, ◌∙◌, ap, subst}
use Prim.Native.Nat.{ℕ, ◌-◌, ◌≤◌, ◌<◌}
use native.Mathlib.Omega.{arith}
use mathlib.Core.Bool.{Bool, true, false}
use mathlib.Core.List.Memᴰ
use mathlib.Core.List.{List, [], append-nil}
use borrow.Author.Tests.{le-leb}
use Rattle.lists.specs.Lists.{◌∈◌, any, without_first, before_last, from_last, All, nil, cons, joined}
use Rattle.lists.proofs.SearchLaws.{cut-first, around-last}
use Rattle.lists.proofs.ListLaws.{all_map}
use Rattle.model.specs.Messages.{kind_number}
use Rattle.model.specs.declared.Message.{Message}
use Rattle.frame.specs.Claims.{RangedFrame}
use Rattle.frame.specs.Reasons.{frame_read}
use Rattle.frame.specs.Writing.{well_formed}
use Rattle.frame.specs.declared.Frame.{Frame}
use Rattle.frame.specs.declared.Sense.{Sense}
use Rattle.frame.specs.declared.Sense.TheVariants.{Plain, Cancel}
use Rattle.memory.specs.Records.{Gateway}
use Rattle.memory.specs.Validity.{is_waiting}
use Rattle.memory.specs.declared.Entry.{Entry}
use Rattle.memory.proofs.Validated.{valid-facts}
use Rattle.gateway.specs.Effects.{Outcome, frames_for, with_outstanding}
use Rattle.gateway.specs.Undoing.{processed_of}
use Rattle.lists.specs.Lists.{before_first, from_first}
use Rattle.gateway.specs.Taking.{is_later, is_cancel_of, is_plain, is_sent, take_plain, take_cancel}
use Rattle.gateway.proofs.Maintaining.{Proper, Kept}
use Rattle.gateway.proofs.Replies.{Good}
use Rattle.gateway.proofs.Accepting as Accepting
use Rattle.gateway.proofs.Accepting.{Passes, accepted-good}
use Rattle.gateway.proofs.Searches.{processed-member}
use Rattle.round_steps.specs.Arcs.{Graph}
use Rattle.timewarp.specs.Worlds.{World}
use Rattle.run.specs.Forecast.{SetUpInput}
use Rattle.run.specs.Ledger as Ledger
use Rattle.run.specs.World.{Carried, is_frame, taken_by_sense}
use Rattle.run.proofs.EventCalls.{Stands, own_is, count-is, until-is, noted_all, plain_back, plain-saved, cancel_back, cancel-saved}
use Rattle.run.proofs.EventsUnderWay.{IsEvent}
use Rattle.run.proofs.AcceptedFrames.{outcome_of, acknowledgment_sense, Accepted, plain-taken, cancel-taken, acknowledgment-taken}
use Rattle.run.proofs.AcceptedFrames.{start-taken, lvt-taken, update-taken}
use Rattle.run.proofs.Ledgers.{Follows, entered-follows, struck_out-follows}
use Rattle.run.proofs.ReadableFrames.{EventFrame, same-limits, frames-hours, sensed-kind, acknowledgment-frame, back-frames}
use Rattle.run.proofs.EventWorlds.{setting_of, Sees, GoesOn, plain-frames, cancel-frames, plain-goes, cancel-goes, acknowledgment-goes}
use Rattle.run.proofs.EventResults.{CallResult}
use Rattle.run.proofs.TakeChains.{still-stands, plain-noted, cancel-noted}

module _ (n last : ℕ) (setups : ℕ → SetUpInput) (G : Graph) (same : G.last ≡ n - 1) (i : ℕ) (inside : i ≤ n - 1) (c : List Message) (w :
    World (setting_of n last setups G same)) (g : Gateway) (cs : List Carried) (l : Ledger.Ledger) (p : Proper g) (st : Stands n last setups
    i c g) (sees : Sees n last setups G same w i c g cs) (followed : Follows n last setups g.queue l) (frame : List ℕ) (found : any
    (is_frame frame) cs ≡ true) (tag : ℕ) where
  abbrev m : Message
  m = (frame_read frame).message

  -- what an accepted frame comes to
  abbrev pub TakeGoes : Outcome → Type 1
  TakeGoes o = CallResult n last setups G same i w c g tag (without_first (is_frame frame) cs) o.gateway o.output (taken_by_sense m
      (frame_read frame).sense l)

  -- the messages that the queue holds are good
  held : (e : Entry) → e ∈ g.queue → Good g.settings (is_waiting e) e.message
  held e k = record { storable = ((valid-facts g p.valid).entries e k).message; ranged = (p.ranged.queue e k).message }

  -- the settings are those of the forecast
  settled : {f : Frame} → EventFrame g.settings.n g.settings.last f → EventFrame n last f
  settled e = same-limits (count-is st) (until-is st) e

  plain-back-frames : (t : Bool) → any (is_cancel_of m) g.queue ≡ t → All (EventFrame n last) (frames_for true (plain_back n last setups i c g st m))
  unfolding plain_back
  plain-back-frames true q = rw q nil
  plain-back-frames false q =
      rw q
      (all_map (λ f e. settled e) (back-frames g.settings (valid-facts g p.valid).settings (processed_of (from_first (is_later m) g.queue))
      (λ e k. held e (subst (λ es. e ∈ es) (cut-first (is_later m) g.queue) (Memᴰ.append_right (before_first (is_later m) g.queue)
      (processed-member (from_first (is_later m) g.queue) e k))))))

  plain-event-frames : Good g.settings false m → kind_number m.kind ≤ 2 → All (EventFrame n last) (take_plain m g).frames
  plain-event-frames good few =
      subst (All (EventFrame n last)) (sym (plain-frames n last setups i c g st m))
      (cons (settled (acknowledgment-frame g.settings (valid-facts g p.valid).settings false m good few)) (plain-back-frames (any
      (is_cancel_of m) g.queue) refl))

  cancel-back-frames : (t : Bool) → any (is_plain m) g.queue ≡ t → All (EventFrame n last) (frames_for true (cancel_back n last setups i c g st m))
  unfolding cancel_back
  cancel-back-frames false q = rw q nil
  cancel-back-frames true q =
      rw q
      (all_map (λ f e. settled e) (back-frames g.settings (valid-facts g p.valid).settings (processed_of (from_last (is_plain m) g.queue))
      (λ e k. held e (subst (λ es. e ∈ es) (around-last (is_plain m) g.queue q) (Memᴰ.append_right (before_last (is_plain m) g.queue)
      (processed-member (from_last (is_plain m) g.queue) e k))))))

  cancel-event-frames : Good g.settings true m → kind_number m.kind ≤ 2 → All (EventFrame n last) (take_cancel m g).frames
  cancel-event-frames good few =
      subst (All (EventFrame n last)) (sym (cancel-frames n last setups i c g st m))
      (cons (settled (acknowledgment-frame g.settings (valid-facts g p.valid).settings true m good few)) (cancel-back-frames (any
      (is_plain m) g.queue) refl))

  pub plain-take : (frame_read frame).sense ≡ Plain → IsEvent m → kind_number m.kind ≤ 2 → m.to ≡ i → g.agreed ≤ m.hour → Good
      g.settings false m → Kept g.settings (take_plain m g).gateway →
      TakeGoes (outcome_of (take_plain m g))
  plain-take s k few to-here due good kept =
      let are-events = plain-event-frames good few in
      record {
        frames = (take_plain m g).frames;
        bytes = refl;
        are-events = are-events;
        sends = plain_back n last setups i c g st m;
        timely = frames-hours true (plain_back n last setups i c g st m) (plain-back-frames (any (is_cancel_of m) g.queue) refl);
        goes = plain-goes n last setups G same w i inside c g st cs sees frame found tag s k to-here due (all_map (λ f e. e.readable) are-events);
        stands = still-stands n last setups i c g st c (take_plain m g).gateway kept (plain-saved n last setups i c g st m);
        follows =
            subst (Follows n last setups (take_plain m g).gateway.queue)
            (sym (ap (λ (t : Sense). taken_by_sense m t l) s ∙ rw (le-leb (kind_number m.kind) 2 few)))
            (entered-follows n last setups m g l st.valid.order followed);
        round = (plain-noted n last setups i c g st m).round;
        agreed = (plain-noted n last setups i c g st m).agreed;
      }

  pub cancel-take : (frame_read frame).sense ≡ Cancel → kind_number m.kind ≤ 2 → m.to ≡ i → Good g.settings true m → Kept
      g.settings (take_cancel m g).gateway →
      TakeGoes (outcome_of (take_cancel m g))
  cancel-take s few to-here good kept =
      let are-events = cancel-event-frames good few in
      record {
        frames = (take_cancel m g).frames;
        bytes = refl;
        are-events = are-events;
        sends = cancel_back n last setups i c g st m;
        timely = frames-hours true (cancel_back n last setups i c g st m) (cancel-back-frames (any (is_plain m) g.queue) refl);
        goes = cancel-goes n last setups G same w i inside c g st cs sees frame found tag s to-here (all_map (λ f e. e.readable) are-events);
        stands = still-stands n last setups i c g st c (take_cancel m g).gateway kept (cancel-saved n last setups i c g st m);
        follows =
            subst (Follows n last setups (take_cancel m g).gateway.queue)
            (sym (ap (λ (t : Sense). taken_by_sense m t l) s))
            (struck_out-follows n last setups m g l st.valid.order followed);
        round = (cancel-noted n last setups i c g st m).round;
        agreed = (cancel-noted n last setups i c g st m).agreed;
      }

  pub acknowledgment-take : (b : Bool) → (frame_read frame).sense ≡ acknowledgment_sense b → m.from ≡ i → any (is_sent b m) g.outstanding ≡ true →
      Kept g.settings (with_outstanding (without_first (is_sent b m) g.outstanding) g) →
      TakeGoes (record { number = 0; gateway = with_outstanding (without_first (is_sent b m) g.outstanding) g; output = [] })
  unfolding joined noted_all
  acknowledgment-take b s from-here out kept =
      record {
        frames = [];
        bytes = refl;
        are-events = nil;
        sends = [];
        timely = nil;
        goes =
            subst (λ d. GoesOn n last setups G same w i [] c (with_outstanding (without_first (is_sent b m) g.outstanding) g) d)
            (sym (append-nil (without_first (is_frame frame) cs)))
            (acknowledgment-goes n last setups G same w i inside c g st cs sees frame found tag b s from-here out);
        stands = still-stands n last setups i c g st c (with_outstanding (without_first (is_sent b m) g.outstanding) g) kept st.saved;
        follows = subst (Follows n last setups g.queue) (sym (ap (λ (t : Sense). taken_by_sense m t l) s ∙ unmoved b)) followed;
        round = refl;
        agreed = refl;
      }
    where
      unmoved : (b : Bool) → taken_by_sense m (acknowledgment_sense b) l ≡ l
      unmoved true = refl
      unmoved false = refl

  -- an accepted frame that is none of a round, in any sense
  module _ (form : well_formed (frame_read frame) ≡ true) (ranged : RangedFrame (frame_read frame)) (passes : Passes g.settings
      (frame_read frame)) (few : kind_number m.kind < 4) where
    in-sense : {sense : Sense} → (frame_read frame).sense ≡ sense → Accepting.Accepted g.settings (record { message = m; sense = sense })
    in-sense e = subst (λ (s : Sense). Accepting.Accepted g.settings (record { message = m; sense = s })) e (record {
      form = form;
      ranged
          = ranged;
      passes = passes;
    })

    addressed : (b : Bool) → (frame_read frame).sense ≡ acknowledgment_sense b → m.from ≡ i
    addressed true s = (in-sense s).passes.here ∙ own_is st
    addressed false s = (in-sense s).passes.here ∙ own_is st

    pub taken-goes : (room : ℕ) {o : Outcome} → Accepted room (frame_read frame) g o → Kept g.settings o.gateway → TakeGoes o
    taken-goes room (plain-taken s k small due enough) kept =
        let t = accepted-good g.settings false m (omega arith) (in-sense s) in
        plain-take s k small (t.here ∙ own_is st) due t.good kept
    taken-goes room (cancel-taken s due enough) kept =
        let t = accepted-good g.settings true m (omega arith) (in-sense s) in
        cancel-take s (sensed-kind m Cancel (omega arith) (in-sense s).form) (t.here ∙ own_is st) t.good kept
    taken-goes room (acknowledgment-taken b s out) kept = acknowledgment-take b s (addressed b s) out kept
    taken-goes room (start-taken s k number) kept = absurd (omega (arith, ap kind_number k))
    taken-goes room (lvt-taken s k due number) kept = absurd (omega (arith, ap kind_number k))
    taken-goes room (update-taken s k number) kept = absurd (omega (arith, ap kind_number k))
