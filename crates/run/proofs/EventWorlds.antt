-- A call on events at one gateway, beside a world of the theory that sees that gateway and the frames under way.
use mathlib.Core.Path.{◌≡◌, refl, sym, ◌∙◌, ap, ap₂, subst}
use Prim.Native.Nat.{ℕ, ◌-◌, ◌≤◌, ◌<◌}
use mathlib.Core.Bool.{Bool, true, false}
use mathlib.Core.List.{List, [], ◌∷◌, ◌++◌, map, append-nil}
use Rattle.lists.specs.Lists.{any, without_first, All}
use Rattle.model.specs.Doing.{sent}
use Rattle.model.specs.declared.Message.{Message}
use Rattle.frame.specs.Reasons.{frame_read}
use Rattle.frame.specs.Writing.{written}
use Rattle.frame.specs.declared.Frame.{Frame}
use Rattle.frame.specs.declared.Sense.TheVariants.{Plain, Cancel}
use Rattle.memory.specs.Records.{Gateway, site_of}
use Rattle.memory.specs.Validity.{is_processed}
use Rattle.memory.specs.declared.Entry.{Entry}
use Rattle.gateway.specs.Effects.{frames_for, with_queue, with_outstanding}
use Rattle.gateway.specs.Undoing.{processed_of}
use Rattle.gateway.specs.Working.{pending_of, done}
use Rattle.gateway.specs.Taking.{is_cancel_of, is_plain, is_sent, acknowledgment, take_plain, take_cancel}
use Rattle.event_steps.specs.Gateways.{Event, plain, cancel, Network, network_of, Gateway as View}
use Rattle.round_steps.specs.Arcs.{Graph}
use Rattle.timewarp.specs.Worlds.{Setting, World}
use Rattle.run.specs.Forecast.{SetUpInput}
use Rattle.run.specs.World.{Carried, is_frame, carry}
use Rattle.run.proofs.ForecastModel.{forecast_model}
use Rattle.run.proofs.QueueViews.{event_if, view_of}
use Rattle.run.proofs.LocalChains.{Chain, Led, led}
use Rattle.run.proofs.EventCalls.{Stands, Moves, done-moves, plain_back, plain-moves, cancel_back, cancel-moves, acknowledgment-moves, commit-moves}
use Rattle.run.proofs.EventsUnderWay.{seen_of, seen_in, seen-carried, seen-taken, seen-left, event_of, acknowledged_of, event_by_sense}
use Rattle.run.proofs.EventsUnderWay.{acknowledged_by_sense, cancels-seen, plains-seen, sent-events-all, acknowledgment-seen, IsEvent}
use Rattle.run.proofs.AcceptedFrames.{acknowledgment_sense}

-- what is under way, as the theory has it
abbrev pub network_in : List Carried → Network Message
network_in cs = network_of (seen_in event_of cs) (seen_in acknowledged_of cs)

-- what is written can be read
abbrev pub AllReadable : List Frame → Type 0
AllReadable fs = All (λ f. (frame_read (written f)) ≡ f) fs

-- the frames that taking an event writes: its acknowledgment, then the cancels
module _ (n last : ℕ) (setups : ℕ → SetUpInput) (i : ℕ) (c : List Message) (g : Gateway) (st : Stands n last setups i c g) where
  pub plain-frames : (m : Message) → (take_plain m g).frames ≡ acknowledgment false m ∷ frames_for true (plain_back n last setups i c g st m)
  unfolding take_plain plain_back
  plain-frames m = by-case (any (is_cancel_of m) g.queue) refl
    where
      by-case : (t : Bool) → any (is_cancel_of m) g.queue ≡ t → (take_plain m g).frames ≡ acknowledgment false m ∷ frames_for true (plain_back
          n last setups i c g st m)
      by-case true p = rw p
      by-case false p = rw p

  pub cancel-frames : (m : Message) → (take_cancel m g).frames ≡ acknowledgment true m ∷ frames_for true (cancel_back n last setups i c g st m)
  unfolding take_cancel cancel_back
  cancel-frames m = by-case (any (is_plain m) g.queue) refl
    where
      by-case : (t : Bool) → any (is_plain m) g.queue ≡ t → (take_cancel m g).frames ≡ acknowledgment true m ∷ frames_for true (cancel_back n
          last setups i c g st m)
      by-case true p = rw p
      by-case false p = rw p

-- what an acknowledgment and cancels put under way
taken-network : (b : Bool) (m : Message) (ms : List Message) (fs : List Frame) → fs ≡ acknowledgment b m ∷ frames_for true ms → AllReadable
    fs → (tag : ℕ) (cs : List Carried) →
    network_in (carry tag (map written fs) cs) ≡ network_of (seen_in event_of cs ++ map cancel ms) (seen_in acknowledged_of cs ++ (event_if b m ∷ []))
taken-network b m ms fs e r tag cs =
    let s = acknowledgment-seen b m (frames_for true ms) in
    ap₂ network_of
    (seen-carried event_of tag fs r cs ∙ ap (λ l. seen_in event_of cs ++ l) (ap (seen_of event_of) e ∙ s.0 ∙ (cancels-seen ms).0))
    (seen-carried acknowledged_of tag fs r cs ∙ ap (λ l. seen_in acknowledged_of cs ++ l) (ap (seen_of acknowledged_of) e ∙ s.1 ∙ ap (λ l.
    event_if b m ∷ l) (cancels-seen ms).1))

module _ (n last : ℕ) (setups : ℕ → SetUpInput) (G : Graph) (same : G.last ≡ n - 1) where
  abbrev pub setting_of : Setting
  setting_of = record { model = forecast_model n last setups; graph = G; same-gateways = same }

  -- the world w of the theory sees gateway i, which has committed c, and the frames under way
  pub record Sees (w : World setting_of) (i : ℕ) (c : List Message) (g : Gateway) (cs : List Carried) : Type 0 where
    pub view : w.events.gateways i ≡ view_of c g.queue g.outstanding
    pub network : w.events.network ≡ network_in cs
    pub agreed : w.rounds.agreed i ≡ g.agreed

  -- such a world goes on to one that sees the gateway g', which has committed c', and the frames cs' under way
  abbrev pub GoesOn : World setting_of → ℕ → List Message → List Message → Gateway → List Carried → Type 1
  GoesOn w i s c' g' cs' = Led setting_of i w s (view_of c' g'.queue g'.outstanding) (network_in cs')

  module _ (w : World setting_of) (i : ℕ) (inside : i ≤ n - 1) (c : List Message) (g : Gateway) (st : Stands n last setups i c g) (cs : List
      Carried) (sees : Sees w i c g cs) where
    moved : {s c' : List Message} (g' : Gateway) {v a : List (Event Message)} (cs' : List Carried) → network_in cs' ≡ network_of v a →
        Moves n last setups i g.agreed c g (seen_in event_of cs) (seen_in acknowledged_of cs) s c' g' v a → GoesOn w i s c' g' cs'
    moved {s} {c'} g' {v} {a} cs' e m =
        led setting_of i inside w
        (subst (λ k. Chain (forecast_model n last setups) i (w.rounds.agreed i) (w.events.gateways i) w.events.network s (view_of c'
        g'.queue g'.outstanding) k) (sym e)
        (subst (λ (t : ℕ). Chain (forecast_model n last setups) i t (w.events.gateways i) w.events.network s (view_of c' g'.queue
        g'.outstanding) (network_of v a)) (sym sees.agreed)
        (subst (λ (x : View Message). Chain (forecast_model n last setups) i g.agreed x w.events.network s (view_of c' g'.queue
        g'.outstanding) (network_of v a)) (sym sees.view)
        (subst (λ (x : Network Message). Chain (forecast_model n last setups) i g.agreed (view_of c g.queue g.outstanding) x s
        (view_of c' g'.queue g'.outstanding) (network_of v a)) (sym sees.network) m))))

    -- one event of work
    pub done-goes : (m : Message) (ms : List Message) → pending_of g.queue ≡ m ∷ ms → AllReadable (done m g).frames → (tag : ℕ) →
        GoesOn w i (sent (site_of g.settings) g.state m) c (done m g).gateway (carry tag (map written (done m g).frames) cs)
    unfolding done
    done-goes m ms k r tag =
        let t = sent (site_of g.settings) g.state m in
        let seen = plains-seen (sent-events-all (site_of g.settings) g.state m) in
        moved (done m g).gateway (carry tag (map written (frames_for false t)) cs)
        (ap₂ network_of
        (seen-carried event_of tag (frames_for false t) r cs ∙ ap (λ l. seen_in event_of cs ++ l) seen.0)
        (seen-carried acknowledged_of tag (frames_for false t) r cs ∙ ap (λ l. seen_in acknowledged_of cs ++ l) seen.1 ∙ append-nil (seen_in acknowledged_of cs)))
        (done-moves n last setups i c g st m ms k g.agreed (seen_in event_of cs) (seen_in acknowledged_of cs))

    -- a commit
    pub commit-goes : (e : Entry) (newer : List Entry) → processed_of g.queue ≡ e ∷ newer → e.message.hour < g.agreed →
        GoesOn w i [] (e.message ∷ c) (with_queue (without_first is_processed g.queue) g) cs
    commit-goes e newer k below = moved (with_queue (without_first is_processed g.queue) g) cs refl (commit-moves n last setups i c g st e
        newer k g.agreed below (seen_in event_of cs) (seen_in acknowledged_of cs))

    -- a frame that is under way
    module _ (frame : List ℕ) (found : any (is_frame frame) cs ≡ true) (tag : ℕ) where
      abbrev rest : List Carried
      rest = without_first (is_frame frame) cs

      abbrev m : Message
      m = (frame_read frame).message

      -- taking a plain message
      pub plain-goes : (frame_read frame).sense ≡ Plain → IsEvent m → m.to ≡ i → g.agreed ≤ m.hour → AllReadable (take_plain m g).frames →
          GoesOn w i (plain_back n last setups i c g st m) c (take_plain m g).gateway (carry tag (map written (take_plain m g).frames) rest)
      plain-goes s k to-here due r =
          let is : event_of (frame_read frame) ≡ plain m ∷ [] = ap (event_by_sense m) s ∙ k in
          let left : acknowledged_of (frame_read frame) ≡ [] = ap (acknowledged_by_sense m) s in
          moved (take_plain m g).gateway (carry tag (map written (take_plain m g).frames) rest)
          (taken-network false m (plain_back n last setups i c g st m) (take_plain m g).frames (plain-frames n last setups i c g st m) r tag rest
          ∙ ap (λ l. network_of (seen_in event_of rest ++ map cancel (plain_back n last setups i c g st m)) (l ++ (plain m ∷ []))) (seen-left
          acknowledged_of frame cs left))
          (plain-moves n last setups i c g st m to-here g.agreed due (seen_in event_of cs) (seen_in acknowledged_of cs) (seen-taken event_of
          frame cs found (plain m) is))

      -- taking a cancel
      pub cancel-goes : (frame_read frame).sense ≡ Cancel → m.to ≡ i → AllReadable (take_cancel m g).frames →
          GoesOn w i (cancel_back n last setups i c g st m) c (take_cancel m g).gateway (carry tag (map written (take_cancel m g).frames) rest)
      cancel-goes s to-here r =
          let is : event_of (frame_read frame) ≡ cancel m ∷ [] = ap (event_by_sense m) s in
          let left : acknowledged_of (frame_read frame) ≡ [] = ap (acknowledged_by_sense m) s in
          moved (take_cancel m g).gateway (carry tag (map written (take_cancel m g).frames) rest)
          (taken-network true m (cancel_back n last setups i c g st m) (take_cancel m g).frames (cancel-frames n last setups i c g st m) r tag rest
          ∙ ap (λ l. network_of (seen_in event_of rest ++ map cancel (cancel_back n last setups i c g st m)) (l ++ (cancel m ∷ []))) (seen-left
          acknowledged_of frame cs left))
          (cancel-moves n last setups i c g st m to-here g.agreed (seen_in event_of cs) (seen_in acknowledged_of cs) (seen-taken event_of
          frame cs found (cancel m) is))

      -- taking an acknowledgment
      pub acknowledgment-goes : (b : Bool) → (frame_read frame).sense ≡ acknowledgment_sense b → m.from ≡ i → any (is_sent b m) g.outstanding ≡ true →
          GoesOn w i [] c (with_outstanding (without_first (is_sent b m) g.outstanding) g) rest
      acknowledgment-goes b s from-here out =
          moved (with_outstanding (without_first (is_sent b m) g.outstanding) g) rest
          (ap (λ l. network_of l (seen_in acknowledged_of rest)) (seen-left event_of frame cs (ap (event_by_sense m) s ∙ none b)))
          (acknowledgment-moves n last setups i c g st b m from-here out g.agreed (seen_in event_of cs) (seen_in acknowledged_of cs)
          (seen-taken acknowledged_of frame cs found (event_if b m) (ap (acknowledged_by_sense m) s ∙ one b)))
        where
          none : (b : Bool) → event_by_sense m (acknowledgment_sense b) ≡ []
          none true = refl
          none false = refl

          one : (b : Bool) → acknowledged_by_sense m (acknowledgment_sense b) ≡ event_if b m ∷ []
          one true = refl
          one false = refl
