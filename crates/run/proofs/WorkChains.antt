-- Work is a chain of steps: as many events as it counts, one after another.
use mathlib.Core.Path.{◌≡◌, refl, sym, ◌∙◌, ap, subst}
use Prim.Native.Nat.{ℕ, zero, suc, ◌-◌, ◌≤◌}
use mathlib.Core.Bool.{Bool, true, false, cond}
use mathlib.Core.List.Memᴰ.{head as member-first}
use mathlib.Core.List.{List, [], ◌∷◌, ◌++◌, map, append_assoc, append-nil, map-append}
use lib.ListN.{length}
use Rattle.lists.proofs.ListLaws.{joined-append}
use Rattle.lists.specs.Lists.{◌∈◌, All, nil, joined}
use Rattle.lists.proofs.ListLaws.{all_append, all_map}
use Rattle.model.specs.Doing.{sent}
use Rattle.model.specs.declared.Message.{Message}
use Rattle.frame.specs.Writing.{written}
use Rattle.frame.specs.declared.Frame.{Frame}
use Rattle.memory.specs.Records.{Gateway, site_of}
use Rattle.memory.specs.Validity.{is_waiting}
use Rattle.memory.specs.declared.Entry.{Entry}
use Rattle.memory.specs.declared.Round.{Round}
use Rattle.memory.proofs.Validated.{valid-facts}
use Rattle.gateway.specs.Effects.{bytes_of_frames, fits, noted}
use Rattle.gateway.specs.Working.{Progress, none_done, once_more, worked_by, worked, done, pending_of}
use Rattle.gateway.proofs.Maintaining.{Proper}
use Rattle.gateway.proofs.Keeps.{work-keeps}
use Rattle.gateway.proofs.Replies.{Good}
use Rattle.gateway.proofs.Searches.{pending-member}
use Rattle.round_steps.specs.Arcs.{Graph}
use Rattle.timewarp.specs.Worlds.{World, none, lower_all}
use Rattle.run.specs.Forecast.{SetUpInput}
use Rattle.run.specs.Ledger as Ledger
use Rattle.run.specs.Ledger.{did_one, did_some}
use Rattle.run.specs.World.{Carried, carry}
use Rattle.run.proofs.LocalChains.{led-join, lower-agreed}
use Rattle.run.proofs.EventCalls.{Stands, count-is, until-is, noted_all, did, done-saved}
use Rattle.run.proofs.Ledgers.{Follows, did-follows}
use Rattle.run.proofs.ReadableFrames.{EventFrame, same-limits, frames-hours, sent-frames}
use Rattle.run.proofs.EventWorlds.{setting_of, Sees, GoesOn, network_in, done-goes}
use Rattle.run.proofs.EventResults.{CallResult}

-- frames put under way in two goes
pub carry-append : (tag : ℕ) (fs hs : List Frame) (cs : List Carried) → carry tag (map written hs) (carry tag (map written fs) cs) ≡ carry
    tag (map written (fs ++ hs)) cs
carry-append tag fs hs cs =
    append_assoc cs (map (λ b. record { frame = b; tag = tag }) (map written fs)) (map (λ b. record { frame = b; tag = tag }) (map written hs))
    ∙ ap (λ l. cs ++ l) (sym (ap (map (λ b. record { frame = b; tag = tag })) (map-append written fs hs) ∙ map-append (λ b. record {
      frame =
          b;
      tag = tag;
    }) (map written fs) (map written hs)))

pub noted-append : (ms ks : List Message) (r : Round) → noted_all (ms ++ ks) r ≡ noted_all ks (noted_all ms r)
unfolding noted_all
noted-append [] ks r = refl
noted-append (m ∷ ms) ks r = noted-append ms ks (noted m.hour r)

module _ (n last : ℕ) (setups : ℕ → SetUpInput) (G : Graph) (same : G.last ≡ n - 1) (i : ℕ) (inside : i ≤ n - 1) (c : List Message) (tag : ℕ) where
  -- what work comes to
  abbrev pub WorkGoes : World (setting_of n last setups G same) → Gateway → List Carried → Ledger.Ledger → Progress → Type 1
  WorkGoes w g cs l p = CallResult n last setups G same i w c g tag cs p.gateway p.output (did_some p.count l)

  module _ (w : World (setting_of n last setups G same)) (g : Gateway) (cs : List Carried) (l : Ledger.Ledger) (st : Stands n last setups i c
      g) (sees : Sees n last setups G same w i c g cs) (follows : Follows n last setups g.queue l) where
    -- no event is done
    none-goes : (why : ℕ) → WorkGoes w g cs l (none_done why g)
    unfolding joined did_some noted_all lower_all
    none-goes why =
        record {
          frames = [];
          bytes = refl;
          are-events = nil;
          sends = [];
          timely = nil;
          goes = record {
            world = w;
            steps = none;
            here = sees.view;
            elsewhere = λ j e. refl;
            network = sees.network ∙ ap network_in (sym
                (append-nil cs));
            rounds = refl;
          };
          stands = st;
          follows = follows;
          round = refl;
          agreed = refl;
        }

    -- one is, and the rest follows
    more-goes : (m : Message) (ms : List Message) → pending_of g.queue ≡ m ∷ ms → All (EventFrame n last) (done m g).frames → (first :
        GoesOn n last setups G same w i (sent (site_of g.settings) g.state m) c (done m g).gateway (carry tag (map written (done m
        g).frames) cs)) →
        (p : Progress) → WorkGoes first.world (done m g).gateway (carry tag (map written (done m g).frames) cs) (record {
          items =
              did_one l.items;
          cancels = l.cancels;
        }) p →
        WorkGoes w g cs l (once_more (bytes_of_frames (done m g).frames) p)
    unfolding did_some done
    more-goes m ms k r first p q =
        let t = sent (site_of g.settings) g.state m in
        record {
          frames = (done m g).frames ++ q.frames;
          bytes = joined-append written (done m g).frames q.frames ∙ ap (λ b. bytes_of_frames (done m g).frames ++ b) q.bytes;
          are-events = all_append r q.are-events;
          sends = t ++ q.sends;
          timely = all_append (frames-hours false t r) q.timely;
          goes =
              subst (λ d. GoesOn n last setups G same w i (t ++ q.sends) c p.gateway d) (carry-append tag (done m g).frames q.frames cs)
              (led-join (setting_of n last setups G same) first q.goes);
          stands = q.stands;
          follows = q.follows;
          round = q.round ∙ ap (noted_all q.sends) (ap (λ (h : Gateway). h.round) (did n last setups i c g st m)) ∙ sym (noted-append t
              q.sends g.round);
          agreed = q.agreed ∙ ap (λ (h : Gateway). h.agreed) (did n last setups i c g st m);
        }

  -- a proper gateway holds its messages in forms that can be sent
  held-good : (g : Gateway) → Proper g → (m : Message) (ms : List Message) → pending_of g.queue ≡ m ∷ ms → (e : Entry) × (e ∈ g.queue) × (m ≡ e.message)
  held-good g p m ms k = pending-member g.queue m (subst (λ l. m ∈ l) (sym k) (member-first refl))

  done-frames : (g : Gateway) → Stands n last setups i c g → Proper g → (m : Message) (ms : List Message) → pending_of g.queue ≡ m ∷ ms →
      All (EventFrame n last) (done m g).frames
  unfolding done
  done-frames g st p m ms k =
      let v = valid-facts g p.valid in
      let r = held-good g p m ms k in
      let good : Good g.settings (is_waiting r.0) r.0.message = record {
        storable = (v.entries r.0 r.1).message;
        ranged =
            (p.ranged.queue r.0 r.1).message;
      } in
      all_map (λ f e. same-limits (count-is st) (until-is st) e)
      (sent-frames g.settings v.settings m (subst (Good g.settings (is_waiting r.0)) (sym r.2) good) false g.state)

  -- doing an event is work of one event
  done-once : (g : Gateway) (m : Message) (ms : List Message) → pending_of g.queue ≡ m ∷ ms → (room : ℕ) → fits room (done m g) ≡ true →
      (worked 1 room g).gateway ≡ (done m g).gateway
  unfolding worked
  done-once g m ms k room h = rw (k, h)

  -- so it leaves a proper gateway proper
  done-proper : (g : Gateway) → Proper g → (m : Message) (ms : List Message) → pending_of g.queue ≡ m ∷ ms → (room : ℕ) → fits room (done
      m g) ≡ true → Proper (done m g).gateway
  done-proper g p m ms k room h = subst Proper (done-once g m ms k room h) (work-keeps 1 room p).gateway.proper

  done-stands : (g : Gateway) → Stands n last setups i c g → (m : Message) (ms : List Message) → pending_of g.queue ≡ m ∷ ms → Proper
      (done m g).gateway → Stands n last setups i c (done m g).gateway
  done-stands g st m ms k p =
      let d = did n last setups i c g st m in
      record {
        settings = ap (λ (h : Gateway). h.settings) d ∙ st.settings;
        settled = st.settled;
        valid = valid-facts (done m g).gateway p.valid;
        saved = done-saved n last setups i c g st m ms k;
      }

  -- work of up to b events
  pub work-goes : (b room : ℕ) (w : World (setting_of n last setups G same)) (g : Gateway) (cs : List Carried) (l : Ledger.Ledger) → Proper g
      → Stands n last setups i c g →
      Sees n last setups G same w i c g cs → Follows n last setups g.queue l → WorkGoes w g cs l (worked b room g)
  unfolding worked
  work-goes zero room w g cs l p st sees follows = none-goes w g cs l st sees follows 0
  work-goes (suc b) room w g cs l p st sees follows = next (pending_of g.queue) refl (λ room' w' g' cs' l' p' s' e' f'. work-goes b room'
      w' g' cs' l' p' s' e' f')
    where
      Again : Type 1
      Again = (room' : ℕ) (w' : World (setting_of n last setups G same)) (g' : Gateway) (cs' : List Carried) (l' : Ledger.Ledger) → Proper g'
          → Stands n last setups i c g' →
          Sees n last setups G same w' i c g' cs' → Follows n last setups g'.queue l' → WorkGoes w' g' cs' l' (worked b room' g')

      rest : Message → Progress
      rest m = once_more (bytes_of_frames (done m g).frames) (worked b (room - length (bytes_of_frames (done m g).frames)) (done m g).gateway)

      once : (m : Message) (ms : List Message) → pending_of g.queue ≡ m ∷ ms → (t : Bool) → fits room (done m g) ≡ t → Again → WorkGoes w
          g cs l (cond t (rest m) (none_done 5 g))
      once m ms k true h again =
          let proper = done-proper g p m ms k room h in
          let are-events = done-frames g st p m ms k in
          let d = did n last setups i c g st m in
          let first = done-goes n last setups G same w i inside c g st cs sees m ms k (all_map (λ f e. e.readable) are-events) tag in
          more-goes w g cs l st sees follows m ms k are-events first (worked b (room - length (bytes_of_frames (done m g).frames)) (done m g).gateway)
          (again (room - length (bytes_of_frames (done m g).frames)) first.world (done m g).gateway (carry tag (map written (done m
          g).frames) cs) (record { items = did_one l.items; cancels = l.cancels })
          proper
          (done-stands g st m ms k proper)
          (record {
            view = first.here;
            network = first.network;
            agreed =
                ap (λ r. r.agreed i) first.rounds
                ∙ ap (λ (f : ℕ → ℕ). f i) (lower-agreed (setting_of n last setups G same) i (sent (site_of g.settings) g.state m) w.rounds)
                ∙ sees.agreed ∙ sym (ap (λ (h : Gateway). h.agreed) d);
          })
          (subst (λ q. Follows n last setups q (record { items = did_one l.items; cancels = l.cancels })) (sym (ap (λ (h : Gateway).
          h.queue) d)) (did-follows n last setups g.state g.queue l follows)))
      once m ms k false h again = none-goes w g cs l st sees follows 5

      next : (ms : List Message) → pending_of g.queue ≡ ms → Again → WorkGoes w g cs l (worked_by ms (none_done 6 g) (λ m. cond (fits room
          (done m g)) (rest m) (none_done 5 g)))
      next [] k again = none-goes w g cs l st sees follows 6
      next (m ∷ ms) k again = once m ms k (fits room (done m g)) refl again
