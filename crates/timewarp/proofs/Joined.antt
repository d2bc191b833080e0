-- The join: the invariants of the events and of the rounds hold together in every reachable world.
use mathlib.Core.List.{List, [], ◌∷◌, map}
use mathlib.Core.Path.{◌≡◌, refl, sym, ap, subst}
use mathlib.Core.Logic.{◌≢◌}
use Prim.Native.Nat.{ℕ, ◌≤◌}
use native.Mathlib.Omega.{arith}
use native.Mathlib.Decide.{ℕ_discrete}
use Rattle.lists.specs.Lists.{All, nil, Inserts, unchanged, one_more}
use Rattle.lists.proofs.ListLaws.{all_map, all-every, all_insert, all_rest, all-before, all_head, all_tail, least-never, least-bounds, bounds-least}
use Rattle.lists.proofs.FamilyLaws.{change-at, change-off, change-each}
use Rattle.event_steps.specs.Models.{ModelLaws, hour}
use Rattle.event_steps.specs.Gateways.{Event, message, Gateway, Network, Data, after, opening_data}
use Rattle.round_steps.specs.RoundSteps.{Rounds, opening, lower}
use Rattle.timewarp.specs.Worlds.{Setting, World, opening_world, least_outstanding, least_waiting, lower_all, Step, event, round, Steps}
use Rattle.timewarp.specs.Worlds.{none, then, Reachable}
use Rattle.event_steps.proofs.Invariants.{Sound, sound-step, sound-later}
use Rattle.event_steps.proofs.Invariants as Invariants
use Rattle.event_steps.proofs.Histories.{OutstandingFrom, WaitingFrom}
use Rattle.event_steps.proofs.Effects.{Effect, effect}
use Rattle.round_steps.proofs.RoundQueues.{Downward, Reading, Sends}
use Rattle.round_steps.proofs.RoundInvariants.{RoundSound, sound-round, agreed-rises, sound-arrives, sound-sends}
use Rattle.round_steps.proofs.RoundInvariants

module _ (S : Setting) where
  open S use {model, graph, same-gateways}
  open model use {Message, last, never}

  -- What the round knows of the events: bounds of what is outstanding and of what waits at each gateway.
  abbrev O : Data Message → ℕ → ℕ → Type 0
  O d j t = OutstandingFrom model (d.gateways j) t

  abbrev W : Data Message → ℕ → ℕ → Type 0
  W d j t = WaitingFrom model (d.gateways j) t

  lesser : {A : Type 0} (f : A → ℕ) (t k : ℕ) → k ≤ t → {l : List A} → All (λ a. t ≤ f a) l → All (λ a. k ≤ f a) l
  lesser f t k e a = all_map (λ y h. omega arith) a

  down-O : (d : Data Message) → Downward (O d)
  down-O d i t k e a = lesser (λ e. hour model (message e)) t k e a

  down-W : (d : Data Message) → Downward (W d)
  down-W d i t k e w =
      record { pending-from = lesser (hour model) t k e w.pending-from; waiting-from = lesser (hour model) t k e w.waiting-from }

  read-O : (d : Data Message) → Reading never (O d) (λ i v. v ≡ least_outstanding S (d.gateways i))
  unfolding least_outstanding
  read-O d =
      record {
        capped = λ i v e. omega (arith, least-never never (λ x. hour model (message x)) (d.gateways i).outstanding);
        bound = λ i v e. least-bounds never (λ x. hour model (message x)) v (d.gateways i).outstanding (omega arith);
        greatest = λ i v t e h a. omega (arith, bounds-least never (λ x. hour model (message x)) t h a);
      }

  read-W : (d : Data Message) → Reading never (W d) (λ i v. v ≡ least_waiting S (d.gateways i))
  unfolding least_waiting
  read-W d =
      record {
        capped = λ i v e. omega (arith, least-never never (hour model) (d.gateways i).pending);
        bound =
            λ i v e. record {
              pending-from = least-bounds never (hour model) v (d.gateways i).pending (omega arith);
              waiting-from = least-bounds never (hour model) v (d.gateways i).waiting (omega arith);
            };
        greatest =
            λ i v t e h w.
            omega
            (arith, bounds-least never (hour model) t h w.pending-from, bounds-least never (hour model) t h w.waiting-from);
      }

  -- Bounds of what is outstanding, with the list `out` at gateway i.
  record With (d : Data Message) (i : ℕ) (out : List (Event Message)) (j t : ℕ) : Type 0 where
    here : i ≡ j → All (λ e. t ≤ hour model (message e)) out
    elsewhere : i ≢ j → O d j t

  down-With : (d : Data Message) (i : ℕ) (out : List (Event Message)) → Downward (With d i out)
  down-With d i out j t k e a =
      record { here = λ p. lesser (λ e. hour model (message e)) t k e (a.here p); elsewhere = λ p. down-O d j t k e (a.elsewhere p) }

  -- Everything that was outstanding is bounded if it is so after things were put in.
  before : (d : Data Message) (i : ℕ) {s out : List (Event Message)} → Inserts s (d.gateways i).outstanding out → (j t : ℕ) → With d i out j t → O d j t
  before d i put j t a = go (ℕ_discrete i j)
    where
      go : Dec (i ≡ j) → O d j t
      go (yes p) = subst (λ (k : ℕ). O d k t) p (all-before put (a.here p))
      go (no p) = a.elsewhere p

  module _ (d : Data Message) (i : ℕ) (inside : i ≤ graph.last) (sense : Message → Event Message) (carries : (y : Message) → message (sense y) ≡ y) where
    -- Each message or cancel that is sent lowers the note.
    all-sent :
        (sent : List Message) {out out' : List (Event Message)} (r : Rounds) →
        Inserts (map sense sent) out out' →
        ((t : ℕ) → W d i t → ((j : ℕ) → j ≤ graph.last → With d i out j t) → All (λ y. t ≤ hour model y) sent) →
        RoundSound graph never (With d i out) (W d) r →
        RoundSound graph never (With d i out') (W d) (lower_all S i sent r)
    unfolding lower_all
    all-sent [] r unchanged late s = s
    all-sent (y ∷ sent) {out} r (one_more {m = with-one} put rest) late s =
        all-sent
        sent
        (lower i (hour model y) r)
        rest
        (λ t w o. all_tail (late t w (λ j k. fewer j t (o j k))))
        (sound-sends graph never (With d i out) (W d) r s (With d i with-one) (W d) (down-With d i out) (down-W d) i (hour model y) inside sends)
      where
        fewer : (j t : ℕ) → With d i with-one j t → With d i out j t
        fewer j t a = record { here = λ p. all_rest put (a.here p); elsewhere = a.elsewhere }

        sends : Sends graph.last i (hour model y) (With d i out) (W d) (With d i with-one) (W d)
        sends =
            record {
              waiting = λ j t w. w;
              elsewhere = λ j t p a. record { here = λ e. absurd (p e); elsewhere = a.elsewhere };
              at_i =
                  λ t a h. record {
                    here = λ e. all_insert put (omega (arith, ap (hour model) (carries y))) (a.here e);
                    elsewhere = λ p. absurd (p refl);
                  };
              not_earlier = λ t w o. all_head (late t w o);
            }

  -- A step of the events keeps what holds of the rounds.
  rounds-event :
      (d : Data Message) (i : ℕ) {sent : List Message} {g : Gateway Message} (n : Network Message) (r : Rounds) →
      i ≤ last →
      Effect model d i sent g →
      RoundSound graph never (O d) (W d) r →
      RoundSound graph never (O (after i g n d)) (W (after i g n d)) (lower_all S i sent r)
  unfolding after
  rounds-event d i {sent} {g} n r l f s =
      sound-arrives
      graph
      never
      (With d i f.out)
      (W d)
      (lower_all S i sent r)
      (all-sent
      d
      i
      inside
      f.sense
      f.carries
      sent
      r
      f.put_in
      (λ t w o. f.late t (record { waiting = w; outstanding = λ j k. before d i unchanged j t (o j (omega (arith, same-gateways))) }))
      (sound-arrives
      graph
      never
      (O d)
      (W d)
      r
      s
      (With d i (d.gateways i).outstanding)
      (W d)
      (down-O d)
      (down-W d)
      i
      (record {
        outstanding = λ j t a. record { here = λ p. subst (λ (k : ℕ). O d k t) (sym p) a; elsewhere = λ p. a };
        elsewhere = λ j t p w. w;
        at_i = λ t w o. w;
      })))
      _
      _
      (down-With d i f.out)
      (down-W d)
      i
      (record {
        outstanding = λ j t a. change-each (λ k x. With d i f.out k t → OutstandingFrom model x t) i g d.gateways (λ b. f.then-go t
            (b.here refl)) (λ k b. before d i f.put_in k t b) j a;
        elsewhere = λ j t p w. subst (λ x. WaitingFrom model x t) (sym (change-off i g d.gateways j p)) w;
        at_i =
            λ t w o. subst
            (λ x. WaitingFrom model x t)
            (sym (change-at i g d.gateways i refl))
            (f.comes t (record { waiting = w; outstanding = λ j k. before d i f.put_in j t (o j (omega (arith, same-gateways))) }));
      })
    where
      inside : i ≤ graph.last
      inside = omega (arith, same-gateways)

  -- Sends leave the agreed times alone.
  pub agreed-kept : (i : ℕ) (sent : List Message) (r : Rounds) → (lower_all S i sent r).agreed ≡ r.agreed
  unfolding lower_all lower
  agreed-kept i [] r = refl
  agreed-kept i (y ∷ sent) r = agreed-kept i sent (lower i (hour model y) r)

  -- All that holds of every reachable world, with the model's laws, by which every step keeps it.
  pub record Good (w : World S) : Type 0 where
    pub laws : ModelLaws model
    pub events-sound : Sound model w.rounds.agreed w.events
    pub rounds-sound : RoundSound graph never (O w.events) (W w.events) w.rounds

  good-opening : ModelLaws model → Good (opening_world S)
  unfolding opening_world opening_data opening
  good-opening laws =
      record {
        laws = laws;
        events-sound = Invariants.sound-opening model laws;
        rounds-sound =
            RoundInvariants.sound-opening
            graph
            never
            (O (opening_data model))
            (W (opening_data model))
            (λ j l. nil)
            (λ j l. record { pending-from = all-every (λ m. omega arith) _; waiting-from = nil });
      }

  -- No agreed time falls in a step.
  pub agreed-never-falls : {w v : World S} → Good w → Step S w v → (i : ℕ) → w.rounds.agreed i ≤ v.rounds.agreed i
  agreed-never-falls {w} k (event {i = j} {sent = sent} l s) i = omega (arith, ap (λ f. f i) (agreed-kept j sent w.rounds))
  agreed-never-falls {w} k (round s) i =
      agreed-rises
      graph
      never
      (O w.events)
      (W w.events)
      (down-O w.events)
      (down-W w.events)
      _
      _
      (read-O w.events)
      (read-W w.events)
      w.rounds
      k.rounds-sound
      s
      i

  pub good-step : {w v : World S} → Good w → Step S w v → Good v
  good-step {w} k (event {i = i} {sent = sent} {g = g} {n = n} l s) =
      record {
        laws = k.laws;
        events-sound =
            subst
            (λ f. Sound model f (after i g n w.events))
            (sym (agreed-kept i sent w.rounds))
            (sound-step model k.laws w.rounds.agreed w.events i l s k.events-sound);
        rounds-sound = rounds-event w.events i n w.rounds l (effect model k.laws w.events i l k.events-sound s) k.rounds-sound;
      }
  good-step {w} k (round s) =
      record {
        laws = k.laws;
        events-sound = sound-later model (agreed-never-falls k (round s)) k.events-sound;
        rounds-sound =
            sound-round
            graph
            never
            (O w.events)
            (W w.events)
            (down-O w.events)
            (down-W w.events)
            _
            _
            (read-O w.events)
            (read-W w.events)
            w.rounds
            k.rounds-sound
            s;
      }

  pub good-steps : {w v : World S} → Good w → Steps S w v → Good v
  good-steps k none = k
  good-steps k (then s t) = good-step (good-steps k s) t

  pub good : ModelLaws model → {w : World S} → Reachable S w → Good w
  good laws s = good-steps (good-opening laws) s
