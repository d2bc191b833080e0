-- Chains of event steps at one gateway, and the chains of steps of the whole world that they are.
use mathlib.Core.Path.{◌≡◌, refl, sym, ◌∙◌, ap, subst}
use mathlib.Core.Logic.{◌≢◌}
use Prim.Native.Nat.{ℕ, ◌≤◌}
use mathlib.Core.List.{List, [], ◌∷◌, ◌++◌, append_assoc, append-nil}
use Rattle.lists.proofs.FamilyLaws.{change-at, change-off}
use Rattle.event_steps.specs.Models.{Model}
use Rattle.event_steps.specs.Gateways.{Gateway, Network, after}
use Rattle.event_steps.specs.EventSteps.{EventStep}
use Rattle.round_steps.specs.RoundSteps.{Rounds, lower}
use Rattle.timewarp.specs.Worlds.{Setting, World, event, Steps, none as no_steps, then as one_more, lower_all}
use Rattle.timewarp.proofs.CallChains.{steps-join}

-- Event steps of gateway i one after another, with all that it sends in them.
pub data Chain (M : Model) (i time : ℕ) (g : Gateway M.Message) (n : Network M.Message) : List M.Message → Gateway M.Message →
    Network M.Message → Type 1 where
  none : Chain M i time g n [] g n
  then : {s t u : List M.Message} {g' g'' : Gateway M.Message} {n' n'' : Network M.Message} →
      Chain M i time g n s g' n' → EventStep M i time g' n' t g'' n'' → u ≡ s ++ t → Chain M i time g n u g'' n''

module _ (M : Model) {i time : ℕ} where
  -- a single step
  pub single : {g g' : Gateway M.Message} {n n' : Network M.Message} {s : List M.Message} → EventStep M i time g n s g' n' → Chain M i time g n s g' n'
  single x = then none x refl

  -- one chain after another
  pub join : {g g' : Gateway M.Message} {n n' : Network M.Message} {g'' : Gateway M.Message} {n'' : Network M.Message} {s t : List M.Message} →
      Chain M i time g n s g' n' → Chain M i time g' n' t g'' n'' → Chain M i time g n (s ++ t) g'' n''
  join {g} {g'} {n = n} {n' = n'} {s = s} c none = subst (λ u. Chain M i time g n u g' n') (sym (append-nil s)) c
  join {s = s} c (then {s = t} {t = u} d x e) = then (join c d) x (ap (λ k. s ++ k) e ∙ sym (append_assoc s t u))

module _ (S : Setting) where
  open S use {model}

  -- the world after gateway i has gone through such a chain: nothing else has changed
  pub record Led (i : ℕ) (w : World S) (sent : List model.Message) (g : Gateway model.Message) (n : Network model.Message) : Type 1 where
    pub world : World S
    pub steps : Steps S w world
    pub here : world.events.gateways i ≡ g
    pub elsewhere : (j : ℕ) → i ≢ j → world.events.gateways j ≡ w.events.gateways j
    pub network : world.events.network ≡ n
    pub rounds : world.rounds ≡ lower_all S i sent w.rounds

  -- sending leaves the agreed times
  pub lower-agreed : (i : ℕ) (sent : List model.Message) (r : Rounds) → (lower_all S i sent r).agreed ≡ r.agreed
  unfolding lower_all lower
  lower-agreed i [] r = refl
  lower-agreed i (m ∷ sent) r = lower-agreed i sent _

  pub lower-append : (i : ℕ) (s t : List model.Message) (r : Rounds) → lower_all S i (s ++ t) r ≡ lower_all S i t (lower_all S i s r)
  unfolding lower_all
  lower-append i [] t r = refl
  lower-append i (m ∷ s) t r = lower-append i s t _

  pub led : (i : ℕ) → i ≤ model.last → (w : World S) {sent : List model.Message} {g : Gateway model.Message} {n : Network model.Message} →
      Chain model i (w.rounds.agreed i) (w.events.gateways i) w.events.network sent g n → Led i w sent g n
  unfolding lower_all after
  led i inside w none = record { world = w; steps = no_steps; here = refl; elsewhere = λ j e. refl; network = refl; rounds = refl }
  led i inside w (then {s = s} {t = t} {u = u} {g' = g'} {g'' = g} {n' = n'} {n'' = n} c x e) = one_more_lem (led i inside w c)
    where
      one_more_lem : Led i w s g' n' → Led i w u g n
      one_more_lem r =
          let y : EventStep model i (r.world.rounds.agreed i) (r.world.events.gateways i) r.world.events.network t g n =
          rw (r.here, r.network, r.rounds, lower-agreed i s w.rounds) x
          in
          record {
            world = record { events = after i g n r.world.events; rounds = lower_all S i t r.world.rounds };
            steps = one_more r.steps (event inside y);
            here = change-at i g r.world.events.gateways i refl;
            elsewhere = λ j h. change-off i g r.world.events.gateways j h ∙ r.elsewhere j h;
            network = refl;
            rounds = ap (lower_all S i t) r.rounds ∙ sym (lower-append i s t w.rounds) ∙ ap (λ k. lower_all S i k w.rounds) (sym e);
          }

  -- one such world after another
  pub led-join : {i : ℕ} {w : World S} {s t : List model.Message} {g h : Gateway model.Message} {n m : Network model.Message} →
      (a : Led i w s g n) → Led i a.world t h m → Led i w (s ++ t) h m
  led-join {i} {w} {s} {t} a b =
      record {
        world = b.world;
        steps = steps-join a.steps b.steps;
        here = b.here;
        elsewhere = λ j e. b.elsewhere j e ∙ a.elsewhere j e;
        network = b.network;
        rounds = b.rounds ∙ ap (lower_all S i t) a.rounds ∙ sym (lower-append i s t w.rounds);
      }
