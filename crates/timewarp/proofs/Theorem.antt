-- The theorem: the claim holds of every world that can be reached.
use mathlib.Core.List.{List, [], ◌∷◌, ◌++◌}
use mathlib.Core.Path.{◌≡◌, refl, sym, subst, ◌∙◌}
use Prim.Native.Nat.{ℕ, ◌≤◌}
use native.Mathlib.Omega.{arith}
use Rattle.lists.specs.Lists.{All}
use Rattle.lists.proofs.ListLaws.{all_left, all_right, all_head, all-member}
use Rattle.event_steps.specs.Models.{ModelLaws}
use Rattle.event_steps.specs.Gateways.{history}
use Rattle.event_steps.specs.SingleQueue.{single_history}
use Rattle.timewarp.specs.Worlds.{Setting, World, Steps, none, then, Reachable}
use Rattle.timewarp.specs.Claims.{Claim, NothingToCommit, AlwaysClaimed}
use Rattle.event_steps.proofs.Addressing.{Here}
use Rattle.round_steps.proofs.ArcLaws.{round-below}
use Rattle.event_steps.proofs.Histories.{Bounds, bounds-events, bounds-acknowledgments, committed-beginning, history-whole, acknowledgments-settle}
use Rattle.round_steps.proofs.RoundInvariants.{round-count, in-turn}
use Rattle.timewarp.proofs.Joined.{Good, good, good-steps, agreed-never-falls}

-- A list is empty or has a last element.
data Ends {A : Type 0} : List A → Type 0 where
  empty : Ends []
  last-is : (newer : List A) (a : A) → Ends (newer ++ (a ∷ []))

ends : {A : Type 0} (l : List A) → Ends l
ends [] = empty
ends {A} (a ∷ l) = go (ends l)
  where
    go : {k : List A} → Ends k → Ends (a ∷ k)
    go empty = last-is [] a
    go (last-is newer b) = last-is (a ∷ newer) b

module _ (S : Setting) where
  open S use {model, graph, same-gateways}
  open model use {Message, last, never}

  module _ {w : World S} (k : Good S w) where
    -- Each agreed time bounds everything outstanding, pending and waiting.
    pub bounds : (i : ℕ) → i ≤ last → Bounds model (w.rounds.agreed i) w.events
    bounds i l =
        let f = k.rounds-sound.floor i (omega (arith, same-gateways)) in
        record {
          outstanding-from = λ j h. f.outstanding j (omega (arith, same-gateways));
          waiting-from = λ j h. f.waiting j (omega (arith, same-gateways));
        }

    whole :
        (i : ℕ) →
        i ≤ last →
        never ≤ w.rounds.agreed i →
        NothingToCommit S (w.rounds.agreed i) (w.events.gateways i) →
        (w.events.gateways i).committed ≡ single_history model i
    unfolding history
    whole i l above nothing_left =
        go (w.events.gateways i).processed refl (ends (w.events.gateways i).processed)
        ∙ history-whole model k.events-sound k.laws (w.rounds.agreed i) above (bounds i l) i l
      where
        go : (p : List Message) → (w.events.gateways i).processed ≡ p → Ends p → (w.events.gateways i).committed ≡ history (w.events.gateways i)
        go p e empty = rw e refl
        go p e (last-is newer m) =
            let a = all_left (w.events.gateways i).processed (w.events.gateways i).committed (k.events-sound.addressed i l).done in
            absurd
            (omega
            (arith, nothing_left m newer e, (all_head (all_right newer (m ∷ []) (subst (All (Here model i)) e a))).due))

    claimed : Claim S w
    claimed =
        record {
          beginning = λ i l. committed-beginning model k.events-sound k.laws i l (bounds i l);
          whole = whole;
          never-falls = λ v s i. agreed-never-falls S k s i;
          bound-pending = λ i j l h. ((bounds i l).waiting-from j h).pending-from;
          bound-waiting = λ i j l h. ((bounds i l).waiting-from j h).waiting-from;
          bound-events = λ i l. bounds-events model k.events-sound (bounds i l).outstanding-from;
          bound-acknowledgments =
              λ i l. bounds-acknowledgments model k.events-sound (bounds i l).outstanding-from;
          rounds = round-count graph never _ _ w.rounds k.rounds-sound;
          rounds-few =
              λ t c. omega (arith, round-count graph never _ _ w.rounds k.rounds-sound t c, round-below graph, same-gateways);
          in-turn = all-member w.rounds.frames (in-turn graph never _ _ w.rounds k.rounds-sound);
          acknowledged = acknowledgments-settle model k.events-sound;
        }

  -- The claim holds of every reachable world.
  pub claim-holds : ModelLaws model → {w : World S} → Reachable S w → Claim S w
  claim-holds laws s = claimed (good S laws s)

  -- No agreed time falls in any number of steps.
  pub never-falls : {w v : World S} → Good S w → Steps S w v → (i : ℕ) → w.rounds.agreed i ≤ v.rounds.agreed i
  never-falls k none i = omega arith
  never-falls k (then s t) i = omega (arith, never-falls k s i, agreed-never-falls S (good-steps S k s) t i)

  -- Two reachable worlds that are whole at a gateway have the same record there.
  pub same-record :
      ModelLaws model →
      {w v : World S} (i : ℕ) →
      i ≤ last →
      Reachable S w →
      never ≤ w.rounds.agreed i →
      NothingToCommit S (w.rounds.agreed i) (w.events.gateways i) →
      Reachable S v →
      never ≤ v.rounds.agreed i →
      NothingToCommit S (v.rounds.agreed i) (v.events.gateways i) →
      (w.events.gateways i).committed ≡ (v.events.gateways i).committed
  same-record laws i l s a p t b q = (claim-holds laws s).whole i l a p ∙ sym ((claim-holds laws t).whole i l b q)

-- The theorem.
pub always-claimed : AlwaysClaimed
always-claimed S laws w s = claim-holds S laws s
