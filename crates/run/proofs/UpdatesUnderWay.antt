-- The Updates of a closed round that are under way: where there is none the round is completed, and a completed one has none.
use mathlib.Core.Path.{◌≡◌, refl, sym, ◌∙◌, ap, subst}
use Prim.Native.Nat.{ℕ, ◌-◌, ◌≤◌, ◌<◌}
use native.Mathlib.Omega.{arith}
use mathlib.Core.Bool.{true, true≢false}
use mathlib.Core.List.{List}
use lib.Dec.{leb}
use borrow.Author.Tests.{le-leb}
use Rattle.lists.specs.Lists.{All, nil, cons, tally}
use Rattle.lists.proofs.ListLaws.{all_of, all-each, tally-append}
use Rattle.model.specs.Messages.{kind_number}
use Rattle.model.specs.declared.Message.{Message}
use Rattle.model.specs.declared.Kind.{Kind}
use Rattle.model.specs.declared.Kind.TheVariants.{Failure, Request, Delivery, Restock, Start, Lvt, Update}
use Rattle.frame.specs.Reasons.{frame_read}
use Rattle.round_steps.specs.Arcs.{Child}
use Rattle.round_steps.specs.RoundSteps as RoundSteps
use Rattle.round_steps.specs.RoundSteps.{update, InTurn, update-in-turn}
use Rattle.timewarp.specs.Worlds as Worlds
use Rattle.round_steps.proofs.ArcLaws.{ChildOf, child, no-child, child?}
use Rattle.round_steps.proofs.RoundFrames.{update_to, both-not}
use Rattle.round_steps.proofs.RoundInvariants.{closed-completed}
use Rattle.run.specs.Forecast.{SetUpInput}
use Rattle.run.specs.World.{World, Carried, kind_in}
use Rattle.run.specs.Demand3.{Completed}
use Rattle.run.specs.RoundsEnd.{UpdateUnderWay}
use Rattle.run.proofs.FigureGraph.{figure_graph}
use Rattle.run.proofs.RoundCounters.{closed-number}
use Rattle.run.proofs.RoundsUnderWay.{by_kind, round_of, rounds_in, Numbered}
use Rattle.run.proofs.BothWorlds.{Both, model, forecast_setting, good-world}
use Rattle.run.proofs.FramesInTurn.{only, turns}

-- a frame that is no Update of round k
abbrev OfAnother : ℕ → Carried → Type 0
OfAnother k c = Numbered c × (kind_in c.frame ≡ 6 → c.tag ≡ k → ⊥)

-- counts for none of its Updates
another-counts : (k j : ℕ) → 1 ≤ k → (c : Carried) → OfAnother k c → tally (update_to (k - 1) j) (round_of (c.tag - 1) (frame_read c.frame)) ≡ 0
unfolding tally update_to
another-counts k j one c a = by-kind m.kind refl
  where
    m : Message
    m = (frame_read c.frame).message

    by-kind : (x : Kind) → m.kind ≡ x → tally (update_to (k - 1) j) (by_kind (c.tag - 1) m x) ≡ 0
    by-kind (Failure origin) e = refl
    by-kind (Request origin) e = refl
    by-kind (Delivery origin) e = refl
    by-kind (Restock quantity) e = refl
    by-kind Start e = refl
    by-kind Lvt e = refl
    by-kind Update e =
        let six : kind_number m.kind ≡ 6 = ap kind_number e in
        let number : 1 ≤ c.tag = a.0 (omega arith) in
        omega (arith, both-not (k - 1) j (c.tag - 1) m.to (λ d. absurd (a.1 six (omega arith))))

others-count : (k j : ℕ) → 1 ≤ k → {cs : List Carried} → All (OfAnother k) cs → tally (update_to (k - 1) j) (rounds_in cs) ≡ 0
unfolding tally rounds_in
others-count k j one nil = refl
others-count k j one (cons {a = c} {l = cs} h a) =
    omega (
      arith,
      tally-append (update_to (k - 1) j) (round_of (c.tag - 1) (frame_read c.frame)) (rounds_in cs),
      another-counts k j one c h,
      others-count k j one a,
    )

module _ (n : ℕ) (some : 1 ≤ n) (last : ℕ) (setups : ℕ → SetUpInput) {w : World} {t : Worlds.World (forecast_setting n some last setups)} (b
    : Both n some last setups w t) (k : ℕ) (closed : w.rounds.closed k ≡ true) where
  -- its number in the theory, and where its Update is accepted
  number : (1 ≤ k) × (k ≤ t.rounds.tag)
  number = closed-number (figure_graph n some) w.rounds t.rounds b.rounds.counted k closed

  same-accepted : (i : ℕ) → 0 < i → w.rounds.accepted k i ≡ leb 1 (t.rounds.accepted (k - 1) i)
  same-accepted i p = ap (λ u. w.rounds.accepted u i) (omega (arith, number)) ∙ b.rounds.counted.accepted (k - 1) i p

  -- where none is under way it is completed
  pub none-is-completed : (UpdateUnderWay w k → ⊥) → Completed n w.rounds k
  none-is-completed none =
      record {
        is_closed = closed;
        all_accepted = λ i p l. same-accepted i p ∙ le-leb 1 (t.rounds.accepted (k - 1) i) (all.all-accepted i p (omega arith));
      }
    where
      others : All (OfAnother k) w.under_way
      others = all_of w.under_way (λ c m. (all-each b.numbered c m, λ six e. none (c, m, six, e)))

      all : RoundSteps.Completed (figure_graph n some) t.rounds (k - 1)
      all =
          closed-completed (figure_graph n some) (model n some last setups).never _ _ t.rounds (good-world n some last setups b).rounds-sound
          (k - 1)
          (omega (arith, number))
          (λ j. ap (tally (update_to (k - 1) j)) (sym b.rounds.frames) ∙ others-count k j number.0 others)

  -- where it is completed an Update of it would be out of turn
  pub completed-has-none : Completed n w.rounds k → UpdateUnderWay w k → ⊥
  completed-has-none all (c, under, six, e) = by-kind m.kind refl
    where
      m : Message
      m = (frame_read c.frame).message

      by-child : ChildOf (n - 1) m.from m.to → Child (n - 1) m.from m.to → t.rounds.accepted (c.tag - 1) m.to ≡ 0 → ⊥
      by-child (no-child x) y z = omega arith
      by-child (child x) y z =
          let none : t.rounds.accepted (k - 1) m.to ≡ 0 = ap (λ u. t.rounds.accepted (u - 1) m.to) (sym e) ∙ z in
          true≢false (sym (all.all_accepted m.to (omega arith) (omega arith)) ∙ same-accepted m.to (omega arith) ∙ ap (leb 1) none)

      out-of-turn : InTurn (figure_graph n some) t.rounds (update m.from m.to (c.tag - 1) m.hour) → ⊥
      out-of-turn (update-in-turn y p z) = by-child (child? (n - 1) m.from m.to) y z

      by-kind : (x : Kind) → m.kind ≡ x → ⊥
      by-kind (Failure origin) d = omega (arith, six, ap kind_number d)
      by-kind (Request origin) d = omega (arith, six, ap kind_number d)
      by-kind (Delivery origin) d = omega (arith, six, ap kind_number d)
      by-kind (Restock quantity) d = omega (arith, six, ap kind_number d)
      by-kind Start d = omega (arith, six, ap kind_number d)
      by-kind Lvt d = omega (arith, six, ap kind_number d)
      by-kind Update d =
          out-of-turn (only (update m.from m.to (c.tag - 1) m.hour) (subst (λ (x : Kind). All (InTurn (figure_graph n some)
          t.rounds) (by_kind (c.tag - 1) m x)) d (turns n some last setups b c under)))
