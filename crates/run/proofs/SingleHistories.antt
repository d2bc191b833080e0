-- What the single queue on bytes does at a gateway is what the abstract theory's single queue does there.
use mathlib.Core.Path.{◌≡◌, refl, sym, ◌∙◌, ap}
use Prim.Native.Nat.{ℕ, zero, suc, ◌≤◌, ◌<◌}
use mathlib.Core.Bool.{Bool, true, false, cond}
use mathlib.Core.List.{List, [], ◌∷◌, ◌++◌, append_assoc, append-nil}
use lib.Dec.{eqb}
use borrow.Author.Tests.{eqb-true}
use Rattle.lists.specs.Lists.{passing}
use Rattle.lists.specs.Families.{change}
use Rattle.lists.proofs.ListLaws.{passing-append}
use Rattle.model.specs.declared.Message.{Message}
use Rattle.frame.specs.Limits.{nothing_due}
use Rattle.event_steps.specs.Models.{Model}
use Rattle.event_steps.specs.SingleQueue as Theory
use Rattle.run.specs.Forecast.{SetUpInput}
use Rattle.run.specs.SingleQueue.{Queue, opening_queue, step_on, turns_for}
use Rattle.run.specs.History.{next_of, done_in, single_history}
use Rattle.run.proofs.ForecastModel.{forecast_model, Settled}
use Rattle.run.proofs.SingleQueues.{Alike, same_first, not_alike, earliest-is, Agree, step-agrees, whole-history}

-- a history with the newest message in front, in the order in which it was done
unfoldable pub in_order : List Message → List Message
in_order [] = []
in_order (m ∷ h) = in_order h ++ (m ∷ [])

pub in-order-append : (later h : List Message) → in_order (later ++ h) ≡ in_order h ++ in_order later
unfolding in_order
in-order-append [] h = sym (append-nil (in_order h))
in-order-append (m ∷ later) h = ap (λ l. l ++ (m ∷ [])) (in-order-append later h) ∙ append_assoc (in_order h) (in_order later) (m ∷ [])

module _ (n last : ℕ) (setups : ℕ → SetUpInput) (i : ℕ) where
  abbrev model : Model
  model = forecast_model n last setups

  -- a message to gateway i
  abbrev is_here : Message → Bool
  is_here m = eqb m.to i

  -- doing a message adds it to what its gateway has done
  one-done : (m : Message) (rest : List Message) (h : ℕ → List Message)
      → in_order ((Theory.do_next model m rest h).done i) ≡ in_order (h i) ++ passing is_here (m ∷ [])
  unfolding Theory.do_next change passing in_order
  one-done m rest h = by (eqb m.to i) refl
    where
      by : (x : Bool) → eqb m.to i ≡ x → in_order (cond x (m ∷ h m.to) (h i)) ≡ in_order (h i) ++ cond x (m ∷ []) []
      by true e = ap (λ (j : ℕ). in_order (h j) ++ (m ∷ [])) (eqb-true m.to i e)
      by false e = sym (append-nil (in_order (h i)))

  -- a step of each
  step-done : (k l : List Message) → Alike model k l → (h : ℕ → List Message)
      → in_order ((Theory.next model l h).done i) ≡ in_order (h i) ++ passing is_here (next_of k)
  unfolding Theory.next next_of passing
  step-done [] [] a h = sym (append-nil (in_order (h i)))
  step-done [] (y ∷ l) a h = absurd (not_alike model y l a)
  step-done (x ∷ k) [] a h = absurd (not_alike model x k (λ z. sym (a z)))
  step-done (x ∷ k) (y ∷ l) a h =
      one-done (Theory.earliest model y l) (Theory.others model y l) h
      ∙ ap (λ (m : Message). in_order (h i) ++ passing is_here (m ∷ [])) (sym (earliest-is n last setups x k ∙ same_first model x y k l a))

  module _ (some : 1 ≤ n) (hours : last < nothing_due) (settled : (j : ℕ) → j < n → Settled n last setups j) where
    -- and as many as one likes
    steps-done : (turns : ℕ) (q : Queue) (t : Theory.Queue Message) → Agree n last setups q t
        → in_order ((Theory.steps model turns t).done i) ≡ in_order (t.done i) ++ passing is_here (done_in setups turns q)
    unfolding Theory.steps done_in passing
    steps-done zero q t a = sym (append-nil (in_order (t.done i)))
    steps-done (suc turns) q t a =
        let next = Theory.next model t.list t.done in
        let rest = passing is_here (done_in setups turns (step_on setups q q.list)) in
        steps-done turns (step_on setups q q.list) next (step-agrees n last setups some hours settled q t a)
        ∙ ap (λ (l : List Message). l ++ rest) (step-done q.list t.list a.lists t.done)
        ∙ append_assoc (in_order (t.done i)) (passing is_here (next_of q.list)) rest
        ∙ ap (λ (l : List Message). in_order (t.done i) ++ l)
        (sym (passing-append is_here (next_of q.list) (done_in setups turns (step_on setups q q.list))))

    -- the whole history
    pub whole-done : Agree n last setups (opening_queue n setups) (Theory.opening_queue model)
        → single_history n last setups i ≡ in_order (Theory.single_history model i)
    unfolding single_history Theory.opening_queue in_order
    whole-done a =
        sym (steps-done (turns_for last (opening_queue n setups).list) (opening_queue n setups) (Theory.opening_queue model) a)
        ∙ ap in_order (whole-history n last setups some hours settled a i)
