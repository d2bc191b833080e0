-- A whole run of two gateways by computation: after the straggler all is done, acknowledged, agreed on in a round and committed,
-- and the record is the single queue's.
use mathlib.Core.List.{List, [], ◌∷◌}
use mathlib.Core.Path.{◌≡◌, refl}
use Prim.Native.Nat.{ℕ, ◌≤◌}
use native.Mathlib.Decide.{ℕ_discrete}
use native.Mathlib.Omega.{arith}
use Rattle.routing.specs.Arcs.{children}
use Rattle.lists.specs.Lists.{least, Insert, here, there, nil, cons, tally, matches, count, any, without_first}
use Rattle.lists.specs.Families.{change, put}
use Rattle.event_steps.specs.Models.{state_after, sent_by, first, hour}
use Rattle.event_steps.specs.SingleQueue.{is_not_later, earliest, others}
use Rattle.event_steps.specs.Gateways.{Event, plain, cancel, message, history, gateway_of, after, opening_data}
use Rattle.round_steps.specs.RoundSteps.{opening, raise, noted, lower, begin, hear, stop, take_lvt, finish, close, take_update}
use Rattle.round_steps.specs.RoundSteps.{as-it-starts, at-an-lvt, begins, hears, stops, takes-lvt, finishes, closes, takes-update}
use Rattle.timewarp.specs.Worlds.{Setting, World, opening_world, lower_all, least_outstanding, least_waiting, round, then, Reachable}
use Rattle.timewarp.proofs.ExampleCalls.{same, same_event, enqueue, becomes, do_message, do_earliest, work, undo_message, undo_later}
use Rattle.timewarp.proofs.ExampleCalls.{undo_back_to, accept, accept_met, accept_pending, accept_striking, accept_waiting, take_plain}
use Rattle.timewarp.proofs.ExampleCalls.{take_cancel, take_acknowledgment, oldest, newer_ones, commit_oldest, commit}
use Rattle.round_steps.proofs.RoundCarried.{all-to, all_from}
use Rattle.timewarp.proofs.SmallGraphs.{two, to_of_two, from_of_two}
use Rattle.timewarp.proofs.ExampleModel.{Parcel, passed_on, at_first, relay-laws, relay_of_two}
use Rattle.timewarp.proofs.EventExamples.{p1, q5, a2, r6, s6, b3, early, straggler, overtaken, met}
use Rattle.timewarp.proofs.Joined.{good}
use Rattle.timewarp.proofs.CallChains.{steps-join, work-chain, take_plain-chain, take_cancel-chain, take_acknowledgment-chain, commit-chain}

abbrev S : Setting
S = relay_of_two

-- Gateway 1 does a2 and q5, gateway 0 what they send.
unfoldable pub all_done : World S
all_done = work S 2 0 (take_plain S 0 s6 (take_plain S 0 b3 (work S 2 1 met)))

-- All acknowledgments are taken.
unfoldable pub all_acknowledged : World S
all_acknowledged =
    take_acknowledgment
    S
    1
    (plain s6)
    (take_acknowledgment
    S
    1
    (plain b3)
    (take_acknowledgment S 1 (plain r6) (take_acknowledgment S 1 (cancel r6) (take_acknowledgment S 0 (plain a2) all_done))))

all-done-in-order :
    (all_acknowledged.events.gateways 1 ≡ gateway_of [] (q5 ∷ (a2 ∷ [])) [] [] [])
    × (all_acknowledged.events.gateways 0 ≡ gateway_of [] (s6 ∷ (b3 ∷ (p1 ∷ []))) [] [] [])
    × (all_acknowledged.events.network.acknowledgments ≡ [])
unfolding all_acknowledged all_done met overtaken early straggler opening_world opening_data work do_earliest do_message becomes take_plain
    take_cancel take_acknowledgment undo_later undo_back_to undo_message accept_met accept_pending accept_striking accept_waiting accept any
    without_first same same_event enqueue after change history sent_by state_after passed_on at_first is_not_later earliest others
all-done-in-order = (refl, refl, refl)

-- These worlds are reached by the steps.
pub reached-early : Reachable S early
unfolding early
reached-early = steps-join (work-chain S 1 (omega arith) 1 (opening_world S)) (work-chain S 0 (omega arith) 1 (work S 1 1 (opening_world S)))

pub reached-straggler : Reachable S straggler
unfolding straggler early opening_world opening_data work do_earliest do_message becomes take_plain take_cancel take_acknowledgment undo_later
    undo_back_to undo_message accept_met accept_pending accept_striking accept_waiting accept any without_first same same_event enqueue after change
    history sent_by state_after passed_on at_first is_not_later earliest others message
reached-straggler =
    steps-join reached-early (take_plain-chain S 1 (omega arith) a2 early (good S relay-laws reached-early) refl (there here))

pub reached-overtaken : Reachable S overtaken
unfolding overtaken straggler early opening_world opening_data work do_earliest do_message becomes take_plain take_cancel take_acknowledgment
    undo_later undo_back_to undo_message accept_met accept_pending accept_striking accept_waiting accept any without_first same same_event enqueue
    after change history sent_by state_after passed_on at_first is_not_later earliest others message
reached-overtaken =
    steps-join reached-straggler (take_cancel-chain S 0 (omega arith) r6 straggler (good S relay-laws reached-straggler) refl (there here))

pub reached-met : Reachable S met
unfolding met overtaken straggler early opening_world opening_data work do_earliest do_message becomes take_plain take_cancel take_acknowledgment
    undo_later undo_back_to undo_message accept_met accept_pending accept_striking accept_waiting accept any without_first same same_event enqueue
    after change history sent_by state_after passed_on at_first is_not_later earliest others message
reached-met = steps-join reached-overtaken (take_plain-chain S 0 (omega arith) r6 overtaken (good S relay-laws reached-overtaken) refl here)

pub reached-done : Reachable S all_done
unfolding all_done met overtaken straggler early opening_world opening_data work do_earliest do_message becomes take_plain take_cancel
    take_acknowledgment undo_later undo_back_to undo_message accept_met accept_pending accept_striking accept_waiting accept any without_first same
    same_event enqueue after change history sent_by state_after passed_on at_first is_not_later earliest others message
reached-done =
    let a : Reachable S (work S 2 1 met) = steps-join reached-met (work-chain S 1 (omega arith) 2 met) in
    let b : Reachable S (take_plain S 0 b3 (work S 2 1 met)) = steps-join a (take_plain-chain S 0 (omega arith) b3 (work S 2 1 met) (good S relay-laws a) refl here) in
    let c : Reachable S (take_plain S 0 s6 (take_plain S 0 b3 (work S 2 1 met))) =
    steps-join b (take_plain-chain S 0 (omega arith) s6 (take_plain S 0 b3 (work S 2 1 met)) (good S relay-laws b) refl here)
    in
    steps-join c (work-chain S 0 (omega arith) 2 (take_plain S 0 s6 (take_plain S 0 b3 (work S 2 1 met))))

-- An acknowledgment is taken.
settles : (i : ℕ) → i ≤ 1 → (e : Event Parcel) (w : World S) → Reachable S w → (message e).source ≡ i → (rest : List (Event Parcel)) → Insert
    e rest w.events.network.acknowledgments → Reachable S (take_acknowledgment S i e w)
settles i l e w r p rest x = steps-join r (take_acknowledgment-chain S i l e w (good S relay-laws r) p x)

pub reached-acknowledged : Reachable S all_acknowledged
unfolding all_acknowledged all_done met overtaken straggler early opening_world opening_data work do_earliest do_message becomes take_plain
    take_cancel take_acknowledgment undo_later undo_back_to undo_message accept_met accept_pending accept_striking accept_waiting accept any
    without_first same same_event enqueue after change history sent_by state_after passed_on at_first is_not_later earliest others message
reached-acknowledged =
    settles
    1
    (omega arith)
    (plain s6)
    _
    (settles
    1
    (omega arith)
    (plain b3)
    _
    (settles
    1
    (omega arith)
    (plain r6)
    _
    (settles 1 (omega arith) (cancel r6) _ (settles 0 (omega arith) (plain a2) all_done reached-done refl _ here) refl _ here)
    refl
    _
    here)
    refl
    _
    here)
    refl
    _
    here

-- A round: nothing is outstanding, pending or waiting, so that all agree on "nothing due".
pub agreed_run : (w : World S) × Reachable S w
unfolding all_acknowledged all_done met overtaken straggler early opening_world opening_data opening lower_all lower least_outstanding
    least_waiting least begin hear stop finish take_lvt close take_update noted put raise two to_of_two from_of_two children work do_earliest
    do_message becomes take_plain take_cancel take_acknowledgment undo_later undo_back_to undo_message accept_met accept_pending accept_striking
    accept_waiting accept any without_first same same_event enqueue after change history sent_by state_after passed_on at_first is_not_later earliest
    others message tally matches count ℕ_discrete
agreed_run = (
  _,
  then
      (then
      (then
      (then
      (then
      (then
      (then
      (then
      (then reached-acknowledged (round (begins 0 20 (omega arith) refl (all_from two 0 nil) refl)))
      (round (hears 0 1 0 here)))
      (round (begins 1 20 (omega arith) refl (all_from two 1 (cons refl nil)) refl)))
      (round (stops 1 20 (omega arith) refl (as-it-starts refl) refl)))
      (round (finishes 1 (omega arith) (omega arith) refl (all-to two 1 nil))))
      (round (stops 0 20 (omega arith) refl (at-an-lvt here) refl)))
      (round (takes-lvt 1 0 0 20 refl here)))
      (round (closes refl (all-to two 0 (cons refl nil)))))
      (round (takes-update 0 1 0 20 here)),
)

-- Everything is committed.
unfoldable pub final : World S
final = commit S 1 (commit S 1 (commit S 0 (commit S 0 (commit S 0 agreed_run.0))))

-- Its record is the single queue's, the agreed times are "nothing due", and the round took three messages.
record-is-whole :
    (final.events.gateways 0 ≡ gateway_of (s6 ∷ (b3 ∷ (p1 ∷ []))) [] [] [] [])
    × (final.events.gateways 1 ≡ gateway_of (q5 ∷ (a2 ∷ [])) [] [] [] [])
    × (final.rounds.agreed 0 ≡ 20)
    × (final.rounds.agreed 1 ≡ 20)
    × (final.rounds.written 0 ≡ 3)
unfolding final agreed_run commit commit_oldest oldest newer_ones hour first all_acknowledged all_done met overtaken straggler early opening_world
    opening_data opening lower_all lower least_outstanding least_waiting least begin hear stop finish take_lvt close take_update noted put raise
    two to_of_two from_of_two children work do_earliest do_message becomes take_plain take_cancel take_acknowledgment undo_later undo_back_to
    undo_message accept_met accept_pending accept_striking accept_waiting accept any without_first same same_event enqueue after change history
    sent_by state_after passed_on at_first is_not_later earliest others message tally matches count ℕ_discrete
record-is-whole = (refl, refl, refl, refl, refl)

pub reached-final : Reachable S final
unfolding final
reached-final =
    steps-join
    (steps-join
    (steps-join
    (steps-join
    (steps-join agreed_run.1 (commit-chain S 0 (omega arith) agreed_run.0))
    (commit-chain S 0 (omega arith) (commit S 0 agreed_run.0)))
    (commit-chain S 0 (omega arith) (commit S 0 (commit S 0 agreed_run.0))))
    (commit-chain S 1 (omega arith) (commit S 0 (commit S 0 (commit S 0 agreed_run.0)))))
    (commit-chain S 1 (omega arith) (commit S 1 (commit S 0 (commit S 0 (commit S 0 agreed_run.0)))))
