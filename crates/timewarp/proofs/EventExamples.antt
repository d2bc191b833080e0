-- Examples by computation: a straggler that undoes and cancels, and a cancel that overtakes its message.
use mathlib.Core.List.{[], ◌∷◌}
use mathlib.Core.Path.{◌≡◌, refl}
use Rattle.lists.specs.Lists.{any, without_first}
use Rattle.lists.specs.Families.{change, together}
use Rattle.event_steps.specs.Models.{state_after, sent_by, first, hour}
use Rattle.event_steps.specs.SingleQueue.{is_not_later, earliest, others, opening_queue, do_next, next, steps, measure, single_history}
use Rattle.event_steps.specs.Gateways.{plain, cancel, history, gateway_of, after, opening_data}
use Rattle.timewarp.specs.Worlds.{World, opening_world}
use Rattle.timewarp.proofs.ExampleCalls.{same, same_event, enqueue, becomes, do_message, do_earliest, work, undo_message, undo_later}
use Rattle.timewarp.proofs.ExampleCalls.{undo_back_to, accept, accept_met, accept_pending, accept_striking, accept_waiting, take_plain}
use Rattle.timewarp.proofs.ExampleCalls.{take_cancel}
use Rattle.timewarp.proofs.ExampleModel.{Parcel, parcel, passed_on, at_first, relay, relay_of_two}

-- What the two gateways begin with, and what they send.
abbrev pub p1 : Parcel
p1 = parcel 1 2 0 0 0

abbrev pub q5 : Parcel
q5 = parcel 5 1 0 1 1

abbrev pub a2 : Parcel
a2 = parcel 2 1 0 0 1

-- Sent by q5 done too early, and by q5 done in its turn.
abbrev pub r6 : Parcel
r6 = parcel 6 0 0 1 0

abbrev pub s6 : Parcel
s6 = parcel 6 0 1 1 0

abbrev pub b3 : Parcel
b3 = parcel 3 0 0 1 0

-- Gateway 1 does q5 and sends r6; gateway 0 does p1 and sends a2 to gateway 1.
unfoldable pub early : World relay_of_two
early = work relay_of_two 1 0 (work relay_of_two 1 1 (opening_world relay_of_two))

-- a2 comes late: q5 is undone, and the cancel of r6 is sent.
unfoldable pub straggler : World relay_of_two
straggler = take_plain relay_of_two 1 a2 early

-- The cancel of r6 overtakes r6.
unfoldable pub overtaken : World relay_of_two
overtaken = take_cancel relay_of_two 0 r6 straggler

unfoldable pub met : World relay_of_two
met = take_plain relay_of_two 0 r6 overtaken

straggler-undoes :
    (early.events.gateways 1 ≡ gateway_of [] (q5 ∷ []) [] [] (plain r6 ∷ []))
    × (straggler.events.gateways 1 ≡ gateway_of [] [] (a2 ∷ (q5 ∷ [])) [] (plain r6 ∷ (cancel r6 ∷ [])))
    × (straggler.events.network.events ≡ plain r6 ∷ (cancel r6 ∷ []))
    × (straggler.events.network.acknowledgments ≡ plain a2 ∷ [])
unfolding early straggler opening_world opening_data work do_earliest do_message becomes take_plain undo_later undo_message accept_met accept_pending
    accept any without_first same same_event enqueue after change history sent_by state_after passed_on at_first is_not_later earliest others
straggler-undoes = (refl, refl, refl, refl)

-- The cancel waits, and vanishes with its message.
cancel-overtakes :
    (overtaken.events.gateways 0 ≡ gateway_of [] (p1 ∷ []) [] (r6 ∷ []) (plain a2 ∷ []))
    × (met.events.gateways 0 ≡ gateway_of [] (p1 ∷ []) [] [] (plain a2 ∷ []))
    × (met.events.network.events ≡ [])
    × (met.events.network.acknowledgments ≡ plain a2 ∷ (cancel r6 ∷ (plain r6 ∷ [])))
unfolding met overtaken early straggler opening_world opening_data work do_earliest do_message becomes take_plain take_cancel undo_later undo_back_to
    undo_message accept_met accept_pending accept_striking accept_waiting accept any without_first same same_event enqueue after change history
    sent_by state_after passed_on at_first is_not_later earliest others
cancel-overtakes = (refl, refl, refl, refl)

-- The single queue does a2 before q5, so that s6 is sent and r6 never.
single-queue : (single_history relay 0 ≡ s6 ∷ (b3 ∷ (p1 ∷ []))) × (single_history relay 1 ≡ q5 ∷ (a2 ∷ []))
unfolding single_history steps measure opening_queue together next do_next earliest others is_not_later hour first change sent_by state_after passed_on at_first
single-queue = (refl, refl)
