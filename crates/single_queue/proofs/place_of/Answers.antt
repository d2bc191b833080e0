-- `single_queue::place_of` meets its contract.
use Rattle.std.proofs.Common.{◌≡◌, ◌≤◌, ℕ, Bool, Some, None, cond, not, ◌∙◌, ap, rules, tests, arith, unwrap_or, length, nat_lt}
use Rattle.std.proofs.lemmas.Bool.Decides.{nat_tests}
use Rattle.std.proofs.lemmas.Iterator.{YieldsList-from_slice}
use Rattle.std.proofs.lemmas.Iterator.Search.{position_from_yields_List}
use Rattle.std.proofs.lemmas.List.Sums.{prefix_len-le-length}
use Rattle.memory.specs.Validity.{later}
use Rattle.model.specs.declared.Message.{Message}
use Rattle.single_queue.proofs.place_of.Goals as goal

place-or-end : (n end : ℕ) → n ≤ end → unwrap_or (cond (nat_lt n end) (Some n) None) end ≡ n
place-or-end n end h = grind (arith, nat_tests)

pub returns : goal.returns
returns c =
    let later-than : Message → Bool = λ other. later other c.args.message in
    let found =
    position_from_yields_List later-than _ _ c.position-later_at.result c.position-later_at.ensures.ran
    (YieldsList-from_slice _ c.iter.ensures.rest) (λ x b q k. search (rules, tests)) in
    let within = prefix_len-le-length (λ other. not (later-than other)) c.args.queue.now in
    let place = c.unwrap_or.ensures ∙ ap (λ r. unwrap_or r (length c.args.queue.now)) found ∙ place-or-end _ _ within in
    record { place = place; within = omega (arith, place, within) }
