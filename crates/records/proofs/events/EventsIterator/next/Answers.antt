-- `next` of the events of a record meets its contract.
use native.Mathlib.Omega.{arith}
use mathlib.Core.Path.{◌≡◌}
use lib.ListN.{length}
use Rattle.std.proofs.lemmas.Bool.Decides.{nat_tests}
use Rattle.records.proofs.TakenRest.{no_events}
use Rattle.records.proofs.events.EventsIterator.next.Goals as goal

pub returns-then-is_empty-clause-steps : goal.returns-then-is_empty-clause-steps
returns-then-is_empty-clause-steps c =
    let events = c.args.self.now in
    let empty : length events.rest.now ≡ 0 = grind (arith, nat_tests) in
    let none = no_events events.stock events.rest.now empty in
    (none, none)
