-- `opening_list::enter` meets its contract.
use Rattle.opening_list.proofs.Entering.{entered_at}
use Rattle.places.proofs.Positions.{place-within}
use borrow.Author.Rules.{rules}
use Rattle.opening_list.proofs.enter.Goals as goal

pub insert_place-requires : goal.insert_place-requires
insert_place-requires c = (search (place-within, rules), search rules)

pub returns : goal.returns
returns c = search entered_at
