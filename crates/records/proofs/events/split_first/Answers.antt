-- `records::events::split_first` meets its contract.
use Rattle.buffer.proofs.Lent.{bytes-known}
use Rattle.records.proofs.TakenRest.{first-ends, first-inside, first-left, rest-taken}
use Rattle.records.proofs.events.split_first.Goals as goal

pub bounds-bytes-1 : goal.bounds-bytes-1
bounds-bytes-1 c =
    let bytes = c.args.bytes.now in
    (first-ends c.args.stock bytes (bytes-known bytes c.type_inv.bytes) c.requires.1 c.requires.0).kind

pub split_at-requires : goal.split_at-requires
split_at-requires c =
    let bytes = c.args.bytes.now in
    first-inside c.args.stock bytes (bytes-known bytes c.type_inv.bytes) c.requires.1 c.requires.0 c.event_length.ensures

pub returns-clause-first : goal.returns-clause-first
returns-clause-first c =
    let bytes = c.args.bytes.now in
    rw (c.split_at.ensures.front, c.split_at.ensures.back)
    (first-left c.args.stock bytes (bytes-known bytes c.type_inv.bytes) c.requires.1 c.requires.0 c.event_length.ensures)

pub returns-clause-taken : goal.returns-clause-taken
returns-clause-taken c =
    let bytes = c.args.bytes.now in
    rw c.split_at.ensures.back (rest-taken c.args.stock bytes (bytes-known bytes c.type_inv.bytes) c.requires.1 c.requires.0 c.event_length.ensures)
