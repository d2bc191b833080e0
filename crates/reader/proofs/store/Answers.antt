-- `reader::store` meets its contract.
use mathlib.Core.Path.{◌≡◌}
use Rattle.std.proofs.Common.{rules}
use Rattle.frame.proofs.Walking.{last_bit, lamp-bytes}
use Rattle.reader.proofs.store.Goals as goal

pub read-requires-in_default : goal.read-requires-in_default
read-requires-in_default c =
    let last : c.args.bit ≡ 7 = search last_bit in
    rw last at c.requires.1

pub returns-in-5 : goal.returns-in-5
returns-in-5 c = search (lamp-bytes, rules)

pub returns-in_default : goal.returns-in_default
returns-in_default c =
    let last : c.args.bit ≡ 7 = search last_bit in
    rw last (cc)
