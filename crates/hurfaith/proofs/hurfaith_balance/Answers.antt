-- `hurfaith::hurfaith_balance` meets its contract.
use mathlib.Core.Path.{refl}
use Rattle.refusal.proofs.Numbers.{refusal-some}
use Rattle.hurfaith.proofs.Balancing.{balance-refused, balance-no-room, balance-found}
use Rattle.hurfaith.proofs.hurfaith_balance.Goals as goal

pub returns-in-Err : goal.returns-in-Err
returns-in-Err c =
    rw (c.from.ensures, c.number.ensures)
    (balance-refused c.args.opening_stock c.args.bytes.now c.args.figures.now c.in-Err.ensures (refusal-some c.in-Err.why))

pub returns-then-figures-lt3 : goal.returns-then-figures-lt3
returns-then-figures-lt3 c =
    rw (c.from-then-figures-lt3.ensures, c.number-then-figures-lt3.ensures)
    (balance-no-room c.args.opening_stock c.args.bytes.now c.args.figures.now c.in-Ok.ensures refl c.if-figures-lt3.true)

pub returns : goal.returns
returns c =
    balance-found c.args.opening_stock c.args.bytes.now c.args.figures.now c.in-Ok.ensures refl c.if-figures-lt3.false c.put_front.ensures
