-- `take_lvt::take_lvt` meets its contract.
use mathlib.Core.Bool.{not}
use mathlib.Core.Path.{ap}
use mathlib.Core.Path.{sym, ◌∙◌}
use borrow.Author.Tests.{not-false}
use Rattle.buffer.proofs.Lent.{bytes-known}
use Rattle.phases.proofs.Awaiting.{awaited-fits, arrived-below}
use native.Mathlib.Omega.{arith}
use Rattle.take_lvt.proofs.Arriving.{lvt-wrong-half, lvt-not-awaited, lvt-awaited}
use Rattle.gateway.proofs.Knowing.{sizes}
use Rattle.take_lvt.proofs.take_lvt.Goals as goal

pub returns-then-is_idle : goal.returns-then-is_idle
returns-then-is_idle c =
    lvt-wrong-half _ _ c.requires _ _ c.is_idle.ensures _ c.if-is_idle.true

pub told-among-requires : goal.told-among-requires
told-among-requires c = let z = sizes _ _ c.requires in omega arith

pub returns-then-not-awaited : goal.returns-then-not-awaited
returns-then-not-awaited c =
    lvt-not-awaited _ _ c.requires _ _ c.is_idle.ensures c.told-among.result c.bit_of-bit.ensures.0
    c.awaited.ensures _ c.if-is_idle.false c.told-among.ensures (ap not c.if-not-awaited.true)

pub overflow_add-round : goal.overflow_add-round
overflow_add-round c =
    record {
      fits = awaited-fits _ _ c.bit_of-bit.ensures.1 (arrived-below _ _ c.requires (bytes-known c.args.memory.now
          c.slice_known-1.given)) (sym c.awaited.ensures ∙ not-false _ (ap not c.if-not-awaited.false));
    }

pub returns : goal.returns
returns c =
    lvt-awaited _ _ c.requires c.args.output.now _ c.is_idle.ensures c.told-among.result
    c.bit_of-bit.ensures.0 c.awaited.ensures _ c.if-is_idle.false c.told-among.ensures (ap not c.if-not-awaited.false)
    c.all_bits.ensures c.value_in.ensures c.min-value.ensures c.lvt_in.ensures
