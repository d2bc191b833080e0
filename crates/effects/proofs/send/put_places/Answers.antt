-- `effects::send::put_places` meets its contract.
use Rattle.effects.proofs.StoredFrames.{next-room}
use Rattle.effects.proofs.WriterLaws.{writer-puts, none-advanced, next-advanced}
use Rattle.effects.proofs.send.put_places.Goals as goal

pub loop-k-init : goal.loop-k-init
loop-k-init c = none-advanced _ _ _

pub put_next-requires : goal.put_next-requires
put_next-requires c = next-room _ _ (writer-puts c.loop-k.invariant) c.loop-k-test.true c.requires.1 c.stored_frame.ensures

pub loop-k-preserved : goal.loop-k-preserved
loop-k-preserved c = next-advanced _ _ _ c.loop-k.invariant c.loop-k-test.true c.requires.1 c.stored_frame.ensures c.put_next.ensures
