-- `work::finish` meets its contract.
use Rattle.work.proofs.SeveralEvents.{may-put, finishes}
use Rattle.work.proofs.finish.Goals as goal

pub put_stored-written-requires : goal.put_stored-written-requires
put_stored-written-requires c = may-put c.outstanding_at.ensures c.requires

pub returns : goal.returns
returns c =
    finishes c.outstanding_at.ensures c.put_stored-written.ensures c.write_header.ensures
