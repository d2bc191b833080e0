-- `report::written_as` meets its contract.
use Rattle.report.proofs.Again.{output-is, refused-again, inside-again, prefix-again, compared}
use Rattle.report.proofs.written_as.Goals as goal

pub slice_bounds-same-end : goal.slice_bounds-same-end
slice_bounds-same-end c = search inside-again

pub slice_bounds-same-end-in-Ok : goal.slice_bounds-same-end-in-Ok
slice_bounds-same-end-in-Ok c = search prefix-again

pub returns-in-Ok : goal.returns-in-Ok
returns-in-Ok c = (search compared, search output-is)

pub returns-in-Err : goal.returns-in-Err
returns-in-Err c = (search refused-again, search output-is)
