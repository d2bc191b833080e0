-- The views take what commit wrote: the events that each gateway has committed may stand in a record.
use mathlib.Core.Path.{◌∙◌, ap}
use Rattle.records.specs.Events.{record_refusal}
use Rattle.records.specs.declared.StockField.TheVariants.{Present}
use Rattle.records.proofs.WrittenEvents.{record-taken}
use Rattle.run.specs.RecordsTaken.{RecordsTaken}
use Rattle.run.proofs.CommittedEvents.{record-events}
use Rattle.run.proofs.Theorem.{reached-both}

pub records-taken : RecordsTaken
records-taken n last setups lent forecast calls h i l =
    let b = (reached-both n last setups lent forecast calls h).both in
    ap (record_refusal Present) (b.beside.records i l ∙ record-events n last setups i (b.beside.done i)) ∙ record-taken (b.committed i l)
