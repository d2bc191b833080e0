-- `effects::send::put_frames` meets its contract.
use Rattle.std.proofs.Common.{rules, ap}
use Rattle.writer.specs.declared.outgoing.Writer.{Writer}
use Rattle.effects.proofs.StoredFrames.{first-inside, others-room, others-put}
use Rattle.effects.proofs.WriterLaws.{writer-puts}
use Rattle.effects.proofs.send.put_frames.Goals as goal

pub put_next-requires : goal.put_next-requires
put_next-requires c = first-inside _ _ _ c.requires.1

pub put_places-requires : goal.put_places-requires
put_places-requires c = (c.requires.0, others-room _ _ _ c.requires.1 (writer-puts c.put_next.ensures))

pub returns : goal.returns
returns c =
    others-put _ _ _ c.requires.1 (writer-puts c.put_next.ensures)
    (record { position = ap (λ (w : Writer). w.at) c.put_places.ensures; output = search rules })
