-- Frames one behind the other, for the contracts of the example's parts. No call's own contract cites this file.
use Rattle.std.specs.Prelude.{ℕ, min, false, List, length, take, replicate, get_or}
use Rattle.model.specs.declared.Message.{Message}
use Rattle.frame.specs.Layout.{whole_length}
use Rattle.frame.specs.Writing.{writing}
use Rattle.memory.specs.Validity.{frame_if}

-- the length of the first frame, which its map gives; no more than there is
abbrev pub first_size : List ℕ → ℕ
first_size frames = min (whole_length (get_or frames 0 0)) (length frames)

-- what a plain message's frame is written as, at most 28 bytes; nothing where the message is no frame
abbrev pub plain_frame : Message → List ℕ
plain_frame m = let w = writing (frame_if false m) (replicate 28 0) in take w.count w.output
