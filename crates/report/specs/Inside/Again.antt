-- A frame written again.
use Rattle.std.specs.Prelude.{Bool, ◌&&◌, List, ℕ, leb, length}
use Rattle.buffer.specs.Slice.{same_bytes}
use Rattle.frame.specs.Writing.{well_formed, written}
use Rattle.frame.specs.declared.Frame.{Frame}

-- a frame is one of the forms, its bytes fit into so many, and they are those of the item
abbrev pub written_as : Frame → List ℕ → ℕ → Bool
written_as f item room = well_formed f && leb (length (written f)) room && same_bytes (written f) item
