-- The bits of the gateways that are awaited.
use mathlib.Core.Path.{◌≡◌}
use mathlib.Core.Bool.{true, not, ◌&&◌}
use mathlib.Core.List.{List}
use Prim.Native.Nat.{ℕ, zero, suc, ◌+◌, ◌/◌, ◌%◌, ◌≤◌, ◌<◌}
use native.Mathlib.Omega.{arith}
use lib.Dec.{leb, eqb}
use borrow.Author.Tests.{eqb-false, not-true}
use Rattle.buffer.specs.Slice.{Bytes}
use Rattle.memory.specs.declared.Header.{Header}
use Rattle.lists.proofs.BoolLaws.{and_right}
use Rattle.memory.proofs.SoundMemory.{sound-facts, sound-fits}
use Rattle.gateway.specs.Rounds.{stands}
use Rattle.gateway.specs.Inside.Premises.{Known}
use Rattle.gateway.proofs.Knowing.{round_is}

-- a bit that is awaited can be added
pub awaited-fits : (bit arrived : ℕ) → bit ≤ 2 → arrived < 256 → (leb 1 bit && not (stands bit arrived)) ≡ true → arrived + bit < 256
awaited-fits zero arrived b h e = omega arith
awaited-fits (suc zero) arrived b h e = let n = eqb-false (arrived / 1 % 2) 1 (not-true (eqb (arrived / 1 % 2) 1) (and_right (leb 1 1) (not
    (stands 1 arrived)) e)) in omega arith
awaited-fits (suc (suc zero)) arrived b h e = let n = eqb-false (arrived / 2 % 2) 1 (not-true (eqb (arrived / 2 % 2) 1) (and_right (leb 1 2)
    (not (stands 2 arrived)) e)) in omega arith
awaited-fits (suc (suc (suc bit))) arrived b h e = absurd (omega arith)

pub arrived-below : (m : List ℕ) (h : Header) → Known m h → Bytes m → h.round.arrived < 256
arrived-below m h k bytes = rw (round_is m h k) (sound-fits m bytes (sound-facts m k.soundness)).header.round.arrived
