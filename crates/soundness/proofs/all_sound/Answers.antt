-- `soundness::all_sound` meets its contract.
use native.Mathlib.Omega.{arith}
use Rattle.soundness.proofs.ByParts.{header-facts, sound-header, sound-round, sound-queue, sound-decided}
use Rattle.std.proofs.lemmas.Bool.{not_from_true}
use Rattle.soundness.proofs.all_sound.Goals as goal

pub returns-then-not-header_sound : goal.returns-then-not-header_sound
returns-then-not-header_sound c = search sound-header

pub round_possible-requires : goal.round_possible-requires
round_possible-requires c =
    let facts = header-facts _ c.requires.1 c.header_sound.ensures (not_from_true _ c.if-not-header_sound.false) in facts.settings.own

pub returns-then-not-round_possible : goal.returns-then-not-round_possible
returns-then-not-round_possible c = search sound-round

pub queue_sound-requires : goal.queue_sound-requires
queue_sound-requires c =
    let facts = header-facts _ c.requires.1 c.header_sound.ensures (not_from_true _ c.if-not-header_sound.false) in
    let places = facts.settings.q in (omega (arith, facts), omega (arith, facts), omega (arith, facts))

pub returns-then-not-queue_sound : goal.returns-then-not-queue_sound
returns-then-not-queue_sound c = search sound-queue

pub outstanding_sound-requires : goal.outstanding_sound-requires
outstanding_sound-requires c =
    let facts = header-facts _ c.requires.1 c.header_sound.ensures (not_from_true _ c.if-not-header_sound.false) in omega (arith, facts)

pub returns : goal.returns
returns c = let pre = c.requires in search sound-decided
