-- `views::put_head` meets its contract.
use Rattle.views.proofs.ViewParts.{hour-room, head-length, head-put}
use Rattle.buffer.specs.Slice.{part}
use native.Mathlib.Omega.{arith}
use Rattle.buffer.proofs.Writes.{length_part}
use borrow.Author.Rules.{rules}
use Rattle.views.proofs.put_head.Goals as goal

pub copy-requires : goal.copy-requires
unfolding part
copy-requires c =
    let room = hour-room c.args.at c.args.map c.args.output.now c.args.event.now c.requires.0 c.requires.1 in
    omega (arith, length_part c.args.event.now 4 4 (omega arith))

pub bounds-output-at-2 : goal.bounds-output-at-2
unfolding part
bounds-output-at-2 c =
    let same = head-length c.args.at c.args.map c.args.output.now c.args.event.now c.requires.0 c.requires.1 c.copy.ensures in
    search rules

pub shape_of-output : goal.shape_of-output
unfolding part
shape_of-output c =
    let same = head-length c.args.at c.args.map c.args.output.now c.args.event.now c.requires.0 c.requires.1 c.copy.ensures in
    search (same, rules)

pub returns : goal.returns
unfolding part
returns c =
    head-put c.args.at c.args.map c.args.output.now c.args.event.now c.requires.0 c.requires.1 c.copy.ensures
