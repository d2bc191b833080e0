-- `views::view_for` meets its contract.
use mathlib.Core.Path.{refl}
use Rattle.std.proofs.lemmas.Result.{err_from_is_err_and}
use Rattle.refusal.proofs.Numbers.{refusal-some}
use Rattle.buffer.proofs.Lent.{bytes-known}
use Rattle.views.proofs.ViewBranches.{record-refused, record-taken, no_room, enough-room, all-written}
use Rattle.views.proofs.view_for.Goals as goal

pub returns-in_err-length : goal.returns-in_err-length
returns-in_err-length c =
    let p = err_from_is_err_and c.from_residual.result c.from_residual.ensures.1 in
    rw (p.1, p.2)
    (record-refused c.args.reader c.args.stock c.args.bytes.now c.args.output.now c.lengths_for.ensures c.in_err-length.ensures
    (refusal-some c.in_err-length.field-0.0.refusal))

pub returns-then-output-length : goal.returns-then-output-length
returns-then-output-length c =
    let bytes = c.args.bytes.now in
    no_room c.args.reader c.args.stock bytes c.args.output.now c.lengths_for.ensures c.in_ok-length.ensures (bytes-known bytes c.type_inv.bytes) refl
    c.if-output-length.true

pub write_view-requires : goal.write_view-requires
write_view-requires c =
    let bytes = c.args.bytes.now in
    let known = bytes-known bytes c.type_inv.bytes in (
      record-taken c.args.reader c.args.stock bytes c.args.output.now c.lengths_for.ensures c.in_ok-length.ensures known refl,
      enough-room c.args.reader c.args.stock bytes c.args.output.now c.lengths_for.ensures c.in_ok-length.ensures known refl c.if-output-length.false,
    )

pub returns : goal.returns
returns c =
    let bytes = c.args.bytes.now in
    all-written c.args.reader c.args.stock bytes c.args.output.now c.lengths_for.ensures c.in_ok-length.ensures (bytes-known bytes c.type_inv.bytes) refl
    c.if-output-length.false c.write_view.ensures
