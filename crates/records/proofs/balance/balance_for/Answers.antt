-- `records::balance::balance_for` meets its contract.
use mathlib.Core.Path.{refl}
use Rattle.std.proofs.lemmas.Result.{err_from_is_err_and}
use Rattle.refusal.proofs.Numbers.{refusal-some}
use Rattle.records.proofs.Booking.{record-refused, record-passed, record-booked}
use Rattle.records.proofs.balance.balance_for.Goals as goal

pub returns-in_err-pass_over : goal.returns-in_err-pass_over
returns-in_err-pass_over c =
    let p = err_from_is_err_and c.from_residual.result c.from_residual.ensures.1 in
    rw (p.1, p.2) (record-refused c.args.opening c.args.bytes.now _ c.in_err-pass_over.ensures (refusal-some c.in_err-pass_over.field-0.0.refusal))

pub book_of-book-requires : goal.book_of-book-requires
book_of-book-requires c =
    (c.requires.0, c.requires.1, record-passed c.args.opening c.args.bytes.now _ c.in_ok-pass_over.ensures refl)

pub returns : goal.returns
returns c = record-booked c.args.opening c.args.bytes.now _ c.in_ok-pass_over.ensures refl c.book_of-book.ensures
