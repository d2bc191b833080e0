-- `views::view` meets its contract.
use Rattle.std.proofs.lemmas.Result.{err_from_is_err_and}
use Rattle.views.proofs.ViewBranches.{named, nameless, no_reader, no-such-stock, too_long, in-range}
use Rattle.views.proofs.view.Goals as goal

pub returns-in_err-reader : goal.returns-in_err-reader
returns-in_err-reader c =
    let p = err_from_is_err_and c.from_residual.result c.from_residual.ensures.1 in
    let n = nameless _ _ _ c.in_err-reader.ensures in
    rw (p.1, p.2, n.0) (no_reader _ _ _ _ n.1)

pub returns-in_err-stock : goal.returns-in_err-stock
returns-in_err-stock c =
    let p = err_from_is_err_and c.from_residual-in_err-stock.result c.from_residual-in_err-stock.ensures.1 in
    let n = nameless _ _ _ c.in_err-stock.ensures in
    rw (p.1, p.2, n.0) (no-such-stock _ _ _ _ (named _ _ _ c.in_ok-reader.ensures).1 n.1)

pub returns-then-bytes-ge-RECORD_LIMIT : goal.returns-then-bytes-ge-RECORD_LIMIT
returns-then-bytes-ge-RECORD_LIMIT c =
    too_long _ _ _ _ (named _ _ _ c.in_ok-reader.ensures).1 (named _ _ _ c.in_ok-stock.ensures).1 c.if-bytes-ge-RECORD_LIMIT.true

pub returns : goal.returns
returns c =
    let who = named _ _ _ c.in_ok-reader.ensures in
    let which = named _ _ _ c.in_ok-stock.ensures in
    in-range _ _ _ _ who.1 which.1 c.if-bytes-ge-RECORD_LIMIT.false who.0 which.0 c.view_for.ensures
