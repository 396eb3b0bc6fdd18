use Rattle.std.proofs.Common.{inr}
use Rattle.std.proofs.lemmas.Result.{err_from_is_err_and}
use Rattle.book.proofs.LineSteps.{line_off}
use Rattle.book.proofs.lines.line_at.Goals as goal

pub returns-in_err-line : goal.returns-in_err-line
returns-in_err-line c =
    let p = err_from_is_err_and c.from_residual-in_err-line.result c.from_residual-in_err-line.ensures.1 in
    let h = line_off c.args.text c.cut.result.0 c.in_ok-rest.rest c.cut.result.1 _ _ c.cut.ensures c.in_ok-rest.ensures.value c.in_err-line.ensures in
    rw (p.1, p.2) (inr (record { line = c.cut.result.0; rest = c.in_ok-rest.rest; cut = h.0; shape = h.1 }))

pub returns : goal.returns
returns c =
    let h = line_off c.args.text c.cut.result.0 c.in_ok-rest.rest c.cut.result.1 _ _ c.cut.ensures c.in_ok-rest.ensures.value c.in_ok-line.ensures in
    record { line = c.cut.result.0; cut = h.0; shape = h.1 }
