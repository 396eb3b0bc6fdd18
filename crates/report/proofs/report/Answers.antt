use Rattle.std.proofs.Common.{arith, rules}
use Rattle.report.proofs.Reports.{counts_reported, error_reported}
use Rattle.report.proofs.report.Goals as goal

pub returns-in-Ok : goal.returns-in-Ok
returns-in-Ok c =
    let h = c.in-Ok.ensures.reads in (
      omega arith,
      omega arith,
      counts_reported c.args.book.now c.args.area.now c.args.out.now _ _ _ c.over-matrix.result c.read.new.matrix c.size.result c.count.result _ c.over-matrix.ensures.bytes (search rules) h.1 c.size.ensures c.count.ensures c.write_accepted.ensures,
    )

pub returns-in-Err : goal.returns-in-Err
returns-in-Err c =
    error_reported c.args.book.now c.args.area.now c.args.out.now _ _ c.over-matrix.result c.read.new.matrix c.in-Err.error _ c.over-matrix.ensures.bytes
    (search rules) (omega arith) (omega arith) c.in-Err.ensures.reads c.write_error.ensures
