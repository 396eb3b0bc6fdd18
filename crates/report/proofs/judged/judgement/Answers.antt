use Rattle.std.proofs.Common.{arith, rules}
use Rattle.report.proofs.Judging.{judged_shown, judged_wrote, error_judged}
use Rattle.report.proofs.judged.judgement.Goals as goal

pub write_verdict-requires-clause-shown : goal.write_verdict-requires-clause-shown
write_verdict-requires-clause-shown g c =
    let j = c.in_ok-verdict-in-Ok.ensures.judges in
    judged_shown g.L.Label.BLANK g.L.Label.raised g.L.Label.less c.in-Ok.ensures.reads.1 c.args.labels.now c.judge.new.labels
    c.args.strip.now c.judge.new.strip c.in_ok-verdict-in-Ok.verdict (omega arith) j.4

pub returns-in_ok-verdict-in-Ok : goal.returns-in_ok-verdict-in-Ok
returns-in_ok-verdict-in-Ok g c =
    let j = c.in_ok-verdict-in-Ok.ensures.judges in (
      (omega arith, omega arith),
      omega arith,
      omega arith,
      omega arith,
      judged_wrote g.L.Label.BLANK g.L.Label.raised g.L.Label.less c.in-Ok.ensures.reads.1 c.args.area.now _ c.args.labels.now
          c.judge.new.labels c.args.strip.now c.judge.new.strip c.args.marks.now c.judge.new.marks c.over-matrix.ensures.bytes (search rules)
          j.3 c.in_ok-verdict-in-Ok.verdict c.args.out.now _ _ j.4 c.write_verdict.ensures,
    )

pub returns-in-Err : goal.returns-in-Err
returns-in-Err g c =
    error_judged g.L.Label.BLANK g.L.Label.raised g.L.Label.less c.args.book.now c.args.area.now _ c.args.labels.now c.args.strip.now
    c.args.marks.now c.args.out.now _ c.over-matrix.result c.read.new.matrix c.in-Err.error _ c.over-matrix.ensures.bytes (search rules)
    (omega arith, omega arith) (omega arith) (omega arith) (omega arith) c.in-Err.ensures.reads c.write_error.ensures
