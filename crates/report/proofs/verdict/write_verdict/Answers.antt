use Rattle.std.proofs.Common.{length, ap, arith}
use Rattle.report.proofs.StationLines.{verdict_short}
use Rattle.report.proofs.verdict.write_verdict.Goals as goal

pub push_verdict-requires-clause-room : goal.push_verdict-requires-clause-room
push_verdict-requires-clause-room c =
    omega (arith, verdict_short c.args.book.now c.args.names.now c.args.strip.now c.args.verdict c.requires.shown, ap length c.at_start-text.ensures.area)
