-- The mark, the name and the end of the line stand one right after another.
use Rattle.std.proofs.Common.{arith}
use Rattle.report.proofs.Texts.{extends_more}
use Rattle.report.proofs.verdict.push_station.Goals as goal

pub returns : goal.returns
returns c = extends_more (omega arith) (extends_more (omega arith) c.push.ensures c.push-2.ensures) c.push-3.ensures
