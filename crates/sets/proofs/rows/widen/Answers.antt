use Rattle.std.proofs.Common.{arith}
use Rattle.sets.proofs.Written.{widened}
use Rattle.sets.proofs.rows.widen.Goals as goal

pub returns : goal.returns
returns c = widened c.args.rows.now c.args.u c.args.more c.union.result (omega arith) c.union.ensures
