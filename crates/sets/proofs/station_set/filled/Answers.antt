use Rattle.sets.proofs.Members.{filled_low, filled_all}
use Rattle.sets.proofs.station_set.filled.Goals as goal

pub returns-then-n-lt64 : goal.returns-then-n-lt64
returns-then-n-lt64 c k l = filled_low c.args.n c.if-n-lt64.true k

pub returns-else-n-lt64 : goal.returns-else-n-lt64
returns-else-n-lt64 c k l = filled_all c.args.n c.if-n-lt64.false k l
