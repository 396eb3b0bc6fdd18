use Rattle.std.proofs.Common.{arith}
use Rattle.sets.proofs.Members.{inserted}
use Rattle.sets.proofs.station_set.StationSet.insert.Goals as goal

pub returns-clause-members : goal.returns-clause-members
returns-clause-members c = inserted c.args.self.now c.args.i (omega arith) (omega arith)
