use Rattle.std.proofs.Common.{arith}
use Rattle.sets.proofs.Members.{removed}
use Rattle.sets.proofs.station_set.StationSet.remove.Goals as goal

pub returns : goal.returns
returns c = removed c.args.self.now c.args.i (omega arith) (omega arith)
