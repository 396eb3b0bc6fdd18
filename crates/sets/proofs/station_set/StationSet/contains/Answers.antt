use Rattle.std.proofs.Common.{sym, arith}
use Rattle.sets.proofs.Members.{has_in}
use Rattle.sets.proofs.station_set.StationSet.contains.Goals as goal

pub returns : goal.returns
returns c = sym (has_in c.args.self c.args.i (omega arith))
