use Rattle.std.proofs.Common.{arith}
use Rattle.sets.proofs.Members.{less_bits}
use Rattle.sets.proofs.station_set.without.Goals as goal

pub returns : goal.returns
returns c k l = less_bits _ _ k l (omega arith)
