use Rattle.std.proofs.Common.{refl}
use Rattle.sets.proofs.InTurn.{members_runs}
use Rattle.sets.proofs.iter.StationSetIntoIterator.into_iter.Goals as goal

pub returns : goal.returns
returns c = record { into_iter_gives = (refl, members_runs) }
