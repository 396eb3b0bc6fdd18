use Rattle.sets.proofs.Members.{empty_has}
use Rattle.sets.proofs.station_set.StationSet.empty.Goals as goal

pub returns : goal.returns
returns c = empty_has
