use Rattle.std.proofs.Common.{not, ◌&&◌, refl, rules}
use Rattle.sets.proofs.Members.{lift}
use Rattle.sets.proofs.station_set.StationSet.difference.Goals as goal

pub returns : goal.returns
returns c = lift _ c.args.self c.args.other (λ x y. x && not y) (λ q l. search rules) refl
