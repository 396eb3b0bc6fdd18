-- What runs of calls of `next` give, for the members of a set.
use Rattle.std.proofs.Common.{◌≡◌, ℕ, length, ap}
use Rattle.std.specs.Iterator.{YieldsFirst}
use Rattle.std.proofs.lemmas.Iterator.{YieldsList}
use Rattle.std.proofs.lemmas.Iterator.Consumers.{YieldsList-from_first}
use Rattle.std.specs.Iterator.Runs.{YieldsInOrder}
use Rattle.std.proofs.iter.runs.Sources.{from_front, as_is}
use Rattle.sets.specs.declared.iter.Members.{Members}
use Rattle.sets.specs.declared.station_set.StationSet.{StationSet}
use Rattle.sets.specs.Sets.{members}

pub members_runs : YieldsInOrder (YieldsFirst {S = Members} {A = ℕ} (λ m. members m.left)) (λ m. members m.left)
members_runs p s = as_is p (members p.from.left) (from_front (YieldsFirst {S = Members} {A = ℕ} (λ m. members m.left)) (λ x. x) (λ m. members m.left)
    (λ s t h. ap length h.0) (λ s x t h. h) p s)

-- a chain proof, for the lemmas of std on `all`, `any` and `find`
pub in_turn : {it : Members} {s : StationSet} → it.left ≡ s → YieldsList (YieldsFirst {S = Members} {A = ℕ} (λ m. members m.left)) (λ x. x) it (members s)
in_turn {s = s} e = YieldsList-from_first (λ x. x) (λ m. members m.left) (members s) (ap members e)
