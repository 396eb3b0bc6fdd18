use Rattle.std.proofs.Common.{◌≡◌, ℕ, true, false}
use Rattle.sets.specs.Sets.{has}
use Rattle.search.specs.Searches.{Exceeded}
use Rattle.search.proofs.placing.Choice.pick.Given as goal

abbrev pub invariant-loop-v : goal.invariant-loop-v
invariant-loop-v g l =
    ((x : ℕ) → has l.v-iterator.left x ≡ true → has l.self.among x ≡ true)
    × ((x : ℕ) → has l.self.among x ≡ true → has l.v-iterator.left x ≡ false → Exceeded g.L.Label.less l.self.labels.now (has l.self.among) x)
