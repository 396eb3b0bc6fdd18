use Rattle.std.proofs.Common.{◌≡◌, ℕ, true, false, get_or}
use Rattle.sets.specs.Sets.{has}
use Rattle.search.proofs.placing.Choice.is_unexceeded.Given as goal

abbrev pub invariant-loop-k : goal.invariant-loop-k
invariant-loop-k g l =
    ((x : ℕ) → has l.k-iterator.left x ≡ true → has l.self.among x ≡ true)
    × ((j : ℕ) (d : _) → has l.self.among j ≡ true → has l.k-iterator.left j ≡ false → g.L.Label.less (get_or l.self.labels.now l.v d) (get_or l.self.labels.now j d) ≡ false)
