use Rattle.sets.specs.Sets.{has}
use Rattle.search.proofs.Raising.{Raising}
use Rattle.search.proofs.placing.raise_all.Given as goal

abbrev pub invariant-loop-v : goal.invariant-loop-v
invariant-loop-v g l = Raising g.L.Label.raised l.position (has l.fn.which) (has l.v-iterator.left) l.initial.labels l.labels
