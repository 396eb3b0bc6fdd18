use Rattle.sets.specs.Sets.{has, size}
use Rattle.sets.specs.Rows.{adj}
use Rattle.search.proofs.Laying.{Laying}
use Rattle.search.proofs.shortfall.note_shortfall.Given as goal

abbrev pub invariant-loop-c : goal.invariant-loop-c
invariant-loop-c l = Laying (adj l.network.rows) (has l.outside) l.v (adj l.missing) (has l.left)

abbrev pub decreases-loop-c : goal.decreases-loop-c
decreases-loop-c l = size (has l.left) 256
