use Rattle.sets.specs.Sets.{has, size}
use Rattle.sets.specs.Rows.{adj}
use Rattle.sets.proofs.Reach.{Reached, waiting}
use Rattle.sets.proofs.rows.part_of.Given as goal

abbrev pub invariant-loop-v : goal.invariant-loop-v
invariant-loop-v l = Reached (adj l.rows) (has l.within) l.c (has l.seen) (has l.todo)

abbrev pub decreases-loop-v : goal.decreases-loop-v
decreases-loop-v l = size (waiting (has l.seen) (has l.todo)) 256
