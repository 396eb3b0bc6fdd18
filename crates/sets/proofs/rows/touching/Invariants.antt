use Rattle.sets.specs.Sets.{has}
use Rattle.sets.specs.Rows.{adj}
use Rattle.sets.proofs.Gather.{Gathered}
use Rattle.sets.proofs.rows.touching.Given as goal

abbrev pub invariant-loop-d : goal.invariant-loop-d
invariant-loop-d l = Gathered (adj l.rows) (has l.fn.part) (has l.d-iterator.left) (has l.all)
