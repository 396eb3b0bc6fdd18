use Rattle.sets.specs.Sets.{has}
use Rattle.search.proofs.Marking.{Marking}
use Rattle.search.proofs.marks.mark_all.Given as goal

abbrev pub invariant-loop-x : goal.invariant-loop-x
invariant-loop-x l = Marking l.mark (has l.fn.which) (has l.x-iterator.left) l.initial.strip l.strip
