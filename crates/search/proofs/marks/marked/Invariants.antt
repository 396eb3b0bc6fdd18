use Rattle.std.proofs.Common.{◌≡◌, ℕ, ◌&&◌, eqb, ltb}
use Rattle.graph.specs.Graphs.{at}
use Rattle.sets.specs.Sets.{has}
use Rattle.search.proofs.marks.marked.Given as goal

abbrev pub invariant-loop-x : goal.invariant-loop-x
invariant-loop-x l = (k : ℕ) → has l.all k ≡ (ltb k l.x && eqb (at l.strip k) l.mark)
