use Rattle.std.proofs.Common.{ℕ, suc, ◌<◌, ◌≤◌}
use Rattle.graph.specs.Graphs.{at}
use Rattle.sets.specs.Sets.{has, size}
use Rattle.sets.specs.Rows.{adj}
use Rattle.search.specs.Layers.{level}
use Rattle.search.proofs.Breadth.{Wave}
use Rattle.search.proofs.rings.mark_layers.Given as goal

abbrev pub invariant-loop-left : goal.invariant-loop-left
invariant-loop-left l =
    Wave (adj l.network.rows) (has l.initial.left) l.a l.b (level l.marks) (has l.left) l.d
    × ((x : ℕ) → x < 256 → at l.marks x ≤ suc l.d)

abbrev pub decreases-loop-left : goal.decreases-loop-left
decreases-loop-left l = size (has l.left) 256
