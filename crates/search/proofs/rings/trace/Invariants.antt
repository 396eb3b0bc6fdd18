use Rattle.std.proofs.Common.{◌≡◌, suc, ◌-◌, ◌<◌, ◌≤◌, true}
use Rattle.graph.specs.Graphs.{at}
use Rattle.sets.specs.Rows.{adj}
use Rattle.search.specs.Layers.{level, Traced}
use Rattle.search.proofs.rings.trace.Given as goal

abbrev pub invariant-loop-e : goal.invariant-loop-e
invariant-loop-e l =
    Traced (adj l.network.rows) (level l.marks) l.v l.a l.d l.e l.ring.items
    × (at l.ring.items (suc (l.d - l.e)) ≡ l.x) × (l.x < 256) × (l.e ≤ l.d) × (level l.marks l.e l.x ≡ true)
