use Rattle.std.proofs.Common.{◌-◌, length}
use Rattle.sets.specs.Sets.{has}
use Rattle.sets.specs.Rows.{adj}
use Rattle.search.proofs.Cliques.{Seen}
use Rattle.search.proofs.perfect.is_perfect.Given as goal

abbrev pub invariant-loop-v : goal.invariant-loop-v
invariant-loop-v l = Seen l.network.size (l.network.size - length l.yielded) (adj l.network.rows) l.order (has l.later)
