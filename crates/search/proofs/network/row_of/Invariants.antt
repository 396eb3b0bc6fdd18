use Rattle.std.proofs.Common.{◌≡◌, ℕ, ◌&&◌, ltb}
use Rattle.sets.specs.Sets.{has}
use Rattle.store.specs.Nets.{standing}
use Rattle.search.proofs.network.row_of.Given as goal

abbrev pub invariant-loop-b : goal.invariant-loop-b
invariant-loop-b g l = (x : ℕ) → has l.neighbours x ≡ (ltb x l.b && standing (g.S.Store.meaning l.store) l.a x)
