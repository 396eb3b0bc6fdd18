use Rattle.std.proofs.Common.{◌≡◌, ℕ, ◌&&◌, ltb}
use Rattle.sets.specs.Rows.{adj}
use Rattle.store.specs.Nets.{standing}
use Rattle.search.proofs.network.rows_of.Given as goal

abbrev pub invariant-loop-a : goal.invariant-loop-a
invariant-loop-a g l = (x b : ℕ) → adj l.rows x b ≡ (ltb x l.a && standing (g.S.Store.meaning l.store) x b)
