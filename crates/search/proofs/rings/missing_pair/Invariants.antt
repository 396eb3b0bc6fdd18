use Rattle.std.proofs.Common.{◌≡◌, ℕ, ◌<◌, false, None}
use Rattle.graph.specs.Graphs.{Free}
use Rattle.sets.specs.Rows.{adj}
use Rattle.search.proofs.rings.missing_pair.Given as goal

abbrev pub invariant-search : goal.invariant-search
invariant-search l = ((x : ℕ) → x < l.v → Free (adj l.network.rows) x) × (l.found ≡ None)

abbrev pub invariant-loop-a : goal.invariant-loop-a
invariant-loop-a l =
    ((x : ℕ) → x < l.v → Free (adj l.network.rows) x) × ((x y : ℕ) → x < l.a → adj l.missing x y ≡ false) × (l.found ≡ None)
