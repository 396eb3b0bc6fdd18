-- The graph that an array of rows holds.
use Rattle.std.specs.Prelude.{◌≡◌, ℕ, Bool, true, not, ◌&&◌, List, ◌==◌, slice_index_or}
use Rattle.sets.specs.declared.station_set.StationSet.{StationSet}
use Rattle.sets.specs.Sets.{has, nobody}
use Rattle.graph.specs.Graphs.{Graph, Edge}

-- station b is in row a
unfoldable pub adj : List StationSet → Graph
adj rows a b = has (slice_index_or rows a nobody) b

-- x is a member
abbrev pub In : StationSet → ℕ → Type 0
In s x = has s x ≡ true

-- a member of the set is adjacent to a
abbrev pub Touched : Graph → (ℕ → Bool) → ℕ → Type 0
Touched g part a = (d : ℕ) × (part d ≡ true) × Edge g d a

-- two different members that are not adjacent
abbrev pub gaps : Graph → (ℕ → Bool) → ℕ → ℕ → Bool
gaps g border a b = border a && (not (b == a) && (border b && not (g a b)))
