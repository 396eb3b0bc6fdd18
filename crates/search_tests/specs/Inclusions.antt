-- Labels by the inclusion of their sets.
use Rattle.std.specs.Prelude.{ℕ, zero, suc, Bool, true, not, ◌&&◌, ◌||◌, [], ◌∷◌}
use Rattle.sets.specs.Sets.{has, added}
use Rattle.sets.specs.declared.station_set.StationSet.{StationSet}
use Rattle.search_tests.specs.declared.inclusion_label.InclusionLabel.{InclusionLabel}

-- below the bound, the second holds what the first holds
unfoldable pub inside : ℕ → (ℕ → Bool) → (ℕ → Bool) → Bool
inside zero x y = true
inside (suc k) x y = (not (x k) || y k) && inside k x y

-- the second set holds each member of the first
unfoldable pub within : StationSet → StationSet → Bool
within s t = inside 256 (has s) (has t)

-- the label that holds these positions
abbrev pub inclusion_of : StationSet → InclusionLabel
inclusion_of positions = record { positions = positions }

-- no position
abbrev pub inclusion_blank : InclusionLabel
inclusion_blank = inclusion_of (record { words = 0 ∷ 0 ∷ 0 ∷ 0 ∷ [] })

-- one position more
abbrev pub inclusion_raised : InclusionLabel → ℕ → InclusionLabel
inclusion_raised label position = inclusion_of (added label.positions position)

-- the second holds all positions of the first, and not the other way round
abbrev pub inclusion_less : InclusionLabel → InclusionLabel → Bool
inclusion_less a b = within a.positions b.positions && not (within b.positions a.positions)
