-- The two kinds of label.
use Rattle.std.specs.Prelude.{ℕ, suc, min, Bool, cond, [], ◌∷◌, nat_lt}
use Rattle.graph.specs.Kinds.{lesser}
use Rattle.sets.specs.Sets.{has, added}
use Rattle.sets.specs.declared.station_set.StationSet.{StationSet}
use Rattle.search.specs.declared.label.Comparison.{Comparison}
use Rattle.search.specs.declared.label.Comparison.TheVariants.{Less, Greater, Neither}
use Rattle.search.specs.declared.label.CountLabel.{CountLabel}
use Rattle.search.specs.declared.label.ListLabel.{ListLabel}

-- how two labels compare, by whether the first is less than the second and whether the second is less than the first
abbrev pub compared : Bool → Bool → Comparison
compared first second = cond first Less (cond second Greater Neither)

-- the label that counts so many raisings
abbrev pub count_of : ℕ → CountLabel
count_of n = record { count = n }

-- one raising more, at most 65,535
abbrev pub count_raised : CountLabel → ℕ → CountLabel
count_raised label position = count_of (min (suc label.count) 65535)

-- the lower count is less
abbrev pub count_less : CountLabel → CountLabel → Bool
count_less a b = nat_lt a.count b.count

-- the label that holds these positions
abbrev pub list_of : StationSet → ListLabel
list_of positions = record { positions = positions }

-- no position
abbrev pub list_blank : ListLabel
list_blank = list_of (record { words = 0 ∷ 0 ∷ 0 ∷ 0 ∷ [] })

-- one position more
abbrev pub list_raised : ListLabel → ℕ → ListLabel
list_raised label position = list_of (added label.positions position)

-- the second holds the highest position in which they differ
unfoldable pub list_less : ListLabel → ListLabel → Bool
list_less a b = lesser (has a.positions) (has b.positions)
