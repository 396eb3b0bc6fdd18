-- Ties by station number, as the reader hands them over line by line.
use Rattle.std.specs.Prelude.{ℕ, ◌+◌, Bool, false, cond, ◌&&◌, ◌||◌, List, [], ◌∷◌, ◌++◌, ◌==◌}
use Rattle.std.specs.Str.{bytes_eq}
use Rattle.book.specs.Grammar.{Name}
use Rattle.book.specs.Reading.{Entry, station, tie, stations}

-- the number of a name among the names, counted from i: the first place that has it
abbrev pub number_from : ℕ → Name → List Name → ℕ
number_from i a [] = i
number_from i a (n ∷ ns) = cond (bytes_eq n a) i (number_from (i + 1) a ns)

-- the tie's two stations by number, among the names given above it
abbrev pub pairs_of : List Name → Entry → List (ℕ × ℕ)
pairs_of ns (station a) = []
pairs_of ns (tie a b) = (number_from 0 a ns, number_from 0 b ns) ∷ []

-- the pairs of all the entries, below the entries above them
abbrev pub pairs_after : List Entry → List Entry → List (ℕ × ℕ)
pairs_after above [] = []
pairs_after above (e ∷ es) = pairs_of (stations above) e ++ pairs_after (above ++ e ∷ []) es

-- the pair is u and v, either way round
abbrev pub joins : ℕ × ℕ → ℕ → ℕ → Bool
joins p u v = (u == p.0 && v == p.1) || (u == p.1 && v == p.0)

-- one of the pairs is u and v, either way round
abbrev pub tied_in : List (ℕ × ℕ) → ℕ → ℕ → Bool
tied_in [] u v = false
tied_in (p ∷ ps) u v = joins p u v || tied_in ps u v
