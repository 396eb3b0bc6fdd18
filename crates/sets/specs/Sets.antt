-- A set of stations below 256, by the bits of four words.
use Rattle.std.specs.Prelude.{◌≡◌, ℕ, ◌*◌, ◌/◌, ◌%◌, ◌^◌, ◌<◌, Bool, true, false, ◌&&◌, List, [], ◌==◌, bit_or, nat_lt, slice_index, slice_set}
use Rattle.std.specs.List.{filter, range_with_len}
use Rattle.graph.specs.Pairs.{size as counted}
use Rattle.sets.specs.declared.station_set.StationSet.{StationSet}

-- bit k of a word
abbrev pub bit : ℕ → ℕ → Bool
bit w k = w / 2 ^ k % 2 == 1

-- station i is a member: bit i % 64 of the word i / 64 is 1
unfoldable pub has : StationSet → ℕ → Bool
has s i = nat_lt i 256 && bit (slice_index s.words (i / 64)) (i % 64)

-- what stands past the end of an array of sets: no members
abbrev pub nobody : StationSet
nobody = record { words = [] }

-- how many numbers below n pass
unfoldable pub size : (ℕ → Bool) → ℕ → ℕ
size test n = counted test n

-- the numbers below n that pass, rising
unfoldable pub rising : (ℕ → Bool) → ℕ → List ℕ
rising test n = filter test (range_with_len 0 n)

-- the members, rising
abbrev pub members : StationSet → List ℕ
members s = rising (has s) 256

-- no station is a member
abbrev pub Nobody : StationSet → Type 0
Nobody s = (i : ℕ) → has s i ≡ false

-- the lowest member
pub record Lowest (s : StationSet) (v : ℕ) : Type 0 where
  pub below : v < 256
  pub member : has s v ≡ true
  pub before : (i : ℕ) → i < v → has s i ≡ false

-- of the stations in which they differ, the second holds the highest
pub record Less (s t : StationSet) : Type 0 where
  pub top : ℕ
  pub lacks : has s top ≡ false
  pub holds : has t top ≡ true
  pub above : (i : ℕ) → top < i → has s i ≡ has t i

-- the set with the bit of i set to 1
abbrev pub added : StationSet → ℕ → StationSet
added s i = record { words = slice_set s.words (i / 64) (bit_or (slice_index s.words (i / 64)) ((1 * 2 ^ (i % 64)) % 2 ^ 64)) }
