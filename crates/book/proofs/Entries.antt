-- Entries, how they are spelled, and when they are sound.
use Rattle.std.proofs.Common.{◌≡◌, ℕ, ◌<◌, ◌≤◌, List, [], ◌∷◌, ◌++◌, length}
use Rattle.book.specs.Grammar.{WellFormed, Among, station_line, tie_line}
use Rattle.book.specs.Reading.{Entry, station, tie, stations}

-- the line that gives the entry
abbrev pub spell : Entry → List ℕ
spell (station a) = station_line a
spell (tie a b) = tie_line a b

-- the lines that give the entries
abbrev pub spelled : List Entry → List ℕ
spelled [] = []
spelled (e ∷ es) = spell e ++ spelled es

-- the entry may follow the entries above it
abbrev pub Follows : List Entry → Entry → Type 0
Follows above (station a) = WellFormed a × (Among a (stations above) → ⊥) × (length (stations above) < 256)
Follows above (tie a b) = WellFormed a × WellFormed b × Among a (stations above) × Among b (stations above) × (a ≡ b → ⊥)

-- each entry may follow those above it
abbrev pub SoundAfter : List Entry → List Entry → Type 0
SoundAfter above [] = Unit {0}
SoundAfter above (e ∷ es) = Follows above e × SoundAfter (above ++ e ∷ []) es

-- each entry may follow those above it, and there is a station
pub record Sound (es : List Entry) : Type 0 where
  pub each : SoundAfter [] es
  pub any : 1 ≤ length (stations es)

-- the book is spelled by the sound entries, and is not too large
pub record Entries (es : List Entry) (book : List ℕ) : Type 0 where
  pub spelling : book ≡ spelled es
  pub sound : Sound es
  pub small : length book ≤ 65536
