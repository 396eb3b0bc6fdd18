-- The printed lines of a verdict.
use Rattle.std.specs.Prelude.{ℕ, ◌<◌, ◌≤◌, List, [], ◌∷◌, ◌++◌, length, take, codes, slice_index, slice_index_or}
use Rattle.book.specs.declared.names.Names.{Names}
use Rattle.book.specs.Grammar.{Name}
use Rattle.book.specs.Tables.{name_at, Inside}
use Rattle.search.specs.declared.judging.Verdict.{Verdict}
use Rattle.search.specs.declared.judging.Verdict.TheVariants.{Chordal, Ring}
use Rattle.report.specs.Lines.{labelled, newline}

-- the mark, the name and the end of the line
abbrev pub station_line : List ℕ → Name → List ℕ
station_line mark name = mark ++ name ++ newline

-- such a line for each of the stations, in turn
abbrev pub station_lines : List ℕ → List Name → List ℕ → List ℕ
station_lines mark names [] = []
station_lines mark names (v ∷ vs) = station_line mark (slice_index_or names v []) ++ station_lines mark names vs

-- "chordal" and the end of the line, then "> name" for each station of the order
abbrev pub chordal_text : List Name → List ℕ → List ℕ
chordal_text names order = (codes "chordal" ++ newline) ++ station_lines (codes "> ") names order

-- "ring K" and the end of the line, then "o name" for each station of the ring
abbrev pub ring_text : List Name → List ℕ → ℕ → List ℕ
ring_text names ring k = (labelled (codes "ring ") k ++ newline) ++ station_lines (codes "o ") names ring

-- the text of a verdict that these stations show
abbrev pub verdict_text : List Name → List ℕ → Verdict → List ℕ
verdict_text names stations Chordal = chordal_text names stations
verdict_text names stations (Ring k) = ring_text names stations k

-- how many stations show a verdict on a network of n
abbrev pub shown : ℕ → Verdict → ℕ
shown n Chordal = n
shown n (Ring k) = k

-- each of the stations has a name of at most 12 bytes in the table, and the names lie in the book
pub record Named (book : List ℕ) (table : Names) (stations : List ℕ) : Type 0 where
  pub inside : Inside book table
  pub known : (i : ℕ) → i < length stations → slice_index stations i < table.count
  pub short : (v : ℕ) → v < table.count → length (name_at book table v) ≤ 12

-- the strip begins with the stations that show the verdict, 256 at most, and each has a name
pub record ShowsVerdict (book : List ℕ) (table : Names) (strip : List ℕ) (verdict : Verdict) : Type 0 where
  pub few : shown table.count verdict ≤ 256
  pub within : shown table.count verdict ≤ length strip
  pub named : Named book table (take (shown table.count verdict) strip)
