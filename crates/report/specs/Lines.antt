-- The printed lines, byte by byte, and where they stand in an area.
use Rattle.std.specs.Prelude.{◌≡◌, ℕ, ◌+◌, ◌≤◌, List, [], ◌∷◌, ◌++◌, length, take, drop, codes, decimal}

-- the area with the text written over it from `at` on
abbrev pub overwritten : List ℕ → ℕ → List ℕ → List ℕ
overwritten area at text = take at area ++ text ++ drop (at + length text) area

-- the text was written into the area from `at` on, and ends at `end`
pub record Placed (before : List ℕ) (at : ℕ) (text after : List ℕ) (end : ℕ) : Type 0 where
  pub area : after ≡ overwritten before at text
  pub ends : end ≡ at + length text

-- a label, and after it a number in decimal digits
abbrev pub labelled : List ℕ → ℕ → List ℕ
labelled label n = label ++ decimal n

-- the end of a line
abbrev pub newline : List ℕ
newline = 10 ∷ []

-- "stations N ties M" and the end of the line
abbrev pub accepted_line : ℕ → ℕ → List ℕ
accepted_line stations ties = labelled (codes "stations ") stations ++ labelled (codes " ties ") ties ++ newline

-- the area begins with the line, of so many bytes, and goes on as before
pub record Wrote (line before after : List ℕ) (written : ℕ) : Type 0 where
  pub long : written ≡ length line
  pub fits : written ≤ length before
  pub area : after ≡ line ++ drop (length line) before
