-- What the reader's loop over the lines does to a matrix.
use Rattle.std.specs.Prelude.{◌≡◌, ℕ, ◌<◌, ◌≤◌, cond, List, [], ◌∷◌, length, drop, Ok, Err, Result}
use Rattle.store.specs.declared.matrix.Matrix.{Matrix}
use Rattle.store.specs.Squares.{bit, raised}
use Rattle.store.specs.Matrices.{bytes_of}
use Rattle.book.specs.declared.faults.BookFault.{BookFault}
use Rattle.book.specs.declared.names.Names.{Names}
use Rattle.book.specs.Faults.{fault_of}
use Rattle.book.specs.Pairs.{pairs_after, tied_in}
use Rattle.book.specs.Reading.{Entry, stations, reading}
use Rattle.book.specs.Tables.{names_in, Inside}

-- a matrix of 256 stations over a whole square
pub record Whole (m : Matrix) : Type 0 where
  pub stations : m.n ≡ 256
  pub long : 8192 ≤ length (bytes_of m)

-- the bytes with both bits of each pair set
abbrev pub drawn : List (ℕ × ℕ) → List ℕ → List ℕ
drawn [] bytes = bytes
drawn (p ∷ ps) bytes = drawn ps (raised (raised bytes p.0 p.1) p.1 p.0)

-- no bit of the square is set
abbrev pub Clear : List ℕ → Type 0
Clear bytes = (x y : ℕ) → x < 256 → y < 256 → bit bytes x y ≡ 0

-- the same bytes beyond the square
pub record Beyond (old new : List ℕ) : Type 0 where
  pub long : length new ≡ length old
  pub later : drop 8192 new ≡ drop 8192 old

-- the square has the ties of the entries
abbrev pub Tabled : List Entry → List ℕ → Type 0
Tabled es bytes = (x y : ℕ) → x < 256 → y < 256 → bit bytes x y ≡ cond (tied_in (pairs_after [] es) x y) 1 0

-- the whole book: its entries in the table and in the square, or its fault
abbrev pub BookDone : List ℕ → Matrix → Matrix → Result Names BookFault → Type 0
BookDone b old new (Ok t) =
    (es : List Entry) × (reading b ≡ Ok es) × (names_in b t ≡ stations es) × Inside b t × Tabled es (bytes_of new) × Beyond (bytes_of old) (bytes_of new)
BookDone b old new (Err f) = (reading b ≡ Err (fault_of f)) × Beyond (bytes_of old) (bytes_of new)
