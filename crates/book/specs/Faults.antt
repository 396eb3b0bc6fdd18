-- The faults by their numbers: the one table of what is wrong, in which layer, in which line and at which byte.
use Rattle.std.specs.Prelude.{ℕ}
use Rattle.book.specs.declared.faults.Spot.{Spot as CodeSpot}
use Rattle.book.specs.declared.faults.Fault.{Fault as CodeFault}
use Rattle.book.specs.declared.faults.Layer.{Layer}
use Rattle.book.specs.declared.faults.Layer.TheVariants.{Word as word_layer, Line as line_layer, Book as book_layer}
use Rattle.book.specs.declared.faults.WordFault.{WordFault}
use Rattle.book.specs.declared.faults.WordFault.TheVariants.{TooLong, BadByte}
use Rattle.book.specs.declared.faults.LineFault.{LineFault}
use Rattle.book.specs.declared.faults.LineFault.TheVariants.{NoNewline, UnknownKind, WordCount, Word}
use Rattle.book.specs.declared.faults.BookFault.{BookFault}
use Rattle.book.specs.declared.faults.BookFault.TheVariants.{TooLarge, Line, NameGiven, NameUnknown, TieToItself, TooManyStations, NoStation}

-- what is wrong, by its layer and number, and at which byte of the book, from 0: the code's own record
abbrev pub Spot : Type 0
Spot = CodeSpot

-- the same with the line, from 1
abbrev pub Fault : Type 0
Fault = CodeFault

-- the fault of that layer and number at that byte
abbrev pub spot_at : Layer → ℕ → ℕ → Spot
spot_at l n b = record { layer = l; number = n; byte = b }

-- the fault in line k
abbrev pub fault_in : ℕ → Spot → Fault
fault_in k s = record { spot = s; line = k }

-- a word's fault
abbrev pub word_spot : WordFault → Spot
word_spot (TooLong at) = spot_at word_layer 24 at
word_spot (BadByte at) = spot_at word_layer 25 at

-- a line's fault, or a fault of a word in it
abbrev pub line_spot : LineFault → Spot
line_spot (NoNewline at) = spot_at line_layer 21 at
line_spot (UnknownKind at) = spot_at line_layer 22 at
line_spot (WordCount at) = spot_at line_layer 23 at
line_spot (Word e) = word_spot e

-- a book's fault, or a fault of a line in it; a fault in no line is in line 0, at the book's length
abbrev pub fault_of : BookFault → Fault
fault_of (TooLarge size) = fault_in 0 (spot_at book_layer 20 size)
fault_of (Line f k) = fault_in k (line_spot f)
fault_of (NameGiven at k) = fault_in k (spot_at book_layer 26 at)
fault_of (NameUnknown at k) = fault_in k (spot_at book_layer 27 at)
fault_of (TieToItself at k) = fault_in k (spot_at book_layer 28 at)
fault_of (TooManyStations at k) = fault_in k (spot_at book_layer 29 at)
fault_of (NoStation size) = fault_in 0 (spot_at book_layer 30 size)

-- a word's fault as a line's
abbrev pub word_in_line : WordFault → LineFault
word_in_line w = Word w

-- a line's fault as the book's, in line k
abbrev pub in_book : LineFault → ℕ → BookFault
in_book f k = Line f k
