-- What the code's words, lines and steps say in the words of the reading.
use Rattle.std.specs.Prelude.{◌≡◌, ℕ, ◌+◌, ◌<◌, ◌≤◌, true, false, ◌||◌, ◌⊎◌, List, [], ◌∷◌, ◌++◌, length, take, drop, Some, None, Ok, Err, Option, Result, ◌≢◌}
use Rattle.std.specs.Option.{option_to_list}
use Rattle.book.specs.declared.part.Part.{Part}
use Rattle.book.specs.declared.words.Word.{Word}
use Rattle.book.specs.declared.words.Word.TheVariants.{StationKind, TieKind, Name}
use Rattle.book.specs.declared.lines.Line.{Line}
use Rattle.book.specs.declared.lines.Line.TheVariants.{Station, Tie}
use Rattle.book.specs.declared.names.Names.{Names}
use Rattle.book.specs.declared.faults.WordFault.{WordFault}
use Rattle.book.specs.declared.faults.LineFault.{LineFault}
use Rattle.book.specs.declared.faults.FaultInLine.{FaultInLine}
use Rattle.book.specs.declared.faults.BookFault.{BookFault}
use Rattle.book.specs.declared.faults.Layer.TheVariants.{Word as word_layer, Line as line_layer, Book as book_layer}
use Rattle.book.specs.Faults.{Spot, spot_at, fault_in, word_spot, line_spot, fault_of}
use Rattle.book.specs.FirstFault.{Lacks}
use Rattle.book.specs.Pairs.{pairs_of}
use Rattle.book.specs.Reading.{Entry, station, tie, stations, Shape, gives, ties, found, name_fault, bad_spot, empty, next, shape_read, lines_read, line_read, split, is_byte}
use Rattle.book.specs.Tables.{names_in}

-- the part p is cut at its first byte c into the piece l before it, and what follows it, if it is there
abbrev pub Halves : ℕ → Part → Part → Option Part → Type 0
Halves c p l None = Lacks c p.bytes.now × (l ≡ p)
Halves c p l (Some r) = Lacks c l.bytes.now × (p.bytes.now ≡ l.bytes.now ++ c ∷ r.bytes.now) × (l.at ≡ p.at) × (r.at ≡ next p.at l.bytes.now)

-- the pieces of what follows a cut, if anything does
abbrev pub pieces_of : ℕ → Option Part → List (List ℕ)
pieces_of c None = []
pieces_of c (Some p) = split c p.bytes.now

-- its place
abbrev pub place_of : Option Part → ℕ
place_of None = 0
place_of (Some p) = p.at

-- w is all that follows a cut, and has a byte
pub record Alone (rest : Option Part) (w : Part) : Type 0 where
  pub pieces : pieces_of 32 rest ≡ w.bytes.now ∷ []
  pub some : empty w.bytes.now ≡ false
  pub place : w.at ≡ place_of rest

-- l and r are all that follows a cut, and each has a byte
pub record Both (rest : Option Part) (l r : Part) : Type 0 where
  pub pieces : pieces_of 32 rest ≡ l.bytes.now ∷ r.bytes.now ∷ []
  pub left : empty l.bytes.now ≡ false
  pub right : empty r.bytes.now ≡ false
  pub place : l.at ≡ place_of rest
  pub after : r.at ≡ next l.at l.bytes.now

-- the one word that follows a cut, if it has a byte
abbrev pub OneWord : Option Part → Option Part → Type 0
OneWord rest (Some w) = Alone rest w
OneWord rest None = (a : List ℕ) → pieces_of 32 rest ≡ a ∷ [] → empty a ≡ true

-- the two words that follow a cut, if each has a byte
abbrev pub TwoWords : Option Part → Option (Part × Part) → Type 0
TwoWords rest (Some x) = Both rest x.0 x.1
TwoWords rest None = (a b : List ℕ) → pieces_of 32 rest ≡ a ∷ b ∷ [] → (empty a || empty b) ≡ true

-- the bytes of a word, and their place
abbrev pub part_of : Word → Part
part_of (StationKind p) = p
part_of (TieKind p) = p
part_of (Name p) = p

-- the part as a word, by its kind
abbrev pub KindOf : Part → Word → Type 0
KindOf p (StationKind q) = (q ≡ p) × (is_byte 83 p.bytes.now ≡ true)
KindOf p (TieKind q) = (q ≡ p) × (is_byte 83 p.bytes.now ≡ false) × (is_byte 84 p.bytes.now ≡ true)
KindOf p (Name q) = (q ≡ p) × (is_byte 83 p.bytes.now ≡ false) × (is_byte 84 p.bytes.now ≡ false)

-- the place of the first byte not allowed in the name at `at`, if there is one
abbrev pub BadAt : ℕ → List ℕ → Option ℕ → Type 0
BadAt at a None = bad_spot at a ≡ None
BadAt at a (Some k) = bad_spot at a ≡ Some (spot_at word_layer 25 k)

-- the part as a name of the right form, or its fault
abbrev pub NameWord : Part → Result Word WordFault → Type 0
NameWord p (Ok w) = (w ≡ Name p) × (name_fault p.at p.bytes.now ≡ None)
NameWord p (Err e) = name_fault p.at p.bytes.now ≡ Some (word_spot e)

-- the shape of a line
abbrev pub shape_of : Line → Shape
shape_of (Station w) = gives (part_of w).bytes.now (part_of w).at
shape_of (Tie w x) = ties (part_of w).bytes.now (part_of w).at (part_of x).bytes.now (part_of x).at

-- the shape of a line, or its fault
abbrev pub line_shown : Result Line LineFault → Result Shape Spot
line_shown (Ok l) = Ok (shape_of l)
line_shown (Err e) = Err (line_spot e)

-- the entry of a line
abbrev pub entry_of : Line → Entry
entry_of (Station w) = station (part_of w).bytes.now
entry_of (Tie w x) = tie (part_of w).bytes.now (part_of x).bytes.now

-- the first line of the text has the shape of l, and r follows its byte 10
pub record Shaped (t : Part) (l : Line) (r : Part) : Type 0 where
  pub line : Part
  pub cut : Halves 10 t line (Some r)
  pub shape : line_read t.at line.bytes.now ≡ Ok (shape_of l)

-- the first line of the text is of no right shape
pub record Misshaped (t : Part) (s : Spot) : Type 0 where
  pub line : Part
  pub rest : Part
  pub cut : Halves 10 t line (Some rest)
  pub shape : line_read t.at line.bytes.now ≡ Err s

-- the text has no byte 10
pub record Unended (t : Part) (s : Spot) : Type 0 where
  pub lacks : Lacks 10 t.bytes.now
  pub spot : s ≡ spot_at line_layer 21 t.at

-- a line has been read for its shape, or has its fault
abbrev pub LineAt : Part → Result (Line × Part) LineFault → Type 0
LineAt t (Ok x) = Shaped t x.0 x.1
LineAt t (Err f) = Unended t (line_spot f) ⊎ Misshaped t (line_spot f)

-- the same, the fault with the line's number
abbrev pub NumberedLine : Part → ℕ → Result (Line × Part) FaultInLine → Type 0
NumberedLine t k (Ok x) = LineAt t (Ok x)
NumberedLine t k (Err e) = LineAt t (Err e.fault) × (e.line ≡ k)

-- the part stands in the book, where it says
pub record Stands (b : List ℕ) (p : Part) : Type 0 where
  pub inside : p.at + length p.bytes.now ≤ length b
  pub same : p.bytes.now ≡ take (length p.bytes.now) (drop p.at b)

-- the names of a line stand in the book
abbrev pub Placed : List ℕ → Line → Type 0
Placed b (Station w) = Stands b (part_of w)
Placed b (Tie w x) = Stands b (part_of w) × Stands b (part_of x)

-- what was read is the fault e in line k
abbrev pub Refused : ℕ → Result Entry Spot → BookFault → Type 0
Refused k r e = (r ≡ Err (fault_of e).spot) × ((fault_of e).line ≡ k)

-- a new station joins the table, or is refused
abbrev pub StationAdded : List ℕ → ℕ → Part → Names → Names → Result (Unit {0}) BookFault → Type 0
StationAdded b k p t u (Ok x) = (shape_read (names_in b t) (gives p.bytes.now p.at) ≡ Ok (station p.bytes.now)) × (names_in b u ≡ names_in b t ++ p.bytes.now ∷ [])
StationAdded b k p t u (Err e) = Refused k (shape_read (names_in b t) (gives p.bytes.now p.at)) e

-- the number of a name that was given, or its fault
abbrev pub NumberFound : List ℕ → ℕ → Part → Names → Result ℕ BookFault → Type 0
NumberFound b k p t (Ok u) = found p.bytes.now (names_in b t) ≡ Some u
NumberFound b k p t (Err e) = (found p.bytes.now (names_in b t) ≡ None) × (fault_of e ≡ fault_in k (spot_at book_layer 27 p.at))

-- the pair of different stations by number, both below n, if there is one
abbrev pub Known : ℕ → Option (ℕ × ℕ) → Type 0
Known n None = Unit {0}
Known n (Some x) = (x.0 < n) × (x.1 < n) × (x.0 ≢ x.1)

-- the two stations of a tie by number, or the fault
abbrev pub TieFound : List ℕ → ℕ → Part → Part → Names → Result (ℕ × ℕ) BookFault → Type 0
TieFound b k p q t (Ok x) = (shape_read (names_in b t) (ties p.bytes.now p.at q.bytes.now q.at) ≡ Ok (tie p.bytes.now q.bytes.now)) × (x ∷ [] ≡ pairs_of (names_in b t) (tie p.bytes.now q.bytes.now)) × Known t.count (Some x)
TieFound b k p q t (Err e) = Refused k (shape_read (names_in b t) (ties p.bytes.now p.at q.bytes.now q.at)) e

-- a line joins the entries, with its tie if it has one, or is refused
abbrev pub Admitted : List ℕ → ℕ → Line → Names → Names → Result (Option (ℕ × ℕ)) BookFault → Type 0
Admitted b k l t u (Ok x) = (shape_read (names_in b t) (shape_of l) ≡ Ok (entry_of l)) × (names_in b u ≡ names_in b t ++ stations (entry_of l ∷ [])) × (option_to_list x ≡ pairs_of (names_in b t) (entry_of l)) × Known t.count x
Admitted b k l t u (Err e) = Refused k (shape_read (names_in b t) (shape_of l)) e

-- the first line of r has been read as the entry e: the names with its own, its tie by number, and what follows it
pub record Moved (b : List ℕ) (k : ℕ) (r s : Part) (t u : Names) (x : Option (ℕ × ℕ)) (e : Entry) : Type 0 where
  pub on : r.at < s.at
  pub names : names_in b u ≡ names_in b t ++ stations (e ∷ [])
  pub pair : option_to_list x ≡ pairs_of (names_in b t) e
  pub known : Known t.count x
  pub goes : (above : List Entry) → stations above ≡ names_in b t → lines_read above r.at k (split 10 r.bytes.now) ≡ lines_read (above ++ e ∷ []) s.at (k + 1) (split 10 s.bytes.now)

-- the first line of r has been read, or the reading ends with its fault
abbrev pub OneLine : List ℕ → ℕ → Part → Part → Names → Names → Result (Option (ℕ × ℕ)) BookFault → Type 0
OneLine b k r s t u (Ok x) = (e : Entry) × Moved b k r s t u x e
OneLine b k r s t u (Err f) = (above : List Entry) → stations above ≡ names_in b t → lines_read above r.at k (split 10 r.bytes.now) ≡ Err (fault_of f)
