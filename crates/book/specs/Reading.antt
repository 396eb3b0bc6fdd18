-- The reading of a book: its entries, or its first fault.
use Rattle.std.specs.Prelude.{ℕ, ◌+◌, Bool, true, false, cond, ◌||◌, List, [], ◌∷◌, ◌++◌, length, Some, None, Ok, Err, Option, Result, ◌==◌, nat_lt}
use Rattle.std.specs.Str.{bytes_eq}
use Rattle.book.specs.declared.faults.Layer.TheVariants.{Word as word_layer, Line as line_layer, Book as book_layer}
use Rattle.book.specs.Faults.{Spot, Fault, spot_at, fault_in}
use Rattle.book.specs.Grammar.{Name, name_byte}

-- a line gives a station or a tie
pub data Entry : Type 0 where
  station : Name → Entry
  tie : Name → Name → Entry

-- the stations that entries give, in their order
abbrev pub stations : List Entry → List Name
stations [] = []
stations (station a ∷ es) = a ∷ stations es
stations (tie a b ∷ es) = stations es

-- the ties that entries give, in their order
abbrev pub ties_of : List Entry → List (Name × Name)
ties_of [] = []
ties_of (station a ∷ es) = ties_of es
ties_of (tie a b ∷ es) = (a, b) ∷ ties_of es

-- p goes before the first piece
abbrev pub led : List ℕ → List (List ℕ) → List (List ℕ)
led p [] = p ∷ []
led p (w ∷ ws) = (p ++ w) ∷ ws

-- what lies between the bytes c: one piece more than there are bytes c
abbrev pub split : ℕ → List ℕ → List (List ℕ)
split c [] = [] ∷ []
split c (b ∷ bs) = cond (b == c) ([] ∷ split c bs) (led (b ∷ []) (split c bs))

-- the first byte not allowed, the name being at `at`
abbrev pub bad_spot : ℕ → Name → Option Spot
bad_spot at [] = None
bad_spot at (b ∷ bs) = cond (name_byte b) (bad_spot (at + 1) bs) (Some (spot_at word_layer 25 at))

-- the fault of a name at `at`: above 12 bytes, then a byte not allowed
abbrev pub name_fault : ℕ → Name → Option Spot
name_fault at a = cond (nat_lt 12 (length a)) (Some (spot_at word_layer 24 at)) (bad_spot at a)

-- a line of the right shape, each name with its place
pub data Shape : Type 0 where
  gives : Name → ℕ → Shape
  ties : Name → ℕ → Name → ℕ → Shape

-- the shape, unless there is a fault before
abbrev pub unless : Option Spot → Result Shape Spot → Result Shape Spot
unless None r = r
unless (Some s) r = Err s

-- no byte
abbrev pub empty : List ℕ → Bool
empty [] = true
empty (b ∷ bs) = false

-- the words after S, the first at p, in the line at `at`
abbrev pub after_s : ℕ → ℕ → List (List ℕ) → Result Shape Spot
after_s at p [] = Err (spot_at line_layer 23 at)
after_s at p (a ∷ []) = cond (empty a) (Err (spot_at line_layer 23 at)) (unless (name_fault p a) (Ok (gives a p)))
after_s at p (a ∷ b ∷ ws) = Err (spot_at line_layer 23 at)

-- the place of the word after the word a at p
abbrev pub next : ℕ → List ℕ → ℕ
next p a = p + length a + 1

-- the words after T, the first at p, in the line at `at`
abbrev pub after_t : ℕ → ℕ → List (List ℕ) → Result Shape Spot
after_t at p [] = Err (spot_at line_layer 23 at)
after_t at p (a ∷ []) = Err (spot_at line_layer 23 at)
after_t at p (a ∷ b ∷ []) = cond (empty a || empty b) (Err (spot_at line_layer 23 at)) (unless (name_fault p a) (unless (name_fault (next p a) b) (Ok (ties a p b (next p a)))))
after_t at p (a ∷ b ∷ c ∷ ws) = Err (spot_at line_layer 23 at)

-- the word is the one byte c
abbrev pub is_byte : ℕ → List ℕ → Bool
is_byte c [] = false
is_byte c (b ∷ []) = b == c
is_byte c (b ∷ d ∷ bs) = false

-- the words of the line at `at`, of which the first is S or T
abbrev pub words_read : ℕ → List (List ℕ) → Result Shape Spot
words_read at [] = Err (spot_at line_layer 22 at)
words_read at (w ∷ ws) = cond (is_byte 83 w) (after_s at (next at w) ws) (cond (is_byte 84 w) (after_t at (next at w) ws) (Err (spot_at line_layer 22 at)))

-- one line, without its byte 10, at `at`
abbrev pub line_read : ℕ → List ℕ → Result Shape Spot
line_read at l = words_read at (split 32 l)

-- the first k with the name, counted from i
abbrev pub found_from : ℕ → Name → List Name → Option ℕ
found_from i a [] = None
found_from i a (n ∷ ns) = cond (bytes_eq n a) (Some i) (found_from (i + 1) a ns)

-- the number of the name among the names, if it is there
abbrev pub found : Name → List Name → Option ℕ
found a ns = found_from 0 a ns

-- the name given before, or a 257th
abbrev pub given_read : List Name → Name → ℕ → Option ℕ → Result Entry Spot
given_read ns a p (Some k) = Err (spot_at book_layer 26 p)
given_read ns a p None = cond (nat_lt (length ns) 256) (Ok (station a)) (Err (spot_at book_layer 29 p))

-- the left name unknown, the right one unknown, or both the same
abbrev pub ties_read : Name → ℕ → Name → ℕ → Option ℕ → Option ℕ → Result Entry Spot
ties_read a p b q None v = Err (spot_at book_layer 27 p)
ties_read a p b q (Some u) None = Err (spot_at book_layer 27 q)
ties_read a p b q (Some u) (Some v) = cond (u == v) (Err (spot_at book_layer 28 q)) (Ok (tie a b))

-- a line among the stations given above it
abbrev pub shape_read : List Name → Shape → Result Entry Spot
shape_read ns (gives a p) = given_read ns a p (found a ns)
shape_read ns (ties a p b q) = ties_read a p b q (found a ns) (found b ns)

-- a line that was read for its shape, or has its fault
abbrev pub entry_read : List Name → Result Shape Spot → Result Entry Spot
entry_read ns (Err s) = Err s
entry_read ns (Ok x) = shape_read ns x

-- on with the entry, or out with the fault in line k
abbrev pub onward : ℕ → Result Entry Spot → (Entry → Result (List Entry) Fault) → Result (List Entry) Fault
onward k (Err s) f = Err (fault_in k s)
onward k (Ok e) f = f e

-- what stands after the last byte 10
abbrev pub last_read : List Entry → ℕ → ℕ → List ℕ → Result (List Entry) Fault
last_read above at k [] = cond (length (stations above) == 0) (Err (fault_in 0 (spot_at book_layer 30 at))) (Ok above)
last_read above at k (b ∷ bs) = Err (fault_in k (spot_at line_layer 21 at))

-- the lines from `at` on, of which the first is the k-th, below the entries above
abbrev pub lines_read : List Entry → ℕ → ℕ → List (List ℕ) → Result (List Entry) Fault
lines_read above at k [] = Ok above
lines_read above at k (l ∷ []) = last_read above at k l
lines_read above at k (l ∷ m ∷ ls) = onward k (entry_read (stations above) (line_read at l)) (λ e. lines_read (above ++ e ∷ []) (next at l) (k + 1) (m ∷ ls))

-- the entries of the book, or its first fault
abbrev pub reading : List ℕ → Result (List Entry) Fault
reading book = cond (nat_lt 65536 (length book)) (Err (fault_in 0 (spot_at book_layer 20 (length book)))) (lines_read [] 0 1 (split 10 book))
