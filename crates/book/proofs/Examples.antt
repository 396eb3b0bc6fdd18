-- The reading at small books, computed; a fault with its line and byte.
use Rattle.std.proofs.Common.{◌≡◌, ℕ, true, List, [], ◌∷◌, ◌++◌, Ok, Err, codes, refl}
use Rattle.book.specs.declared.faults.Layer.TheVariants.{Word as word_layer, Line as line_layer, Book as book_layer}
use Rattle.book.specs.Faults.{fault_in, spot_at}
use Rattle.book.specs.Grammar.{FieldBook, tied}
use Rattle.book.proofs.Grammars.{reading_book}
use Rattle.book.specs.Reading.{station, tie, reading}

-- the end of a line
abbrev ten : List ℕ
ten = 10 ∷ []

-- two stations and a tie
two_stations : reading (codes "S A" ++ ten ++ codes "S b-2." ++ ten ++ codes "T b-2. A" ++ ten) ≡ Ok (station (codes "A") ∷ station (codes "b-2.") ∷ tie (codes "b-2.") (codes "A") ∷ [])
two_stations = refl

-- which is a field book
two_stations_book : FieldBook (codes "S A" ++ ten ++ codes "S b-2." ++ ten ++ codes "T b-2. A" ++ ten) (codes "A" ∷ codes "b-2." ∷ []) ((codes "b-2.", codes "A") ∷ [])
two_stations_book = reading_book (codes "S A" ++ ten ++ codes "S b-2." ++ ten ++ codes "T b-2. A" ++ ten) (station (codes "A") ∷ station (codes "b-2.") ∷ tie (codes "b-2.") (codes "A") ∷ []) two_stations

-- its stations 0 and 1 are tied
two_stations_tied : tied (codes "A" ∷ codes "b-2." ∷ []) ((codes "b-2.", codes "A") ∷ []) 0 1 ≡ true
two_stations_tied = refl

-- a last line without byte 10
no_newline : reading (codes "S A" ++ ten ++ codes "S B") ≡ Err (fault_in 2 (spot_at line_layer 21 4))
no_newline = refl

-- a first word other than S and T
no_kind : reading (codes "S A" ++ ten ++ codes "X B" ++ ten) ≡ Err (fault_in 2 (spot_at line_layer 22 4))
no_kind = refl

-- an empty line
empty_line : reading (ten ++ codes "S A" ++ ten) ≡ Err (fault_in 1 (spot_at line_layer 22 0))
empty_line = refl

-- an empty word
empty_word : reading (codes "S  A" ++ ten) ≡ Err (fault_in 1 (spot_at line_layer 23 0))
empty_word = refl

-- S alone
one_word : reading (codes "S" ++ ten) ≡ Err (fault_in 1 (spot_at line_layer 23 0))
one_word = refl

-- T and three names
too_many_words : reading (codes "S A" ++ ten ++ codes "T A A A" ++ ten) ≡ Err (fault_in 2 (spot_at line_layer 23 4))
too_many_words = refl

-- a name of 13 bytes
too_long : reading (codes "S A" ++ ten ++ codes "T A abcdefghijklm" ++ ten) ≡ Err (fault_in 2 (spot_at word_layer 24 8))
too_long = refl

-- a byte that a name may not hold
bad_byte : reading (codes "S A" ++ ten ++ codes "T A b_" ++ ten) ≡ Err (fault_in 2 (spot_at word_layer 25 9))
bad_byte = refl

-- a station given twice
given_before : reading (codes "S A" ++ ten ++ codes "S A" ++ ten) ≡ Err (fault_in 2 (spot_at book_layer 26 6))
given_before = refl

-- the left name unknown
unknown_left : reading (codes "S A" ++ ten ++ codes "T B C" ++ ten) ≡ Err (fault_in 2 (spot_at book_layer 27 6))
unknown_left = refl

-- the right name unknown
unknown_right : reading (codes "S A" ++ ten ++ codes "T A C" ++ ten) ≡ Err (fault_in 2 (spot_at book_layer 27 8))
unknown_right = refl

-- a tie to itself
to_itself : reading (codes "S A" ++ ten ++ codes "T A A" ++ ten) ≡ Err (fault_in 2 (spot_at book_layer 28 8))
to_itself = refl

-- a book of no bytes
nothing_there : reading [] ≡ Err (fault_in 0 (spot_at book_layer 30 0))
nothing_there = refl
