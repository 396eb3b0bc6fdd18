-- The first fault of a book that is no field book, in its keeper's words.
use Rattle.std.specs.Prelude.{◌≡◌, ℕ, ◌+◌, ◌<◌, ◌≤◌, false, ◌⊎◌, List, [], ◌∷◌, ◌++◌, length, ◌≢◌}
use Rattle.book.specs.declared.faults.Layer.TheVariants.{Word as word_layer, Line as line_layer, Book as book_layer}
use Rattle.book.specs.Faults.{Spot, Fault, spot_at, fault_in}
use Rattle.book.specs.Grammar.{Name, name_byte, AllNameBytes, WellFormed, Among, Lines}

-- the bytes have no byte c
abbrev pub Lacks : ℕ → List ℕ → Type 0
Lacks c [] = Unit {0}
Lacks c (x ∷ xs) = (x ≢ c) × Lacks c xs

-- pieces without the byte c, one c between each two, make the text
abbrev pub Cut : ℕ → List ℕ → List (List ℕ) → Type 0
Cut c text [] = ⊥
Cut c text (w ∷ []) = Lacks c w × (text ≡ w)
Cut c text (w ∷ v ∷ ws) = Lacks c w × ((more : List ℕ) × (text ≡ w ++ c ∷ more) × Cut c more (v ∷ ws))

-- the name a at byte `at` is too long, or has a first byte that is not allowed
pub data WordFaulty (at : ℕ) (a : Name) : Spot → Type 0 where
  too_long : 12 < length a → WordFaulty at a (spot_at word_layer 24 at)
  bad_byte : (front back : List ℕ) (byte : ℕ) → length a ≤ 12 → a ≡ front ++ byte ∷ back → AllNameBytes front → name_byte byte ≡ false → WordFaulty at a (spot_at word_layer 25 (at + length front))

-- the words S and T
abbrev pub S : List ℕ
S = 83 ∷ []

abbrev pub T : List ℕ
T = 84 ∷ []

-- The words of a line at byte `at`, below lines that give these names, have this first fault. The cases stand in the order of the
-- checks: each says what is wrong, and that nothing is wrong by a case above it.
pub data LineFaulty (names : List Name) (at : ℕ) : List (List ℕ) → Spot → Type 0 where
  kind : {w : List ℕ} {ws : List (List ℕ)} → (w ≢ S) → (w ≢ T) → LineFaulty names at (w ∷ ws) (spot_at line_layer 22 at)
  station_words : {ws : List (List ℕ)} → (length ws ≢ 1) → LineFaulty names at (S ∷ ws) (spot_at line_layer 23 at)
  station_empty : LineFaulty names at (S ∷ [] ∷ []) (spot_at line_layer 23 at)
  tie_words : {ws : List (List ℕ)} → (length ws ≢ 2) → LineFaulty names at (T ∷ ws) (spot_at line_layer 23 at)
  tie_empty : {a b : Name} → (length a ≡ 0) ⊎ (length b ≡ 0) → LineFaulty names at (T ∷ a ∷ b ∷ []) (spot_at line_layer 23 at)
  station_name : {a : Name} {s : Spot} → 1 ≤ length a → WordFaulty (at + 2) a s → LineFaulty names at (S ∷ a ∷ []) s
  left_name : {a b : Name} {s : Spot} → 1 ≤ length a → 1 ≤ length b → WordFaulty (at + 2) a s → LineFaulty names at (T ∷ a ∷ b ∷ []) s
  right_name : {a b : Name} {s : Spot} → WellFormed a → 1 ≤ length b → WordFaulty (at + 2 + length a + 1) b s → LineFaulty names at (T ∷ a ∷ b ∷ []) s
  given_before : {a : Name} → WellFormed a → Among a names → LineFaulty names at (S ∷ a ∷ []) (spot_at book_layer 26 (at + 2))
  left_unknown : {a b : Name} → WellFormed a → WellFormed b → (Among a names → ⊥) → LineFaulty names at (T ∷ a ∷ b ∷ []) (spot_at book_layer 27 (at + 2))
  right_unknown : {a b : Name} → WellFormed a → WellFormed b → Among a names → (Among b names → ⊥) → LineFaulty names at (T ∷ a ∷ b ∷ []) (spot_at book_layer 27 (at + 2 + length a + 1))
  itself : {a b : Name} → WellFormed a → Among a names → a ≡ b → LineFaulty names at (T ∷ a ∷ b ∷ []) (spot_at book_layer 28 (at + 2 + length a + 1))
  one_too_many : {a : Name} → WellFormed a → (Among a names → ⊥) → 256 ≤ length names → LineFaulty names at (S ∷ a ∷ []) (spot_at book_layer 29 (at + 2))

-- The first fault of a book: its size; or the lines above follow the grammar, and the next is faulty; or it has no station.
-- Each line above gives a name or a tie, so the faulty line's number is one more than there are of these.
pub data FirstFault (book : List ℕ) : Fault → Type 0 where
  too_large : 65536 < length book → FirstFault book (fault_in 0 (spot_at book_layer 20 (length book)))
  no_newline : (above rest : List ℕ) (names : List Name) (ties : List (Name × Name)) → length book ≤ 65536 → book ≡ above ++ rest → Lines above names ties → 1 ≤ length rest → Lacks 10 rest → FirstFault book (fault_in (length names + length ties + 1) (spot_at line_layer 21 (length above)))
  in_line : (above line more : List ℕ) (names : List Name) (ties : List (Name × Name)) (words : List (List ℕ)) (s : Spot) → length book ≤ 65536 → book ≡ above ++ (line ++ 10 ∷ more) → Lines above names ties → Lacks 10 line → Cut 32 line words → LineFaulty names (length above) words s → FirstFault book (fault_in (length names + length ties + 1) s)
  no_station : (ties : List (Name × Name)) → Lines book [] ties → FirstFault book (fault_in 0 (spot_at book_layer 30 (length book)))
