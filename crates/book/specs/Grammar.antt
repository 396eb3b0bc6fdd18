-- A field book in its keeper's words: lines that give stations and tie them, and the network that they give.
use Rattle.std.specs.Prelude.{◌≡◌, ℕ, ◌<◌, ◌≤◌, Bool, true, false, ◌&&◌, ◌||◌, ◌⊎◌, ◌↔◌, List, [], ◌∷◌, ◌++◌, length, ◌==◌, ◌≢◌, nat_le, nat_lt, slice_index_or}
use Rattle.std.specs.Str.{bytes_eq}

-- a name is its bytes
abbrev pub Name : Type 0
Name = List ℕ

-- a name may hold digits, letters, hyphen and full stop
abbrev pub name_byte : ℕ → Bool
name_byte b = b == 45 || (b == 46 || ((nat_le 48 b && nat_le b 57) || ((nat_le 65 b && nat_le b 90) || (nat_le 97 b && nat_le b 122))))

-- each byte is one that a name may hold
abbrev pub AllNameBytes : Name → Type 0
AllNameBytes [] = Unit {0}
AllNameBytes (b ∷ bs) = (name_byte b ≡ true) × AllNameBytes bs

-- 1 to 12 bytes, each allowed
pub record WellFormed (a : Name) : Type 0 where
  pub some : 1 ≤ length a
  pub short : length a ≤ 12
  pub bytes : AllNameBytes a

-- station number u, from 0, has the name a
abbrev pub Numbered : List Name → ℕ → Name → Type 0
Numbered names u a = (u < length names) × (slice_index_or names u [] ≡ a)

-- a is among the names
abbrev pub Among : Name → List Name → Type 0
Among a names = (u : ℕ) × (u < length names) × (slice_index_or names u [] ≡ a)

-- "S name" and byte 10
abbrev pub station_line : Name → List ℕ
station_line a = 83 ∷ 32 ∷ (a ++ 10 ∷ [])

-- "T name name" and byte 10
abbrev pub tie_line : Name → Name → List ℕ
tie_line a b = 84 ∷ 32 ∷ (a ++ 32 ∷ (b ++ 10 ∷ []))

-- The text gives these names, in their order, and these ties, in theirs: a name is given once, and a tie
-- is of two stations given above it.
pub data Lines : List ℕ → List Name → List (Name × Name) → Type 0 where
  none : Lines [] [] []
  station : {text : List ℕ} {names : List Name} {ties : List (Name × Name)} (a : Name) → Lines text names ties → WellFormed a → (Among a names → ⊥) → length names < 256 → Lines (text ++ station_line a) (names ++ a ∷ []) ties
  tie : {text : List ℕ} {names : List Name} {ties : List (Name × Name)} (a b : Name) → Lines text names ties → Among a names → Among b names → (a ≢ b) → Lines (text ++ tie_line a b) names (ties ++ (a, b) ∷ [])

-- a field book: such lines with a station among them, 65,536 bytes at most
pub record FieldBook (book : List ℕ) (names : List Name) (ties : List (Name × Name)) : Type 0 where
  pub lines : Lines book names ties
  pub some : 1 ≤ length names
  pub small : length book ≤ 65536

-- whether station number u, from 0, has the name a
abbrev pub named : List Name → ℕ → Name → Bool
named names u a = nat_lt u (length names) && bytes_eq (slice_index_or names u []) a

-- whether a tie of u's and v's names is among the ties, either way round
abbrev pub tied : List Name → List (Name × Name) → ℕ → ℕ → Bool
tied names [] u v = false
tied names (t ∷ ties) u v = ((named names u t.0 && named names v t.1) || (named names u t.1 && named names v t.0)) || tied names ties u v

-- the tie is among the ties
abbrev pub Written : Name × Name → List (Name × Name) → Type 0
Written t [] = ⊥
Written t (s ∷ ties) = (t ≡ s) ⊎ Written t ties

-- the book ties the stations numbered u and v
pub record Tied (names : List Name) (ties : List (Name × Name)) (u v : ℕ) : Type 0 where
  pub one : Name
  pub other : Name
  pub one_is : Numbered names u one
  pub other_is : Numbered names v other
  pub written : Written (one, other) ties ⊎ Written (other, one) ties

-- what a field book gives is a network: 1 to 256 stations, each with a name of its own; tied as written,
-- both ways, none to itself, and nothing beyond the count
pub record Networked (names : List Name) (ties : List (Name × Name)) : Type 0 where
  pub some : 1 ≤ length names
  pub few : length names ≤ 256
  pub apart : (u v : ℕ) → u < length names → v < length names → slice_index_or names u [] ≡ slice_index_or names v [] → u ≡ v
  pub as_written : (u v : ℕ) → (tied names ties u v ≡ true) ↔ Tied names ties u v
  pub symmetric : (u v : ℕ) → tied names ties u v ≡ true → tied names ties v u ≡ true
  pub loopless : (u : ℕ) → tied names ties u u ≡ false
  pub within : (u v : ℕ) → tied names ties u v ≡ true → (u < length names) × (v < length names)
