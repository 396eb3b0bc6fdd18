-- The matrix: what its bytes and its number of stations mean, for any bytes, and what its calls do.
use Rattle.std.specs.Prelude.{◌≡◌, ℕ, min, max, cond, ◌&&◌, List, length, Ok, Err, Result, ◌==◌, nat_le, nat_lt}
use Rattle.store.specs.declared.refusal.Refusal.{Refusal}
use Rattle.store.specs.declared.matrix.Matrix.{Matrix}
use Rattle.store.specs.Nets.{Net, count_pairs, remarked}
use Rattle.store.specs.Refusals.{number, pair_refusal}
use Rattle.store.specs.Squares.{bit, raised, lowered, wiped}

-- what the two bits of a pair say: the one that it stands, the other that it is a tie
abbrev pub pair_mark : ℕ → ℕ → ℕ
pair_mark stands tied = cond (stands == 1) (cond (tied == 1) 1 2) 0

-- the mark of two different stations below n: the bit lower, upper says that they stand, the bit upper, lower that they are tied
unfoldable pub matrix_mark : List ℕ → ℕ → ℕ → ℕ → ℕ
matrix_mark bytes n u v =
    cond (u == v) 0 (cond (nat_lt (max u v) n) (pair_mark (bit bytes (min u v) (max u v)) (bit bytes (max u v) (min u v))) 0)

-- 1 to 256 stations, and one over an area that is too short
unfoldable pub size_over : ℕ → ℕ → ℕ
size_over len n = cond (nat_lt len 8192) 1 (min 256 (max 1 n))

-- a net whose room is the number of its pairs that do not stand
abbrev pub counted : ℕ → (ℕ → ℕ → ℕ) → Net
counted size mark = record { size = size; mark = mark; room = count_pairs mark 0 size }

-- the net of n stations in an area
abbrev pub matrix_net : List ℕ → ℕ → Net
matrix_net bytes n = counted (size_over (length bytes) n) (matrix_mark bytes (size_over (length bytes) n))

-- the net of n stations without pairs
abbrev pub empty_net : ℕ → Net
empty_net n = counted n (λ u v. 0)

-- the bytes of a matrix's area
abbrev pub bytes_of : Matrix → List ℕ
bytes_of m = m.area.now

-- what a matrix means
abbrev pub net_of : Matrix → Net
net_of m = matrix_net (bytes_of m) m.n

-- the number by which n stations in an area of so many bytes are refused, 0 where they are not
abbrev pub size_refusal : ℕ → ℕ → ℕ
size_refusal n len = cond (nat_le 1 n && nat_le n 256) (cond (nat_lt len 8192) 9 0) 6

-- `make`: n stations, no pair, 8,192 zero bytes and the later ones as they were; or all as it was
abbrev pub Makes : ℕ → Matrix → Matrix → Result (Unit {0}) Refusal → Type 0
Makes n old new (Ok _) =
    (size_refusal n (length (bytes_of old)) ≡ 0) × (bytes_of new ≡ wiped (bytes_of old)) × (new.n ≡ n) × (net_of new ≡ empty_net n)
Makes n old new (Err e) = (number e ≡ size_refusal n (length (bytes_of old))) × (new ≡ old)

-- `set_size`: n stations over the same bytes; or all as it was
abbrev pub SetsSize : ℕ → Matrix → Matrix → Result (Unit {0}) Refusal → Type 0
SetsSize n old new (Ok _) =
    (size_refusal n (length (bytes_of old)) ≡ 0) × (bytes_of new ≡ bytes_of old) × (new.n ≡ n) × (net_of new ≡ counted n (matrix_mark (bytes_of old) n))
SetsSize n old new (Err e) = (number e ≡ size_refusal n (length (bytes_of old))) × (new ≡ old)

-- `tie`: the pair is a tie, whether it stood or not, and its two bits are 1; or all as it was
abbrev pub Ties : ℕ → ℕ → Matrix → Matrix → Result (Unit {0}) Refusal → Type 0
Ties u v old new (Ok _) =
    (pair_refusal (net_of old).size u v ≡ 0) × (bytes_of new ≡ raised (raised (bytes_of old) u v) v u) × (new.n ≡ old.n)
    × (net_of new ≡ counted (net_of old).size (remarked (net_of old).mark u v 1))
Ties u v old new (Err e) = (number e ≡ pair_refusal (net_of old).size u v) × (new ≡ old)

-- what `lay` does to the bytes: the bit lower, upper is 1 and the bit upper, lower 0; or all as it was
abbrev pub LaysBits : ℕ → ℕ → Matrix → Matrix → Result (Unit {0}) Refusal → Type 0
LaysBits u v old new (Ok _) =
    (bytes_of new ≡ lowered (raised (bytes_of old) (min u v) (max u v)) (max u v) (min u v)) × (new.n ≡ old.n)
LaysBits u v old new (Err e) = new ≡ old
