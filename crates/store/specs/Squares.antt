-- A square of 256 by 256 bits in the first 8,192 bytes of an area: bit v % 8 of the byte u * 32 + v / 8.
use Rattle.std.specs.Prelude.{ℕ, ◌+◌, ◌-◌, ◌*◌, ◌/◌, ◌%◌, ◌^◌, List, ◌++◌, drop, replicate, bit_and, bit_or, slice_index, slice_set}
use Rattle.std.specs.Int.{bit_at}

-- the byte that has the bit u v
abbrev pub place : ℕ → ℕ → ℕ
place u v = u * 32 + v / 8

-- the bit of row u and column v
unfoldable pub bit : List ℕ → ℕ → ℕ → ℕ
bit bytes u v = bit_at (slice_index bytes (place u v)) (v % 8)

-- the byte with the one bit v % 8
abbrev pub mask : ℕ → ℕ
mask v = 1 * 2 ^ (v % 8) % 2 ^ 8

-- the area with the bit u v set to 1
unfoldable pub raised : List ℕ → ℕ → ℕ → List ℕ
raised bytes u v = slice_set bytes (place u v) (bit_or (slice_index bytes (place u v)) (mask v))

-- the area with the bit u v set to 0
unfoldable pub lowered : List ℕ → ℕ → ℕ → List ℕ
lowered bytes u v = slice_set bytes (place u v) (bit_and (slice_index bytes (place u v)) (255 - mask v))

-- the area with its first 8,192 bytes zero
unfoldable pub wiped : List ℕ → List ℕ
wiped bytes = replicate 8192 0 ++ drop 8192 bytes
