-- Labels that are sets of positions.
use Rattle.std.specs.Prelude.{ℕ, zero, suc, Bool, false, cond, not, ◌||◌, ◌==◌}

-- a set of positions
abbrev pub Positions : Type 0
Positions = ℕ → Bool

-- the empty set
abbrev pub no_position : Positions
no_position k = false

-- the set with one position more
abbrev pub with_position : Positions → ℕ → Positions
with_position x q k = k == q || x k

-- are two tests both true, or both false?
abbrev pub agree : Bool → Bool → Bool
agree a b = cond a b (not b)

-- do the sets differ below the bound, and does the second hold the highest position there in which they do?
abbrev pub lower : ℕ → Positions → Positions → Bool
lower zero x y = false
lower (suc k) x y = cond (agree (x k) (y k)) (lower k x y) (y k)

-- the order of sets of positions below 256: the greater holds the highest position in which they differ
abbrev pub lesser : Positions → Positions → Bool
lesser = lower 256
