-- A network of stations: how many there are, what stands between two of them, and how many pairs may still be laid.
use Rattle.std.specs.Prelude.{◌≡◌, ℕ, zero, suc, ◌+◌, ◌-◌, ◌<◌, ◌≤◌, Bool, cond, ◌&&◌, ◌||◌, ◌==◌}

-- `mark` of two stations: 0 nothing stands, 1 a tie, 2 fill; no pair is both
pub record Net : Type 0 where
  pub size : ℕ
  pub mark : ℕ → ℕ → ℕ
  pub room : ℕ

-- the observed pairs
abbrev pub tie : Net → ℕ → ℕ → Bool
tie net a b = net.mark a b == 1

-- the pairs laid since
abbrev pub fill : Net → ℕ → ℕ → Bool
fill net a b = net.mark a b == 2

-- what stands: the ties and the fill
abbrev pub standing : Net → ℕ → ℕ → Bool
standing net a b = tie net a b || fill net a b

-- 1 to 256 stations; marks are of pairs of different stations; the room is a 16-bit number
pub record Lawful (net : Net) : Type 0 where
  pub some : 1 ≤ net.size
  pub most : net.size ≤ 256
  pub small : (u v : ℕ) → net.mark u v ≤ 2
  pub alike : (u v : ℕ) → net.mark u v ≡ net.mark v u
  pub apart : (u : ℕ) → net.mark u u ≡ 0
  pub inside : (u v : ℕ) → net.size ≤ u → net.mark u v ≡ 0
  pub bounded : net.room < 65536

-- a and b are u and v, either way round
abbrev pub couple : ℕ → ℕ → ℕ → ℕ → Bool
couple u v a b = (a == u && b == v) || (b == u && a == v)

-- the pair of u and v has the mark m, every other pair as before
abbrev pub remarked : (ℕ → ℕ → ℕ) → ℕ → ℕ → ℕ → ℕ → ℕ → ℕ
remarked mark u v m a b = cond (couple u v a b) m (mark a b)

-- the pair of u and v joins the fill, and the room falls by one
abbrev pub with_fill : Net → ℕ → ℕ → Net
with_fill net u v = record { size = net.size; mark = remarked net.mark u v 2; room = net.room - 1 }

-- how many of the stations a below k have the mark m with b
abbrev pub count_in_row : (ℕ → ℕ → ℕ) → ℕ → ℕ → ℕ → ℕ
count_in_row mark m b zero = 0
count_in_row mark m b (suc a) = count_in_row mark m b a + cond (mark a b == m) 1 0

-- how many of the pairs a < b < n have the mark m
abbrev pub count_pairs : (ℕ → ℕ → ℕ) → ℕ → ℕ → ℕ
count_pairs mark m zero = 0
count_pairs mark m (suc b) = count_pairs mark m b + count_in_row mark m b b
