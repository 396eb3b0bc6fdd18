-- How many numbers pass a test, and how many pairs of vertices are adjacent.
use Rattle.std.specs.Prelude.{ℕ, zero, suc, ◌+◌, Bool, cond}
use Rattle.graph.specs.Graphs.{Graph}

-- how many numbers below n pass
abbrev pub size : (ℕ → Bool) → ℕ → ℕ
size test zero = 0
size test (suc m) = cond (test m) (suc (size test m)) (size test m)

-- how many pairs a < b < n are adjacent: each edge of a simple graph on n vertices once
abbrev pub pairs : ℕ → Graph → ℕ
pairs zero g = 0
pairs (suc b) g = size (λ a. g a b) b + pairs b g
