-- A decision procedure for linkedness, by intermediate vertices, and one laying step written as a Boolean function.
use Rattle.std.specs.Prelude.{ℕ, zero, suc, Bool, not, ◌&&◌, ◌||◌, ◌==◌}
use Rattle.graph.specs.Graphs.{Graph}

-- does a walk lead from a to b whose inner vertices are below k and pass? One without k does, or one to k and one from k
abbrev pub link : Graph → (ℕ → Bool) → ℕ → ℕ → ℕ → Bool
link g test zero a b = g a b
link g test (suc k) a b = link g test k a b || (test k && (link g test k a k && link g test k k b))

-- is c outside v: neither v nor a neighbour of v?
abbrev pub outside : Graph → ℕ → ℕ → Bool
outside g v c = not (c == v) && not (g v c)

-- g, on the vertices below n, with the shortfalls of v laid
abbrev pub laying : ℕ → Graph → ℕ → Graph
laying n g v a b = g a b || (not (a == b) && (g v a && (g v b && link g (outside g v) n a b)))
