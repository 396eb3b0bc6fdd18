-- Sets of pairwise adjacent vertices.
use Rattle.std.specs.Prelude.{◌≡◌, ℕ, Bool, true, ◌≢◌}
use Rattle.graph.specs.Graphs.{Graph, Edge}

-- a is adjacent to every other member
abbrev pub Joined : Graph → (ℕ → Bool) → ℕ → Type 0
Joined g among a = (b : ℕ) → among b ≡ true → a ≢ b → Edge g a b

-- any two different members are adjacent
abbrev pub Clique : Graph → (ℕ → Bool) → Type 0
Clique g among = (a b : ℕ) → among a ≡ true → among b ≡ true → a ≢ b → Edge g a b
