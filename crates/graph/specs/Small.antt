-- Small networks, worked out: what takes of their vertices lay, which order is found, how many pairs an order fills.
use Rattle.std.specs.Prelude.{◌≡◌, ℕ, false, ◌&&◌, ◌||◌, ◌↔◌, List, [], ◌∷◌, ◌++◌, ◌==◌}
use Rattle.graph.specs.Graphs.{Graph, Edge, Shortfall, elimination_fill}
use Rattle.graph.specs.Pairs.{pairs}
use Rattle.graph.specs.Search.{Searched}
use Rattle.graph.specs.Kinds.{no_position, with_position, lesser}

-- pairs of vertices
abbrev pub Ties : Type 0
Ties = List (ℕ × ℕ)

-- the graph whose edges are the pairs of a list
abbrev pub drawn : Ties → Graph
drawn [] a b = false
drawn (p ∷ ps) a b = ((a == p.0 && b == p.1) || (a == p.1 && b == p.0)) || drawn ps a b

-- a take of v lays these pairs: they are its shortfalls, and it has no other
abbrev pub Takes : Ties → ℕ → Ties → Type 0
Takes ties v laid = (a b : ℕ) → Shortfall (drawn ties) v a b ↔ Edge (drawn laid) a b

-- takes one after another, each with the pairs that it lays where those that the takes before it laid stand too
abbrev pub TakesInTurn : Ties → List (ℕ × Ties) → Type 0
TakesInTurn ties [] = Unit
TakesInTurn ties (t ∷ ts) = Takes ties t.0 t.1 × TakesInTurn (t.1 ++ ties) ts

-- the search by sets of positions finds this order of n vertices, and no other
abbrev pub Finds : ℕ → Ties → List ℕ → Type 0
Finds n ties order = (o : List ℕ) → Searched no_position with_position lesser n (drawn ties) o ↔ (o ≡ order)

-- the ring 0, 1, 2, 3
abbrev pub square : Ties
square = (0, 1) ∷ (1, 2) ∷ (2, 3) ∷ (0, 3) ∷ []

-- the ring 0, 1, 2, 3, 4
abbrev pub ring_of_five : Ties
ring_of_five = (0, 1) ∷ (1, 2) ∷ (2, 3) ∷ (3, 4) ∷ (0, 4) ∷ []

-- the ring 0, 1, 2, 3, 4, 5
abbrev pub ring_of_six : Ties
ring_of_six = (0, 1) ∷ (1, 2) ∷ (2, 3) ∷ (3, 4) ∷ (4, 5) ∷ (0, 5) ∷ []

-- the star with centre 0 and ends 1, 2, 3
abbrev pub star : Ties
star = (0, 1) ∷ (0, 2) ∷ (0, 3) ∷ []

-- the networks, one after another
pub record SmallNetworks : Type 0 where
  -- a lone vertex lacks no pair
  pub lone_takes : Takes [] 0 []
  -- and its order is 0
  pub lone_order : Finds 1 [] (0 ∷ [])
  -- the square: a take of 0 lays 1-3, and then one of 1 lays none
  pub square_from_0 : TakesInTurn square ((0, (1, 3) ∷ []) ∷ (1, []) ∷ [])
  -- the square with 1 first: its take lays 0-2
  pub square_from_1 : Takes square 1 ((0, 2) ∷ [])
  -- the ring of five: a take of 0 lays 1-4, and then one of 1 lays 2-4
  pub five_in_turn : TakesInTurn ring_of_five ((0, (1, 4) ∷ []) ∷ (1, (2, 4) ∷ []) ∷ [])
  -- the ring of six: takes of 0, 2 and 4 lay 1-5, 1-3 and 3-5
  pub six_in_turn : TakesInTurn ring_of_six ((0, (1, 5) ∷ []) ∷ (2, (1, 3) ∷ []) ∷ (4, (3, 5) ∷ []) ∷ [])
  -- the star: its centre lacks no pair
  pub star_takes : Takes star 0 []
  -- and the order 0, 1, 2, 3, its centre first, fills three pairs
  pub star_fill : pairs 4 (elimination_fill (drawn star) (0 ∷ 1 ∷ 2 ∷ 3 ∷ [])) ≡ 3
