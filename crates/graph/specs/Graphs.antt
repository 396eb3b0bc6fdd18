-- Graphs on numbered vertices: walks, shortfalls and how they are laid, rings, orders, elimination, separators and blocks.
use Rattle.std.specs.Prelude.{◌≡◌, ℕ, suc, ◌<◌, ◌≤◌, Bool, true, false, not, ◌&&◌, ◌||◌, ◌≢◌, ◌⊎◌, ◌↔◌, List, [], ◌∷◌, length, ◌==◌, slice_index}

-- a graph, by which pairs of numbers are adjacent
abbrev pub Graph : Type 0
Graph = ℕ → ℕ → Bool

-- a and b are adjacent
abbrev pub Edge : Graph → ℕ → ℕ → Type 0
Edge g a b = g a b ≡ true

-- a and b are not adjacent
abbrev pub Gap : Graph → ℕ → ℕ → Type 0
Gap g a b = g a b ≡ false

-- a simple graph on the vertices below n: undirected, without loops, and with no edge to another number
pub record Simple (n : ℕ) (g : Graph) : Type 0 where
  pub symmetric : (a b : ℕ) → Edge g a b → Edge g b a
  pub loopless : (a : ℕ) → Gap g a a
  pub within : (a b : ℕ) → Edge g a b → b < n

-- every edge of g is one of h
abbrev pub Inside : Graph → Graph → Type 0
Inside g h = (a b : ℕ) → Edge g a b → Edge h a b

-- g and h have the same edges
abbrev pub Same : Graph → Graph → Type 0
Same g h = (a b : ℕ) → g a b ≡ h a b

-- a walk of one edge or more; each vertex between its ends is ok
pub data Walk (g : Graph) (ok : ℕ → Type 0) : ℕ → ℕ → Type 0 where
  edge : {a b : ℕ} → Edge g a b → Walk g ok a b
  step : {a b c : ℕ} → Edge g a c → ok c → Walk g ok c b → Walk g ok a b

-- a walk of no edge or more; each of its vertices is ok, the ends too
pub data Linked (g : Graph) (ok : ℕ → Type 0) : ℕ → ℕ → Type 0 where
  here : {a : ℕ} → ok a → Linked g ok a a
  next : {a b c : ℕ} → ok a → Edge g a c → Linked g ok c b → Linked g ok a b

-- c is outside v: neither v nor a neighbour of v
abbrev pub Outside : Graph → ℕ → ℕ → Type 0
Outside g v c = (c ≢ v) × Gap g v c

-- c and d are in one part: a connected component of the vertices outside v
abbrev pub Part : Graph → ℕ → ℕ → ℕ → Type 0
Part g v c d = Linked g (Outside g v) c d

-- a is on the border of the part of c: a neighbour of v with a neighbour in the part
abbrev pub Border : Graph → ℕ → ℕ → ℕ → Type 0
Border g v c a = Edge g v a × ((d : ℕ) × Part g v c d × Edge g a d)

-- a shortfall of v: two different vertices, not adjacent, on the border of one part
pub record Shortfall (g : Graph) (v a b : ℕ) : Type 0 where
  pub apart : a ≢ b
  pub gap : Gap g a b
  -- a vertex of the part
  pub part : ℕ
  pub left : Border g v part a
  pub right : Border g v part b

-- a shortfall by a walk: two different neighbours of v, not adjacent, that a walk joins whose inner vertices are outside v
pub record Short (g : Graph) (v a b : ℕ) : Type 0 where
  pub apart : a ≢ b
  pub gap : Gap g a b
  pub left : Edge g v a
  pub right : Edge g v b
  pub walk : Walk g (Outside g v) a b

-- v has no shortfall: the border of each part is a clique
abbrev pub Free : Graph → ℕ → Type 0
Free g v = (a b : ℕ) → Shortfall g v a b → ⊥

-- h is g with the shortfalls of v laid: its edges are those of g and those pairs
abbrev pub Laid : Graph → ℕ → Graph → Type 0
Laid g v h = (a b : ℕ) → Edge h a b ↔ (Edge g a b ⊎ Shortfall g v a b)

-- h is g with the shortfalls of each vertex of the list laid in turn, each in the graph that the ones before it leave
abbrev pub Lays : Graph → List ℕ → Graph → Type 0
Lays g [] h = Same g h
Lays g (v ∷ vs) h = (k : Graph) × Laid g v k × Lays k vs h

-- is a in the list?
abbrev pub member : ℕ → List ℕ → Bool
member a [] = false
member a (v ∷ vs) = a == v || member a vs

-- entry p of a list, from 0; 0 where the list has none
abbrev pub at : List ℕ → ℕ → ℕ
at r p = slice_index r p

-- a chordless cycle of four vertices or more, listed along it
pub record Ring (n : ℕ) (g : Graph) (r : List ℕ) : Type 0 where
  pub long : 4 ≤ length r
  pub below : (i : ℕ) → i < length r → at r i < n
  pub differ : (i j : ℕ) → i < j → j < length r → at r i ≢ at r j
  -- two of them are adjacent exactly when they are neighbours along the cycle
  pub joins : (i j : ℕ) → i < j → j < length r → Edge g (at r i) (at r j) ↔ ((j ≡ suc i) ⊎ ((i ≡ 0) × (suc j ≡ length r)))

-- there is no chordless cycle of four vertices or more
abbrev pub Chordal : ℕ → Graph → Type 0
Chordal n g = (r : List ℕ) → Ring n g r → ⊥

-- every vertex below n once
pub record Order (n : ℕ) (o : List ℕ) : Type 0 where
  pub full : length o ≡ n
  pub below : (p : ℕ) → p < n → at o p < n
  pub differ : (p q : ℕ) → p < q → q < n → at o p ≢ at o q

-- an order is a perfect elimination order: the later neighbours of each vertex are a clique
abbrev pub Perfect : ℕ → Graph → List ℕ → Type 0
Perfect n g o =
    (p q r : ℕ) → p < q → p < r → q < n → r < n → q ≢ r → Edge g (at o p) (at o q) → Edge g (at o p) (at o r) → Edge g (at o q) (at o r)

-- g with the neighbours of v in the list made a clique
abbrev pub joined : Graph → ℕ → List ℕ → Graph
joined g v vs a b = g a b || (not (a == b) && (member a vs && (member b vs && (g v a && g v b))))

-- the elimination graph of an order: the later neighbours of each vertex in turn are made a clique
abbrev pub eliminated : Graph → List ℕ → Graph
eliminated g [] = g
eliminated g (v ∷ vs) = eliminated (joined g v vs) vs

-- the elimination fill of an order: the pairs that elimination joins and that were not adjacent before
abbrev pub elimination_fill : Graph → List ℕ → Graph
elimination_fill g o a b = eliminated g o a b && not (g a b)

-- h is a minimal triangulation of g: chordal, over g, and no other chordal graph is between them
pub record MinimalTriangulation (n : ℕ) (g h : Graph) : Type 0 where
  pub simple : Simple n h
  pub chordal : Chordal n h
  pub over : Inside g h
  pub least : (k : Graph) → Simple n k → Chordal n k → Inside g k → Inside k h → Inside h k

-- the set is a minimal separator of c and d: without it they are not connected, and each of its vertices has a neighbour in
-- the component of either; it is empty where c and d are not connected at all
pub record Cut (n : ℕ) (g : Graph) (among : ℕ → Bool) (c d : ℕ) : Type 0 where
  pub first : (c < n) × (among c ≡ false)
  pub second : (d < n) × (among d ≡ false)
  pub parted : Linked g (λ x. among x ≡ false) c d → ⊥
  pub by_first : (x : ℕ) → among x ≡ true → (y : ℕ) × Linked g (λ z. among z ≡ false) c y × Edge g x y
  pub by_second : (x : ℕ) → among x ≡ true → (y : ℕ) × Linked g (λ z. among z ≡ false) d y × Edge g x y

-- the set is a block, a maximal clique: for each vertex that is not in it, one that is in it is not adjacent to that vertex;
-- only where there is no vertex can it be empty
pub record Block (n : ℕ) (g : Graph) (among : ℕ → Bool) : Type 0 where
  pub below : (a : ℕ) → among a ≡ true → a < n
  pub joined : (a b : ℕ) → among a ≡ true → among b ≡ true → a ≢ b → Edge g a b
  pub greatest : (x : ℕ) → x < n → among x ≡ false → (a : ℕ) × (among a ≡ true) × Gap g x a

-- x stands after entry p of the order
abbrev pub After : ℕ → List ℕ → ℕ → ℕ → Type 0
After n o p x = (q : ℕ) × (p < q) × (q < n) × (at o q ≡ x)

-- x is a later neighbour of entry p
abbrev pub Later : ℕ → Graph → List ℕ → ℕ → ℕ → Type 0
Later n g o p x = Edge g (at o p) x × After n o p x

-- the set is that of the later neighbours of entry p
abbrev pub LaterNeighbours : ℕ → Graph → List ℕ → ℕ → (ℕ → Bool) → Type 0
LaterNeighbours n g o p among = (x : ℕ) → (among x ≡ true) ↔ Later n g o p x

-- the set is that of entry p and its later neighbours
abbrev pub WithLater : ℕ → Graph → List ℕ → ℕ → (ℕ → Bool) → Type 0
WithLater n g o p among = (x : ℕ) → (among x ≡ true) ↔ ((x ≡ at o p) ⊎ Later n g o p x)
