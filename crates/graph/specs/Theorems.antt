-- The theorems, as statements: on shortfalls, laying, chordality, elimination, separators, blocks, searched orders and pairs.
use Rattle.std.specs.Prelude.{◌≡◌, ℕ, ◌+◌, ◌<◌, ◌≤◌, Bool, true, ◌||◌, ◌↔◌, List, ◌++◌}
use Rattle.graph.specs.Graphs.{Graph, Edge, Gap, Simple, Inside, Same, Walk, Shortfall, Short, Free, Laid, Lays, member}
use Rattle.graph.specs.Graphs.{Chordal, Order, Perfect, eliminated, elimination_fill, MinimalTriangulation, Cut, Block, LaterNeighbours, WithLater}
use Rattle.graph.specs.Search.{Searched}
use Rattle.graph.specs.Links.{laying, link}
use Rattle.graph.specs.Pairs.{pairs}

-- every vertex below n is in the list
abbrev pub Has : ℕ → List ℕ → Type 0
Has n vs = (x : ℕ) → x < n → member x vs ≡ true

-- a shortfall by parts is one by a walk
abbrev pub ShortWalk : Type 0
ShortWalk = (n v a b : ℕ) (g : Graph) → Simple n g → Shortfall g v a b ↔ Short g v a b

-- linkedness by intermediate vertices decides whether there is a walk
abbrev pub LinkWalk : Type 0
LinkWalk = (g : Graph) (test : ℕ → Bool) (k a b : ℕ) → (link g test k a b ≡ true) ↔ Walk g (λ c. (c < k) × (test c ≡ true)) a b

-- the shortfalls of a vertex can be laid
abbrev pub StepMade : Type 0
StepMade = (n v : ℕ) (g : Graph) → Simple n g → Laid g v (laying n g v)

-- a step keeps the graph simple, keeps its edges, and frees its vertex
abbrev pub StepFrees : Type 0
StepFrees = (n v : ℕ) (g h : Graph) → Simple n g → Laid g v h → Simple n h × Inside g h × Free h v

-- a step lays no edge at a free vertex
abbrev pub StepSpares : Type 0
StepSpares = (n v x : ℕ) (g h : Graph) → Simple n g → Laid g v h → Free g x → (y : ℕ) → Edge h x y → Edge g x y

-- a free vertex stays free
abbrev pub FreeStays : Type 0
FreeStays = (n v x : ℕ) (g h : Graph) → Simple n g → Laid g v h → Free g x → Free h x

-- there is a run along every list
abbrev pub RunMade : Type 0
RunMade = (n : ℕ) (g : Graph) (vs : List ℕ) → Simple n g → (h : Graph) × Lays g vs h

-- and one graph only in which it ends
abbrev pub RunUnique : Type 0
RunUnique = (g h k : Graph) (vs : List ℕ) → Lays g vs h → Lays g vs k → Same h k

-- a run frees each of its vertices
abbrev pub RunFrees : Type 0
RunFrees = (n : ℕ) (g h : Graph) (vs : List ℕ) → Simple n g → Lays g vs h → (x : ℕ) → member x vs ≡ true → Free h x

-- no chordal graph over the first is strictly inside what any run ends in
abbrev pub RunLeast : Type 0
RunLeast =
    (n : ℕ) (g h k : Graph) (vs : List ℕ) → Simple n g → Lays g vs h → Simple n k → Chordal n k → Inside g k → Inside k h → Inside h k

-- a run over every vertex ends in a minimal triangulation
abbrev pub RunMinimal : Type 0
RunMinimal = (n : ℕ) (g h : Graph) (vs : List ℕ) → Simple n g → Has n vs → Lays g vs h → MinimalTriangulation n g h

-- what a run lays, the elimination of every order that begins with the run joins
abbrev pub RunSandwiched : Type 0
RunSandwiched = (n : ℕ) (g h : Graph) (vs rest : List ℕ) → Simple n g → Order n (vs ++ rest) → Lays g vs h → Inside h (eliminated g (vs ++ rest))

-- a run reaches every minimal triangulation
abbrev pub MinimalLaid : Type 0
MinimalLaid = (n : ℕ) (g h : Graph) → Simple n g → MinimalTriangulation n g h → (o : List ℕ) × Order n o × Lays g o h

-- a graph is chordal exactly when each vertex is free
abbrev pub ChordalFree : Type 0
ChordalFree = (n : ℕ) (g : Graph) → Simple n g → Chordal n g ↔ ((x : ℕ) → Free g x)

-- and exactly when it has a perfect order
abbrev pub ChordalPerfect : Type 0
ChordalPerfect = (n : ℕ) (g : Graph) → Simple n g → Chordal n g ↔ ((o : List ℕ) × Order n o × Perfect n g o)

-- the elimination graph of an order is simple, over the graph and chordal, and the order is perfect for it
abbrev pub EliminationPerfect : Type 0
EliminationPerfect =
    (n : ℕ) (g : Graph) (o : List ℕ) → Simple n g → Order n o →
    Simple n (eliminated g o) × Inside g (eliminated g o) × Perfect n (eliminated g o) o × Chordal n (eliminated g o)

-- an order is perfect exactly when its elimination fill is empty
abbrev pub PerfectUnfilled : Type 0
PerfectUnfilled = (n : ℕ) (g : Graph) (o : List ℕ) → Simple n g → Order n o → Perfect n g o ↔ ((a b : ℕ) → Gap (elimination_fill g o) a b)

-- in a perfect order, a minimal separator is the set of the later neighbours of a vertex
abbrev pub CutLater : Type 0
CutLater =
    (n : ℕ) (g : Graph) (o : List ℕ) (among : ℕ → Bool) (c d : ℕ) → Simple n g → Order n o → Perfect n g o → Cut n g among c d →
    (p : ℕ) × (p < n) × LaterNeighbours n g o p among

-- in a perfect order, a block is a vertex with its later neighbours
abbrev pub BlockLater : Type 0
BlockLater =
    (n : ℕ) (g : Graph) (o : List ℕ) (among : ℕ → Bool) → 1 ≤ n → Simple n g → Order n o → Perfect n g o → Block n g among →
    (p : ℕ) × (p < n) × WithLater n g o p among

-- a searched order of a chordal graph is perfect: so for labels that keep the laws
abbrev pub SearchPerfect : {L : Type 0} → L → (L → ℕ → L) → (L → L → Bool) → Type 0
SearchPerfect blank raise less =
    (n : ℕ) (g : Graph) (o : List ℕ) → n ≤ 256 → Simple n g → Chordal n g → Searched blank raise less n g o → Perfect n g o

-- every graph has a searched order: so for labels that keep the laws
abbrev pub SearchedMade : {L : Type 0} → L → (L → ℕ → L) → (L → L → Bool) → Type 0
SearchedMade blank raise less = (n : ℕ) (g : Graph) → (o : List ℕ) × Searched blank raise less n g o

-- and one only: so for labels of any kind
abbrev pub SearchedUnique : {L : Type 0} → L → (L → ℕ → L) → (L → L → Bool) → Type 0
SearchedUnique blank raise less = (n : ℕ) (g : Graph) (o r : List ℕ) → Searched blank raise less n g o → Searched blank raise less n g r → o ≡ r

-- a graph inside another has no more pairs
abbrev pub PairsGrow : Type 0
PairsGrow = (n : ℕ) (g h : Graph) → Inside g h → pairs n g ≤ pairs n h

-- and with as many it is the same
abbrev pub PairsTell : Type 0
PairsTell = (n : ℕ) (g h : Graph) → Simple n g → Simple n h → Inside g h → pairs n g ≡ pairs n h → Same g h

-- the pairs of two graphs with none in common add up
abbrev pub PairsSum : Type 0
PairsSum = (n : ℕ) (g h : Graph) → ((a b : ℕ) → Edge g a b → Gap h a b) → pairs n (λ a b. g a b || h a b) ≡ pairs n g + pairs n h

-- a graph has no pair exactly when it has no edge
abbrev pub PairsNone : Type 0
PairsNone = (n : ℕ) (g : Graph) → Simple n g → (pairs n g ≡ 0) ↔ ((a b : ℕ) → Gap g a b)
