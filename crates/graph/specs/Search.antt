-- Labels, and the searched order: the vertices are placed from the last position down, by labels that placed neighbours raise.
use Rattle.std.specs.Prelude.{◌≡◌, ℕ, zero, suc, ◌<◌, ◌≤◌, Bool, true, false, cond, ◌&&◌, List, [], ◌∷◌, length, nat_lt}
use Rattle.graph.specs.Graphs.{Graph, at, Order}

-- strictly falling, and each below the bound
pub data Falling : ℕ → List ℕ → Type 0 where
  none : {top : ℕ} → Falling top []
  next : {top x : ℕ} {xs : List ℕ} → x < top → Falling x xs → Falling top (x ∷ xs)

-- the first list is the second with some entries left out, or none
pub data Kept : List ℕ → List ℕ → Type 0 where
  empty : Kept [] []
  keep : {x : ℕ} {xs ys : List ℕ} → Kept xs ys → Kept (x ∷ xs) (x ∷ ys)
  drop : {y : ℕ} {xs ys : List ℕ} → Kept xs ys → Kept xs (y ∷ ys)

-- a label raised by each position of the list in turn
abbrev pub raised : {L : Type 0} → (L → ℕ → L) → L → List ℕ → L
raised raise l [] = l
raised raise l (q ∷ qs) = raised raise (raise l q) qs

-- the laws of labels: a strict order, in which the blank label raised by some, not all, of the positions of a falling list is
-- less than the blank label raised by all of them; the positions are below 256
pub record LabelLaws {L : Type 0} (blank : L) (raise : L → ℕ → L) (less : L → L → Bool) : Type 0 where
  pub irreflexive : (x : L) → less x x ≡ false
  pub transitive : (x y z : L) → less x y ≡ true → less y z ≡ true → less x z ≡ true
  pub inclusion :
      (xs ys : List ℕ) → Falling 256 xs → Falling 256 ys → Kept xs ys → length xs < length ys → less (raised raise blank xs) (raised raise blank ys) ≡ true

-- the positions q with p < q < n that pass, from the highest down
abbrev pub passing : (ℕ → Bool) → ℕ → ℕ → List ℕ
passing test p zero = []
passing test p (suc m) = cond (nat_lt p m && test m) (m ∷ passing test p m) (passing test p m)

module _ {L : Type 0} (blank : L) (raise : L → ℕ → L) where
  -- the label of v when position p is about to be filled: the blank one, raised by each later position that a neighbour of v has
  abbrev pub label_before : ℕ → Graph → List ℕ → ℕ → ℕ → L
  label_before n g o p v = raised raise blank (passing (λ q. g v (at o q)) p n)

-- a searched order: from the last position down, each has the lowest-numbered of the unplaced vertices whose label that of no
-- unplaced one exceeds; the unplaced are those that end up at that position or before it
pub record Searched {L : Type 0} (blank : L) (raise : L → ℕ → L) (less : L → L → Bool) (n : ℕ) (g : Graph) (o : List ℕ) : Type 0 where
  pub order : Order n o
  pub unexceeded :
      (p q : ℕ) → p < n → q ≤ p → less (label_before blank raise n g o p (at o p)) (label_before blank raise n g o p (at o q)) ≡ false
  pub lowest :
      (p q : ℕ) → p < n → q ≤ p → at o q < at o p →
      (r : ℕ) × (r ≤ p) × (less (label_before blank raise n g o p (at o q)) (label_before blank raise n g o p (at o r)) ≡ true)
