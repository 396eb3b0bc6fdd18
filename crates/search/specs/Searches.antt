-- What a search makes of an order and of a row of labels.
use Rattle.std.specs.Prelude.{◌≡◌, ℕ, ◌<◌, ◌≤◌, Bool, true, false, cond, List, slice_index_or}
use Rattle.graph.specs.Graphs.{Graph, at}
use Rattle.graph.specs.Search.{label_before, Searched}

-- no label of the set exceeds label v
abbrev pub Unexceeded : {L : Type 0} → (L → L → Bool) → List L → (ℕ → Bool) → ℕ → Type 0
Unexceeded {L} less labels among v = (k : ℕ) (d : L) → among k ≡ true → less (slice_index_or labels v d) (slice_index_or labels k d) ≡ false

-- some label of the set exceeds label v
abbrev pub Exceeded : {L : Type 0} → (L → L → Bool) → List L → (ℕ → Bool) → ℕ → Type 0
Exceeded {L} less labels among v = (k : ℕ) × (among k ≡ true) × ((d : L) → less (slice_index_or labels v d) (slice_index_or labels k d) ≡ true)

-- the lowest member of the set whose label none of the set exceeds
pub record Picked {L : Type 0} (less : L → L → Bool) (labels : List L) (among : ℕ → Bool) (v : ℕ) : Type 0 where
  pub member : among v ≡ true
  pub top : Unexceeded less labels among v
  pub low : (w : ℕ) → w < v → among w ≡ true → Exceeded less labels among w

-- the first n labels are blank, the others as before
pub record Blanked {L : Type 0} (blank : L) (n : ℕ) (before labels : List L) : Type 0 where
  pub first : (k : ℕ) (d : L) → k < n → slice_index_or labels k d ≡ blank
  pub rest : (k : ℕ) (d : L) → n ≤ k → slice_index_or labels k d ≡ slice_index_or before k d

-- the labels of the set are raised by the position, the others as before
abbrev pub RaisedAt : {L : Type 0} → (L → ℕ → L) → ℕ → (ℕ → Bool) → List L → List L → Type 0
RaisedAt {L} raise position which before labels =
    (k : ℕ) (d : L) → slice_index_or labels k d ≡ cond (which k) (raise (slice_index_or before k d) position) (slice_index_or before k d)

-- The order is the search's; each of the first n labels is its station's last, the blank raised through the falling positions
-- of the neighbours that were placed before it; the labels beyond are as before.
pub record SearchMade {L : Type 0} (blank : L) (raise : L → ℕ → L) (less : L → L → Bool) (n : ℕ) (g : Graph) (order : List ℕ) (before labels : List L) : Type 0 where
  pub searched : Searched blank raise less n g order
  pub own : (p : ℕ) (d : L) → p < n → slice_index_or labels (at order p) d ≡ label_before blank raise n g order p (at order p)
  pub others : (k : ℕ) (d : L) → n ≤ k → slice_index_or labels k d ≡ slice_index_or before k d
