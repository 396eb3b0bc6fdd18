-- What is gathered from the members of a set, one at a time.
use Rattle.std.proofs.Common.{◌≡◌, ℕ, ◌<◌, Bool, true, false, not, ◌&&◌, ◌||◌, eqb, sym, refl, ◌∙◌}
use Rattle.std.proofs.lemmas.Bool.{eq-eqb, and_parts, and_left, not_from_true}
use Rattle.graph.specs.Graphs.{Graph, Edge}
use Rattle.sets.specs.Rows.{gaps}
use Rattle.sets.specs.Sets.{size}
use Rattle.sets.proofs.Sizes.{size_lt}

-- what the members that are no more left are adjacent to
pub record Gathered (g : Graph) (part left all : ℕ → Bool) : Type 0 where
  pub inside : (x : ℕ) → left x ≡ true → part x ≡ true
  pub from : (a : ℕ) → all a ≡ true → (d : ℕ) × (part d ≡ true) × Edge g d a
  pub full : (d a : ℕ) → part d ≡ true → left d ≡ false → Edge g d a → all a ≡ true

-- a set with one member less is smaller
pub fewer : (old new : ℕ → Bool) (v : ℕ) → ((x : ℕ) → new x ≡ (not (eqb x v) && old x)) → old v ≡ true → v < 256 → size new 256 < size old 256
fewer old new v f t l =
    size_lt new old 256 (λ x _ e. (and_parts (not (eqb x v)) (old x) (sym (f x) ∙ e)).1) v l
    (f v ∙ and_left _ _ (not_from_true _ (eq-eqb v v refl))) t

-- the gaps of a border, noted for the members that are no more left
abbrev pub noted : Graph → Graph → (ℕ → Bool) → (ℕ → Bool) → ℕ → ℕ → Bool
noted g old border left a b = old a b || (not (left a) && gaps g border a b)
