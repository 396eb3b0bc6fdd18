-- Counting pairs by their mark.
use Rattle.std.proofs.Common.{◌≡◌, ℕ, zero, suc, ◌+◌, ◌<◌, ◌≤◌, cond, eqb, sum_by, count_by, sym, refl, ap, ◌∙◌, ap₂, ⊎_elim, add-one, arith}
use Rattle.std.proofs.lemmas.Bool.{cases_eq}
use Rattle.std.proofs.lemmas.Bool.Decides.{nat_tests}
use Rattle.std.proofs.lemmas.List.{map-id}
use Rattle.std.proofs.lemmas.List.FromFn.{sum_by-map-range_with_len_more}
use Rattle.std.specs.List.{range_with_len}
use Rattle.store.specs.Nets.{count_in_row, count_pairs}

-- a sum over one number more
sum_more : (f : ℕ → ℕ) (n : ℕ) → sum_by f (range_with_len 0 (suc n)) ≡ sum_by f (range_with_len 0 n) + f n
sum_more f n =
    sym (ap (λ k. sum_by f (range_with_len 0 k)) (add-one n)) ∙ simp map-id at (sum_by-map-range_with_len_more f (λ x. x) 0 n n (omega arith))

-- the pairs of a row, and of all rows, as chains over ranges count them
pub row_from : (mark : ℕ → ℕ → ℕ) (m b k : ℕ) → count_by (λ a. eqb (mark a b) m) (range_with_len 0 k) ≡ count_in_row mark m b k
row_from mark m b zero = refl
row_from mark m b (suc k) = sum_more (λ a. cond (eqb (mark a b) m) 1 0) k ∙ ap (λ s. s + cond (eqb (mark k b) m) 1 0) (row_from mark m b k)

pub pairs_from : (mark : ℕ → ℕ → ℕ) (m n : ℕ) → sum_by (λ b. count_in_row mark m b b) (range_with_len 0 n) ≡ count_pairs mark m n
pairs_from mark m zero = refl
pairs_from mark m (suc n) = sum_more (λ b. count_in_row mark m b b) n ∙ ap (λ s. s + count_in_row mark m n n) (pairs_from mark m n)

-- the one pair lo hi had the mark m, and has it no more
module _ (old new : ℕ → ℕ → ℕ) (m lo hi : ℕ) (order : lo < hi) (had : old lo hi ≡ m) (lost : new lo hi ≡ m → ⊥)
    (rest : (a b : ℕ) → a < b → ((a ≡ lo) × (b ≡ hi) → ⊥) → new a b ≡ old a b) where
  row_other : (b k : ℕ) → k ≤ b → (b ≡ hi → ⊥) → count_in_row new m b k ≡ count_in_row old m b k
  row_other b zero h d = refl
  row_other b (suc k) h d =
      ap₂ (λ c x. c + cond (eqb x m) 1 0) (row_other b k (omega arith) d) (rest k b (omega arith) (λ p. d p.1))

  row_before : (k : ℕ) → k ≤ lo → count_in_row new m hi k ≡ count_in_row old m hi k
  row_before zero h = refl
  row_before (suc k) h = ap₂ (λ c x. c + cond (eqb x m) 1 0) (row_before k (omega arith)) (rest k hi (omega arith) (λ p. omega (arith, p.0)))

  row_after : (k : ℕ) → lo < k → k ≤ hi → count_in_row new m hi k + 1 ≡ count_in_row old m hi k
  row_after zero h l = absurd (omega arith)
  row_after (suc k) h l =
      ⊎_elim
      (λ (e : k ≡ lo).
      let was : old k hi ≡ m = ap (λ a. old a hi) e ∙ had in
      let is_not : new k hi ≡ m → ⊥ = λ q. lost (sym (ap (λ a. new a hi) e) ∙ q) in
      let same = row_before k (omega arith) in
      grind (arith, nat_tests))
      (λ (d : k ≡ lo → ⊥).
      let q : count_in_row new m hi k + 1 ≡ count_in_row old m hi k = row_after k (omega arith) (omega arith) in
      let p : ◌≡◌ {A = ℕ} (cond (eqb (new k hi) m) 1 0) (cond (eqb (old k hi) m) 1 0) = ap (λ x. cond (eqb x m) 1 0) (rest k hi (omega arith) (λ p. d p.0)) in
      omega arith)
      (cases_eq k lo)

  pairs_before : (n : ℕ) → n ≤ hi → count_pairs new m n ≡ count_pairs old m n
  pairs_before zero h = refl
  pairs_before (suc b) h = ap₂ (λ x y. x + y) (pairs_before b (omega arith)) (row_other b b (omega arith) (λ e. omega arith))

  pub one_fewer : (n : ℕ) → hi < n → count_pairs new m n + 1 ≡ count_pairs old m n
  one_fewer zero h = absurd (omega arith)
  one_fewer (suc b) h =
      ⊎_elim
      (λ (e : b ≡ hi).
      let s : count_pairs new m b ≡ count_pairs old m b = pairs_before b (omega arith) in
      let r : count_in_row new m b b + 1 ≡ count_in_row old m b b = ap (λ j. count_in_row new m j j + 1) e ∙ row_after hi order (omega arith) ∙ sym (ap (λ j. count_in_row old m j j) e) in
      omega arith)
      (λ (d : b ≡ hi → ⊥).
      let s : count_pairs new m b + 1 ≡ count_pairs old m b = one_fewer b (omega arith) in
      let r : count_in_row new m b b ≡ count_in_row old m b b = row_other b b (omega arith) d in
      omega arith)
      (cases_eq b hi)
