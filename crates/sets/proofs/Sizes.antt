-- How many numbers below n pass a test: the counts of the theory, under a name that stays shut at 256.
use Rattle.std.proofs.Common.{◌≡◌, ℕ, zero, suc, ◌+◌, ◌<◌, ◌≤◌, Bool, true, false, cond, refl, ap, ◌∙◌, arith}
use Rattle.graph.proofs.Counting as counting
use Rattle.sets.specs.Sets.{size}

module _ (test more : ℕ → Bool) where
  pub size_le : (n : ℕ) → ((x : ℕ) → x < n → test x ≡ true → more x ≡ true) → size test n ≤ size more n
  unfolding size
  size_le n f = counting.size_le test more n f

  pub size_lt :
      (n : ℕ) → ((x : ℕ) → x < n → test x ≡ true → more x ≡ true) → (r : ℕ) → r < n → test r ≡ false → more r ≡ true → size test n < size more n
  unfolding size
  size_lt n f r l z e = counting.size_lt test more n f r l z e

cond_add : (t : Bool) (x y z : ℕ) → x ≡ y + z → cond t (suc x) x ≡ y + cond t (suc z) z
cond_add true x y z e = omega arith
cond_add false x y z e = e

-- those below m, and the n from m on
pub size_add : (test : ℕ → Bool) (m n : ℕ) → size test (n + m) ≡ size test m + size (λ i. test (i + m)) n
unfolding size
size_add test m zero = let e : 0 + m ≡ m = omega arith in ap (size test) e ∙ omega arith
size_add test m (suc n) =
    let e : suc n + m ≡ suc (n + m) = omega arith in
    ap (size test) e ∙ cond_add (test (n + m)) _ _ _ (size_add test m n)

most : (t : Bool) (x y : ℕ) → x ≤ y → cond t (suc x) x ≤ suc y
most true x y l = omega arith
most false x y l = omega arith

pub size_none : (test : ℕ → Bool) → size test 0 ≡ 0
unfolding size
size_none test = refl

pub size_most : (test : ℕ → Bool) (n : ℕ) → size test n ≤ n
unfolding size
size_most test zero = omega arith
size_most test (suc n) = most (test n) _ _ (size_most test n)
