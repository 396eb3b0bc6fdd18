-- How many numbers below n pass a test.
use Rattle.std.proofs.Common.{◌≡◌, ℕ, zero, suc, ◌<◌, ◌≤◌, Bool, true, false, cond, ◌≢◌, refl, ap, subst, inl, inr, arith}
use Rattle.graph.specs.Pairs.{size}
use Rattle.std.proofs.lemmas.Bool.{cases_eq, false≢true, true≢false}

-- one more number: where it passes the first test it passes the second
cond_le : (t u : Bool) (x y : ℕ) → (t ≡ true → u ≡ true) → x ≤ y → cond t (suc x) x ≤ cond u (suc y) y
cond_le true true x y f l = omega arith
cond_le true false x y f l = absurd (false≢true (f refl))
cond_le false true x y f l = omega arith
cond_le false false x y f l = l

-- the same, with fewer before
cond_lt : (t u : Bool) (x y : ℕ) → (t ≡ true → u ≡ true) → x < y → cond t (suc x) x < cond u (suc y) y
cond_lt true true x y f l = omega arith
cond_lt true false x y f l = absurd (false≢true (f refl))
cond_lt false true x y f l = omega arith
cond_lt false false x y f l = l

-- it passes the second test alone
cond_here : (t u : Bool) (x y : ℕ) → t ≡ false → u ≡ true → x ≤ y → cond t (suc x) x < cond u (suc y) y
cond_here true u x y e f l = absurd (true≢false e)
cond_here false true x y e f l = omega arith
cond_here false false x y e f l = absurd (false≢true f)

-- it may pass the first alone, with no more before
cond_more : (t u : Bool) (x y : ℕ) → x ≤ y → cond t (suc x) x ≤ suc (cond u (suc y) y)
cond_more true true x y l = omega arith
cond_more true false x y l = omega arith
cond_more false true x y l = omega arith
cond_more false false x y l = omega arith

-- where it passes the first it passes the second, with one more before
cond_one : (t u : Bool) (x y : ℕ) → (t ≡ true → u ≡ true) → x ≤ suc y → cond t (suc x) x ≤ suc (cond u (suc y) y)
cond_one true true x y f l = omega arith
cond_one true false x y f l = absurd (false≢true (f refl))
cond_one false true x y f l = omega arith
cond_one false false x y f l = l

module _ (test more : ℕ → Bool) where
  -- as many or more pass a test that is passed by all that pass another
  pub size_le : (n : ℕ) → ((x : ℕ) → x < n → test x ≡ true → more x ≡ true) → size test n ≤ size more n
  size_le zero f = omega arith
  size_le (suc m) f = cond_le (test m) (more m) _ _ (f m (omega arith)) (size_le m (λ x l. f x (omega arith)))

  -- and more, where one passes it alone
  pub size_lt :
      (n : ℕ) → ((x : ℕ) → x < n → test x ≡ true → more x ≡ true) → (r : ℕ) → r < n → test r ≡ false → more r ≡ true → size test n < size more n
  size_lt zero f r l z e = absurd (omega arith)
  size_lt (suc m) f r l z e =
      elim (cases_eq r m) [
        | inl i ↦
            cond_here (test m) (more m) _ _ (subst (λ x. test x ≡ false) i z) (subst (λ x. more x ≡ true) i e)
            (size_le m (λ x l. f x (omega arith)))
        | inr i ↦ cond_lt (test m) (more m) _ _ (f m (omega arith)) (size_lt m (λ x l. f x (omega arith)) r (omega arith) z e)
      ]

  -- where all but a that pass the first pass the second, at most one more passes the first
  pub size_one : (n a : ℕ) → ((x : ℕ) → x < n → x ≢ a → test x ≡ true → more x ≡ true) → size test n ≤ suc (size more n)
  size_one zero a f = omega arith
  size_one (suc m) a f =
      elim (cases_eq m a) [
        | inl i ↦ cond_more (test m) (more m) _ _ (size_le m (λ x l. f x (omega arith) (omega arith)))
        | inr i ↦ cond_one (test m) (more m) _ _ (f m (omega arith) i) (size_one m a (λ x l. f x (omega arith)))
      ]

-- all below n are n
pub size_all : (n : ℕ) → size (λ x. true) n ≡ n
size_all zero = refl
size_all (suc m) = ap suc (size_all m)

-- and none of them are 0
pub size_none : (n : ℕ) → size (λ x. false) n ≡ 0
size_none zero = refl
size_none (suc m) = size_none m
