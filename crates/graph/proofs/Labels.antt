-- Falling lists, lists kept from others, the positions that pass a test, and labels that count.
use Rattle.std.proofs.Common.{◌≡◌, ℕ, zero, suc, ◌+◌, ◌<◌, ◌≤◌, Bool, true, false, cond, ◌&&◌, ltb, List, [], ◌∷◌, length, sym, refl, ap, ◌∙◌, subst, ap₂, inl, inr, arith}
use Rattle.std.proofs.lemmas.Bool.{both_ways, cases_Bool, cases_order, and_parts, and_from, ltb-true, lt-ltb, le-ltb, false≢true, true≢false}
use Rattle.graph.specs.Search.{Falling, none, next, Kept, empty, keep, drop, raised, LabelLaws, passing}
use Rattle.graph.proofs.Walks.{gap_by}

-- a falling list is no longer than its bound
pub falling_length : {top : ℕ} {xs : List ℕ} → Falling top xs → length xs ≤ top
falling_length none = omega arith
falling_length (next l r) = let i = falling_length r in omega arith

-- a falling list is below every higher bound
pub falling_below : {m : ℕ} {xs : List ℕ} → Falling m xs → (k : ℕ) → m ≤ k → Falling k xs
falling_below none k b = none
falling_below (next l r) k b = next (omega arith) r

-- and falls with the bound put in front, or not
falling_cond : (t : Bool) (m : ℕ) (xs : List ℕ) → Falling m xs → Falling (suc m) (cond t (m ∷ xs) xs)
falling_cond true m xs f = next (omega arith) f
falling_cond false m xs f = falling_below f (suc m) (omega arith)

-- the positions that pass fall
pub passing_falling : (test : ℕ → Bool) (p n : ℕ) → Falling n (passing test p n)
passing_falling test p zero = none
passing_falling test p (suc m) = falling_cond (ltb p m && test m) m _ (passing_falling test p m)

-- a list kept from another is no longer
kept_length : {xs ys : List ℕ} → Kept xs ys → length xs ≤ length ys
kept_length empty = omega arith
kept_length (keep k) = let i = kept_length k in omega arith
kept_length (drop k) = let i = kept_length k in omega arith

-- one position more: where it passes the first test it passes the second
kept_cond : (t u : Bool) (m : ℕ) (xs ys : List ℕ) → (t ≡ true → u ≡ true) → Kept xs ys → Kept (cond t (m ∷ xs) xs) (cond u (m ∷ ys) ys)
kept_cond true true m xs ys f k = keep k
kept_cond true false m xs ys f k = absurd (false≢true (f refl))
kept_cond false true m xs ys f k = drop k
kept_cond false false m xs ys f k = k

-- the same, with fewer before
fewer_cond :
    (t u : Bool) (m : ℕ) (xs ys : List ℕ) → (t ≡ true → u ≡ true) → length xs < length ys → length (cond t (m ∷ xs) xs) < length (cond u (m ∷ ys) ys)
fewer_cond true true m xs ys f k = omega arith
fewer_cond true false m xs ys f k = absurd (false≢true (f refl))
fewer_cond false true m xs ys f k = omega arith
fewer_cond false false m xs ys f k = k

-- it passes the second test alone
fewer_here : (t u : Bool) (m : ℕ) (xs ys : List ℕ) → t ≡ false → u ≡ true → length xs ≤ length ys → length (cond t (m ∷ xs) xs) < length (cond u (m ∷ ys) ys)
fewer_here true u m xs ys e f k = absurd (true≢false e)
fewer_here false true m xs ys e f k = omega arith
fewer_here false false m xs ys e f k = absurd (false≢true f)

module _ (test more : ℕ → Bool) (p : ℕ) where
  -- the tests of one position
  both_more : (m : ℕ) → (p < m → test m ≡ true → more m ≡ true) → (ltb p m && test m) ≡ true → (ltb p m && more m) ≡ true
  both_more m f e =
      let i = and_parts (ltb p m) (test m) e in
      and_from (ltb p m) (more m) i.0 (f (ltb-true p m i.0) i.1)

  -- what passes a test is kept from what passes a wider one
  pub passing_kept : (n : ℕ) → ((q : ℕ) → p < q → q < n → test q ≡ true → more q ≡ true) → Kept (passing test p n) (passing more p n)
  passing_kept zero f = empty
  passing_kept (suc m) f =
      kept_cond _ _ m _ _ (both_more m (λ l. f m l (omega arith))) (passing_kept m (λ q l b. f q l (omega arith)))

  -- and is shorter, where one passes the wider one alone
  pub passing_fewer :
      (n : ℕ) → ((q : ℕ) → p < q → q < n → test q ≡ true → more q ≡ true) → (r : ℕ) → p < r → r < n → test r ≡ false → more r ≡ true →
      length (passing test p n) < length (passing more p n)
  passing_fewer zero f r l b z e = absurd (omega arith)
  passing_fewer (suc m) f r l b z e =
      elim (cases_order r m) [
        | inl i ↦
            fewer_here _ _ m _ _
            (gap_by (λ y. both_ways _ (subst (λ k. test k ≡ false) i z) (and_parts (ltb p m) (test m) y).1))
            (and_from (ltb p m) (more m) (lt-ltb p m (omega arith)) (subst (λ k. more k ≡ true) i e))
            (kept_length (passing_kept m (λ q l b. f q l (omega arith))))
        | inr i ↦
            elim i [
              | inl j ↦
                  fewer_cond _ _ m _ _ (both_more m (λ l. f m l (omega arith))) (passing_fewer m (λ q l b. f q l (omega arith)) r l j z e)
              | inr j ↦ absurd (omega arith)
            ]
      ]

-- tests that agree above p let the same positions pass
pub passing_same : (t u : ℕ → Bool) (p n : ℕ) → ((q : ℕ) → p < q → q < n → t q ≡ u q) → passing t p n ≡ passing u p n
passing_same t u p zero f = refl
passing_same t u p (suc m) f =
    ap₂ (λ (b : Bool) (xs : List ℕ). cond b (m ∷ xs) xs) here (passing_same t u p m (λ q l k. f q l (omega arith)))
  where
    here : (ltb p m && t m) ≡ (ltb p m && u m)
    here =
        elim (cases_Bool (ltb p m)) [
          | inl e ↦ ap (λ b. ltb p m && b) (f m (ltb-true p m e) (omega arith))
          | inr e ↦ ap (λ b. b && t m) e ∙ ap (λ b. b && u m) (sym e)
        ]

-- a label that counts
counted : (xs : List ℕ) (l : ℕ) → raised (λ (l q : ℕ). suc l) l xs ≡ l + length xs
counted [] l = omega arith
counted (x ∷ xs) l = let i = counted xs (suc l) in omega arith

-- is greater for a longer list
pub count_less : (xs ys : List ℕ) → length xs < length ys → ltb (raised (λ (l q : ℕ). suc l) 0 xs) (raised (λ (l q : ℕ). suc l) 0 ys) ≡ true
count_less xs ys l = lt-ltb _ _ (omega (arith, counted xs 0, counted ys 0))

-- and keeps the laws of labels
pub count_laws : LabelLaws 0 (λ (l q : ℕ). suc l) ltb
count_laws =
    record {
      irreflexive = λ x. le-ltb x x (omega arith);
      transitive = λ x y z k l. lt-ltb x z (omega (arith, ltb-true x y k, ltb-true y z l));
      inclusion = λ xs ys f g k l. count_less xs ys l;
    }
