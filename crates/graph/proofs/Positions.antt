-- Sets of positions keep the laws of labels.
use Rattle.std.proofs.Common.{◌≡◌, ℕ, zero, suc, ◌<◌, Bool, true, false, cond, eqb, ◌⊎◌, List, [], ◌∷◌, length, refl, subst, inl, inr, arith}
use Rattle.std.proofs.lemmas.Bool.{both_ways, cases_eq, eq-eqb, eqb-true, or_cases, or_left, or_right, false≢true, true≢false}
use Rattle.graph.specs.Graphs.{member}
use Rattle.graph.specs.Search.{Falling, none, next, Kept, empty, keep, drop, raised, LabelLaws}
use Rattle.graph.specs.Kinds.{Positions, no_position, with_position, agree, lower, lesser}
use Rattle.graph.proofs.Walks.{gap_by}

-- one position of two sets compared, and the positions below it
abbrev compared : Bool → Bool → Bool → Bool
compared a b p = cond (agree a b) p b

-- equal at the position, and not less below
same_compared : (a p : Bool) → p ≡ false → compared a a p ≡ false
same_compared true p e = e
same_compared false p e = e

-- three sets at the position
three_compared :
    (a b c p q r : Bool) → (p ≡ true → q ≡ true → r ≡ true) → compared a b p ≡ true → compared b c q ≡ true → compared a c r ≡ true
three_compared true true true p q r f x y = f x y
three_compared true true false p q r f x y = absurd (false≢true y)
three_compared true false c p q r f x y = absurd (false≢true x)
three_compared false true true p q r f x y = refl
three_compared false true false p q r f x y = absurd (false≢true y)
three_compared false false true p q r f x y = refl
three_compared false false false p q r f x y = f x y

-- where the second set holds what the first does, less below is less
more_compared : (a b p : Bool) → (a ≡ true → b ≡ true) → p ≡ true → compared a b p ≡ true
more_compared true true p f e = e
more_compared true false p f e = absurd (false≢true (f refl))
more_compared false true p f e = refl
more_compared false false p f e = e

-- where the second set alone holds the position, the first is less
here_compared : (a b p : Bool) → a ≡ false → b ≡ true → compared a b p ≡ true
here_compared true b p x y = absurd (true≢false x)
here_compared false true p x y = refl
here_compared false false p x y = absurd (false≢true y)

-- no set is less than itself
lower_same : (k : ℕ) (x : Positions) → lower k x x ≡ false
lower_same zero x = refl
lower_same (suc k) x = same_compared (x k) _ (lower_same k x)

-- less is transitive
lower_through : (k : ℕ) (x y z : Positions) → lower k x y ≡ true → lower k y z ≡ true → lower k x z ≡ true
lower_through zero x y z p q = p
lower_through (suc k) x y z p q = three_compared (x k) (y k) (z k) _ _ _ (lower_through k x y z) p q

-- a set inside another that lacks one of its positions is less
lower_inside : (k : ℕ) (x y : Positions) → ((q : ℕ) → x q ≡ true → y q ≡ true) → (d : ℕ) → d < k → x d ≡ false → y d ≡ true → lower k x y ≡ true
lower_inside zero x y f d l z e = absurd (omega arith)
lower_inside (suc k) x y f d l z e =
    elim (cases_eq d k) [
      | inl i ↦ here_compared (x k) (y k) _ (subst (λ q. x q ≡ false) i z) (subst (λ q. y q ≡ true) i e)
      | inr i ↦ more_compared (x k) (y k) _ (f k) (lower_inside k x y f d (omega arith) z e)
    ]

-- a raised set holds what it held and what raised it
held : (xs : List ℕ) (x : Positions) (k : ℕ) → raised with_position x xs k ≡ true → (x k ≡ true) ⊎ (member k xs ≡ true)
held [] x k e = inl e
held (q ∷ xs) x k e =
    elim (held xs (with_position x q) k e) [
      | inl y ↦ elim (or_cases (eqb k q) (x k) y) [ inl z ↦ inr (or_left (eqb k q) _ z) | inr z ↦ inl z ]
      | inr y ↦ inr (or_right (eqb k q) _ y)
    ]

-- and nothing else is needed
holds : (xs : List ℕ) (x : Positions) (k : ℕ) → (x k ≡ true) ⊎ (member k xs ≡ true) → raised with_position x xs k ≡ true
holds [] x k d = elim d [ inl y ↦ y | inr y ↦ absurd (false≢true y) ]
holds (q ∷ xs) x k d =
    holds xs (with_position x q) k
    (elim d [
      | inl y ↦ inl (or_right (eqb k q) _ y)
      | inr y ↦ elim (or_cases (eqb k q) (member k xs) y) [ inl z ↦ inl (or_left (eqb k q) _ z) | inr z ↦ inr z ]
    ])

-- what a kept list has, the other has
kept_member : {xs ys : List ℕ} → Kept xs ys → (k : ℕ) → member k xs ≡ true → member k ys ≡ true
kept_member empty k m = m
kept_member (keep {x = x} {xs = xs} r) k m =
    elim (or_cases (eqb k x) (member k xs) m) [ inl e ↦ or_left (eqb k x) _ e | inr e ↦ or_right (eqb k x) _ (kept_member r k e) ]
kept_member (drop {y = y} r) k m = or_right (eqb k y) _ (kept_member r k m)

-- what a falling list has is below its bound
falling_member : {top : ℕ} {xs : List ℕ} → Falling top xs → (k : ℕ) → member k xs ≡ true → k < top
falling_member none k m = absurd (false≢true m)
falling_member (next {x = x} {xs = xs} l r) k m =
    elim (or_cases (eqb k x) (member k xs) m) [
      | inl e ↦ omega (arith, eqb-true k x e)
      | inr e ↦ omega (arith, falling_member r k e)
    ]

-- where a falling list has some left out, one that is
left_out :
    {xs ys : List ℕ} → Kept xs ys → (top : ℕ) → Falling top ys → length xs < length ys → (d : ℕ) × (d < top) × (member d ys ≡ true) × (member d xs ≡ false)
left_out empty top f l = absurd (omega arith)
left_out (keep {x = x} {xs = xs} r) top (next b f) l =
    let i = left_out r x f (omega arith) in
    let d = i.1 in (
      i.0,
      omega arith,
      or_right (eqb i.0 x) _ i.2,
      gap_by (λ m. elim (or_cases (eqb i.0 x) (member i.0 xs) m) [
        | inl e ↦ omega (arith, eqb-true i.0 x e)
        | inr e ↦ both_ways _ i.3 e
      ]),
    )
left_out (drop {y = y} {xs = xs} r) top (next b f) l = (
  y,
  b,
  or_left (eqb y y) _ (eq-eqb y y refl),
  gap_by (λ m. omega (arith, falling_member f y (kept_member r y m))),
)

-- the laws
pub position_laws : LabelLaws no_position with_position lesser
position_laws =
    record {
      irreflexive = lower_same 256;
      transitive = lower_through 256;
      inclusion = λ xs ys f g k l.
          let i = left_out k 256 g l in
          lower_inside 256 _ _
          (λ q e. holds ys no_position q (elim (held xs no_position q e) [ inl y ↦ absurd (false≢true y) | inr y ↦ inr (kept_member k q y) ]))
          i.0 i.1
          (gap_by (λ e. elim (held xs no_position i.0 e) [ inl y ↦ false≢true y | inr y ↦ both_ways _ i.3 y ]))
          (holds ys no_position i.0 (inr i.2));
    }
