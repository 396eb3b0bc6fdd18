-- Bounded searches: a number below n that passes a test, the lowest, the highest, and one that no other exceeds.
use Rattle.std.proofs.Common.{◌≡◌, ℕ, zero, suc, ◌<◌, ◌≤◌, Bool, true, false, ◌&&◌, ltb, ◌⊎◌, sym, refl, subst, inl, inr, arith}
use Rattle.std.proofs.lemmas.Bool.{both_ways, cases_Bool, cases_eq, and_parts, and_from, lt-ltb, ltb-true, ltb-false, le-ltb}
use Rattle.graph.proofs.Walks.{gap_by, edge_by}

-- the lowest below n that passes, or none does
pub least : (test : ℕ → Bool) (n : ℕ) → ((x : ℕ) × (x < n) × (test x ≡ true) × ((y : ℕ) → y < x → test y ≡ false)) ⊎ ((x : ℕ) → x < n → test x ≡ false)
least test zero = inr (λ x b. absurd (omega arith))
least test (suc n) =
    elim (least test n) [
      | inl f ↦ inl (f.0, omega (arith, f.1), f.2, f.3)
      | inr f ↦
          elim (cases_Bool (test n)) [
            | inl e ↦ inl (n, omega arith, e, f)
            | inr e ↦ inr (λ x b. elim (cases_eq x n) [ inl m ↦ subst (λ y. test y ≡ false) (sym m) e | inr d ↦ f x (omega arith) ])
          ]
    ]

-- one below n that passes, or none does
pub find : (test : ℕ → Bool) (n : ℕ) → ((x : ℕ) × (x < n) × (test x ≡ true)) ⊎ ((x : ℕ) → x < n → test x ≡ false)
find test n = elim (least test n) [ inl f ↦ inl (f.0, f.1, f.2) | inr f ↦ inr f ]

-- of those below n that pass, one that no other exceeds, or none passes
pub peak :
    (test : ℕ → Bool) (over : ℕ → ℕ → Bool) → ((x : ℕ) → over x x ≡ false) → ((x y z : ℕ) → over x y ≡ true → over y z ≡ true → over x z ≡ true) → (n : ℕ) →
    ((a : ℕ) × (a < n) × (test a ≡ true) × ((w : ℕ) → w < n → test w ≡ true → over a w ≡ false)) ⊎ ((w : ℕ) → w < n → test w ≡ false)
peak test over irr tra zero = inr (λ w l. absurd (omega arith))
peak test over irr tra (suc m) =
    elim (cases_Bool (test m)) [
      | inr z ↦
          elim (peak test over irr tra m) [
            | inl b ↦
                inl (
                  b.0,
                  omega (arith, b.1),
                  b.2,
                  λ w l t. elim (cases_eq w m) [ inl e ↦ absurd (both_ways _ z (subst (λ x. test x ≡ true) e t)) | inr d ↦ b.3 w (omega arith) t ],
                )
            | inr b ↦ inr (λ w l. elim (cases_eq w m) [ inl e ↦ subst (λ x. test x ≡ false) (sym e) z | inr d ↦ b w (omega arith) ])
          ]
      | inl y ↦
          elim (peak test over irr tra m) [
            | inr b ↦
                inl (
                  m,
                  omega arith,
                  y,
                  λ w l t. elim (cases_eq w m) [
                    | inl e ↦ subst (λ x. over m x ≡ false) (sym e) (irr m)
                    | inr d ↦ absurd (both_ways _ (b w (omega arith)) t)
                  ],
                )
            | inl b ↦
                elim (cases_Bool (over b.0 m)) [
                  | inr q ↦
                      inl (
                        b.0,
                        omega (arith, b.1),
                        b.2,
                        λ w l t. elim (cases_eq w m) [
                          | inl e ↦ subst (λ x. over b.0 x ≡ false) (sym e) q
                          | inr d ↦ b.3 w (omega arith) t
                        ],
                      )
                  | inl q ↦
                      inl (
                        m,
                        omega arith,
                        y,
                        λ w l t. elim (cases_eq w m) [
                          | inl e ↦ subst (λ x. over m x ≡ false) (sym e) (irr m)
                          | inr d ↦ gap_by (λ k. both_ways _ (b.3 w (omega arith) t) (tra _ _ _ q k))
                        ],
                      )
                ]
          ]
    ]

-- the highest below n that passes, or none does
pub greatest :
    (test : ℕ → Bool) (n : ℕ) → ((a : ℕ) × (a < n) × (test a ≡ true) × ((w : ℕ) → w < n → test w ≡ true → w ≤ a)) ⊎ ((w : ℕ) → w < n → test w ≡ false)
greatest test n =
    elim
    (peak test ltb (λ x. le-ltb x x (omega arith)) (λ x y z k l. lt-ltb x z (omega (arith, ltb-true x y k, ltb-true y z l))) n) [
      | inl b ↦ inl (b.0, b.1, b.2, λ w l t. ltb-false b.0 w (b.3 w l t))
      | inr b ↦ inr b
    ]

-- of those below n that pass, the lowest that no other exceeds, where one passes
pub pick :
    (test : ℕ → Bool) (over : ℕ → ℕ → Bool) → ((x : ℕ) → over x x ≡ false) → ((x y z : ℕ) → over x y ≡ true → over y z ≡ true → over x z ≡ true) → (n : ℕ) →
    ((w : ℕ) × (w < n) × (test w ≡ true)) →
    (a : ℕ) × (a < n) × (test a ≡ true) × ((w : ℕ) → w < n → test w ≡ true → over a w ≡ false) ×
    ((w : ℕ) → w < a → test w ≡ true → (r : ℕ) × (r < n) × (test r ≡ true) × (over w r ≡ true))
pick test over irr tra n any =
    elim (peak test over irr tra n) [
      | inr b ↦ absurd (both_ways _ (b any.0 any.1) any.2)
      | inl b ↦
          elim (least top n) [
            | inr f ↦ absurd (both_ways _ (f b.0 b.1) (top_by b.0 b.2 b.3))
            | inl f ↦
                let p = top_is f.0 f.2 in
                (f.0, f.1, p.0, p.1, λ w l t. not_top w t (f.3 w l))
          ]
    ]
  where
    -- does r pass and exceed w?
    above : ℕ → ℕ → Bool
    above w r = test r && over w r

    -- a number below n that does, or none
    raised_by : (w : ℕ) → ((r : ℕ) × (r < n) × (above w r ≡ true)) ⊎ ((r : ℕ) → r < n → above w r ≡ false)
    raised_by w = find (above w) n

    -- is it the second?
    free : {A B : Type 0} → A ⊎ B → Bool
    free (inl x) = false
    free (inr x) = true

    free_true : {A B : Type 0} (s : A ⊎ B) → free s ≡ true → B
    free_true (inl x) e = absurd (both_ways _ refl e)
    free_true (inr x) e = x

    free_false : {A B : Type 0} (s : A ⊎ B) → free s ≡ false → A
    free_false (inl x) e = x
    free_false (inr x) e = absurd (both_ways _ e refl)

    -- does w pass, and no other exceed it?
    top : ℕ → Bool
    top w = test w && free (raised_by w)

    top_by : (w : ℕ) → test w ≡ true → ((r : ℕ) → r < n → test r ≡ true → over w r ≡ false) → top w ≡ true
    top_by w t f =
        and_from _ _ t
        (edge_by (λ z.
        let i = free_false (raised_by w) z in
        let j = and_parts (test i.0) (over w i.0) i.2 in
        both_ways _ (f i.0 i.1 j.0) j.1))

    top_is : (w : ℕ) → top w ≡ true → (test w ≡ true) × ((r : ℕ) → r < n → test r ≡ true → over w r ≡ false)
    top_is w e =
        let p = and_parts (test w) _ e in
        (p.0, λ r l t. gap_by (λ y. both_ways _ (free_true (raised_by w) p.1 r l) (and_from _ _ t y)))

    not_top : (w : ℕ) → test w ≡ true → top w ≡ false → (r : ℕ) × (r < n) × (test r ≡ true) × (over w r ≡ true)
    not_top w t z =
        let i = free_false (raised_by w) (gap_by (λ y. both_ways _ z (and_from _ _ t y))) in
        let j = and_parts (test i.0) (over w i.0) i.2 in
        (i.0, i.1, j.0, j.1)
