-- What passes a test, station by station and row by row.
use Rattle.std.proofs.Common.{◌≡◌, ℕ, ◌+◌, Bool, true, false, ◌&&◌, ◌||◌, eqb, ltb, sym, refl, ap, ◌∙◌, ap₂, inl, inr, arith}
use Rattle.std.proofs.lemmas.Bool.{cases_order, eq-eqb, ne_eqb, lt-ltb, le-ltb, and_right}

or_none : (x : Bool) → (x || false) ≡ x
or_none true = refl
or_none false = refl

-- one station more, which passes
pub joins : (test : ℕ → Bool) (i x : ℕ) → test i ≡ true → (eqb x i || (ltb x i && test x)) ≡ (ltb x (i + 1) && test x)
joins test i x t =
    elim (cases_order x i) [
      | inl e ↦
          ap (λ z. z || (ltb x i && test x)) (eq-eqb x i e)
          ∙ sym (ap₂ (λ y z. y && z) (lt-ltb x (i + 1) (omega arith)) (ap test e ∙ t))
      | inr o ↦ elim o [
        | inl l ↦
            ap₂ (λ y z. y || (z && test x)) (ne_eqb x i (λ e. omega arith)) (lt-ltb x i l)
            ∙ ap (λ z. z && test x) (sym (lt-ltb x (i + 1) (omega arith)))
        | inr l ↦
            ap₂ (λ y z. y || (z && test x)) (ne_eqb x i (λ e. omega arith)) (le-ltb x i (omega arith))
            ∙ ap (λ z. z && test x) (sym (le-ltb x (i + 1) (omega arith)))
      ]
    ]

-- one station more, which does not
pub skips : (test : ℕ → Bool) (i x : ℕ) → test i ≡ false → (ltb x i && test x) ≡ (ltb x (i + 1) && test x)
skips test i x t =
    elim (cases_order x i) [
      | inl e ↦
          and_right (ltb x i) (test x) (ap test e ∙ t)
          ∙ sym (and_right (ltb x (i + 1)) (test x) (ap test e ∙ t))
      | inr o ↦ elim o [
        | inl l ↦ ap (λ z. z && test x) (lt-ltb x i l ∙ sym (lt-ltb x (i + 1) (omega arith)))
        | inr l ↦ ap (λ z. z && test x) (le-ltb x i (omega arith) ∙ sym (le-ltb x (i + 1) (omega arith)))
      ]
    ]
