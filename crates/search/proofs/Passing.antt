-- The positions that a label is raised by, when one more position is filled.
use Rattle.std.proofs.Common.{◌≡◌, ℕ, zero, suc, ◌<◌, ◌≤◌, Bool, true, false, cond, ◌&&◌, ltb, List, [], ◌∷◌, sym, refl, ap, ◌∙◌, subst, inl, inr, arith}
use Rattle.std.proofs.lemmas.Bool.{cases_eq, and_left, lt-ltb, le-ltb}
use Rattle.graph.specs.Graphs.{Graph, at}
use Rattle.graph.specs.Search.{raised, passing, label_before}
use Rattle.graph.proofs.Searches.{passing_same}

pub passing_none : (t : ℕ → Bool) (p n : ℕ) → n ≤ suc p → passing t p n ≡ []
passing_none t p zero h = refl
passing_none t p (suc m) h =
    ap (λ b. cond b (m ∷ passing t p m) (passing t p m)) (and_left (ltb p m) (t m) (le-ltb p m (omega arith))) ∙ passing_none t p m (omega arith)

module _ {L : Type 0} (raise : L → ℕ → L) where
  raised_cond : (b : Bool) (l : L) (m : ℕ) (xs : List ℕ) → raised raise l (cond b (m ∷ xs) xs) ≡ raised raise (cond b (raise l m) l) xs
  raised_cond true l m xs = refl
  raised_cond false l m xs = refl

  -- position suc p is the last that is raised by
  pub raised_next :
      (t : ℕ → Bool) (p n : ℕ) → suc p < n → (l : L) →
      raised raise l (passing t p n) ≡ cond (t (suc p)) (raise (raised raise l (passing t (suc p) n)) (suc p)) (raised raise l (passing t (suc p) n))
  raised_next t p zero h l = absurd (omega arith)
  raised_next t p (suc m) h l =
      elim (cases_eq (suc p) m) [
        | inl e ↦ subst (λ m. Goal m) e here
        | inr d ↦ further (omega arith) (λ x. raised_next t p m (omega arith) x)
      ]
    where
      Goal : ℕ → Type 0
      Goal m = raised raise l (passing t p (suc m)) ≡ cond (t (suc p)) (raise (raised raise l (passing t (suc p) (suc m))) (suc p)) (raised raise l (passing t (suc p) (suc m)))

      here : Goal (suc p)
      here =
          let z = passing_none t p (suc p) (omega arith) in
          let y = passing_none t (suc p) (suc (suc p)) (omega arith) in
          raised_cond (ltb p (suc p) && t (suc p)) l (suc p) (passing t p (suc p))
          ∙ ap (λ xs. raised raise (cond (ltb p (suc p) && t (suc p)) (raise l (suc p)) l) xs) z
          ∙ ap (λ b. cond (b && t (suc p)) (raise l (suc p)) l) (lt-ltb p (suc p) (omega arith))
          ∙ sym (ap (λ xs. cond (t (suc p)) (raise (raised raise l xs) (suc p)) (raised raise l xs)) y)

      further :
          suc p < m →
          ((x : L) → raised raise x (passing t p m) ≡ cond (t (suc p)) (raise (raised raise x (passing t (suc p) m)) (suc p)) (raised raise x (passing t (suc p) m))) →
          Goal m
      further k rec =
          let b : (ltb p m && t m) ≡ (ltb (suc p) m && t m) = ap (λ x. x && t m) (lt-ltb p m (omega arith) ∙ sym (lt-ltb (suc p) m k)) in
          raised_cond (ltb p m && t m) l m (passing t p m)
          ∙ ap (λ x. raised raise (cond x (raise l m) l) (passing t p m)) b
          ∙ rec (cond (ltb (suc p) m && t m) (raise l m) l)
          ∙ ap (λ x. cond (t (suc p)) (raise x (suc p)) x) (sym (raised_cond (ltb (suc p) m && t m) l m (passing t (suc p) m)))

-- a label depends on the later positions alone
pub label_same :
    {L : Type 0} (blank : L) (raise : L → ℕ → L) (n : ℕ) (g : Graph) (o r : List ℕ) (p v : ℕ) → ((q : ℕ) → p < q → q < n → at o q ≡ at r q) →
    label_before blank raise n g o p v ≡ label_before blank raise n g r p v
label_same blank raise n g o r p v f = ap (λ xs. raised raise blank xs) (passing_same _ _ p n (λ q l b. ap (λ x. g v x) (f q l b)))
