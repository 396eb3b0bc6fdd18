-- The vertices that the way of a ring may go through: a, and those outside v.
use Rattle.std.proofs.Common.{◌≡◌, ℕ, ◌<◌, ◌≤◌, Bool, true, false, not, ◌&&◌, ◌||◌, eqb, ltb, ◌≢◌, ◌⊎◌, sym, refl, ap, ◌∙◌, subst, inl, inr, arith}
use Rattle.std.proofs.lemmas.Bool.{both_ways, eq-eqb, eqb-true, eqb-false, ne_eqb, and_from, and_parts, or_cases, or_left, or_right, not_from_false, not_from_true, not-true, lt-ltb, ltb-true}
use Rattle.graph.specs.Graphs.{Graph, Edge, Simple, Walk, edge, step, Outside, Short}
use Rattle.graph.proofs.Walks.{gap_by, reverse}
use Rattle.sets.specs.Sets.{size}
use Rattle.sets.proofs.Sizes.{size_lt, size_most}

module _ {n : ℕ} {g : Graph} (s : Simple n g) {v : ℕ} (ok : ℕ → Bool) (is_ok : (x : ℕ) → x < n → Outside g v x → ok x ≡ true) where
  narrow : {a b : ℕ} → Walk g (Outside g v) b a → Walk g (λ x. ok x ≡ true) b a
  narrow (edge e) = edge e
  narrow (step e o r) = step e (is_ok _ (s.within _ _ e) o) (narrow r)

-- a set that lacks two is two short
two_short : (ok : ℕ → Bool) (v b : ℕ) → v < 256 → b < 256 → v ≢ b → ok v ≡ false → ok b ≡ false → size ok 256 ≤ 254
two_short ok v b vl bl d zv zb =
    let more : ℕ → Bool = λ x. not (eqb x b) in
    let p = size_lt ok more 256 (λ x l t. not_from_false _ (ne_eqb x b (λ e. both_ways _ zb (subst (λ z. ok z ≡ true) e t)))) v vl zv (not_from_false _ (ne_eqb v b d)) in
    let q = size_lt more (λ x. true) 256 (λ x l t. refl) b bl (not_from_true _ (eq-eqb b b refl)) refl in
    let m = size_most (λ x. true) 256 in
    omega arith

-- a way from b to a may go through these
pub record Passable (n : ℕ) (g : Graph) (v a b : ℕ) (ok : ℕ → Bool) : Type 0 where
  pub holds : ok a ≡ true
  pub lacks : ok b ≡ false
  pub inside : (x : ℕ) → ok x ≡ true → (x ≡ a) ⊎ ((x < n) × Outside g v x)
  pub walk : Walk g (λ x. ok x ≡ true) b a
  pub few : size ok 256 ≤ 254

module _ {n : ℕ} {g : Graph} (s : Simple n g) {v a b : ℕ} (f : Short g v a b) (ok rem dif all near : ℕ → Bool)
    (e1 : (x : ℕ) → ok x ≡ (eqb x a || rem x)) (e2 : (x : ℕ) → rem x ≡ (not (eqb x v) && dif x))
    (e3 : (x : ℕ) → dif x ≡ (all x && not (near x))) (e4 : (x : ℕ) → all x ≡ ltb x n) (e5 : (x : ℕ) → near x ≡ g v x) where
  ok_a : ok a ≡ true
  ok_a = e1 a ∙ or_left _ _ (eq-eqb a a refl)

  rem_out : (x : ℕ) → rem x ≡ true → (x < n) × Outside g v x
  rem_out x t =
      let p = and_parts (not (eqb x v)) (dif x) (sym (e2 x) ∙ t) in
      let q = and_parts (all x) (not (near x)) (sym (e3 x) ∙ p.1) in
      (ltb-true x n (sym (e4 x) ∙ q.0), (eqb-false x v (not-true _ p.0), sym (e5 x) ∙ not-true _ q.1))

  ok_in : (x : ℕ) → ok x ≡ true → (x ≡ a) ⊎ ((x < n) × Outside g v x)
  ok_in x t = elim (or_cases (eqb x a) (rem x) (sym (e1 x) ∙ t)) [ inl e ↦ inl (eqb-true x a e) | inr e ↦ inr (rem_out x e) ]

  ok_out : (x : ℕ) → x < n → Outside g v x → ok x ≡ true
  ok_out x l o =
      e1 x ∙ or_right (eqb x a) _
      (e2 x ∙ and_from _ _ (not_from_false _ (ne_eqb x v o.0)) (e3 x ∙ and_from _ _ (e4 x ∙ lt-ltb x n l) (not_from_false _ (e5 x ∙ o.1))))

  ok_b : ok b ≡ false
  ok_b = gap_by (λ t. elim (ok_in b t) [ inl e ↦ f.apart (sym e) | inr o ↦ both_ways _ o.1.1 f.right ])

  not_v : {x : ℕ} → Edge g v x → v ≢ x
  not_v e m = both_ways _ (s.loopless v) (ap (λ y. g v y) m ∙ e)

  ok_v : ok v ≡ false
  ok_v = gap_by (λ t. elim (ok_in v t) [ inl e ↦ not_v f.left e | inr o ↦ o.1.0 refl ])

  pub passable : n ≤ 256 → Passable n g v a b ok
  passable l =
      let p = s.within _ _ (s.symmetric _ _ f.left) in
      let q = s.within _ _ f.right in
      record {
        holds = ok_a;
        lacks = ok_b;
        inside = ok_in;
        walk = narrow s ok ok_out (reverse s.symmetric f.walk);
        few = two_short ok v b (omega arith) (omega arith) (not_v f.right) ok_v ok_b;
      }
