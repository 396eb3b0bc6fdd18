-- Linkedness is decided by intermediate vertices, so that every step and every run can be made.
use Rattle.std.proofs.Common.{◌≡◌, ℕ, zero, suc, ◌<◌, Bool, true, not, eqb, ◌⊎◌, ◌↔◌, List, [], ◌∷◌, refl, subst, inl, inr, arith}
use Rattle.std.proofs.lemmas.Bool.{cases_Bool, cases_eq, eqb-false, ne_eqb, or_cases, or_left, or_right, and_parts, and_from, not-true, not_from_false}
use Rattle.graph.specs.Graphs.{Graph, Simple, Walk, edge, step, Outside, Laid, Lays}
use Rattle.graph.specs.Links.{link, outside, laying}
use Rattle.graph.proofs.Walks.{append, carry, short, shortfall}
use Rattle.graph.proofs.Steps.{laid_simple}

module _ (g : Graph) (test : ℕ → Bool) where
  -- c is below k and passes
  abbrev pub Passes : ℕ → ℕ → Type 0
  Passes k c = (c < k) × (test c ≡ true)

  -- a walk by vertices below k is one by vertices below k + 1
  widen : {k a b : ℕ} → Walk g (Passes k) a b → Walk g (Passes (suc k)) a b
  widen w = carry (λ a b e. e) (λ c o. (omega (arith, o.0), o.1)) w

  -- linked vertices are joined by a walk
  pub link_walk : (k a b : ℕ) → link g test k a b ≡ true → Walk g (Passes k) a b
  link_walk zero a b e = edge e
  link_walk (suc k) a b e =
      elim (or_cases (link g test k a b) _ e) [
        | inl f ↦ widen (link_walk k a b f)
        | inr f ↦
            let p = and_parts (test k) _ f in
            let q = and_parts (link g test k a k) (link g test k k b) p.1 in
            append (widen (link_walk k a k q.0)) (omega arith, p.0) (widen (link_walk k k b q.1))
      ]

  -- a walk does without k, or goes to k and from k without k between
  split : (k : ℕ) {a b : ℕ} → Walk g (Passes (suc k)) a b → Walk g (Passes k) a b ⊎ (Walk g (Passes k) a k × (test k ≡ true) × Walk g (Passes k) k b)
  split k (edge e) = inl (edge e)
  split k {a} {b} (step {c = c} e o r) =
      elim (cases_eq c k) [
        | inl m ↦
            let t : test k ≡ true = subst (λ x. test x ≡ true) m o.1 in
            let f = subst (λ x. Walk g (Passes k) a x) m (edge e) in
            elim (split k r) [
              | inl w ↦ inr (f, t, subst (λ x. Walk g (Passes k) x b) m w)
              | inr w ↦ inr (f, t, w.2)
            ]
        | inr d ↦
            let l : Passes k c = (omega (arith, o.0), o.1) in
            elim (split k r) [ inl w ↦ inl (step e l w) | inr w ↦ inr (step e l w.0, w.1, w.2) ]
      ]

  -- vertices that a walk joins are linked
  pub walk_link : (k a b : ℕ) → Walk g (Passes k) a b → link g test k a b ≡ true
  walk_link zero a b (edge e) = e
  walk_link zero a b (step e o r) = absurd (omega (arith, o.0))
  walk_link (suc k) a b w =
      elim (split k w) [
        | inl v ↦ or_left (link g test k a b) _ (walk_link k a b v)
        | inr v ↦
            or_right (link g test k a b) _
            (and_from (test k) _ v.1 (and_from (link g test k a k) _ (walk_link k a k v.0) (walk_link k k b v.2)))
      ]

  -- so linkedness decides whether there is a walk
  pub link_iff : (k a b : ℕ) → (link g test k a b ≡ true) ↔ Walk g (Passes k) a b
  link_iff k a b = (link_walk k a b, walk_link k a b)

module _ {n : ℕ} {g : Graph} (s : Simple n g) where
  -- the test of being outside v
  outside_true : (v c : ℕ) → outside g v c ≡ true → Outside g v c
  outside_true v c e =
      let p = and_parts (not (eqb c v)) (not (g v c)) e in
      (eqb-false c v (not-true _ p.0), not-true _ p.1)

  -- and the other way
  true_outside : (v c : ℕ) → Outside g v c → outside g v c ≡ true
  true_outside v c o = and_from (not (eqb c v)) (not (g v c)) (not_from_false _ (ne_eqb c v o.0)) (not_from_false _ o.1)

  -- the inner vertices of a walk are below n
  passes : (v : ℕ) {a b : ℕ} → Walk g (Outside g v) a b → Walk g (Passes g (outside g v) n) a b
  passes v (edge e) = edge e
  passes v (step e o r) = step e (s.within _ _ e, true_outside v _ o) (passes v r)

  -- a step as a Boolean function lays the shortfalls
  pub laying_laid : (v : ℕ) → Laid g v (laying n g v)
  laying_laid v a b = (
    λ e. elim (cases_Bool (g a b)) [
      | inl y ↦ inl y
      | inr z ↦
          elim (or_cases (g a b) _ e) [
            | inl y ↦ inl y
            | inr f ↦
                let p = and_parts (not (eqb a b)) _ f in
                let q = and_parts (g v a) _ p.1 in
                let r = and_parts (g v b) _ q.1 in
                inr
                (shortfall s
                (record {
                  apart = eqb-false a b (not-true _ p.0);
                  gap = z;
                  left = q.0;
                  right = r.0;
                  walk = carry (λ a b e. e) (λ c o. outside_true v c o.1) (link_walk g (outside g v) n a b r.1);
                }))
          ]
    ],
    λ o. elim o [
      | inl y ↦ or_left (g a b) _ y
      | inr f ↦
          let w = short s f in
          or_right (g a b) _
          (and_from _ _ (not_from_false _ (ne_eqb a b w.apart))
          (and_from _ _ w.left (and_from _ _ w.right (walk_link g (outside g v) n a b (passes v w.walk)))))
    ],
  )

-- a run along a list
pub run : {n : ℕ} (vs : List ℕ) {g : Graph} → Simple n g → (h : Graph) × Lays g vs h
run [] {g} s = (g, λ a b. refl)
run {n} (v ∷ vs) {g} s =
    let l = laying_laid s v in
    let r = run vs (laid_simple s l) in
    (r.0, (laying n g v, l, r.1))
