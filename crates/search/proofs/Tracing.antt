-- A way through the layers, and the ring that it makes.
use Rattle.std.proofs.Common.{◌≡◌, ℕ, zero, suc, ◌-◌, ◌<◌, ◌≤◌, Bool, true, ◌≢◌, ◌⊎◌, ◌↔◌, List, [], ◌∷◌, ◌++◌, length, sym, refl, ap, ◌∙◌, subst, ap₂, inl, inr, arith, length-append}
use Rattle.std.proofs.lemmas.List.{get_or_push, get_or_append_left}
use Rattle.std.proofs.lemmas.Bool.{both_ways, cases_eq, cases_lt}
use Rattle.graph.specs.Graphs.{Graph, Edge, Simple, Outside, Short, at, Ring}
use Rattle.search.specs.Layers.{Layered, Traced}

pub traced_more :
    (g lay : Graph) (v a d m p : ℕ) (ring : List ℕ) (x y : ℕ) → Traced g lay v a d m ring → m ≡ suc p → m ≤ d →
    at ring (suc (d - m)) ≡ x → Edge g x y → lay p y ≡ true → Traced g lay v a d p (ring ++ y ∷ [])
traced_more g lay v a d m p ring x y t e md is j l =
    let long = t.long in
    record {
      long = simp length-append (omega arith);
      head = other 0 (omega arith) ∙ t.head;
      first = other 1 (omega arith) ∙ t.first;
      levels = λ i q s h. elim (cases_eq q p) [
        | inl z ↦
            let n : suc i ≡ suc (suc (d - m)) = omega arith in
            ap₂ lay z (ap (λ f. at (ring ++ y ∷ []) f) n ∙ here) ∙ l
        | inr z ↦ ap (λ f. lay q f) (other (suc i) (omega arith)) ∙ t.levels i q s (omega arith)
      ];
      joins = λ i h. elim (cases_eq (suc (suc i)) (suc (suc (d - m)))) [
        | inl z ↦
            let n : suc i ≡ suc (d - m) = omega arith in
            ap₂ g (other (suc i) (omega arith) ∙ ap (λ f. at ring f) n ∙ is) (ap (λ f. at (ring ++ y ∷ []) f) z ∙ here) ∙ j
        | inr z ↦ ap₂ g (other (suc i) (omega arith)) (other (suc (suc i)) (omega arith)) ∙ t.joins i (omega arith)
      ];
    }
  where
    here : at (ring ++ y ∷ []) (suc (suc (d - m))) ≡ y
    here = let long = t.long in get_or_push ring y 0 (suc (suc (d - m))) (omega arith)

    other : (f : ℕ) → f < length ring → at (ring ++ y ∷ []) f ≡ at ring f
    other f h = get_or_append_left ring (y ∷ []) 0 f h

abbrev Zero : Type 0
Zero = ◌≡◌ {A = ℕ} 0 0

module _ {n : ℕ} {g : Graph} (s : Simple n g) {v a b : ℕ} (f : Short g v a b) (ok : ℕ → Bool)
    (is_ok : (x : ℕ) → ok x ≡ true → (x ≡ a) ⊎ ((x < n) × Outside g v x)) {lay : Graph} {d : ℕ} (h : Layered g ok a b lay d)
    {ring : List ℕ} (t : Traced g lay v a d 0 ring) where
  abbrev y : ℕ → ℕ
  y i = at ring (suc i)

  y_start : y 0 ≡ a
  y_start = t.first

  level : (i : ℕ) → i ≤ d → lay (d - i) (y i) ≡ true
  level i l = t.levels i (d - i) (omega arith) (omega arith)

  y_end : y d ≡ b
  y_end =
      let e : d - d ≡ 0 = omega arith in
      h.start (y d) (subst (λ j. lay j (y d) ≡ true) e (level d (omega arith)))

  ok_at : (i : ℕ) → i < d → ok (y i) ≡ true
  ok_at i l =
      let e : d - i ≡ suc (d - suc i) = omega arith in
      h.inside (d - suc i) (y i) (omega arith) (subst (λ j. lay j (y i) ≡ true) e (level i (omega arith)))

  inner : (i : ℕ) → 0 < i → i < d → (y i < n) × Outside g v (y i)
  inner i p l =
      elim (is_ok (y i) (ok_at i l)) [
        | inl e ↦
            let q = h.single (d - i) d (y i) (omega arith) (omega arith) (level i (omega arith)) (subst (λ x. lay d x ≡ true) (sym e) h.end) in
            absurd (omega arith)
        | inr o ↦ o
      ]

  far : 2 ≤ d
  far =
      elim (cases_lt d 2) [
        | inr l ↦ l
        | inl l ↦
            elim (cases_eq d 0) [
              | inl e ↦ absurd (f.apart (h.start a (subst (λ j. lay j a ≡ true) e h.end)))
              | inr e ↦
                  let one : d ≡ 1 = omega arith in
                  let z = h.back 0 a (omega arith) (subst (λ j. lay j a ≡ true) one h.end) in
                  absurd (both_ways _ f.gap (s.symmetric _ _ (subst (λ x. Edge g x a) (h.start z.0 z.1) z.2)))
            ]
      ]

  abbrev Place : ℕ → Type 0
  Place i = (i ≡ 0) ⊎ ((i ≡ d) ⊎ ((0 < i) × (i < d)))

  place : (i : ℕ) → i ≤ d → Place i
  place i l =
      elim (cases_eq i 0) [
        | inl e ↦ inl e
        | inr e ↦ elim (cases_eq i d) [ inl q ↦ inr (inl q) | inr q ↦ inr (inr (omega arith, omega arith)) ]
      ]

  is_a : (i : ℕ) → i ≡ 0 → y i ≡ a
  is_a i e = ap y e ∙ y_start

  is_b : (i : ℕ) → i ≡ d → y i ≡ b
  is_b i e = ap y e ∙ y_end

  y_below : (i : ℕ) → i ≤ d → y i < n
  y_below i l =
      elim (place i l) [
        | inl e ↦ subst (λ x. x < n) (sym (is_a i e)) (s.within _ _ f.left)
        | inr p ↦
            elim p [
              | inl e ↦ subst (λ x. x < n) (sym (is_b i e)) (s.within _ _ f.right)
              | inr q ↦ (inner i q.0 q.1).0
            ]
      ]

  y_not_v : (i : ℕ) → i ≤ d → v ≢ y i
  y_not_v i l e =
      elim (place i l) [
        | inl q ↦ both_ways _ (s.loopless v) (ap (λ x. g v x) (e ∙ is_a i q) ∙ f.left)
        | inr p ↦
            elim p [
              | inl q ↦ both_ways _ (s.loopless v) (ap (λ x. g v x) (e ∙ is_b i q) ∙ f.right)
              | inr q ↦ (inner i q.0 q.1).1.0 (sym e)
            ]
      ]

  y_differ : (i j : ℕ) → i < j → j ≤ d → y i ≢ y j
  y_differ i j l k e =
      let q =
      h.single (d - i) (d - j) (y j) (omega arith) (omega arith) (subst (λ x. lay (d - i) x ≡ true) e (level i (omega arith))) (level j k) in
      omega arith

  at_v : (i : ℕ) → i ≤ d → Edge g v (y i) ↔ ((suc i ≡ 1) ⊎ (Zero × (suc (suc i) ≡ suc (suc d))))
  at_v i l = (to, from)
    where
      to : Edge g v (y i) → (suc i ≡ 1) ⊎ (Zero × (suc (suc i) ≡ suc (suc d)))
      to e =
          elim (place i l) [
            | inl q ↦ inl (omega arith)
            | inr p ↦ elim p [ inl q ↦ inr (refl, omega arith) | inr q ↦ absurd (both_ways _ (inner i q.0 q.1).1.1 e) ]
          ]

      from : (suc i ≡ 1) ⊎ (Zero × (suc (suc i) ≡ suc (suc d))) → Edge g v (y i)
      from (inl q) = ap (λ x. g v x) (is_a i (omega arith)) ∙ f.left
      from (inr q) = let m = q.1 in ap (λ x. g v x) (is_b i (omega arith)) ∙ f.right

  between : (i j : ℕ) → i < j → j ≤ d → Edge g (y i) (y j) ↔ ((suc j ≡ suc (suc i)) ⊎ ((suc i ≡ 0) × (suc (suc j) ≡ suc (suc d))))
  between i j l k = (to, from)
    where
      to : Edge g (y i) (y j) → (suc j ≡ suc (suc i)) ⊎ ((suc i ≡ 0) × (suc (suc j) ≡ suc (suc d)))
      to e =
          let q = h.near (d - j) (y j) (y i) (omega arith) (level j k) (s.symmetric _ _ e) (ok_at i (omega arith)) in
          let low : q.0 ≤ suc (d - j) = q.1 in
          let m = h.single q.0 (d - i) (y i) (omega arith) (omega arith) q.2 (level i (omega arith)) in
          inl (omega arith)

      from : (suc j ≡ suc (suc i)) ⊎ ((suc i ≡ 0) × (suc (suc j) ≡ suc (suc d))) → Edge g (y i) (y j)
      from (inl m) = ap (λ x. g (at ring (suc i)) (at ring x)) m ∙ t.joins i (omega arith)
      from (inr m) = let z = m.0 in absurd (omega arith)

  is_long : length ring ≡ suc (suc d)
  is_long = let q = t.long in omega arith

  pub ring_made : Ring n g ring
  ring_made =
      record {
        long = (let l = far in let q = is_long in omega arith);
        below = below;
        differ = differ;
        joins = joins;
      }
    where
      below : (i : ℕ) → i < length ring → at ring i < n
      below zero l = subst (λ x. x < n) (sym t.head) (s.within _ _ (s.symmetric _ _ f.left))
      below (suc i) l = let q = is_long in y_below i (omega arith)

      differ : (i j : ℕ) → i < j → j < length ring → at ring i ≢ at ring j
      differ i zero l k e = absurd (omega arith)
      differ zero (suc j) l k e = let q = is_long in y_not_v j (omega arith) (sym t.head ∙ e)
      differ (suc i) (suc j) l k e = let q = is_long in y_differ i j (omega arith) (omega arith) e

      joins : (i j : ℕ) → i < j → j < length ring → Edge g (at ring i) (at ring j) ↔ ((j ≡ suc i) ⊎ ((i ≡ 0) × (suc j ≡ length ring)))
      joins i zero l k = absurd (omega arith)
      joins zero (suc j) l k =
          let q = is_long in
          subst (λ m. Edge g (at ring 0) (at ring (suc j)) ↔ ((suc j ≡ 1) ⊎ (Zero × (suc (suc j) ≡ m)))) (sym q)
          (subst (λ x. Edge g x (at ring (suc j)) ↔ ((suc j ≡ 1) ⊎ (Zero × (suc (suc j) ≡ suc (suc d))))) (sym t.head) (at_v j (omega arith)))
      joins (suc i) (suc j) l k =
          let q = is_long in
          subst (λ m. Edge g (at ring (suc i)) (at ring (suc j)) ↔ ((suc j ≡ suc (suc i)) ⊎ ((suc i ≡ 0) × (suc (suc j) ≡ m)))) (sym q)
          (between i j (omega arith) (omega arith))
