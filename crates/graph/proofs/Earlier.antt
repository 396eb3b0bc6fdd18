-- In a perfect order, later neighbours of a vertex are adjacent, and so are vertices that a walk of earlier ones joins.
use Rattle.std.proofs.Common.{◌≡◌, ℕ, zero, suc, ◌+◌, ◌<◌, ◌≤◌, ◌≢◌, ◌⊎◌, List, sym, ap, ◌∙◌, subst, subst₂, inl, inr, arith}
use Rattle.std.proofs.lemmas.Bool.{both_ways, cases_eq}
use Rattle.graph.specs.Graphs.{Graph, Edge, Simple, Walk, edge, step, at, Order, Perfect, After, Later}
use Rattle.graph.proofs.Walks.{carry}
use Rattle.graph.proofs.Orders.{Before}

-- x stands at place p or after it
abbrev pub From : ℕ → List ℕ → ℕ → ℕ → Type 0
From n o p x = (q : ℕ) × (p ≤ q) × (q < n) × (at o q ≡ x)

module _ {n : ℕ} {g : Graph} (s : Simple n g) {o : List ℕ} (order : Order n o) (perfect : Perfect n g o) where
  -- later neighbours of one vertex are the same or adjacent
  pub later_adjacent : (p x y : ℕ) → Later n g o p x → Later n g o p y → (x ≡ y) ⊎ Edge g x y
  later_adjacent p x y k l =
      let q = k.1 in
      let r = l.1 in
      elim (cases_eq x y) [
        | inl m ↦ inl m
        | inr d ↦
            inr
            (subst₂ (λ a b. Edge g a b) q.3 r.3
            (perfect p q.0 r.0 q.1 r.1 q.2 r.2 (λ m. d (sym q.3 ∙ ap (λ i. at o i) m ∙ r.3))
            (subst (λ a. Edge g (at o p) a) (sym q.3) k.0) (subst (λ a. Edge g (at o p) a) (sym r.3) l.0)))
      ]

  -- c stands at a place from l on, before p
  abbrev Between : ℕ → ℕ → ℕ → Type 0
  Between l p c = (q : ℕ) × (l ≤ q) × (q < p) × (at o q ≡ c)

  -- a walk to b by places from l on, and how it does without place l
  module _ (l p b : ℕ) (small : p ≤ n) (end : After n o l b) where
    -- a is b, or a walk without place l leads there
    abbrev Found : ℕ → Type 0
    Found a = (a ≡ b) ⊎ Walk g (Between (suc l) p) a b

    -- with an edge in front
    join : (a d : ℕ) → Edge g a d → Between (suc l) p d → Found d → Found a
    join a d e k f = elim f [ inl m ↦ inr (edge (subst (λ x. Edge g a x) m e)) | inr w ↦ inr (step e k w) ]

    -- from its first vertex, where that stands later, and from a later neighbour of that, where it stands at l
    skip : {c : ℕ} → Walk g (Between l p) c b → (After n o l c → Found c) × ((a : ℕ) → After n o l a → at o l ≡ c → Edge g a c → Found a)
    skip (edge e) = (
      λ x. inr (edge e),
      λ a x m f. elim (later_adjacent l a b (subst (λ c. Edge g c a) (sym m) (s.symmetric _ _ f), x) (subst (λ c. Edge g c b) (sym m) e, end)) [
        | inl q ↦ inl q
        | inr q ↦ inr (edge q)
      ],
    )
    skip {c = c} (step {c = d} e k r) =
        let i = skip r in (
          λ x. elim (cases_eq k.0 l) [
            | inl m ↦ i.1 c x (ap (λ q. at o q) (sym m) ∙ k.3) e
            | inr q ↦
                join c d e (k.0, omega (arith, k.1), k.2, k.3) (i.0 (k.0, omega (arith, k.1), omega (arith, k.2), k.3))
          ],
          λ a x m f.
              let e' : Edge g (at o l) d = subst (λ c. Edge g c d) (sym m) e in
              let far : k.0 ≢ l = λ q. both_ways _ (s.loopless d) (subst (λ c. Edge g c d) (ap (λ q. at o q) (sym q) ∙ k.3) e') in
              let later : After n o l d = (k.0, omega (arith, k.1), omega (arith, k.2), k.3) in
              elim (later_adjacent l a d (subst (λ c. Edge g c a) (sym m) (s.symmetric _ _ f), x) (e', later)) [
                | inl q ↦ subst (λ x. Found x) (sym q) (i.0 later)
                | inr q ↦ join a d q (k.0, omega (arith, k.1), k.2, k.3) (i.0 later)
              ],
        )

  -- places l, l + 1 and so on are left out in turn, until the walk is one edge
  from_entry :
      (k l p a b : ℕ) → l + k ≡ p → p ≤ n → From n o p a → From n o p b →
      Walk g (Between l p) a b → (a ≡ b) ⊎ Edge g a b
  from_entry zero l p a b e small x y (edge f) = inr f
  from_entry zero l p a b e small x y (step f k r) = absurd (omega (arith, k.1, k.2))
  from_entry (suc k) l p a b e small x y w =
      let x' : After n o l a = (x.0, omega (arith, x.1), x.2, x.3) in
      let y' : After n o l b = (y.0, omega (arith, y.1), y.2, y.3) in
      elim ((skip l p b small y' w).0 x') [
        | inl m ↦ inl m
        | inr v ↦ from_entry k (suc l) p a b (omega arith) small x y v
      ]

  -- vertices that a walk of earlier ones joins are the same or adjacent
  pub earlier_walk :
      (p a b : ℕ) → p ≤ n → From n o p a → From n o p b →
      Walk g (Before o p) a b → (a ≡ b) ⊎ Edge g a b
  earlier_walk p a b small x y w =
      from_entry p 0 p a b (omega arith) small x y (carry (λ a b e. e) (λ c k. (k.0, omega arith, k.1, k.2)) w)
