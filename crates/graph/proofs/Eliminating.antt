-- The elimination graph of an order: simple, over the graph, and chordal, since the order is perfect for it; when it is the graph itself.
use Rattle.std.proofs.Common.{◌≡◌, ℕ, zero, suc, ◌<◌, true, false, not, eqb, ◌≢◌, ◌⊎◌, ◌↔◌, List, [], ◌∷◌, length, sym, refl, ap, ◌∙◌, subst, subst₂, inl, inr, arith}
use Rattle.std.proofs.lemmas.Bool.{both_ways, cases_lt, eqb-false, ne_eqb, or_cases, or_left, or_right, and_parts, and_from, not-true, not_from_false}
use Rattle.graph.specs.Graphs.{Graph, Edge, Gap, Simple, Inside, member, at, Chordal, Order, Perfect, joined, eliminated, elimination_fill}
use Rattle.graph.proofs.Walks.{gap_by, edge_by}
use Rattle.graph.proofs.Runs.{same_eq, same_by, eliminated_over}
use Rattle.graph.proofs.Orders.{member_at, member_place, Differ}
use Rattle.graph.proofs.Perfects.{perfect_chordal}

module _ (g : Graph) (v : ℕ) (vs : List ℕ) where
  -- an edge that joining adds: between later neighbours of v
  record Added (a b : ℕ) : Type 0 where
    apart : a ≢ b
    from : member a vs ≡ true
    to : member b vs ≡ true
    left : Edge g v a
    right : Edge g v b

  -- an edge after joining is an old one or one added
  parts : (a b : ℕ) → Edge (joined g v vs) a b → Edge g a b ⊎ Added a b
  parts a b e =
      elim (or_cases (g a b) _ e) [
        | inl y ↦ inl y
        | inr f ↦
            let q = and_parts (not (eqb a b)) _ f in
            let r = and_parts (member a vs) _ q.1 in
            let t = and_parts (member b vs) _ r.1 in
            let u = and_parts (g v a) (g v b) t.1 in
            inr (record { apart = eqb-false a b (not-true _ q.0); from = r.0; to = t.0; left = u.0; right = u.1 })
      ]

  -- and the other way
  whole : (a b : ℕ) → Edge g a b ⊎ Added a b → Edge (joined g v vs) a b
  whole a b o =
      elim o [
        | inl y ↦ or_left (g a b) _ y
        | inr f ↦
            or_right (g a b) _
            (and_from _ _ (not_from_false _ (ne_eqb a b f.apart))
            (and_from _ _ f.from (and_from _ _ f.to (and_from _ _ f.left f.right))))
      ]

  -- joining keeps the graph simple
  joined_simple : {n : ℕ} → Simple n g → Simple n (joined g v vs)
  joined_simple s =
      record {
        symmetric = λ a b e. whole b a (elim (parts a b e) [
          | inl y ↦ inl (s.symmetric a b y)
          | inr f ↦
              inr (record { apart = λ m. f.apart (sym m); from = f.to; to = f.from; left = f.right; right = f.left })
        ]);
        loopless = λ a. gap_by (λ e. elim (parts a a e) [ inl y ↦ both_ways _ (s.loopless a) y | inr f ↦ f.apart refl ]);
        within = λ a b e. elim (parts a b e) [ inl y ↦ s.within a b y | inr f ↦ s.within v b f.right ];
      }

-- and so does elimination
pub eliminated_simple : {n : ℕ} (os : List ℕ) (g : Graph) → Simple n g → Simple n (eliminated g os)
eliminated_simple [] g s = s
eliminated_simple (v ∷ os) g s = eliminated_simple os (joined g v os) (joined_simple g v os s)

-- nothing is added at a vertex that is not to come
eliminated_at : (os : List ℕ) (g : Graph) (v : ℕ) → member v os ≡ false → (a : ℕ) → Edge (eliminated g os) v a → Edge g v a
eliminated_at [] g v out a e = e
eliminated_at (w ∷ os) g v out a e =
    let away : member v os ≡ false = gap_by (λ m. both_ways _ out (or_right (eqb v w) _ m)) in
    elim (parts g w os v a (eliminated_at os (joined g w os) v away a e)) [
      | inl y ↦ y
      | inr f ↦ absurd (both_ways _ away f.from)
    ]

-- an order is perfect for its elimination graph
pub eliminated_perfect : (os : List ℕ) (g : Graph) → Differ os → Perfect (length os) (eliminated g os) os
eliminated_perfect [] g d p q r pq pr qn = absurd (omega arith)
eliminated_perfect (v ∷ os) g d zero zero r pq pr qn = absurd (omega arith)
eliminated_perfect (v ∷ os) g d zero (suc q) zero pq pr qn = absurd (omega arith)
eliminated_perfect (v ∷ os) g d zero (suc q) (suc r) pq pr qn = λ rn qr e f.
    let out : member v os ≡ false =
    gap_by (λ m. let i = member_place v os m in d 0 (suc i.0) (omega arith) (omega (arith, i.1)) (sym i.2)) in
    let old : (i : ℕ) → i < length os → Edge (eliminated (joined g v os) os) v (at os i) → Edge g v (at os i) =
    λ i l e. elim (parts g v os v (at os i) (eliminated_at os (joined g v os) v out (at os i) e)) [
      | inl y ↦ y
      | inr k ↦ absurd (both_ways _ out k.from)
    ] in
    let two : at os q ≢ at os r =
    λ m. elim (cases_lt q r) [
      | inl l ↦ d (suc q) (suc r) (omega arith) rn m
      | inr l ↦ d (suc r) (suc q) (omega arith) qn (sym m)
    ] in
    eliminated_over os (joined g v os) (at os q) (at os r)
    (whole g v os (at os q) (at os r)
    (inr
    (record {
      apart = two;
      from = member_at os q (omega arith);
      to = member_at os r (omega arith);
      left = old q (omega arith) e;
      right = old r (omega arith) f;
    })))
eliminated_perfect (v ∷ os) g d (suc p) zero r pq pr qn = absurd (omega arith)
eliminated_perfect (v ∷ os) g d (suc p) (suc q) zero pq pr qn = absurd (omega arith)
eliminated_perfect (v ∷ os) g d (suc p) (suc q) (suc r) pq pr qn = λ rn qr.
    eliminated_perfect os (joined g v os) (λ i j l k. d (suc i) (suc j) (omega arith) (omega arith)) p q r (omega arith) (omega arith) (omega arith)
    (omega arith) (omega arith)

-- all of that of an order
pub elimination : {n : ℕ} {g : Graph} {o : List ℕ} → Simple n g → Order n o →
    Simple n (eliminated g o) × Inside g (eliminated g o) × Perfect n (eliminated g o) o × Chordal n (eliminated g o)
elimination {n} {g} {o} s r =
    let f = r.full in
    let t = eliminated_simple o g s in
    let perfect : Perfect n (eliminated g o) o =
    λ i j k ij ik jn kn. eliminated_perfect o g (λ p q l b. r.differ p q l (omega arith)) i j k ij ik (omega arith) (omega arith) in
    (t, eliminated_over o g, perfect, perfect_chordal t r perfect)

-- elimination along a perfect order of h stays inside h
pub perfect_eliminated : (os : List ℕ) (g h : Graph) → Perfect (length os) h os → Inside g h → Inside (eliminated g os) h
perfect_eliminated [] g h p gh = gh
perfect_eliminated (v ∷ os) g h p gh =
    perfect_eliminated os (joined g v os) h (λ i j k ij ik jn kn d. p (suc i) (suc j) (suc k) (omega arith) (omega arith) (omega arith) (omega arith) (omega arith)) more
  where
    more : Inside (joined g v os) h
    more a b e =
        elim (parts g v os a b e) [
          | inl y ↦ gh a b y
          | inr f ↦
              let i = member_place a os f.from in
              let j = member_place b os f.to in
              subst₂ (λ x y. Edge h x y) i.2 j.2
              (p 0 (suc i.0) (suc j.0) (omega arith) (omega arith) (omega (arith, i.1)) (omega (arith, j.1))
              (λ m. f.apart (sym i.2 ∙ ap (λ x. at (v ∷ os) x) m ∙ j.2))
              (subst (λ x. Edge h v x) (sym i.2) (gh v a f.left))
              (subst (λ x. Edge h v x) (sym j.2) (gh v b f.right)))
        ]

-- an order is perfect exactly when its elimination fill is empty
pub perfect_unfilled : {n : ℕ} {g : Graph} {o : List ℕ} → Simple n g → Order n o → Perfect n g o ↔ ((a b : ℕ) → Gap (elimination_fill g o) a b)
perfect_unfilled {n} {g} {o} s r = (
  λ p a b. gap_by (λ e.
      let f = r.full in
      let i = and_parts (eliminated g o a b) _ e in
      both_ways _ (not-true _ i.1)
      (perfect_eliminated o g g (λ i j k ij ik jn kn. p i j k ij ik (omega arith) (omega arith)) (λ a b e. e) a b i.0)),
  λ unfilled.
      let inside : Inside (eliminated g o) g =
      λ a b e. edge_by (λ z. both_ways _ (unfilled a b) (and_from _ _ e (not_from_false _ z))) in
      subst (λ k. Perfect n k o) (same_eq (same_by inside (eliminated_over o g))) (elimination s r).2,
)
