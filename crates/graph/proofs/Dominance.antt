-- In a graph whose vertices are all free, an order is perfect in which no vertex has the later neighbours of a later one, and more.
use Rattle.std.proofs.Common.{◌≡◌, ℕ, zero, suc, ◌+◌, ◌<◌, ◌≤◌, Bool, true, not, ◌&&◌, ltb, List, length, sym, refl, ◌∙◌, subst, inl, inr, arith}
use Rattle.std.proofs.lemmas.Bool.{both_ways, cases_Bool, cases_order, and_parts, and_from, ltb-true, lt-ltb, not-true, not_from_false}
use Rattle.graph.specs.Graphs.{Graph, Edge, Gap, Simple, Walk, edge, step, Outside, Free, at, Order, Perfect}
use Rattle.graph.specs.Search.{Falling, Kept, raised, Searched}
use Rattle.graph.proofs.Walks.{append, reverse, carry, shortfall, edge_by, gap_turn}
use Rattle.graph.proofs.Finding.{find}
use Rattle.graph.proofs.Orders.{Before}
use Rattle.graph.proofs.Labels.{passing_falling, passing_kept, passing_fewer}

-- at each place, no vertex before it has the later neighbours of its entry, and more
abbrev pub Undominated : ℕ → Graph → List ℕ → Type 0
Undominated n g o =
    (p q r : ℕ) → q < p → p < r → r < n → Edge g (at o q) (at o r) → Gap g (at o p) (at o r) →
    (x : ℕ) × (p < x) × (x < n) × Edge g (at o p) (at o x) × Gap g (at o q) (at o x)

-- so it is in a searched order: the label of such a vertex would exceed that of the entry
pub searched_undominated :
    {L : Type 0} {blank : L} {raise : L → ℕ → L} {less : L → L → Bool} {n : ℕ} {g : Graph} {o : List ℕ} →
    ((xs ys : List ℕ) → Falling n xs → Falling n ys → Kept xs ys → length xs < length ys → less (raised raise blank xs) (raised raise blank ys) ≡ true) →
    Searched blank raise less n g o → Undominated n g o
searched_undominated {n = n} {g = g} {o = o} inclusion found p q r qp pr rn e z =
    elim (find test n) [
      | inl f ↦
          let i = and_parts (ltb p f.0) _ f.2 in
          let j = and_parts (g (at o p) (at o f.0)) _ i.1 in
          (f.0, ltb-true p f.0 i.0, f.1, j.0, not-true _ j.1)
      | inr f ↦
          let inside : (s : ℕ) → p < s → s < n → Edge g (at o p) (at o s) → Edge g (at o q) (at o s) =
          λ s ps sn y. edge_by (λ w. both_ways _ (f s sn)
          (and_from (ltb p s) _ (lt-ltb p s ps) (and_from (g (at o p) (at o s)) _ y (not_from_false _ w)))) in
          absurd
          (both_ways _ (found.unexceeded p q (omega arith) (omega arith))
          (inclusion _ _ (passing_falling _ p n) (passing_falling _ p n) (passing_kept _ _ p n inside) (passing_fewer _ _ p n inside r pr rn z e)))
    ]
  where
    -- a later neighbour of the entry alone
    test : ℕ → Bool
    test x = ltb p x && (g (at o p) (at o x) && not (g (at o q) (at o x)))

module _ {n : ℕ} {g : Graph} (s : Simple n g) (free : (x : ℕ) → Free g x) {o : List ℕ} (order : Order n o) (u : Undominated n g o) where
  -- the first vertex of a walk that is adjacent to its end
  first : (p : ℕ) {a b : ℕ} → Gap g a b → Walk g (Before o p) a b → (w : ℕ) × Before o p w × Edge g w b × Walk g (λ c. Before o p c × Gap g b c) a w
  first p z (edge e) = absurd (both_ways _ z e)
  first p {b = b} z (step {c = c} e k r) =
      elim (cases_Bool (g c b)) [
        | inl y ↦ (c, k, y, edge e)
        | inr y ↦
            let i = first p y r in
            (i.0, i.1, i.2, step e (k, gap_turn s c b y) i.3)
      ]

  -- no walk by earlier vertices joins entry p to a later one that is not adjacent to it
  no_way : (k p r : ℕ) → n ≤ k + p → p < r → r < n → Gap g (at o p) (at o r) → Walk g (Before o p) (at o p) (at o r) → ⊥
  no_way zero p r b pr rn z w = omega arith
  no_way (suc k) p r b pr rn z w =
      let i = first p z w in
      let q = i.1.0 in
      let qp : q < p = i.1.1 in
      let is : at o q ≡ i.0 = i.1.2 in
      let x = u p q r qp pr rn (subst (λ c. Edge g c (at o r)) (sym is) i.2) z in
      let away : (c : ℕ) → Before o p c × Gap g (at o r) c → Outside g (at o r) c =
      λ c t. ((λ m. order.differ t.0.0 r (omega (arith, t.0.1)) rn (t.0.2 ∙ m)), t.1) in
      let px : p < x.0 = x.1 in
      elim (cases_Bool (g (at o x.0) (at o r))) [
        | inl y ↦
            free (at o r) (at o x.0) i.0
            (shortfall s
            (record {
              apart = λ m. order.differ q x.0 (omega arith) x.2 (is ∙ sym m);
              gap = gap_turn s _ _ (subst (λ c. Gap g c (at o x.0)) is x.4);
              left = s.symmetric _ _ y;
              right = s.symmetric _ _ i.2;
              walk =
                  step (s.symmetric _ _ x.3) ((λ m. order.differ p r pr rn m), gap_turn s _ _ z)
                  (carry (λ a b e. e) away i.3);
            }))
        | inr y ↦
            elim (cases_order x.0 r) [
              | inl m ↦ both_ways _ z (subst (λ c. Edge g (at o p) (at o c)) m x.3)
              | inr l ↦
                  elim l [
                    | inl xr ↦
                        no_way k x.0 r (omega arith) xr rn y
                        (step (s.symmetric _ _ x.3) (p, px, refl) (carry (λ a b e. e) (λ c t. (t.0, omega (arith, t.1), t.2)) w))
                    | inr rx ↦
                        no_way k r x.0 (omega arith) rx x.2 (gap_turn s _ _ y)
                        (append (reverse s.symmetric (carry (λ a b e. e) (λ c t. (t.0, omega (arith, t.1), t.2)) w)) (p, pr, refl) (edge x.3))
                  ]
            ]
      ]

  -- so the later neighbours of each vertex are a clique
  pub undominated_perfect : Perfect n g o
  undominated_perfect p q r pq pr qn rn d e f =
      edge_by (λ z. elim (cases_order q r) [
        | inl m ↦ d m
        | inr l ↦
            elim l [
              | inl qr ↦ no_way n q r (omega arith) qr rn z (step (s.symmetric _ _ e) (p, pq, refl) (edge f))
              | inr rq ↦ no_way n r q (omega arith) rq qn (gap_turn s _ _ z) (step (s.symmetric _ _ f) (p, pr, refl) (edge e))
            ]
      ])
