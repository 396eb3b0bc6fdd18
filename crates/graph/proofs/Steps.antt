-- One step of laying: it keeps the graph simple and frees its vertex; a free vertex gets no edge, and stays free.
use Rattle.std.proofs.Common.{ℕ, ◌≢◌, ◌⊎◌, sym, refl, subst, inl, inr}
use Rattle.std.proofs.lemmas.Bool.{both_ways, cases_Bool, cases_eq}
use Rattle.graph.specs.Graphs.{Graph, Edge, Gap, Simple, Inside, Walk, edge, step, Outside, Free, Laid, Short}
use Rattle.graph.proofs.Walks.{reverse, translate, short, shortfall, short_turn, gap_by}

module _ {n : ℕ} {g : Graph} (s : Simple n g) {v : ℕ} {h : Graph} (laid : Laid g v h) where
  -- every edge stays
  pub laid_inside : Inside g h
  laid_inside a b e = (laid a b).1 (inl e)

  -- each shortfall is laid
  laid_short : {a b : ℕ} → Short g v a b → Edge h a b
  laid_short f = (laid _ _).1 (inr (shortfall s f))

  -- the graph stays simple
  pub laid_simple : Simple n h
  laid_simple =
      record {
        symmetric = λ a b e. elim ((laid a b).0 e) [ inl o ↦ laid_inside b a (s.symmetric a b o) | inr f ↦ laid_short (short_turn s (short s f)) ];
        loopless = λ a. gap_by (λ e. elim ((laid a a).0 e) [ inl o ↦ both_ways _ (s.loopless a) o | inr f ↦ f.apart refl ]);
        within = λ a b e. elim ((laid a b).0 e) [ inl o ↦ s.within a b o | inr f ↦ s.within v b (short s f).right ];
      }

  -- no new edge at v
  pub at_laid : (a : ℕ) → Edge h v a → Edge g v a
  at_laid a e = elim ((laid v a).0 e) [ inl o ↦ o | inr f ↦ absurd (both_ways _ (s.loopless v) (short s f).left) ]

  -- vertices that are not adjacent after the step were not before
  gap_under : (a b : ℕ) → Gap h a b → Gap g a b
  gap_under a b e = gap_by (λ o. both_ways _ e (laid_inside a b o))

  -- what is outside v after the step was before
  outside_old : (c : ℕ) → Outside h v c → Outside g v c
  outside_old c o = (o.0, gap_under _ _ o.1)

  -- an edge of h with an end outside v is an old one
  old_edge : (a b : ℕ) → Edge h a b → Outside h v a ⊎ Outside h v b → Walk g (Outside g v) a b
  old_edge a b e o =
      elim ((laid a b).0 e) [
        | inl d ↦ edge d
        | inr f ↦
            let w = short s f in
            elim o [
              | inl l ↦ absurd (both_ways _ l.1 (laid_inside v a w.left))
              | inr r ↦ absurd (both_ways _ r.1 (laid_inside v b w.right))
            ]
      ]

  -- v is free after the step
  pub laid_free : Free h v
  laid_free a b f =
      let w = short laid_simple f in
      both_ways _ w.gap
      (laid_short
      (record {
        apart = w.apart;
        gap = gap_under _ _ w.gap;
        left = at_laid a w.left;
        right = at_laid b w.right;
        walk = translate outside_old old_edge w.gap w.walk;
      }))

  module _ {x : ℕ} (free : Free g x) where
    -- from outside x along a walk outside v to x: the first vertex adjacent to x
    first : Edge g v x → {a : ℕ} → Outside g x a → Walk g (Outside g v) a x → (c : ℕ) × Edge g x c × Outside g v c × Walk g (Outside g x) a c
    first t o (edge e) = absurd (both_ways _ o.1 (s.symmetric _ _ e))
    first t o (step {c = c} e p r) =
        elim (cases_Bool (g x c)) [
          | inl y ↦ (c, y, p, edge e)
          | inr z ↦
              let q : Outside g x c = (λ m. both_ways _ p.1 (subst (λ m. Edge g v m) (sym m) t), z) in
              let i = first t q r in
              (i.0, i.1, i.2, step e q i.3)
        ]

    -- no new edge at a free vertex
    pub free_keeps : (y : ℕ) → Edge h x y → Edge g x y
    free_keeps y e =
        elim ((laid x y).0 e) [
          | inl o ↦ o
          | inr f ↦
              let w = short s f in
              let away : Outside g x y = ((λ m. w.apart (sym m)), w.gap) in
              let i = first w.left away (reverse s.symmetric w.walk) in
              absurd
              (free v i.0
              (shortfall s
              (record {
                apart = λ m. i.2.0 (sym m);
                gap = i.2.1;
                left = s.symmetric v x w.left;
                right = i.1;
                walk = step w.right away i.3;
              })))
        ]

    -- what is outside x after the step was before
    outside_x : (c : ℕ) → Outside h x c → Outside g x c
    outside_x c o = (o.0, gap_under _ _ o.1)

    -- a walk outside v avoids the neighbours of x, or leads to x and on from x
    scan : Edge g v x → {a b : ℕ} → Walk g (Outside g v) a b → Walk g (Outside g x) a b ⊎ (Walk g (Outside g v) a x × Walk g (Outside g v) x b)
    scan t (edge e) = inl (edge e)
    scan t (step {c = c} e p r) =
        elim (cases_Bool (g x c)) [
          | inl y ↦ inr (step e p (edge (s.symmetric x c y)), step y p r)
          | inr z ↦
              elim (scan t r) [
                | inl w ↦ inl (step e ((λ m. both_ways _ p.1 (subst (λ m. Edge g v m) (sym m) t)), z) w)
                | inr w ↦ inr (step e p w.0, w.1)
              ]
        ]

    -- a neighbour of v that a walk outside v joins to x is adjacent to x in h
    near : Edge g v x → (a : ℕ) → Edge g v a → a ≢ x → Walk g (Outside g v) a x → Edge h a x
    near t a e d w =
        elim (cases_Bool (g a x)) [
          | inl y ↦ laid_inside a x y
          | inr z ↦ laid_short (record { apart = d; gap = z; left = e; right = t; walk = w })
        ]

    -- an edge after the step with an end outside x, as a walk before it
    replace : v ≢ x → (a b : ℕ) → Edge h a b → Outside h x a ⊎ Outside h x b → Walk g (Outside g x) a b
    replace d a b e o =
        elim ((laid a b).0 e) [
          | inl y ↦ edge y
          | inr f ↦
              let w = short s f in
              elim (cases_Bool (g x v)) [
                | inr z ↦ step (s.symmetric v a w.left) (d, z) (edge w.right)
                | inl y ↦
                    let t = s.symmetric x v y in
                    elim (scan t w.walk) [
                      | inl r ↦ r
                      | inr r ↦
                          elim o [
                            | inl l ↦ absurd (both_ways _ l.1 (laid_simple.symmetric a x (near t a w.left l.0 r.0)))
                            | inr l ↦
                                absurd
                                (both_ways _ l.1 (laid_simple.symmetric b x (near t b w.right l.0 (reverse s.symmetric r.1))))
                          ]
                    ]
              ]
        ]

    -- a free vertex stays free
    pub free_stays : Free h x
    free_stays a b f =
        elim (cases_eq v x) [
          | inl m ↦ subst (λ m. Free h m) m laid_free a b f
          | inr d ↦
              let w = short laid_simple f in
              free a b
              (shortfall s
              (record {
                apart = w.apart;
                gap = gap_under _ _ w.gap;
                left = free_keeps a w.left;
                right = free_keeps b w.right;
                walk = translate outside_x (replace d) w.gap w.walk;
              }))
        ]
