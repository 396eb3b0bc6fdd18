-- In a perfect order, a minimal separator is the set of the later neighbours of a vertex.
use Rattle.std.proofs.Common.{◌≡◌, ℕ, ◌<◌, ◌≤◌, Bool, true, false, not, ◌&&◌, ◌||◌, eqb, ◌≢◌, ◌⊎◌, List, sym, refl, ap, ◌∙◌, subst, inl, inr, arith}
use Rattle.std.proofs.lemmas.Bool.{both_ways, cases_order, cases_eq, eq-eqb, eqb-true, or_cases, or_left, or_right, and_parts, and_from, not-true, not_from_false}
use Rattle.graph.specs.Graphs.{Graph, Edge, Simple, Walk, edge, step, Linked, here, next, at, Order, Perfect, Cut, After, LaterNeighbours}
use Rattle.graph.specs.Links.{link}
use Rattle.graph.proofs.Walks.{append, starts, carry, edge_by}
use Rattle.graph.proofs.Linking.{Passes, link_walk, walk_link}
use Rattle.graph.proofs.Finding.{greatest}
use Rattle.graph.proofs.Orders.{Before, order_place}
use Rattle.graph.proofs.Earlier.{earlier_walk}

module _ {n : ℕ} {g : Graph} (s : Simple n g) {o : List ℕ} (order : Order n o) (perfect : Perfect n g o) where
  module _ (among : ℕ → Bool) where
    -- x is not in the set
    abbrev Off : ℕ → Type 0
    Off x = among x ≡ false

    -- c and d are in one component of the graph without the set
    abbrev In : ℕ → ℕ → Type 0
    In c d = Linked g Off c d

    -- a chain with one vertex more
    snoc : {c d : ℕ} → In c d → (e : ℕ) → Edge g d e → Off e → In c e
    snoc (here k) e f j = next k f (here j)
    snoc (next k e r) x f j = next k e (snoc r x f j)

    -- turned round
    turn : {c d : ℕ} → In c d → In d c
    turn (here k) = here k
    turn (next k e r) = snoc (turn r) _ (s.symmetric _ _ e) k

    -- one after another
    both : {c d e : ℕ} → In c d → In d e → In c e
    both (here k) q = q
    both (next k e r) q = next k e (both r q)

    -- a walk through the component of b
    chain : {c d : ℕ} (b x : ℕ) → In b c → In c d → Edge g d x → Walk g (λ e. In b e) c x
    chain b x i (here k) f = edge f
    chain b x i (next k e r) f =
        let j = snoc i _ e (starts r) in
        step e j (chain b x j r f)

    -- a component is below n
    within : {c d : ℕ} → c < n → In c d → d < n
    within b (here k) = b
    within b (next k e r) = within (s.within _ _ e) r

    -- is x not in the set?
    free : ℕ → Bool
    free x = not (among x)

    -- a walk by vertices that are not in the set
    walk_in : {c d : ℕ} → Off c → Off d → Walk g (Passes g free n) c d → In c d
    unfolding free
    walk_in k j (edge e) = next k e (here j)
    walk_in k j (step e i r) = next k e (walk_in (not-true _ i.1) j r)

    -- and the other way
    in_walk : {c d : ℕ} → In c d → (c ≡ d) ⊎ Walk g (Passes g free n) c d
    unfolding free
    in_walk (here k) = inl refl
    in_walk {c} (next k e r) =
        elim (in_walk r) [
          | inl m ↦ inr (edge (subst (λ x. Edge g c x) m e))
          | inr w ↦ inr (step e (s.within _ _ e, not_from_false _ (starts r)) w)
        ]

    -- are c and d in one component? By linkedness
    is_in : ℕ → ℕ → Bool
    is_in c d = eqb c d || (free d && link g free n c d)

    -- where the test says so
    is_in_in : (c d : ℕ) → Off c → is_in c d ≡ true → In c d
    unfolding is_in free
    is_in_in c d k e =
        elim (or_cases (eqb c d) _ e) [
          | inl m ↦ subst (λ x. In c x) (eqb-true c d m) (here k)
          | inr f ↦
              let p = and_parts (free d) (link g free n c d) f in
              walk_in k (not-true _ p.0) (link_walk g free n c d p.1)
        ]

    -- and only there
    in_is_in : (c d : ℕ) → In c d → is_in c d ≡ true
    unfolding is_in free
    in_is_in c d i =
        elim (in_walk i) [
          | inl m ↦ or_left (eqb c d) _ (eq-eqb c d m)
          | inr w ↦ or_right (eqb c d) _ (and_from (free d) _ (not_from_false _ (starts (turn i))) (walk_link g free n c d w))
        ]

    -- m is the highest place of the component of c
    abbrev Highest : ℕ → ℕ → Type 0
    Highest c m = (m < n) × In c (at o m) × ((q : ℕ) → q < n → In c (at o q) → q ≤ m)

    -- there is one
    highest : (c : ℕ) → c < n → Off c → (m : ℕ) × Highest c m
    highest c l k =
        elim (greatest (λ p. is_in c (at o p)) n) [
          | inl b ↦ (b.0, (b.1, is_in_in c _ k b.2, λ q l i. b.3 q l (in_is_in c _ i)))
          | inr b ↦
              let p = order_place order c l in
              absurd (both_ways _ (b p.0 p.1) (in_is_in c _ (subst (λ x. In c x) (sym p.2) (here k))))
        ]

    -- the end of a walk, from the last time that it meets u
    leave : (u : ℕ) {ok : ℕ → Type 0} {a x : ℕ} → Walk g ok a x → Walk g (λ c. ok c × (c ≢ u)) a x ⊎ Walk g (λ c. ok c × (c ≢ u)) u x
    leave u (edge e) = inl (edge e)
    leave u {ok} {x = x} (step {c = c} e k r) =
        elim (leave u r) [
          | inr w ↦ inr w
          | inl w ↦
              elim (cases_eq c u) [
                | inl m ↦ inr (subst (λ y. Walk g (λ c. ok c × (c ≢ u)) y x) m w)
                | inr d ↦ inl (step e (k, d) w)
              ]
        ]

    -- two components with a neighbour of each vertex of the set, and the highest place m of the one is below that of the other
    module _ (c d : ℕ) (cn : c < n) (dn : d < n) (parted : In c d → ⊥)
        (by_first : (x : ℕ) → among x ≡ true → (y : ℕ) × In c y × Edge g x y) (by_second : (x : ℕ) → among x ≡ true → (y : ℕ) × In d y × Edge g x y)
        (m : ℕ) (hm : Highest c m) (t : ℕ) (ht : Highest d t) (lower : m < t) where
      -- from the highest of the first component to a vertex of the set, by earlier vertices
      out : (x : ℕ) → among x ≡ true → Walk g (Before o m) (at o m) x
      out x e =
          let y = by_first x e in
          let w = chain c x hm.1 (both (turn hm.1) y.1) (s.symmetric _ _ y.2) in
          let v : Walk g (λ z. In c z × (z ≢ at o m)) (at o m) x = elim (leave (at o m) w) [ inl v ↦ v | inr v ↦ v ] in
          carry (λ a b e. e) (λ z k. early z k.0 k.1) v
        where
          -- the rest of the component stands earlier
          early : (z : ℕ) → In c z → z ≢ at o m → Before o m z
          early z i k =
              let p = order_place order z (within cn i) in
              let h = hm.2 p.0 p.1 (subst (λ y. In c y) (sym p.2) i) in
              let not_m : p.0 ≢ m = λ q. k (sym p.2 ∙ ap (λ q. at o q) q) in
              (p.0, omega arith, p.2)

      -- along the second component to its first vertex after m
      climb : (z : ℕ) {a b : ℕ} → In d a → In a b → Edge g z a → at o t ≡ b → (y : ℕ) × In d y × After n o m y × Walk g (Before o m) z y
      climb z {a} i (here k) e is = (a, i, (t, lower, ht.0, is), edge e)
      climb z {a} i (next k f r) e is =
          let p = order_place order a (within dn i) in
          elim (cases_order p.0 m) [
            | inl q ↦
                absurd
                (parted
                (both hm.1 (turn (subst (λ y. In d y) (sym p.2 ∙ ap (λ q. at o q) q) i))))
            | inr q ↦
                elim q [
                  | inr l ↦ (a, i, (p.0, l, p.1, p.2), edge e)
                  | inl l ↦
                      let j = climb a (snoc i _ f (starts r)) r f is in
                      (j.0, j.1, j.2, step e (p.0, l, p.2) j.3)
                ]
          ]

      -- each vertex of the set stands after m, or the components would be adjacent
      after : (x : ℕ) → among x ≡ true → After n o m x
      after x e =
          let y = by_second x e in
          let p = order_place order x (s.within _ _ (s.symmetric _ _ y.2)) in
          elim (cases_order p.0 m) [
            | inl q ↦
                absurd (both_ways _ (starts (turn hm.1)) (subst (λ z. among z ≡ true) (sym p.2 ∙ ap (λ q. at o q) q) e))
            | inr q ↦
                elim q [
                  | inr l ↦ (p.0, l, p.1, p.2)
                  | inl l ↦
                      let j = climb x y.1 (both (turn y.1) ht.1) y.2 refl in
                      let mn = hm.0 in
                      let w = append (out x e) (p.0, l, p.2) j.3 in
                      let later = j.2 in
                      elim (earlier_walk s order perfect m (at o m) j.0 (omega arith) (m, omega arith, mn, refl) (later.0, omega (arith, later.1), later.2, later.3) w) [
                        | inl f ↦ absurd (order.differ m later.0 later.1 later.2 (f ∙ sym later.3))
                        | inr f ↦ absurd (parted (both (snoc hm.1 j.0 f (starts (turn j.1))) (turn j.1)))
                      ]
                ]
          ]

      -- so the set is that of the later neighbours of entry m
      lower_part : LaterNeighbours n g o m among
      lower_part x = (
        λ e.
            let p = after x e in
            let mn = hm.0 in (
              elim (earlier_walk s order perfect m (at o m) x (omega arith) (m, omega arith, mn, refl) (p.0, omega (arith, p.1), p.2, p.3) (out x e)) [
                | inl f ↦ absurd (order.differ m p.0 p.1 p.2 (f ∙ sym p.3))
                | inr f ↦ f
              ],
              p,
            ),
        λ k.
            let q = k.1 in
            edge_by (λ z.
            let i = hm.2 q.0 q.2 (subst (λ y. In c y) (sym q.3) (snoc hm.1 x k.0 z)) in
            omega (arith, q.1)),
      )

  -- of the components of c and d, the one whose highest place is lower gives the vertex
  pub cut_later : (among : ℕ → Bool) (c d : ℕ) → Cut n g among c d → (p : ℕ) × (p < n) × LaterNeighbours n g o p among
  cut_later among c d k =
      let a = highest among c k.first.0 k.first.1 in
      let b = highest among d k.second.0 k.second.1 in
      elim (cases_order a.0 b.0) [
        | inl m ↦
            absurd
            (k.parted
            (both among a.1.1 (turn among (subst (λ x. Linked g (λ z. among z ≡ false) d x) (ap (λ q. at o q) (sym m)) b.1.1))))
        | inr l ↦
            elim l [
              | inl l ↦ (
                a.0,
                a.1.0,
                lower_part among c d k.first.0 k.second.0 k.parted k.by_first k.by_second a.0 a.1 b.0 b.1 l,
              )
              | inr l ↦ (
                b.0,
                b.1.0,
                lower_part among d c k.second.0 k.first.0 (λ i. k.parted (turn among i)) k.by_second k.by_first b.0 b.1 a.0 a.1 l,
              )
            ]
      ]
