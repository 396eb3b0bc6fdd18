-- A graph with a perfect order is chordal.
use Rattle.std.proofs.Common.{◌≡◌, ℕ, suc, ◌-◌, ◌<◌, ◌≤◌, true, ◌≢◌, ◌⊎◌, List, length, sym, refl, ap, ◌∙◌, subst, inl, inr, arith}
use Rattle.std.proofs.lemmas.Bool.{both_ways, cases_eq, cases_lt}
use Rattle.graph.specs.Graphs.{Graph, Edge, Simple, member, at, Ring, Chordal, Order, Perfect, After, Later}
use Rattle.graph.proofs.Finding.{least}
use Rattle.graph.proofs.Earlier.{later_adjacent}
use Rattle.graph.proofs.Orders.{member_at, member_place, order_place}

module _ {n : ℕ} {g : Graph} (s : Simple n g) {o : List ℕ} (order : Order n o) (perfect : Perfect n g o) {r : List ℕ} (ring : Ring n g r) where
  -- the first place of the order that is on the ring
  module _ (p i : ℕ) (il : i < length r) (is : at r i ≡ at o p) (low : (q : ℕ) → q < n → member (at o q) r ≡ true → p ≤ q) where
    -- the other vertices of the ring
    away : (j : ℕ) → j < length r → j ≢ i → at r j ≢ at r i
    away j l d m =
        elim (cases_lt i j) [
          | inl k ↦ ring.differ i j k l (sym m)
          | inr k ↦ ring.differ j i (omega arith) il m
        ]

    -- stand later in the order
    later : (j : ℕ) → j < length r → j ≢ i → After n o p (at r j)
    later j l d =
        let q = order_place order (at r j) (ring.below j l) in
        let b = low q.0 q.1 (subst (λ x. member x r ≡ true) (sym q.2) (member_at r j l)) in
        let other : q.0 ≢ p = λ m. away j l d (sym q.2 ∙ ap (λ x. at o x) m ∙ sym is) in
        (q.0, omega arith, q.1, q.2)

    -- two neighbours of entry i on the ring are adjacent
    two : (j k : ℕ) → j < k → k < length r → j ≢ i → k ≢ i → Edge g (at r i) (at r j) → Edge g (at r i) (at r k) → Edge g (at r j) (at r k)
    two j k jk kl ji ki e f =
        elim (later_adjacent s order perfect p (at r j) (at r k) (to_later j e (later j (omega arith) ji)) (to_later k f (later k kl ki))) [
          | inl m ↦ absurd (ring.differ j k jk kl m)
          | inr m ↦ m
        ]
      where
        to_later : (j : ℕ) → Edge g (at r i) (at r j) → After n o p (at r j) → Later n g o p (at r j)
        to_later j e a = (subst (λ x. Edge g x (at r j)) is e, a)

    -- neighbours along the ring are adjacent
    join : (a b : ℕ) → a < b → b < length r → (b ≡ suc a) ⊎ ((a ≡ 0) × (suc b ≡ length r)) → Edge g (at r a) (at r b)
    join a b l k o = (ring.joins a b l k).1 o

    -- turned round
    back : (a b : ℕ) → Edge g (at r a) (at r b) → Edge g (at r b) (at r a)
    back a b e = s.symmetric _ _ e

    -- so a chord joins the two neighbours of entry i along the ring
    none : ⊥
    none =
        let long : 4 ≤ length r = ring.long in
        let last = length r - 1 in
        elim (cases_eq i 0) [
          | inl z ↦
              elim
              ((ring.joins 1 last (omega arith) (omega arith)).0
              (two 1 last (omega arith) (omega arith) (omega arith) (omega arith)
              (join i 1 (omega arith) (omega arith) (inl (omega arith)))
              (join i last (omega arith) (omega arith) (inr (z, omega arith))))) [
                | inl m ↦ omega arith
                | inr m ↦ omega (arith, m.0)
              ]
          | inr z ↦
              elim (cases_eq i last) [
                | inl t ↦
                    elim
                    ((ring.joins 0 (last - 1) (omega arith) (omega arith)).0
                    (two 0 (last - 1) (omega arith) (omega arith) (omega arith) (omega arith)
                    (back 0 i (join 0 i (omega arith) il (inr (refl, omega arith))))
                    (back (last - 1) i (join (last - 1) i (omega arith) il (inl (omega arith)))))) [
                      | inl m ↦ omega arith
                      | inr m ↦ omega (arith, m.1)
                    ]
                | inr t ↦
                    elim
                    ((ring.joins (i - 1) (suc i) (omega arith) (omega arith)).0
                    (two (i - 1) (suc i) (omega arith) (omega arith) (omega arith) (omega arith)
                    (back (i - 1) i (join (i - 1) i (omega arith) il (inl (omega arith))))
                    (join i (suc i) (omega arith) (omega arith) (inl refl)))) [
                      | inl m ↦ omega arith
                      | inr m ↦ omega (arith, m.0, m.1)
                    ]
              ]
        ]

-- so there is no ring
pub perfect_chordal : {n : ℕ} {g : Graph} {o : List ℕ} → Simple n g → Order n o → Perfect n g o → Chordal n g
perfect_chordal {n} {g} {o} s order perfect r ring =
    elim (least (λ p. member (at o p) r) n) [
      | inl b ↦
          let i = member_place (at o b.0) r b.2 in
          none s order perfect ring b.0 i.0 i.1 i.2 (λ q l m. elim (cases_lt q b.0) [ inl k ↦ absurd (both_ways _ (b.3 q k) m) | inr k ↦ k ])
      | inr b ↦
          let long : 4 ≤ length r = ring.long in
          let p = order_place order (at r 0) (ring.below 0 (omega arith)) in
          both_ways _ (b p.0 p.1) (subst (λ x. member x r ≡ true) (sym p.2) (member_at r 0 (omega arith)))
    ]
