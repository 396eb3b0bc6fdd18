-- In a perfect order, a block is a vertex with its later neighbours.
use Rattle.std.proofs.Common.{◌≡◌, ℕ, ◌<◌, ◌≤◌, Bool, true, false, ◌⊎◌, List, sym, ap, ◌∙◌, subst, inl, inr, arith}
use Rattle.std.proofs.lemmas.Bool.{both_ways, cases_Bool, cases_order}
use Rattle.graph.specs.Graphs.{Graph, Simple, Edge, at, Order, Perfect, Block, Later, WithLater}
use Rattle.graph.proofs.Walks.{edge_by}
use Rattle.graph.proofs.Finding.{least}
use Rattle.graph.proofs.Orders.{order_place}
use Rattle.graph.proofs.Earlier.{later_adjacent}

module _ {n : ℕ} {g : Graph} (s : Simple n g) {o : List ℕ} (order : Order n o) (perfect : Perfect n g o) {among : ℕ → Bool} (block : Block n g among) where
  -- a block is not empty: a vertex alone is a clique
  inhabited : 1 ≤ n → (a : ℕ) × (among a ≡ true)
  inhabited some =
      elim (cases_Bool (among 0)) [
        | inl e ↦ (0, e)
        | inr z ↦ let i = block.greatest 0 (omega arith) z in (i.0, i.1)
      ]

  -- the first place of the order that is in the block
  module _ (p : ℕ) (is : among (at o p) ≡ true) (low : (q : ℕ) → q < p → among (at o q) ≡ false) where
    -- the rest of the block stands later, and is adjacent to its entry
    rest : (x : ℕ) → among x ≡ true → (x ≡ at o p) ⊎ Later n g o p x
    rest x e =
        let q = order_place order x (block.below x e) in
        elim (cases_order q.0 p) [
          | inl m ↦ inl (sym q.2 ∙ ap (λ i. at o i) m)
          | inr c ↦
              elim c [
                | inl l ↦ absurd (both_ways _ (low q.0 l) (subst (λ y. among y ≡ true) (sym q.2) e))
                | inr l ↦
                    inr (
                      block.joined (at o p) x is e (λ m. order.differ p q.0 l q.1 (m ∙ sym q.2)),
                      (q.0, l, q.1, q.2),
                    )
              ]
        ]

    -- and no later neighbour of its entry is left out, since these are adjacent to one another
    first_later : WithLater n g o p among
    first_later x = (
      rest x,
      λ c. elim c [
        | inl m ↦ subst (λ y. among y ≡ true) (sym m) is
        | inr l ↦
            edge_by (λ z.
            let a = block.greatest x (s.within (at o p) x l.0) z in
            elim (rest a.0 a.1) [
              | inl m ↦ both_ways _ a.2 (subst (λ y. Edge g x y) (sym m) (s.symmetric (at o p) x l.0))
              | inr k ↦
                  elim (later_adjacent s order perfect p x a.0 l k) [
                    | inl m ↦ both_ways _ z (subst (λ y. among y ≡ true) (sym m) a.1)
                    | inr e ↦ both_ways _ a.2 e
                  ]
            ])
      ],
    )

  -- a block is its first vertex with the later neighbours of that
  pub block_later : 1 ≤ n → (p : ℕ) × (p < n) × WithLater n g o p among
  block_later some =
      elim (least (λ p. among (at o p)) n) [
        | inl p ↦ (p.0, p.1, first_later p.0 p.2 p.3)
        | inr none ↦
            let a = inhabited some in
            let p = order_place order a.0 (block.below a.0 a.1) in
            absurd (both_ways _ (none p.0 p.1) (subst (λ x. among x ≡ true) (sym p.2) a.1))
      ]
