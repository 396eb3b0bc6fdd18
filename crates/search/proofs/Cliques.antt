-- Cliques among later neighbours, position by position.
use Rattle.std.proofs.Common.{◌≡◌, ℕ, suc, ◌<◌, ◌≤◌, Bool, true, false, ◌&&◌, ◌||◌, eqb, ◌≢◌, List, length, get_or, MatchBool, ◌↔◌, sym, refl, ap, ◌∙◌, subst, ap₂, inl, inr, arith}
use Rattle.std.proofs.lemmas.Bool.{cases_eq, cases_order, eq-eqb, eqb-true, and_from, and_parts, or_cases, or_left, or_right, false≢true}
use Rattle.std.proofs.lemmas.List.Elements.{Contains-get_or}
use Rattle.std.specs.List.{AllWithin, HoldsAt}
use Rattle.graph.specs.Graphs.{Graph, Edge, at, Order, Perfect}
use Rattle.sets.specs.declared.station_set.StationSet.{StationSet}
use Rattle.sets.specs.Sets.{has, members}
use Rattle.sets.proofs.Rising.{contains_from, has_from}
use Rattle.search.specs.Cliques.{Clique, Joined}

pub joined_all :
    (g : Graph) (s : StationSet) (r : Bool) →
    MatchBool r (AllWithin (Joined g (has s)) (members s) 0 (length (members s)))
    ((k : ℕ) × (k < length (members s)) × HoldsAt (λ a. Joined g (has s) a → ⊥) (members s) k) →
    (r ≡ true) ↔ Clique g (has s)
joined_all g s true h = (
  λ _ a b oa ob d. let place = contains_from s a oa in subst (λ x. Joined g (has s) x) place.2 (h place.0 a (omega arith) place.1) b ob d,
  λ _. refl,
)
joined_all g s false h = (
  λ e. absurd (false≢true e),
  λ clique.
      let a = get_or (members s) h.0 0 in
      absurd (h.2 0 (λ b ob d. clique a b (has_from s a (Contains-get_or (members s) h.0 0 h.1)) ob d)),
)

-- `later` holds the entries from position m up, and from there on the order is perfect
pub record Seen (n m : ℕ) (g : Graph) (o : List ℕ) (later : ℕ → Bool) : Type 0 where
  pub from : (x : ℕ) → later x ≡ true → (q : ℕ) × (m ≤ q) × (q < n) × (at o q ≡ x)
  pub full : (q : ℕ) → m ≤ q → q < n → later (at o q) ≡ true
  pub done :
      (p q r : ℕ) → m ≤ p → p < q → p < r → q < n → r < n → q ≢ r → Edge g (at o p) (at o q) → Edge g (at o p) (at o r) → Edge g (at o q) (at o r)

module _ (n : ℕ) (g : Graph) (o : List ℕ) (order : Order n o) where
  apart_entries : (q r : ℕ) → q < n → r < n → q ≢ r → at o q ≢ at o r
  apart_entries q r a b d e =
      elim (cases_order q r) [
        | inl m ↦ d m
        | inr m ↦
            elim m [
              | inl l ↦ order.differ q r l b e
              | inr l ↦ order.differ r q l a (sym e)
            ]
      ]

  pub seen_more :
      (m p : ℕ) (later new near ok : ℕ → Bool) (v : ℕ) → Seen n m g o later → m ≡ suc p → p < n → at o p ≡ v → ((x : ℕ) → near x ≡ g v x) →
      ((x : ℕ) → ok x ≡ (near x && later x)) → Clique g ok → ((x : ℕ) → new x ≡ (eqb x v || later x)) → Seen n p g o new
  seen_more m p later new near ok v i e l is f h k c =
      record {
        from = λ x t. elim (or_cases (eqb x v) (later x) (sym (c x) ∙ t)) [
          | inl y ↦ (p, omega arith, l, is ∙ sym (eqb-true x v y))
          | inr y ↦ let q = i.from x y in (q.0, omega (arith, q.1), q.2, q.3)
        ];
        full = λ q a b. elim (cases_eq q p) [
          | inl y ↦ c (at o q) ∙ or_left _ _ (eq-eqb (at o q) v (ap (λ z. at o z) y ∙ is))
          | inr y ↦ c (at o q) ∙ or_right (eqb (at o q) v) _ (i.full q (omega arith) b)
        ];
        done = λ a q r b x y z w d s t. elim (cases_eq a p) [
          | inl m ↦
              let near_at : (q : ℕ) → p < q → q < n → Edge g (at o a) (at o q) → ok (at o q) ≡ true =
              λ q x z s. h (at o q) ∙ and_from _ _ (f (at o q) ∙ ap (λ y. g y (at o q)) (sym (ap (λ z. at o z) m ∙ is)) ∙ s) (i.full q (omega arith) z) in
              k (at o q) (at o r) (near_at q (omega arith) z s) (near_at r (omega arith) w t) (apart_entries q r z w d)
          | inr m ↦ i.done a q r (omega arith) x y z w d s t
        ];
      }

  pub seen_all : (m : ℕ) (later : ℕ → Bool) → Seen n m g o later → m ≡ 0 → Perfect n g o
  seen_all m later i e p q r x y z w d s t = i.done p q r (omega arith) x y z w d s t

  -- a perfect order makes the later neighbours of each entry a clique
  pub clique_by :
      (m p : ℕ) (later near ok : ℕ → Bool) (v : ℕ) → Seen n m g o later → m ≡ suc p → p < n → at o p ≡ v → ((x : ℕ) → near x ≡ g v x) →
      ((x : ℕ) → ok x ≡ (near x && later x)) → Perfect n g o → Clique g ok
  clique_by m p later near ok v i e l is f h perfect a b oa ob d =
      let x = and_parts (near a) (later a) (sym (h a) ∙ oa) in
      let y = and_parts (near b) (later b) (sym (h b) ∙ ob) in
      let q = i.from a x.1 in
      let r = i.from b y.1 in
      ap₂ g (sym q.3) (sym r.3)
      ∙ perfect p q.0 r.0 (omega (arith, q.1)) (omega (arith, r.1)) q.2 r.2 (λ z. d (sym q.3 ∙ ap (λ k. at o k) z ∙ r.3))
      (ap₂ g is q.3 ∙ sym (f a) ∙ x.0) (ap₂ g is r.3 ∙ sym (f b) ∙ y.0)
