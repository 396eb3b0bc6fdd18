-- Lists as sets of vertices, and orders: they have every vertex.
use Rattle.std.proofs.Common.{◌≡◌, ℕ, zero, suc, ◌<◌, ◌≤◌, true, false, eqb, ◌≢◌, List, [], ◌∷◌, length, sym, refl, inl, inr, arith}
use Rattle.std.proofs.lemmas.Bool.{eq-eqb, eqb-true, or_cases, or_left, or_right, false≢true}
use Rattle.graph.specs.Graphs.{member, at, Order}
use Rattle.graph.proofs.Walks.{gap_by, edge_by}
use Rattle.graph.specs.Pairs.{size}
use Rattle.graph.proofs.Counting.{size_lt, size_one, size_all, size_none}

-- an entry is in the list
pub member_at : (os : List ℕ) (p : ℕ) → p < length os → member (at os p) os ≡ true
member_at [] p l = absurd (omega arith)
member_at (a ∷ os) zero l = or_left (eqb a a) _ (eq-eqb a a refl)
member_at (a ∷ os) (suc p) l = or_right (eqb (at os p) a) _ (member_at os p (omega arith))

-- what is in the list is an entry
pub member_place : (a : ℕ) (os : List ℕ) → member a os ≡ true → (p : ℕ) × (p < length os) × (at os p ≡ a)
member_place a [] m = absurd (false≢true m)
member_place a (b ∷ os) m =
    elim (or_cases (eqb a b) (member a os) m) [
      | inl e ↦ (0, omega arith, sym (eqb-true a b e))
      | inr e ↦
          let i = member_place a os e in
          (suc i.0, omega (arith, i.1), i.2)
    ]

-- the entries are all different
abbrev pub Differ : List ℕ → Type 0
Differ os = (p q : ℕ) → p < q → q < length os → at os p ≢ at os q

-- the entries are all below n
abbrev pub Below : ℕ → List ℕ → Type 0
Below n os = (p : ℕ) → p < length os → at os p < n

-- a list of different vertices is no longer than the number of vertices in it
apart_size : (n : ℕ) (os : List ℕ) → Differ os → Below n os → length os ≤ size (λ x. member x os) n
apart_size n [] d b = omega arith
apart_size n (a ∷ os) d b =
    let i = apart_size n os (λ p q l k. d (suc p) (suc q) (omega arith) (omega arith)) (λ p l. b (suc p) (omega arith)) in
    let new : member a os ≡ false =
    gap_by (λ m. let p = member_place a os m in d 0 (suc p.0) (omega arith) (omega (arith, p.1)) (sym p.2)) in
    let more =
    size_lt (λ x. member x os) (λ x. member x (a ∷ os)) n (λ x l m. or_right (eqb x a) _ m) a (b 0 (omega arith)) new
    (or_left (eqb a a) _ (eq-eqb a a refl)) in
    omega arith

-- and no list is shorter than that
pub has_size : (n : ℕ) (os : List ℕ) → size (λ x. member x os) n ≤ length os
has_size n [] = let z = size_none n in omega arith
has_size n (a ∷ os) =
    let i = has_size n os in
    let j =
    size_one (λ x. member x (a ∷ os)) (λ x. member x os) n a
    (λ x l d m. elim (or_cases (eqb x a) (member x os) m) [ inl e ↦ absurd (d (eqb-true x a e)) | inr e ↦ e ]) in
    omega arith

-- a list that has n vertices has every vertex
pub counted_has : (n : ℕ) (os : List ℕ) → n ≤ size (λ y. member y os) n → (x : ℕ) → x < n → member x os ≡ true
counted_has n os f x l =
    edge_by (λ z.
    let j = size_lt (λ y. member y os) (λ y. true) n (λ y l m. refl) x l z refl in
    let k = size_all n in
    omega arith)

-- so an order has every vertex
pub order_has : {n : ℕ} {o : List ℕ} → Order n o → (x : ℕ) → x < n → member x o ≡ true
order_has {n} {o} r =
    let f = r.full in
    let i = apart_size n o (λ p q l k. r.differ p q l (omega arith)) (λ p l. r.below p (omega arith)) in
    counted_has n o (omega arith)

-- at some place
pub order_place : {n : ℕ} {o : List ℕ} → Order n o → (x : ℕ) → x < n → (p : ℕ) × (p < n) × (at o p ≡ x)
order_place {n} {o} r x l =
    let i = member_place x o (order_has r x l) in
    let f = r.full in
    (i.0, omega (arith, i.1), i.2)

-- c stands before place p of the list
abbrev pub Before : List ℕ → ℕ → ℕ → Type 0
Before o p c = (q : ℕ) × (q < p) × (at o q ≡ c)
