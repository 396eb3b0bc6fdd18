-- The number of adjacent pairs: it grows with the graph, tells graphs inside one another apart, and adds up.
use Rattle.std.proofs.Common.{◌≡◌, ℕ, zero, suc, ◌+◌, ◌<◌, ◌≤◌, Bool, true, false, cond, ◌||◌, sym, refl, ap, ◌∙◌, subst, inl, inr, arith}
use Rattle.std.proofs.lemmas.Bool.{both_ways, cases_order, cases_eq, true≢false, false≢true}
use Rattle.graph.specs.Graphs.{Graph, Edge, Gap, Simple, Inside, Same}
use Rattle.graph.specs.Pairs.{size, pairs}
use Rattle.graph.proofs.Walks.{gap_by, edge_by}
use Rattle.graph.proofs.Runs.{same_eq, same_by}
use Rattle.graph.proofs.Counting.{size_le, size_lt, size_none}

-- a graph inside another has no more pairs
pub pairs_le : (n : ℕ) (g h : Graph) → Inside g h → pairs n g ≤ pairs n h
pairs_le zero g h i = omega arith
pairs_le (suc b) g h i =
    let k = size_le (λ a. g a b) (λ a. h a b) b (λ a l e. i a b e) in
    let m = pairs_le b g h i in
    omega arith

-- and fewer, where a pair is adjacent in the other alone
pub pairs_lt : (n : ℕ) (g h : Graph) → Inside g h → (a b : ℕ) → a < b → b < n → Gap g a b → Edge h a b → pairs n g < pairs n h
pairs_lt zero g h i a b l k z e = absurd (omega arith)
pairs_lt (suc m) g h i a b l k z e =
    elim (cases_eq b m) [
      | inl q ↦
          let t =
          size_lt (λ x. g x m) (λ x. h x m) m (λ x l e. i x m e) a (omega arith) (subst (λ y. Gap g a y) q z) (subst (λ y. Edge h a y) q e) in
          let r = pairs_le m g h i in
          omega arith
      | inr q ↦
          let t = size_le (λ x. g x m) (λ x. h x m) m (λ x l e. i x m e) in
          let r = pairs_lt m g h i a b l (omega arith) z e in
          omega arith
    ]

-- and with as many it is the same
pub pairs_full : {n : ℕ} {g h : Graph} → Simple n g → Simple n h → Inside g h → pairs n g ≡ pairs n h → Same g h
pairs_full {n} {g} {h} s t i p =
    same_by i (λ a b e. edge_by (λ z. elim (cases_order a b) [
      | inl q ↦ both_ways _ (t.loopless b) (subst (λ x. Edge h x b) q e)
      | inr o ↦
          elim o [
            | inl l ↦ let r = pairs_lt n g h i a b l (t.within a b e) z e in omega arith
            | inr l ↦
                let r =
                pairs_lt n g h i b a l (t.within b a (t.symmetric a b e)) (gap_by (λ y. both_ways _ z (s.symmetric b a y))) (t.symmetric a b e) in
                omega arith
          ]
    ]))

-- one number more, which passes at most one of two tests
sum_cond : (t u : Bool) (x y z : ℕ) → (t ≡ true → u ≡ false) → z ≡ x + y → cond (t || u) (suc z) z ≡ cond t (suc x) x + cond u (suc y) y
sum_cond true true x y z d e = absurd (true≢false (d refl))
sum_cond true false x y z d e = omega arith
sum_cond false true x y z d e = omega arith
sum_cond false false x y z d e = e

-- as many pass one of two tests that exclude one another as pass the first and the second together
size_sum : (t u : ℕ → Bool) (n : ℕ) → ((x : ℕ) → t x ≡ true → u x ≡ false) → size (λ x. t x || u x) n ≡ size t n + size u n
size_sum t u zero d = omega arith
size_sum t u (suc m) d = sum_cond (t m) (u m) _ _ _ (d m) (size_sum t u m d)

-- the pairs of two graphs with no pair in common add up
pub pairs_sum : (n : ℕ) (g h : Graph) → ((a b : ℕ) → Edge g a b → Gap h a b) → pairs n (λ a b. g a b || h a b) ≡ pairs n g + pairs n h
pairs_sum zero g h d = omega arith
pairs_sum (suc b) g h d =
    let i = size_sum (λ a. g a b) (λ a. h a b) b (λ a e. d a b e) in
    let j = pairs_sum b g h d in
    omega arith

-- graphs with the same edges have as many pairs
pub pairs_same : (n : ℕ) (g h : Graph) → Same g h → pairs n g ≡ pairs n h
pairs_same n g h e = ap (λ k. pairs n k) (same_eq e)

-- the graph with no edge
abbrev bare : Graph
bare a b = false

-- it is simple
bare_simple : (n : ℕ) → Simple n bare
bare_simple n = record { symmetric = λ a b e. e; loopless = λ a. refl; within = λ a b e. absurd (false≢true e) }

-- and has no pair
pairs_bare : (n : ℕ) → pairs n bare ≡ 0
pairs_bare zero = refl
pairs_bare (suc b) =
    let i = size_none b in
    let j = pairs_bare b in
    omega arith

-- so has every graph with no edge
pub pairs_none : (n : ℕ) (g : Graph) → ((a b : ℕ) → Gap g a b) → pairs n g ≡ 0
pairs_none n g e = pairs_same n g bare e ∙ pairs_bare n

-- and no other simple graph
pub none_pairs : {n : ℕ} {g : Graph} → Simple n g → pairs n g ≡ 0 → (a b : ℕ) → Gap g a b
none_pairs {n} s e a b = sym (pairs_full (bare_simple n) s (λ a b k. absurd (false≢true k)) (pairs_bare n ∙ sym e) a b)
