-- What stands in a lawful net, as a graph.
use Rattle.std.proofs.Common.{◌≡◌, ℕ, ◌<◌, ◌||◌, eqb, ap, ◌∙◌, subst, inl, inr, arith}
use Rattle.std.proofs.lemmas.Bool.{both_ways, cases_eq, cases_lt, eq-eqb, or_left, or_right}
use Rattle.graph.specs.Graphs.{Graph, Edge, Gap, Simple}
use Rattle.store.specs.Nets.{Net, Lawful, standing}

-- a mark of 1 or 2 says that the pair stands
pub stands : (net : Net) → Lawful net → (a b : ℕ) → 0 < net.mark a b → Edge (standing net) a b
stands net lawful a b h =
    let m = lawful.small a b in
    elim (cases_eq (net.mark a b) 1) [
      | inl e ↦ or_left _ _ (eq-eqb (net.mark a b) 1 e)
      | inr d ↦ or_right (eqb (net.mark a b) 1) _ (eq-eqb (net.mark a b) 2 (omega arith))
    ]

-- and a mark of 0 that it does not
pub absent : (net : Net) (a b : ℕ) → net.mark a b ≡ 0 → Gap (standing net) a b
absent net a b e = ap (λ m. eqb m 1 || eqb m 2) e

pub standing_simple : (net : Net) → Lawful net → Simple net.size (standing net)
standing_simple net lawful =
    record {
      symmetric = λ a b e. ap (λ m. eqb m 1 || eqb m 2) (lawful.alike b a) ∙ e;
      loopless = λ a. absent net a a (lawful.apart a);
      within = λ a b e. elim (cases_lt b net.size) [
        | inl l ↦ l
        | inr l ↦ absurd (both_ways _ (absent net a b (lawful.alike a b ∙ lawful.inside b a l)) e)
      ];
    }

-- what holds of a graph holds of one with the same edges
pub moved : (P : ℕ → Graph → Type 0) (n m : ℕ) (g h : Graph) → n ≡ m → ((a b : ℕ) → g a b ≡ h a b) → P n g → P m h
moved P n m g h e f x = subst (λ k. P k h) e (subst (λ k. P n k) (λ i a b. f a b i) x)
