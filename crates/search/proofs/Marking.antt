-- Strips that are zeroed and marked.
use Rattle.std.proofs.Common.{◌≡◌, ℕ, ◌<◌, ◌≤◌, min, Bool, true, false, not, ◌&&◌, eqb, ◌⊎◌, List, ◌++◌, length, take, drop, set, replicate, sym, ap, ◌∙◌, subst, inl, inr, arith, length-take}
use Rattle.std.proofs.lemmas.List.{get_or-set_same, get_or-set_other, drop_all}
use Rattle.std.proofs.lemmas.Bool.{both_ways, cases_eq, cases_lt, and_parts}
use Rattle.graph.specs.Graphs.{at}
use Rattle.search.specs.Strips.{zeroed}
use Rattle.search.proofs.Raising.{without_other}

-- what filling the front with 0 leaves
pub zero_front :
    (old front rest : List ℕ) (end : ℕ) → end ≡ min (length old) 256 → front ≡ replicate (length (take end old)) 0 → rest ≡ drop end old →
    front ++ rest ≡ zeroed old
unfolding zeroed
zero_front old front rest end is e d =
    let len : length (take end old) ≡ min 256 (length old) = simp length-take (omega arith) in
    ap (λ x. x ++ rest) (e ∙ ap (λ k. replicate k 0) len) ∙ ap (λ x. replicate (min 256 (length old)) 0 ++ x) (d ∙ beyond (cases_lt (length old) 256))
  where
    beyond : (length old < 256) ⊎ (256 ≤ length old) → drop end old ≡ drop 256 old
    beyond (inl l) = drop_all end old (omega arith) ∙ sym (drop_all 256 old (omega arith))
    beyond (inr l) = let k : end ≡ 256 = omega arith in ap (λ n. drop n old) k

-- some of the set are left, the others have the mark
pub record Marking (mark : ℕ) (which left : ℕ → Bool) (was strip : List ℕ) : Type 0 where
  pub inside : (x : ℕ) → left x ≡ true → which x ≡ true
  pub done : (x : ℕ) → which x ≡ true → left x ≡ false → at strip x ≡ mark
  pub other : (x : ℕ) → which x ≡ false → at strip x ≡ at was x

pub marking_more :
    (mark : ℕ) (which left new : ℕ → Bool) (was strip : List ℕ) (v : ℕ) → Marking mark which left was strip → left v ≡ true → v < length strip →
    ((x : ℕ) → new x ≡ (not (eqb x v) && left x)) → Marking mark which new was (set strip v mark)
marking_more mark which left new was strip v i t b f =
    record {
      inside = λ x h. i.inside x (and_parts (not (eqb x v)) (left x) (sym (f x) ∙ h)).1;
      done = λ x w z. elim (cases_eq x v) [
        | inl m ↦ ap (λ y. at (set strip v mark) y) m ∙ get_or-set_same strip v mark 0 b
        | inr m ↦ get_or-set_other strip v x mark 0 m ∙ i.done x w (sym (without_other left new v x f m) ∙ z)
      ];
      other = λ x h. get_or-set_other strip v x mark 0 (λ m. both_ways _ h (subst (λ y. which y ≡ true) (sym m) (i.inside v t))) ∙ i.other x h;
    }
