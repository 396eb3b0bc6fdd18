-- Counts keep the laws of labels.
use Rattle.std.specs.Prelude.{◌≡◌, ℕ, ◌+◌, ◌≤◌, List, [], ◌∷◌, length}
use Rattle.std.proofs.Common.{arith}
use Rattle.std.proofs.lemmas.Bool.{ltb-true, lt-ltb, le-ltb}
use Rattle.graph.specs.Search.{raised, LabelLaws}
use Rattle.graph.proofs.Labels.{falling_length}
use Rattle.search.specs.declared.label.CountLabel.{CountLabel}
use Rattle.search.specs.Kinds.{count_of, count_raised, count_less}

count_is : (xs : List ℕ) (l : CountLabel) → l.count + length xs ≤ 65535 → (raised count_raised l xs).count ≡ l.count + length xs
count_is [] l b = omega arith
count_is (x ∷ xs) l b = let i = count_is xs (count_raised l x) (omega arith) in omega arith

pub count_laws : LabelLaws (count_of 0) count_raised count_less
count_laws =
    record {
      irreflexive = λ x. le-ltb x.count x.count (omega arith);
      transitive = λ x y z k l. lt-ltb x.count z.count (omega (arith, ltb-true x.count y.count k, ltb-true y.count z.count l));
      inclusion = λ xs ys f g k l.
          let a = falling_length f in
          let b = falling_length g in
          lt-ltb _ _ (omega (arith, count_is xs (count_of 0) (omega arith), count_is ys (count_of 0) (omega arith)));
    }
