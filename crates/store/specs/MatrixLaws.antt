-- The net of a matrix is lawful, whatever its bytes. (The trait asks an implementation for this proof, so it stands among the definitions.)
use Rattle.std.specs.Prelude.{◌≡◌, ℕ, zero, suc, ◌+◌, ◌*◌, ◌<◌, ◌≤◌, min, max, true, false, cond, List, length, ◌==◌, ◌≢◌, nat_lt, refl}
use Rattle.std.proofs.Common.{sym, ◌∙◌, arith}
use Rattle.std.proofs.Math.Path.{ap}
use Rattle.std.proofs.Math.Logic.{⊎_elim}
use Rattle.std.proofs.lemmas.Bool.{eq-eqb, ne_eqb, lt-ltb, le-ltb, cases_eq, cases_lt}
use Rattle.store.specs.Nets.{Lawful, count_in_row, count_pairs}
use Rattle.store.specs.Squares.{bit}
use Rattle.store.specs.Matrices.{pair_mark, matrix_mark, size_over, matrix_net}

pub size_short : (len n : ℕ) → len < 8192 → size_over len n ≡ 1
unfolding size_over
size_short len n h = ap (λ t. cond t 1 (min 256 (max 1 n))) (lt-ltb len 8192 h)

pub size_long : (len n : ℕ) → 8192 ≤ len → size_over len n ≡ min 256 (max 1 n)
unfolding size_over
size_long len n h = ap (λ t. cond t 1 (min 256 (max 1 n))) (le-ltb len 8192 h)

pub size_some : (len n : ℕ) → 1 ≤ size_over len n
size_some len n = ⊎_elim (λ (h : len < 8192). omega (arith, size_short len n h)) (λ (h : 8192 ≤ len). omega (arith, size_long len n h)) (cases_lt len 8192)

pub size_most : (len n : ℕ) → size_over len n ≤ 256
size_most len n = ⊎_elim (λ (h : len < 8192). omega (arith, size_short len n h)) (λ (h : 8192 ≤ len). omega (arith, size_long len n h)) (cases_lt len 8192)

-- two stations take a whole square
pub size_two : (len n : ℕ) → 1 < size_over len n → 8192 ≤ len
size_two len n p = ⊎_elim (λ (h : len < 8192). absurd (omega (arith, size_short len n h))) (λ (h : 8192 ≤ len). h) (cases_lt len 8192)

module _ (bytes : List ℕ) (n u v : ℕ) where
  pub mark_same : u ≡ v → matrix_mark bytes n u v ≡ 0
  unfolding matrix_mark
  mark_same e =
      ap (λ t. cond t 0 (cond (nat_lt (max u v) n) (pair_mark (bit bytes (min u v) (max u v)) (bit bytes (max u v) (min u v))) 0)) (eq-eqb u v e)

  pub mark_in : (u ≢ v) → max u v < n → matrix_mark bytes n u v ≡ pair_mark (bit bytes (min u v) (max u v)) (bit bytes (max u v) (min u v))
  unfolding matrix_mark
  mark_in d h =
      ap (λ t. cond t 0 (cond (nat_lt (max u v) n) (pair_mark (bit bytes (min u v) (max u v)) (bit bytes (max u v) (min u v))) 0)) (ne_eqb u v d)
      ∙ ap (λ t. cond t (pair_mark (bit bytes (min u v) (max u v)) (bit bytes (max u v) (min u v))) 0) (lt-ltb (max u v) n h)

  pub mark_outside : n ≤ max u v → matrix_mark bytes n u v ≡ 0
  unfolding matrix_mark
  mark_outside h = ⊎_elim mark_same (λ d. beyond d) (cases_eq u v)
    where
      beyond : (u ≢ v) → matrix_mark bytes n u v ≡ 0
      beyond d =
          ap (λ t. cond t 0 (cond (nat_lt (max u v) n) (pair_mark (bit bytes (min u v) (max u v)) (bit bytes (max u v) (min u v))) 0)) (ne_eqb u v d)
          ∙ ap (λ t. cond t (pair_mark (bit bytes (min u v) (max u v)) (bit bytes (max u v) (min u v))) 0) (le-ltb (max u v) n h)

pair_small : (s t : ℕ) → pair_mark s t ≤ 2
pair_small s t =
    elim (s == 1) as (λ x. cond x (cond (t == 1) 1 2) 0 ≤ 2)
    [ true ↦ elim (t == 1) as (λ y. cond y 1 2 ≤ 2) [ true ↦ omega arith | false ↦ omega arith ] | false ↦ omega arith ]

mark_small : (bytes : List ℕ) (n u v : ℕ) → matrix_mark bytes n u v ≤ 2
mark_small bytes n u v =
    ⊎_elim (λ e. omega (arith, mark_same bytes n u v e))
    (λ d. ⊎_elim
    (λ (h : max u v < n). omega (arith, mark_in bytes n u v d h, pair_small (bit bytes (min u v) (max u v)) (bit bytes (max u v) (min u v))))
    (λ (h : n ≤ max u v). omega (arith, mark_outside bytes n u v h))
    (cases_lt (max u v) n))
    (cases_eq u v)

pub mark_alike : (bytes : List ℕ) (n u v : ℕ) → matrix_mark bytes n u v ≡ matrix_mark bytes n v u
mark_alike bytes n u v =
    let lo : min u v ≡ min v u = omega arith in
    let hi : max u v ≡ max v u = omega arith in
    ⊎_elim (λ e. mark_same bytes n u v e ∙ sym (mark_same bytes n v u (sym e)))
    (λ d. ⊎_elim
    (λ (h : max u v < n).
    mark_in bytes n u v d h ∙ ap (λ x. pair_mark (bit bytes x (max u v)) (bit bytes (max u v) x)) lo
    ∙ ap (λ x. pair_mark (bit bytes (min v u) x) (bit bytes x (min v u))) hi ∙ sym (mark_in bytes n v u (λ e. d (sym e)) (omega arith)))
    (λ (h : n ≤ max u v). mark_outside bytes n u v h ∙ sym (mark_outside bytes n v u (omega arith)))
    (cases_lt (max u v) n))
    (cases_eq u v)

-- no more pairs of a mark than pairs
pub row_most : (mark : ℕ → ℕ → ℕ) (m b k : ℕ) → count_in_row mark m b k ≤ k
row_most mark m b zero = omega arith
row_most mark m b (suc k) =
    let h = row_most mark m b k in
    elim (mark k b == m) as (λ t. count_in_row mark m b k + cond t 1 0 ≤ suc k) [ true ↦ omega arith | false ↦ omega arith ]

pub pairs_most : (mark : ℕ → ℕ → ℕ) (m n : ℕ) → n ≤ 256 → count_pairs mark m n ≤ n * 255
pairs_most mark m zero h = omega arith
pairs_most mark m (suc b) h = let p = pairs_most mark m b (omega arith) in let r = row_most mark m b b in omega arith

pub matrix_lawful : (bytes : List ℕ) (n : ℕ) → Lawful (matrix_net bytes n)
matrix_lawful bytes n =
    let size = size_over (length bytes) n in
    let most = size_most (length bytes) n in
    record {
      some = size_some (length bytes) n;
      most = most;
      small = mark_small bytes size;
      alike = mark_alike bytes size;
      apart = λ u. mark_same bytes size u u refl;
      inside = λ u v h. mark_outside bytes size u v (omega arith);
      bounded = let p = pairs_most (matrix_mark bytes size) 0 size most in omega arith;
    }
