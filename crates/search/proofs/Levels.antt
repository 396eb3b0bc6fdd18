-- Layers told by marks: how they begin, and how one more is marked.
use Rattle.std.proofs.Common.{◌≡◌, ℕ, suc, ◌<◌, ◌≤◌, Bool, true, false, cond, ◌&&◌, eqb, ltb, ◌≢◌, ◌↔◌, List, length, set, sym, ap, ◌∙◌, inl, inr, arith}
use Rattle.std.proofs.lemmas.List.{get_or-set_same, get_or-set_other}
use Rattle.std.proofs.lemmas.Bool.{both_ways, cases_eq, cases_lt, cases_Bool, eq-eqb, eqb-true, ne_eqb, lt-ltb, le-ltb, ltb-true, and_left, and_parts, cond-true, cond-false}
use Rattle.graph.specs.Graphs.{Graph, at}
use Rattle.graph.proofs.Walks.{gap_by}
use Rattle.sets.specs.Rows.{Touched}
use Rattle.search.specs.Layers.{level}

level_in : (strip : List ℕ) (e x : ℕ) → x < 256 → level strip e x ≡ eqb (at strip x) (suc e)
unfolding level
level_in strip e x l = ap (λ t. t && eqb (at strip x) (suc e)) (lt-ltb x 256 l)

level_past : (strip : List ℕ) (e x : ℕ) → 256 ≤ x → level strip e x ≡ false
unfolding level
level_past strip e x l = and_left (ltb x 256) _ (le-ltb x 256 l)

-- a member of a layer has its mark
level_mark : (strip : List ℕ) (e x : ℕ) → level strip e x ≡ true → (x < 256) × (at strip x ≡ suc e)
unfolding level
level_mark strip e x t =
    let p = and_parts (ltb x 256) (eqb (at strip x) (suc e)) t in
    (ltb-true x 256 p.0, eqb-true (at strip x) (suc e) p.1)

-- the stations with a mark are a layer
pub marked_level :
    (strip : List ℕ) (d mark : ℕ) (set : ℕ → Bool) → mark ≡ suc d → ((x : ℕ) → set x ≡ (ltb x 256 && eqb (at strip x) mark)) → (x : ℕ) →
    set x ≡ level strip d x
unfolding level
marked_level strip d mark set e f x = f x ∙ ap (λ m. ltb x 256 && eqb (at strip x) m) e

-- and what touches them touches the layer
pub touches_level :
    (g : Graph) (touched part lay : ℕ → Bool) → ((x : ℕ) → part x ≡ lay x) → ((x : ℕ) → (touched x ≡ true) ↔ Touched g part x) → (x : ℕ) →
    (touched x ≡ true) ↔ Touched g lay x
touches_level g touched part lay e f x = (
  λ t. let y = (f x).0 t in (y.0, sym (e y.0) ∙ y.1, y.2),
  λ y. (f x).1 (y.0, e y.0 ∙ y.1, y.2),
)

-- where b alone is marked, by 1, the first layer is b
module _ (strip : List ℕ) (b : ℕ) (none : (x : ℕ) → x < 256 → at strip x ≡ 0) (bl : b < 256) (long : 256 ≤ length strip) where
  pub level_start : (x : ℕ) → level (set strip b 1) 0 x ≡ eqb x b
  level_start x =
      elim (cases_lt x 256) [
        | inl l ↦ level_in (set strip b 1) 0 x l ∙ elim (cases_eq x b) [
          | inl e ↦
              eq-eqb (at (set strip b 1) x) 1 (ap (λ y. at (set strip b 1) y) e ∙ get_or-set_same strip b 1 0 (omega arith)) ∙ sym (eq-eqb x b e)
          | inr d ↦
              let z = get_or-set_other strip b x 1 0 d ∙ none x l in
              ne_eqb (at (set strip b 1) x) 1 (λ e. omega arith) ∙ sym (ne_eqb x b d)
        ]
        | inr l ↦ level_past (set strip b 1) 0 x l ∙ sym (ne_eqb x b (λ e. omega arith))
      ]

  pub low_start : (x : ℕ) → x < 256 → at (set strip b 1) x ≤ 1
  low_start x l =
      elim (cases_eq x b) [
        | inl e ↦ let z = ap (λ y. at (set strip b 1) y) e ∙ get_or-set_same strip b 1 0 (omega arith) in omega arith
        | inr d ↦ let z = get_or-set_other strip b x 1 0 d ∙ none x l in omega arith
      ]

-- one layer more is marked: those that are fresh
module _ (old new : List ℕ) (fresh left : ℕ → Bool) (d k mark : ℕ) (is_k : k ≡ suc d) (is_mark : mark ≡ suc k)
    (marking : (x : ℕ) → at new x ≡ cond (fresh x) mark (at old x)) (low : (x : ℕ) → x < 256 → at old x ≤ k)
    (fresh_left : (x : ℕ) → fresh x ≡ true → left x ≡ true) (fresh_below : (x : ℕ) → fresh x ≡ true → x < 256)
    (apart : (e x : ℕ) → e ≤ d → level old e x ≡ true → left x ≡ false) where
  pub level_new : (x : ℕ) → level new k x ≡ fresh x
  level_new x =
      elim (cases_Bool (fresh x)) [
        | inl t ↦ level_in new k x (fresh_below x t) ∙ eq-eqb (at new x) (suc k) (marking x ∙ cond-true (fresh x) mark (at old x) t ∙ is_mark) ∙ sym t
        | inr z ↦
            gap_by (λ t.
            let p = level_mark new k x t in
            let m : at old x ≡ suc k = sym (marking x ∙ cond-false (fresh x) mark (at old x) z) ∙ p.1 in
            let l = low x p.0 in
            omega arith)
            ∙ sym z
      ]

  pub level_old : (e x : ℕ) → e ≢ k → level new e x ≡ level old e x
  level_old e x n =
      elim (cases_Bool (fresh x)) [
        | inl t ↦
            gap_by (λ u.
            let p = level_mark new e x u in
            let m : mark ≡ suc e = sym (marking x ∙ cond-true (fresh x) mark (at old x) t) ∙ p.1 in
            n (omega arith))
            ∙ sym (gap_by (λ u.
            elim (cases_lt d e) [
              | inl l ↦
                  let p = level_mark old e x u in
                  let q = low x p.0 in
                  let r : at old x ≡ suc e = p.1 in
                  omega arith
              | inr l ↦ both_ways _ (apart e x l u) (fresh_left x t)
            ]))
        | inr z ↦ elim (cases_lt x 256) [
          | inl l ↦
              level_in new e x l ∙ ap (λ m. eqb m (suc e)) (marking x ∙ cond-false (fresh x) mark (at old x) z) ∙ sym (level_in old e x l)
          | inr l ↦ level_past new e x l ∙ sym (level_past old e x l)
        ]
      ]

  pub low_new : (x : ℕ) → x < 256 → at new x ≤ mark
  low_new x l =
      elim (cases_Bool (fresh x)) [
        | inl t ↦ let m = marking x ∙ cond-true (fresh x) mark (at old x) t in omega arith
        | inr z ↦ let m = marking x ∙ cond-false (fresh x) mark (at old x) z in let q = low x l in omega arith
      ]
