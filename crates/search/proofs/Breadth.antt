-- A search by breadth, from b to a.
use Rattle.std.proofs.Common.{◌≡◌, ℕ, suc, ◌+◌, ◌<◌, ◌≤◌, Bool, true, false, not, ◌&&◌, eqb, ◌≢◌, ◌⊎◌, ◌↔◌, sym, refl, ap, ◌∙◌, subst, inl, inr, arith}
use Rattle.std.proofs.lemmas.Bool.{both_ways, cases_eq, cases_lt, cases_Bool, eq-eqb, eqb-true, and_from, and_left, and_right, and_parts, not_from_false, not_from_true, false≢true}
use Rattle.graph.specs.Graphs.{Graph, Edge, Walk, edge, step}
use Rattle.graph.proofs.Walks.{gap_by, edge_by}
use Rattle.graph.proofs.Finding.{find}
use Rattle.sets.specs.Sets.{size}
use Rattle.sets.proofs.Sizes.{size_lt}
use Rattle.search.specs.Layers.{Layered}

-- a walk stays where there is no way out
closed_walk :
    {g : Graph} {ok : ℕ → Bool} (S : ℕ → Type 0) → ((x y : ℕ) → S x → Edge g x y → ok y ≡ true → S y) →
    {a b : ℕ} → Walk g (λ x. ok x ≡ true) b a → ok a ≡ true → S b → S a
closed_walk S f (edge e) o s = f _ _ s e o
closed_walk S f (step e k r) o s = closed_walk S f r o (f _ _ s e k)

-- the layers up to d, while `left` holds the ok vertices that are farther
pub record Wave (g : Graph) (ok : ℕ → Bool) (a b : ℕ) (lay : Graph) (left : ℕ → Bool) (d : ℕ) : Type 0 where
  pub start : (x : ℕ) → lay 0 x ≡ true → x ≡ b
  pub base : lay 0 b ≡ true
  pub back : (e x : ℕ) → e < d → lay (suc e) x ≡ true → (y : ℕ) × (lay e y ≡ true) × Edge g y x
  pub inside : (e x : ℕ) → e < d → lay (suc e) x ≡ true → ok x ≡ true
  pub single : (e f x : ℕ) → e ≤ d → f ≤ d → lay e x ≡ true → lay f x ≡ true → e ≡ f
  pub near : (e x y : ℕ) → e < d → lay e x ≡ true → Edge g x y → ok y ≡ true → (f : ℕ) × (f ≤ suc e) × (lay f y ≡ true)
  pub kept : (x : ℕ) → left x ≡ true → ok x ≡ true
  pub cover : (x : ℕ) → ok x ≡ true → left x ≡ false → (e : ℕ) × (e ≤ d) × (lay e x ≡ true)
  pub apart : (e x : ℕ) → e ≤ d → lay e x ≡ true → left x ≡ false
  pub goal : (left a ≡ true) ⊎ (lay d a ≡ true)
  pub few : d + size left 256 ≤ size ok 256

module _ {g : Graph} {ok : ℕ → Bool} {a b : ℕ} (walk : Walk g (λ x. ok x ≡ true) b a) (ok_a : ok a ≡ true) (low : (x : ℕ) → ok x ≡ true → x < 256) where
  pub wave_start :
      (lay : Graph) (left : ℕ → Bool) (d : ℕ) → ok b ≡ false → d ≡ 0 → ((x : ℕ) → lay 0 x ≡ eqb x b) → left ≡ ok → Wave g ok a b lay left d
  wave_start lay left d out z l e =
      record {
        start = λ x t. eqb-true x b (sym (l x) ∙ t);
        base = l b ∙ eq-eqb b b refl;
        back = λ e x h. absurd (omega arith);
        inside = λ e x h. absurd (omega arith);
        single = λ e f x h k s t. omega arith;
        near = λ e x y h. absurd (omega arith);
        kept = λ x t. same x ∙ t;
        cover = λ x t u. absurd (both_ways _ u (sym (same x) ∙ t));
        apart = λ e x h t.
            sym (same x) ∙ ap (λ y. ok y) (eqb-true x b (sym (l x) ∙ subst (λ e. lay e x ≡ true) (zero_of e (omega arith)) t)) ∙ out;
        goal = inl (sym (same a) ∙ ok_a);
        few = (let s = ap (λ f. size f 256) e in omega arith);
      }
    where
      same : (x : ℕ) → ok x ≡ left x
      same x = ap (λ f. f x) (sym e)

      zero_of : (e : ℕ) → e ≤ 0 → e ≡ 0
      zero_of e h = omega arith

  module _ (lay next : Graph) (left new fresh touched : ℕ → Bool) (d : ℕ) (w : Wave g ok a b lay left d) (here : left a ≡ true)
      (touches : (x : ℕ) → (touched x ≡ true) ↔ ((y : ℕ) × (lay d y ≡ true) × Edge g y x))
      (is_fresh : (x : ℕ) → fresh x ≡ (touched x && left x)) (is_new : (x : ℕ) → new x ≡ (left x && not (fresh x))) where
    abbrev Met : ℕ → Type 0
    Met x = (e : ℕ) × (e ≤ d) × (lay e x ≡ true)

    -- some station is new
    some : (x : ℕ) × (x < 256) × (fresh x ≡ true)
    some =
        elim (find fresh 256) [
          | inl f ↦ f
          | inr f ↦
              let closed : (x y : ℕ) → Met x → Edge g x y → ok y ≡ true → Met y =
              λ x y m e o.
              elim (cases_lt m.0 d) [
                | inl l ↦ let n = w.near m.0 x y l m.2 e o in (n.0, omega (arith, n.1), n.2)
                | inr l ↦
                    w.cover y o
                    (gap_by (λ t.
                    both_ways _ (f y (low y o))
                    (is_fresh y ∙ and_from _ _ ((touches y).1 (x, subst (λ k. lay k x ≡ true) (top m.0 m.1 l) m.2, e)) t)))
              ] in
              let m = closed_walk Met closed walk ok_a (0, omega arith, w.base) in
              absurd (both_ways _ (w.apart m.0 a m.1 m.2) here)
        ]
      where
        top : (e : ℕ) → e ≤ d → d ≤ e → e ≡ d
        top e h k = omega arith

    fresh_left : (x : ℕ) → fresh x ≡ true → left x ≡ true
    fresh_left x t = (and_parts (touched x) (left x) (sym (is_fresh x) ∙ t)).1

    new_left : (x : ℕ) → new x ≡ true → left x ≡ true
    new_left x t = (and_parts (left x) (not (fresh x)) (sym (is_new x) ∙ t)).0

    pub fewer_left : size new 256 < size left 256
    fewer_left =
        size_lt new left 256 (λ x h t. new_left x t) some.0 some.1
        (is_new some.0 ∙ and_right (left some.0) _ (not_from_true _ some.2)) (fresh_left some.0 some.2)

    module _ (k : ℕ) (is_k : k ≡ suc d) (at_k : (x : ℕ) → next k x ≡ fresh x) (others : (e x : ℕ) → e ≢ k → next e x ≡ lay e x) where
      old : (e x : ℕ) → e ≤ d → next e x ≡ true → lay e x ≡ true
      old e x h t = sym (others e x (λ m. omega arith)) ∙ t

      still : (e x : ℕ) → e ≤ d → lay e x ≡ true → next e x ≡ true
      still e x h t = others e x (λ m. omega arith) ∙ t

      at_new : (e x : ℕ) → e ≡ k → next e x ≡ true → fresh x ≡ true
      at_new e x m t = sym (at_k x) ∙ subst (λ e. next e x ≡ true) m t

      pub wave_more : Wave g ok a b next new k
      wave_more =
          record {
            start = λ x t. w.start x (old 0 x (omega arith) t);
            base = still 0 b (omega arith) w.base;
            back = λ e x h t. elim (cases_lt e d) [
              | inl l ↦ let y = w.back e x l (old (suc e) x (omega arith) t) in (y.0, still e y.0 (omega arith) y.1, y.2)
              | inr l ↦
                  let f = and_parts (touched x) (left x) (sym (is_fresh x) ∙ at_new (suc e) x (omega arith) t) in
                  let y = (touches x).0 f.0 in
                  let m : d ≡ e = omega arith in
                  (y.0, still e y.0 (omega arith) (subst (λ e. lay e y.0 ≡ true) m y.1), y.2)
            ];
            inside = λ e x h t. elim (cases_lt e d) [
              | inl l ↦ w.inside e x l (old (suc e) x (omega arith) t)
              | inr l ↦ w.kept x (fresh_left x (at_new (suc e) x (omega arith) t))
            ];
            single = λ e f x h j s t. elim (cases_eq e k) [
              | inl m ↦ elim (cases_eq f k) [
                | inl n ↦ m ∙ sym n
                | inr n ↦ absurd (both_ways _ (w.apart f x (omega arith) (old f x (omega arith) t)) (fresh_left x (at_new e x m s)))
              ]
              | inr m ↦ elim (cases_eq f k) [
                | inl n ↦ absurd (both_ways _ (w.apart e x (omega arith) (old e x (omega arith) s)) (fresh_left x (at_new f x n t)))
                | inr n ↦ w.single e f x (omega arith) (omega arith) (old e x (omega arith) s) (old f x (omega arith) t)
              ]
            ];
            near = λ e x y h t j o. elim (cases_lt e d) [
              | inl l ↦ let f = w.near e x y l (old e x (omega arith) t) j o in (f.0, f.1, still f.0 y (omega (arith, f.1)) f.2)
              | inr l ↦
                  let m : e ≡ d = omega arith in
                  elim (cases_Bool (left y)) [
                    | inl u ↦ (
                      k,
                      omega arith,
                      at_k y ∙ is_fresh y ∙ and_from _ _ ((touches y).1 (x, subst (λ e. lay e x ≡ true) m (old e x (omega arith) t), j)) u,
                    )
                    | inr u ↦ let f = w.cover y o u in (f.0, omega (arith, f.1), still f.0 y f.1 f.2)
                  ]
            ];
            kept = λ x t. w.kept x (new_left x t);
            cover = λ x o u. elim (cases_Bool (left x)) [
              | inl t ↦
                  (k, omega arith, at_k x ∙ edge_by (λ z. both_ways _ u (is_new x ∙ and_from _ _ t (not_from_false _ z))))
              | inr t ↦ let f = w.cover x o t in (f.0, omega (arith, f.1), still f.0 x f.1 f.2)
            ];
            apart = λ e x h t. elim (cases_eq e k) [
              | inl m ↦ is_new x ∙ and_right (left x) _ (not_from_true _ (at_new e x m t))
              | inr m ↦ is_new x ∙ and_left (left x) _ (w.apart e x (omega arith) (old e x (omega arith) t))
            ];
            goal = elim (cases_Bool (fresh a)) [
              | inl t ↦ inr (at_k a ∙ t)
              | inr t ↦ inl (is_new a ∙ and_from _ _ here (not_from_false _ t))
            ];
            few = (let s = fewer_left in let f = w.few in omega arith);
          }

  pub wave_end : (lay : Graph) (left : ℕ → Bool) (d : ℕ) → Wave g ok a b lay left d → left a ≡ false → Layered g ok a b lay d
  wave_end lay left d w z =
      record {
        start = w.start;
        back = w.back;
        inside = w.inside;
        single = w.single;
        near = w.near;
        end = elim w.goal [ inl t ↦ absurd (both_ways _ z t) | inr t ↦ t ];
        few = (let f = w.few in omega arith);
      }

-- while a is left, the next layer is not too far
pub room :
    {g : Graph} {ok : ℕ → Bool} {a b : ℕ} {lay : Graph} {left : ℕ → Bool} {d : ℕ} → Wave g ok a b lay left d → a < 256 → size ok 256 ≤ 254 → left a ≡ true →
    d < 254
room {a = a} {left = left} w al few t =
    let u = size_lt (λ x. false) left 256 (λ x h e. absurd (false≢true e)) a al refl t in
    let f = w.few in
    omega arith
