-- A search that has filled the positions from m up.
use Rattle.std.proofs.Common.{◌≡◌, ℕ, zero, suc, ◌+◌, ◌-◌, ◌<◌, ◌≤◌, Bool, true, false, cond, not, ◌&&◌, eqb, ltb, ◌≢◌, List, [], ◌∷◌, length, take, sym, refl, ap, ◌∙◌, subst, ap₂, inl, inr, arith}
use Rattle.std.proofs.lemmas.List.{get_or-take, length-take}
use Rattle.std.proofs.lemmas.Bool.{both_ways, cases_eq, cases_lt, cases_Bool, eq-eqb, and_right, and_parts, or_left, or_right, cond-false, lt-ltb, ltb-true}
use Rattle.graph.specs.Graphs.{Graph, Simple, at, member, Order}
use Rattle.graph.specs.Search.{raised, passing, label_before, Searched}
use Rattle.graph.proofs.Walks.{gap_by, edge_by}
use Rattle.graph.proofs.Finding.{find}
use Rattle.graph.proofs.Counting.{size_le, size_all}
use Rattle.graph.proofs.Orders.{member_place, order_has, has_size}
use Rattle.search.proofs.Passing.{passing_none, raised_next, label_same}
use Rattle.search.proofs.Raising.{without_v, without_other}

-- w stands nowhere after position p
abbrev pub Out : ℕ → List ℕ → ℕ → ℕ → Type 0
Out n o p w = (i : ℕ) → p < i → i < n → at o i ≢ w

-- the positions from m up are filled, `un` holds the stations that are left, and their labels are up to date
pub record Placing {L : Type 0} (blank : L) (raise : L → ℕ → L) (less : L → L → Bool) (n m : ℕ) (g : Graph) (o : List ℕ) (un : ℕ → Bool) (lab : ℕ → L) : Type 0 where
  pub below : (p : ℕ) → m ≤ p → p < n → at o p < n
  pub differ : (p q : ℕ) → m ≤ p → p < q → q < n → at o p ≢ at o q
  pub top : (p w : ℕ) → m ≤ p → p < n → w < n → Out n o p w → less (label_before blank raise n g o p (at o p)) (label_before blank raise n g o p w) ≡ false
  pub low :
      (p w : ℕ) → m ≤ p → p < n → w < at o p → Out n o p w →
      (r : ℕ) × (r < n) × Out n o p r × (less (label_before blank raise n g o p w) (label_before blank raise n g o p r) ≡ true)
  pub inside : (v : ℕ) → un v ≡ true → v < n
  pub placed : (p : ℕ) → m ≤ p → p < n → un (at o p) ≡ false
  pub missed : (v : ℕ) → v < n → un v ≡ false → (q : ℕ) × (m ≤ q) × (q < n) × (at o q ≡ v)
  pub fresh : (p v : ℕ) → suc p ≡ m → un v ≡ true → lab v ≡ label_before blank raise n g o p v
  pub own : (p : ℕ) → m ≤ p → p < n → lab (at o p) ≡ label_before blank raise n g o p (at o p)

-- the entries from m up
abbrev listed : List ℕ → ℕ → ℕ → List ℕ
listed o m zero = []
listed o m (suc k) = at o m ∷ listed o (suc m) k

listed_length : (o : List ℕ) (m k : ℕ) → length (listed o m k) ≡ k
listed_length o m zero = refl
listed_length o m (suc k) = ap suc (listed_length o (suc m) k)

listed_has : (o : List ℕ) (m k q : ℕ) → m ≤ q → q < m + k → member (at o q) (listed o m k) ≡ true
listed_has o m zero q h l = absurd (omega arith)
listed_has o m (suc k) q h l =
    elim (cases_eq q m) [
      | inl e ↦ or_left (eqb (at o q) (at o m)) _ (eq-eqb (at o q) (at o m) (ap (λ x. at o x) e))
      | inr d ↦ or_right (eqb (at o q) (at o m)) _ (listed_has o (suc m) k q (omega arith) (omega arith))
    ]

module _ {L : Type 0} {blank : L} {raise : L → ℕ → L} {less : L → L → Bool} {n : ℕ} {g : Graph} where
  -- before the first turn
  pub placing_none :
      (m : ℕ) (o : List ℕ) (un : ℕ → Bool) (lab : ℕ → L) → m ≡ n → ((v : ℕ) → un v ≡ ltb v n) → ((v : ℕ) → v < n → lab v ≡ blank) →
      Placing blank raise less n m g o un lab
  placing_none m o un lab e f b =
      record {
        below = λ p h k. absurd (omega arith);
        differ = λ p q h k j. absurd (omega arith);
        top = λ p w h k. absurd (omega arith);
        low = λ p w h k. absurd (omega arith);
        inside = λ v t. ltb-true v n (sym (f v) ∙ t);
        placed = λ p h k. absurd (omega arith);
        missed = λ v l z. absurd (both_ways _ z (f v ∙ lt-ltb v n l));
        fresh = λ p v h t.
            b v (ltb-true v n (sym (f v) ∙ t)) ∙ sym (ap (λ xs. raised raise blank xs) (passing_none (λ q. g v (at o q)) p n (omega arith)));
        own = λ p h k. absurd (omega arith);
      }

  -- one is still to be placed
  pub some_left :
      (m : ℕ) (o : List ℕ) (un : ℕ → Bool) (lab : ℕ → L) → Placing blank raise less n m g o un lab → 0 < m → m ≤ n → (x : ℕ) × (un x ≡ true)
  some_left m o un lab i z l =
      elim (find un n) [
        | inl f ↦ (f.0, f.2)
        | inr f ↦
            let os = listed o m (n - m) in
            let h = has_size n os in
            let e = listed_length o m (n - m) in
            let s =
            size_le (λ y. true) (λ y. member y os) n
            (λ y b t.
            let q = i.missed y b (f y b) in
            subst (λ x. member x os ≡ true) q.3 (listed_has o m (n - m) q.0 q.1 (omega (arith, q.2)))) in
            let t = size_all n in
            absurd (omega arith)
      ]

  -- one turn: position p is filled by v
  module _ (s : Simple n g) (p : ℕ) (o new : List ℕ) (un left : ℕ → Bool) (lab next : ℕ → L)
      (i : Placing blank raise less n (suc p) g o un lab) (pn : p < n) (v : ℕ)
      (chosen : un v ≡ true)
      (best : (w : ℕ) → un w ≡ true → less (lab v) (lab w) ≡ false)
      (lowest : (w : ℕ) → w < v → un w ≡ true → (r : ℕ) × (un r ≡ true) × (less (lab w) (lab r) ≡ true))
      (here : at new p ≡ v) (others : (q : ℕ) → q ≢ p → at new q ≡ at o q)
      (taken : (x : ℕ) → left x ≡ (not (eqb x v) && un x))
      (raising : (x : ℕ) → next x ≡ cond (g v x && left x) (raise (lab x) p) (lab x)) where
    above : (q r : ℕ) → p ≤ q → q < r → at o r ≡ at new r
    above q r h l = sym (others r (λ e. omega arith))

    same : (q w : ℕ) → p ≤ q → label_before blank raise n g new q w ≡ label_before blank raise n g o q w
    same q w h = sym (label_same blank raise n g o new q w (λ r l b. above q r h l))

    now_out : (q w : ℕ) → p ≤ q → Out n new q w → Out n o q w
    now_out q w h f r l b e = f r l b (sym (above q r h l) ∙ e)

    then_out : (q w : ℕ) → p ≤ q → Out n o q w → Out n new q w
    then_out q w h f r l b e = f r l b (above q r h l ∙ e)

    -- who stands nowhere after p is unplaced
    unplaced : (w : ℕ) → w < n → Out n o p w → un w ≡ true
    unplaced w l f = edge_by (λ z. let q = i.missed w l z in f q.0 q.1 q.2 q.3)

    out : (w : ℕ) → un w ≡ true → Out n o p w
    out w t r l b e = both_ways _ (i.placed r l b) (subst (λ x. un x ≡ true) (sym e) t)

    before : (w : ℕ) → un w ≡ true → lab w ≡ label_before blank raise n g new p w
    before w t = i.fresh p w refl t ∙ sym (same p w (omega arith))

    own_label : label_before blank raise n g new p (at new p) ≡ lab v
    own_label = ap (λ x. label_before blank raise n g new p x) here ∙ sym (before v chosen)

    left_un : (x : ℕ) → left x ≡ true → un x ≡ true
    left_un x t = (and_parts (not (eqb x v)) (un x) (sym (taken x) ∙ t)).1

    kept : (x : ℕ) → left x ≡ false → next x ≡ lab x
    kept x z = raising x ∙ cond-false (g v x && left x) _ _ (and_right (g v x) (left x) z)

    placed_other : (q : ℕ) → suc p ≤ q → q < n → at new q ≢ v
    placed_other q h l e = both_ways _ (i.placed q h l) (subst (λ x. un x ≡ true) (sym e ∙ others q (λ m. omega arith)) chosen)

    gone : (q : ℕ) → p ≤ q → q < n → left (at new q) ≡ false
    gone q h l =
        elim (cases_eq q p) [
          | inl e ↦ ap (λ x. left (at new x)) e ∙ ap (λ x. left x) here ∙ without_v un left v taken
          | inr d ↦
              taken (at new q) ∙ and_right (not (eqb (at new q) v)) _ (ap (λ x. un x) (others q d) ∙ i.placed q (omega arith) l)
        ]

    turn : (x y : ℕ) → g x y ≡ g y x
    turn x y =
        elim (cases_Bool (g x y)) [
          | inl e ↦ e ∙ sym (s.symmetric x y e)
          | inr z ↦ z ∙ sym (gap_by (λ e. both_ways _ z (s.symmetric y x e)))
        ]

    pub placing_more : Placing blank raise less n p g new left next
    placing_more =
        record {
          below = λ q h l. elim (cases_eq q p) [
            | inl e ↦ subst (λ x. x < n) (sym (ap (λ x. at new x) e ∙ here)) (i.inside v chosen)
            | inr d ↦ subst (λ x. x < n) (sym (others q d)) (i.below q (omega arith) l)
          ];
          differ = λ q r h l b e. elim (cases_eq q p) [
            | inl m ↦ placed_other r (omega arith) b (sym e ∙ ap (λ x. at new x) m ∙ here)
            | inr d ↦ i.differ q r (omega arith) l b (sym (others q d) ∙ e ∙ others r (λ m. omega arith))
          ];
          top = λ q w h l b f. elim (cases_eq q p) [
            | inl m ↦
                subst (λ q. less (label_before blank raise n g new q (at new q)) (label_before blank raise n g new q w) ≡ false) (sym m)
                (let t = unplaced w b (now_out p w (omega arith) (subst (λ x. Out n new x w) m f)) in
                ap₂ less own_label (sym (before w t)) ∙ best w t)
            | inr d ↦
                ap₂ less (ap (λ x. label_before blank raise n g new q x) (others q d) ∙ same q (at o q) h) (same q w h)
                ∙ i.top q w (omega arith) l b (now_out q w h f)
          ];
          low = λ q w h l b f. elim (cases_eq q p) [
            | inl m ↦ low_here q w m b f
            | inr d ↦
                let r = i.low q w (omega arith) l (subst (λ x. w < x) (others q d) b) (now_out q w h f) in
                (r.0, r.1, then_out q r.0 h r.2, ap₂ less (same q w h) (same q r.0 h) ∙ r.3)
          ];
          inside = λ x t. i.inside x (left_un x t);
          placed = gone;
          missed = λ w b z. elim (cases_eq w v) [
            | inl e ↦ (p, omega arith, pn, here ∙ sym e)
            | inr d ↦
                let q = i.missed w b (sym (without_other un left v w taken d) ∙ z) in
                (q.0, omega (arith, q.1), q.2, others q.0 (λ e. omega (arith, q.1)) ∙ q.3)
          ];
          fresh = next_label;
          own = λ q h l.
              kept (at new q) (gone q h l)
              ∙ elim (cases_eq q p) [
                | inl m ↦ own_here q m
                | inr d ↦
                    ap (λ x. lab x) (others q d) ∙ i.own q (omega arith) l ∙ sym (same q (at o q) h)
                    ∙ ap (λ x. label_before blank raise n g new q x) (sym (others q d))
              ];
        }
      where
        own_here : (q : ℕ) → q ≡ p → lab (at new q) ≡ label_before blank raise n g new q (at new q)
        own_here q m =
            subst (λ q. lab (at new q) ≡ label_before blank raise n g new q (at new q)) (sym m) (ap (λ x. lab x) here ∙ sym own_label)

        low_here :
            (q w : ℕ) → q ≡ p → w < at new q → Out n new q w →
            (r : ℕ) × (r < n) × Out n new q r × (less (label_before blank raise n g new q w) (label_before blank raise n g new q r) ≡ true)
        low_here q w m b f =
            let less_v : w < v = subst (λ x. w < x) (ap (λ x. at new x) m ∙ here) b in
            let vn = i.inside v chosen in
            let t = unplaced w (omega arith) (now_out p w (omega arith) (subst (λ x. Out n new x w) m f)) in
            let r = lowest w less_v t in
            subst
            (λ q. (r : ℕ) × (r < n) × Out n new q r × (less (label_before blank raise n g new q w) (label_before blank raise n g new q r) ≡ true)) (sym m)
            (r.0, i.inside r.0 r.1, then_out p r.0 (omega arith) (out r.0 r.1), ap₂ less (sym (before w t)) (sym (before r.0 r.1)) ∙ r.2)

        next_label : (k x : ℕ) → suc k ≡ p → left x ≡ true → next x ≡ label_before blank raise n g new k x
        next_label k x e t =
            let b : (g v x && left x) ≡ g x (at new p) =
            ap (λ y. g v x && y) t ∙ and_one (g v x) ∙ turn v x ∙ ap (λ y. g x y) (sym here) in
            raising x
            ∙ ap₂ (λ (y : Bool) (l : L). cond y (raise l p) l) b (before x (left_un x t))
            ∙ sym (subst
            (λ q. raised raise blank (passing (λ q. g x (at new q)) k n)
            ≡ cond (g x (at new q)) (raise (raised raise blank (passing (λ q. g x (at new q)) q n)) q) (raised raise blank (passing (λ q. g x (at new q)) q n)))
            e (raised_next raise (λ q. g x (at new q)) k n (omega arith) blank))
          where
            and_one : (y : Bool) → (y && true) ≡ y
            and_one true = refl
            and_one false = refl

  -- after the last turn
  pub placing_all : (o : List ℕ) (un : ℕ → Bool) (lab : ℕ → L) → Placing blank raise less n 0 g o un lab → n ≤ length o → Searched blank raise less n g (take n o)
  placing_all o un lab i long =
      record {
        order = order;
        unexceeded = λ p q pn qp.
            ap₂ less (is p p pn pn) (is p q pn (omega arith)) ∙ i.top p (at o q) (omega arith) pn (i.below q (omega arith) (omega arith)) (out p q pn qp);
        lowest = λ p q pn qp l.
            let m = i.low p (at o q) (omega arith) pn (subst₂_lt (same q (omega arith)) (same p pn) l) (out p q pn qp) in
            let j = member_place m.0 r (order_has order m.0 m.1) in
            let jn : j.0 < n = (let f = order.full in omega (arith, j.1)) in
            let near : j.0 ≤ p = elim (cases_lt p j.0) [ inl b ↦ absurd (m.2 j.0 b jn (sym (same j.0 jn) ∙ j.2)) | inr b ↦ b ] in
            (j.0, near, ap₂ less (is p q pn (omega arith)) (is' p (at r j.0) pn ∙ ap (λ x. label_before blank raise n g o p x) j.2) ∙ m.3);
      }
    where
      r : List ℕ
      r = take n o

      same : (q : ℕ) → q < n → at r q ≡ at o q
      same q l = get_or-take n o q 0 l

      is' : (p w : ℕ) → p < n → label_before blank raise n g r p w ≡ label_before blank raise n g o p w
      is' p w l = label_same blank raise n g r o p w (λ q h b. same q b)

      is : (p q : ℕ) → p < n → q < n → label_before blank raise n g r p (at r q) ≡ label_before blank raise n g o p (at o q)
      is p q l k = is' p (at r q) l ∙ ap (λ x. label_before blank raise n g o p x) (same q k)

      subst₂_lt : {a b c d : ℕ} → a ≡ b → c ≡ d → a < c → b < d
      subst₂_lt e f l = omega arith

      order : Order n r
      order =
          record {
            full = simp length-take (omega arith);
            below = λ p l. subst (λ x. x < n) (sym (same p l)) (i.below p (omega arith) l);
            differ = λ p q l k e. i.differ p q (omega arith) l k (sym (same p (omega arith)) ∙ e ∙ same q k);
          }

      out : (p q : ℕ) → p < n → q ≤ p → Out n o p (at o q)
      out p q pn qp x l k e = i.differ q x (omega arith) (omega arith) k (sym e)
