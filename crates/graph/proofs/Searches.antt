-- Every graph has a searched order, and one only.
use Rattle.std.proofs.Common.{◌≡◌, ℕ, zero, suc, ◌+◌, ◌-◌, ◌<◌, ◌≤◌, Bool, true, false, not, ◌≢◌, List, [], ◌∷◌, length, sym, refl, ap, ◌∙◌, subst, ap₂, inl, inr, arith}
use Rattle.std.proofs.lemmas.Bool.{both_ways, cases_order, cases_lt, not-true, not_from_false, not-false}
use Rattle.graph.specs.Graphs.{Graph, at, member, Order}
use Rattle.graph.specs.Search.{raised, passing, label_before, LabelLaws, Searched}
use Rattle.graph.proofs.Walks.{gap_by}
use Rattle.graph.proofs.Finding.{find, pick}
use Rattle.graph.proofs.Counting.{size_le, size_all}
use Rattle.graph.proofs.Orders.{Differ, Below, member_at, member_place, order_place, has_size}
use Rattle.std.proofs.lemmas.List.FromFn.{fill_by_all}
pub use Rattle.graph.proofs.Finding.{peak}
pub use Rattle.graph.proofs.Labels.{passing_same}

module _ {L : Type 0} {blank : L} {raise : L → ℕ → L} {less : L → L → Bool} (laws : LabelLaws blank raise less) (n : ℕ) (g : Graph) where
  -- the label of v at position p, where the list has the vertices from position m on
  from : ℕ → List ℕ → ℕ → ℕ → L
  from m os p v = raised raise blank (passing (λ q. g v (at os (q - m))) p n)

  -- a vertex in front changes no label at its position or later
  from_more : (m : ℕ) (os : List ℕ) (a p v : ℕ) → m ≤ p → from m (a ∷ os) p v ≡ from (suc m) os p v
  unfolding from
  from_more m os a p v l =
      ap (λ xs. raised raise blank xs)
      (passing_same _ _ p n (λ q k b.
      let e : q - m ≡ suc (q - suc m) = omega arith in
      ap (λ x. g v (at (a ∷ os) x)) e))

  -- w stands nowhere after place p
  abbrev Out : List ℕ → ℕ → ℕ → Type 0
  Out os p w = (i : ℕ) → p < i → i < length os → at os i ≢ w

  -- at place p: no label exceeds that of its entry, and one exceeds that of a lower vertex w
  record Right (m : ℕ) (os : List ℕ) (p w : ℕ) : Type 0 where
    top : less (from m os (m + p) (at os p)) (from m os (m + p) w) ≡ false
    low : w < at os p → (r : ℕ) × (r < n) × Out os p r × (less (from m os (m + p) w) (from m os (m + p) r) ≡ true)

  -- the searched order from position m on
  record Made (m : ℕ) (os : List ℕ) : Type 0 where
    full : m + length os ≡ n
    differ : Differ os
    below : Below n os
    right : (p w : ℕ) → p < length os → w < n → Out os p w → Right m os p w

  -- one position more, for the lowest of the unplaced vertices whose label none exceeds
  more : (m : ℕ) (os : List ℕ) → Made (suc m) os → (a : ℕ) → a < n → member a os ≡ false →
      ((w : ℕ) → w < n → member w os ≡ false → less (from (suc m) os (m + 0) a) (from (suc m) os (m + 0) w) ≡ false) →
      ((w : ℕ) → w < a → member w os ≡ false → (r : ℕ) × (r < n) × (member r os ≡ false) × (less (from (suc m) os (m + 0) w) (from (suc m) os (m + 0) r) ≡ true)) →
      Made m (a ∷ os)
  more m os i a an new top low =
      record { full = (let f = i.full in omega arith); differ = differ; below = below; right = right }
    where
      differ : Differ (a ∷ os)
      differ zero zero l b = absurd (omega arith)
      differ zero (suc q) l b = λ e. both_ways _ new (subst (λ x. member x os ≡ true) (sym e) (member_at os q (omega arith)))
      differ (suc p) zero l b = absurd (omega arith)
      differ (suc p) (suc q) l b = i.differ p q (omega arith) (omega arith)

      below : Below n (a ∷ os)
      below zero l = an
      below (suc p) l = i.below p (omega arith)

      -- out of the list
      outside : (w : ℕ) → Out (a ∷ os) 0 w → member w os ≡ false
      outside w o = gap_by (λ y. let p = member_place w os y in o (suc p.0) (omega arith) (omega (arith, p.1)) p.2)

      -- and the other way
      absent : (r : ℕ) → member r os ≡ false → Out (a ∷ os) 0 r
      absent r z zero l b = absurd (omega arith)
      absent r z (suc k) l b = λ e. both_ways _ z (subst (λ x. member x os ≡ true) e (member_at os k (omega arith)))

      -- nowhere later, with a vertex in front
      further : (p r : ℕ) → Out os p r → Out (a ∷ os) (suc p) r
      further p r o zero l b = absurd (omega arith)
      further p r o (suc k) l b = o k (omega arith) (omega arith)

      -- the labels at later positions stay
      same : (p v : ℕ) → from m (a ∷ os) (m + suc p) v ≡ from (suc m) os (suc m + p) v
      same p v =
          let e : m + suc p ≡ suc m + p = omega arith in
          from_more m os a (m + suc p) v (omega arith) ∙ ap (λ x. from (suc m) os x v) e

      -- the labels at the new position
      first : (v : ℕ) → from m (a ∷ os) (m + 0) v ≡ from (suc m) os (m + 0) v
      first v = from_more m os a (m + 0) v (omega arith)

      right : (p w : ℕ) → p < length (a ∷ os) → w < n → Out (a ∷ os) p w → Right m (a ∷ os) p w
      right zero w l wn o =
          record {
            top = ap₂ less (first a) (first w) ∙ top w wn (outside w o);
            low = λ k.
                let r = low w k (outside w o) in
                (r.0, r.1, absent r.0 r.2, ap₂ less (first w) (first r.0) ∙ r.3);
          }
      right (suc p) w l wn o =
          let k = i.right p w (omega arith) wn (λ x b c. o (suc x) (omega arith) (omega arith)) in
          record {
            top = ap₂ less (same p (at os p)) (same p w) ∙ k.top;
            low = λ b.
                let r = k.low b in
                (r.0, r.1, further p r.0 r.2, ap₂ less (same p w) (same p r.0) ∙ r.3);
          }

  -- there is such a vertex
  grow : (m : ℕ) (os : List ℕ) → Made (suc m) os → (a : ℕ) × Made m (a ∷ os)
  grow m os i =
      let any : (w : ℕ) × (w < n) × (not (member w os) ≡ true) =
      elim (find (λ w. not (member w os)) n) [
        | inl f ↦ f
        | inr b ↦
            let h = has_size n os in
            let f = i.full in
            let e = size_le (λ y. true) (λ y. member y os) n (λ y l m. not-false _ (b y l)) in
            let t = size_all n in
            absurd (omega arith)
      ] in
      let p =
      pick (λ w. not (member w os)) (λ x y. less (from (suc m) os (m + 0) x) (from (suc m) os (m + 0) y)) (λ x. laws.irreflexive _)
      (λ x y z. laws.transitive _ _ _) n any in (
        p.0,
        more m os i p.0 p.1 (not-true _ p.2) (λ w wn out. p.3 w wn (not_from_false _ out))
            (λ w wa out. let r = p.4 w wa (not_from_false _ out) in (r.0, r.1, not-true _ r.2, r.3)),
      )

  -- position by position, from the last
  make : (k m : ℕ) → m + k ≡ n → (os : List ℕ) × Made m os
  make zero m e = (
    [],
    record {
      full = e;
      differ = λ p q l b. absurd (omega arith);
      below = λ p l. absurd (omega arith);
      right = λ p w l. absurd (omega arith);
    },
  )
  make (suc k) m e =
      let i = make k (suc m) (omega arith) in
      let j = grow m i.0 i.1 in
      (j.0 ∷ i.0, j.1)

  -- from position 0 on, it is a searched order
  made_searched : (o : List ℕ) → Made 0 o → Searched blank raise less n g o
  unfolding from
  made_searched o m =
      record {
        order = order;
        unexceeded = λ p q pn qp. sym (ap₂ less (is p (at o p)) (is p (at o q))) ∙ (right p q pn qp).top;
        lowest = λ p q pn qp l.
            let r = (right p q pn qp).low l in
            let j = order_place order r.0 r.1 in
            let near : j.0 ≤ p = elim (cases_lt p j.0) [ inl b ↦ absurd (r.2 j.0 b (omega (arith, j.1)) j.2) | inr b ↦ b ] in (
              j.0,
              near,
              ap (λ x. less (label_before blank raise n g o p (at o q)) (label_before blank raise n g o p x)) j.2
                  ∙ sym (ap₂ less (is p (at o q)) (is p r.0)) ∙ r.3,
            );
      }
    where
      full : length o ≡ n
      full = let f = m.full in omega arith

      order : Order n o
      order = record { full = full; below = λ p l. m.below p (omega arith); differ = λ p q l k. m.differ p q l (omega arith) }

      is : (p v : ℕ) → from 0 o (0 + p) v ≡ label_before blank raise n g o p v
      is p v =
          let e : 0 + p ≡ p = omega arith in
          ap (λ x. from 0 o x v) e ∙
          ap (λ xs. raised raise blank xs)
          (passing_same _ _ p n (λ q k b. let z : q - 0 ≡ q = omega arith in ap (λ x. g v (at o x)) z))

      right : (p q : ℕ) → p < n → q ≤ p → Right 0 o p (at o q)
      right p q pn qp =
          m.right p (at o q) (omega arith) (m.below q (omega arith)) (λ i l k y. m.differ q i (omega arith) k (sym y))

  -- every graph has a searched order
  pub searched_made : (o : List ℕ) × Searched blank raise less n g o
  searched_made =
      let i = make n 0 (omega arith) in
      (i.0, made_searched i.0 i.1)

-- orders that agree after p compare vertices alike at p
label_same :
    {L : Type 0} (blank : L) (raise : L → ℕ → L) (less : L → L → Bool) (n : ℕ) (g : Graph) (o r : List ℕ) (p : ℕ) →
    ((q : ℕ) → p < q → q < n → at o q ≡ at r q) → (v w x y : ℕ) → v ≡ x → w ≡ y →
    less (label_before blank raise n g o p v) (label_before blank raise n g o p w) ≡ less (label_before blank raise n g r p x) (label_before blank raise n g r p y)
label_same blank raise less n g o r p f v w x y a b = ap₂ less (same v ∙ ap (λ z. label_before blank raise n g r p z) a) (same w ∙ ap (λ z. label_before blank raise n g r p z) b)
  where
    same : (z : ℕ) → label_before blank raise n g o p z ≡ label_before blank raise n g r p z
    same z = ap (λ xs. raised raise blank xs) (passing_same _ _ p n (λ q l b. ap (λ x. g z x) (f q l b)))

-- an entry of r at p or before stands in o at p or before
placed :
    {n : ℕ} {o r : List ℕ} → Order n o → Order n r → (p : ℕ) → ((q : ℕ) → p < q → q < n → at o q ≡ at r q) →
    (s : ℕ) → s ≤ p → p < n → (q : ℕ) × (q ≤ p) × (at o q ≡ at r s)
placed {n} {o} {r} x y p f s sp pn =
    let i = order_place x (at r s) (y.below s (omega arith)) in
    elim (cases_lt p i.0) [
      | inl b ↦ absurd (y.differ s i.0 (omega arith) i.1 (sym i.2 ∙ f i.0 b i.1))
      | inr b ↦ (i.0, b, i.2)
    ]

module _ {L : Type 0} {blank : L} {raise : L → ℕ → L} {less : L → L → Bool} {n : ℕ} {g : Graph} where
  -- of two searched orders that agree after p, no label in one exceeds that of the other's entry
  not_exceeded :
      {o r : List ℕ} → Order n o → Searched blank raise less n g r → (p : ℕ) → ((q : ℕ) → p < q → q < n → at r q ≡ at o q) → p < n →
      (v s : ℕ) → at r p ≡ v → s ≤ p → less (label_before blank raise n g o p v) (label_before blank raise n g o p (at o s)) ≡ true → ⊥
  not_exceeded {o} {r} x y p f pn v s e sp t =
      let j = placed y.order x p f s sp pn in
      both_ways _ (y.unexceeded p j.0 pn j.1) (label_same blank raise less n g r o p f (at r p) (at r j.0) v (at o s) e j.2 ∙ t)

  -- so neither has a lower vertex at p
  not_lower :
      {o r : List ℕ} → Searched blank raise less n g o → Searched blank raise less n g r →
      (p : ℕ) → ((q : ℕ) → p < q → q < n → at o q ≡ at r q) → p < n → at r p < at o p → ⊥
  not_lower {o} x y p f pn l =
      let i = placed x.order y.order p f p (omega arith) pn in
      let e = i.2 in
      let s = x.lowest p i.0 pn i.1 (omega arith) in
      not_exceeded x.order y p (λ q b c. sym (f q b c)) pn (at o i.0) s.0 (sym e) s.1 s.2

  -- so they agree at every position
  agree :
      {o r : List ℕ} → Searched blank raise less n g o → Searched blank raise less n g r →
      (k p : ℕ) → n ≤ k + p → p < n → at o p ≡ at r p
  agree x y zero p b l = absurd (omega arith)
  agree {o} {r} x y (suc k) p b l =
      let f : (q : ℕ) → p < q → q < n → at o q ≡ at r q = λ q pq qn. agree x y k q (omega arith) qn in
      elim (cases_order (at o p) (at r p)) [
        | inl e ↦ e
        | inr c ↦
            elim c [
              | inl d ↦ absurd (not_lower y x p (λ q b c. sym (f q b c)) l d)
              | inr d ↦ absurd (not_lower x y p f l d)
            ]
      ]

  -- a graph has one searched order only
  pub searched_unique : {o r : List ℕ} → Searched blank raise less n g o → Searched blank raise less n g r → o ≡ r
  searched_unique {o} {r} x y =
      fill_by_all (λ k. at r k) o n 0 x.order.full (λ k l. agree x y n k (omega arith) l) ∙
      sym (fill_by_all (λ k. at r k) r n 0 y.order.full (λ k l. refl))
