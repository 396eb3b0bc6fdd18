-- A graph is chordal exactly when each vertex is free.
use Rattle.std.proofs.Common.{◌≡◌, ℕ, zero, suc, ◌+◌, ◌-◌, ◌<◌, ◌≤◌, Bool, true, false, ◌||◌, eqb, ◌≢◌, ◌⊎◌, ◌↔◌, List, [], ◌∷◌, length, sym, refl, ap, ◌∙◌, subst, inl, inr, arith}
use Rattle.std.proofs.lemmas.Bool.{both_ways, cases_order, cases_eq, eqb-true, eqb-false, or_cases, or_parts, or_right}
use Rattle.graph.specs.Graphs.{Graph, Edge, Gap, Simple, Walk, edge, step, Outside, Free, at, Ring, Chordal, Short}
use Rattle.graph.proofs.Walks.{short, shortfall, gap_by}
use Rattle.graph.proofs.Finding.{find}

module _ {n : ℕ} {g : Graph} (s : Simple n g) where
  module _ {r : List ℕ} (ring : Ring n g r) where
    -- the vertices of a ring but for the first and its two neighbours are outside the first
    away : (j : ℕ) → 2 ≤ j → suc j < length r → Outside g (at r 0) (at r j)
    away j low high = (
      λ m. ring.differ 0 j (omega arith) (omega arith) (sym m),
      gap_by (λ e. elim ((ring.joins 0 j (omega arith) (omega arith)).0 e) [ inl m ↦ omega arith | inr m ↦ omega (arith, m.1) ]),
    )

    -- the way round the ring, from entry i to the last
    round : (k i last : ℕ) → suc last ≡ length r → suc (i + k) ≡ last → 1 ≤ i → Walk g (Outside g (at r 0)) (at r i) (at r last)
    round zero i last l e low = edge ((ring.joins i last (omega arith) (omega arith)).1 (inl (omega arith)))
    round (suc k) i last l e low =
        step ((ring.joins i (suc i) (omega arith) (omega arith)).1 (inl refl)) (away (suc i) (omega arith) (omega arith))
        (round k (suc i) last l (omega arith) (omega arith))

    -- so the first has a shortfall
    ring_short : Short g (at r 0) (at r 1) (at r (length r - 1))
    ring_short =
        let long : 4 ≤ length r = ring.long in
        let last = length r - 1 in
        record {
          apart = ring.differ 1 last (omega arith) (omega arith);
          gap =
              gap_by (λ e. elim ((ring.joins 1 last (omega arith) (omega arith)).0 e) [ inl m ↦ omega arith | inr m ↦ omega (arith, m.0) ]);
          left = (ring.joins 0 1 (omega arith) (omega arith)).1 (inl (omega arith));
          right = (ring.joins 0 last (omega arith) (omega arith)).1 (inr (refl, omega arith));
          walk = round (length r - 3) 1 last (omega arith) (omega arith) (omega arith);
        }

  -- a graph whose vertices are all free has no ring
  pub free_chordal : ((x : ℕ) → Free g x) → Chordal n g
  free_chordal free r ring = free _ _ _ (shortfall s (ring_short ring))

-- a is not in the list, and adjacent to none of it
abbrev Clear : Graph → ℕ → List ℕ → Type 0
Clear g a qs = (i : ℕ) → i < length qs → (a ≢ at qs i) × Gap g a (at qs i)

-- a chordless path
data Induced (g : Graph) : List ℕ → Type 0 where
  one : {a : ℕ} → Induced g (a ∷ [])
  more : {a c : ℕ} {qs : List ℕ} → Edge g a c → a ≢ c → Clear g a qs → Induced g (c ∷ qs) → Induced g (a ∷ c ∷ qs)

-- a chordless path without its first vertex
induced_tail : (g : Graph) (c : ℕ) (qs : List ℕ) → 0 < length qs → Induced g (c ∷ qs) → Induced g qs
induced_tail g c [] b i = absurd (omega arith)
induced_tail g c (d ∷ qs) b (more e l k r) = r

-- the vertices of a chordless path differ, and are adjacent exactly when they are neighbours along it
induced_at :
    {g : Graph} {ps : List ℕ} → Induced g ps → (i j : ℕ) → i < j → j < length ps → (at ps i ≢ at ps j) × (Edge g (at ps i) (at ps j) ↔ (j ≡ suc i))
induced_at one i j l b = absurd (omega arith)
induced_at (more e d k r) zero zero l b = absurd (omega arith)
induced_at (more e d k r) zero (suc zero) l b = (d, (λ f. refl, λ m. e))
induced_at (more e d k r) zero (suc (suc j)) l b =
    let c = k j (omega arith) in
    (c.0, (λ f. absurd (both_ways _ c.1 f), λ m. absurd (omega arith)))
induced_at (more e d k r) (suc i) zero l b = absurd (omega arith)
induced_at (more e d k r) (suc i) (suc j) l b =
    let h = induced_at r i j (omega arith) (omega arith) in
    (h.0, (λ f. ap suc (h.1.0 f), λ m. h.1.1 (omega arith)))

-- a chordless path to b; each of its vertices but b is ok
record Tail (g : Graph) (ok : ℕ → Type 0) (b : ℕ) (ps : List ℕ) : Type 0 where
  induced : Induced g ps
  some : 0 < length ps
  end : (k : ℕ) → suc k ≡ length ps → at ps k ≡ b
  inner : (i : ℕ) → suc i < length ps → ok (at ps i)

-- a chordless path from a to b; each vertex between them is ok
record Head (g : Graph) (ok : ℕ → Type 0) (a b : ℕ) (ps : List ℕ) : Type 0 where
  induced : Induced g ps
  some : 0 < length ps
  start : at ps 0 ≡ a
  end : (k : ℕ) → suc k ≡ length ps → at ps k ≡ b
  inner : (i : ℕ) → suc (suc i) < length ps → ok (at ps (suc i))

module _ (g : Graph) (ok : ℕ → Type 0) where
  -- a path from an ok vertex, by its end alone
  with_start : {a b : ℕ} {ps : List ℕ} → ok a → Head g ok a b ps → Tail g ok b ps
  with_start {a} {b} {ps} o h = record { induced = h.induced; some = h.some; end = h.end; inner = all }
    where
      all : (i : ℕ) → suc i < length ps → ok (at ps i)
      all zero l = subst ok (sym h.start) o
      all (suc i) l = h.inner i l

  -- is c equal or adjacent to a?
  hits : ℕ → ℕ → Bool
  hits a c = eqb a c || g a c

  -- where a meets the path: from a straight to the last vertex of it that a meets
  cut : (a b : ℕ) (ps : List ℕ) → Tail g ok b ps → (h : ℕ) → h < length ps → hits a (at ps h) ≡ true → (qs : List ℕ) × Head g ok a b qs
  unfolding hits
  cut a b [] t h l e = absurd (omega arith)
  cut a b (c ∷ qs) t h l e =
      elim (find (λ i. hits a (at qs i)) (length qs)) [
        | inl f ↦
            cut a b qs
            (record {
              induced = induced_tail g c qs (omega (arith, f.1)) t.induced;
              some = omega (arith, f.1);
              end = λ k m. t.end (suc k) (omega arith);
              inner = λ i m. t.inner (suc i) (omega arith);
            })
            f.0 f.1 f.2
        | inr f ↦
            elim (cases_eq a c) [
              | inl m ↦ (
                c ∷ qs,
                record { induced = t.induced; some = t.some; start = sym m; end = t.end; inner = λ i k. t.inner (suc i) k },
              )
              | inr d ↦ (
                a ∷ c ∷ qs,
                record {
                  induced = more (meets f d h l e) d (clear f) t.induced;
                  some = omega arith;
                  start = refl;
                  end = end;
                  inner = λ i k. t.inner i (omega arith);
                },
              )
            ]
      ]
    where
      clear : ((i : ℕ) → i < length qs → hits a (at qs i) ≡ false) → Clear g a qs
      clear f i l =
          let p = or_parts (eqb a (at qs i)) (g a (at qs i)) (f i l) in
          (eqb-false a (at qs i) p.0, p.1)

      meets :
          ((i : ℕ) → i < length qs → hits a (at qs i) ≡ false) → a ≢ c → (h : ℕ) → h < length (c ∷ qs) → hits a (at (c ∷ qs) h) ≡ true → Edge g a c
      meets f d zero l e = elim (or_cases (eqb a c) (g a c) e) [ inl m ↦ absurd (d (eqb-true a c m)) | inr m ↦ m ]
      meets f d (suc h) l e = absurd (both_ways _ (f h (omega arith)) e)

      end : (k : ℕ) → suc k ≡ length (a ∷ c ∷ qs) → at (a ∷ c ∷ qs) k ≡ b
      end zero m = absurd (omega arith)
      end (suc k) m = t.end k (omega arith)

  -- every walk can be shortened to a chordless path
  heads : {a b : ℕ} → Walk g ok a b → (ps : List ℕ) × Head g ok a b ps
  unfolding hits
  heads {a} {b} (edge e) =
      cut a b (b ∷ [])
      (record { induced = one; some = omega arith; end = end; inner = λ i l. absurd (omega arith) }) 0 (omega arith)
      (or_right (eqb a b) (g a b) e)
    where
      end : (k : ℕ) → suc k ≡ length (b ∷ []) → at (b ∷ []) k ≡ b
      end zero m = refl
      end (suc k) m = absurd (omega arith)
  heads {a} {b} (step {c = c} e o r) =
      let i = heads r in
      cut a b i.0 (with_start o i.1) 0 i.1.some
      (subst (λ x. hits a x ≡ true) (sym i.1.start) (or_right (eqb a c) (g a c) e))

-- a shortfall of v and a chordless path outside v between its vertices make a ring
module _ {n : ℕ} {g : Graph} (s : Simple n g) {v a b : ℕ} (w : Short g v a b) {ps : List ℕ} (h : Head g (Outside g v) a b ps) where
  -- the path has a vertex between its ends
  long : 3 ≤ length ps
  long =
      elim (cases_order (length ps) 2) [
        | inl m ↦
            absurd
            (both_ways _ w.gap
            (subst (λ x. Edge g x b) h.start
            (subst (λ x. Edge g (at ps 0) x) (h.end 1 (omega arith)) ((induced_at h.induced 0 1 (omega arith) (omega arith)).1.1 (omega arith)))))
        | inr o ↦
            elim o [
              | inl l ↦ absurd (w.apart (sym h.start ∙ h.end 0 (omega (arith, h.some))))
              | inr l ↦ omega arith
            ]
      ]

  -- an entry of the path is its start, its end or outside v
  kind : (j : ℕ) → j < length ps → ((at ps j ≡ a) × (j ≡ 0)) ⊎ (((at ps j ≡ b) × (suc j ≡ length ps)) ⊎ Outside g v (at ps j))
  kind zero l = inl (h.start, refl)
  kind (suc j) l =
      elim (cases_eq (suc (suc j)) (length ps)) [
        | inl m ↦ inr (inl (h.end (suc j) m, m))
        | inr d ↦ inr (inr (h.inner j (omega arith)))
      ]

  -- the ring is in the graph
  below : (i : ℕ) → i < length (v ∷ ps) → at (v ∷ ps) i < n
  below zero l = s.within a v (s.symmetric v a w.left)
  below (suc zero) l = subst (λ x. x < n) (sym h.start) (s.within v a w.left)
  below (suc (suc i)) l = s.within _ _ ((induced_at h.induced i (suc i) (omega arith) (omega arith)).1.1 refl)

  -- v is not on the path
  from_v : (j : ℕ) → j < length ps → v ≢ at ps j
  from_v j l m =
      elim (kind j l) [
        | inl k ↦ both_ways _ (s.loopless v) (subst (λ x. Edge g v x) (sym (m ∙ k.0)) w.left)
        | inr k ↦
            elim k [
              | inl k ↦ both_ways _ (s.loopless v) (subst (λ x. Edge g v x) (sym (m ∙ k.0)) w.right)
              | inr k ↦ k.0 (sym m)
            ]
      ]

  -- the entries of the ring differ
  differ : (i j : ℕ) → i < j → j < length (v ∷ ps) → at (v ∷ ps) i ≢ at (v ∷ ps) j
  differ zero zero l k = absurd (omega arith)
  differ zero (suc j) l k = from_v j (omega arith)
  differ (suc i) zero l k = absurd (omega arith)
  differ (suc i) (suc j) l k = (induced_at h.induced i j (omega arith) (omega arith)).0

  -- they are adjacent exactly when they are neighbours along it
  joins :
      (i j : ℕ) → i < j → j < length (v ∷ ps) →
      Edge g (at (v ∷ ps) i) (at (v ∷ ps) j) ↔ ((j ≡ suc i) ⊎ ((i ≡ 0) × (suc j ≡ length (v ∷ ps))))
  joins zero zero l k = absurd (omega arith)
  joins zero (suc j) l k = (
    λ e. elim (kind j (omega arith)) [
      | inl k ↦ inl (omega (arith, k.1))
      | inr k ↦ elim k [ inl k ↦ inr (refl, omega (arith, k.1)) | inr k ↦ absurd (both_ways _ k.1 e) ]
    ],
    λ o. elim o [
      | inl m ↦ subst (λ x. Edge g v (at ps x)) (zero_is j m) (subst (λ x. Edge g v x) (sym h.start) w.left)
      | inr m ↦ subst (λ x. Edge g v x) (sym (h.end j (omega (arith, m.1)))) w.right
    ],
  )
    where
      zero_is : (j : ℕ) → suc j ≡ 1 → 0 ≡ j
      zero_is j m = omega arith
  joins (suc i) zero l k = absurd (omega arith)
  joins (suc i) (suc j) l k =
      let h = (induced_at h.induced i j (omega arith) (omega arith)).1 in (
        λ e. inl (ap suc (h.0 e)),
        λ o. elim o [ inl m ↦ h.1 (omega arith) | inr m ↦ absurd (omega (arith, m.0)) ],
      )

  -- v and the path make a ring
  short_ring : Ring n g (v ∷ ps)
  short_ring = let l : 3 ≤ length ps = long in record { long = omega arith; below = below; differ = differ; joins = joins }

-- each vertex of a chordal graph is free
pub chordal_free : {n : ℕ} {g : Graph} → Simple n g → Chordal n g → (x : ℕ) → Free g x
chordal_free s c x a b f =
    let w = short s f in
    let p = heads _ _ w.walk in
    c _ (short_ring s w p.1)

-- a graph is chordal exactly when each vertex is free
pub chordal_iff : {n : ℕ} {g : Graph} → Simple n g → Chordal n g ↔ ((x : ℕ) → Free g x)
chordal_iff s = (chordal_free s, free_chordal s)
