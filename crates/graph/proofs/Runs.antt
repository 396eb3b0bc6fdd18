-- Runs of laying steps: where they end, what they free, that they are least, and that elimination joins what they lay.
use Rattle.std.proofs.Common.{◌≡◌, ℕ, ◌<◌, true, eqb, ◌⊎◌, List, [], ◌∷◌, ◌++◌, sym, ◌∙◌, subst, inl, inr}
use Rattle.std.proofs.lemmas.Bool.{both_ways, cases_Bool, or_cases, or_left, or_right, and_from, eqb-true, ne_eqb, not_from_false, false≢true}
use Rattle.graph.specs.Graphs.{Graph, Edge, Gap, Simple, Inside, Outside, Free, Laid, Same, Lays, member, joined, eliminated}
use Rattle.graph.proofs.Walks.{carry, short, shortfall, gap_by, edge_by}
use Rattle.graph.proofs.Steps.{laid_inside, laid_simple, laid_free, at_laid, free_keeps, free_stays}

-- graphs with the same edges are equal
pub same_eq : {g h : Graph} → Same g h → g ≡ h
same_eq e = λ i a b. e a b i

-- graphs inside one another have the same edges
pub same_by : {g h : Graph} → Inside g h → Inside h g → Same g h
same_by {g} {h} gh hg a b =
    elim (cases_Bool (g a b)) [
      | inl y ↦ y ∙ sym (gh a b y)
      | inr z ↦ z ∙ sym (gap_by (λ y. both_ways _ z (hg a b y)))
    ]

-- what laying gives is one graph only
pub laid_unique : (g h k : Graph) (v : ℕ) → Laid g v h → Laid g v k → Same h k
laid_unique g h k v l m = same_by (λ a b e. (m a b).1 ((l a b).0 e)) (λ a b e. (l a b).1 ((m a b).0 e))

-- and so is what a run ends in
pub lays_unique : (vs : List ℕ) (g h k : Graph) → Lays g vs h → Lays g vs k → Same h k
lays_unique [] g h k l m = λ a b. sym (l a b) ∙ m a b
lays_unique (v ∷ vs) g h k l m =
    lays_unique vs l.0 h k l.2 (subst (λ x. Lays x vs k) (sym (same_eq (laid_unique g l.0 m.0 v l.1 m.1))) m.2)

-- elimination keeps every edge
pub eliminated_over : (o : List ℕ) (g : Graph) → Inside g (eliminated g o)
eliminated_over [] g a b e = e
eliminated_over (v ∷ vs) g a b e = eliminated_over vs (joined g v vs) a b (or_left (g a b) _ e)

module _ {n : ℕ} where
  -- the graph stays simple
  pub lays_simple : (vs : List ℕ) {g : Graph} (h : Graph) → Simple n g → Lays g vs h → Simple n h
  lays_simple [] h s l = subst (λ k. Simple n k) (same_eq l) s
  lays_simple (v ∷ vs) h s l = lays_simple vs h (laid_simple s l.1) l.2

  -- every edge stays
  pub lays_inside : (vs : List ℕ) {g : Graph} (h : Graph) → Simple n g → Lays g vs h → Inside g h
  lays_inside [] h s l a b e = sym (l a b) ∙ e
  lays_inside (v ∷ vs) h s l a b e = lays_inside vs h (laid_simple s l.1) l.2 a b (laid_inside s l.1 a b e)

  -- a free vertex stays free
  lays_stays : (vs : List ℕ) {g : Graph} (h : Graph) → Simple n g → Lays g vs h → (x : ℕ) → Free g x → Free h x
  lays_stays [] h s l x f = subst (λ k. Free k x) (same_eq l) f
  lays_stays (v ∷ vs) h s l x f = lays_stays vs h (laid_simple s l.1) l.2 x (free_stays s l.1 f)

  -- and gets no new edge
  lays_keeps : (vs : List ℕ) {g : Graph} (h : Graph) → Simple n g → Lays g vs h → (x : ℕ) → Free g x → (y : ℕ) → Edge h x y → Edge g x y
  lays_keeps [] h s l x f y e = l x y ∙ e
  lays_keeps (v ∷ vs) h s l x f y e =
      free_keeps s l.1 f y (lays_keeps vs h (laid_simple s l.1) l.2 x (free_stays s l.1 f) y e)

  -- each vertex of the run is free at its end
  pub lays_frees : (vs : List ℕ) {g : Graph} (h : Graph) → Simple n g → Lays g vs h → (x : ℕ) → member x vs ≡ true → Free h x
  lays_frees [] h s l x m = absurd (false≢true m)
  lays_frees (v ∷ vs) h s l x m =
      let k = laid_simple s l.1 in
      elim (or_cases (eqb x v) (member x vs) m) [
        | inl e ↦ subst (λ y. Free h y) (sym (eqb-true x v e)) (lays_stays vs h k l.2 v (laid_free s l.1))
        | inr e ↦ lays_frees vs h k l.2 x e
      ]

  -- the run stays inside every graph between that has all its vertices free
  pub lays_least :
      (vs : List ℕ) {g : Graph} (h k : Graph) → Simple n g → Simple n k → ((x : ℕ) → Free k x) → Lays g vs h → Inside g k → Inside k h → Inside h k
  lays_least [] h k s t free l gk kh = λ a b e. gk a b (l a b ∙ e)
  lays_least (v ∷ vs) {g} h k s t free l gk kh =
      lays_least vs h k m t free l.2 mk kh
    where
      m : Simple n l.0
      m = laid_simple s l.1

      -- outside v in g is outside v in k
      out : (c : ℕ) → Outside g v c → Outside k v c
      out c o = (
        o.0,
        gap_by (λ e. both_ways _ o.1 (at_laid s l.1 c (lays_keeps vs h m l.2 v (laid_free s l.1) c (kh v c e)))),
      )

      -- the step stays inside k
      mk : Inside l.0 k
      mk a b e =
          elim ((l.1 a b).0 e) [
            | inl o ↦ gk a b o
            | inr f ↦
                let w = short s f in
                edge_by (λ z. free v a b
                (shortfall t
                (record { apart = w.apart; gap = z; left = gk v a w.left; right = gk v b w.right; walk = carry gk out w.walk })))
          ]

  -- what a run lays, the elimination of an order that begins with the run joins: where each vertex is free or to come
  sandwich_from :
      (vs rest : List ℕ) {g : Graph} (h k : Graph) → Simple n g → Lays g vs h → Inside g k →
      ((x : ℕ) → x < n → Free g x ⊎ (member x (vs ++ rest) ≡ true)) → Inside h (eliminated k (vs ++ rest))
  sandwich_from [] rest h k s l gk all = λ a b e. eliminated_over rest k a b (gk a b (l a b ∙ e))
  sandwich_from (v ∷ vs) rest {g} h k s l gk all =
      sandwich_from vs rest h (joined k v (vs ++ rest)) m l.2 mk later
    where
      m : Simple n l.0
      m = laid_simple s l.1

      -- after the step, too, each vertex is free or to come
      later : (x : ℕ) → x < n → Free l.0 x ⊎ (member x (vs ++ rest) ≡ true)
      later x b =
          elim (all x b) [
            | inl f ↦ inl (free_stays s l.1 f)
            | inr i ↦
                elim (or_cases (eqb x v) (member x (vs ++ rest)) i) [
                  | inl e ↦ inl (subst (λ y. Free l.0 y) (sym (eqb-true x v e)) (laid_free s l.1))
                  | inr e ↦ inr e
                ]
          ]

      -- an end of a new edge is yet to come
      left : (a b : ℕ) → Edge l.0 a b → Gap g a b → Edge g v a → member a (vs ++ rest) ≡ true
      left a b e z y =
          elim (all a (s.within v a y)) [
            | inl f ↦ absurd (both_ways _ z (free_keeps s l.1 f b e))
            | inr i ↦
                elim (or_cases (eqb a v) (member a (vs ++ rest)) i) [
                  | inl q ↦ absurd (both_ways _ (s.loopless v) (subst (λ c. Edge g v c) (eqb-true a v q) y))
                  | inr q ↦ q
                ]
          ]

      -- elimination joins what the step lays
      mk : Inside l.0 (joined k v (vs ++ rest))
      mk a b e =
          elim ((l.1 a b).0 e) [
            | inl o ↦ or_left (k a b) _ (gk a b o)
            | inr f ↦
                let w = short s f in
                let back : Gap g b a = gap_by (λ y. both_ways _ w.gap (s.symmetric b a y)) in
                or_right (k a b) _
                (and_from _ _ (not_from_false _ (ne_eqb a b w.apart))
                (and_from _ _ (left a b e w.gap w.left)
                (and_from _ _ (left b a (m.symmetric a b e) back w.right) (and_from _ _ (gk v a w.left) (gk v b w.right)))))
          ]

  -- where each vertex is to come
  pub sandwich :
      (vs rest : List ℕ) {g : Graph} (h : Graph) → Simple n g → Lays g vs h →
      ((x : ℕ) → x < n → member x (vs ++ rest) ≡ true) → Inside h (eliminated g (vs ++ rest))
  sandwich vs rest {g} h s l all = sandwich_from vs rest h g s l (λ a b e. e) (λ x b. inr (all x b))
