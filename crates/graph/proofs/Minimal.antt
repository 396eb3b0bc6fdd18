-- Runs over every vertex end in minimal triangulations, and reach each of them; perfect orders of chordal graphs.
use Rattle.std.proofs.Common.{◌≡◌, ℕ, ◌<◌, ◌≤◌, Bool, true, List, [], sym, subst, inl, inr, append-nil, arith}
use Rattle.std.proofs.lemmas.Bool.{cases_lt}
use Rattle.graph.specs.Graphs.{Graph, Simple, Inside, Free, Lays, member, Chordal, Order, Perfect, eliminated, MinimalTriangulation}
use Rattle.graph.specs.Search.{LabelLaws, Searched}
use Rattle.graph.proofs.Walks.{short}
use Rattle.graph.proofs.Runs.{same_eq, same_by, lays_simple, lays_inside, lays_frees, lays_least, sandwich}
use Rattle.graph.proofs.Dominance.{searched_undominated, undominated_perfect}
use Rattle.graph.proofs.Rings.{chordal_free, free_chordal}
use Rattle.graph.proofs.Linking.{run}
use Rattle.graph.proofs.Orders.{order_has}
use Rattle.graph.proofs.Labels.{falling_below, count_less, count_laws}
use Rattle.graph.proofs.Searches.{searched_made}
use Rattle.graph.proofs.Eliminating.{perfect_eliminated}

-- a number past the vertices is free
beyond : {n : ℕ} {g : Graph} → Simple n g → (x : ℕ) → n ≤ x → Free g x
beyond s x l a b f =
    let i = s.within a x (s.symmetric x a (short s f).left) in
    omega arith

-- a run over every vertex ends in a chordal graph
run_chordal : {n : ℕ} {g : Graph} (vs : List ℕ) (h : Graph) → Simple n g → ((x : ℕ) → x < n → member x vs ≡ true) → Lays g vs h → Chordal n h
run_chordal {n} vs h s all l =
    let t = lays_simple vs h s l in
    free_chordal t (λ x. elim (cases_lt x n) [ inl b ↦ lays_frees vs h s l x (all x b) | inr b ↦ beyond t x b ])

-- and in a minimal triangulation
pub run_minimal :
    {n : ℕ} {g : Graph} (vs : List ℕ) (h : Graph) → Simple n g → ((x : ℕ) → x < n → member x vs ≡ true) → Lays g vs h → MinimalTriangulation n g h
run_minimal vs h s all l =
    record {
      simple = lays_simple vs h s l;
      chordal = run_chordal vs h s all l;
      over = lays_inside vs h s l;
      least = λ k t c gk kh. lays_least vs h k s t (chordal_free t c) l gk kh;
    }

-- a searched order of a chordal graph is perfect
pub searched_perfect :
    {L : Type 0} {blank : L} {raise : L → ℕ → L} {less : L → L → Bool} {n : ℕ} {g : Graph} {o : List ℕ} →
    LabelLaws blank raise less → n ≤ 256 → Simple n g → Chordal n g → Searched blank raise less n g o → Perfect n g o
searched_perfect laws small s c r =
    undominated_perfect s (chordal_free s c) r.order
    (searched_undominated (λ xs ys f g. laws.inclusion xs ys (falling_below f 256 small) (falling_below g 256 small)) r)

-- a chordal graph has a perfect order: one searched by counts
pub perfect_order : {n : ℕ} {g : Graph} → Simple n g → Chordal n g → (o : List ℕ) × Order n o × Perfect n g o
perfect_order {n} {g} s c =
    let r = searched_made count_laws n g in
    (r.0, r.1.order, undominated_perfect s (chordal_free s c) r.1.order (searched_undominated (λ xs ys f g k l. count_less xs ys l) r.1))

-- every minimal triangulation is laid along an order
pub minimal_laid : {n : ℕ} {g h : Graph} → Simple n g → MinimalTriangulation n g h → (o : List ℕ) × Order n o × Lays g o h
minimal_laid {n} {g} {h} s m =
    let p = perfect_order m.simple m.chordal in
    let o = p.0 in
    let has = order_has p.1 in
    let r = run o s in
    let k = r.0 in
    let full = p.1.full in
    let inside : Inside k h =
    λ a b e. perfect_eliminated o g h (λ i j l ij il jn ln. p.2 i j l ij il (omega arith) (omega arith)) m.over a b
    (subst (λ q. Inside k (eliminated g q)) (append-nil o) (sandwich o [] k s r.1 (λ x b. subst (λ q. member x q ≡ true) (sym (append-nil o)) (has x b))) a b e) in
    let back : Inside h k =
    m.least k (lays_simple o k s r.1) (run_chordal o k s has r.1) (lays_inside o k s r.1) inside in
    (o, p.1, subst (λ q. Lays g o q) (same_eq (same_by inside back)) r.1)
