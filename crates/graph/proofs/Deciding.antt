-- Tests that decide, for graphs drawn from lists of pairs, what a step lays and what a search finds.
use Rattle.std.proofs.Common.{◌≡◌, ℕ, zero, suc, ◌<◌, ◌≤◌, Bool, true, false, not, ◌&&◌, ◌||◌, eqb, ltb, ◌≢◌, List, [], ◌∷◌, length, sym, refl, ◌∙◌, subst, inl, inr, arith}
use Rattle.std.proofs.lemmas.Bool.{both_ways, cases_eq, eqb-true, eqb-false, ltb-true, lt-ltb, or_cases, or_left, or_right, and_parts, and_from, not-true, not_from_false, false≢true}
use Rattle.graph.specs.Graphs.{Graph, Edge, Simple, at}
use Rattle.graph.specs.Links.{laying}
use Rattle.graph.specs.Search.{Searched, label_before}
use Rattle.graph.specs.Kinds.{no_position, with_position, lesser, agree}
use Rattle.graph.proofs.Walks.{gap_by}
use Rattle.graph.proofs.Steps.{laid_simple}
use Rattle.graph.proofs.Linking.{laying_laid}
use Rattle.graph.proofs.Searches.{searched_unique}
use Rattle.graph.specs.Small.{Ties, drawn, Takes, Finds}

-- do all below n pass?
abbrev pub every : (ℕ → Bool) → ℕ → Bool
every test zero = true
every test (suc m) = test m && every test m

-- does one below n pass?
abbrev pub some : (ℕ → Bool) → ℕ → Bool
some test zero = false
some test (suc m) = test m || some test m

-- then each does
pub every_at : (test : ℕ → Bool) (n : ℕ) → every test n ≡ true → (x : ℕ) → x < n → test x ≡ true
every_at test zero e x l = absurd (omega arith)
every_at test (suc m) e x l =
    let p = and_parts (test m) _ e in
    elim (cases_eq x m) [ inl i ↦ subst (λ y. test y ≡ true) (sym i) p.0 | inr i ↦ every_at test m p.1 x (omega arith) ]

-- then there is one
pub some_at : (test : ℕ → Bool) (n : ℕ) → some test n ≡ true → (x : ℕ) × (x < n) × (test x ≡ true)
some_at test zero e = absurd (false≢true e)
some_at test (suc m) e =
    elim (or_cases (test m) _ e) [
      | inl y ↦ (m, omega arith, y)
      | inr y ↦ let i = some_at test m y in (i.0, omega (arith, i.1), i.2)
    ]

-- are these pairs of different numbers below n?
abbrev pub fits : ℕ → Ties → Bool
fits n [] = true
fits n (p ∷ ps) = (ltb p.0 n && (ltb p.1 n && not (eqb p.0 p.1))) && fits n ps

-- a pair turned round
one_turn : (x y a b : ℕ) → ((eqb a x && eqb b y) || (eqb a y && eqb b x)) ≡ true → ((eqb b x && eqb a y) || (eqb b y && eqb a x)) ≡ true
one_turn x y a b e =
    elim (or_cases (eqb a x && eqb b y) _ e) [
      | inl f ↦ let p = and_parts (eqb a x) _ f in or_right (eqb b x && eqb a y) _ (and_from _ _ p.1 p.0)
      | inr f ↦ let p = and_parts (eqb a y) _ f in or_left (eqb b x && eqb a y) _ (and_from _ _ p.1 p.0)
    ]

-- a drawn graph is symmetric
drawn_turn : (ps : Ties) (a b : ℕ) → Edge (drawn ps) a b → Edge (drawn ps) b a
drawn_turn [] a b e = e
drawn_turn (p ∷ ps) a b e =
    elim (or_cases ((eqb a p.0 && eqb b p.1) || (eqb a p.1 && eqb b p.0)) _ e) [
      | inl f ↦ or_left ((eqb b p.0 && eqb a p.1) || (eqb b p.1 && eqb a p.0)) _ (one_turn p.0 p.1 a b f)
      | inr f ↦ or_right ((eqb b p.0 && eqb a p.1) || (eqb b p.1 && eqb a p.0)) _ (drawn_turn ps a b f)
    ]

-- and joins different numbers below n
drawn_apart : (n : ℕ) (ps : Ties) → fits n ps ≡ true → (a b : ℕ) → Edge (drawn ps) a b → (a ≢ b) × (b < n)
drawn_apart n [] t a b e = absurd (false≢true e)
drawn_apart n (p ∷ ps) t a b e =
    let q = and_parts (ltb p.0 n && (ltb p.1 n && not (eqb p.0 p.1))) _ t in
    let r = and_parts (ltb p.0 n) _ q.0 in
    let s = and_parts (ltb p.1 n) _ r.1 in
    let l = ltb-true p.0 n r.0 in
    let m = ltb-true p.1 n s.0 in
    let d = eqb-false p.0 p.1 (not-true _ s.1) in
    elim (or_cases ((eqb a p.0 && eqb b p.1) || (eqb a p.1 && eqb b p.0)) _ e) [
      | inr f ↦ drawn_apart n ps q.1 a b f
      | inl f ↦
          elim (or_cases (eqb a p.0 && eqb b p.1) _ f) [
            | inl g ↦
                let u = and_parts (eqb a p.0) _ g in
                let i = eqb-true a p.0 u.0 in
                let j = eqb-true b p.1 u.1 in
                ((λ w. d (sym i ∙ w ∙ j)), omega arith)
            | inr g ↦
                let u = and_parts (eqb a p.1) _ g in
                let i = eqb-true a p.1 u.0 in
                let j = eqb-true b p.0 u.1 in
                ((λ w. d (sym j ∙ sym w ∙ i)), omega arith)
          ]
    ]

-- so it is simple
pub drawn_simple : (n : ℕ) (ps : Ties) → fits n ps ≡ true → Simple n (drawn ps)
drawn_simple n ps t =
    record {
      symmetric = drawn_turn ps;
      loopless = λ a. gap_by (λ e. (drawn_apart n ps t a a e).0 refl);
      within = λ a b e. (drawn_apart n ps t a b e).1;
    }

-- tests that agree are equal
agree_true : (a b : Bool) → agree a b ≡ true → a ≡ b
agree_true true true e = refl
agree_true true false e = absurd (false≢true e)
agree_true false true e = absurd (false≢true e)
agree_true false false e = refl

module _ (n : ℕ) (ps : Ties) (v : ℕ) (qs : Ties) where
  -- is a pair laid by a take of v exactly when it is in the second list?
  abbrev laid_right : ℕ → ℕ → Bool
  laid_right a b = agree (laying n (drawn ps) v a b && not (drawn ps a b)) (drawn qs a b)

  -- is every pair?
  abbrev pub lays_just : Bool
  lays_just = every (λ a. every (laid_right a) n) n

  -- then that is what a take of v lays
  pub takes_by : fits n ps ≡ true → fits n qs ≡ true → lays_just ≡ true → Takes ps v qs
  takes_by t u r a b =
      let s = drawn_simple n ps t in
      let w = drawn_simple n qs u in
      let l = laying_laid s v in
      let m = laid_simple s l in
      let is : a < n → b < n → (laying n (drawn ps) v a b && not (drawn ps a b)) ≡ drawn qs a b =
      λ i j. agree_true _ _ (every_at (laid_right a) n (every_at (λ a. every (laid_right a) n) n r a i) b j) in (
        λ f.
            let e = (l a b).1 (inr f) in
            sym (is (m.within b a (m.symmetric a b e)) (m.within a b e)) ∙ and_from _ _ e (not_from_false _ f.gap),
        λ e.
            let k = is (w.within b a (w.symmetric a b e)) (w.within a b e) ∙ e in
            let p = and_parts (laying n (drawn ps) v a b) _ k in
            elim ((l a b).0 p.0) [ inl y ↦ absurd (both_ways _ (not-true _ p.1) y) | inr f ↦ f ],
      )

module _ {L : Type 0} (blank : L) (raise : L → ℕ → L) (less : L → L → Bool) (n : ℕ) (g : Graph) (o : List ℕ) where
  -- the label of entry q when position p is about to be filled
  abbrev label : ℕ → ℕ → L
  label p q = label_before blank raise n g o p (at o q)

  -- is entry p a vertex, and none before it?
  abbrev new_at : ℕ → Bool
  new_at p = ltb (at o p) n && every (λ q. not (eqb (at o q) (at o p))) p

  -- does the label of entry q not exceed that of entry p, and is it exceeded where entry q is lower?
  abbrev right_at : ℕ → ℕ → Bool
  right_at p q = not (less (label p p) (label p q)) && (not (ltb (at o q) (at o p)) || some (λ r. less (label p q) (label p r)) (suc p))

  -- does the list have every vertex once?
  abbrev pub in_order : Bool
  in_order = eqb (length o) n && every new_at n

  -- does each position have the lowest of the unplaced vertices whose label none exceeds?
  abbrev pub topped : Bool
  topped = every (λ p. every (right_at p) (suc p)) n

  -- then it is a searched order
  searched_by : in_order ≡ true → topped ≡ true → Searched blank raise less n g o
  searched_by t u =
      let f = and_parts (eqb (length o) n) _ t in
      let new : (p : ℕ) → p < n → (ltb (at o p) n ≡ true) × (every (λ q. not (eqb (at o q) (at o p))) p ≡ true) =
      λ p l. and_parts (ltb (at o p) n) _ (every_at new_at n f.1 p l) in
      let right :
      (p q : ℕ) → p < n → q ≤ p →
      (not (less (label p p) (label p q)) ≡ true) × ((not (ltb (at o q) (at o p)) || some (λ r. less (label p q) (label p r)) (suc p)) ≡ true) =
      λ p q l k. and_parts (not (less (label p p) (label p q))) _ (every_at (right_at p) (suc p) (every_at (λ p. every (right_at p) (suc p)) n u p l) q (omega arith)) in
      record {
        order =
            record {
              full = eqb-true (length o) n f.0;
              below = λ p l. ltb-true (at o p) n (new p l).0;
              differ = λ p q l k. eqb-false _ _ (not-true _ (every_at (λ p. not (eqb (at o p) (at o q))) q (new q k).1 p l));
            };
        unexceeded = λ p q l k. not-true _ (right p q l k).0;
        lowest = λ p q l k d.
            elim (or_cases (not (ltb (at o q) (at o p))) _ (right p q l k).1) [
              | inl z ↦ absurd (both_ways _ (not-true _ z) (lt-ltb _ _ d))
              | inr z ↦
                  let r = some_at (λ r. less (label p q) (label p r)) (suc p) z in
                  (r.0, omega (arith, r.1), r.2)
            ];
      }

-- and the only one
pub finds_by :
    (n : ℕ) (ps : Ties) (r : List ℕ) → in_order no_position with_position lesser n (drawn ps) r ≡ true →
    topped no_position with_position lesser n (drawn ps) r ≡ true → Finds n ps r
finds_by n ps r t u o =
    let s = searched_by no_position with_position lesser n (drawn ps) r t u in
    ((λ x. searched_unique x s), λ e. subst (λ x. Searched no_position with_position lesser n (drawn ps) x) (sym e) s)
