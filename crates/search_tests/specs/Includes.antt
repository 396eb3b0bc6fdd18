-- Inclusion keeps the laws of labels, and an empty difference tells it.
use Rattle.std.specs.Prelude.{◌≡◌, ℕ, zero, suc, ◌<◌, ◌≤◌, Bool, true, false, cond, not, ◌&&◌, ◌||◌, ◌↔◌, List, length, ◌==◌, refl}
use Rattle.std.proofs.Common.{ap, ap₂, sym, ◌∙◌, inl, inr, arith, length-set}
use Rattle.std.proofs.lemmas.Bool.{and_from, and_parts, both_ways, cases_eq, false≢true, not_from_false, not-true, or_cases, or_left, or_right, true≢false}
use Rattle.graph.specs.Search.{Falling, none, next, Kept, empty, keep, drop, raised, LabelLaws}
use Rattle.graph.specs.Kinds.{Positions, no_position, with_position, agree, lower, lesser}
use Rattle.graph.proofs.Positions.{position_laws}
use Rattle.graph.proofs.Walks.{gap_by}
use Rattle.sets.specs.declared.station_set.StationSet.{StationSet}
use Rattle.sets.specs.Sets.{has, Nobody}
use Rattle.sets.proofs.Members.{inserted, empty_has, has_below}
use Rattle.search_tests.specs.declared.inclusion_label.InclusionLabel.{InclusionLabel}
use Rattle.search_tests.specs.Inclusions.{inside, within, inclusion_blank, inclusion_raised, inclusion_less}

-- ---- inclusion below a bound, place by place

abbrev Included : ℕ → Positions → Positions → Type 0
Included k x y = (q : ℕ) → q < k → x q ≡ true → y q ≡ true

implied : (a b : Bool) → (not a || b) ≡ true → a ≡ true → b ≡ true
implied true b e t = e
implied false b e t = absurd (false≢true t)

implies : (a b : Bool) → (a ≡ true → b ≡ true) → (not a || b) ≡ true
implies true b f = f refl
implies false b f = refl

inside_included : (k : ℕ) (x y : Positions) → inside k x y ≡ true → Included k x y
unfolding inside
inside_included zero x y e q l t = absurd (omega arith)
inside_included (suc k) x y e q l t =
    let p = and_parts (not (x k) || y k) (inside k x y) e in
    elim (cases_eq q k) [
      | inl i ↦ ap y i ∙ implied (x k) (y k) p.0 (sym (ap x i) ∙ t)
      | inr d ↦ inside_included k x y p.1 q (omega arith) t
    ]

included_inside : (k : ℕ) (x y : Positions) → Included k x y → inside k x y ≡ true
unfolding inside
included_inside zero x y f = refl
included_inside (suc k) x y f =
    and_from (not (x k) || y k) (inside k x y) (implies (x k) (y k) (f k (omega arith))) (included_inside k x y (λ q l. f q (omega arith)))

-- two sets that hold the same: neither has the highest position in which they differ
same_lower : (k : ℕ) (x y : Positions) → Included k x y → Included k y x → lower k x y ≡ false
same_lower zero x y f g = refl
same_lower (suc k) x y f g =
    at_same (x k) (y k) (lower k x y) (f k (omega arith)) (g k (omega arith))
    (same_lower k x y (λ q l. f q (omega arith)) (λ q l. g q (omega arith)))
  where
    at_same : (a b p : Bool) → (a ≡ true → b ≡ true) → (b ≡ true → a ≡ true) → p ≡ false → cond (agree a b) p b ≡ false
    at_same true true p f g e = e
    at_same true false p f g e = refl
    at_same false true p f g e = absurd (false≢true (g refl))
    at_same false false p f g e = e

-- ---- raising through more positions

more_held : {xs ys : List ℕ} → Kept xs ys → (x y : Positions) → ((q : ℕ) → x q ≡ true → y q ≡ true) →
    (q : ℕ) → raised with_position x xs q ≡ true → raised with_position y ys q ≡ true
more_held empty x y f q e = f q e
more_held (keep {x = p} k) x y f q e =
    more_held k (with_position x p) (with_position y p)
    (λ r h. elim (or_cases (r == p) (x r) h) [ inl z ↦ or_left (r == p) (y r) z | inr z ↦ or_right (r == p) (y r) (f r z) ]) q e
more_held (drop {y = p} k) x y f q e = more_held k x (with_position y p) (λ r h. or_right (r == p) (y r) (f r h)) q e

raised_has :
    {top : ℕ} {xs : List ℕ} → Falling top xs → top ≤ 256 → (l : InclusionLabel) → length l.positions.words ≡ 4 →
    has (raised inclusion_raised l xs).positions ≡ raised with_position (has l.positions) xs
raised_has none b l four = refl
raised_has (next {x = x} {xs = xs} lt f) b l four =
    raised_has f (omega arith) (inclusion_raised l x) (length-set _ _ _ ∙ four)
    ∙ ap (λ h. raised with_position h xs) (λ i j. inserted l.positions x (omega arith) four j i)

blank_has : has inclusion_blank.positions ≡ no_position
blank_has = λ i j. empty_has j i

-- ---- the laws

proper : (p q : Bool) → p ≡ true → q ≡ false → (p && not q) ≡ true
proper p q e f = and_from p (not q) e (not_from_false q f)

never_both : (p : Bool) → (p && not p) ≡ false
never_both true = refl
never_both false = refl

raised_inside : {xs : List ℕ} → Falling 256 xs → has (raised inclusion_raised inclusion_blank xs).positions ≡ raised with_position no_position xs
raised_inside {xs} f = raised_has f (omega arith) inclusion_blank refl ∙ ap (λ h. raised with_position h xs) blank_has

pub inclusion_laws : LabelLaws inclusion_blank inclusion_raised inclusion_less
unfolding within
inclusion_laws =
    record {
      irreflexive = λ x. never_both (within x.positions x.positions);
      transitive = λ x y z k l.
          let a = has x.positions in
          let b = has y.positions in
          let c = has z.positions in
          let p = and_parts (inside 256 a b) (not (inside 256 b a)) k in
          let r = and_parts (inside 256 b c) (not (inside 256 c b)) l in
          let ab = inside_included 256 a b p.0 in
          let bc = inside_included 256 b c r.0 in
          proper (inside 256 a c) (inside 256 c a)
          (included_inside 256 a c (λ q h e. bc q h (ab q h e)))
          (gap_by (λ e.
          let ca = inside_included 256 c a e in
          both_ways (inside 256 c b) (not-true (inside 256 c b) r.1) (included_inside 256 c b (λ q h t. ab q h (ca q h t)))));
      inclusion = λ xs ys f g k l.
          let a = raised with_position no_position xs in
          let b = raised with_position no_position ys in
          let more : Included 256 a b = λ q h e. more_held k no_position no_position (λ r t. t) q e in
          ap₂ (λ s t. inside 256 s t && not (inside 256 t s)) (raised_inside f) (raised_inside g)
          ∙ proper (inside 256 a b) (inside 256 b a)
          (included_inside 256 a b more)
          (gap_by (λ e. both_ways (lesser a b) (same_lower 256 a b more (inside_included 256 b a e)) (position_laws.inclusion xs ys f g k l)));
    }

-- ---- the difference

apart : (a b : Bool) → (a && not b) ≡ false → a ≡ true → b ≡ true
apart true true e t = refl
apart true false e t = absurd (true≢false e)
apart false b e t = absurd (false≢true t)

none_apart : (a b : Bool) → (a ≡ true → b ≡ true) → (a && not b) ≡ false
none_apart true true f = refl
none_apart true false f = absurd (false≢true (f refl))
none_apart false b f = refl

-- the first is inside the second exactly if nothing is left of it without the second
pub within_is :
    (s t d : StationSet) (r : Bool) → ((i : ℕ) → has d i ≡ (has s i && not (has t i))) → ((r ≡ true) ↔ Nobody d) → within s t ≡ r
unfolding within
within_is s t d true h w =
    included_inside 256 (has s) (has t) (λ q l e. apart (has s q) (has t q) (sym (h q) ∙ w.0 refl q) e)
within_is s t d false h w =
    gap_by (λ e.
    let f = inside_included 256 (has s) (has t) e in
    false≢true (w.1 (λ i. h i ∙ none_apart (has s i) (has t i) (λ m. f i (has_below s i m) m))))
