-- Sets of positions keep the laws of labels, and `less` of the code is `lesser`.
use Rattle.std.specs.Prelude.{◌≡◌, ℕ, zero, suc, ◌<◌, ◌≤◌, Bool, true, false, cond, ◌⊎◌, ◌↔◌, List, length, refl}
use Rattle.std.proofs.Common.{ap, ap₂, sym, subst, ◌∙◌, inl, inr, arith, length-set}
use Rattle.std.proofs.lemmas.Bool.{cases_eq, cases_lt, false≢true, true≢false}
use Rattle.graph.specs.Search.{Falling, none, next, raised, LabelLaws}
use Rattle.graph.specs.Kinds.{Positions, no_position, with_position, agree, lower, lesser}
use Rattle.graph.proofs.Positions.{position_laws}
use Rattle.graph.proofs.Walks.{gap_by}
use Rattle.sets.specs.declared.station_set.StationSet.{StationSet}
use Rattle.sets.specs.Sets.{has, Less}
use Rattle.sets.proofs.Members.{inserted, empty_has, has_below, has_past}
use Rattle.search.specs.declared.label.ListLabel.{ListLabel}
use Rattle.search.specs.Kinds.{list_blank, list_raised, list_less}

-- ---- raising is one position more

raised_has :
    {top : ℕ} {xs : List ℕ} → Falling top xs → top ≤ 256 → (l : ListLabel) → length l.positions.words ≡ 4 →
    has (raised list_raised l xs).positions ≡ raised with_position (has l.positions) xs
raised_has none b l four = refl
raised_has (next {x = x} {xs = xs} lt f) b l four =
    raised_has f (omega arith) (list_raised l x) (length-set _ _ _ ∙ four)
    ∙ ap (λ h. raised with_position h xs) (λ i j. inserted l.positions x (omega arith) four j i)

blank_has : has list_blank.positions ≡ no_position
blank_has = λ i j. empty_has j i

pub list_laws : LabelLaws list_blank list_raised list_less
unfolding list_less
list_laws =
    record {
      irreflexive = λ x. position_laws.irreflexive (has x.positions);
      transitive = λ x y z k l. position_laws.transitive (has x.positions) (has y.positions) (has z.positions) k l;
      inclusion = λ xs ys f g k l.
          ap₂ lesser
          (raised_has f (omega arith) list_blank refl ∙ ap (λ h. raised with_position h xs) blank_has)
          (raised_has g (omega arith) list_blank refl ∙ ap (λ h. raised with_position h ys) blank_has)
          ∙ position_laws.inclusion xs ys f g k l;
    }

-- ---- the highest position in which two differ

record Tops (k : ℕ) (x y : Positions) : Type 0 where
  top : ℕ
  inside : top < k
  lacks : x top ≡ false
  holds : y top ≡ true
  above : (i : ℕ) → top < i → i < k → x i ≡ y i

at_top : (a b p : Bool) → cond (agree a b) p b ≡ true → ((a ≡ b) × (p ≡ true)) ⊎ ((a ≡ false) × (b ≡ true))
at_top true true p e = inl (refl, e)
at_top true false p e = absurd (false≢true e)
at_top false true p e = inr (refl, refl)
at_top false false p e = inl (refl, e)

lower_tops : (k : ℕ) (x y : Positions) → lower k x y ≡ true → Tops k x y
lower_tops zero x y e = absurd (false≢true e)
lower_tops (suc k) x y e =
    elim (at_top (x k) (y k) _ e) [
      | inl h ↦
          let t = lower_tops k x y h.1 in
          record {
            top = t.top;
            inside = (let i = t.inside in omega arith);
            lacks = t.lacks;
            holds = t.holds;
            above = λ i l b. elim (cases_eq i k) [ inl m ↦ subst (λ j. x j ≡ y j) (sym m) h.0 | inr d ↦ t.above i l (omega arith) ];
          }
      | inr h ↦ record { top = k; inside = omega arith; lacks = h.0; holds = h.1; above = λ i l b. absurd (omega arith) }
    ]

here_top : (a b p : Bool) → a ≡ false → b ≡ true → cond (agree a b) p b ≡ true
here_top true b p x y = absurd (true≢false x)
here_top false true p x y = refl
here_top false false p x y = absurd (false≢true y)

past_top : (a b p : Bool) → a ≡ b → p ≡ true → cond (agree a b) p b ≡ true
past_top true true p e q = q
past_top true false p e q = absurd (true≢false e)
past_top false true p e q = absurd (false≢true e)
past_top false false p e q = q

tops_lower : (k : ℕ) (x y : Positions) → Tops k x y → lower k x y ≡ true
tops_lower zero x y t = let i = t.inside in absurd (omega arith)
tops_lower (suc k) x y t =
    elim (cases_eq t.top k) [
      | inl m ↦ here_top (x k) (y k) _ (subst (λ j. x j ≡ false) m t.lacks) (subst (λ j. y j ≡ true) m t.holds)
      | inr d ↦
          let i = t.inside in
          past_top (x k) (y k) _ (t.above k (omega arith) (omega arith))
          (tops_lower k x y
          (record { top = t.top; inside = omega arith; lacks = t.lacks; holds = t.holds; above = λ j l b. t.above j l (omega arith) }))
    ]

less_lesser : (s t : StationSet) → Less s t → lesser (has s) (has t) ≡ true
less_lesser s t l =
    tops_lower 256 (has s) (has t)
    (record { top = l.top; inside = has_below t l.top l.holds; lacks = l.lacks; holds = l.holds; above = λ i h b. l.above i h })

lesser_less : (s t : StationSet) → lesser (has s) (has t) ≡ true → Less s t
lesser_less s t e =
    let m = lower_tops 256 (has s) (has t) e in
    record {
      top = m.top;
      lacks = m.lacks;
      holds = m.holds;
      above = λ i h. elim (cases_lt i 256) [ inl b ↦ m.above i h b | inr b ↦ has_past s i b ∙ sym (has_past t i b) ];
    }

pub less_is : (a b : ListLabel) (r : Bool) → ((r ≡ true) ↔ Less a.positions b.positions) → list_less a b ≡ r
unfolding list_less
less_is a b true w = less_lesser a.positions b.positions (w.0 refl)
less_is a b false w = gap_by (λ e. false≢true (w.1 (lesser_less a.positions b.positions e)))
