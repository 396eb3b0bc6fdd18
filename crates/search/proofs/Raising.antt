-- The steps of the loops over labels.
use Rattle.std.proofs.Common.{◌≡◌, ℕ, zero, suc, ◌+◌, ◌-◌, ◌<◌, Bool, true, false, not, ◌&&◌, eqb, ◌≢◌, List, [], ◌∷◌, ◌++◌, length, get_or, drop, set, sym, refl, ap, ◌∙◌, subst, inl, inr, arith, length-set}
use Rattle.std.proofs.lemmas.List.{get_or-set_same, get_or-set_other, get_or_read, get_or_append_left, get_or-append_right, get_or-drop}
use Rattle.std.proofs.lemmas.Bool.{both_ways, cases_eq, eq-eqb, ne_eqb, and_left, and_parts, not_from_true}
use Rattle.std.specs.List.{FoldsTo}
use Rattle.graph.specs.Search.{LabelLaws}
use Rattle.graph.proofs.Searches.{peak}
use Rattle.search.specs.Searches.{Exceeded, Blanked}

-- a set without v
pub without_v : (left new : ℕ → Bool) (v : ℕ) → ((x : ℕ) → new x ≡ (not (eqb x v) && left x)) → new v ≡ false
without_v left new v f = f v ∙ and_left _ _ (not_from_true _ (eq-eqb v v refl))

pub without_other : (left new : ℕ → Bool) (v x : ℕ) → ((x : ℕ) → new x ≡ (not (eqb x v) && left x)) → x ≢ v → new x ≡ left x
without_other left new v x f d = f x ∙ ap (λ b. not b && left x) (ne_eqb x v d)

-- what calls that give the blank label have filled
filled_blank :
    {F L : Type 0} (R : F → L → F → Type 0) (blank : L) → ((f : F) (r : L) (q : F) → R f r q → r ≡ blank) → (f last : F) (xs : List L) →
    FoldsTo R f xs last → (k : ℕ) (d : L) → k < length xs → get_or xs k d ≡ blank
filled_blank R blank e f last [] h k d l = absurd (omega arith)
filled_blank R blank e f last (x ∷ xs) h zero d l = e f x h.0 h.1
filled_blank R blank e f last (x ∷ xs) h (suc k) d l = filled_blank R blank e h.0 last xs h.2 k d (omega arith)

pub blanked_front :
    {F L : Type 0} (R : F → L → F → Type 0) (blank : L) → ((f : F) (r : L) (q : F) → R f r q → r ≡ blank) → (f last : F) (n : ℕ) (was front : List L) →
    FoldsTo R f front last → length front ≡ n → Blanked blank n was (front ++ drop n was)
blanked_front R blank e f last n was front h len =
    record {
      first = λ k d l. get_or_append_left front (drop n was) d k (omega arith) ∙ filled_blank R blank e f last front h k d (omega arith);
      rest = λ k d l.
          let m : n + (k - n) ≡ k = omega arith in
          get_or-append_right front (drop n was) n k d len l ∙ get_or-drop n was (k - n) d ∙ ap (λ j. get_or was j d) m;
    }

-- some are left, the others are raised
pub record Raising {L : Type 0} (raise : L → ℕ → L) (p : ℕ) (which left : ℕ → Bool) (was ls : List L) : Type 0 where
  pub inside : (x : ℕ) → left x ≡ true → which x ≡ true
  pub long : length ls ≡ length was
  pub done : (k : ℕ) (d : L) → which k ≡ true → left k ≡ false → get_or ls k d ≡ raise (get_or was k d) p
  pub kept : (k : ℕ) (d : L) → left k ≡ true → get_or ls k d ≡ get_or was k d
  pub other : (k : ℕ) (d : L) → which k ≡ false → get_or ls k d ≡ get_or was k d

pub raising_more :
    {L : Type 0} (raise : L → ℕ → L) (p : ℕ) (which left new : ℕ → Bool) (was ls : List L) (v : ℕ) (r l : L) →
    Raising raise p which left was ls → left v ≡ true → v < length ls → ((x : ℕ) → new x ≡ (not (eqb x v) && left x)) → r ≡ raise l p → l ≡ get_or ls v l →
    Raising raise p which new was (set ls v r)
raising_more raise p which left new was ls v r l i t b f e read =
    record {
      inside = λ x h. i.inside x (and_parts (not (eqb x v)) (left x) (sym (f x) ∙ h)).1;
      long = simp length-set i.long;
      done = λ k d w z. elim (cases_eq k v) [
        | inl m ↦
            subst (λ x. get_or (set ls v r) x d ≡ raise (get_or was x d) p) (sym m)
            (get_or-set_same ls v r d b ∙ e ∙ ap (λ x. raise x p) (get_or_read ls v l b read d ∙ i.kept v d t))
        | inr m ↦ get_or-set_other ls v k r d m ∙ i.done k d w (sym (without_other left new v k f m) ∙ z)
      ];
      kept = λ k d h. elim (cases_eq k v) [
        | inl m ↦ absurd (both_ways _ (without_v left new v f) (subst (λ x. new x ≡ true) m h))
        | inr m ↦ get_or-set_other ls v k r d m ∙ i.kept k d (sym (without_other left new v k f m) ∙ h)
      ];
      other = λ k d h. get_or-set_other ls v k r d (λ m. both_ways _ h (subst (λ x. which x ≡ true) (sym m) (i.inside v t))) ∙ i.other k d h;
    }

-- where each member is exceeded, there is none
pub not_all_exceeded :
    {L : Type 0} {blank : L} {raise : L → ℕ → L} {less : L → L → Bool} → LabelLaws blank raise less →
    (ls : List L) (ok : ℕ → Bool) → ((x : ℕ) → ok x ≡ true → x < 256) → ((x : ℕ) × (ok x ≡ true)) →
    ((x : ℕ) → ok x ≡ true → Exceeded less ls ok x) → ⊥
not_all_exceeded {blank = blank} {less = less} laws ls ok below any f =
    elim (peak ok (λ x y. less (get_or ls x blank) (get_or ls y blank)) (λ x. laws.irreflexive _) (λ x y z. laws.transitive _ _ _) 256) [
      | inl b ↦ let e = f b.0 b.2 in both_ways _ (b.3 e.0 (below e.0 e.1) e.1) (e.2 blank)
      | inr b ↦ both_ways _ (b any.0 (below any.0 any.1)) any.1
    ]
