-- The members of a set as a list, rising.
use Rattle.std.proofs.Common.{◌≡◌, ℕ, zero, suc, ◌+◌, ◌<◌, ◌≤◌, Bool, true, false, not, cond, ◌&&◌, ◌||◌, eqb, List, [], ◌∷◌, length, get_or, sym, refl, ap, ◌∙◌, ap₂, inl, inr, arith}
use Rattle.std.specs.List.{filter, range_with_len, list_any, All, Contains}
use Rattle.std.proofs.lemmas.Bool.{cases_lt, cases_eq, cases_order, cases_Bool, eq-eqb, ne_eqb, eqb-true, and_right}
use Rattle.std.proofs.lemmas.List.Elements.{All-contains, filter_passes}
use Rattle.std.proofs.lemmas.Map.Views.{Contains-from_any}
use Rattle.sets.specs.Sets.{has, rising, members, Nobody, Lowest}
use Rattle.sets.specs.declared.station_set.StationSet.{StationSet}
use Rattle.sets.proofs.Members.{has_below, has_past}

-- of the n numbers from a on, those that pass
abbrev from : (ℕ → Bool) → ℕ → ℕ → List ℕ
from p a n = filter p (range_with_len a n)

-- the first number passes, or it does not
pass : (p : ℕ → Bool) (a n : ℕ) → p a ≡ true → from p a (suc n) ≡ a ∷ from p (a + 1) n
pass p a n e = ap (λ b. cond b (a ∷ from p (a + 1) n) (from p (a + 1) n)) e

skip : (p : ℕ → Bool) (a n : ℕ) → p a ≡ false → from p a (suc n) ≡ from p (a + 1) n
skip p a n e = ap (λ b. cond b (a ∷ from p (a + 1) n) (from p (a + 1) n)) e

from_none : (p : ℕ → Bool) (a n : ℕ) → ((x : ℕ) → a ≤ x → x < a + n → p x ≡ false) → from p a n ≡ []
from_none p a zero f = refl
from_none p a (suc n) f = skip p a n (f a (omega arith) (omega arith)) ∙ from_none p (a + 1) n (λ x l h. f x (omega arith) (omega arith))

from_same : (p q : ℕ → Bool) (a n : ℕ) → ((x : ℕ) → a ≤ x → x < a + n → p x ≡ q x) → from p a n ≡ from q a n
from_same p q a zero f = refl
from_same p q a (suc n) f =
    ap₂ (λ b r. cond b (a ∷ r) r) (f a (omega arith) (omega arith)) (from_same p q (a + 1) n (λ x l h. f x (omega arith) (omega arith)))

-- the lowest that passes comes first, and then the others
from_first :
    (p q : ℕ → Bool) (a n v : ℕ) → a ≤ v → v < a + n → p v ≡ true → ((x : ℕ) → x < v → p x ≡ false) →
    ((x : ℕ) → q x ≡ (not (eqb x v) && p x)) → from p a n ≡ v ∷ from q a n
from_first p q a zero v l h t f g = absurd (omega arith)
from_first p q a (suc n) v l h t f g =
    elim (cases_eq a v) [
      | inl e ↦
          pass p a n (ap p e ∙ t)
          ∙ ap₂ (λ x r. x ∷ r) e (from_same p q (a + 1) n (λ x k m. sym (g x ∙ ap (λ b. not b && p x) (ne_eqb x v (λ i. omega arith)))))
          ∙ ap (λ r. v ∷ r) (sym (skip q a n (g a ∙ ap (λ b. not b && p a) (eq-eqb a v e))))
      | inr d ↦
          let low : a < v = omega arith in
          skip p a n (f a low)
          ∙ from_first p q (a + 1) n v (omega arith) (omega arith) t f g
          ∙ ap (λ r. v ∷ r) (sym (skip q a n (g a ∙ ap (λ b. not b && p a) (ne_eqb a v d) ∙ f a low)))
    ]

-- a list of numbers that pass, which begins with v
record Starts (p : ℕ → Bool) (a n v : ℕ) (vs : List ℕ) : Type 0 where
  above : a ≤ v
  passes : p v ≡ true
  before : (x : ℕ) → a ≤ x → x < v → p x ≡ false
  count : ℕ
  others : vs ≡ from p (v + 1) count
  ends : v + 1 + count ≡ a + n

abbrev tail : List ℕ → List ℕ
tail [] = []
tail (x ∷ xs) = xs

starts_here : (p : ℕ → Bool) (a n v : ℕ) (vs : List ℕ) → p a ≡ true → a ≡ v → from p (a + 1) n ≡ vs → Starts p a (suc n) v vs
starts_here p a n v vs t e o = record {
  above = omega arith;
  passes = sym (ap p e) ∙ t;
  before = λ x l h. absurd (omega arith);
  count = n;
  others = sym o ∙ ap (λ b. from p (b + 1) n) e;
  ends = omega arith;
}

starts_later : (p : ℕ → Bool) (a n v : ℕ) (vs : List ℕ) → p a ≡ false → Starts p (a + 1) n v vs → Starts p a (suc n) v vs
starts_later p a n v vs t s = record {
  above = omega (arith, s.above);
  passes = s.passes;
  before = λ x l h. elim (cases_eq x a) [ inl e ↦ ap p e ∙ t | inr d ↦ s.before x (omega arith) h ];
  count = s.count;
  others = s.others;
  ends = omega (arith, s.ends);
}

from_starts : (p : ℕ → Bool) (a n v : ℕ) (vs : List ℕ) → from p a n ≡ v ∷ vs → Starts p a n v vs
from_starts p a zero v vs e = let l : 0 ≡ length (v ∷ vs) = ap length e in absurd (omega arith)
from_starts p a (suc n) v vs e = elim (cases_Bool (p a)) [
  | inl t ↦ let f = sym (pass p a n t) ∙ e in starts_here p a n v vs t (ap (λ r. get_or r 0 v) f) (ap tail f)
  | inr t ↦ starts_later p a n v vs t (from_starts p (a + 1) n v vs (sym (skip p a n t) ∙ e))
]

-- x is in the list exactly if it passes
listed_past : (p : ℕ → Bool) (a n x : ℕ) → x < a → list_any (eqb x) (from p a n) ≡ false
listed_past p a zero x l = refl
listed_past p a (suc n) x l = elim (cases_Bool (p a)) [
  | inl t ↦ ap (list_any (eqb x)) (pass p a n t) ∙ ap₂ (λ y z. y || z) (ne_eqb x a (λ e. omega arith)) (listed_past p (a + 1) n x (omega arith))
  | inr t ↦ ap (list_any (eqb x)) (skip p a n t) ∙ listed_past p (a + 1) n x (omega arith)
]

listed : (p : ℕ → Bool) (a n x : ℕ) → a ≤ x → x < a + n → list_any (eqb x) (from p a n) ≡ p x
listed p a zero x l h = absurd (omega arith)
listed p a (suc n) x l h = elim (cases_Bool (p a)) [
  | inl t ↦ ap (list_any (eqb x)) (pass p a n t) ∙ (elim (cases_eq x a) [
    | inl e ↦ ap (λ y. y || list_any (eqb x) (from p (a + 1) n)) (eq-eqb x a e) ∙ sym (ap p e ∙ t)
    | inr d ↦ ap₂ (λ y z. y || z) (ne_eqb x a d) (listed p (a + 1) n x (omega arith) (omega arith))
  ])
  | inr t ↦ ap (list_any (eqb x)) (skip p a n t) ∙ (elim (cases_eq x a) [
    | inl e ↦ listed_past p (a + 1) n x (omega arith) ∙ sym (ap p e ∙ t)
    | inr d ↦ listed p (a + 1) n x (omega arith) (omega arith)
  ])
]

-- what stands after v passes, and is not v
from_left :
    (p q : ℕ → Bool) (n v : ℕ) → from p 0 n ≡ v ∷ from q 0 n → (x : ℕ) → x < n → q x ≡ (not (eqb x v) && p x)
from_left p q n v e x l =
    let s = from_starts p 0 n v (from q 0 n) e in
    sym (listed q 0 n x (omega arith) (omega arith))
    ∙ ap (list_any (eqb x)) s.others
    ∙ (elim (cases_order x v) [
      | inl i ↦ listed_past p (v + 1) s.count x (omega arith) ∙ sym (ap (λ b. not b && p x) (eq-eqb x v i))
      | inr o ↦ elim o [
        | inl i ↦ listed_past p (v + 1) s.count x (omega arith) ∙ sym (ap (λ b. not b && p x) (ne_eqb x v (λ j. omega arith)) ∙ s.before x (omega arith) i)
        | inr i ↦ listed p (v + 1) s.count x (omega arith) (omega (arith, s.ends)) ∙ sym (ap (λ b. not b && p x) (ne_eqb x v (λ j. omega arith)))
      ]
    ])

-- a set without members
pub members_none : (s : StationSet) → Nobody s → members s ≡ []
unfolding rising
members_none s f = from_none (has s) 0 256 (λ x _ _. f x)

-- the lowest member, and the members that are left without it
pub members_first :
    (s t : StationSet) (v : ℕ) → Lowest s v → ((j : ℕ) → has t j ≡ (not (eqb j v) && has s j)) → members s ≡ v ∷ members t
unfolding rising
members_first s t v l f = from_first (has s) (has t) 0 256 v (omega arith) l.below l.member l.before f

-- what the list tells of the set
pub nobody_from : (s : StationSet) → members s ≡ [] → Nobody s
unfolding rising
nobody_from s e i = elim (cases_lt i 256) [
  | inl l ↦ sym (listed (has s) 0 256 i (omega arith) l) ∙ ap (list_any (eqb i)) e
  | inr p ↦ has_past s i p
]

pub lowest_from : (s : StationSet) (v : ℕ) (vs : List ℕ) → members s ≡ v ∷ vs → Lowest s v
unfolding rising
lowest_from s v vs e =
    let r = from_starts (has s) 0 256 v vs e in
    record { below = has_below s v r.passes; member = r.passes; before = λ i l. r.before i (omega arith) l }

pub left_from : (s t : StationSet) (v : ℕ) → members s ≡ v ∷ members t → (j : ℕ) → has t j ≡ (not (eqb j v) && has s j)
unfolding rising
left_from s t v e j = elim (cases_lt j 256) [
  | inl l ↦ from_left (has s) (has t) 256 v e j l
  | inr p ↦ has_past t j p ∙ sym (and_right (not (eqb j v)) (has s j) (has_past s j p))
]

-- what passes, passes
passes : (p : ℕ → Bool) (n : ℕ) → All (λ x. p x ≡ true) (rising p n)
unfolding rising
passes p n = filter_passes p (range_with_len 0 n)

pub has_from : (s : StationSet) (i : ℕ) → Contains (members s) i → has s i ≡ true
has_from s i c = All-contains (λ x. has s x ≡ true) (members s) i (passes (has s) 256) c

pub contains_from : (s : StationSet) (i : ℕ) → has s i ≡ true → Contains (members s) i
unfolding rising
contains_from s i e = Contains-from_any eqb-true i (members s) (listed (has s) 0 256 i (omega arith) (has_below s i e) ∙ e)
