-- A row read and a row written.
use Rattle.std.proofs.Common.{◌≡◌, ℕ, ◌<◌, ◌≤◌, Bool, true, false, ◌&&◌, ◌||◌, eqb, List, length, get_or, set, sym, refl, ap, ◌∙◌, inl, inr}
use Rattle.std.proofs.lemmas.List.{get_or-set_same, get_or-set_other, get_or_past}
use Rattle.std.proofs.lemmas.Bool.{cases_eq, cases_lt, eq-eqb, ne_eqb}
use Rattle.sets.specs.declared.station_set.StationSet.{StationSet}
use Rattle.sets.specs.Sets.{has, nobody}
use Rattle.sets.proofs.Members.{nobody_has}
use Rattle.sets.specs.Rows.{adj}

or_none : (x : Bool) → x ≡ (x || false)
or_none true = refl
or_none false = refl

pub widened :
    (rows : List StationSet) (v : ℕ) (more new : StationSet) → v < length rows →
    ((b : ℕ) → has new b ≡ (has (get_or rows v nobody) b || has more b)) →
    (a b : ℕ) → adj (set rows v new) a b ≡ (adj rows a b || (eqb a v && has more b))
unfolding adj
widened rows v more new l f a b =
    elim (cases_eq a v) [
      | inl e ↦
          ap (λ i. has (get_or (set rows v new) i nobody) b) e
          ∙ ap (λ s. has s b) (get_or-set_same rows v new nobody l)
          ∙ f b
          ∙ ap (λ i. has (get_or rows i nobody) b || has more b) (sym e)
          ∙ ap (λ t. has (get_or rows a nobody) b || (t && has more b)) (sym (eq-eqb a v e))
      | inr d ↦
          ap (λ s. has s b) (get_or-set_other rows v a new nobody d)
          ∙ or_none _
          ∙ ap (λ t. has (get_or rows a nobody) b || (t && has more b)) (sym (ne_eqb a v d))
    ]

-- a row past the end is empty
pub row_past : (rows : List StationSet) (a b : ℕ) → length rows ≤ a → adj rows a b ≡ false
unfolding adj
row_past rows a b l = ap (λ s. has s b) (get_or_past rows a nobody l) ∙ nobody_has b

pub cleared :
    (rows : List StationSet) (new : StationSet) → ((i : ℕ) (d : StationSet) → i < length rows → get_or rows i d ≡ new) →
    ((b : ℕ) → has new b ≡ false) → (a b : ℕ) → adj rows a b ≡ false
unfolding adj
cleared rows new f n a b = elim (cases_lt a (length rows)) [
  | inl l ↦ ap (λ s. has s b) (f a nobody l) ∙ n b
  | inr l ↦ row_past rows a b l
]
