-- Which of two sets is the lesser, by the highest word in which they differ.
use Rattle.std.proofs.Common.{◌≡◌, ℕ, ◌^◌, ◌<◌, ◌≢◌, ◌⊎◌, true, ◌↔◌, sym, ap, ◌∙◌, inl, inr, nat_lt, arith}
use Rattle.std.proofs.lemmas.Bool.{cases_eq, cases_order, lt-ltb, ltb-true}
use Rattle.sets.specs.declared.station_set.StationSet.{StationSet}
use Rattle.sets.specs.Sets.{Less}
use Rattle.sets.proofs.Members.{word, less_word, less_one_way, less_same}

-- where the words past k are the same, word k decides if it differs or is the last
pub word_decides :
    (s t : StationSet) (k : ℕ) → k < 4 → word s.words k < 2 ^ 64 → word t.words k < 2 ^ 64 →
    ((q : ℕ) → k < q → q < 4 → word s.words q ≡ word t.words q) → (word s.words k ≢ word t.words k) ⊎ (k ≡ 0) →
    (nat_lt (word s.words k) (word t.words k) ≡ true) ↔ Less s t
word_decides s t k l f g above d = (
  λ e. less_word s t k l g above (ltb-true _ _ e),
  λ m. elim (cases_order (word s.words k) (word t.words k)) [
    | inl e ↦
        elim d [
          | inl n ↦ absurd (n e)
          | inr z ↦
              absurd (less_same s t (λ q h. elim (cases_eq q k) [
                | inl i ↦ ap (word s.words) i ∙ e ∙ sym (ap (word t.words) i)
                | inr n ↦ above q (omega arith) h
              ]) m)
        ]
    | inr o ↦ elim o [
      | inl h ↦ lt-ltb _ _ h
      | inr h ↦ absurd (less_one_way s t m (less_word t s k l f (λ q i j. sym (above q i j)) h))
    ]
  ],
)
