-- The members of a set, from the bits of its four words.
use Rattle.std.proofs.Common.{◌≡◌, ℕ, zero, suc, ◌+◌, ◌-◌, ◌*◌, ◌/◌, ◌%◌, ◌^◌, ◌<◌, ◌≤◌, min, Bool, true, false, not, ◌&&◌, ◌||◌, eqb, ltb, ◌≢◌, ◌⊎◌, List, [], ◌∷◌, length, get_or, set, sym, refl, ap, ◌∙◌, subst, ap₂, inl, inr, arith}
use Rattle.std.specs.List.{sum_by}
use lib.Bits.{bit_and, bit_or}
use lib.Count.{count_trailing_zeros}
use Rattle.std.proofs.lemmas.Nat.{pow_below, one_shl}
use Rattle.std.proofs.lemmas.List.{get_or-set_same, get_or-set_other}
use Rattle.std.proofs.lemmas.Bool.{eq-eqb, ne_eqb, cases_eq, cases_lt, cases_order, lt-ltb, le-ltb, both_ways}
use Rattle.sets.specs.declared.station_set.StationSet.{StationSet}
use Rattle.sets.specs.Sets.{bit, has, size, Nobody, Lowest, Less}
use Rattle.sets.proofs.Words.{bit_of_or, bit_of_and, bit_not, bit_power, bit_ones, none_set, lowest_bit, size_same, less_bit}
use Rattle.sets.proofs.Sizes.{size_add, size_none}

-- bit i of a list of words
abbrev pub word : List ℕ → ℕ → ℕ
word ws q = get_or ws q 0

abbrev pub of : List ℕ → StationSet
of ws = record { words = ws }

pub has_in : (s : StationSet) (i : ℕ) → i < 256 → has s i ≡ bit (word s.words (i / 64)) (i % 64)
unfolding has
has_in s i l = ap (λ t. t && bit (word s.words (i / 64)) (i % 64)) (lt-ltb i 256 l)

pub has_past : (s : StationSet) (i : ℕ) → 256 ≤ i → has s i ≡ false
unfolding has
has_past s i l = ap (λ t. t && bit (word s.words (i / 64)) (i % 64)) (le-ltb i 256 l)

-- a set made from two, word by word
pub lift : (r s t : StationSet) (o : Bool → Bool → Bool) →
    ((q : ℕ) → q < 4 → (k : ℕ) → k < 64 → bit (word r.words q) k ≡ o (bit (word s.words q) k) (bit (word t.words q) k)) →
    o false false ≡ false → (i : ℕ) → has r i ≡ o (has s i) (has t i)
lift r s t o each none i =
    elim (cases_lt i 256) [
      | inl l ↦ has_in r i l ∙ each (i / 64) (omega arith) (i % 64) (omega arith) ∙ sym (ap₂ o (has_in s i l) (has_in t i l))
      | inr p ↦ has_past r i p ∙ sym (ap₂ o (has_past s i p) (has_past t i p) ∙ none)
    ]

-- what holds of each of four
pub four : (P : ℕ → Type 0) → P 0 → P 1 → P 2 → P 3 → (q : ℕ) → q < 4 → P q
four P a b c d zero l = a
four P a b c d (suc zero) l = b
four P a b c d (suc (suc zero)) l = c
four P a b c d (suc (suc (suc zero))) l = d
four P a b c d (suc (suc (suc (suc q)))) l = absurd (omega arith)

pub none_words : (s : StationSet) → ((q : ℕ) → q < 4 → word s.words q ≡ 0) → Nobody s
none_words s f i =
    elim (cases_lt i 256) [
      | inl l ↦ has_in s i l ∙ ap (λ w. bit w (i % 64)) (f (i / 64) (omega arith)) ∙ none_set (i % 64)
      | inr p ↦ has_past s i p
    ]

pub less_bits : (a b k : ℕ) → k < 64 → b < 2 ^ 64 → bit (bit_and a (2 ^ 64 - 1 - b)) k ≡ (bit a k && not (bit b k))
less_bits a b k l h = bit_of_and a (2 ^ 64 - 1 - b) k ∙ ap (λ t. bit a k && t) (bit_not 64 b k l h)

or_none : (x : Bool) → x ≡ (false || x)
or_none true = refl
or_none false = refl

or_turn : (x y : Bool) → (x || y) ≡ (y || x)
or_turn true true = refl
or_turn true false = refl
or_turn false true = refl
or_turn false false = refl

-- in one word, the places of the bits tell the stations apart
same_bit : (i j : ℕ) → j / 64 ≡ i / 64 → eqb (j % 64) (i % 64) ≡ eqb j i
same_bit i j e =
    elim (cases_eq j i) [
      | inl q ↦ eq-eqb _ _ (omega arith) ∙ sym (eq-eqb j i q)
      | inr d ↦ ne_eqb _ _ (λ q. d (omega arith)) ∙ sym (ne_eqb j i d)
    ]

pub inserted :
    (s : StationSet) (i : ℕ) → i < 256 → length s.words ≡ 4 → (j : ℕ) →
    has (of (set s.words (i / 64) (bit_or (word s.words (i / 64)) ((1 * 2 ^ (i % 64)) % 2 ^ 64)))) j ≡ (eqb j i || has s j)
inserted s i h n j =
    ap (λ x. has (of (set s.words (i / 64) (bit_or (word s.words (i / 64)) x))) j) (one_shl (i % 64) 64 (omega arith)) ∙ go (cases_lt j 256) (cases_eq (j / 64) (i / 64))
  where
    new : ℕ
    new = bit_or (word s.words (i / 64)) (2 ^ (i % 64))

    go : (j < 256) ⊎ (256 ≤ j) → (j / 64 ≡ i / 64) ⊎ (j / 64 ≡ i / 64 → ⊥) → has (of (set s.words (i / 64) new)) j ≡ (eqb j i || has s j)
    go (inr p) e = has_past _ j p ∙ sym (ap₂ (λ x y. x || y) (ne_eqb j i (λ q. omega arith)) (has_past s j p))
    go (inl l) (inl e) =
        has_in _ j l
        ∙ ap (λ w. bit w (j % 64)) (ap (word (set s.words (i / 64) new)) e ∙ get_or-set_same s.words (i / 64) new 0 (omega arith))
        ∙ bit_of_or _ _ (j % 64)
        ∙ ap₂ (λ x y. x || y) (ap (λ q. bit (word s.words q) (j % 64)) (sym e) ∙ sym (has_in s j l)) (bit_power (i % 64) (j % 64) ∙ same_bit i j e)
        ∙ or_turn (has s j) (eqb j i)
    go (inl l) (inr d) =
        has_in _ j l
        ∙ ap (λ w. bit w (j % 64)) (get_or-set_other s.words (i / 64) (j / 64) new 0 d)
        ∙ sym (has_in s j l)
        ∙ or_none (has s j)
        ∙ ap (λ t. t || has s j) (sym (ne_eqb j i (λ q. d (omega arith))))

pub lowest_word :
    (s : StationSet) (k : ℕ) → k < 4 → ((q : ℕ) → q < k → word s.words q ≡ 0) → word s.words k < 2 ^ 64 → word s.words k ≢ 0 →
    Lowest s (64 * k + count_trailing_zeros 64 (word s.words k))
lowest_word s k l f h d =
    let r = lowest_bit 64 (word s.words k) h d in
    let t : count_trailing_zeros 64 (word s.words k) < 64 = r.below in
    let a : (64 * k + count_trailing_zeros 64 (word s.words k)) / 64 ≡ k = omega arith in
    let b : (64 * k + count_trailing_zeros 64 (word s.words k)) % 64 ≡ count_trailing_zeros 64 (word s.words k) = omega arith in
    record {
      below = omega arith;
      member = has_in s _ (omega arith) ∙ ap₂ (λ q j. bit (word s.words q) j) a b ∙ r.set;
      before = λ i e. elim (cases_lt (i / 64) k) [
        | inl m ↦ has_in s i (omega arith) ∙ ap (λ w. bit w (i % 64)) (f (i / 64) m) ∙ none_set (i % 64)
        | inr m ↦
            let c : i / 64 ≡ k = omega arith in
            has_in s i (omega arith) ∙ ap (λ q. bit (word s.words q) (i % 64)) c ∙ r.before (i % 64) (omega arith)
      ];
    }

size_word : (s : StationSet) (k : ℕ) → k < 4 → size (has s) (64 * k) + size (bit (word s.words k)) 64 ≡ size (has s) (64 * (k + 1))
size_word s k l =
    let e : 64 * (k + 1) ≡ 64 + 64 * k = omega arith in
    sym (
    ap (size (has s)) e
    ∙ size_add (has s) (64 * k) 64
    ∙ ap (λ n. size (has s) (64 * k) + n) (size_same _ _ 64 (λ i b.
    let a : (i + 64 * k) / 64 ≡ k = omega arith in
    let m : (i + 64 * k) % 64 ≡ i = omega arith in
    has_in s (i + 64 * k) (omega arith) ∙ ap₂ (λ q j. bit (word s.words q) j) a m))
    )

-- four words, one by one
spelled : (ws : List ℕ) → length ws ≡ 4 → ws ≡ word ws 0 ∷ word ws 1 ∷ word ws 2 ∷ word ws 3 ∷ []
spelled [] n = absurd (omega arith)
spelled (a ∷ []) n = absurd (omega arith)
spelled (a ∷ b ∷ []) n = absurd (omega arith)
spelled (a ∷ b ∷ c ∷ []) n = absurd (omega arith)
spelled (a ∷ b ∷ c ∷ d ∷ []) n = refl
spelled (a ∷ b ∷ c ∷ d ∷ e ∷ es) n = absurd (omega arith)

-- the bits of the words together
pub size_words : (s : StationSet) → length s.words ≡ 4 → sum_by (λ w. size (bit w) 64) s.words ≡ size (has s) 256
size_words s n =
    let a : size (has s) 0 + size (bit (word s.words 0)) 64 ≡ size (has s) 64 = size_word s 0 (omega arith) in
    let b : size (has s) 64 + size (bit (word s.words 1)) 64 ≡ size (has s) 128 = size_word s 1 (omega arith) in
    let c : size (has s) 128 + size (bit (word s.words 2)) 64 ≡ size (has s) 192 = size_word s 2 (omega arith) in
    let d : size (has s) 192 + size (bit (word s.words 3)) 64 ≡ size (has s) 256 = size_word s 3 (omega arith) in
    ap (sum_by (λ w. size (bit w) 64)) (spelled s.words n) ∙ omega (arith, a, b, c, d, size_none (has s))

pub empty_has : (i : ℕ) → has (of (0 ∷ 0 ∷ 0 ∷ 0 ∷ [])) i ≡ false
empty_has = none_words (of (0 ∷ 0 ∷ 0 ∷ 0 ∷ [])) (four (λ q. word (0 ∷ 0 ∷ 0 ∷ 0 ∷ []) q ≡ 0) refl refl refl refl)

pub nobody_has : (i : ℕ) → has (of []) i ≡ false
nobody_has = none_words (of []) (four (λ q. word [] q ≡ 0) refl refl refl refl)

pub has_below : (s : StationSet) (i : ℕ) → has s i ≡ true → i < 256
has_below s i e = elim (cases_lt i 256) [ inl l ↦ l | inr l ↦ absurd (both_ways _ (has_past s i l) e) ]

and_all : (x : Bool) → x ≡ (true && x)
and_all true = refl
and_all false = refl

and_turn : (x y : Bool) → (x && y) ≡ (y && x)
and_turn true true = refl
and_turn true false = refl
and_turn false true = refl
and_turn false false = refl

pub removed :
    (s : StationSet) (i : ℕ) → i < 256 → length s.words ≡ 4 → (j : ℕ) →
    has (of (set s.words (i / 64) (bit_and (word s.words (i / 64)) (2 ^ 64 - 1 - (1 * 2 ^ (i % 64)) % 2 ^ 64)))) j ≡ (not (eqb j i) && has s j)
removed s i h n j =
    ap (λ x. has (of (set s.words (i / 64) (bit_and (word s.words (i / 64)) (2 ^ 64 - 1 - x)))) j) (one_shl (i % 64) 64 (omega arith)) ∙ go (cases_lt j 256) (cases_eq (j / 64) (i / 64))
  where
    new : ℕ
    new = bit_and (word s.words (i / 64)) (2 ^ 64 - 1 - 2 ^ (i % 64))

    go : (j < 256) ⊎ (256 ≤ j) → (j / 64 ≡ i / 64) ⊎ (j / 64 ≡ i / 64 → ⊥) → has (of (set s.words (i / 64) new)) j ≡ (not (eqb j i) && has s j)
    go (inr p) e = has_past _ j p ∙ sym (ap₂ (λ x y. not x && y) (ne_eqb j i (λ q. omega arith)) (has_past s j p))
    go (inl l) (inl e) =
        has_in _ j l
        ∙ ap (λ w. bit w (j % 64)) (ap (word (set s.words (i / 64) new)) e ∙ get_or-set_same s.words (i / 64) new 0 (omega arith))
        ∙ less_bits _ _ (j % 64) (omega arith) (pow_below (i % 64) 64 (omega arith))
        ∙ ap₂ (λ x y. x && not y) (ap (λ q. bit (word s.words q) (j % 64)) (sym e) ∙ sym (has_in s j l)) (bit_power (i % 64) (j % 64) ∙ same_bit i j e)
        ∙ and_turn (has s j) (not (eqb j i))
    go (inl l) (inr d) =
        has_in _ j l
        ∙ ap (λ w. bit w (j % 64)) (get_or-set_other s.words (i / 64) (j / 64) new 0 d)
        ∙ sym (has_in s j l)
        ∙ and_all (has s j)
        ∙ ap (λ t. not t && has s j) (sym (ne_eqb j i (λ q. d (omega arith))))

-- bit j of word k, as a member
pub has_at : (s : StationSet) (k j : ℕ) → k < 4 → j < 64 → has s (64 * k + j) ≡ bit (word s.words k) j
has_at s k j l h =
    let a : (64 * k + j) / 64 ≡ k = omega arith in
    let b : (64 * k + j) % 64 ≡ j = omega arith in
    has_in s (64 * k + j) (omega arith) ∙ ap₂ (λ q j. bit (word s.words q) j) a b

pub less_word :
    (s t : StationSet) (k : ℕ) → k < 4 → word t.words k < 2 ^ 64 → ((q : ℕ) → k < q → q < 4 → word s.words q ≡ word t.words q) →
    word s.words k < word t.words k → Less s t
less_word s t k l h f m =
    let r = less_bit 64 (word s.words k) (word t.words k) h m in
    record {
      top = 64 * k + r.top;
      lacks = has_at s k r.top l r.inside ∙ r.lacks;
      holds = has_at t k r.top l r.inside ∙ r.holds;
      above = λ i b. elim (cases_lt i 256) [
        | inr p ↦ has_past s i p ∙ sym (has_past t i p)
        | inl p ↦ has_in s i p ∙ (elim (cases_eq (i / 64) k) [
          | inl e ↦
              ap (λ q. bit (word s.words q) (i % 64)) e ∙ r.above (i % 64) (omega (arith, r.inside))
              ∙ sym (ap (λ q. bit (word t.words q) (i % 64)) e)
          | inr d ↦ ap (λ w. bit w (i % 64)) (f (i / 64) (omega (arith, r.inside)) (omega arith))
        ]) ∙ sym (has_in t i p)
      ];
    }

pub less_one_way : (s t : StationSet) → Less s t → Less t s → ⊥
less_one_way s t a b =
    elim (cases_order a.top b.top) [
      | inl e ↦ both_ways _ a.lacks (subst (λ i. has s i ≡ true) (sym e) b.holds)
      | inr o ↦ elim o [
        | inl l ↦ both_ways _ b.lacks (sym (a.above b.top l) ∙ b.holds)
        | inr l ↦ both_ways _ a.lacks (sym (b.above a.top l) ∙ a.holds)
      ]
    ]

pub less_same : (s t : StationSet) → ((q : ℕ) → q < 4 → word s.words q ≡ word t.words q) → Less s t → ⊥
less_same s t f a =
    let e : has s a.top ≡ has t a.top = elim (cases_lt a.top 256) [
      | inl l ↦ has_in s _ l ∙ ap (λ w. bit w (a.top % 64)) (f (a.top / 64) (omega arith)) ∙ sym (has_in t _ l)
      | inr p ↦ has_past s _ p ∙ sym (has_past t _ p)
    ] in
    both_ways _ a.lacks (e ∙ a.holds)

pub filled_low : (n : ℕ) → n < 64 → (k : ℕ) → bit ((1 * 2 ^ n) % 2 ^ 64 - 1) k ≡ ltb k n
filled_low n h k = ap (λ x. bit (x - 1) k) (one_shl n 64 h) ∙ bit_ones n k

pub filled_all : (n : ℕ) → 64 ≤ n → (k : ℕ) → k < 64 → bit (2 ^ 64 - 1) k ≡ ltb k n
filled_all n h k l = bit_ones 64 k ∙ lt-ltb k 64 l ∙ sym (lt-ltb k n (omega arith))

pub below_has :
    (n : ℕ) (ws : List ℕ) → ((q : ℕ) → q < 4 → (k : ℕ) → k < 64 → bit (word ws q) k ≡ ltb k (n - 64 * q)) → (i : ℕ) →
    has (of ws) i ≡ ltb i (min n 256)
below_has n ws f i =
    elim (cases_lt i 256) [
      | inr p ↦ has_past (of ws) i p ∙ sym (le-ltb i (min n 256) (omega arith))
      | inl l ↦ has_in (of ws) i l ∙ f (i / 64) (omega arith) (i % 64) (omega arith) ∙ (elim (cases_lt i n) [
        | inl m ↦ lt-ltb _ _ (omega arith) ∙ sym (lt-ltb i (min n 256) (omega arith))
        | inr m ↦ le-ltb _ _ (omega arith) ∙ sym (le-ltb i (min n 256) (omega arith))
      ])
    ]
