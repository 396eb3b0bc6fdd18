-- The bits of a word of any width.
use Rattle.std.proofs.Common.{◌≡◌, ℕ, zero, suc, ◌+◌, ◌-◌, ◌/◌, ◌%◌, ◌^◌, ◌<◌, Bool, true, false, cond, not, ◌&&◌, ◌||◌, eqb, ltb, ◌≢◌, sym, refl, ap, ◌∙◌, inl, inr, pow-suc, arith}
use lib.Bits.{bit_and, bit_or, or_shr, or_mod, and_shr, and_mod}
use lib.Count.{ones, ones_step, count_trailing_zeros, under}
use Rattle.std.proofs.lemmas.Nat.{mod_below, pow_pos, shr-shr}
use Rattle.std.proofs.lemmas.Bool.{eq-eqb, ne_eqb, cases_eq, cases_lt, lt-ltb, le-ltb}
use Rattle.sets.specs.Sets.{bit, size}

-- a digit
abbrev digit : ℕ → ℕ → ℕ
digit w k = w / 2 ^ k % 2

digit_lt : (w k : ℕ) → digit w k < 2
digit_lt w k = mod_below (w / 2 ^ k) 2 (omega arith)

-- ---- or, and, not

or_digit : (x y : ℕ) → x < 2 → y < 2 → eqb (bit_or x y) 1 ≡ (eqb x 1 || eqb y 1)
or_digit zero zero h k = refl
or_digit zero (suc zero) h k = refl
or_digit (suc zero) zero h k = refl
or_digit (suc zero) (suc zero) h k = refl
or_digit zero (suc (suc y)) h k = absurd (omega arith)
or_digit (suc zero) (suc (suc y)) h k = absurd (omega arith)
or_digit (suc (suc x)) y h k = absurd (omega arith)

and_digit : (x y : ℕ) → x < 2 → y < 2 → eqb (bit_and x y) 1 ≡ (eqb x 1 && eqb y 1)
and_digit zero zero h k = refl
and_digit zero (suc zero) h k = refl
and_digit (suc zero) zero h k = refl
and_digit (suc zero) (suc zero) h k = refl
and_digit zero (suc (suc y)) h k = absurd (omega arith)
and_digit (suc zero) (suc (suc y)) h k = absurd (omega arith)
and_digit (suc (suc x)) y h k = absurd (omega arith)

not_digit : (x y : ℕ) → x < 2 → y ≡ 1 - x → eqb y 1 ≡ not (eqb x 1)
not_digit zero y h e = eq-eqb y 1 e
not_digit (suc zero) y h e = ne_eqb y 1 (λ i. omega arith)
not_digit (suc (suc x)) y h e = absurd (omega arith)

pub bit_of_or : (a b k : ℕ) → bit (bit_or a b) k ≡ (bit a k || bit b k)
bit_of_or a b k =
    ap (λ n. eqb n 1) (ap (λ n. n % 2) (or_shr a b k) ∙ or_mod (a / 2 ^ k) (b / 2 ^ k) 1) ∙ or_digit _ _ (digit_lt a k) (digit_lt b k)

pub bit_of_and : (a b k : ℕ) → bit (bit_and a b) k ≡ (bit a k && bit b k)
bit_of_and a b k =
    ap (λ n. eqb n 1) (ap (λ n. n % 2) (and_shr a b k) ∙ and_mod (a / 2 ^ k) (b / 2 ^ k) 1) ∙ and_digit _ _ (digit_lt a k) (digit_lt b k)

-- ---- by halves

pub bit_zero : (w : ℕ) → bit w 0 ≡ eqb (w % 2) 1
bit_zero w = ap (λ n. eqb (n % 2) 1) (omega arith)

pub bit_half : (w k : ℕ) → bit w (suc k) ≡ bit (w / 2) k
bit_half w k = ap (λ n. eqb (n % 2) 1) (ap (λ n. w / 2 ^ n) (omega arith) ∙ sym (shr-shr w 1 k))

-- no bit of 0 is set
pub none_set : (k : ℕ) → bit 0 k ≡ false
none_set zero = refl
none_set (suc k) = bit_half 0 k ∙ none_set k

-- all the bits of a word of w bits turned
pub bit_not : (w b k : ℕ) → k < w → b < 2 ^ w → bit (2 ^ w - 1 - b) k ≡ not (bit b k)
bit_not zero b k l h = absurd (omega arith)
bit_not (suc w) b zero l h =
    let s = pow-suc 2 w in
    bit_zero (2 ^ suc w - 1 - b) ∙ not_digit (b % 2) _ (omega arith) (omega arith) ∙ ap not (sym (bit_zero b))
bit_not (suc w) b (suc k) l h =
    let s = pow-suc 2 w in
    bit_half (2 ^ suc w - 1 - b) k ∙ ap (λ n. bit n k) (omega arith) ∙ bit_not w (b / 2) k (omega arith) (omega arith) ∙ ap not (sym (bit_half b k))

-- the one bit of a power
pub power_here : (i : ℕ) → bit (2 ^ i) i ≡ true
power_here zero = refl
power_here (suc i) = let s = pow-suc 2 i in bit_half (2 ^ suc i) i ∙ ap (λ n. bit n i) (omega arith) ∙ power_here i

pub power_other : (i k : ℕ) → k ≢ i → bit (2 ^ i) k ≡ false
power_other zero zero d = absurd (d refl)
power_other zero (suc k) d = bit_half 1 k ∙ none_set k
power_other (suc i) zero d = let s = pow-suc 2 i in bit_zero (2 ^ suc i) ∙ ne_eqb _ _ (λ e. omega arith)
power_other (suc i) (suc k) d =
    let s = pow-suc 2 i in bit_half (2 ^ suc i) k ∙ ap (λ n. bit n k) (omega arith) ∙ power_other i k (λ e. d (omega arith))

pub bit_power : (i k : ℕ) → bit (2 ^ i) k ≡ eqb k i
bit_power i k =
    elim (cases_eq k i) [
      | inl e ↦ ap (λ j. bit (2 ^ i) j) e ∙ power_here i ∙ sym (eq-eqb k i e)
      | inr d ↦ power_other i k d ∙ sym (ne_eqb k i d)
    ]

-- the bits of n ones
pub bit_ones : (n k : ℕ) → bit (2 ^ n - 1) k ≡ ltb k n
bit_ones zero k = none_set k ∙ sym (le-ltb k 0 (omega arith))
bit_ones (suc n) zero =
    let s = pow-suc 2 n in
    let z = pow_pos n in
    bit_zero (2 ^ suc n - 1) ∙ eq-eqb _ _ (omega arith) ∙ sym (lt-ltb 0 (suc n) (omega arith))
bit_ones (suc n) (suc k) =
    let s = pow-suc 2 n in
    bit_half (2 ^ suc n - 1) k ∙ ap (λ n. bit n k) (omega arith) ∙ bit_ones n k ∙ less
  where
    less : ltb k n ≡ ltb (suc k) (suc n)
    less = elim (cases_lt k n) [ inl l ↦ lt-ltb k n l ∙ sym (lt-ltb (suc k) (suc n) (omega arith)) | inr l ↦ le-ltb k n l ∙ sym (le-ltb (suc k) (suc n) (omega arith)) ]

-- the lowest set bit
pub record LowestBit (w n t : ℕ) : Type 0 where
  pub below : t < w
  pub set : bit n t ≡ true
  pub before : (i : ℕ) → i < t → bit n i ≡ false

pub lowest_bit : (w n : ℕ) → n < 2 ^ w → n ≢ 0 → LowestBit w n (count_trailing_zeros w n)
unfolding count_trailing_zeros
lowest_bit zero n h d = absurd (d (omega arith))
lowest_bit (suc w) n h d = let s = pow-suc 2 w in go (λ z. lowest_bit w (n / 2) (omega arith) z) (n % 2) refl
  where
    early : LowestBit w (n / 2) (count_trailing_zeros w (n / 2)) → 0 ≡ n % 2 → (i : ℕ) → i < suc (count_trailing_zeros w (n / 2)) → bit n i ≡ false
    early r e zero l = bit_zero n ∙ ne_eqb _ _ (λ o. omega arith)
    early r e (suc i) l = bit_half n i ∙ r.before i (omega arith)

    go : (n / 2 ≢ 0 → LowestBit w (n / 2) (count_trailing_zeros w (n / 2))) → (x : ℕ) → x ≡ n % 2 → LowestBit (suc w) n (under x (count_trailing_zeros w (n / 2)))
    go rest zero e =
        let r = rest (λ z. d (omega arith)) in
        record {
          below = omega (arith, r.below);
          set = bit_half n _ ∙ r.set;
          before = λ i l. early r e i l;
        }
    go rest (suc x) e =
        record {
          below = omega arith;
          set = bit_zero n ∙ eq-eqb _ _ (omega arith);
          before = λ i l. absurd (omega arith);
        }

-- ---- how many

-- counted from the lowest
pub size_from : (test : ℕ → Bool) (m : ℕ) → size test (suc m) ≡ cond (test 0) 1 0 + size (λ i. test (suc i)) m
unfolding size
size_from test zero = elim (test 0) as (λ t. cond t 1 0 ≡ cond t 1 0 + 0) [ true ↦ refl | false ↦ refl ]
size_from test (suc m) =
    ap (λ n. cond (test (suc m)) (suc n) n) (size_from test m)
    ∙ (elim (test (suc m)) as (λ t. cond t (suc (cond (test 0) 1 0 + size (λ i. test (suc i)) m)) (cond (test 0) 1 0 + size (λ i. test (suc i)) m) ≡ cond (test 0) 1 0 + cond t (suc (size (λ i. test (suc i)) m)) (size (λ i. test (suc i)) m)) [ true ↦ omega arith | false ↦ refl ])

pub size_same : (f g : ℕ → Bool) (m : ℕ) → ((i : ℕ) → i < m → f i ≡ g i) → size f m ≡ size g m
unfolding size
size_same f g zero h = refl
size_same f g (suc m) h =
    ap (λ t. cond t (suc (size f m)) (size f m)) (h m (omega arith)) ∙ ap (λ n. cond (g m) (suc n) n) (size_same f g m (λ i l. h i (omega arith)))

digit_cond : (x : ℕ) → x < 2 → cond (eqb x 1) 1 0 ≡ x
digit_cond zero h = refl
digit_cond (suc zero) h = refl
digit_cond (suc (suc x)) h = absurd (omega arith)

ones_none : ones 0 ≡ 0
unfolding ones
ones_none = refl

pub size_bits : (w n : ℕ) → n < 2 ^ w → size (bit n) w ≡ ones n
unfolding size
size_bits zero n h = let z : n ≡ 0 = omega arith in sym (ap ones z ∙ ones_none)
size_bits (suc w) n h =
    let s = pow-suc 2 w in
    size_from (bit n) w
    ∙ ap (λ x. x + size (λ i. bit n (suc i)) w) (ap (λ t. cond t 1 0) (bit_zero n) ∙ digit_cond (n % 2) (omega arith))
    ∙ ap (λ x. n % 2 + x) (size_same _ _ w (λ i l. bit_half n i) ∙ size_bits w (n / 2) (omega arith))
    ∙ sym (ones_step n)

-- ---- order

pub record LessBit (w a b : ℕ) : Type 0 where
  pub top : ℕ
  pub inside : top < w
  pub lacks : bit a top ≡ false
  pub holds : bit b top ≡ true
  pub above : (i : ℕ) → top < i → bit a i ≡ bit b i

pub less_bit : (w a b : ℕ) → b < 2 ^ w → a < b → LessBit w a b
less_bit zero a b h l = absurd (omega arith)
less_bit (suc w) a b h l =
    let s = pow-suc 2 w in
    elim (cases_lt (a / 2) (b / 2)) [
      | inl m ↦
          let r = less_bit w (a / 2) (b / 2) (omega arith) m in
          record {
            top = suc r.top;
            inside = omega (arith, r.inside);
            lacks = bit_half a r.top ∙ r.lacks;
            holds = bit_half b r.top ∙ r.holds;
            above = λ i k. shifted r i k;
          }
      | inr m ↦
          record {
            top = 0;
            inside = omega arith;
            lacks = bit_zero a ∙ ne_eqb _ _ (λ e. omega arith);
            holds = bit_zero b ∙ eq-eqb _ _ (omega arith);
            above = λ i k. same (omega arith) i k;
          }
    ]
  where
    shifted : (r : LessBit w (a / 2) (b / 2)) (i : ℕ) → suc r.top < i → bit a i ≡ bit b i
    shifted r zero k = absurd (omega arith)
    shifted r (suc i) k = bit_half a i ∙ r.above i (omega arith) ∙ sym (bit_half b i)

    same : a / 2 ≡ b / 2 → (i : ℕ) → 0 < i → bit a i ≡ bit b i
    same e zero k = absurd (omega arith)
    same e (suc i) k = bit_half a i ∙ ap (λ n. bit n i) e ∙ sym (bit_half b i)
