-- What a write of one byte does to the bits of a square.
use Rattle.std.proofs.Common.{◌≡◌, ℕ, ◌*◌, ◌%◌, ◌^◌, ◌<◌, ◌≤◌, not, eqb, min, max, List, ◌++◌, length, get_or, drop, set, replicate, bit_and, bit_or, w8, sym, ap, ap₂, ◌∙◌, ⊎_elim, arith, length-append, length-drop, length-set}
use Rattle.std.proofs.Math.Pow.{pow-lt}
use Rattle.std.proofs.lemmas.Nat.{pow_pos}
use Rattle.std.proofs.lemmas.Nat.Bits.{bit_at_set_same, bit_at_set_other, bit_at_clear_same, bit_at_clear_other, bit_at-zero, bit_at-lt, and_pow}
use Rattle.std.proofs.lemmas.Bool.{cases_eq, cases_lt}
use Rattle.std.proofs.lemmas.List.{get_or-set_same, get_or-set_other, set_comm, get_or_append_left, get_or-replicate, length-replicate, drop-set-lt}
use Rattle.std.proofs.lemmas.Slice.{drop-append-drop}
use Rattle.std.specs.Int.{bit_at}
use Rattle.store.specs.Squares.{place, mask, bit, raised, lowered, wiped}

-- the bit u v becomes b, and the others stay
pub record Puts (old : List ℕ) (u v b : ℕ) (new : List ℕ) : Type 0 where
  pub long : length new ≡ length old
  pub here : bit new u v ≡ b
  pub rest : (x y : ℕ) → y < 256 → ((x ≡ u) × (y ≡ v) → ⊥) → bit new x y ≡ bit old x y

-- a byte is written that differs in one bit
module _ (old : List ℕ) (u v w t : ℕ) (long : 8192 ≤ length old) (hu : u < 256) (hv : v < 256)
    (here : bit_at w (v % 8) ≡ t)
    (rest : (j : ℕ) → j < 8 → (j ≡ v % 8 → ⊥) → bit_at w j ≡ bit_at (get_or old (place u v) 0) j) where
  inside : place u v < length old
  inside = omega arith

  pub puts : Puts old u v t (set old (place u v) w)
  unfolding bit
  puts =
      record {
        long = simp length-set;
        here = ap (λ b. bit_at b (v % 8)) (get_or-set_same old (place u v) w 0 inside) ∙ here;
        rest = λ x y hy d.
            ⊎_elim
            (λ (e : place x y ≡ place u v).
            let xu : x ≡ u = omega arith in
            let ne : y % 8 ≡ v % 8 → ⊥ = λ s. d (xu, omega arith) in
            ap (λ i. bit_at (get_or (set old (place u v) w) i 0) (y % 8)) e
            ∙ ap (λ b. bit_at b (y % 8)) (get_or-set_same old (place u v) w 0 inside)
            ∙ rest (y % 8) (omega arith) ne
            ∙ ap (λ i. bit_at (get_or old i 0) (y % 8)) (sym e))
            (λ (n : place x y ≡ place u v → ⊥). ap (λ b. bit_at b (y % 8)) (get_or-set_other old (place u v) (place x y) w 0 n))
            (cases_eq (place x y) (place u v));
      }

pub raised_puts : (old : List ℕ) (u v : ℕ) → 8192 ≤ length old → u < 256 → v < 256 → Puts old u v 1 (raised old u v)
unfolding raised
raised_puts old u v long hu hv =
    let byte = get_or old (place u v) 0 in
    puts old u v _ 1 long hu hv (bit_at_set_same w8 byte (v % 8) (omega arith)) (λ j hj d. bit_at_set_other w8 byte (v % 8) (omega arith) j d)

pub lowered_puts : (old : List ℕ) (u v : ℕ) → 8192 ≤ length old → u < 256 → v < 256 → Puts old u v 0 (lowered old u v)
unfolding lowered
lowered_puts old u v long hu hv =
    let byte = get_or old (place u v) 0 in
    puts old u v _ 0 long hu hv (bit_at_clear_same w8 byte (v % 8) (omega arith)) (λ j hj d. bit_at_clear_other w8 byte (v % 8) (omega arith) j hj d)

-- a byte has a bit in common with the mask of that bit exactly where the bit is 1
pub mask_tests : (byte k : ℕ) → k < 8 → not (eqb (bit_and byte (1 * 2 ^ k % 2 ^ 8)) 0) ≡ eqb (bit_at byte k) 1
mask_tests byte k h =
    let power : 1 * 2 ^ k % 2 ^ 8 ≡ 2 ^ k = omega (arith, pow-lt {i = k} {j = 8} h) in
    let some : 0 < 2 ^ k = omega (arith, pow_pos k) in
    ap (λ m. not (eqb (bit_and byte m) 0)) power ∙ ap (λ x. not (eqb x 0)) (and_pow byte k) ∙ test (bit_at byte k) (2 ^ k) (bit_at-lt byte k) some
  where
    test : (b m : ℕ) → b < 2 → 0 < m → not (eqb (b * m) 0) ≡ eqb b 1
    test b m h p = grind arith

-- two bits of different rows are raised in either order
raised_turns : (old : List ℕ) (u v x y : ℕ) → v < 256 → y < 256 → (u ≡ x → ⊥) → raised (raised old u v) x y ≡ raised (raised old x y) u v
unfolding raised
raised_turns old u v x y hv hy d =
    let apart : place u v ≡ place x y → ⊥ = λ e. d (omega arith) in
    let one = bit_or (get_or old (place u v) 0) (mask v) in
    let other = bit_or (get_or old (place x y) 0) (mask y) in
    ap (λ b. set (set old (place u v) one) (place x y) (bit_or b (mask y))) (get_or-set_other old (place u v) (place x y) one 0 (λ e. apart (sym e)))
    ∙ set_comm old (place u v) (place x y) one other apart
    ∙ ap (λ b. set (set old (place x y) other) (place u v) (bit_or b (mask v))) (sym (get_or-set_other old (place x y) (place u v) other 0 apart))

-- the two bits of two stations, whichever is the lower
pub raised_both : (old : List ℕ) (u v : ℕ) → u < 256 → v < 256 → (u ≡ v → ⊥) → raised (raised old (min u v) (max u v)) (max u v) (min u v) ≡ raised (raised old u v) v u
raised_both old u v hu hv d =
    ⊎_elim
    (λ (h : u < v). ap₂ (λ lo hi. raised (raised old lo hi) hi lo) {x = min u v} {y = u} (omega arith) (omega arith))
    (λ (h : v ≤ u). ap₂ (λ lo hi. raised (raised old lo hi) hi lo) (omega arith) (omega arith) ∙ raised_turns old v u u v hu hv (λ e. d (sym e)))
    (cases_lt u v)

-- bytes beyond the square stay
pub raised_later : (old : List ℕ) (u v : ℕ) → u < 256 → v < 256 → drop 8192 (raised old u v) ≡ drop 8192 old
unfolding raised
raised_later old u v hu hv = drop-set-lt 8192 old (place u v) _ (omega arith)

-- n zero bytes in front
zero_front : (n : ℕ) (rest : List ℕ) (k : ℕ) → k < n → get_or (replicate n 0 ++ rest) k 0 ≡ 0
zero_front n rest k h =
    get_or_append_left (replicate n 0) rest 0 k (omega (arith, length-replicate {A = ℕ} n 0)) ∙ get_or-replicate n k 0 0 h

pub wiped_bit : (old : List ℕ) (u v : ℕ) → u < 256 → v < 256 → bit (wiped old) u v ≡ 0
unfolding bit wiped
wiped_bit old u v hu hv = ap (λ b. bit_at b (v % 8)) (zero_front 8192 (drop 8192 old) (place u v) (omega arith)) ∙ bit_at-zero (v % 8)

zero_length : (n : ℕ) (old : List ℕ) → n ≤ length old → length (replicate n 0 ++ drop n old) ≡ length old
zero_length n old h = simp (length-append, length-replicate, length-drop) (omega arith)

pub wiped_length : (old : List ℕ) → 8192 ≤ length old → length (wiped old) ≡ length old
unfolding wiped
wiped_length old h = zero_length 8192 old h

pub wiped_later : (old : List ℕ) → drop 8192 (wiped old) ≡ drop 8192 old
unfolding wiped
wiped_later old = drop-append-drop 8192 old (replicate 8192 0) 8192 (omega arith) (length-replicate {A = ℕ} 8192 0)
