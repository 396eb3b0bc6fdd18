-- Ties drawn into a matrix: which bits they set, and what the matrix means then.
use Rattle.std.proofs.Common.{◌≡◌, ℕ, ◌<◌, ◌≤◌, Bool, true, false, cond, ◌&&◌, ◌||◌, eqb, List, [], ◌∷◌, ◌++◌, length, Some, None, Ok, Err, Option, Result, sym, refl, ap, ◌∙◌, ap₂, inl, inr, arith}
use Rattle.std.proofs.lemmas.Bool.{cases_Bool, or_left, or_right, or_from, and_parts, and_from, eqb-true, eq-eqb, cond-true, cond-false, both_ways}
use Rattle.std.specs.Option.{option_to_list}
use Rattle.store.specs.declared.refusal.Refusal.{Refusal}
use Rattle.store.specs.declared.matrix.Matrix.{Matrix}
use Rattle.store.specs.Squares.{bit, raised}
use Rattle.store.specs.Matrices.{bytes_of, net_of, Ties}
use Rattle.store.proofs.Checks.{pair_passes, number_some}
use Rattle.store.proofs.Marks.{size_is}
use Rattle.store.proofs.Squares.{raised_puts, raised_later}
use Rattle.book.specs.Reading.{Entry, stations}
use Rattle.book.specs.Pairs.{pairs_of, pairs_after, joins, tied_in}
use Rattle.book.specs.Shown.{Known}
use Rattle.book.specs.Drawing.{Whole, drawn, Beyond, Tabled}
use Rattle.book.proofs.Steps.{tied_more}

-- a whole matrix has 256 stations
pub whole_size : (m : Matrix) → Whole m → (net_of m).size ≡ 256
whole_size m w = ap (λ n. (net_of (record { area = m.area; n = n })).size) w.stations ∙ size_is (length (bytes_of m)) 256 w.long (omega arith) (omega arith)

-- two different stations of a whole matrix are tied
pub ties_whole : (u v : ℕ) (old new : Matrix) (r : Result (Unit {0}) Refusal) → Whole old → u < 256 → v < 256 → (u ≡ v → ⊥) → Ties u v old new r → (bytes_of new ≡ drawn ((u, v) ∷ []) (bytes_of old)) × (new.n ≡ old.n)
ties_whole u v old new (Ok x) w hu hv d t = (t.1, t.2)
ties_whole u v old new (Err e) w hu hv d t =
    let s = whole_size old w in
    absurd (number_some e (t.0 ∙ pair_passes (net_of old).size u v (omega arith) (omega arith) d))

-- the two bits of one pair
pub pair_bits : (old : List ℕ) (u v : ℕ) → 8192 ≤ length old → u < 256 → v < 256 → (u ≡ v → ⊥) → (x y : ℕ) → x < 256 → y < 256 → bit (raised (raised old u v) v u) x y ≡ cond (joins (u, v) x y) 1 (bit old x y)
pair_bits old u v long hu hv d x y hx hy =
    let first = raised_puts old u v long hu hv in
    let second = raised_puts (raised old u v) v u (omega (arith, first.long)) hv hu in
    elim (cases_Bool (eqb x u && eqb y v)) [
      | inl e ↦
          (let p = and_parts (eqb x u) (eqb y v) e in
          let xu = eqb-true x u p.0 in
          let yv = eqb-true y v p.1 in
          ap₂ (bit (raised (raised old u v) v u)) xu yv ∙ second.rest u v hv (λ q. d q.0) ∙ first.here
          ∙ sym (cond-true (joins (u, v) x y) 1 (bit old x y) (or_left (eqb x u && eqb y v) (eqb x v && eqb y u) e)))
      | inr n ↦
          elim (cases_Bool (eqb x v && eqb y u)) [
            | inl e ↦
                (let p = and_parts (eqb x v) (eqb y u) e in
                ap₂ (bit (raised (raised old u v) v u)) (eqb-true x v p.0) (eqb-true y u p.1) ∙ second.here
                ∙ sym (cond-true (joins (u, v) x y) 1 (bit old x y) (or_right (eqb x u && eqb y v) (eqb x v && eqb y u) e)))
            | inr m ↦
                second.rest x y hy (λ q. both_ways (eqb x v && eqb y u) m (and_from (eqb x v) (eqb y u) (eq-eqb x v q.0) (eq-eqb y u q.1)))
                ∙ first.rest x y hy (λ q. both_ways (eqb x u && eqb y v) n (and_from (eqb x u) (eqb y v) (eq-eqb x u q.0) (eq-eqb y v q.1)))
                ∙ sym (cond-false (joins (u, v) x y) 1 (bit old x y) (or_from (eqb x u && eqb y v) (eqb x v && eqb y u) n m))
          ]
    ]

-- a line's tie sets its bits, and no other
pub inked : (tie : Option (ℕ × ℕ)) (old : List ℕ) → Known 256 tie → 8192 ≤ length old → (x y : ℕ) → x < 256 → y < 256 → bit (drawn (option_to_list tie) old) x y ≡ cond (tied_in (option_to_list tie) x y) 1 (bit old x y)
inked None old k long x y hx hy = refl
inked (Some p) old k long x y hx hy =
    pair_bits old p.0 p.1 long k.0 k.1 k.2 x y hx hy ∙ ap (λ t. cond t 1 (bit old x y)) (sym (or_none (joins p x y)))
  where
    or_none : (b : Bool) → (b || false) ≡ b
    or_none true = refl
    or_none false = refl

-- and leaves the bytes beyond the square
pub drawn_beyond : (tie : Option (ℕ × ℕ)) (old : List ℕ) → Known 256 tie → 8192 ≤ length old → Beyond old (drawn (option_to_list tie) old)
drawn_beyond None old k long = record { long = refl; later = refl }
drawn_beyond (Some p) old k long =
    let first = raised_puts old p.0 p.1 long k.0 k.1 in
    let second = raised_puts (raised old p.0 p.1) p.1 p.0 (omega (arith, first.long)) k.1 k.0 in
    record {
      long = second.long ∙ first.long;
      later = raised_later (raised old p.0 p.1) p.1 p.0 k.1 k.0 ∙ raised_later old p.0 p.1 k.0 k.1;
    }

pub beyond_more : (a b c : List ℕ) → Beyond a b → Beyond b c → Beyond a c
beyond_more a b c p q = record { long = q.long ∙ p.long; later = q.later ∙ p.later }

-- the ties of one more entry
pub tabled_more : (es : List Entry) (e : Entry) (tie : Option (ℕ × ℕ)) (old : List ℕ) → Known 256 tie → 8192 ≤ length old → option_to_list tie ≡ pairs_of (stations es) e → Tabled es old → Tabled (es ++ e ∷ []) (drawn (option_to_list tie) old)
tabled_more es e tie old k long pair t x y hx hy =
    inked tie old k long x y hx hy
    ∙ ap (cond (tied_in (option_to_list tie) x y) 1) (t x y hx hy)
    ∙ ap (λ ps. cond (tied_in ps x y) 1 (cond (tied_in (pairs_after [] es) x y) 1 0)) pair
    ∙ either (tied_in (pairs_after [] es) x y) (tied_in (pairs_of (stations es) e) x y)
    ∙ ap (λ b. cond b 1 0) (sym (tied_more es e x y))
  where
    either : (p q : Bool) → ◌≡◌ {A = ℕ} (cond q 1 (cond p 1 0)) (cond (p || q) 1 0)
    either true true = refl
    either true false = refl
    either false true = refl
    either false false = refl

-- fewer stations than the table has are known among 256
pub known_all : (n : ℕ) (tie : Option (ℕ × ℕ)) → n ≤ 256 → Known n tie → Known 256 tie
known_all n None h k = tt
known_all n (Some p) h k = (omega (arith, k.0), omega (arith, k.1), k.2)
