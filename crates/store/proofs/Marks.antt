-- What a change of bits does to the net of a matrix.
use Rattle.std.proofs.Common.{◌≡◌, ℕ, ◌+◌, ◌-◌, ◌<◌, ◌≤◌, min, max, Bool, true, false, cond, ◌&&◌, eqb, ◌⊎◌, List, length, sym, refl, ap, ◌∙◌, ap₂, inl, inr, ⊎_elim, arith}
use Rattle.std.proofs.lemmas.Bool.{cases_eq, cases_lt, cases_Bool, or_cases, and_parts, eqb-true, cond-true, cond-false}
use Rattle.store.specs.Nets.{couple, remarked, count_pairs, with_fill}
use Rattle.std.proofs.lemmas.Bool.Decides.{nat_tests}
use Rattle.store.specs.declared.refusal.Refusal.{Refusal}
use Rattle.store.specs.Refusals.{number, pair_refusal, lay_refusal}
use Rattle.store.specs.Squares.{bit, raised, lowered, wiped}
use Rattle.store.specs.Matrices.{pair_mark, matrix_mark, size_over, counted, matrix_net, empty_net, size_refusal}
use Rattle.store.specs.MatrixLaws.{size_short, size_long, size_most, mark_same, mark_in, mark_outside, mark_alike}
use Rattle.store.proofs.Checks.{size_fits, two_stations, number_some}
use Rattle.store.proofs.Counts.{one_fewer}
use Rattle.store.proofs.Squares.{raised_puts, lowered_puts, wiped_bit, wiped_length}

-- nets with the same size and the same marks, both counted
pub counted_same : (s t : ℕ) (f g : ℕ → ℕ → ℕ) → s ≡ t → ((a b : ℕ) → f a b ≡ g a b) → counted s f ≡ counted t g
counted_same s t f g e h = λ i. counted (e i) (λ a b. h a b i)

-- n stations in a whole square
pub size_is : (len n : ℕ) → 8192 ≤ len → 1 ≤ n → n ≤ 256 → size_over len n ≡ n
size_is len n long some most = size_long len n long ∙ (let e : min 256 (max 1 n) ≡ n = omega arith in e)

-- n stations over the same bytes
pub resized_net : (bytes : List ℕ) (n : ℕ) → size_refusal n (length bytes) ≡ 0 → matrix_net bytes n ≡ counted n (matrix_mark bytes n)
resized_net bytes n ok =
    let fits = size_fits n (length bytes) ok in
    ap (λ s. counted s (matrix_mark bytes s)) (size_is (length bytes) n fits.long fits.some fits.most)

-- no bit, no mark
pub wiped_mark : (old : List ℕ) (n u v : ℕ) → n ≤ 256 → matrix_mark (wiped old) n u v ≡ 0
wiped_mark old n u v most =
    ⊎_elim (mark_same (wiped old) n u v)
    (λ d. ⊎_elim
    (λ (h : max u v < n).
    mark_in (wiped old) n u v d h
    ∙ ap (λ s. pair_mark s (bit (wiped old) (max u v) (min u v))) (wiped_bit old (min u v) (max u v) (omega arith) (omega arith)))
    (mark_outside (wiped old) n u v)
    (cases_lt (max u v) n))
    (cases_eq u v)

pub wiped_net : (old : List ℕ) (n : ℕ) → size_refusal n (length old) ≡ 0 → matrix_net (wiped old) n ≡ empty_net n
wiped_net old n ok =
    let fits = size_fits n (length old) ok in
    let size : size_over (length (wiped old)) n ≡ n = size_is (length (wiped old)) n (omega (arith, wiped_length old fits.long)) fits.some fits.most in
    counted_same _ n _ (λ u v. 0) size (λ a b. wiped_mark old _ a b (omega (arith, size)))

-- either way round, the couple is the same two stations
couple_is : (u v a b : ℕ) → couple u v a b ≡ true → ((a ≡ u) × (b ≡ v)) ⊎ ((a ≡ v) × (b ≡ u))
couple_is u v a b e =
    elim (or_cases (eqb a u && eqb b v) (eqb b u && eqb a v) e) [
      | inl z ↦ (let p = and_parts (eqb a u) (eqb b v) z in inl (eqb-true a u p.0, eqb-true b v p.1))
      | inr z ↦ (let p = and_parts (eqb b u) (eqb a v) z in inr (eqb-true a v p.1, eqb-true b u p.0))
    ]

couple_not : (u v a b : ℕ) → couple u v a b ≡ false → ((a ≡ u) × (b ≡ v) → ⊥) × ((a ≡ v) × (b ≡ u) → ⊥)
couple_not u v a b e = ((λ p. grind (arith, nat_tests)), (λ p. grind (arith, nat_tests)))

-- the two bits of the pair u v are written, and no other
module _ (old new : List ℕ) (n u v stands tied : ℕ) (hu : u < n) (hv : v < n) (few : n ≤ 256) (d : u ≡ v → ⊥)
    (above : bit new (min u v) (max u v) ≡ stands) (below : bit new (max u v) (min u v) ≡ tied)
    (rest : (x y : ℕ) → y < 256 → ((x ≡ u) × (y ≡ v) → ⊥) → ((x ≡ v) × (y ≡ u) → ⊥) → bit new x y ≡ bit old x y) where
  mark_here : (a b : ℕ) → ((a ≡ u) × (b ≡ v)) ⊎ ((a ≡ v) × (b ≡ u)) → matrix_mark new n a b ≡ pair_mark stands tied
  mark_here a b w =
      let lo : min a b ≡ min u v = grind arith in
      let hi : max a b ≡ max u v = grind arith in
      let differ : a ≡ b → ⊥ = λ e. grind arith in
      mark_in new n a b differ (omega arith)
      ∙ ap₂ (λ x y. pair_mark (bit new x y) (bit new y x)) lo hi
      ∙ ap₂ pair_mark above below

  mark_rest : (a b : ℕ) → ((a ≡ u) × (b ≡ v) → ⊥) → ((a ≡ v) × (b ≡ u) → ⊥) → matrix_mark new n a b ≡ matrix_mark old n a b
  mark_rest a b p q =
      ⊎_elim (λ e. mark_same new n a b e ∙ sym (mark_same old n a b e))
      (λ (ne : a ≡ b → ⊥). ⊎_elim
      (λ (h : max a b < n).
      let one = rest (min a b) (max a b) (omega arith) (λ r. grind arith) (λ r. grind arith) in
      let two = rest (max a b) (min a b) (omega arith) (λ r. grind arith) (λ r. grind arith) in
      mark_in new n a b ne h ∙ ap₂ pair_mark one two ∙ sym (mark_in old n a b ne h))
      (λ (h : n ≤ max a b). mark_outside new n a b h ∙ sym (mark_outside old n a b h))
      (cases_lt (max a b) n))
      (cases_eq a b)

  pub marks_changed : (a b : ℕ) → matrix_mark new n a b ≡ remarked (matrix_mark old n) u v (pair_mark stands tied) a b
  marks_changed a b =
      elim (cases_Bool (couple u v a b)) [
        | inl e ↦ mark_here a b (couple_is u v a b e) ∙ sym (cond-true (couple u v a b) (pair_mark stands tied) (matrix_mark old n a b) e)
        | inr e ↦ mark_rest a b (couple_not u v a b e).0 (couple_not u v a b e).1 ∙ sym (cond-false (couple u v a b) (pair_mark stands tied) (matrix_mark old n a b) e)
      ]

-- the mark, from what the two bits of the lower and the upper station say
pub mark_read : (bytes : List ℕ) (n u v lo hi m : ℕ) (stands tied : Bool) → pair_refusal n u v ≡ 0 → lo ≡ min u v → hi ≡ max u v → stands ≡ eqb (bit bytes lo hi) 1 → tied ≡ eqb (bit bytes hi lo) 1 → m ≡ cond stands (cond tied 1 2) 0 → m ≡ matrix_mark bytes n u v
mark_read bytes n u v lo hi m stands tied ok p q s t e =
    let two = two_stations n u v ok in
    let differ = two.differ in
    e ∙ ap₂ (λ x y. cond x (cond y 1 2) 0) s t ∙ ap₂ (λ x y. pair_mark (bit bytes x y) (bit bytes y x)) p q ∙ sym (mark_in bytes n u v differ (omega arith))

-- the mark of two stations is that of the lower and the upper
pub mark_ordered : (bytes : List ℕ) (n u v : ℕ) → matrix_mark bytes n (min u v) (max u v) ≡ matrix_mark bytes n u v
mark_ordered bytes n u v =
    ⊎_elim
    (λ (h : u < v). ap₂ (matrix_mark bytes n) {x = min u v} {y = u} (omega arith) (omega arith))
    (λ (h : v ≤ u). ap₂ (matrix_mark bytes n) {x = min u v} {y = v} (omega arith) (omega arith) ∙ mark_alike bytes n v u)
    (cases_lt u v)

-- stations that are no pair have no mark
pub refused_mark : (bytes : List ℕ) (n u v : ℕ) (refusal : Refusal) → number refusal ≡ pair_refusal n u v → 0 ≡ matrix_mark bytes n u v
refused_mark bytes n u v refusal e =
    ⊎_elim (λ same. sym (mark_same bytes n u v same))
    (λ (differ : u ≡ v → ⊥).
    ⊎_elim (λ (h : max u v < n). absurd (number_some refusal (e ∙ grind (arith, nat_tests))))
    (λ (h : n ≤ max u v). sym (mark_outside bytes n u v h))
    (cases_lt (max u v) n))
    (cases_eq u v)

-- the same bit both ways round
both_bits : (new : List ℕ) (u v s : ℕ) → bit new u v ≡ s → bit new v u ≡ s → (bit new (min u v) (max u v) ≡ s) × (bit new (max u v) (min u v) ≡ s)
both_bits new u v s p q = (grind arith, grind arith)

-- a pair that did not stand joins the fill: one fewer does not stand
pub filled_count : (mark : ℕ → ℕ → ℕ) (n u v : ℕ) → ((a b : ℕ) → mark a b ≡ mark b a) → (u ≡ v → ⊥) → u < n → v < n → mark u v ≡ 0 → count_pairs (remarked mark u v 2) 0 n + 1 ≡ count_pairs mark 0 n
filled_count mark n u v alike d hu hv free =
    let new = remarked mark u v 2 in
    let lo = min u v in
    let hi = max u v in
    let here : couple u v lo hi ≡ true = grind (arith, nat_tests) in
    let turned = alike u v in
    let had : mark lo hi ≡ 0 = grind arith in
    let lost : new lo hi ≡ 0 → ⊥ = λ e. grind (arith, nat_tests) in
    one_fewer mark new 0 lo hi (omega arith) had lost (λ a b h p. cond-false (couple u v a b) 2 (mark a b) (not_couple u v a b h p)) n (omega arith)
  where
    not_couple : (u v a b : ℕ) → a < b → ((a ≡ min u v) × (b ≡ max u v) → ⊥) → couple u v a b ≡ false
    not_couple u v a b h p = grind (arith, nat_tests)

-- the bits u v and v u both set
pub tied_net : (old : List ℕ) (n u v : ℕ) → 8192 ≤ length old → u < size_over (length old) n → v < size_over (length old) n → (u ≡ v → ⊥) → matrix_net (raised (raised old u v) v u) n ≡ counted (size_over (length old) n) (remarked (matrix_mark old (size_over (length old) n)) u v 1)
tied_net old n u v long hu hv d =
    let size = size_over (length old) n in
    let few = size_most (length old) n in
    let mid = raised old u v in
    let new = raised mid v u in
    let first = raised_puts old u v long (omega arith) (omega arith) in
    let second = raised_puts mid v u (omega (arith, first.long)) (omega arith) (omega arith) in
    let one = both_bits new u v 1 (second.rest u v (omega arith) (λ p. d p.0) ∙ first.here) second.here in
    let same : size_over (length new) n ≡ size = ap (λ l. size_over l n) (second.long ∙ first.long) in
    let rest : (x y : ℕ) → y < 256 → ((x ≡ u) × (y ≡ v) → ⊥) → ((x ≡ v) × (y ≡ u) → ⊥) → bit new x y ≡ bit old x y = λ x y h p q. second.rest x y h q ∙ first.rest x y h p in
    ap (λ s. counted s (matrix_mark new s)) same ∙ counted_same size size _ _ refl (marks_changed old new size u v 1 1 hu hv few d one.0 one.1 rest)

-- the bit of the lower and the upper station set, the other cleared
pub laid_net : (old : List ℕ) (n u v : ℕ) → 8192 ≤ length old → u < size_over (length old) n → v < size_over (length old) n → (u ≡ v → ⊥) → matrix_mark old (size_over (length old) n) u v ≡ 0 → matrix_net (lowered (raised old (min u v) (max u v)) (max u v) (min u v)) n ≡ with_fill (matrix_net old n) u v
laid_net old n u v long hu hv d free =
    let size = size_over (length old) n in
    let few = size_most (length old) n in
    let lo = min u v in
    let hi = max u v in
    let mid = raised old lo hi in
    let new = lowered mid hi lo in
    let first = raised_puts old lo hi long (omega arith) (omega arith) in
    let second = lowered_puts mid hi lo (omega (arith, first.long)) (omega arith) (omega arith) in
    let same : size_over (length new) n ≡ size = ap (λ l. size_over l n) (second.long ∙ first.long) in
    let rest : (x y : ℕ) → y < 256 → ((x ≡ u) × (y ≡ v) → ⊥) → ((x ≡ v) × (y ≡ u) → ⊥) → bit new x y ≡ bit old x y =
    λ x y h p q. second.rest x y h (λ r. grind arith)
    ∙ first.rest x y h (λ r. grind arith) in
    let marks : (a b : ℕ) → matrix_mark new size a b ≡ remarked (matrix_mark old size) u v 2 a b =
    marks_changed old new size u v 1 0 hu hv few d (second.rest lo hi (omega arith) (λ p. omega (arith, p.0)) ∙ first.here) second.here rest in
    let fewer : count_pairs (remarked (matrix_mark old size) u v 2) 0 size ≡ count_pairs (matrix_mark old size) 0 size - 1 = omega (arith, filled_count (matrix_mark old size) size u v (mark_alike old size) d hu hv free) in
    ap (λ s. counted s (matrix_mark new s)) same ∙ counted_same size size _ _ refl marks
    ∙ (λ i. record { size = size; mark = remarked (matrix_mark old size) u v 2; room = fewer i })

-- a pair that does not stand may be laid: there is room for it
pub free_allowed : (old : List ℕ) (n u v : ℕ) → u < size_over (length old) n → v < size_over (length old) n → (u ≡ v → ⊥) → matrix_mark old (size_over (length old) n) u v ≡ 0 → lay_refusal (matrix_net old n) u v ≡ 0
free_allowed old n u v hu hv d free =
    let size = size_over (length old) n in
    let mark = matrix_mark old size in
    let some : 0 < count_pairs mark 0 size = omega (arith, filled_count mark size u v (mark_alike old size) d hu hv free) in
    grind (arith, nat_tests)

-- one station has no pair, whatever the bytes
pub lone_net : (bytes : List ℕ) → matrix_net bytes 1 ≡ empty_net 1
lone_net bytes =
    let one : size_over (length bytes) 1 ≡ 1 = ⊎_elim (λ (h : length bytes < 8192). size_short (length bytes) 1 h) (λ (h : 8192 ≤ length bytes). size_is (length bytes) 1 h (omega arith) (omega arith)) (cases_lt (length bytes) 8192) in
    ap (λ s. counted s (matrix_mark bytes s)) one ∙ counted_same 1 1 _ (λ u v. 0) refl (λ a b. lone a b)
  where
    lone : (a b : ℕ) → matrix_mark bytes 1 a b ≡ 0
    lone a b = ⊎_elim (mark_same bytes 1 a b) (λ (d : a ≡ b → ⊥). mark_outside bytes 1 a b (omega arith)) (cases_eq a b)
