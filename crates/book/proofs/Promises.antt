-- From what the reader's loop has done to what reading promises.
use Rattle.std.proofs.Common.{◌≡◌, ℕ, ◌<◌, ◌≤◌, min, max, Bool, true, false, cond, List, length, drop, Ok, Err, sym, refl, ap, ◌∙◌, subst, ap₂, inl, inr, ⊎_elim, arith}
use Rattle.std.proofs.lemmas.Bool.{cases_Bool, cases_eq, cases_lt, both_ways}
use Rattle.store.specs.declared.matrix.Matrix.{Matrix}
use Rattle.store.specs.Squares.{bit, wiped}
use Rattle.store.specs.Matrices.{pair_mark, matrix_mark, counted, empty_net, bytes_of, net_of, Makes, SetsSize}
use Rattle.store.specs.MatrixLaws.{mark_same, mark_in, mark_outside}
use Rattle.store.proofs.Marks.{counted_same}
use Rattle.store.proofs.Squares.{wiped_bit, wiped_length, wiped_later}
use Rattle.book.specs.declared.faults.BookFault.{BookFault}
use Rattle.book.specs.declared.names.Names.{Names}
use Rattle.book.specs.Grammar.{Name, Networked, tied}
use Rattle.book.specs.Reading.{stations, ties_of}
use Rattle.book.specs.Drawing.{Whole, Clear, Beyond, BookDone}
use Rattle.book.specs.Promise.{Accepted, Rejected}
use Rattle.book.proofs.Accepts.{accepts_all}
use Rattle.book.proofs.Grammars.{reading_book, reading_alone, reading_none}
use Rattle.book.proofs.FirstFaults.{reading_first}
use Rattle.book.proofs.OnlyFaults.{first_read}
use Rattle.book.proofs.Networks.{networked}
use Rattle.book.proofs.Numbers.{numbers_tied}
use Rattle.book.proofs.Table.{names_length}

-- two tests, each true where the other is
same_test : (p q : Bool) → (p ≡ true → q ≡ true) → (q ≡ true → p ≡ true) → p ≡ q
same_test true q f g = sym (f refl)
same_test false true f g = g refl
same_test false false f g = refl

-- both bits say that the pair is tied, or neither does
both_say : (t : Bool) → pair_mark (cond t 1 0) (cond t 1 0) ≡ cond t 1 0
both_say true = refl
both_say false = refl

-- the marks of a square that holds the ties
module _ (bytes : List ℕ) (names : List Name) (ties : List (Name × Name)) (net : Networked names ties)
    (bits : (u v : ℕ) → u < 256 → v < 256 → bit bytes u v ≡ cond (tied names ties u v) 1 0) where
  alike : (u v : ℕ) → tied names ties u v ≡ tied names ties v u
  alike u v = same_test (tied names ties u v) (tied names ties v u) (net.symmetric u v) (net.symmetric v u)

  not_tied : (u v : ℕ) → (tied names ties u v ≡ true → ⊥) → ◌≡◌ {A = ℕ} 0 (cond (tied names ties u v) 1 0)
  not_tied u v n = elim (cases_Bool (tied names ties u v)) [ inl t ↦ absurd (n t) | inr f ↦ ap (λ b. cond b 1 0) (sym f) ]

  pub marks_tied : (u v : ℕ) → matrix_mark bytes (length names) u v ≡ cond (tied names ties u v) 1 0
  marks_tied u v =
      ⊎_elim
      (λ (e : u ≡ v). mark_same bytes (length names) u v e ∙ not_tied u v (λ t. both_ways (tied names ties u u) (net.loopless u) (ap (tied names ties u) e ∙ t)))
      (λ (d : u ≡ v → ⊥). ⊎_elim
      (λ (h : max u v < length names).
      let few = net.few in
      let lo = min u v in
      let hi = max u v in
      let same : tied names ties lo hi ≡ tied names ties u v =
      ⊎_elim
      (λ (l : u < v). let a : lo ≡ u = omega arith in let b : hi ≡ v = omega arith in ap₂ (tied names ties) a b)
      (λ (l : v ≤ u). let a : lo ≡ v = omega arith in let b : hi ≡ u = omega arith in ap₂ (tied names ties) a b ∙ alike v u)
      (cases_lt u v) in
      mark_in bytes (length names) u v d h
      ∙ ap₂ pair_mark (bits lo hi (omega arith) (omega arith) ∙ ap (λ b. cond b 1 0) same) (bits hi lo (omega arith) (omega arith) ∙ ap (λ b. cond b 1 0) (alike hi lo ∙ same))
      ∙ both_say (tied names ties u v))
      (λ (h : length names ≤ max u v). mark_outside bytes (length names) u v h ∙ not_tied u v (λ t. let w = net.within u v t in omega (arith, w.0, w.1)))
      (cases_lt (max u v) (length names)))
      (cases_eq u v)

-- a wiped matrix of 256 stations is ready for the lines
pub ready : (old made : Matrix) → 8192 ≤ length (bytes_of old) → bytes_of made ≡ wiped (bytes_of old) → made.n ≡ 256 → Whole made × Clear (bytes_of made)
ready old made long bytes n = (
  record { stations = n; long = subst (λ k. 8192 ≤ k) (sym (ap length bytes ∙ wiped_length (bytes_of old) long)) long },
  (λ x y hx hy. ap (λ b. bit b x y) bytes ∙ wiped_bit (bytes_of old) x y hx hy),
)

-- what was wiped and then drawn upon has the old bytes beyond the square
pub still_beyond : (old made drawn : Matrix) → 8192 ≤ length (bytes_of old) → bytes_of made ≡ wiped (bytes_of old) → Beyond (bytes_of made) (bytes_of drawn) → Beyond (bytes_of old) (bytes_of drawn)
still_beyond old made drawn long bytes b =
    record {
      long = b.long ∙ ap length bytes ∙ wiped_length (bytes_of old) long;
      later = b.later ∙ ap (drop 8192) bytes ∙ wiped_later (bytes_of old);
    }

-- the table has as many names as the book
pub count_is : (b : List ℕ) (t : Names) (made drawn : Matrix) (done : BookDone b made drawn (Ok t)) → t.count ≡ length (stations done.0)
count_is b t made drawn done = sym (names_length b t t.count) ∙ ap length done.2

pub accepted : (b : List ℕ) (t : Names) (old made drawn new : Matrix) → 8192 ≤ length (bytes_of old) → bytes_of made ≡ wiped (bytes_of old) → BookDone b made drawn (Ok t) → (n : ℕ) → n ≡ t.count → SetsSize n drawn new (Ok tt) → Accepted b t old new
accepted b t old made drawn new long bytes done n count sets =
    let es = done.0 in
    let r = done.1 in
    let names = stations es in
    let ties = ties_of es in
    let follows = reading_book b es r in
    let net = networked b names ties follows in
    let bits : (u v : ℕ) → u < 256 → v < 256 → bit (bytes_of drawn) u v ≡ cond (tied names ties u v) 1 0 =
    λ u v hu hv. done.4 u v hu hv ∙ ap (λ x. cond x 1 0) (numbers_tied es b u v (accepts_all b es r)) in
    let size : n ≡ length names = count ∙ count_is b t made drawn done in
    let far = still_beyond old made drawn long bytes done.5 in
    record {
      names = names;
      ties = ties;
      follows = follows;
      alone = λ ns ts f. reading_alone b es ns ts r f;
      faultless = λ f first. (let q = first_read b f first in let z : ◌≡◌ {A = ℕ} 0 1 = cc in omega arith);
      network = net;
      net = sets.3 ∙ ap (λ s. counted s (matrix_mark (bytes_of drawn) s)) size ∙ counted_same (length names) (length names) _ _ refl (marks_tied (bytes_of drawn) names ties net bits);
      bytes = record { bits = λ u v hu hv. ap (λ x. bit x u v) sets.1 ∙ bits u v hu hv; long = ap length sets.1 ∙ far.long; later = ap (drop 8192) sets.1 ∙ far.later };
      listed = done.2;
      inside = done.3;
    }

-- wiped again, the area is as if wiped at once
wiped_same : (a b : List ℕ) → drop 8192 a ≡ drop 8192 b → wiped a ≡ wiped b
unfolding wiped
wiped_same a b e = rw e

pub rejected : (b : List ℕ) (f : BookFault) (old made drawn new : Matrix) → 8192 ≤ length (bytes_of old) → bytes_of made ≡ wiped (bytes_of old) → BookDone b made drawn (Err f) → (n : ℕ) → n ≡ (net_of old).size → Makes n drawn new (Ok tt) → Rejected b f old new
rejected b f old made drawn new long bytes done n size makes =
    record {
      first = reading_first b _ done.0;
      only = λ g first. (let q = first_read b g first in let p = done.0 in cc);
      read = done.0;
      none = λ ns ts fb. reading_none b _ ns ts done.0 fb;
      net = makes.3 ∙ ap empty_net size;
      bytes = makes.1 ∙ wiped_same (bytes_of drawn) (bytes_of old) (still_beyond old made drawn long bytes done.1).later;
    }
