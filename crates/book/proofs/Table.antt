-- The table of names.
use Rattle.std.proofs.Common.{◌≡◌, ℕ, zero, suc, ◌+◌, ◌<◌, Bool, cond, List, [], ◌∷◌, ◌++◌, length, get_or, take, Some, sym, refl, ap, ◌∙◌, subst, ⊎_elim, add-one, arith, length-take}
use Rattle.std.specs.List.{position_from}
use Rattle.std.specs.Str.{bytes_eq}
use Rattle.std.proofs.lemmas.List.{length_push, get_or_push, get_or_append_left, get_or-set_same, get_or-set_other, get_or-take, get_or_default}
use Rattle.std.proofs.lemmas.Bool.{cases_eq}
use Rattle.book.specs.declared.names.Names.{Names}
use Rattle.book.specs.declared.names.Span.{Span}
use Rattle.book.specs.Grammar.{Name}
use Rattle.book.specs.Reading.{found, found_from}
use Rattle.book.specs.Tables.{no_span, spanned, span_at, name_at, first_names, names_in, Fits, Inside, Added}

-- the table has as many names as it counts
pub names_length : (b : List ℕ) (t : Names) (n : ℕ) → length (first_names b t n) ≡ n
names_length b t zero = refl
names_length b t (suc n) = length_push (first_names b t n) (name_at b t n) ∙ (let h = names_length b t n in omega arith)

-- the k-th of the first n names
pub names_at : (b : List ℕ) (t : Names) (n k : ℕ) → k < n → get_or (first_names b t n) k [] ≡ name_at b t k
names_at b t zero k h = absurd (omega arith)
names_at b t (suc n) k h =
    let len = names_length b t n in
    ⊎_elim
    (λ e. subst (λ j. get_or (first_names b t n ++ name_at b t n ∷ []) j [] ≡ name_at b t j) (sym e) (get_or_push (first_names b t n) (name_at b t n) [] n len))
    (λ ne. get_or_append_left (first_names b t n) (name_at b t n ∷ []) [] k (omega arith) ∙ names_at b t n k (omega arith))
    (cases_eq k n)

-- two tables that agree below n have the same first n names
pub names_same : (b : List ℕ) (t u : Names) (n : ℕ) → ((k : ℕ) → k < n → name_at b t k ≡ name_at b u k) → first_names b t n ≡ first_names b u n
names_same b t u zero h = refl
names_same b t u (suc n) h = ap (λ x. x ++ name_at b t n ∷ []) (names_same b t u n (λ k l. h k (omega arith))) ∙ ap (λ x. first_names b u n ++ x ∷ []) (h n (omega arith))

-- the new name is where it was put
pub added_span : (t u : Names) (s : Span) → Added t u s → span_at u t.count ≡ s
added_span t u s a = ap (λ x. get_or x t.count no_span) a.spans ∙ get_or-set_same t.spans t.count s no_span a.room

-- the names before it are as they were
pub added_below : (t u : Names) (s : Span) (k : ℕ) → Added t u s → k < t.count → span_at u k ≡ span_at t k
added_below t u s k a h = ap (λ x. get_or x k no_span) a.spans ∙ get_or-set_other t.spans t.count k s no_span (λ e. omega arith)

-- the names with one more
pub added_names : (b : List ℕ) (t u : Names) (s : Span) → Added t u s → names_in b u ≡ names_in b t ++ spanned b s ∷ []
added_names b t u s a =
    let q : u.count ≡ suc t.count = a.count ∙ add-one t.count in
    ap (first_names b u) q
    ∙ ap (λ x. x ++ name_at b u t.count ∷ []) (names_same b u t t.count (λ k h. ap (spanned b) (added_below t u s k a h)))
    ∙ ap (λ x. first_names b t t.count ++ spanned b x ∷ []) (added_span t u s a)

-- whether the book has the name at the span
abbrev pub is_name : List ℕ → Name → Span → Bool
is_name b a s = bytes_eq (spanned b s) a

-- a search of the spans is one of the names where their tests agree
found_alike : (p : Span → Bool) (a : Name) (i : ℕ) (ss : List Span) (ns : List Name) → length ss ≡ length ns
    → ((k : ℕ) → k < length ss → p (get_or ss k no_span) ≡ bytes_eq (get_or ns k []) a) → position_from p i ss ≡ found_from i a ns
found_alike p a i [] [] e h = refl
found_alike p a i [] (n ∷ ns) e h = absurd (omega arith)
found_alike p a i (s ∷ ss) [] e h = absurd (omega arith)
found_alike p a i (s ∷ ss) (n ∷ ns) e h =
    ap (λ t. cond t (Some i) (position_from p (i + 1) ss)) (h 0 (omega arith))
    ∙ ap (cond (bytes_eq n a) (Some i)) (found_alike p a (i + 1) ss ns (omega arith) (λ k l. h (suc k) (omega arith)))

-- the search of the table
pub found_span : (b : List ℕ) (t : Names) (a : Name) → Inside b t → length t.spans ≡ 256 → position_from (is_name b a) 0 (take t.count t.spans) ≡ found a (names_in b t)
found_span b t a i l =
    let few = i.few in
    let n = names_length b t t.count in
    let m : length (take t.count t.spans) ≡ t.count = simp length-take (omega arith) in
    found_alike (is_name b a) a 0 (take t.count t.spans) (names_in b t) (m ∙ sym n) (λ k h.
    let l : k < t.count = omega arith in
    let z : get_or (take t.count t.spans) k no_span ≡ span_at t k = get_or-take t.count t.spans k no_span l in
    ap (is_name b a) z ∙ ap (λ x. bytes_eq x a) (sym (names_at b t t.count k l)))

-- a span that the table counts lies in the book
pub counted_fits : (b : List ℕ) (t : Names) (s : Span) (k : ℕ) → Inside b t → k < length (take t.count t.spans) → s ≡ get_or (take t.count t.spans) k s → Fits b s
counted_fits b t s k i h e =
    let q : k < t.count = omega (arith, h, length-take t.count t.spans) in
    subst (Fits b) (sym (e ∙ get_or_default _ k s no_span h ∙ get_or-take t.count t.spans k no_span q)) (i.fits k q)
