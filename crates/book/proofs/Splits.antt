-- Pieces put together again, names, and the search among them.
use Rattle.std.proofs.Common.{cond, ◌≡◌, ℕ, zero, suc, ◌+◌, ◌<◌, ◌≤◌, true, false, eqb, ltb, ◌⊎◌, List, [], ◌∷◌, ◌++◌, length, get_or, Some, None, Option, sym, refl, ap, ◌∙◌, inl, inr, ⊎_elim, append_assoc, arith}
use Rattle.std.specs.Str.{bytes_eq}
use Rattle.std.proofs.lemmas.Slice.Eq.{bytes_eq-Decides}
use Rattle.std.proofs.lemmas.Bool.{cond-true, cond-false, cases_Bool, le-ltb, ltb-false, eq-eqb, eqb-true, ne_eqb, both_ways}
use Rattle.book.specs.FirstFault.{Lacks}
use Rattle.book.specs.Grammar.{Name, name_byte, AllNameBytes, WellFormed, Among}
use Rattle.book.specs.declared.faults.Layer.TheVariants.{Word as word_layer}
use Rattle.book.specs.Faults.{spot_at}
use Rattle.book.specs.Reading.{found, found_from, split, led, empty, name_fault, bad_spot}

-- there is always a first piece
pub split_cons : (c : ℕ) (bs : List ℕ) → (u : List ℕ) × (us : List (List ℕ)) × (split c bs ≡ u ∷ us)
split_cons c [] = ([], [], refl)
split_cons c (b ∷ bs) = elim (eqb b c) as (λ t. (u : List ℕ) × (us : List (List ℕ)) × (cond t ([] ∷ split c bs) (led (b ∷ []) (split c bs)) ≡ u ∷ us)) [ true ↦ ([], split c bs, refl) | false ↦ (let q = split_cons c bs in (b ∷ q.0, q.1, ap (led (b ∷ [])) q.2)) ]

-- two lists before the first piece
pub led_led : (p q : List ℕ) (ws : List (List ℕ)) → led p (led q ws) ≡ led (p ++ q) ws
led_led p q [] = refl
led_led p q (w ∷ ws) = ap (λ x. x ∷ ws) (sym (append_assoc p q w))

-- a list with a byte is not empty
pub empty_by : (a : List ℕ) → (length a ≡ 0 → ⊥) → empty a ≡ false
empty_by [] n = absurd (n refl)
empty_by (b ∷ bs) n = refl

-- a list without a byte is empty
pub empty_of : (a : List ℕ) → length a ≡ 0 → empty a ≡ true
empty_of [] n = refl
empty_of (b ∷ bs) n = absurd (omega arith)

-- pieces put together again
abbrev pub unsplit : ℕ → List (List ℕ) → List ℕ
unsplit c [] = []
unsplit c (w ∷ []) = w
unsplit c (w ∷ v ∷ ws) = w ++ c ∷ unsplit c (v ∷ ws)

-- what is put before the first piece comes first
unsplit_led : (c : ℕ) (p w : List ℕ) (ws : List (List ℕ)) → unsplit c (led p (w ∷ ws)) ≡ p ++ unsplit c (w ∷ ws)
unsplit_led c p w [] = refl
unsplit_led c p w (v ∷ ws) = append_assoc p w (c ∷ unsplit c (v ∷ ws))

-- what was split is put together again
pub unsplit_split : (c : ℕ) (b : List ℕ) → unsplit c (split c b) ≡ b
unsplit_split c [] = refl
unsplit_split c (x ∷ xs) =
    let q = split_cons c xs in
    let h : unsplit c (q.0 ∷ q.1) ≡ xs = ap (unsplit c) (sym q.2) ∙ unsplit_split c xs in
    ⊎_elim
    (λ (e : eqb x c ≡ true). ap (unsplit c) (cond-true (eqb x c) ([] ∷ split c xs) (led (x ∷ []) (split c xs)) e ∙ ap (λ s. [] ∷ s) q.2) ∙ ap (λ y. c ∷ y) h ∙ ap (λ n. n ∷ xs) (sym (eqb-true x c e)))
    (λ (e : eqb x c ≡ false). ap (unsplit c) (cond-false (eqb x c) ([] ∷ split c xs) (led (x ∷ []) (split c xs)) e ∙ ap (led (x ∷ [])) q.2) ∙ unsplit_led c (x ∷ []) q.0 q.1 ∙ ap (λ y. x ∷ y) h)
    (cases_Bool (eqb x c))

-- a first piece without c, then c
pub split_lacks : (c : ℕ) (p t : List ℕ) → Lacks c p → split c (p ++ c ∷ t) ≡ p ∷ split c t
split_lacks c [] t h = cond-true (eqb c c) _ _ (eq-eqb c c refl)
split_lacks c (x ∷ p) t h = cond-false (eqb x c) _ _ (ne_eqb x c h.0) ∙ ap (led (x ∷ [])) (split_lacks c p t h.1)

-- one piece without c
pub split_only : (c : ℕ) (p : List ℕ) → Lacks c p → split c p ≡ p ∷ []
split_only c [] h = refl
split_only c (x ∷ p) h = cond-false (eqb x c) _ _ (ne_eqb x c h.0) ∙ ap (led (x ∷ [])) (split_only c p h.1)

-- a name has no byte that is not allowed
pub name_lacks : (c : ℕ) (a : Name) → name_byte c ≡ false → AllNameBytes a → Lacks c a
name_lacks c [] f h = tt
name_lacks c (x ∷ a) f h = (λ e. both_ways (name_byte c) f (ap name_byte (sym e) ∙ h.0), name_lacks c a f h.1)

-- names
bad_none : (p : ℕ) (a : Name) → bad_spot p a ≡ None → AllNameBytes a
bad_none p [] e = tt
bad_none p (x ∷ a) e =
    ⊎_elim
    (λ (t : name_byte x ≡ true). (t, bad_none (p + 1) a (sym (cond-true (name_byte x) (bad_spot (p + 1) a) (Some (spot_at word_layer 25 p)) t) ∙ e)))
    (λ (t : name_byte x ≡ false). let f = sym (cond-false (name_byte x) (bad_spot (p + 1) a) (Some (spot_at word_layer 25 p)) t) ∙ e in let z : ◌≡◌ {A = ℕ} 0 1 = cc in absurd (omega arith))
    (cases_Bool (name_byte x))

-- a name of allowed bytes has no bad byte
none_bad : (p : ℕ) (a : Name) → AllNameBytes a → bad_spot p a ≡ None
none_bad p [] h = refl
none_bad p (x ∷ a) h = cond-true (name_byte x) _ _ h.0 ∙ none_bad (p + 1) a h.1

-- a name without fault is well formed
pub fault_none : (p : ℕ) (a : Name) → name_fault p a ≡ None → empty a ≡ false → WellFormed a
fault_none p a e ne =
    ⊎_elim
    (λ (t : ltb 12 (length a) ≡ true). let f = sym (cond-true (ltb 12 (length a)) (Some (spot_at word_layer 24 p)) (bad_spot p a) t) ∙ e in let z : ◌≡◌ {A = ℕ} 0 1 = cc in absurd (omega arith))
    (λ (t : ltb 12 (length a) ≡ false). record { some = some_by a ne; short = ltb-false 12 (length a) t; bytes = bad_none p a (sym (cond-false (ltb 12 (length a)) (Some (spot_at word_layer 24 p)) (bad_spot p a) t) ∙ e) })
    (cases_Bool (ltb 12 (length a)))
  where
    some_by : (a : Name) → empty a ≡ false → 1 ≤ length a
    some_by [] n = absurd (both_ways true n refl)
    some_by (x ∷ a) n = omega arith

-- a well-formed name has no fault
pub none_fault : (p : ℕ) (a : Name) → WellFormed a → name_fault p a ≡ None
none_fault p a w = cond-false (ltb 12 (length a)) _ _ (le-ltb 12 (length a) w.short) ∙ none_bad p a w.bytes

-- a well-formed name is not empty
pub not_empty : (a : Name) → WellFormed a → empty a ≡ false
not_empty a w = empty_by a (λ e. omega (arith, w.some))

-- the search among names
pub found_at : (i : ℕ) (a : Name) (ns : List Name) (k : ℕ) → found_from i a ns ≡ Some k → (j : ℕ) × (k ≡ i + j) × (j < length ns) × (get_or ns j [] ≡ a)
found_at i a [] k e = let z : ◌≡◌ {A = ℕ} 0 1 = cc in absurd (omega arith)
found_at i a (n ∷ ns) k e =
    ⊎_elim
    (λ (t : bytes_eq n a ≡ true). let f = sym (cond-true (bytes_eq n a) (Some i) (found_from (i + 1) a ns) t) ∙ e in let q : i ≡ k = cc in (0, omega arith, omega arith, (bytes_eq-Decides n a).0 t))
    (λ (t : bytes_eq n a ≡ false). let h = found_at (i + 1) a ns k (sym (cond-false (bytes_eq n a) (Some i) (found_from (i + 1) a ns) t) ∙ e) in (suc h.0, omega (arith, h.1), omega (arith, h.2), h.3))
    (cases_Bool (bytes_eq n a))

-- a name that is not found is not among the names
pub none_among : (i : ℕ) (a : Name) (ns : List Name) → found_from i a ns ≡ None → Among a ns → ⊥
none_among i a [] e m = omega (arith, m.1)
none_among i a (n ∷ ns) e (zero, l, q) =
    let f = sym (cond-true (bytes_eq n a) (Some i) (found_from (i + 1) a ns) ((bytes_eq-Decides n a).1 q)) ∙ e in let z : ◌≡◌ {A = ℕ} 0 1 = cc in omega arith
none_among i a (n ∷ ns) e (suc k, l, q) =
    ⊎_elim
    (λ (t : bytes_eq n a ≡ true). let f = sym (cond-true (bytes_eq n a) (Some i) (found_from (i + 1) a ns) t) ∙ e in let z : ◌≡◌ {A = ℕ} 0 1 = cc in absurd (omega arith))
    (λ (t : bytes_eq n a ≡ false). none_among (i + 1) a ns (sym (cond-false (bytes_eq n a) (Some i) (found_from (i + 1) a ns) t) ∙ e) (k, omega arith, q))
    (cases_Bool (bytes_eq n a))

-- found, or not
pub found_cases : (o : Option ℕ) → (o ≡ None) ⊎ ((k : ℕ) × (o ≡ Some k))
found_cases None = inl refl
found_cases (Some k) = inr (k, refl)

-- a name among the names is found
pub among_some : (a : Name) (ns : List Name) → Among a ns → (k : ℕ) × (found a ns ≡ Some k)
among_some a ns m = elim (found_cases (found a ns)) [ inl e ↦ absurd (none_among 0 a ns e m) | inr r ↦ r ]

-- a name not among the names is not found
pub among_none : (a : Name) (ns : List Name) → (Among a ns → ⊥) → found a ns ≡ None
among_none a ns n = elim (found_cases (found a ns)) [ inl e ↦ e | inr r ↦ absurd (let h = found_at 0 a ns r.0 r.1 in n (h.0, h.2, h.3)) ]
