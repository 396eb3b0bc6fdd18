-- The fault that the reading finds in a line is the first of its words.
use Rattle.std.proofs.Common.{◌≡◌, ℕ, suc, ◌+◌, ◌≤◌, true, false, cond, ◌||◌, eqb, ltb, ◌⊎◌, List, [], ◌∷◌, ◌++◌, length, get_or, Some, None, Ok, Err, Option, Result, sym, refl, ap, ◌∙◌, subst, inl, inr, ⊎_elim, arith}
use Rattle.std.proofs.lemmas.Bool.{cond-true, cond-false, cases_Bool, ltb-true, ltb-false, eqb-true, eqb-false, or_cases, or_parts, both_ways}
use Rattle.book.specs.declared.faults.Layer.TheVariants.{Word as word_layer, Line as line_layer, Book as book_layer}
use Rattle.book.specs.Faults.{Spot, spot_at}
use Rattle.book.specs.Grammar.{Name, name_byte, AllNameBytes, WellFormed}
use Rattle.book.specs.Reading.{Shape, gives, ties, Entry, station, tie, bad_spot, name_fault, unless, empty, after_s, after_t, next, is_byte, words_read, line_read, found, given_read, ties_read, entry_read, split, led}
use Rattle.book.specs.FirstFault.{Cut, S, T, WordFaulty, too_long, bad_byte, LineFaulty, kind, station_words, station_empty, tie_words, tie_empty, station_name, left_name, right_name, given_before, left_unknown, right_unknown, itself, one_too_many}
use Rattle.book.proofs.Splits.{split_cons}
use Rattle.book.proofs.Splits.{fault_none, found_at, none_among, found_cases}
use Rattle.book.proofs.Accepts.{is_byte_lem}

-- a byte that is not c joins the first piece
cut_led : (c x : ℕ) (text u : List ℕ) (us : List (List ℕ)) → (x ≡ c → ⊥) → Cut c text (u ∷ us) → Cut c (x ∷ text) ((x ∷ u) ∷ us)
cut_led c x text u [] d p = ((d, p.0), ap (λ t. x ∷ t) p.1)
cut_led c x text u (v ∷ us) d p = ((d, p.0), (p.1.0, ap (λ t. x ∷ t) p.1.1, p.1.2))

-- the split cuts the text
pub cut_split : (c : ℕ) (text : List ℕ) → Cut c text (split c text)
cut_split c [] = (tt, refl)
cut_split c (x ∷ xs) =
    let q = split_cons c xs in
    let rest : Cut c xs (q.0 ∷ q.1) = subst (Cut c xs) q.2 (cut_split c xs) in
    ⊎_elim
    (λ (e : eqb x c ≡ true).
    subst (Cut c (x ∷ xs)) (sym (cond-true (eqb x c) ([] ∷ split c xs) (led (x ∷ []) (split c xs)) e ∙ ap (λ s. [] ∷ s) q.2))
    (tt, (xs, ap (λ b. b ∷ xs) (eqb-true x c e), rest)))
    (λ (e : eqb x c ≡ false).
    subst (Cut c (x ∷ xs)) (sym (cond-false (eqb x c) ([] ∷ split c xs) (led (x ∷ []) (split c xs)) e ∙ ap (led (x ∷ [])) q.2))
    (cut_led c x xs q.0 q.1 (eqb-false x c e) rest))
    (cases_Bool (eqb x c))

-- an error is no answer
no_answer : {A : Type 0} {B : Type 0} (s : Spot) (x : A) → ◌≡◌ {A = Result A Spot} (Ok x) (Err s) → B
no_answer s x e = let z : ◌≡◌ {A = ℕ} 0 1 = cc in absurd (omega arith)

-- equal errors are of equal places
same_spot : {A : Type 0} (s t : Spot) → ◌≡◌ {A = Result A Spot} (Err s) (Err t) → s ≡ t
same_spot s t e = cc

-- the first byte that is not allowed
bad_found : (at : ℕ) (a : Name) (s : Spot) → bad_spot at a ≡ Some s → (front : List ℕ) × (back : List ℕ) × (byte : ℕ) × (a ≡ front ++ byte ∷ back) × AllNameBytes front × (name_byte byte ≡ false) × (s ≡ spot_at word_layer 25 (at + length front))
bad_found at [] s e = let z : ◌≡◌ {A = ℕ} 0 1 = cc in absurd (omega arith)
bad_found at (x ∷ a) s e =
    ⊎_elim
    (λ (t : name_byte x ≡ true).
    let h = bad_found (at + 1) a s (sym (cond-true (name_byte x) (bad_spot (at + 1) a) (Some (spot_at word_layer 25 at)) t) ∙ e) in
    let far : at + 1 + length h.0 ≡ at + suc (length h.0) = omega arith in
    (x ∷ h.0, h.1, h.2, ap (λ y. x ∷ y) h.3, (t, h.4), h.5, h.6 ∙ ap (spot_at word_layer 25) far))
    (λ (t : name_byte x ≡ false).
    let f = sym (cond-false (name_byte x) (bad_spot (at + 1) a) (Some (spot_at word_layer 25 at)) t) ∙ e in
    let q : spot_at word_layer 25 at ≡ s = cc in
    let here : at ≡ at + 0 = omega arith in
    ([], a, x, refl, tt, t, sym q ∙ ap (spot_at word_layer 25) here))
    (cases_Bool (name_byte x))

pub word_faulty : (at : ℕ) (a : Name) (s : Spot) → name_fault at a ≡ Some s → WordFaulty at a s
word_faulty at a s e =
    ⊎_elim
    (λ (t : ltb 12 (length a) ≡ true).
    let f = sym (cond-true (ltb 12 (length a)) (Some (spot_at word_layer 24 at)) (bad_spot at a) t) ∙ e in
    let q : spot_at word_layer 24 at ≡ s = cc in
    subst (WordFaulty at a) q (too_long (ltb-true 12 (length a) t)))
    (λ (t : ltb 12 (length a) ≡ false).
    let h = bad_found at a s (sym (cond-false (ltb 12 (length a)) (Some (spot_at word_layer 24 at)) (bad_spot at a) t) ∙ e) in
    subst (WordFaulty at a) (sym h.6) (bad_byte h.0 h.1 h.2 (ltb-false 12 (length a) t) h.3 h.4 h.5))
    (cases_Bool (ltb 12 (length a)))

-- a name's fault or none
fault_cases : (o : Option Spot) → (o ≡ None) ⊎ ((s : Spot) × (o ≡ Some s))
fault_cases None = inl refl
fault_cases (Some s) = inr (s, refl)

is_empty : (a : List ℕ) → empty a ≡ true → a ≡ []
is_empty [] e = refl
is_empty (x ∷ a) e = absurd (both_ways false refl e)

not_none : (a : List ℕ) → empty a ≡ false → 1 ≤ length a
not_none [] e = absurd (both_ways true e refl)
not_none (x ∷ a) e = omega arith

-- a name of the right form among the stations above, or a new one
given_faulty : (names : List Name) (at p : ℕ) (a : Name) (s : Spot) → p ≡ at + 2 → WellFormed a → given_read names a p (found a names) ≡ Err s → LineFaulty names at (S ∷ a ∷ []) s
given_faulty names at p a s place well e =
    elim (found_cases (found a names)) [
      | inl n ↦
          (let f = sym (ap (given_read names a p) n) ∙ e in
          ⊎_elim
          (λ (t : ltb (length names) 256 ≡ true). no_answer s (station a) (sym (cond-true (ltb (length names) 256) (Ok (station a)) (Err (spot_at book_layer 29 p)) t) ∙ f))
          (λ (t : ltb (length names) 256 ≡ false).
          let q = same_spot {A = Entry} _ s (sym (cond-false (ltb (length names) 256) (Ok (station a)) (Err (spot_at book_layer 29 p)) t) ∙ f) in
          subst (LineFaulty names at (S ∷ a ∷ [])) (ap (spot_at book_layer 29) (sym place) ∙ q) (one_too_many well (none_among 0 a names n) (ltb-false (length names) 256 t)))
          (cases_Bool (ltb (length names) 256)))
      | inr k ↦
          (let q = same_spot {A = Entry} _ s (sym (ap (given_read names a p) k.1) ∙ e) in
          let h = found_at 0 a names k.0 k.1 in
          subst (LineFaulty names at (S ∷ a ∷ [])) (ap (spot_at book_layer 26) (sym place) ∙ q) (given_before well (h.0, h.2, h.3)))
    ]

station_faulty : (names : List Name) (at p : ℕ) (ws : List (List ℕ)) (s : Spot) → p ≡ at + 2 → entry_read names (after_s at p ws) ≡ Err s → LineFaulty names at (S ∷ ws) s
station_faulty names at p [] s place e = subst (LineFaulty names at (S ∷ [])) (same_spot {A = Entry} _ s e) (station_words (λ q. omega arith))
station_faulty names at p (a ∷ b ∷ ws) s place e = subst (LineFaulty names at (S ∷ a ∷ b ∷ ws)) (same_spot {A = Entry} _ s e) (station_words (λ q. omega arith))
station_faulty names at p (a ∷ []) s place e =
    let R : Result Shape Spot = unless (name_fault p a) (Ok (gives a p)) in
    ⊎_elim
    (λ (t : empty a ≡ true).
    let q = same_spot {A = Entry} _ s (sym (ap (entry_read names) (cond-true (empty a) (Err (spot_at line_layer 23 at)) R t)) ∙ e) in
    subst (λ x. LineFaulty names at (S ∷ x ∷ []) s) (sym (is_empty a t)) (subst (LineFaulty names at (S ∷ [] ∷ [])) q station_empty))
    (λ (t : empty a ≡ false).
    let f = sym (ap (entry_read names) (cond-false (empty a) (Err (spot_at line_layer 23 at)) R t)) ∙ e in
    elim (fault_cases (name_fault p a)) [
      | inl n ↦ given_faulty names at p a s place (fault_none p a n t) (sym (ap (λ o. entry_read names (unless o (Ok (gives a p)))) n) ∙ f)
      | inr w ↦
          (let q = same_spot {A = Entry} w.0 s (sym (ap (λ o. entry_read names (unless o (Ok (gives a p)))) w.1) ∙ f) in
          station_name (not_none a t) (subst (λ k. WordFaulty k a s) place (word_faulty p a s (w.1 ∙ ap Some q))))
    ])
    (cases_Bool (empty a))

-- two names of the right form among the stations above
known_faulty : (names : List Name) (at p : ℕ) (a b : Name) (s : Spot) → p ≡ at + 2 → WellFormed a → WellFormed b → ties_read a p b (next p a) (found a names) (found b names) ≡ Err s → LineFaulty names at (T ∷ a ∷ b ∷ []) s
known_faulty names at p a b s place wa wb e =
    let second : next p a ≡ at + 2 + length a + 1 = ap (λ k. k + length a + 1) place in
    elim (found_cases (found a names)) [
      | inl n ↦
          (let q = same_spot {A = Entry} _ s (sym (ap (λ x. ties_read a p b (next p a) x (found b names)) n) ∙ e) in
          subst (LineFaulty names at (T ∷ a ∷ b ∷ [])) (ap (spot_at book_layer 27) (sym place) ∙ q) (left_unknown wa wb (none_among 0 a names n)))
      | inr u ↦
          (let f = sym (ap (λ x. ties_read a p b (next p a) x (found b names)) u.1) ∙ e in
          let fa = found_at 0 a names u.0 u.1 in
          elim (found_cases (found b names)) [
            | inl n ↦
                (let q = same_spot {A = Entry} _ s (sym (ap (ties_read a p b (next p a) (Some u.0)) n) ∙ f) in
                subst (LineFaulty names at (T ∷ a ∷ b ∷ [])) (ap (spot_at book_layer 27) (sym second) ∙ q) (right_unknown wa wb (fa.0, fa.2, fa.3) (none_among 0 b names n)))
            | inr v ↦
                (let g = sym (ap (ties_read a p b (next p a) (Some u.0)) v.1) ∙ f in
                let fb = found_at 0 b names v.0 v.1 in
                let N : Result Entry Spot = Err (spot_at book_layer 28 (next p a)) in
                ⊎_elim
                (λ (t : eqb u.0 v.0 ≡ true).
                let q = same_spot {A = Entry} _ s (sym (cond-true (eqb u.0 v.0) N (Ok (tie a b)) t) ∙ g) in
                let one : fa.0 ≡ fb.0 = omega (arith, fa.1, fb.1, eqb-true u.0 v.0 t) in
                let same : a ≡ b = sym fa.3 ∙ ap (λ k. get_or names k []) one ∙ fb.3 in
                subst (LineFaulty names at (T ∷ a ∷ b ∷ [])) (ap (spot_at book_layer 28) (sym second) ∙ q) (itself wa (fa.0, fa.2, fa.3) same))
                (λ (t : eqb u.0 v.0 ≡ false). no_answer s (tie a b) (sym (cond-false (eqb u.0 v.0) N (Ok (tie a b)) t) ∙ g))
                (cases_Bool (eqb u.0 v.0)))
          ])
    ]

tie_faulty : (names : List Name) (at p : ℕ) (ws : List (List ℕ)) (s : Spot) → p ≡ at + 2 → entry_read names (after_t at p ws) ≡ Err s → LineFaulty names at (T ∷ ws) s
tie_faulty names at p [] s place e = subst (LineFaulty names at (T ∷ [])) (same_spot {A = Entry} _ s e) (tie_words (λ q. omega arith))
tie_faulty names at p (a ∷ []) s place e = subst (LineFaulty names at (T ∷ a ∷ [])) (same_spot {A = Entry} _ s e) (tie_words (λ q. omega arith))
tie_faulty names at p (a ∷ b ∷ c ∷ ws) s place e = subst (LineFaulty names at (T ∷ a ∷ b ∷ c ∷ ws)) (same_spot {A = Entry} _ s e) (tie_words (λ q. omega arith))
tie_faulty names at p (a ∷ b ∷ []) s place e =
    let n = next p a in
    let second : n ≡ at + 2 + length a + 1 = ap (λ k. k + length a + 1) place in
    let rest : Option Spot → Result Shape Spot = λ o. unless o (Ok (ties a p b n)) in
    let R : Result Shape Spot = unless (name_fault p a) (rest (name_fault n b)) in
    ⊎_elim
    (λ (t : (empty a || empty b) ≡ true).
    let q = same_spot {A = Entry} _ s (sym (ap (entry_read names) (cond-true (empty a || empty b) (Err (spot_at line_layer 23 at)) R t)) ∙ e) in
    let which : (length a ≡ 0) ⊎ (length b ≡ 0) = ⊎_elim (λ x. inl (ap length (is_empty a x))) (λ y. inr (ap length (is_empty b y))) (or_cases (empty a) (empty b) t) in
    subst (LineFaulty names at (T ∷ a ∷ b ∷ [])) q (tie_empty which))
    (λ (t : (empty a || empty b) ≡ false).
    let both = or_parts (empty a) (empty b) t in
    let f = sym (ap (entry_read names) (cond-false (empty a || empty b) (Err (spot_at line_layer 23 at)) R t)) ∙ e in
    elim (fault_cases (name_fault p a)) [
      | inr w ↦
          (let q = same_spot {A = Entry} w.0 s (sym (ap (λ o. entry_read names (unless o (rest (name_fault n b)))) w.1) ∙ f) in
          left_name (not_none a both.0) (not_none b both.1) (subst (λ k. WordFaulty k a s) place (word_faulty p a s (w.1 ∙ ap Some q))))
      | inl x ↦
          (let g = sym (ap (λ o. entry_read names (unless o (rest (name_fault n b)))) x) ∙ f in
          let wa = fault_none p a x both.0 in
          elim (fault_cases (name_fault n b)) [
            | inr w ↦
                (let q = same_spot {A = Entry} w.0 s (sym (ap (λ o. entry_read names (rest o)) w.1) ∙ g) in
                right_name wa (not_none b both.1) (subst (λ k. WordFaulty k b s) second (word_faulty n b s (w.1 ∙ ap Some q))))
            | inl y ↦ known_faulty names at p a b s place wa (fault_none n b y both.1) (sym (ap (λ o. entry_read names (rest o)) y) ∙ g)
          ])
    ])
    (cases_Bool (empty a || empty b))

words_faulty : (names : List Name) (at : ℕ) (w : List ℕ) (ws : List (List ℕ)) (s : Spot) → entry_read names (words_read at (w ∷ ws)) ≡ Err s → LineFaulty names at (w ∷ ws) s
words_faulty names at w ws s e =
    let A = after_s at (next at w) ws in
    let B = after_t at (next at w) ws in
    let N : Result Shape Spot = Err (spot_at line_layer 22 at) in
    let after : (c : ℕ) → w ≡ c ∷ [] → next at w ≡ at + 2 = λ c q. omega (arith, ap length q) in
    ⊎_elim
    (λ (t : is_byte 83 w ≡ true).
    let q = is_byte_lem 83 w t in
    subst (λ x. LineFaulty names at (x ∷ ws) s) (sym q) (station_faulty names at (next at w) ws s (after 83 q) (sym (ap (entry_read names) (cond-true (is_byte 83 w) A (cond (is_byte 84 w) B N) t)) ∙ e)))
    (λ (t : is_byte 83 w ≡ false).
    let f = sym (ap (entry_read names) (cond-false (is_byte 83 w) A (cond (is_byte 84 w) B N) t)) ∙ e in
    ⊎_elim
    (λ (x : is_byte 84 w ≡ true).
    let q = is_byte_lem 84 w x in
    subst (λ y. LineFaulty names at (y ∷ ws) s) (sym q) (tie_faulty names at (next at w) ws s (after 84 q) (sym (ap (entry_read names) (cond-true (is_byte 84 w) B N x)) ∙ f)))
    (λ (x : is_byte 84 w ≡ false).
    let q = same_spot {A = Entry} _ s (sym (ap (entry_read names) (cond-false (is_byte 84 w) B N x)) ∙ f) in
    subst (LineFaulty names at (w ∷ ws)) q (kind (λ z. both_ways (is_byte 83 w) t (ap (is_byte 83) z)) (λ z. both_ways (is_byte 84 w) x (ap (is_byte 84) z))))
    (cases_Bool (is_byte 84 w)))
    (cases_Bool (is_byte 83 w))

-- the words of a faulty line have the fault
pub line_faulty : (names : List Name) (at : ℕ) (line : List ℕ) (s : Spot) → entry_read names (line_read at line) ≡ Err s → LineFaulty names at (split 32 line) s
line_faulty names at line s e =
    let q = split_cons 32 line in
    subst (λ ws. LineFaulty names at ws s) (sym q.2) (words_faulty names at q.0 q.1 s (ap (λ ws. entry_read names (words_read at ws)) (sym q.2) ∙ e))
