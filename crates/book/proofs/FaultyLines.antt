-- The words of a faulty line are read as their fault, and a text is cut in one way.
use Rattle.std.proofs.Common.{◌≡◌, ℕ, suc, ◌+◌, ◌≤◌, true, false, ◌||◌, eqb, ltb, List, [], ◌∷◌, ◌++◌, length, Some, Ok, Err, sym, refl, ap, ◌∙◌, subst, ap₂, inl, inr, arith}
use Rattle.std.proofs.lemmas.Bool.{cond-true, cond-false, lt-ltb, le-ltb, eq-eqb, ne_eqb, or_left, or_right, or_from}
use Rattle.book.specs.declared.faults.Layer.TheVariants.{Word as word_layer, Line as line_layer, Book as book_layer}
use Rattle.book.specs.Faults.{Spot, spot_at}
use Rattle.book.specs.Grammar.{Name, name_byte, AllNameBytes, WellFormed}
use Rattle.book.specs.Reading.{gives, ties, station, tie, bad_spot, name_fault, unless, empty, after_s, after_t, next, is_byte, words_read, found, given_read, ties_read, entry_read, split}
use Rattle.book.specs.FirstFault.{Cut, S, T, WordFaulty, too_long, bad_byte, LineFaulty, kind, station_words, station_empty, tie_words, tie_empty, station_name, left_name, right_name, given_before, left_unknown, right_unknown, itself, one_too_many}
use Rattle.book.proofs.Splits.{empty_by}
use Rattle.book.proofs.Splits.{split_lacks, split_only, none_fault, among_some, among_none}

-- a text is cut in one way, the split's
pub cut_is : (c : ℕ) (text : List ℕ) (ws : List (List ℕ)) → Cut c text ws → split c text ≡ ws
cut_is c text [] p = absurd p
cut_is c text (w ∷ []) p = ap (split c) p.1 ∙ split_only c w p.0
cut_is c text (w ∷ v ∷ ws) p = ap (split c) p.1.1 ∙ split_lacks c w p.1.0 p.0 ∙ ap (λ x. w ∷ x) (cut_is c p.1.0 (v ∷ ws) p.1.2)

-- the first byte that is not allowed is found
bad_is : (at : ℕ) (front back : List ℕ) (byte : ℕ) → AllNameBytes front → name_byte byte ≡ false → bad_spot at (front ++ byte ∷ back) ≡ Some (spot_at word_layer 25 (at + length front))
bad_is at [] back byte f b = cond-false (name_byte byte) _ _ b ∙ (let here : at ≡ at + 0 = omega arith in ap (λ k. Some (spot_at word_layer 25 k)) here)
bad_is at (x ∷ front) back byte f b =
    let far : at + 1 + length front ≡ at + suc (length front) = omega arith in
    cond-true (name_byte x) _ _ f.0 ∙ bad_is (at + 1) front back byte f.1 b ∙ ap (λ k. Some (spot_at word_layer 25 k)) far

-- a faulty name's fault is found
faulty_word : (at : ℕ) (a : Name) (s : Spot) → WordFaulty at a s → name_fault at a ≡ Some s
faulty_word at a s (too_long h) = cond-true (ltb 12 (length a)) _ _ (lt-ltb 12 (length a) h)
faulty_word at a s (bad_byte front back byte short is f b) =
    cond-false (ltb 12 (length a)) _ _ (le-ltb 12 (length a) short) ∙ ap (bad_spot at) is ∙ bad_is at front back byte f b

-- another word than the byte c
not_byte : (c : ℕ) (w : List ℕ) → (w ≡ c ∷ [] → ⊥) → is_byte c w ≡ false
not_byte c [] d = refl
not_byte c (b ∷ []) d = ne_eqb b c (λ e. d (ap (λ x. x ∷ []) e))
not_byte c (b ∷ x ∷ bs) d = refl

some_word : (a : List ℕ) → 1 ≤ length a → empty a ≡ false
some_word a h = empty_by a (λ e. omega arith)

no_word : (a : List ℕ) → length a ≡ 0 → empty a ≡ true
no_word [] e = refl
no_word (x ∷ a) e = absurd (omega arith)

-- not one word after S, not two after T
other_than_one : (at p : ℕ) (ws : List (List ℕ)) → (length ws ≡ 1 → ⊥) → after_s at p ws ≡ Err (spot_at line_layer 23 at)
other_than_one at p [] d = refl
other_than_one at p (a ∷ []) d = absurd (d refl)
other_than_one at p (a ∷ b ∷ ws) d = refl

other_than_two : (at p : ℕ) (ws : List (List ℕ)) → (length ws ≡ 2 → ⊥) → after_t at p ws ≡ Err (spot_at line_layer 23 at)
other_than_two at p [] d = refl
other_than_two at p (a ∷ []) d = refl
other_than_two at p (a ∷ b ∷ []) d = absurd (d refl)
other_than_two at p (a ∷ b ∷ c ∷ ws) d = refl

-- the second word begins two bytes after the line, and the third one byte after that word
module _ (names : List Name) (at : ℕ) where
  second : next at S ≡ at + 2
  second = omega arith

  third : (a : Name) → next (next at S) a ≡ at + 2 + length a + 1
  third a = ap (λ k. k + length a + 1) second

  -- one name after S
  one_name : (a : Name) → 1 ≤ length a → entry_read names (words_read at (S ∷ a ∷ [])) ≡ entry_read names (unless (name_fault (next at S) a) (Ok (gives a (next at S))))
  one_name a h = ap (entry_read names) (cond-false (empty a) (Err (spot_at line_layer 23 at)) (unless (name_fault (next at S) a) (Ok (gives a (next at S)))) (some_word a h))

  given : (a : Name) → WellFormed a → entry_read names (words_read at (S ∷ a ∷ [])) ≡ given_read names a (next at S) (found a names)
  given a w = one_name a w.some ∙ ap (λ o. entry_read names (unless o (Ok (gives a (next at S))))) (none_fault (next at S) a w)

  -- two names after T
  two_names : (a b : Name) → 1 ≤ length a → 1 ≤ length b → entry_read names (words_read at (T ∷ a ∷ b ∷ [])) ≡ entry_read names (unless (name_fault (next at S) a) (unless (name_fault (next (next at S) a) b) (Ok (ties a (next at S) b (next (next at S) a)))))
  two_names a b h k = ap (entry_read names) (cond-false (empty a || empty b) (Err (spot_at line_layer 23 at)) _ (or_from (empty a) (empty b) (some_word a h) (some_word b k)))

  tied_names : (a b : Name) → WellFormed a → WellFormed b → entry_read names (words_read at (T ∷ a ∷ b ∷ [])) ≡ ties_read a (next at S) b (next (next at S) a) (found a names) (found b names)
  tied_names a b wa wb =
      let p = next at S in
      let q = next p a in
      two_names a b wa.some wb.some
      ∙ ap (λ o. entry_read names (unless o (unless (name_fault q b) (Ok (ties a p b q))))) (none_fault p a wa)
      ∙ ap (λ o. entry_read names (unless o (Ok (ties a p b q)))) (none_fault q b wb)

  -- the words of a faulty line are read as their fault
  pub faulty_words : (ws : List (List ℕ)) (s : Spot) → LineFaulty names at ws s → entry_read names (words_read at ws) ≡ Err s
  faulty_words [] s f = elim f [ ]
  faulty_words (w ∷ ws) s (kind p q) =
      ap (entry_read names) (cond-false (is_byte 83 w) _ _ (not_byte 83 w p) ∙ cond-false (is_byte 84 w) _ _ (not_byte 84 w q))
  faulty_words (w ∷ ws) s (station_words d) = ap (entry_read names) (other_than_one at (next at S) ws d)
  faulty_words (w ∷ a ∷ []) s station_empty = refl
  faulty_words (w ∷ ws) s (tie_words d) = ap (entry_read names) (other_than_two at (next at T) ws d)
  faulty_words (w ∷ a ∷ b ∷ []) s (tie_empty e) =
      ap (entry_read names) (cond-true (empty a || empty b) _ _ (elim e [ inl x ↦ or_left (empty a) (empty b) (no_word a x) | inr y ↦ or_right (empty a) (empty b) (no_word b y) ]))
  faulty_words (w ∷ a ∷ []) s (station_name h f) =
      one_name a h ∙ ap (λ o. entry_read names (unless o (Ok (gives a (next at S))))) (ap (λ k. name_fault k a) second ∙ faulty_word (at + 2) a s f)
  faulty_words (w ∷ a ∷ b ∷ []) s (left_name h k f) =
      two_names a b h k ∙ ap (λ o. entry_read names (unless o (unless (name_fault (next (next at S) a) b) (Ok (ties a (next at S) b (next (next at S) a)))))) (ap (λ j. name_fault j a) second ∙ faulty_word (at + 2) a s f)
  faulty_words (w ∷ a ∷ b ∷ []) s (right_name wa k f) =
      let p = next at S in
      let q = next p a in
      two_names a b wa.some k
      ∙ ap (λ o. entry_read names (unless o (unless (name_fault q b) (Ok (ties a p b q))))) (none_fault p a wa)
      ∙ ap (λ o. entry_read names (unless o (Ok (ties a p b q)))) (ap (λ j. name_fault j b) (third a) ∙ faulty_word (at + 2 + length a + 1) b s f)
  faulty_words (w ∷ a ∷ []) s (given_before wa m) =
      let k = among_some a names m in
      given a wa ∙ ap (given_read names a (next at S)) k.1 ∙ ap (λ j. Err (spot_at book_layer 26 j)) second
  faulty_words (w ∷ a ∷ b ∷ []) s (left_unknown wa wb n) =
      tied_names a b wa wb ∙ ap (λ o. ties_read a (next at S) b (next (next at S) a) o (found b names)) (among_none a names n) ∙ ap (λ j. Err (spot_at book_layer 27 j)) second
  faulty_words (w ∷ a ∷ b ∷ []) s (right_unknown wa wb m n) =
      let k = among_some a names m in
      tied_names a b wa wb ∙ ap₂ (ties_read a (next at S) b (next (next at S) a)) k.1 (among_none b names n) ∙ ap (λ j. Err (spot_at book_layer 27 j)) (third a)
  faulty_words (w ∷ a ∷ b ∷ []) s (itself wa m e) =
      let k = among_some a names m in
      let same : found b names ≡ Some k.0 = ap (λ x. found x names) (sym e) ∙ k.1 in
      tied_names a b wa (subst WellFormed e wa) ∙ ap₂ (ties_read a (next at S) b (next (next at S) a)) k.1 same
      ∙ cond-true (eqb k.0 k.0) (Err (spot_at book_layer 28 (next (next at S) a))) (Ok (tie a b)) (eq-eqb k.0 k.0 refl) ∙ ap (λ j. Err (spot_at book_layer 28 j)) (third a)
  faulty_words (w ∷ a ∷ []) s (one_too_many wa n many) =
      given a wa ∙ ap (given_read names a (next at S)) (among_none a names n)
      ∙ cond-false (ltb (length names) 256) (Ok (station a)) (Err (spot_at book_layer 29 (next at S))) (le-ltb (length names) 256 many) ∙ ap (λ j. Err (spot_at book_layer 29 j)) second
