-- One line, word by word.
use Rattle.std.proofs.Common.{Result, subst, ◌≡◌, ℕ, true, false, List, [], ◌∷◌, Some, None, Ok, Option, sym, refl, ap, ◌∙◌}
use Rattle.std.specs.Option.{is_some, ok_or}
use Rattle.std.proofs.lemmas.Bool.{cond-true, cond-false}
use Rattle.book.specs.declared.part.Part.{Part}
use Rattle.book.specs.Faults.{Spot}
use Rattle.book.specs.Reading.{split, after_t, is_byte, Shape, words_read, line_read}
use Rattle.book.specs.Shown.{Halves, place_of, pieces_of}
use Rattle.book.proofs.Splits.{split_cons}
use Rattle.book.proofs.Pieces.{halves_pieces, halves_place}

-- what follows a cut is in pieces, if it is there
pub more_words : (more : Option Part) → is_some more ≡ true → (u : List ℕ) × (us : List (List ℕ)) × (pieces_of 32 more ≡ u ∷ us)
more_words None e = cc
more_words (Some p) e = split_cons 32 p.bytes.now

-- where nothing follows a cut, there is no piece
pub no_words : (more : Option Part) → is_some more ≡ false → pieces_of 32 more ≡ []
no_words None e = refl
no_words (Some p) e = cc

-- a line that begins with T
pub line_t : (p l : Part) (r : Option Part) → Halves 32 p l r → is_byte 83 l.bytes.now ≡ false → is_byte 84 l.bytes.now ≡ true → line_read p.at p.bytes.now ≡ after_t p.at (place_of r) (pieces_of 32 r)
line_t p l None h s t = ap (words_read p.at) (halves_pieces 32 p l None h) ∙ cond-false _ _ _ s ∙ cond-true _ _ _ t
line_t p l (Some r) h s t = ap (words_read p.at) (halves_pieces 32 p l (Some r) h) ∙ cond-false _ _ _ s ∙ cond-true _ _ _ t ∙ ap (λ k. after_t p.at k (split 32 r.bytes.now)) (sym h.3)

-- what an option gives is in it
some_of : {A E : Type 0} (o : Option A) (e : E) (x : A) → Ok x ≡ ok_or o e → o ≡ Some x
some_of None e x h = cc
some_of (Some y) e x h = cc

-- a line that is cut off and read
pub line_off : {E : Type 0} (t l r : Part) (o : Option Part) (e : E) (x : Result Shape Spot) → Halves 10 t l o → Ok r ≡ ok_or o e → x ≡ line_read l.at l.bytes.now → Halves 10 t l (Some r) × (line_read t.at l.bytes.now ≡ x)
line_off t l r o e x h g f = (subst (Halves 10 t l) (some_of o e r g) h, ap (λ k. line_read k l.bytes.now) (sym (halves_place 10 t l o h)) ∙ sym f)
