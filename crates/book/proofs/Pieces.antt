-- Pieces of a book.
use Rattle.std.proofs.Common.{◌≡◌, ℕ, ⊎_elim, suc, ◌+◌, ◌-◌, ◌<◌, ◌≤◌, true, false, eqb, List, [], ◌∷◌, ◌++◌, length, get_or, take, drop, Some, None, Option, sym, ap, ◌∙◌, arith, length-drop, length-take}
use Rattle.std.proofs.lemmas.List.{drop_more, take_all, get_or-take, take-append-drop}
use Rattle.std.specs.List.{position, position_or_len}
use Rattle.std.proofs.lemmas.List.Sums.{fails_before_first}
use Rattle.std.proofs.lemmas.Bool.{lt-ltb, cases_lt, cond-true, eqb-true, eqb-false}
use Rattle.book.specs.FirstFault.{Lacks}
use Rattle.book.specs.declared.part.Part.{Part}
use Rattle.book.specs.Reading.{split, next}
use Rattle.book.specs.Shown.{Halves, pieces_of, place_of}
use Rattle.book.proofs.Splits.{split_lacks, split_only}

-- no byte of the list is c
pub lacks_all : (c : ℕ) (xs : List ℕ) → ((k : ℕ) → k < length xs → eqb (get_or xs k 0) c ≡ false) → Lacks c xs
lacks_all c [] h = tt
lacks_all c (x ∷ xs) h = (eqb-false x c (h 0 (omega arith)), lacks_all c xs (λ k l. h (suc k) (omega arith)))

-- a search for c that finds nothing passes every byte
pub position_none : (c : ℕ) (xs : List ℕ) → position (λ b. eqb b c) xs ≡ None → Lacks c xs
position_none c xs e =
    lacks_all c xs (λ k l. fails_before_first (λ b. eqb b c) xs k 0 (⊎_elim
    (λ (h : position_or_len (λ b. eqb b c) xs < length xs). let f = sym (cond-true _ (Some (position_or_len (λ b. eqb b c) xs)) None (lt-ltb _ _ h)) ∙ e in let z : ◌≡◌ {A = ℕ} 0 1 = cc in absurd (omega arith))
    (λ (h : length xs ≤ position_or_len (λ b. eqb b c) xs). omega arith)
    (cases_lt (position_or_len (λ b. eqb b c) xs) (length xs))))

-- the list is cut at its first byte c
pub cut_at : (c : ℕ) (xs : List ℕ) (n : ℕ) → n < length xs → eqb (get_or xs n 0) c ≡ true → ((k : ℕ) → k < n → eqb (get_or xs k 0) c ≡ false)
    → Lacks c (take n xs) × (xs ≡ take n xs ++ c ∷ take (length xs - (n + 1)) (drop (n + 1) xs))
cut_at c xs n h e f = (
  lacks_all c (take n xs) (λ k l. let m : k < n = omega (arith, length-take n xs) in ap (λ x. eqb x c) (get_or-take n xs k 0 m) ∙ f k m),
  sym (take-append-drop n xs)
      ∙ ap (λ x. take n xs ++ x) (drop_more xs n 0 h ∙ ap (λ x. x ∷ drop (n + 1) xs) (eqb-true (get_or xs n 0) c e))
      ∙ ap (λ x. take n xs ++ c ∷ x) (sym (take_all (length xs - (n + 1)) (drop (n + 1) xs) (simp length-drop (omega arith)))),
)

-- a part that is cut, in its pieces
pub halves_pieces : (c : ℕ) (p l : Part) (r : Option Part) → Halves c p l r → split c p.bytes.now ≡ l.bytes.now ∷ pieces_of c r
halves_pieces c p l None h = split_only c p.bytes.now h.0 ∙ ap (λ x. x.bytes.now ∷ []) (sym h.1)
halves_pieces c p l (Some r) h = ap (split c) h.1 ∙ split_lacks c l.bytes.now r.bytes.now h.0

-- the piece before a cut stands where the part did
pub halves_place : (c : ℕ) (p l : Part) (r : Option Part) → Halves c p l r → l.at ≡ p.at
halves_place c p l None h = ap (λ x. x.at) h.1
halves_place c p l (Some r) h = h.2

-- the pieces of what follows, where it is cut again
pub after_cut : (c : ℕ) (rest : Option Part) (p l : Part) (more : Option Part) → rest ≡ Some p → Halves c p l more → pieces_of c rest ≡ l.bytes.now ∷ pieces_of c more
after_cut c rest p l more e h = ap (pieces_of c) e ∙ halves_pieces c p l more h

-- what follows a cut begins after its byte
pub after_place : (c : ℕ) (p l : Part) (r : Option Part) (w : List ℕ) (ws : List (List ℕ)) → Halves c p l r → pieces_of c r ≡ w ∷ ws → place_of r ≡ next l.at l.bytes.now
after_place c p l None w ws h e = cc
after_place c p l (Some r) w ws h e = h.3 ∙ ap (λ k. next k l.bytes.now) (sym h.2)
