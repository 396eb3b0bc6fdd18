-- Entries among the stations above them, and the way from line to line.
use Rattle.std.proofs.Common.{drop, length-drop, ◌≡◌, ℕ, suc, ◌+◌, ◌<◌, ◌≤◌, Bool, true, false, cond, ◌||◌, ◌⊎◌, eqb, List, [], ◌∷◌, ◌++◌, length, Some, None, Ok, Err, Option, Result, sym, refl, ap, ◌∙◌, inl, inr, append_assoc, arith}
use Rattle.std.specs.Option.{is_some}
use Rattle.std.specs.Str.{bytes_eq}
use Rattle.std.proofs.lemmas.List.{append-nil}
use Rattle.std.proofs.lemmas.Bool.{cond-true, cond-false, lt-ltb, ne_eqb}
use Rattle.book.specs.declared.names.Names.{Names}
use Rattle.book.specs.declared.part.Part.{Part}
use Rattle.book.specs.declared.faults.Layer.TheVariants.{Book as book_layer, Line as line_layer}
use Rattle.book.specs.Faults.{Spot, Fault, fault_in, spot_at}
use Rattle.book.specs.Grammar.{Name}
use Rattle.book.specs.Pairs.{number_from, pairs_of, pairs_after, tied_in, joins}
use Rattle.book.specs.Reading.{Entry, station, tie, stations, found, found_from, given_read, ties_read, shape_read, entry_read, lines_read, last_read, onward, line_read, reading, Shape, split, next}
use Rattle.book.specs.Shown.{Halves, Unended, Misshaped, Moved}
use Rattle.book.specs.Tables.{names_in}
use Rattle.book.proofs.Accepts.{reading_small}
use Rattle.book.proofs.Pieces.{halves_pieces}
use Rattle.book.proofs.Splits.{split_cons, split_only}
use Rattle.book.proofs.Table.{names_length}

-- a new name joins the stations
pub station_ok : (ns : List Name) (a : Name) (p : ℕ) → None ≡ found a ns → length ns < 256 → given_read ns a p (found a ns) ≡ Ok (station a)
station_ok ns a p e h = ap (given_read ns a p) (sym e) ∙ cond-true _ _ _ (lt-ltb (length ns) 256 h)

-- what is not some is none
pub none_here : (o : Option ℕ) → is_some o ≡ false → None ≡ o
none_here None e = refl
none_here (Some x) e = cc

-- two known, different names are tied
pub tie_ok : (ns : List Name) (a : Name) (p : ℕ) (b : Name) (q u v : ℕ) → found a ns ≡ Some u → found b ns ≡ Some v → (u ≡ v → ⊥) → ties_read a p b q (found a ns) (found b ns) ≡ Ok (tie a b)
tie_ok ns a p b q u v e f d = ap (λ x. ties_read a p b q x (found b ns)) e ∙ ap (ties_read a p b q (Some u)) f ∙ cond-false _ _ _ (ne_eqb u v d)

-- the number that is found is the number of the name
pub number_found : (i : ℕ) (a : Name) (ns : List Name) (k : ℕ) → found_from i a ns ≡ Some k → (number_from i a ns ≡ k) × (k < i + length ns)
number_found i a [] k e = let z : ◌≡◌ {A = ℕ} 0 1 = cc in absurd (omega arith)
number_found i a (n ∷ ns) k e =
    elim (bytes_eq n a) as (λ t. cond t (Some i) (found_from (i + 1) a ns) ≡ Some k → (cond t i (number_from (i + 1) a ns) ≡ k) × (k < i + suc (length ns))) [
      | true ↦ λ f. (let q : i ≡ k = cc in (q, omega arith))
      | false ↦ λ f. (let h = number_found (i + 1) a ns k f in (h.0, omega (arith, h.1)))
    ] e

-- two names that are found, as a pair of numbers
pub pair_found : (ns : List Name) (a b : Name) (u v : ℕ) → found a ns ≡ Some u → found b ns ≡ Some v → ((u, v) ∷ [] ≡ pairs_of ns (tie a b)) × (u < length ns) × (v < length ns)
pair_found ns a b u v e f =
    let p = number_found 0 a ns u e in
    let q = number_found 0 b ns v f in
    (ap (λ x. (x, v) ∷ []) (sym p.0) ∙ ap (λ x. (number_from 0 a ns, x) ∷ []) (sym q.0), omega (arith, p.1), omega (arith, q.1))

-- from line to line
module _ (k : ℕ) (t l s : Part) (cut : Halves 10 t l (Some s)) where
  -- the reading goes by way of this line
  onto : (above : List Entry) → lines_read above t.at k (split 10 t.bytes.now) ≡ onward k (entry_read (stations above) (line_read t.at l.bytes.now)) (λ e. lines_read (above ++ e ∷ []) s.at (k + 1) (split 10 s.bytes.now))
  onto above =
      let q = split_cons 10 s.bytes.now in
      let r : Result Entry Spot = entry_read (stations above) (line_read t.at l.bytes.now) in
      ap (lines_read above t.at k) (halves_pieces 10 t l (Some s) cut ∙ ap (λ x. l.bytes.now ∷ x) q.2)
      ∙ ap (λ x. onward k r (λ e. lines_read (above ++ e ∷ []) (next t.at l.bytes.now) (k + 1) x)) (sym q.2)
      ∙ ap (λ j. onward k r (λ e. lines_read (above ++ e ∷ []) j (k + 1) (split 10 s.bytes.now))) (sym cut.3)

  -- a line that is read leads to the next
  pub line_goes : (ns : List Name) (sh : Shape) (e : Entry) → line_read t.at l.bytes.now ≡ Ok sh → shape_read ns sh ≡ Ok e
      → (above : List Entry) → stations above ≡ ns → lines_read above t.at k (split 10 t.bytes.now) ≡ lines_read (above ++ e ∷ []) s.at (k + 1) (split 10 s.bytes.now)
  line_goes ns sh e p q above n =
      onto above
      ∙ ap (λ r. onward k r (λ d. lines_read (above ++ d ∷ []) s.at (k + 1) (split 10 s.bytes.now))) (ap (entry_read (stations above)) p ∙ ap (λ m. shape_read m sh) n ∙ q)

  -- a line that is refused among the stations above ends the reading
  pub shape_stops : (ns : List Name) (sh : Shape) (f : Fault) → line_read t.at l.bytes.now ≡ Ok sh → shape_read ns sh ≡ Err f.spot → f.line ≡ k
      → (above : List Entry) → stations above ≡ ns → lines_read above t.at k (split 10 t.bytes.now) ≡ Err f
  shape_stops ns sh f p q fk above n =
      onto above
      ∙ ap (λ r. onward k r (λ d. lines_read (above ++ d ∷ []) s.at (k + 1) (split 10 s.bytes.now))) (ap (entry_read (stations above)) p ∙ ap (λ m. shape_read m sh) n ∙ q)
      ∙ ap (λ m. Err (fault_in m f.spot)) (sym fk)

  -- a line of the wrong shape ends the reading
  line_stops : (e : Spot) → line_read t.at l.bytes.now ≡ Err e → (above : List Entry) → lines_read above t.at k (split 10 t.bytes.now) ≡ Err (fault_in k e)
  line_stops e p above =
      onto above ∙ ap (λ r. onward k r (λ d. lines_read (above ++ d ∷ []) s.at (k + 1) (split 10 s.bytes.now))) (ap (entry_read (stations above)) p)

-- bytes after the last byte 10
last_some : (above : List Entry) (at k : ℕ) (bs : List ℕ) → 0 < length bs → last_read above at k bs ≡ Err (fault_in k (spot_at line_layer 21 at))
last_some above at k [] h = absurd (omega arith)
last_some above at k (b ∷ bs) h = refl

-- a text without byte 10, or whose first line is of the wrong shape, ends the reading
pub wrong_stops : (k n : ℕ) (t : Part) (s : Spot) → Unended t s ⊎ Misshaped t s → 0 < length t.bytes.now → n ≡ k → (above : List Entry) → lines_read above t.at k (split 10 t.bytes.now) ≡ Err (fault_in n s)
wrong_stops k n t s (inl u) h e above =
    ap (lines_read above t.at k) (split_only 10 t.bytes.now u.lacks) ∙ last_some above t.at k t.bytes.now h
    ∙ ap (λ x. Err (fault_in k x)) (sym u.spot) ∙ ap (λ m. Err (fault_in m s)) (sym e)
wrong_stops k n t s (inr m) h e above = line_stops k t m.line m.rest m.cut s m.shape above ∙ ap (λ i. Err (fault_in i s)) (sym e)

-- the stations of entries and of those after them
pub stations_both : (es fs : List Entry) → stations (es ++ fs) ≡ stations es ++ stations fs
stations_both [] fs = refl
stations_both (station a ∷ es) fs = ap (λ x. a ∷ x) (stations_both es fs)
stations_both (tie a b ∷ es) fs = stations_both es fs

-- the pairs of one more entry
pub pairs_push : (above es : List Entry) (e : Entry) → pairs_after above (es ++ e ∷ []) ≡ pairs_after above es ++ pairs_of (stations (above ++ es)) e
pairs_push above [] e = append-nil (pairs_of (stations above) e) ∙ ap (λ x. pairs_of (stations x) e) (sym (append-nil above))
pairs_push above (d ∷ es) e =
    ap (λ x. pairs_of (stations above) d ++ x) (pairs_push (above ++ d ∷ []) es e ∙ ap (λ x. pairs_after (above ++ d ∷ []) es ++ pairs_of (stations x) e) (append_assoc above (d ∷ []) es))
    ∙ sym (append_assoc (pairs_of (stations above) d) (pairs_after (above ++ d ∷ []) es) (pairs_of (stations (above ++ d ∷ es)) e))

-- or, regrouped
or_assoc : (p q r : Bool) → (p || (q || r)) ≡ ((p || q) || r)
or_assoc true q r = refl
or_assoc false q r = refl

-- tied by the first pairs or by the second
pub tied_both : (ps qs : List (ℕ × ℕ)) (u v : ℕ) → tied_in (ps ++ qs) u v ≡ (tied_in ps u v || tied_in qs u v)
tied_both [] qs u v = refl
tied_both (p ∷ ps) qs u v = ap (λ t. joins p u v || t) (tied_both ps qs u v) ∙ or_assoc (joins p u v) (tied_in ps u v) (tied_in qs u v)

-- one more entry ties one more pair
pub tied_more : (es : List Entry) (e : Entry) (u v : ℕ) → tied_in (pairs_after [] (es ++ e ∷ [])) u v ≡ (tied_in (pairs_after [] es) u v || tied_in (pairs_of (stations es) e) u v)
tied_more es e u v = ap (λ ps. tied_in ps u v) (pairs_push [] es e) ∙ tied_both (pairs_after [] es) (pairs_of (stations es) e) u v

-- the lines before r have been read as the entries above
pub record Reached (b : List ℕ) (t : Names) (r : Part) (k : ℕ) (above : List Entry) : Type 0 where
  pub goes : lines_read [] 0 1 (split 10 b) ≡ lines_read above r.at k (split 10 r.bytes.now)
  pub names : names_in b t ≡ stations above

-- one line on
pub reached_more : (b : List ℕ) (t u : Names) (r s : Part) (k n : ℕ) (x : Option (ℕ × ℕ)) (above : List Entry) (e : Entry) → Reached b t r k above → Moved b k r s t u x e → n ≡ k + 1 → Reached b u s n (above ++ e ∷ [])
reached_more b t u r s k n x above e p m q = record {
  goes = p.goes ∙ m.goes above (sym p.names) ∙ ap (λ i. lines_read (above ++ e ∷ []) s.at i (split 10 s.bytes.now)) (sym q);
  names = m.names ∙ ap (λ y. y ++ stations (e ∷ [])) p.names ∙ sym (stations_both above (e ∷ []));
}

-- nothing after the last byte 10
last_none : (above : List Entry) (at k : ℕ) (bs : List ℕ) → length bs ≡ 0 → lines_read above at k (split 10 bs) ≡ cond (eqb (length (stations above)) 0) (Err (fault_in 0 (spot_at book_layer 30 at))) (Ok above)
last_none above at k [] h = refl
last_none above at k (b ∷ bs) h = absurd (omega arith)

-- at the end
pub reached_ends : (b a : List ℕ) (t : Names) (r : Part) (k : ℕ) (above : List Entry) → Reached b t r k above → a ≡ b → length b ≤ 65536 → r.at ≤ length a → r.bytes.now ≡ drop r.at a → length r.bytes.now ≡ 0 → reading b ≡ cond (eqb t.count 0) (Err (fault_in 0 (spot_at book_layer 30 (length b)))) (Ok above)
reached_ends b a t r k above p same small within left none =
    let q : r.at ≡ length b = omega (arith, ap length left, length-drop r.at a, ap length same) in
    reading_small b small ∙ p.goes ∙ last_none above r.at k r.bytes.now none
    ∙ ap (λ n. cond (eqb n 0) (Err (fault_in 0 (spot_at book_layer 30 r.at))) (Ok above)) (ap length (sym p.names) ∙ names_length b t t.count)
    ∙ ap (λ n. cond (eqb t.count 0) (Err (fault_in 0 (spot_at book_layer 30 n))) (Ok above)) q
