-- The fault that the reading finds is the book's first.
use Rattle.std.proofs.Common.{◌≡◌, ℕ, suc, ◌+◌, ◌≤◌, true, false, eqb, ltb, ◌⊎◌, List, [], ◌∷◌, ◌++◌, length, Ok, Err, Result, sym, refl, ap, ◌∙◌, subst, inl, inr, ⊎_elim, append_assoc, arith, length-append}
use Rattle.std.proofs.lemmas.List.{append-nil}
use Rattle.std.proofs.lemmas.Bool.{cond-true, cond-false, cases_Bool, ltb-true, ltb-false, eqb-true}
use Rattle.book.specs.declared.faults.Layer.TheVariants.{Line as line_layer, Book as book_layer}
use Rattle.book.specs.Faults.{Spot, Fault, spot_at, fault_in}
use Rattle.book.specs.Grammar.{Name, Lines, none}
use Rattle.book.specs.Reading.{Entry, station, tie, stations, ties_of, next, line_read, entry_read, onward, last_read, lines_read, reading, split}
use Rattle.book.specs.FirstFault.{Lacks, Cut, FirstFault, too_large, no_newline, in_line, no_station}
use Rattle.book.proofs.Entries.{SoundAfter, spell, spelled}
use Rattle.book.proofs.Accepts.{entry_ok, shape_follows, line_spelled}
use Rattle.book.proofs.Grammars.{lines_after}
use Rattle.book.proofs.LineFaults.{cut_split, line_faulty}
use Rattle.book.proofs.Splits.{split_cons}

-- what is wrong after the sound lines: no station, no byte 10, or a faulty line
data Stops (names : List Name) (at k : ℕ) (rest : List ℕ) : Fault → Type 0 where
  ended : rest ≡ [] → length names ≡ 0 → Stops names at k rest (fault_in 0 (spot_at book_layer 30 at))
  unended : 1 ≤ length rest → Lacks 10 rest → Stops names at k rest (fault_in k (spot_at line_layer 21 at))
  faulty : (line more : List ℕ) (s : Spot) → rest ≡ line ++ 10 ∷ more → Lacks 10 line → entry_read names (line_read at line) ≡ Err s → Stops names at k rest (fault_in k s)

-- the same stop by equal names, place and number
stops_same : (names others : List Name) (at to k n : ℕ) (rest : List ℕ) (f : Fault) → names ≡ others → at ≡ to → k ≡ n → Stops names at k rest f → Stops others to n rest f
stops_same names others at to k n rest f p q r s = subst (λ ns. Stops ns to n rest f) p (subst (λ a. Stops names a n rest f) q (subst (λ m. Stops names at m rest f) r s))

-- sound lines, and what stops the reading after them
record Stopped (above : List Entry) (text : List ℕ) (at k : ℕ) (f : Fault) : Type 0 where
  es : List Entry
  rest : List ℕ
  text_is : text ≡ spelled es ++ rest
  sound : SoundAfter above es
  stops : Stops (stations (above ++ es)) (at + length (spelled es)) (k + length es) rest f

-- stopped at once
at_once : (above : List Entry) (text : List ℕ) (at k : ℕ) (f : Fault) → Stops (stations above) at k text f → Stopped above text at k f
at_once above text at k f s =
    let here : at ≡ at + 0 = omega arith in
    let now : k ≡ k + 0 = omega arith in
    record {
      es = [];
      rest = text;
      text_is = refl;
      sound = tt;
      stops = stops_same _ _ _ _ _ _ text f (ap stations (sym (append-nil above))) here now s;
    }

same_fault : {A : Type 0} (f g : Fault) → ◌≡◌ {A = Result A Fault} (Err f) (Err g) → f ≡ g
same_fault f g e = cc

-- after the last byte 10
last_stopped : (above : List Entry) (text : List ℕ) (at k : ℕ) (f : Fault) → Lacks 10 text → last_read above at k text ≡ Err f → Stopped above text at k f
last_stopped above (x ∷ text) at k f lacks e = subst (Stopped above (x ∷ text) at k) (same_fault {A = List Entry} _ f e) (at_once above (x ∷ text) at k _ (unended (omega arith) lacks))
last_stopped above [] at k f lacks e =
    let n = length (stations above) in
    let F : Result (List Entry) Fault = Err (fault_in 0 (spot_at book_layer 30 at)) in
    ⊎_elim
    (λ (t : eqb n 0 ≡ true).
    subst (Stopped above [] at k) (same_fault {A = List Entry} _ f (sym (cond-true (eqb n 0) F (Ok above) t) ∙ e)) (at_once above [] at k _ (ended refl (eqb-true n 0 t))))
    (λ (t : eqb n 0 ≡ false). let g = sym (cond-false (eqb n 0) F (Ok above) t) ∙ e in let z : ◌≡◌ {A = ℕ} 0 1 = cc in absurd (omega arith))
    (cases_Bool (eqb n 0))

-- a line's entry or its fault
entry_cases : (r : Result Entry Spot) → ((e : Entry) × (r ≡ Ok e)) ⊎ ((s : Spot) × (r ≡ Err s))
entry_cases (Ok e) = inl (e, refl)
entry_cases (Err s) = inr (s, refl)

-- one sound line more before what stops
one_more : (above : List Entry) (e : Entry) (l text more : List ℕ) (at k : ℕ) (f : Fault) → text ≡ l ++ 10 ∷ more → l ++ 10 ∷ [] ≡ spell e → SoundAfter above (e ∷ []) → Stopped (above ++ e ∷ []) more (next at l) (k + 1) f → Stopped above text at k f
one_more above e l text more at k f cut line sound t =
    let long : length l + 1 ≡ length (spell e) = sym (length-append l (10 ∷ [])) ∙ ap length line in
    let place : next at l + length (spelled t.es) ≡ at + length (spell e ++ spelled t.es) = (let h = length-append (spell e) (spelled t.es) in omega arith) in
    let number : k + 1 + length t.es ≡ k + suc (length t.es) = omega arith in
    record {
      es = e ∷ t.es;
      rest = t.rest;
      text_is =
          cut ∙ sym (append_assoc l (10 ∷ []) more) ∙ ap (λ x. x ++ more) line ∙ ap (λ x. spell e ++ x) t.text_is
          ∙ sym (append_assoc (spell e) (spelled t.es) t.rest);
      sound = (sound.0, t.sound);
      stops = stops_same _ _ _ _ _ _ t.rest f (ap stations (append_assoc above (e ∷ []) t.es)) place number t.stops;
    }

lines_stopped : (above : List Entry) (text : List ℕ) (at k : ℕ) (l : List ℕ) (ls : List (List ℕ)) (f : Fault) → Cut 10 text (l ∷ ls) → lines_read above at k (l ∷ ls) ≡ Err f → Stopped above text at k f
lines_stopped above text at k l [] f cut e = subst (λ x. Stopped above x at k f) (sym cut.1) (last_stopped above l at k f cut.0 e)
lines_stopped above text at k l (m ∷ ls) f cut e =
    let go : Entry → Result (List Entry) Fault = λ d. lines_read (above ++ d ∷ []) (next at l) (k + 1) (m ∷ ls) in
    let more = cut.1.0 in
    elim (entry_cases (entry_read (stations above) (line_read at l))) [
      | inl r ↦
          (let x = entry_ok (stations above) (line_read at l) r.0 r.1 in
          let s = shape_follows above _ x.0 r.0 l x.2 (line_spelled at l x.0 x.1) in
          one_more above r.0 l text more at k f cut.1.1 s.0 (s.1, tt)
          (lines_stopped (above ++ r.0 ∷ []) more (next at l) (k + 1) m ls f cut.1.2 (sym (ap (λ y. onward k y go) r.1) ∙ e)))
      | inr r ↦
          (let q = same_fault {A = List Entry} _ f (sym (ap (λ y. onward k y go) r.1) ∙ e) in
          subst (Stopped above text at k) q (at_once above text at k _ (faulty l more r.0 cut.1.1 cut.0 r.1)))
    ]

-- each entry is a name or a tie
pub count_entries : (es : List Entry) → length es ≡ length (stations es) + length (ties_of es)
count_entries [] = refl
count_entries (station a ∷ es) = let h = count_entries es in omega arith
count_entries (tie a b ∷ es) = let h = count_entries es in omega arith

no_names : (ns : List Name) → length ns ≡ 0 → ns ≡ []
no_names [] e = refl
no_names (n ∷ ns) e = absurd (omega arith)

-- what stops the reading is the first fault
stopped_first : (b : List ℕ) (es : List Entry) (rest : List ℕ) (f : Fault) → length b ≤ 65536 → b ≡ spelled es ++ rest → SoundAfter [] es → Stops (stations es) (0 + length (spelled es)) (1 + length es) rest f → FirstFault b f
stopped_first b es rest f small text sound (ended empty none_given) =
    let whole : b ≡ spelled es = text ∙ ap (λ x. spelled es ++ x) empty ∙ append-nil (spelled es) in
    let place : length b ≡ 0 + length (spelled es) = ap length whole ∙ (let z : length (spelled es) ≡ 0 + length (spelled es) = omega arith in z) in
    let lines = subst (λ ns. Lines (spelled es) ns (ties_of es)) (no_names (stations es) none_given) (lines_after [] es none sound) in
    subst (λ p. FirstFault b (fault_in 0 (spot_at book_layer 30 p))) place (no_station (ties_of es) (subst (λ x. Lines x [] (ties_of es)) (sym whole) lines))
stopped_first b es rest f small text sound (unended some lacks) =
    let place : length (spelled es) ≡ 0 + length (spelled es) = omega arith in
    let number : length (stations es) + length (ties_of es) + 1 ≡ 1 + length es = (let h = count_entries es in omega arith) in
    subst (λ p. FirstFault b (fault_in (1 + length es) (spot_at line_layer 21 p))) place
    (subst (λ k. FirstFault b (fault_in k (spot_at line_layer 21 (length (spelled es))))) number
    (no_newline (spelled es) rest (stations es) (ties_of es) small text (lines_after [] es none sound) some lacks))
stopped_first b es rest f small text sound (faulty line more s cut lacks e) =
    let place : 0 + length (spelled es) ≡ length (spelled es) = omega arith in
    let number : length (stations es) + length (ties_of es) + 1 ≡ 1 + length es = (let h = count_entries es in omega arith) in
    let fault = subst (λ p. entry_read (stations es) (line_read p line) ≡ Err s) place e in
    subst (λ k. FirstFault b (fault_in k s)) number
    (in_line (spelled es) line more (stations es) (ties_of es) (split 32 line) s small (text ∙ ap (λ x. spelled es ++ x) cut) (lines_after [] es none sound) lacks (cut_split 32 line) (line_faulty (stations es) (length (spelled es)) line s fault))

-- the reading's fault is the first
pub reading_first : (b : List ℕ) (f : Fault) → reading b ≡ Err f → FirstFault b f
reading_first b f e =
    let F : Result (List Entry) Fault = Err (fault_in 0 (spot_at book_layer 20 (length b))) in
    let L = lines_read [] 0 1 (split 10 b) in
    ⊎_elim
    (λ (t : ltb 65536 (length b) ≡ true). subst (FirstFault b) (same_fault {A = List Entry} _ f (sym (cond-true (ltb 65536 (length b)) F L t) ∙ e)) (too_large (ltb-true 65536 (length b) t)))
    (λ (t : ltb 65536 (length b) ≡ false).
    let q = split_cons 10 b in
    let s = lines_stopped [] b 0 1 q.0 q.1 f (subst (Cut 10 b) q.2 (cut_split 10 b)) (ap (lines_read [] 0 1) (sym q.2) ∙ sym (cond-false (ltb 65536 (length b)) F L t) ∙ e) in
    stopped_first b s.es s.rest f (ltb-false 65536 (length b) t) s.text_is s.sound s.stops)
    (cases_Bool (ltb 65536 (length b)))
