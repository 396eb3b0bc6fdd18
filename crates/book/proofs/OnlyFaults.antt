-- A book has no other first fault than the one that the reading finds.
use Rattle.std.proofs.Common.{◌≡◌, ℕ, suc, ◌+◌, ◌≤◌, ltb, List, [], ◌∷◌, ◌++◌, length, Err, Result, sym, refl, ap, ◌∙◌, subst, ap₂, append_assoc, arith, length-append}
use Rattle.std.proofs.lemmas.List.{append-nil}
use Rattle.std.proofs.lemmas.Bool.{cond-true, lt-ltb}
use Rattle.book.specs.declared.faults.Layer.TheVariants.{Line as line_layer, Book as book_layer}
use Rattle.book.specs.Faults.{Fault, spot_at, fault_in}
use Rattle.book.specs.Grammar.{Name}
use Rattle.book.specs.Reading.{Entry, station, tie, stations, next, line_read, words_read, entry_read, onward, last_read, lines_read, reading, split}
use Rattle.book.specs.FirstFault.{FirstFault, too_large, no_newline, in_line, no_station}
use Rattle.book.proofs.Entries.{SoundAfter, spell, spelled}
use Rattle.book.proofs.Accepts.{bare, spell_bare, bare_lacks, entry_read_lem, reading_small}
use Rattle.book.proofs.FaultyLines.{cut_is, faulty_words}
use Rattle.book.proofs.FirstFaults.{count_entries}
use Rattle.book.proofs.Grammars.{Spelling, lines_spelling}
use Rattle.book.proofs.Splits.{split_cons}
use Rattle.book.proofs.Splits.{split_lacks, split_only}

-- a line with its byte 10 is one byte longer than without
spell_long : (e : Entry) → length (spell e) ≡ length (bare e) + 1
spell_long e = ap length (sym (append-nil (spell e)) ∙ spell_bare e []) ∙ length-append (bare e) (10 ∷ [])

-- sound lines are read, and the reading goes on below them
pub lines_go : (above : List Entry) (at k : ℕ) (es : List Entry) (rest : List ℕ) → SoundAfter above es → lines_read above at k (split 10 (spelled es ++ rest)) ≡ lines_read (above ++ es) (at + length (spelled es)) (k + length es) (split 10 rest)
lines_go above at k [] rest s =
    let here : at ≡ at + 0 = omega arith in
    let now : k ≡ k + 0 = omega arith in
    ap (λ a. lines_read a at k (split 10 rest)) (sym (append-nil above)) ∙ ap₂ (λ p n. lines_read (above ++ []) p n (split 10 rest)) here now
lines_go above at k (e ∷ es) rest s =
    let text = spelled es ++ rest in
    let q = split_cons 10 text in
    let go : List (List ℕ) → Entry → Result (List Entry) Fault = λ ls d. lines_read (above ++ d ∷ []) (next at (bare e)) (k + 1) ls in
    let place : next at (bare e) + length (spelled es) ≡ at + length (spell e ++ spelled es) = (let h = length-append (spell e) (spelled es) in let l = spell_long e in omega arith) in
    let number : k + 1 + length es ≡ k + suc (length es) = omega arith in
    ap (λ t. lines_read above at k (split 10 t)) (append_assoc (spell e) (spelled es) rest ∙ spell_bare e text)
    ∙ ap (lines_read above at k) (split_lacks 10 (bare e) text (bare_lacks above e s.0) ∙ ap (λ r. bare e ∷ r) q.2)
    ∙ ap (λ r. onward k r (go (q.0 ∷ q.1))) (entry_read_lem above at e s.0)
    ∙ ap (λ ls. go ls e) (sym q.2)
    ∙ lines_go (above ++ e ∷ []) (next at (bare e)) (k + 1) es rest s.1
    ∙ ap (λ a. lines_read a (next at (bare e) + length (spelled es)) (k + 1 + length es) (split 10 rest)) (append_assoc above (e ∷ []) es)
    ∙ ap₂ (λ p n. lines_read (above ++ (e ∷ es)) p n (split 10 rest)) place number

-- a book that begins with lines of the grammar is read past them
pub past_lines : (b above rest : List ℕ) (names : List Name) (ties : List (Name × Name)) (l : Spelling above names ties) → length b ≤ 65536 → b ≡ above ++ rest → reading b ≡ lines_read l.es (length above) (length names + length ties + 1) (split 10 rest)
past_lines b above rest names ties l small text =
    let es = l.es in
    let place : 0 + length (spelled es) ≡ length above = (let h = ap length l.text_is in omega arith) in
    let number : 1 + length es ≡ length names + length ties + 1 = (let h = count_entries es in let n = ap length l.names_are in let t = ap length l.ties_are in omega arith) in
    reading_small b small
    ∙ ap (λ x. lines_read [] 0 1 (split 10 x)) (text ∙ ap (λ x. x ++ rest) l.text_is)
    ∙ lines_go [] 0 1 es rest l.each
    ∙ ap₂ (λ p n. lines_read es p n (split 10 rest)) place number

-- bytes after the last byte 10
last_line : (above : List Entry) (at k : ℕ) (rest : List ℕ) → 1 ≤ length rest → last_read above at k rest ≡ Err (fault_in k (spot_at line_layer 21 at))
last_line above at k [] h = absurd (omega arith)
last_line above at k (x ∷ rest) h = refl

-- without a station there is no line at all
no_lines : (es : List Entry) → SoundAfter [] es → stations es ≡ [] → es ≡ []
no_lines [] s e = refl
no_lines (station a ∷ es) s e = let z : ◌≡◌ {A = ℕ} 1 0 = (let h = ap length e in absurd (omega arith)) in absurd (omega arith)
no_lines (tie a b ∷ es) s e = absurd (let m = s.0.2 in omega (arith, m.1))

-- the first fault of a book is the one that the reading finds
pub first_read : (b : List ℕ) (f : Fault) → FirstFault b f → reading b ≡ Err f
first_read b f (too_large h) = cond-true (ltb 65536 (length b)) _ _ (lt-ltb 65536 (length b) h)
first_read b f (no_newline above rest names ties small text lines some lacks) =
    let l = lines_spelling lines in
    past_lines b above rest names ties l small text
    ∙ ap (lines_read l.es (length above) (length names + length ties + 1)) (split_only 10 rest lacks)
    ∙ last_line l.es (length above) (length names + length ties + 1) rest some
first_read b f (in_line above line more names ties words s small text lines lacks cut faulty) =
    let l = lines_spelling lines in
    let at = length above in
    let k = length names + length ties + 1 in
    let q = split_cons 10 more in
    let go : Entry → Result (List Entry) Fault = λ d. lines_read (l.es ++ d ∷ []) (next at line) (k + 1) (q.0 ∷ q.1) in
    let read : entry_read (stations l.es) (line_read at line) ≡ Err s =
    ap (λ ws. entry_read (stations l.es) (words_read at ws)) (cut_is 32 line words cut)
    ∙ ap (λ ns. entry_read ns (words_read at words)) (sym l.names_are) ∙ faulty_words names at words s faulty in
    past_lines b above (line ++ 10 ∷ more) names ties l small text
    ∙ ap (lines_read l.es at k) (split_lacks 10 line more lacks ∙ ap (λ r. line ∷ r) q.2)
    ∙ ap (λ r. onward k r go) read
first_read b f (no_station ties lines) =
    let l = lines_spelling lines in
    let none : l.es ≡ [] = no_lines l.es l.each (sym l.names_are) in
    let bare_book : b ≡ [] = l.text_is ∙ ap spelled none in
    subst (λ x. reading x ≡ Err (fault_in 0 (spot_at book_layer 30 (length x)))) (sym bare_book) refl
