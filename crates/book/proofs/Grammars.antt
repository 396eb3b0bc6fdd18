-- Sound entries and field books are the same, so the reading finds the one field book that there is.
use Rattle.std.proofs.Common.{◌≡◌, ℕ, ◌<◌, ◌≤◌, List, [], ◌∷◌, ◌++◌, length, get_or, Ok, Err, sym, refl, ap, ◌∙◌, subst, append_assoc}
use Rattle.std.proofs.lemmas.List.{append-nil}
use Rattle.book.specs.Grammar.{Name, WellFormed, Among, station_line, tie_line, Lines, none, FieldBook, station as station_more, tie as tie_more}
use Rattle.book.specs.Faults.{Fault}
use Rattle.book.specs.Reading.{Entry, station, tie, stations, ties_of, reading}
use Rattle.book.proofs.Entries.{Follows, SoundAfter, Entries, spell, spelled}
use Rattle.book.proofs.Steps.{stations_both}
use Rattle.book.proofs.Accepts.{accepts_all, alone, nothing}
use Rattle.book.proofs.Networks.{kept}

-- one more entry at the end
ties_push : (es : List Entry) (e : Entry) → ties_of (es ++ e ∷ []) ≡ ties_of es ++ ties_of (e ∷ [])
ties_push [] e = refl
ties_push (station a ∷ es) e = ties_push es e
ties_push (tie a b ∷ es) e = ap (λ x. (a, b) ∷ x) (ties_push es e)

-- the text of one more entry
spelled_push : (es : List Entry) (e : Entry) → spelled (es ++ e ∷ []) ≡ spelled es ++ spell e
spelled_push [] e = append-nil (spell e)
spelled_push (d ∷ es) e = ap (λ x. spell d ++ x) (spelled_push es e) ∙ sym (append_assoc (spell d) (spelled es) (spell e))

-- one more sound entry
sound_push : (above es : List Entry) (e : Entry) → SoundAfter above es → Follows (above ++ es) e → SoundAfter above (es ++ e ∷ [])
sound_push above [] e s f = (subst (λ x. Follows x e) (append-nil above) f, tt)
sound_push above (d ∷ es) e s f = (s.0, sound_push (above ++ d ∷ []) es e s.1 (subst (λ x. Follows x e) (sym (append_assoc above (d ∷ []) es)) f))

-- the lines that the entries spell
abbrev pub LinesOf : List Entry → Type 0
LinesOf es = Lines (spelled es) (stations es) (ties_of es)

-- lines of equal text, names and ties
same_lines : (text other : List ℕ) (names others : List Name) (ts us : List (Name × Name)) → text ≡ other → names ≡ others → ts ≡ us → Lines text names ts → Lines other others us
same_lines text other names others ts us p q r l = subst (λ x. Lines other others x) r (subst (λ x. Lines other x ts) q (subst (λ x. Lines x names ts) p l))

-- the lines of one more entry
lines_push : (above : List Entry) (e : Entry) → LinesOf above → Follows above e → LinesOf (above ++ e ∷ [])
lines_push above (station a) l f =
    same_lines _ _ _ _ _ _ (sym (spelled_push above (station a))) (sym (stations_both above (station a ∷ []))) (sym (ties_push above (station a) ∙ append-nil (ties_of above)))
    (station_more a l f.0 f.1 f.2)
lines_push above (tie a b) l f =
    same_lines _ _ _ _ _ _ (sym (spelled_push above (tie a b))) (sym (stations_both above (tie a b ∷ []) ∙ append-nil (stations above))) (sym (ties_push above (tie a b)))
    (tie_more a b l f.2 f.3 f.4)

-- the lines of sound entries after those above
pub lines_after : (above es : List Entry) → LinesOf above → SoundAfter above es → LinesOf (above ++ es)
lines_after above [] l s = subst LinesOf (sym (append-nil above)) l
lines_after above (e ∷ es) l s = subst LinesOf (append_assoc above (e ∷ []) es) (lines_after (above ++ e ∷ []) es (lines_push above e l s.0) s.1)

-- sound entries make a field book
pub entries_book : (es : List Entry) (book : List ℕ) → Entries es book → FieldBook book (stations es) (ties_of es)
entries_book es book e = record {
  lines = subst (λ x. Lines x (stations es) (ties_of es)) (sym e.spelling) (lines_after [] es none e.sound.each);
  some = e.sound.any;
  small = e.small;
}

-- entries that spell the text, with its names and ties
pub record Spelling (text : List ℕ) (names : List Name) (ts : List (Name × Name)) : Type 0 where
  pub es : List Entry
  pub text_is : text ≡ spelled es
  pub each : SoundAfter [] es
  pub names_are : names ≡ stations es
  pub ties_are : ts ≡ ties_of es

-- a name among well-formed names is well formed
among_formed : (names : List Name) (a : Name) → ((u : ℕ) → u < length names → WellFormed (get_or names u [])) → Among a names → WellFormed a
among_formed names a w m = subst WellFormed m.2 (w m.0 m.1)

-- lines are spelled by sound entries
pub lines_spelling : {text : List ℕ} {names : List Name} {ts : List (Name × Name)} → Lines text names ts → Spelling text names ts
lines_spelling none = record { es = []; text_is = refl; each = tt; names_are = refl; ties_are = refl }
lines_spelling (station_more a l w new few) =
    let s = lines_spelling l in
    let n = s.names_are in
    record {
      es = s.es ++ station a ∷ [];
      text_is = ap (λ x. x ++ station_line a) s.text_is ∙ sym (spelled_push s.es (station a));
      each = sound_push [] s.es (station a) s.each (w, (λ m. new (subst (Among a) (sym n) m)), subst (λ x. length x < 256) n few);
      names_are = ap (λ x. x ++ a ∷ []) n ∙ sym (stations_both s.es (station a ∷ []));
      ties_are = s.ties_are ∙ sym (ties_push s.es (station a) ∙ append-nil (ties_of s.es));
    }
lines_spelling (tie_more {names = names} a b l ka kb ne) =
    let s = lines_spelling l in
    let n = s.names_are in
    let w = (kept l).formed in
    record {
      es = s.es ++ tie a b ∷ [];
      text_is = ap (λ x. x ++ tie_line a b) s.text_is ∙ sym (spelled_push s.es (tie a b));
      each = sound_push [] s.es (tie a b) s.each (among_formed names a w ka, among_formed names b w kb, subst (Among a) n ka, subst (Among b) n kb, ne);
      names_are = n ∙ sym (stations_both s.es (tie a b ∷ []) ∙ append-nil (stations s.es));
      ties_are = ap (λ x. x ++ (a, b) ∷ []) s.ties_are ∙ sym (ties_push s.es (tie a b));
    }

-- a field book has sound entries, with its names and its ties
pub book_entries : (book : List ℕ) (names : List Name) (ts : List (Name × Name)) → FieldBook book names ts → (es : List Entry) × Entries es book × (names ≡ stations es) × (ts ≡ ties_of es)
book_entries book names ts f =
    let s = lines_spelling f.lines in
    (s.es, record { spelling = s.text_is; sound = record { each = s.each; any = subst (λ x. 1 ≤ length x) s.names_are f.some }; small = f.small }, s.names_are, s.ties_are)

-- what the reading finds is a field book
pub reading_book : (book : List ℕ) (es : List Entry) → reading book ≡ Ok es → FieldBook book (stations es) (ties_of es)
reading_book book es r = entries_book es book (accepts_all book es r)

-- and there is no other
pub reading_alone : (book : List ℕ) (es : List Entry) (names : List Name) (ts : List (Name × Name)) → reading book ≡ Ok es → FieldBook book names ts → (names ≡ stations es) × (ts ≡ ties_of es)
reading_alone book es names ts r f =
    let g = book_entries book names ts f in
    let q = alone book g.0 es g.1 r in
    (g.2 ∙ ap stations q, g.3 ∙ ap ties_of q)

-- where the reading finds a fault there is no field book
pub reading_none : (book : List ℕ) (f : Fault) (names : List Name) (ts : List (Name × Name)) → reading book ≡ Err f → FieldBook book names ts → ⊥
reading_none book f names ts r b = let g = book_entries book names ts b in nothing book f g.0 r g.1
