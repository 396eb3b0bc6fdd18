-- The ties by number, as the reader hands them over, are the ties by name.
use Rattle.std.proofs.Common.{◌≡◌, ℕ, eqb, List, [], ◌∷◌, ◌++◌, get_or, sym, refl, ap, ◌∙◌, subst, inl, inr, append_assoc, arith}
use Rattle.std.proofs.lemmas.List.{length-append, get_or_append_left}
use Rattle.std.proofs.lemmas.Bool.{cases_Bool, eq-eqb, eqb-true, both_ways}
use Rattle.book.specs.Grammar.{Name, Numbered, Among, named, tied}
use Rattle.book.specs.Reading.{Entry, station, tie, stations, ties_of}
use Rattle.book.specs.Pairs.{number_from, pairs_after, tied_in}
use Rattle.book.proofs.Entries.{SoundAfter, Entries}
use Rattle.book.proofs.Splits.{found_at, among_some}
use Rattle.book.proofs.Steps.{number_found, stations_both}
use Rattle.book.proofs.Networks.{Distinct, kept, named_is, is_named}
use Rattle.book.proofs.Grammars.{entries_book}

-- a name among the names stands at its number
number_here : (a : Name) (ns : List Name) → Among a ns → Numbered ns (number_from 0 a ns) a
number_here a ns m =
    let k = among_some a ns m in
    let f = found_at 0 a ns k.0 k.1 in
    let n = number_found 0 a ns k.0 k.1 in
    let q : number_from 0 a ns ≡ f.0 = omega (arith, n.0, f.1) in
    (omega (arith, f.2), ap (λ j. get_or ns j []) q ∙ f.3)

-- a name keeps its place before more names
here_left : (ns ms : List Name) (u : ℕ) (a : Name) → Numbered ns u a → Numbered (ns ++ ms) u a
here_left ns ms u a h = (let q = length-append ns ms in omega (arith, h.0), get_or_append_left ns ms [] u h.0 ∙ h.1)

-- a name among the stations above keeps its number
number_later : (above es : List Entry) (a : Name) → Among a (stations above) → Numbered (stations (above ++ es)) (number_from 0 a (stations above)) a
number_later above es a m =
    subst (λ ns. Numbered ns (number_from 0 a (stations above)) a) (sym (stations_both above es))
    (here_left (stations above) (stations es) (number_from 0 a (stations above)) a (number_here a (stations above) m))

-- where names are distinct, to have the number is to have the name
number_named : (ns : List Name) (i : ℕ) (a : Name) → Distinct ns → Numbered ns i a → (u : ℕ) → eqb u i ≡ named ns u a
number_named ns i a d h u =
    elim (cases_Bool (eqb u i)) [
      | inl t ↦ t ∙ sym (is_named ns u a (subst (λ k. Numbered ns k a) (sym (eqb-true u i t)) h))
      | inr f ↦ elim (cases_Bool (named ns u a)) [
        | inl t ↦ (let g = named_is ns u a t in absurd (both_ways (eqb u i) f (eq-eqb u i (d u i g.0 h.0 (g.1 ∙ sym h.1)))))
        | inr g ↦ f ∙ sym g
      ]
    ]

-- the pairs after the entries above are the ties by name
pairs_tied : (above es : List Entry) (u v : ℕ) → Distinct (stations (above ++ es)) → SoundAfter above es → tied_in (pairs_after above es) u v ≡ tied (stations (above ++ es)) (ties_of es) u v
pairs_tied above [] u v d s = refl
pairs_tied above (station a ∷ es) u v d s =
    let q = append_assoc above (station a ∷ []) es in
    pairs_tied (above ++ station a ∷ []) es u v (subst (λ x. Distinct (stations x)) (sym q) d) s.1 ∙ ap (λ x. tied (stations x) (ties_of es) u v) q
pairs_tied above (tie a b ∷ es) u v d s =
    let q = append_assoc above (tie a b ∷ []) es in
    let all = stations (above ++ tie a b ∷ es) in
    let i = number_from 0 a (stations above) in
    let j = number_from 0 b (stations above) in
    let na = number_named all i a d (number_later above (tie a b ∷ es) a s.0.2) in
    let nb = number_named all j b d (number_later above (tie a b ∷ es) b s.0.3) in
    let rest = pairs_tied (above ++ tie a b ∷ []) es u v (subst (λ x. Distinct (stations x)) (sym q) d) s.1 ∙ ap (λ x. tied (stations x) (ties_of es) u v) q in
    let nau = na u in
    let nav = na v in
    let nbu = nb u in
    let nbv = nb v in
    cc

-- the pairs of a book's entries are the ties of its stations
pub numbers_tied : (es : List Entry) (book : List ℕ) (u v : ℕ) → Entries es book → tied_in (pairs_after [] es) u v ≡ tied (stations es) (ties_of es) u v
numbers_tied es book u v e = pairs_tied [] es u v (kept (entries_book es book e).lines).apart e.sound.each
