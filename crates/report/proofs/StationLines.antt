-- Lines of stations, one after another.
use Rattle.std.proofs.Common.{◌≡◌, ℕ, suc, ◌+◌, ◌*◌, ◌<◌, ◌≤◌, List, [], ◌∷◌, ◌++◌, length, get_or, take, drop, codes, decimal, sym, refl, ap, ◌∙◌, subst, append_assoc, arith, length-take, length-append}
use Rattle.std.proofs.lemmas.List.{append-nil, take_more, take-append-drop}
use Rattle.book.specs.declared.names.Names.{Names}
use Rattle.book.specs.Grammar.{Name}
use Rattle.book.specs.Tables.{name_at, names_in}
use Rattle.book.proofs.Table.{names_at}
use Rattle.report.specs.Lines.{labelled, newline}
use Rattle.search.specs.declared.judging.Verdict.{Verdict}
use Rattle.search.specs.declared.judging.Verdict.TheVariants.{Chordal, Ring}
use Rattle.report.specs.Verdicts.{station_line, station_lines, shown, verdict_text, Named, ShowsVerdict}
use Rattle.report.proofs.Texts.{few_digits}

lines_append : (mark : List ℕ) (names : List Name) (us vs : List ℕ) → station_lines mark names (us ++ vs) ≡ station_lines mark names us ++ station_lines mark names vs
lines_append mark names [] vs = refl
lines_append mark names (u ∷ us) vs =
    ap (λ t. station_line mark (get_or names u []) ++ t) (lines_append mark names us vs)
    ∙ sym (append_assoc (station_line mark (get_or names u [])) (station_lines mark names us) (station_lines mark names vs))

-- one station more
pub lines_more :
    (mark : List ℕ) (names : List Name) (stations : List ℕ) (i : ℕ) → i < length stations →
    station_lines mark names (take (i + 1) stations) ≡ station_lines mark names (take i stations) ++ station_line mark (get_or names (get_or stations i 0) [])
lines_more mark names stations i l =
    ap (station_lines mark names) (take_more stations i 0 l)
    ∙ lines_append mark names (take i stations) (get_or stations i 0 ∷ [])
    ∙ ap (λ t. station_lines mark names (take i stations) ++ t) (append-nil (station_line mark (get_or names (get_or stations i 0) [])))

-- where there is room for all lines there is for those up to one station
pub lines_within :
    (mark : List ℕ) (names : List Name) (stations : List ℕ) (i : ℕ) → i < length stations →
    length (station_lines mark names (take i stations)) + length (station_line mark (get_or names (get_or stations i 0) [])) ≤ length (station_lines mark names stations)
lines_within mark names stations i l =
    let upto = station_lines mark names (take (i + 1) stations) in
    let after = station_lines mark names (drop (i + 1) stations) in
    let all : station_lines mark names stations ≡ upto ++ after =
    ap (station_lines mark names) (sym (take-append-drop (i + 1) stations)) ∙ lines_append mark names (take (i + 1) stations) (drop (i + 1) stations) in
    omega (
      arith,
      ap length all,
      length-append upto after,
      ap length (lines_more mark names stations i l),
      length-append (station_lines mark names (take i stations)) (station_line mark (get_or names (get_or stations i 0) [])),
    )

-- a line has at most 15 bytes
pub line_short : (mark name : List ℕ) → length mark ≡ 2 → length name ≤ 12 → length (station_line mark name) ≤ 15
line_short mark name two few = omega (arith, length-append mark (name ++ newline), length-append name newline, length-append (mark ++ name) newline, length-append mark name)

-- the name of a station of the table
pub named_at : (book : List ℕ) (table : Names) (v : ℕ) → v < table.count → get_or (names_in book table) v [] ≡ name_at book table v
named_at book table v l = names_at book table table.count v l

-- and so many lines so many times that
pub lines_short :
    (mark book : List ℕ) (table : Names) (stations : List ℕ) → length mark ≡ 2 → Named book table stations →
    length (station_lines mark (names_in book table) stations) ≤ length stations * 15
lines_short mark book table [] two named = omega arith
lines_short mark book table (v ∷ vs) two named =
    let rest : Named book table vs = record { inside = named.inside; known = λ i l. named.known (suc i) (omega arith); short = named.short } in
    let known = named.known 0 (omega arith) in
    let name = get_or (names_in book table) v [] in
    let few : length name ≤ 12 = subst (λ n. length n ≤ 12) (sym (named_at book table v known)) (named.short v known) in
    omega (arith, length-append (station_line mark name) (station_lines mark (names_in book table) vs), line_short mark name two few, lines_short mark book table vs two rest)

-- the text of a verdict has few bytes
pub verdict_short :
    (book : List ℕ) (table : Names) (strip : List ℕ) (v : Verdict) → ShowsVerdict book table strip v →
    length (verdict_text (names_in book table) (take (shown table.count v) strip) v) ≤ 65536
verdict_short book table strip Chordal s =
    let lines = station_lines (codes "> ") (names_in book table) (take table.count strip) in
    omega (arith, length-append (codes "chordal" ++ newline) lines, lines_short (codes "> ") book table (take table.count strip) refl s.named, length-take table.count strip)
verdict_short book table strip (Ring k) s =
    let lines = station_lines (codes "o ") (names_in book table) (take k strip) in
    omega (
      arith,
      length-append (labelled (codes "ring ") k ++ newline) lines,
      length-append (labelled (codes "ring ") k) newline,
      length-append (codes "ring ") (decimal k),
      few_digits k (omega arith),
      lines_short (codes "o ") book table (take k strip) refl s.named,
      length-take k strip,
    )
