-- What the judgement of a field book promises.
use Rattle.std.specs.Prelude.{◌≡◌, ℕ, ◌<◌, ◌≤◌, Bool, ◌⊎◌, List, length, Ok, Err, Result}
use Rattle.graph.specs.Graphs.{Perfect, Ring, Chordal}
use Rattle.store.specs.declared.refusal.Refusal.{Refusal}
use Rattle.store.specs.Refusals.{number}
use Rattle.store.specs.Squares.{wiped}
use Rattle.search.specs.Searches.{SearchMade}
use Rattle.search.specs.Strips.{zeroed, fronted}
use Rattle.book.specs.Faults.{Fault}
use Rattle.book.specs.FirstFault.{FirstFault}
use Rattle.book.specs.Grammar.{Name, FieldBook, tied}
use Rattle.book.specs.Promise.{Holds}
use Rattle.book.specs.Reading.{reading}
use Rattle.report.specs.Lines.{Wrote}
use Rattle.report.specs.Promise.{fault_line}
use Rattle.report.specs.Verdicts.{chordal_text, ring_text}

-- The text for a book, with what matrix area, row, strip and marks hold before and after. A field book's network, which the area then
-- holds, is chordal, and the search's order, which is perfect, is told; or it has a ring, and one is told. A book that is none is told
-- its first fault, and leaves 8,192 zero bytes in the area and the rest as it was.
pub data Judged {L : Type 0} (blank : L) (raise : L → ℕ → L) (less : L → L → Bool) (book area area' : List ℕ) (labels labels' : List L) (strip strip' marks marks' : List ℕ) : List ℕ → Type 0 where
  chordal :
      (names : List Name) (ties : List (Name × Name)) (order : List ℕ) → FieldBook book names ties → Holds names ties area area' →
      SearchMade blank raise less (length names) (tied names ties) order labels labels' → Chordal (length names) (tied names ties) →
      Perfect (length names) (tied names ties) order → strip' ≡ fronted order strip → marks' ≡ zeroed marks →
      Judged blank raise less book area area' labels labels' strip strip' marks marks' (chordal_text names order)
  ring :
      (names : List Name) (ties : List (Name × Name)) (order stations : List ℕ) → FieldBook book names ties → Holds names ties area area' →
      SearchMade blank raise less (length names) (tied names ties) order labels labels' → Ring (length names) (tied names ties) stations →
      strip' ≡ fronted stations strip → marks' ≡ zeroed marks →
      Judged blank raise less book area area' labels labels' strip strip' marks marks' (ring_text names stations (length stations))
  refused :
      (fault : Fault) → FirstFault book fault → reading book ≡ Err fault → ((names : List Name) (ties : List (Name × Name)) → FieldBook book names ties → ⊥) →
      area' ≡ wiped area → labels' ≡ labels → strip' ≡ strip → marks' ≡ marks →
      Judged blank raise less book area area' labels labels' strip strip' marks marks' (fault_line fault)

-- the areas are long enough for the matrix and the text
abbrev pub AreasLong : List ℕ → List ℕ → Type 0
AreasLong area out = (8192 ≤ length area) × (65536 ≤ length out)

-- `judgement`: the text at the start of the output, and its length; or 9 where an area is too short, else 11 where strip, row or marks
-- strip is, and all as it was
abbrev pub Judgements :
    {L : Type 0} → L → (L → ℕ → L) → (L → L → Bool) → List ℕ → List ℕ → List ℕ → List L → List L → List ℕ → List ℕ → List ℕ → List ℕ →
    List ℕ → List ℕ → Result ℕ Refusal → Type 0
Judgements blank raise less book area area' labels labels' strip strip' marks marks' out out' (Ok written) =
    AreasLong area out × (256 ≤ length strip) × (256 ≤ length labels) × (256 ≤ length marks)
    × ((text : List ℕ) × Judged blank raise less book area area' labels labels' strip strip' marks marks' text × Wrote text out out' written)
Judgements blank raise less book area area' labels labels' strip strip' marks marks' out out' (Err refusal) =
    ((((length area < 8192) ⊎ (length out < 65536)) × (number refusal ≡ 9))
    ⊎ (AreasLong area out × ((length strip < 256) ⊎ ((length labels < 256) ⊎ (length marks < 256))) × (number refusal ≡ 11)))
    × (area' ≡ area) × (labels' ≡ labels) × (strip' ≡ strip) × (marks' ≡ marks) × (out' ≡ out)
