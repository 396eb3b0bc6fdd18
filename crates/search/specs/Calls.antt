-- What `search` and `judge` answer, and what they leave in strip, row and marks.
use Rattle.std.specs.Prelude.{◌≡◌, ℕ, ◌<◌, ◌≤◌, Bool, ◌⊎◌, List, length, Ok, Err, Result}
use Rattle.graph.specs.Graphs.{Graph, Perfect, Ring as RingOf, Chordal as Ringless}
use Rattle.store.specs.Nets.{Net, standing}
use Rattle.store.specs.Refusals.{number}
use Rattle.store.specs.declared.refusal.Refusal.{Refusal}
use Rattle.search.specs.declared.judging.Verdict.{Verdict}
use Rattle.search.specs.declared.judging.Verdict.TheVariants.{Chordal, Ring}
use Rattle.search.specs.Searches.{SearchMade}
use Rattle.search.specs.Strips.{zeroed, fronted}

-- `search`: the strip begins with the search's order and goes on as it was, the labels are as the search leaves them;
-- or 11, and strip and row as they were
abbrev pub Searches : {L : Type 0} → L → (L → ℕ → L) → (L → L → Bool) → Net → List ℕ → List ℕ → List L → List L → Result (Unit {0}) Refusal → Type 0
Searches blank raise less net strip strip' labels labels' (Ok _) =
    (256 ≤ length strip) × (256 ≤ length labels)
    × ((order : List ℕ) × SearchMade blank raise less net.size (standing net) order labels labels' × (strip' ≡ fronted order strip))
Searches blank raise less net strip strip' labels labels' (Err refusal) =
    ((length strip < 256) ⊎ (length labels < 256)) × (number refusal ≡ 11) × (strip' ≡ strip) × (labels' ≡ labels)

-- What is said of a graph whose search order is given: it has no ring, the order is perfect, and the strip begins with it;
-- or it has one, and the strip begins with such a ring, of the length that is told. The strip goes on as it was.
abbrev pub Says : ℕ → Graph → List ℕ → List ℕ → List ℕ → Verdict → Type 0
Says n g order strip strip' Chordal = Ringless n g × Perfect n g order × (strip' ≡ fronted order strip)
Says n g order strip strip' (Ring k) =
    (Ringless n g → ⊥) × ((ring : List ℕ) × RingOf n g ring × (length ring ≡ k) × (k ≤ 256) × (strip' ≡ fronted ring strip))

-- `judge`: what is said of the standing network, the labels as the search leaves them, the marks zeroed;
-- or 11, and strip, row and marks as they were
abbrev pub Judges :
    {L : Type 0} → L → (L → ℕ → L) → (L → L → Bool) → Net → List ℕ → List ℕ → List L → List L → List ℕ → List ℕ → Result Verdict Refusal → Type 0
Judges blank raise less net strip strip' labels labels' marks marks' (Ok verdict) =
    (256 ≤ length strip) × (256 ≤ length labels) × (256 ≤ length marks) × (marks' ≡ zeroed marks)
    × ((order : List ℕ) × SearchMade blank raise less net.size (standing net) order labels labels'
    × Says net.size (standing net) order strip strip' verdict)
Judges blank raise less net strip strip' labels labels' marks marks' (Err refusal) =
    ((length strip < 256) ⊎ ((length labels < 256) ⊎ (length marks < 256))) × (number refusal ≡ 11)
    × (strip' ≡ strip) × (labels' ≡ labels) × (marks' ≡ marks)
