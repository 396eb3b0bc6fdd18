-- What a search and a test of its order say of a standing network.
use Rattle.std.proofs.Common.{◌≡◌, ℕ, ◌≤◌, min, Bool, List, ◌++◌, length, drop, replicate, sym, ap, ◌∙◌}
use Rattle.graph.specs.Graphs.{Graph, Simple, Order, Perfect, Ring as RingOf, Chordal as Ringless}
use Rattle.graph.specs.Search.{LabelLaws, Searched}
use Rattle.graph.proofs.Minimal.{searched_perfect}
use Rattle.graph.proofs.Perfects.{perfect_chordal}
use Rattle.search.specs.declared.judging.Verdict.{Verdict}
use Rattle.search.specs.declared.judging.Verdict.TheVariants.{Chordal, Ring}
use Rattle.search.specs.Calls.{Says}
use Rattle.search.specs.Searches.{SearchMade}
use Rattle.search.specs.Strips.{zeroed, fronted}
use Rattle.search.proofs.Standing.{moved}

-- a graph is not chordal if the search's order is not perfect
pub not_chordal :
    {L : Type 0} {blank : L} {raise : L → ℕ → L} {less : L → L → Bool} → LabelLaws blank raise less → {n : ℕ} {g : Graph} {order : List ℕ} → n ≤ 256 →
    Simple n g → Searched blank raise less n g order → (Perfect n g order → ⊥) → Ringless n g → ⊥
not_chordal laws few s searched imperfect chordal = imperfect (searched_perfect laws few s chordal searched)

pub chordal_says :
    {n : ℕ} {g : Graph} {order : List ℕ} (strip strip' : List ℕ) → Simple n g → Order n order → Perfect n g order → strip' ≡ fronted order strip →
    Says n g order strip strip' Chordal
chordal_says strip strip' s o p e = (perfect_chordal s o p, p, e)

pub ring_says :
    {n : ℕ} {g : Graph} (order strip strip' ring : List ℕ) (k : ℕ) → k ≡ length ring → k ≤ 256 → RingOf n g ring →
    strip' ≡ fronted ring strip → Says n g order strip strip' (Ring k)
ring_says order strip strip' ring k long few r e = ((λ chordal. chordal ring r), (ring, r, sym long, few, e))

-- what is made and said of a graph is made and said of one with the same edges
pub judged :
    {L : Type 0} {blank : L} {raise : L → ℕ → L} {less : L → L → Bool} {n m : ℕ} {g h : Graph} (order strip strip' : List ℕ) (before labels : List L)
    (verdict : Verdict) → n ≡ m → ((a b : ℕ) → g a b ≡ h a b) → SearchMade blank raise less n g order before labels →
    Says n g order strip strip' verdict →
    (o : List ℕ) × SearchMade blank raise less m h o before labels × Says m h o strip strip' verdict
judged {blank = blank} {raise = raise} {less = less} {n = n} {m = m} {g = g} {h = h} order strip strip' before labels verdict e f made says =
    let there = moved (λ k i. SearchMade blank raise less k i order before labels × Says k i order strip strip' verdict) n m g h e f (made, says) in
    (order, there.0, there.1)

-- zeroing forgets the first 256 bytes
pub zeroed_same : (s t : List ℕ) → length s ≡ length t → drop 256 s ≡ drop 256 t → zeroed s ≡ zeroed t
unfolding zeroed
zeroed_same s t l e = ap (λ n. replicate (min 256 n) 0 ++ drop 256 s) l ∙ ap (λ x. replicate (min 256 (length t)) 0 ++ x) e
