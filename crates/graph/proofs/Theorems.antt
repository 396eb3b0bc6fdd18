-- The theorems, each by its proof.
use Rattle.std.proofs.Common.{ℕ, List}
use Rattle.graph.specs.Graphs.{Graph, Simple, Chordal, Order, Perfect}
use Rattle.graph.specs.Theorems as the
use Rattle.graph.proofs.Walks as walks
use Rattle.graph.proofs.Linking as linking
use Rattle.graph.proofs.Steps as steps
use Rattle.graph.proofs.Runs as runs
use Rattle.graph.proofs.Rings as rings
use Rattle.graph.proofs.Orders.{order_has}
use Rattle.graph.proofs.Perfects as perfects
use Rattle.graph.proofs.Eliminating as eliminating
use Rattle.graph.proofs.Minimal as minimal
use Rattle.graph.proofs.Cuts as cuts
use Rattle.graph.proofs.Blocks as blocks
use Rattle.graph.proofs.Pairing as pairing

pub short_walk : the.ShortWalk
short_walk n v a b g s = walks.short_iff s v a b

pub link_walk : the.LinkWalk
link_walk g test k a b = linking.link_iff g test k a b

pub step_made : the.StepMade
step_made n v g s = linking.laying_laid s v

pub step_frees : the.StepFrees
step_frees n v g h s l = (steps.laid_simple s l, steps.laid_inside s l, steps.laid_free s l)

pub step_spares : the.StepSpares
step_spares n v x g h s l f = steps.free_keeps s l f

pub free_stays : the.FreeStays
free_stays n v x g h s l f = steps.free_stays s l f

pub run_made : the.RunMade
run_made n g vs s = linking.run vs s

pub run_unique : the.RunUnique
run_unique g h k vs l m = runs.lays_unique vs g h k l m

pub run_frees : the.RunFrees
run_frees n g h vs s l = runs.lays_frees vs h s l

pub run_least : the.RunLeast
run_least n g h k vs s l t c gk kh = runs.lays_least vs h k s t (rings.chordal_free t c) l gk kh

pub run_minimal : the.RunMinimal
run_minimal n g h vs s all l = minimal.run_minimal vs h s all l

pub run_sandwiched : the.RunSandwiched
run_sandwiched n g h vs rest s o l = runs.sandwich vs rest h s l (order_has o)

pub minimal_laid : the.MinimalLaid
minimal_laid n g h s m = minimal.minimal_laid s m

pub chordal_frees : the.ChordalFree
chordal_frees n g s = rings.chordal_iff s

pub perfect_chordal : (n : ℕ) (g : Graph) (o : List ℕ) → Simple n g → Order n o → Perfect n g o → Chordal n g
perfect_chordal n g o s r p = perfects.perfect_chordal s r p

pub chordal_perfect : the.ChordalPerfect
chordal_perfect n g s = (minimal.perfect_order s, λ p. perfect_chordal n g p.0 s p.1 p.2)

pub elimination_perfect : the.EliminationPerfect
elimination_perfect n g o s r = eliminating.elimination s r

pub perfect_unfilled : the.PerfectUnfilled
perfect_unfilled n g o s r = eliminating.perfect_unfilled s r

pub cut_later : the.CutLater
cut_later n g o among c d s r p k = cuts.cut_later s r p among c d k

pub block_later : the.BlockLater
block_later n g o among some s r p b = blocks.block_later s r p b some

pub pairs_grow : the.PairsGrow
pairs_grow n g h i = pairing.pairs_le n g h i

pub pairs_tell : the.PairsTell
pairs_tell n g h s t i e = pairing.pairs_full s t i e

pub pairs_sum : the.PairsSum
pairs_sum n g h apart = pairing.pairs_sum n g h apart

pub pairs_none : the.PairsNone
pairs_none n g s = (pairing.none_pairs s, pairing.pairs_none n g)
