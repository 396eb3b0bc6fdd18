use Rattle.graph.proofs.Theorems.{chordal_frees, chordal_perfect}
use Rattle.graph.proofs.chordality.Goals as goal

pub returns : goal.returns
returns c = record { free = chordal_frees; ordered = chordal_perfect }
