use Rattle.graph.proofs.Theorems.{elimination_perfect, perfect_unfilled}
use Rattle.graph.proofs.elimination.Goals as goal

pub returns : goal.returns
returns c = record { perfect = elimination_perfect; unfilled = perfect_unfilled }
