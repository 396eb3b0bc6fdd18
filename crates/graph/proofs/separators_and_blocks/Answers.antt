use Rattle.graph.proofs.Theorems.{cut_later, block_later}
use Rattle.graph.proofs.separators_and_blocks.Goals as goal

pub returns : goal.returns
returns c = record { separators = cut_later; blocks = block_later }
