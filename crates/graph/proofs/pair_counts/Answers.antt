use Rattle.graph.proofs.Theorems.{pairs_grow, pairs_tell, pairs_sum, pairs_none}
use Rattle.graph.proofs.pair_counts.Goals as goal

pub returns : goal.returns
returns c = record { grow = pairs_grow; tell = pairs_tell; sum = pairs_sum; none = pairs_none }
