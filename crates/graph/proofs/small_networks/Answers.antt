use Rattle.graph.proofs.Smalls.{small_networks}
use Rattle.graph.proofs.small_networks.Goals as goal

pub returns : goal.returns
returns c = small_networks
