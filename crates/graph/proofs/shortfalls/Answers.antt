use Rattle.graph.proofs.Theorems.{short_walk, link_walk}
use Rattle.graph.proofs.shortfalls.Goals as goal

pub returns : goal.returns
returns c = record { walks = short_walk; links = link_walk }
