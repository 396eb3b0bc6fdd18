use Rattle.graph.proofs.Theorems.{step_made, step_frees, step_spares, free_stays}
use Rattle.graph.proofs.laying_step.Goals as goal

pub returns : goal.returns
returns c = record { made = step_made; frees = step_frees; spares = step_spares; stays = free_stays }
