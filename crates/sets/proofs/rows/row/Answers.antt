use Rattle.std.proofs.Common.{refl}
use Rattle.sets.specs.Rows.{adj}
use Rattle.sets.proofs.rows.row.Goals as goal

pub returns : goal.returns
unfolding adj
returns c = λ b. refl
