use Rattle.std.proofs.Common.{rules}
use Rattle.sets.proofs.Rising.{left_from, lowest_from}
use Rattle.sets.proofs.rows.touching.Goals as goal

pub loop-d-preserved : goal.loop-d-preserved
loop-d-preserved c =
    let low = lowest_from _ _ _ c.in-Some.ensures.steps in
    let left = left_from _ _ _ c.in-Some.ensures.steps in
    search rules
