use Rattle.std.proofs.Common.{rules, arith}
use Rattle.std.proofs.lemmas.Grind.{common_steps}
use Rattle.sets.proofs.Rising.{left_from, lowest_from, nobody_from}
use Rattle.search.proofs.placing.Choice.is_unexceeded.Goals as goal

pub returns-in-Less : goal.returns-in-Less
returns-in-Less g c = let member = (lowest_from _ _ _ c.in-Some.ensures.steps).member in grind (arith, common_steps)

pub loop-k-preserved : goal.loop-k-preserved
loop-k-preserved g c =
    let low = lowest_from _ _ _ c.in-Some.ensures.steps in
    let left = left_from _ _ _ c.in-Some.ensures.steps in
    grind (arith, common_steps)

pub returns : goal.returns
returns g c = let none = nobody_from _ c.in-None.ensures.steps.0 in search rules
