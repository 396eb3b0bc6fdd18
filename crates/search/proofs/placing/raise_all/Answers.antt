use Rattle.std.proofs.Common.{rules, arith}
use Rattle.sets.specs.Sets.{has}
use Rattle.sets.proofs.Rising.{left_from, lowest_from, nobody_from}
use Rattle.search.proofs.Raising.{raising_more}
use Rattle.search.proofs.placing.raise_all.Goals as goal

pub loop-v-preserved : goal.loop-v-preserved
loop-v-preserved g c =
    let low = lowest_from _ _ _ c.in-Some.ensures.steps in
    raising_more g.L.Label.raised c.args.position (has c.args.which) (has c.loop-v.v-iterator.left) (has c.next.new.self.left) c.args.labels.now
    c.loop-v.labels c.in-Some.v c.raise.result _ c.loop-v.invariant low.member
    (omega (arith, low.below, c.loop-v.invariant.long)) (left_from _ _ _ c.in-Some.ensures.steps) c.raise.ensures c.index-labels-v.is

pub returns : goal.returns
returns g c = let none = nobody_from _ c.in-None.ensures.steps.0 in search rules
