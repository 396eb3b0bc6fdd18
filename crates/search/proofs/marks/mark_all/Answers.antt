use Rattle.std.proofs.Common.{rules, arith}
use Rattle.sets.specs.Sets.{has}
use Rattle.sets.proofs.Rising.{left_from, lowest_from, nobody_from}
use Rattle.search.proofs.Marking.{marking_more}
use Rattle.search.proofs.marks.mark_all.Goals as goal

pub loop-x-preserved : goal.loop-x-preserved
loop-x-preserved c =
    let low = lowest_from _ _ _ c.in-Some.ensures.steps in
    marking_more c.args.mark (has c.args.which) (has c.loop-x.x-iterator.left) (has c.next.new.self.left) c.args.strip.now c.loop-x.strip c.in-Some.x
    c.loop-x.invariant low.member (omega (arith, low.below)) (left_from _ _ _ c.in-Some.ensures.steps)

pub returns : goal.returns
returns c = let none = nobody_from _ c.in-None.ensures.steps.0 in search rules
