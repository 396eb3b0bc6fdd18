use Rattle.std.proofs.Common.{rules, length, ap, subst, sym}
use Rattle.std.specs.Iterator.{YieldsFirst}
use Rattle.sets.specs.Sets.{members}
use Rattle.sets.proofs.Rising.{members_none, members_first}
use Rattle.sets.proofs.iter.MembersIterator.next.Goals as goal

pub returns-in_err-v-clause-steps : goal.returns-in_err-v-clause-steps
returns-in_err-v-clause-steps c =
    let e = members_none c.args.self.now.left (λ i. c.in_err-v.ensures i) in
    subst (λ r. YieldsFirst (λ s. members s.left) c.args.self.now r c.args.self.now) (sym c.from_residual.ensures) (e, e)

pub returns-clause-steps : goal.returns-clause-steps
returns-clause-steps c = members_first c.args.self.now.left c.remove.new.self c.in_ok-v.v c.in_ok-v.ensures c.remove.ensures

pub returns-clause-goes : goal.returns-clause-goes
returns-clause-goes c =
    let e = ap length (members_first c.args.self.now.left c.remove.new.self c.in_ok-v.v c.in_ok-v.ensures c.remove.ensures) in
    search (rules, e)
