use Rattle.std.proofs.Common.{rules}
use Rattle.sets.specs.Sets.{has}
use Rattle.sets.proofs.Sizes.{size_lt}
use Rattle.sets.specs.Rows.{adj}
use Rattle.sets.proofs.Reach.{waiting, extend, alone, finish}
use Rattle.sets.proofs.rows.part_of.Goals as goal

pub loop-v-init : goal.loop-v-init
loop-v-init c =
    record {
      start = search rules;
      sound = λ x e. alone (adj c.args.rows.now) (has c.args.within) c.args.c x (search rules) (search rules);
      listed = search rules;
      closed = search rules;
    }

pub loop-v-smaller : goal.loop-v-smaller
loop-v-smaller c =
    size_lt (waiting (has c.union-seen.result) (has c.union-todo.result)) (waiting (has c.loop-v.seen) (has c.loop-v.todo)) 256
    (λ x l e. search rules) c.in-Some.v c.in-Some.ensures.below (search rules) (search rules)

pub loop-v-preserved : goal.loop-v-preserved
loop-v-preserved c =
    record {
      start = search rules;
      sound = λ x e. search (rules, extend);
      listed = search rules;
      closed = search rules;
    }

pub returns : goal.returns
returns c =
    finish (adj c.args.rows.now) (has c.args.within) (has c.loop-v.seen) (has c.loop-v.todo) c.args.c c.loop-v.invariant
    c.in_default.ensures
