use Rattle.std.proofs.Common.{not, eqb, sym, ◌∙◌, subst, inl, inr}
use Rattle.std.proofs.lemmas.Bool.{cases_eq, and_parts}
use Rattle.sets.specs.Sets.{has}
use Rattle.sets.proofs.Members.{has_below}
use Rattle.sets.proofs.Rising.{left_from, lowest_from, nobody_from}
use Rattle.search.specs.Searches.{Exceeded}
use Rattle.search.proofs.Raising.{not_all_exceeded, without_other}
use Rattle.search.proofs.placing.Choice.pick.Goals as goal

pub returns-then-is_unexceeded : goal.returns-then-is_unexceeded
returns-then-is_unexceeded g c = let low = lowest_from _ _ _ c.in-Some.ensures.steps in
    record {
      member = c.loop-v.invariant.0 c.in-Some.v low.member;
      top = c.if-is_unexceeded.ensures;
      low = λ w l m. c.loop-v.invariant.1 w m (low.before w l);
    }

pub loop-v-preserved : goal.loop-v-preserved
loop-v-preserved g c =
    let left = has c.loop-v.v-iterator.left in
    let new = has c.next.new.self.left in
    let v = c.in-Some.v in
    let gone = left_from _ _ _ c.in-Some.ensures.steps in (
      λ x e. c.loop-v.invariant.0 x (and_parts (not (eqb x v)) (left x) (sym (gone x) ∙ e)).1,
      λ x e z. elim (cases_eq x v) [
        | inl m ↦ subst (λ y. Exceeded g.L.Label.less c.args.self.now.labels.now (has c.args.self.now.among) y) (sym m) c.if-is_unexceeded.ensures
        | inr d ↦ c.loop-v.invariant.1 x e (sym (without_other left new v x gone d) ∙ z)
      ],
    )

pub unreachable-requires : goal.unreachable-requires
unreachable-requires g c =
    not_all_exceeded g.met.L.Label.laws c.args.self.now.labels.now (has c.args.self.now.among) (has_below c.args.self.now.among) c.requires
    (λ x e. c.loop-v.invariant.1 x e (nobody_from _ c.in-None.ensures.steps.0 x))
