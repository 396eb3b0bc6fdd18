use Rattle.std.proofs.Common.{inl, inr, rules}
use Rattle.std.proofs.lemmas.Bool.{cases_eq}
use Rattle.sets.proofs.Rising.{left_from, lowest_from}
use Rattle.sets.proofs.rows.note_gaps.Goals as goal

pub loop-a-preserved : goal.loop-a-preserved
loop-a-preserved c =
    let low = lowest_from _ _ _ c.in-Some.ensures.steps in
    let left = left_from _ _ _ c.in-Some.ensures.steps in
    (λ x e. search rules, λ x b. elim (cases_eq x c.in-Some.a) [ inl e ↦ search rules | inr d ↦ search rules ])
