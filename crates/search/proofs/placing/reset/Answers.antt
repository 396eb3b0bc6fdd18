use Rattle.std.proofs.Common.{rules, arith, ◌∙◌, length-take}
use Rattle.search.proofs.Raising.{blanked_front}
use Rattle.search.proofs.placing.reset.Goals as goal

pub returns : goal.returns
returns g c =
    blanked_front _ g.L.Label.BLANK (λ f r q k. search rules) _ _ c.args.n c.args.labels.now c.fill_with.new.self c.fill_with.ensures.ran.1
    (c.fill_with.ensures.len ∙ simp length-take (omega arith))
