-- The number stands right after its label.
use Rattle.std.proofs.Common.{◌∙◌, ap, subst, decimal, arith}
use Rattle.report.specs.Texts.{Extends}
use Rattle.report.proofs.Texts.{extends_more}
use Rattle.report.proofs.text.Text.push_labelled.Goals as goal

pub returns : goal.returns
returns c =
    let digits = c.as_bytes.ensures.value ∙ c.format.ensures.text ∙ ap decimal {y = c.args.n} (omega arith) in
    extends_more (omega arith) c.push.ensures (subst (λ bytes. Extends c.push.new.self bytes c.push-2.new.self) digits c.push-2.ensures)
