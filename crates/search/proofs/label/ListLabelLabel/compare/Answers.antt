use Rattle.std.proofs.Common.{◌∙◌, sym, ap, ap₂}
use Rattle.search.specs.Kinds.{compared, list_less}
use Rattle.search.specs.Lists.{less_is}
use Rattle.search.proofs.label.ListLabelLabel.compare.Goals as goal
use Rattle.search.proofs.label.ListLabelLabel.compare.Goals.{then-not-less, else-not-less}

pub returns : goal.returns
returns c =
    let s = c.args.self.now in
    let t = c.args.other.now in
    let e = less_is s t _ c.less-less.ensures in
    elim c.if-not-less.branch [
      | then-not-less w ↦ c.of.ensures ∙ ap (compared c.less-less.result) w.of-is ∙ sym (ap₂ compared e (less_is t s _ w.less.ensures))
      | else-not-less w ↦ c.of.ensures ∙ ap (λ z. compared z c.if-not-less.of) w.if-not-less.false ∙ sym (ap (λ z. compared z (list_less t s)) (e ∙ w.if-not-less.false))
    ]
