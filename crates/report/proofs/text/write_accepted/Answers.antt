use Rattle.std.proofs.Common.{ℕ, arith, rules, length-append}
use Rattle.report.specs.Lines.{accepted_line}
use Rattle.report.specs.Texts.{Extends}
use Rattle.report.proofs.Texts.{extends_more, few_digits, wrote_text}
use Rattle.report.proofs.text.write_accepted.Goals as goal

pub returns : goal.returns
returns c =
    let all : Extends c.at_start-text.result (accepted_line c.args.stations c.args.ties) c.push.new.self =
    extends_more (omega arith) (extends_more (omega arith) c.push_labelled.ensures c.push_labelled-2.ensures) c.push.ensures in
    let w = wrote_text c.at_start-text.ensures.empty (grind (arith, length-append {A = ℕ}, few_digits)) all in
    search (rules, w)
