-- The parts of the line stand one right after another.
use Rattle.std.proofs.Common.{ℕ, ◌++◌, codes, sym, arith, rules, length-append}
use Rattle.report.specs.Lines.{labelled, newline}
use Rattle.report.specs.Texts.{Extends}
use Rattle.report.proofs.Texts.{extends_more, few_digits, wrote_text}
use Rattle.report.proofs.text.write_fault.Goals as goal

pub returns : goal.returns
returns c =
    let two = extends_more (omega arith) c.push_labelled.ensures c.push_labelled-2.ensures in
    let three = extends_more (omega arith) two c.push_labelled-3.ensures in
    let all : Extends c.at_start-text.result
    (labelled (codes "refused ") c.number.result ++ labelled (codes " line ") c.line-line.result ++ labelled (codes " byte ") c.byte-byte.result ++ newline)
    c.push.new.self =
    extends_more (omega arith) three c.push.ensures in
    let w = wrote_text c.at_start-text.ensures.empty (grind (arith, length-append {A = ℕ}, few_digits)) all in
    rw (sym c.number.ensures, sym c.line-line.ensures, sym c.byte-byte.ensures) (search (rules, w))
