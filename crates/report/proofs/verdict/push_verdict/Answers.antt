use Rattle.std.proofs.Common.{take, subst, arith}
use Rattle.book.specs.Tables.{names_in}
use Rattle.report.specs.Texts.{Extends}
use Rattle.report.specs.Verdicts.{chordal_text}
use Rattle.report.proofs.Texts.{extends_more}
use Rattle.report.proofs.verdict.push_verdict.Goals as goal

pub returns-in-Chordal : goal.returns-in-Chordal
returns-in-Chordal c =
    rw c.in-Chordal.is
    (subst (λ n. Extends c.args.text.now (chordal_text (names_in c.args.book.now c.args.names.now) (take n c.args.strip.now)) c.push_stations.new.text) c.count.ensures
    (extends_more (omega arith) c.push.ensures c.push_stations.ensures))

pub returns-in-Ring : goal.returns-in-Ring
returns-in-Ring c = rw c.in-Ring.is (extends_more (omega arith) (extends_more (omega arith) c.push_labelled.ensures c.push-in-Ring.ensures) c.push_stations-in-Ring.ensures)
