use Rattle.std.proofs.Common.{sym, ◌∙◌}
use Rattle.book.proofs.LineSteps.{line_t}
use Rattle.book.proofs.lines.read_line.Goals as goal

pub returns-in-TieKind : goal.returns-in-TieKind
returns-in-TieKind c = c.tie_line.ensures ∙ sym (line_t c.args.line c.cut.result.0 c.cut.result.1 c.cut.ensures c.in-TieKind.ensures.1 c.in-TieKind.ensures.2)
