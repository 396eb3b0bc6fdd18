use Rattle.std.proofs.Common.{sym, ap, ◌∙◌, subst}
use Rattle.std.specs.Option.{option_to_list}
use Rattle.store.specs.Matrices.{bytes_of}
use Rattle.book.specs.Drawing.{drawn}
use Rattle.book.specs.Shown.{Known}
use Rattle.book.proofs.Drawings.{ties_whole}
use Rattle.book.proofs.reader.draw.Goals as goal

pub returns-in-Some-clause-drawn : goal.returns-in-Some-clause-drawn
returns-in-Some-clause-drawn c =
    let u = c.in-Some.u in
    let v = c.in-Some.v in
    let old = c.args.matrix.now in
    let pair = subst (Known 256) c.in-Some.is c.requires.0 in
    let tied = ties_whole u v old c.tie.new.self c.tie.result c.requires.1 pair.0 pair.1 pair.2 c.tie.ensures.ties in
    tied.0 ∙ sym (ap (λ t. drawn (option_to_list t) (bytes_of old)) c.in-Some.is)
