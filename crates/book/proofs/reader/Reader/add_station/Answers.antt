use Rattle.std.proofs.Common.{[], ◌∷◌, ◌++◌, sym, ap, ◌∙◌, arith}
use Rattle.book.specs.Tables.{names_in, span_of}
use Rattle.book.proofs.Table.{added_names, names_length}
use Rattle.book.proofs.Steps.{station_ok, none_here}
use Rattle.book.proofs.reader.Reader.add_station.Goals as goal

pub returns-clause-added : goal.returns-clause-added
returns-clause-added c =
    let b = c.args.self.now.book.now in
    let t = c.args.self.now.names in
    let u = c.add.new.self in
    let p = c.args.name in
    let n = names_length b t t.count in (
      station_ok (names_in b t) p.bytes.now p.at (none_here _ (sym c.if-is_some.ensures) ∙ c.find.ensures) (omega arith),
      added_names b t u (span_of p) c.add.ensures ∙ ap (λ x. names_in b t ++ x ∷ []) (sym c.requires.same),
    )
