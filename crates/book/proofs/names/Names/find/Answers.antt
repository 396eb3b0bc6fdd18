use Rattle.std.proofs.Common.{◌≡◌, take, length, rules, tests, ◌∙◌}
use Rattle.std.proofs.lemmas.Iterator.Search.{position_from_yields_List}
use Rattle.std.proofs.lemmas.Iterator.Adapters.{position_from-zero, serves_from_places}
use Rattle.std.proofs.lemmas.Iterator.{YieldsList-from_slice}
use Rattle.book.proofs.Table.{is_name, found_span, counted_fits}
use Rattle.book.proofs.names.Names.find.Goals as goal

long : (c : goal.After-position) → length c.args.self.now.spans ≡ 256
long c = search rules

pub position-requires-clause-callable : goal.position-requires-clause-callable
position-requires-clause-callable c =
    let t = c.args.self.now in
    let ss = take t.count t.spans in
    serves_from_places (YieldsList-from_slice ss cc) (λ x q k. search rules) (λ x k h e. let f = counted_fits c.args.book.now t x.now k c.requires h e in search rules)

pub returns : goal.returns
returns c =
    let t = c.args.self.now in
    let b = c.args.book.now in
    let a = c.args.name.now in
    let ss = take t.count t.spans in
    position_from_yields_List (is_name b a) _ _ c.position.result c.position.ensures.ran (YieldsList-from_slice ss cc) (λ x b q k. search (rules, tests))
    ∙ position_from-zero (is_name b a) ss
    ∙ found_span b t a c.requires (long c)
