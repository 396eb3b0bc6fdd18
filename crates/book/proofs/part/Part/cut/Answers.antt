use Rattle.std.proofs.Common.{◌<◌, length, eqb, rules, tests, sym, refl, ◌∙◌, arith, length-take}
use Rattle.std.proofs.lemmas.List.Quantifiers.{position-Some}
use Rattle.std.proofs.lemmas.Iterator.{YieldsList-from_slice}
use Rattle.std.proofs.lemmas.Iterator.Search.{position_from_yields_List}
use Rattle.book.proofs.Pieces.{position_none, cut_at}
use Rattle.book.proofs.part.Part.cut.Goals as goal

pub returns-in_default : goal.returns-in_default
returns-in_default c =
    let bytes = c.args.self.bytes.now in
    let found = position_from_yields_List (λ b. eqb b c.args.by) _ _ c.position.result c.position.ensures.ran (YieldsList-from_slice bytes cc) (λ x b q k. search (rules, tests)) in
    (position_none c.args.by bytes (sym found ∙ c.in_default.is), refl)

pub returns : goal.returns
returns c =
    let bytes = c.args.self.bytes.now in
    let len = c.in-Some.len in
    let found = position_from_yields_List (λ b. eqb b c.args.by) _ _ c.position.result c.position.ensures.ran (YieldsList-from_slice bytes cc) (λ x b q k. search (rules, tests)) in
    let here = position-Some (λ b. eqb b c.args.by) bytes len 0 (sym found ∙ c.in-Some.is) in
    let long : len < length bytes = here.0 in
    let h = cut_at c.args.by bytes len long here.1 here.2 in
    (h.0, h.1, refl, simp length-take (omega arith))
