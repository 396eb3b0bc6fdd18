use Rattle.std.proofs.Common.{ℕ, eqb, cond, rules, tests, ◌∙◌, arith}
use Rattle.std.proofs.lemmas.Iterator.{YieldsList-from_range, YieldsList-from_map}
use Rattle.std.proofs.lemmas.Iterator.Consumers.{sum_by_from_yields_List, fits_by_from_yields_list}
use Rattle.std.specs.List.{range_with_len}
use Rattle.store.specs.Matrices.{net_of}
use Rattle.store.specs.MatrixLaws.{row_most}
use Rattle.store.proofs.Counts.{row_from}
use Rattle.store.proofs.matrix.Matrix.count_row.Goals as goal

pub sum-requires-clause-fits : goal.sum-requires-clause-fits
sum-requires-clause-fits c =
    let net = net_of c.args.self.now in
    let b = c.args.b in
    let one : ℕ → ℕ = λ a. cond (eqb (net.mark a b) c.args.mark) 1 0 in
    fits_by_from_yields_list one (range_with_len 0 b) c.map.result _
    (YieldsList-from_map _ one (YieldsList-from_range 0 _ b c.map.ensures.source (omega arith)) c.map.ensures.closure (λ x r q k. search (rules, tests)))
    (omega (arith, row_from net.mark c.args.mark b b, row_most net.mark c.args.mark b b))

pub returns : goal.returns
returns c =
    let net = net_of c.args.self.now in
    let b = c.args.b in
    let one : ℕ → ℕ = λ a. cond (eqb (net.mark a b) c.args.mark) 1 0 in
    sum_by_from_yields_List one (range_with_len 0 b) _ _ c.sum.ensures.ran
    (YieldsList-from_map _ one (YieldsList-from_range 0 _ b c.map.ensures.source (omega arith)) c.map.ensures.closure (λ x r q k. search (rules, tests)))
    ∙ row_from net.mark c.args.mark b b
