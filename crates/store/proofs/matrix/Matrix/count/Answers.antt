use Rattle.std.proofs.Common.{ℕ, length, rules, tests, ◌∙◌, arith}
use Rattle.std.proofs.lemmas.Iterator.{YieldsList-from_range, YieldsList-from_map, serves_from_Range}
use Rattle.std.proofs.lemmas.Iterator.Consumers.{sum_by_from_yields_List, fits_by_from_yields_list}
use Rattle.std.specs.List.{range_with_len}
use Rattle.store.specs.Nets.{count_in_row}
use Rattle.store.specs.Matrices.{net_of}
use Rattle.store.specs.MatrixLaws.{size_most, pairs_most}
use Rattle.store.proofs.Counts.{pairs_from}
use Rattle.store.proofs.matrix.Matrix.count.Goals as goal

pub sum-requires-clause-can : goal.sum-requires-clause-can
sum-requires-clause-can c =
    let few = size_most (length c.args.self.now.area.now) c.args.self.now.n in
    (tt, serves_from_Range (λ x q k. search (rules, tests)) (λ x low high. search rules))

pub sum-requires-clause-fits : goal.sum-requires-clause-fits
sum-requires-clause-fits c =
    let net = net_of c.args.self.now in
    let row = λ (b : ℕ). count_in_row net.mark c.args.mark b b in
    let few = size_most (length c.args.self.now.area.now) c.args.self.now.n in
    let most = pairs_most net.mark c.args.mark net.size few in
    fits_by_from_yields_list row (range_with_len 0 net.size) c.map.result _
    (YieldsList-from_map _ row (YieldsList-from_range 0 _ net.size c.map.ensures.source (omega arith)) c.map.ensures.closure (λ x r q k. search (rules, tests)))
    (omega (arith, pairs_from net.mark c.args.mark net.size))

pub returns : goal.returns
returns c =
    let net = net_of c.args.self.now in
    let row = λ (b : ℕ). count_in_row net.mark c.args.mark b b in
    sum_by_from_yields_List row (range_with_len 0 net.size) _ _ c.sum.ensures.ran
    (YieldsList-from_map _ row (YieldsList-from_range 0 _ net.size c.map.ensures.source (omega arith)) c.map.ensures.closure (λ x r q k. search (rules, tests)))
    ∙ pairs_from net.mark c.args.mark net.size
