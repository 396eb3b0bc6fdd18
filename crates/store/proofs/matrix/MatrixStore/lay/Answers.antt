use Rattle.std.proofs.Common.{◌≡◌, min, max, ap, ◌∙◌, arith}
use Rattle.store.specs.Squares.{raised, lowered}
use Rattle.store.specs.Matrices.{matrix_net, net_of}
use Rattle.store.proofs.Checks.{two_stations, pair_long}
use Rattle.store.proofs.Marks.{laid_net, free_allowed}
use Rattle.store.proofs.matrix.MatrixStore.lay.Goals as goal

pub returns-clause-lays : goal.returns-clause-lays
returns-clause-lays c =
    let old = c.args.self.now.area.now in
    let n = c.args.self.now.n in
    let u = c.args.u in
    let v = c.args.v in
    let pair = c.in_ok-pair.ensures in
    let two = two_stations (net_of c.args.self.now).size u v pair.checks in
    let ne = two.differ in
    let free : (net_of c.args.self.now).mark u v ≡ 0 = omega arith in
    let bytes : c.set-2.new.area ≡ lowered (raised old (min u v) (max u v)) (max u v) (min u v) = cc in
    (free_allowed old n u v two.one two.other ne free, ap (λ x. matrix_net x n) bytes ∙ laid_net old n u v (pair_long _ _ _ _ pair.checks) two.one two.other ne free)
