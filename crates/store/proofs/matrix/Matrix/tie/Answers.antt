use Rattle.std.proofs.Common.{◌≡◌, min, max, length, refl, ap, ◌∙◌, arith}
use Rattle.store.specs.Squares.{raised}
use Rattle.store.specs.Matrices.{matrix_net, net_of}
use Rattle.store.specs.MatrixLaws.{size_most}
use Rattle.store.proofs.Squares.{raised_both}
use Rattle.store.proofs.Checks.{two_stations, pair_long}
use Rattle.store.proofs.Marks.{tied_net}
use Rattle.store.proofs.matrix.Matrix.tie.Goals as goal

pub returns-clause-ties : goal.returns-clause-ties
returns-clause-ties c =
    let old = c.args.self.now.area.now in
    let n = c.args.self.now.n in
    let u = c.args.u in
    let v = c.args.v in
    let pair = c.in_ok-pair.ensures in
    let most = size_most (length old) n in
    let two = two_stations (net_of c.args.self.now).size u v pair.checks in
    let ne = two.differ in
    let set : c.set-2.new.area ≡ raised (raised old (min u v) (max u v)) (max u v) (min u v) = cc in
    let bytes = set ∙ raised_both old u v (omega arith) (omega arith) ne in
    (pair.checks, bytes, refl, ap (λ x. matrix_net x n) bytes ∙ tied_net old n u v (pair_long _ _ _ _ pair.checks) two.one two.other ne)
