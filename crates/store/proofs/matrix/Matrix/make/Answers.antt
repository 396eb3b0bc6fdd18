use Rattle.std.proofs.Common.{◌≡◌, ap, ◌∙◌, ap₂}
use Rattle.store.specs.Squares.{wiped}
use Rattle.store.specs.Matrices.{matrix_net}
use Rattle.store.proofs.Marks.{wiped_net}
use Rattle.store.proofs.matrix.Matrix.make.Goals as goal

pub returns-clause-makes : goal.returns-clause-makes
returns-clause-makes c =
    let sets = c.in_ok-set_size.ensures.sets_size in
    let old = c.args.self.now.area.now in
    let bytes : c.wipe.new.area ≡ wiped old = c.wipe.ensures ∙ ap wiped sets.1 in
    (sets.0, bytes, sets.2, ap₂ matrix_net bytes sets.2 ∙ wiped_net old c.args.n sets.0)
