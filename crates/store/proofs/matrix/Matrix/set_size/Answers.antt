use Rattle.std.proofs.Common.{◌≡◌, length, refl, rules}
use Rattle.store.specs.Matrices.{size_refusal}
use Rattle.store.proofs.Marks.{resized_net}
use Rattle.store.proofs.matrix.Matrix.set_size.Goals as goal

pub returns-clause-sets_size : goal.returns-clause-sets_size
returns-clause-sets_size c =
    let bytes = c.args.self.now.area.now in
    let passes : size_refusal c.args.n (length bytes) ≡ 0 = search rules in
    (passes, refl, refl, resized_net bytes c.args.n passes)
