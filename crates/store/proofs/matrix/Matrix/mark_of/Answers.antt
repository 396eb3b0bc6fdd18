use Rattle.std.proofs.Common.{true, false, refl, arith}
use Rattle.store.specs.Matrices.{net_of, bytes_of}
use Rattle.store.proofs.Checks.{pair_passes}
use Rattle.store.proofs.Marks.{mark_read}
use Rattle.store.proofs.matrix.Matrix.mark_of.Goals as goal

pub returns-then-not-is_set : goal.returns-then-not-is_set
returns-then-not-is_set c =
    let pair = c.args.pair in
    let size = (net_of c.args.self.now).size in
    let passes = pair_passes size pair.lower pair.upper (omega arith) (omega arith) (λ e. omega arith) in
    mark_read (bytes_of c.args.self.now) size pair.lower pair.upper pair.lower pair.upper 0 false _ passes (omega arith) (omega arith) (cc) refl refl

pub returns-then-is_set : goal.returns-then-is_set
returns-then-is_set c =
    let pair = c.args.pair in
    let size = (net_of c.args.self.now).size in
    let passes = pair_passes size pair.lower pair.upper (omega arith) (omega arith) (λ e. omega arith) in
    mark_read (bytes_of c.args.self.now) size pair.lower pair.upper pair.lower pair.upper 1 true true passes (omega arith) (omega arith) (cc) (cc) refl

pub returns-else-is_set : goal.returns-else-is_set
returns-else-is_set c =
    let pair = c.args.pair in
    let size = (net_of c.args.self.now).size in
    let passes = pair_passes size pair.lower pair.upper (omega arith) (omega arith) (λ e. omega arith) in
    mark_read (bytes_of c.args.self.now) size pair.lower pair.upper pair.lower pair.upper 2 true false passes (omega arith) (omega arith) (cc) (cc) refl
