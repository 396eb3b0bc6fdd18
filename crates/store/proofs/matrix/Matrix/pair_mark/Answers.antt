use Rattle.std.proofs.Common.{ap₂, ◌∙◌}
use Rattle.store.specs.Matrices.{net_of, bytes_of}
use Rattle.store.proofs.Marks.{mark_ordered, refused_mark}
use Rattle.store.proofs.matrix.Matrix.pair_mark.Goals as goal

pub returns-in_default : goal.returns-in_default
returns-in_default c = refused_mark (bytes_of c.args.self.now) (net_of c.args.self.now).size c.args.u c.args.v c.in_default.field-0 c.in_default.ensures.checks

pub returns : goal.returns
returns c =
    let pair = c.in-Ok.ensures in
    let size = (net_of c.args.self.now).size in
    c.mark_of.ensures ∙ ap₂ (net_of c.args.self.now).mark pair.lower pair.upper ∙ mark_ordered (bytes_of c.args.self.now) size c.args.u c.args.v
