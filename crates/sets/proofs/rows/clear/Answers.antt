use Rattle.std.proofs.Common.{refl, arith}
use Rattle.sets.proofs.Members.{empty_has}
use Rattle.sets.proofs.Written.{cleared}
use Rattle.sets.proofs.rows.clear.Goals as goal

pub returns : goal.returns
returns c = cleared c.fill.new.self _ (λ i d l. c.fill.ensures.clones i d (omega (arith, c.fill.ensures.len)) refl) empty_has
