use Rattle.std.proofs.Common.{refl, arith}
use Rattle.search.proofs.Marking.{zero_front}
use Rattle.search.proofs.marks.zero.Goals as goal

pub returns : goal.returns
returns c = zero_front c.args.strip.now c.fill.new.self _ c.min-end.result (omega arith) (c.fill.ensures.after (λ y h. h)) refl
