use Rattle.std.proofs.Common.{arith}
use Rattle.sets.proofs.Members.{none_words, lowest_word}
use Rattle.sets.proofs.station_set.StationSet.first.Goals as goal

pub returns-then-word-ne0 : goal.returns-then-word-ne0
returns-then-word-ne0 c = lowest_word c.args.self c.loop-k.k (omega arith) c.loop-k.invariant (omega arith) c.if-word-ne0.true

pub returns : goal.returns
returns c = none_words c.args.self (λ q l. c.loop-k.invariant q (omega arith))
