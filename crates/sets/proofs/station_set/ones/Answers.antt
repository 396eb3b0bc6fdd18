use Rattle.std.proofs.Common.{sym, arith}
use Rattle.sets.proofs.Words.{size_bits}
use Rattle.sets.proofs.station_set.ones.Goals as goal

pub returns : goal.returns
returns c = sym (size_bits 64 c.args.word (omega arith))
