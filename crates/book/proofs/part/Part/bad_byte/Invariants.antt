use Rattle.std.proofs.Common.{◌≡◌, ◌+◌, drop}
use Rattle.book.specs.Reading.{bad_spot}
use Rattle.book.proofs.part.Part.bad_byte.Given as goal

abbrev pub invariant-loop-i : goal.invariant-loop-i
invariant-loop-i l = bad_spot l.self.at l.self.bytes.now ≡ bad_spot (l.self.at + l.i) (drop l.i l.self.bytes.now)
