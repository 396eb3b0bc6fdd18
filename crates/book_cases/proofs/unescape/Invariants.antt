use Rattle.std.proofs.Common.{length}
use Rattle.book_cases.proofs.unescape.Given as goal

abbrev pub decreases-loop-byte : goal.decreases-loop-byte
decreases-loop-byte l = length l.left
