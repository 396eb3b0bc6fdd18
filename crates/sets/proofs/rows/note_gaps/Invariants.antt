use Rattle.std.proofs.Common.{◌≡◌, ℕ, true}
use Rattle.sets.specs.Sets.{has}
use Rattle.sets.specs.Rows.{adj}
use Rattle.sets.proofs.Gather.{noted}
use Rattle.sets.proofs.rows.note_gaps.Given as goal

abbrev pub invariant-loop-a : goal.invariant-loop-a
invariant-loop-a l =
    ((x : ℕ) → has l.a-iterator.left x ≡ true → has l.border x ≡ true)
    × ((x b : ℕ) → adj l.noted x b ≡ noted (adj l.rows) (adj l.initial.noted) (has l.border) (has l.a-iterator.left) x b)
