use Rattle.std.proofs.Common.{◌≡◌, List, length}
use Rattle.store.specs.Matrices.{bytes_of}
use Rattle.book.specs.Reading.{Entry}
use Rattle.book.specs.Drawing.{Tabled, Beyond}
use Rattle.book.proofs.Steps.{Reached}
use Rattle.book.proofs.reader.read_book.Given as goal

abbrev pub invariant-loop-reader : goal.invariant-loop-reader
invariant-loop-reader l =
    (above : List Entry) × Reached l.book l.reader.names l.reader.rest l.reader.line above × Tabled above (bytes_of l.matrix) × Beyond (bytes_of l.initial.matrix) (bytes_of l.matrix)
    × (l.matrix.n ≡ l.initial.matrix.n) × (l.matrix.area.ghost_name ≡ l.initial.matrix.area.ghost_name) × (l.reader.book.now ≡ l.book)

abbrev pub decreases-loop-reader : goal.decreases-loop-reader
decreases-loop-reader l = length l.reader.rest.bytes.now
