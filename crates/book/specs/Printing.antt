-- A fault as text.
use Rattle.std.specs.Prelude.{ℕ, List, ◌++◌, codes, decimal}
use Rattle.book.specs.Faults.{Fault}

-- "refused NUMBER line LINE byte BYTE"
abbrev pub fault_text : Fault → List ℕ
fault_text fault =
    (codes "refused " ++ decimal fault.spot.number) ++ (codes " line " ++ decimal fault.line) ++ (codes " byte " ++ decimal fault.spot.byte)
