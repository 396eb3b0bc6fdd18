-- What the report promises.
use Rattle.std.specs.Prelude.{◌≡◌, ℕ, ◌<◌, ◌≤◌, cond, ◌⊎◌, List, ◌++◌, length, take, Ok, Err, IsOkAnd, Result}
use Rattle.store.specs.declared.refusal.Refusal.{Refusal}
use Rattle.store.specs.Nets.{count_pairs}
use Rattle.store.specs.Refusals.{number, refused_text}
use Rattle.store.specs.Squares.{wiped}
use Rattle.book.specs.declared.reader.ReadError.{ReadError}
use Rattle.book.specs.declared.reader.ReadError.TheVariants.{Store, Book}
use Rattle.book.specs.Faults.{Fault, fault_of}
use Rattle.book.specs.FirstFault.{FirstFault}
use Rattle.book.specs.Grammar.{Name, FieldBook, tied}
use Rattle.book.specs.Printing.{fault_text}
use Rattle.book.specs.Promise.{Holds}
use Rattle.book.specs.Reading.{reading}
use Rattle.report.specs.Lines.{newline, accepted_line, Wrote}

-- how many pairs of stations a field book ties
abbrev pub tie_count : List Name → List (Name × Name) → ℕ
tie_count names ties = count_pairs (λ u v. cond (tied names ties u v) 1 0) 1 (length names)

-- the line of a refused book: the text that its fault prints as, and the end of the line
abbrev pub fault_line : Fault → List ℕ
fault_line fault = fault_text fault ++ newline

-- why a book is not read, as an answer: a fault by its line at the start of the output, and the store's refusal as it is
abbrev pub Explains : ReadError → List ℕ → List ℕ → Result ℕ Refusal → Type 0
Explains (Book fault) out out' answer = IsOkAnd answer (Wrote (fault_line (fault_of fault)) out out')
Explains (Store refusal) out out' answer = (answer ≡ Err refusal) × (out' ≡ out)

-- The text for a book, and its matrix area before and after: a field book's counts, with its ties in the area; or the first
-- fault of a book that is none, with 8,192 zero bytes.
pub data Reported (book old new : List ℕ) : List ℕ → Type 0 where
  accepted : (names : List Name) (ties : List (Name × Name)) → FieldBook book names ties → Holds names ties old new → Reported book old new (accepted_line (length names) (tie_count names ties))
  refused : (fault : Fault) → FirstFault book fault → reading book ≡ Err fault → ((names : List Name) (ties : List (Name × Name)) → FieldBook book names ties → ⊥) → new ≡ wiped old → Reported book old new (fault_line fault)

-- `report`: the text at the start of the output, and its length; or, where an area is too short, 9, and both areas as they were
abbrev pub Reports : List ℕ → List ℕ → List ℕ → List ℕ → List ℕ → Result ℕ Refusal → Type 0
Reports book area area' out out' (Ok written) =
    (8192 ≤ length area) × (65536 ≤ length out) × ((text : List ℕ) × Reported book area area' text × Wrote text out out' written)
Reports book area area' out out' (Err refusal) =
    ((length area < 8192) ⊎ (length out < 65536)) × (number refusal ≡ 9) × (area' ≡ area) × (out' ≡ out)

-- an answer as it is printed: as many bytes of the text as it counts, or "refused NUMBER" and the end of the line
abbrev pub answer_text : List ℕ → Result ℕ Refusal → List ℕ
answer_text text (Ok written) = take written text
answer_text text (Err refusal) = refused_text refusal ++ newline
