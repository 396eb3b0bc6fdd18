-- What reading a field book into a matrix promises.
use Rattle.std.specs.Prelude.{◌≡◌, ℕ, ◌<◌, ◌≤◌, cond, List, length, drop, Ok, Err, Result}
use Rattle.store.specs.declared.refusal.Refusal.{Refusal}
use Rattle.store.specs.declared.matrix.Matrix.{Matrix}
use Rattle.store.specs.Nets.{Net}
use Rattle.store.specs.Refusals.{number}
use Rattle.store.specs.Squares.{bit, wiped}
use Rattle.store.specs.Matrices.{counted, empty_net, bytes_of, net_of}
use Rattle.book.specs.declared.faults.BookFault.{BookFault}
use Rattle.book.specs.declared.names.Names.{Names}
use Rattle.book.specs.declared.reader.ReadError.{ReadError}
use Rattle.book.specs.declared.reader.ReadError.TheVariants.{Store, Book}
use Rattle.book.specs.Faults.{Fault, fault_of}
use Rattle.book.specs.Grammar.{Name, FieldBook, Networked, tied}
use Rattle.book.specs.Reading.{reading}
use Rattle.book.specs.FirstFault.{FirstFault}
use Rattle.book.specs.Tables.{names_in, Inside}

-- the network of a field book: its stations, its ties, no fill, and room for each pair that is not tied
abbrev pub network_of : List Name → List (Name × Name) → Net
network_of names ties = counted (length names) (λ u v. cond (tied names ties u v) 1 0)

-- an area that holds the ties: both bits of each tied pair are 1 and all others of the square 0; later bytes as they were
pub record Holds (names : List Name) (ties : List (Name × Name)) (old new : List ℕ) : Type 0 where
  pub bits : (u v : ℕ) → u < 256 → v < 256 → bit new u v ≡ cond (tied names ties u v) 1 0
  pub long : length new ≡ length old
  pub later : drop 8192 new ≡ drop 8192 old

-- Accepted: the book is a field book, of these names and ties alone, and has no fault; the matrix is its network, and the table has its names.
pub record Accepted (book : List ℕ) (table : Names) (old new : Matrix) : Type 0 where
  pub names : List Name
  pub ties : List (Name × Name)
  pub follows : FieldBook book names ties
  pub alone : (ns : List Name) (ts : List (Name × Name)) → FieldBook book ns ts → (ns ≡ names) × (ts ≡ ties)
  pub faultless : (f : Fault) → FirstFault book f → ⊥
  pub network : Networked names ties
  pub net : net_of new ≡ network_of names ties
  pub bytes : Holds names ties (bytes_of old) (bytes_of new)
  pub listed : names_in book table ≡ names
  pub inside : Inside book table

-- Refused: the book is no field book, and the fault is its first, the only one; the matrix keeps its size and has no pair.
pub record Rejected (book : List ℕ) (fault : BookFault) (old new : Matrix) : Type 0 where
  pub first : FirstFault book (fault_of fault)
  pub only : (f : Fault) → FirstFault book f → f ≡ fault_of fault
  pub read : reading book ≡ Err (fault_of fault)
  pub none : (ns : List Name) (ts : List (Name × Name)) → FieldBook book ns ts → ⊥
  pub net : net_of new ≡ empty_net (net_of old).size
  pub bytes : bytes_of new ≡ wiped (bytes_of old)

-- a store's refusal as the reader's
abbrev pub of_store : Refusal → ReadError
of_store refusal = Store refusal

-- a book's fault as the reader's
abbrev pub of_book : BookFault → ReadError
of_book fault = Book fault

-- `read`: the book is accepted or refused in an area of 8,192 bytes or more; a shorter one is refused by 9, and all is as it was
abbrev pub Reads : List ℕ → Matrix → Matrix → Result Names ReadError → Type 0
Reads book old new (Ok table) = (8192 ≤ length (bytes_of old)) × Accepted book table old new
Reads book old new (Err (Book fault)) = (8192 ≤ length (bytes_of old)) × Rejected book fault old new
Reads book old new (Err (Store refusal)) = (length (bytes_of old) < 8192) × (number refusal ≡ 9) × (new ≡ old)
