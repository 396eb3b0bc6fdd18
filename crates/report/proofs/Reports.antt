-- From what reading promises of the matrix to what the report promises of its areas.
use Rattle.std.proofs.Common.{◌≡◌, ℕ, ◌≤◌, List, length, Ok, Err, Result, sym, ap, ◌∙◌, subst, ap₂, arith}
use Rattle.store.specs.declared.refusal.Refusal.{Refusal}
use Rattle.store.specs.declared.matrix.Matrix.{Matrix}
use Rattle.store.specs.Nets.{Net, count_pairs}
use Rattle.store.specs.Squares.{wiped}
use Rattle.store.specs.Matrices.{bytes_of, net_of}
use Rattle.book.specs.declared.names.Names.{Names}
use Rattle.book.specs.declared.reader.ReadError.{ReadError}
use Rattle.book.specs.declared.reader.ReadError.TheVariants.{Store, Book}
use Rattle.book.specs.Faults.{fault_of}
use Rattle.book.specs.Promise.{Holds, Accepted, Reads}
use Rattle.report.specs.Lines.{accepted_line, Wrote}
use Rattle.report.specs.Promise.{tie_count, Explains, Reported, Reports, accepted, refused}

pub counts_reported : (book area out out' final : List ℕ) (table : Names) (old new : Matrix) (n m written : ℕ) → bytes_of old ≡ area → final ≡ bytes_of new → Accepted book table old new → n ≡ (net_of new).size → m ≡ count_pairs (net_of new).mark 1 (net_of new).size → Wrote (accepted_line n m) out out' written → (text : List ℕ) × Reported book area final text × Wrote text out out' written
counts_reported book area out out' final table old new n m written begin end a size ties w =
    let count = tie_count a.names a.ties in
    let sizes : n ≡ length a.names = size ∙ ap (λ (net : Net). net.size) a.net in
    let counts : m ≡ count = ties ∙ ap (λ (net : Net). count_pairs net.mark 1 net.size) a.net in
    let same : accepted_line n m ≡ accepted_line (length a.names) count = ap₂ accepted_line sizes counts in (
      _,
      accepted a.names a.ties a.follows (subst (λ x. Holds a.names a.ties x final) begin (subst (Holds a.names a.ties (bytes_of old)) (sym end) a.bytes)),
      subst (λ text. Wrote text out out' written) same w,
    )

-- a book that is not read is reported by its fault, since the area is long enough for a store
pub error_reported :
    (book area out out' final : List ℕ) (old new : Matrix) (error : ReadError) (answer : Result ℕ Refusal) → bytes_of old ≡ area → final ≡ bytes_of new →
    8192 ≤ length area → 65536 ≤ length out → Reads book old new (Err error) → Explains error out out' answer → Reports book area final out out' answer
error_reported book area out out' final old new (Book fault) (Ok written) begin end long_area long_out r w =
    (long_area, long_out, (_, refused (fault_of fault) r.1.first r.1.read r.1.none (end ∙ r.1.bytes ∙ ap wiped begin), w))
error_reported book area out out' final old new (Book fault) (Err refusal) begin end long_area long_out r w = absurd w
error_reported book area out out' final old new (Store refusal) answer begin end long_area long_out r w = absurd (omega (arith, ap length begin))
