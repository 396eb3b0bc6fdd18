use Rattle.std.proofs.Common.{◌≤◌, length, ◌∙◌, arith}
use Rattle.store.specs.Matrices.{bytes_of}
use Rattle.store.specs.MatrixLaws.{matrix_lawful}
use Rattle.store.proofs.Checks.{size_fits, size_passes, number_some}
use Rattle.book.proofs.Promises.{ready, still_beyond, count_is, accepted, rejected}
use Rattle.book.proofs.Grammars.{reading_book}
use Rattle.book.proofs.Networks.{networked}
use Rattle.book.proofs.reader.read.Goals as goal

-- the area has its 8,192 bytes once the first `make` is passed
long : (c : goal.After-read_book-arg-1) → 8192 ≤ length (bytes_of c.args.matrix.now)
long c = (size_fits 256 (length (bytes_of c.args.matrix.now)) c.in_ok-make.ensures.makes.0).long

pub read_book-requires : goal.read_book-requires
read_book-requires c =
    let made = c.in_ok-make.ensures.makes in
    ready c.args.matrix.now c.make.new.self (long c) made.1 made.2

pub returns-in_err-set_size-in-Ok : goal.returns-in_err-set_size-in-Ok
returns-in_err-set_size-in-Ok c =
    let old = c.args.matrix.now in
    let made = c.in_ok-make.ensures.makes in
    let wide = (size_fits 256 (length (bytes_of old)) made.0).long in
    let done = c.in-Ok.ensures.done in
    let far = still_beyond old c.make.new.self c.read_book.new.matrix wide made.1 done.5 in
    let net = networked c.args.book.now _ _ (reading_book c.args.book.now done.0 done.1) in
    let count = count_is c.args.book.now c.in-Ok.names c.make.new.self c.read_book.new.matrix done in
    let refused = c.in_err-set_size-in-Ok.ensures.sets_size.0 in
    absurd (number_some _ (refused ∙ size_passes c.count.result (length (bytes_of c.read_book.new.matrix)) (omega (arith, net.some)) (omega (arith, net.few)) (omega (arith, far.long))))

pub returns-in_err-make-in-Err : goal.returns-in_err-make-in-Err
returns-in_err-make-in-Err c =
    let old = c.args.matrix.now in
    let made = c.in_ok-make.ensures.makes in
    let wide = (size_fits 256 (length (bytes_of old)) made.0).long in
    let done = c.in-Err.ensures.done in
    let far = still_beyond old c.make.new.self c.read_book.new.matrix wide made.1 done.1 in
    let law = matrix_lawful (bytes_of old) old.n in
    let refused = c.in_err-make-in-Err.ensures.makes.0 in
    absurd (number_some _ (refused ∙ size_passes c.size-size.result (length (bytes_of c.read_book.new.matrix)) (omega (arith, law.some)) (omega (arith, law.most)) (omega (arith, far.long))))

pub returns-in_ok-set_size-in-Ok-clause-reads : goal.returns-in_ok-set_size-in-Ok-clause-reads
returns-in_ok-set_size-in-Ok-clause-reads c =
    let old = c.args.matrix.now in
    let made = c.in_ok-make.ensures.makes in
    let wide = (size_fits 256 (length (bytes_of old)) made.0).long in
    let done = c.in-Ok.ensures.done in
    (wide, accepted c.args.book.now c.in-Ok.names old c.make.new.self c.read_book.new.matrix c.set_size.new.self wide made.1 done c.count.result c.count.ensures c.in_ok-set_size-in-Ok.ensures.sets_size)

pub returns-in_ok-make-in-Err-clause-reads : goal.returns-in_ok-make-in-Err-clause-reads
returns-in_ok-make-in-Err-clause-reads c =
    let old = c.args.matrix.now in
    let made = c.in_ok-make.ensures.makes in
    let wide = (size_fits 256 (length (bytes_of old)) made.0).long in
    let done = c.in-Err.ensures.done in
    rw c.into.ensures (wide, rejected c.args.book.now c.in-Err.fault old c.make.new.self c.read_book.new.matrix c.make-in-Err.new.self wide made.1 done c.size-size.result c.size-size.ensures c.in_ok-make-in-Err.ensures.makes)
