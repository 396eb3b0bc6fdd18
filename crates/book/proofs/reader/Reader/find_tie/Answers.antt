use Rattle.std.proofs.Common.{arith}
use Rattle.book.specs.Tables.{names_in}
use Rattle.book.proofs.Table.{names_length}
use Rattle.book.proofs.Steps.{tie_ok, pair_found}
use Rattle.book.proofs.reader.Reader.find_tie.Goals as goal

pub returns : goal.returns
returns c =
    let t = c.args.self.now.names in
    let b = c.args.self.now.book.now in
    let ns = names_in b t in
    let p = c.args.left in
    let q = c.args.right in
    let n = names_length b t t.count in
    let h = pair_found ns p.bytes.now q.bytes.now c.in_ok-u.u c.in_ok-v.v c.in_ok-u.ensures c.in_ok-v.ensures in (
      tie_ok ns p.bytes.now p.at q.bytes.now q.at c.in_ok-u.u c.in_ok-v.v c.in_ok-u.ensures c.in_ok-v.ensures (λ z. omega arith),
      h.0,
      (omega (arith, h.1), omega (arith, h.2), λ z. omega arith),
    )
