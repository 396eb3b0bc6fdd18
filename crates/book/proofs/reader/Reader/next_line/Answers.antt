use Rattle.std.proofs.Common.{◌≤◌, length, drop, ◌≡◌, sym, subst, arith}
use Rattle.std.proofs.lemmas.Result.{err_from_is_err_and}
use Rattle.book.specs.Shown.{entry_of, shape_of}
use Rattle.book.specs.Tables.{names_in}
use Rattle.book.proofs.Steps.{line_goes, wrong_stops, shape_stops}
use Rattle.book.proofs.Places.{placed_by, rest_within, rest_left}
use Rattle.book.proofs.reader.Reader.next_line.Goals as goal

pub returns-in_err-l-clause-moved : goal.returns-in_err-l-clause-moved
returns-in_err-l-clause-moved c =
    let p = err_from_is_err_and c.from_residual.result c.from_residual.ensures.1 in
    let h = c.in_err-l.ensures in
    rw (p.1, p.2) (λ above s. wrong_stops c.args.self.now.line _ c.args.self.now.rest _ h.0 c.requires h.1 above)

pub admit-requires : goal.admit-requires
admit-requires c =
    let old = c.args.self.now in
    let shaped = c.in_ok-l.ensures in
    placed_by old.book.now old.rest shaped.line c.in_ok-l.rest c.in_ok-l.l old.within old.left shaped.cut shaped.shape

pub returns-in_err-tie-clause-moved : goal.returns-in_err-tie-clause-moved
returns-in_err-tie-clause-moved c =
    let p = err_from_is_err_and c.from_residual-in_err-tie.result c.from_residual-in_err-tie.ensures.1 in
    let old = c.args.self.now in
    let h = c.in_err-tie.ensures.admitted in
    let shaped = c.in_ok-l.ensures in
    rw (p.1, p.2) (λ above s. shape_stops old.line old.rest shaped.line c.in_ok-l.rest shaped.cut (names_in old.book.now old.names) (shape_of c.in_ok-l.l) _ shaped.shape h.0 h.1 above s)

pub invariant_of-self : goal.invariant_of-self
invariant_of-self c =
    let old = c.args.self.now in
    let shaped = c.in_ok-l.ensures in
    let kept = c.in_ok-tie.ensures.kept in
    let rest = c.in_ok-l.rest in
    record {
      inside = c.admit.new.self.inside;
      within = subst (λ x. rest.at ≤ length x.now) (sym kept.0) (rest_within old.book.now old.rest shaped.line rest old.within old.left shaped.cut);
      left = subst (λ x. rest.bytes.now ≡ drop rest.at x.now) (sym kept.0) (rest_left old.book.now old.rest shaped.line rest old.left shaped.cut);
      counted = omega (arith, kept.2, old.counted, shaped.cut.3);
      small = c.admit.new.self.small;
    }

pub returns-clause-moved : goal.returns-clause-moved
returns-clause-moved c =
    let old = c.args.self.now in
    let l = c.in_ok-l.l in
    let h = c.in_ok-tie.ensures.admitted in
    let shaped = c.in_ok-l.ensures in (
      entry_of l,
      record {
        on = omega (arith, shaped.cut.3);
        names = h.1;
        pair = h.2;
        known = h.3;
        goes = λ above s. line_goes old.line old.rest shaped.line c.in_ok-l.rest shaped.cut (names_in old.book.now old.names) (shape_of l) (entry_of l) shaped.shape h.0 above s;
      },
    )
