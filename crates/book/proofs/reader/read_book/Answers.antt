use Rattle.std.proofs.Common.{◌≡◌, ◌≤◌, [], ◌∷◌, ◌++◌, length, sym, ap, ◌∙◌, subst, arith}
use Rattle.std.proofs.lemmas.Bool.{cond-false, cond-true, ne_eqb, eq-eqb, eqb-true}
use Rattle.std.specs.Option.{option_to_list}
use Rattle.store.specs.Matrices.{bytes_of}
use Rattle.book.specs.Reading.{stations}
use Rattle.book.specs.Shown.{Known, Moved}
use Rattle.book.specs.Pairs.{pairs_of}
use Rattle.book.specs.Tables.{Inside}
use Rattle.book.specs.Drawing.{Tabled, Beyond}
use Rattle.book.proofs.Drawings.{known_all, tabled_more, drawn_beyond, beyond_more}
use Rattle.book.proofs.Steps.{reached_more, reached_ends}
use Rattle.book.proofs.reader.read_book.Goals as goal

pub loop-reader-preserved : goal.loop-reader-preserved
loop-reader-preserved c =
    let inv = c.loop-reader.invariant in
    let above = inv.0 in
    let reached = inv.1 in
    let b = c.args.book.now in
    let reader = c.loop-reader.reader in
    let next = c.next_line.new.self in
    let old = bytes_of c.loop-reader.matrix in
    let h = c.in_ok-tie.ensures.moved in
    let e = h.0 in
    let tie = c.in_ok-tie.tie in
    let moved = subst (λ x. Moved x reader.line reader.rest next.rest reader.names next.names tie e) inv.6 h.1 in
    let known : Known 256 tie = known_all reader.names.count tie reader.inside.few moved.known in
    let long : 8192 ≤ length old = omega (arith, inv.3.long, c.requires.0.long) in
    let pair : option_to_list tie ≡ pairs_of (stations above) e = moved.pair ∙ ap (λ ns. pairs_of ns e) reached.names in (
      above ++ e ∷ [],
      reached_more b reader.names next.names reader.rest next.rest reader.line next.line tie above e reached moved c.in_ok-tie.ensures.line,
      subst (Tabled (above ++ e ∷ [])) (sym c.draw.ensures.drawn) (tabled_more above e tie old known long pair inv.2),
      subst (Beyond (bytes_of c.args.matrix.now)) (sym c.draw.ensures.drawn) (beyond_more _ old _ inv.3 (drawn_beyond tie old known long)),
      c.draw.ensures.stations ∙ inv.4,
      c.draw.ensures.same_area ∙ inv.5,
      ap (λ x. x.now) c.in_ok-tie.ensures.book ∙ inv.6,
    )

pub returns-then-count-eq0-clause-done : goal.returns-then-count-eq0-clause-done
returns-then-count-eq0-clause-done c =
    let inv = c.loop-reader.invariant in
    let reader = c.loop-reader.reader in
    let q = reached_ends c.args.book.now _ reader.names reader.rest reader.line inv.0 inv.1 inv.6 (omega arith) reader.within reader.left (eqb-true _ _ (sym c.loop-reader-test.ensures)) in
    (q ∙ cond-true _ _ _ (eq-eqb reader.names.count 0 (omega arith)), inv.3)

pub returns-clause-done : goal.returns-clause-done
returns-clause-done c =
    let inv = c.loop-reader.invariant in
    let reader = c.loop-reader.reader in
    let q = reached_ends c.args.book.now _ reader.names reader.rest reader.line inv.0 inv.1 inv.6 (omega arith) reader.within reader.left (eqb-true _ _ (sym c.loop-reader-test.ensures)) in
    (inv.0, q ∙ cond-false _ _ _ (ne_eqb reader.names.count 0 (λ e. omega arith)), inv.1.names, subst (λ x. Inside x reader.names) inv.6 reader.inside, inv.2, inv.3)
