use Rattle.std.proofs.Common.{◌≡◌, ◌∷◌, ap, ◌∙◌, sym}
use Rattle.book.specs.Reading.{empty}
use Rattle.book.specs.Shown.{place_of}
use Rattle.std.proofs.lemmas.Bool.{eqb-true, eqb-false}
use Rattle.book.proofs.Splits.{empty_by, empty_of}
use Rattle.book.proofs.Pieces.{after_cut, halves_place}
use Rattle.book.proofs.LineSteps.{more_words, no_words}
use Rattle.book.proofs.lines.one_word.Goals.{then-is_some-via-then-is_some, then-is_some-via-else-is_some+then-is_empty}
use Rattle.book.proofs.lines.one_word.Goals as goal

pub returns-then-is_some : goal.returns-then-is_some
returns-then-is_some c = λ a e.
    let p = after_cut 32 c.args.rest c.in_ok-rest.field-0 c.cut.result.0 c.cut.result.1 c.in_ok-rest.was c.cut.ensures in
    elim c.then-is_some.branch [
      | then-is_some-via-then-is_some w ↦ (let m = more_words c.cut.result.1 (sym c.is_some.ensures ∙ w.if-is_some.true) in let z = m.2 in cc)
      | then-is_some-via-else-is_some+then-is_empty w ↦ (let q : a ≡ c.cut.result.0.bytes.now = cc in ap empty q ∙ empty_of c.cut.result.0.bytes.now (eqb-true _ _ (sym w.if-is_empty.ensures)))
    ]

pub returns : goal.returns
returns c =
    let p = after_cut 32 c.args.rest c.in_ok-rest.field-0 c.cut.result.0 c.cut.result.1 c.in_ok-rest.was c.cut.ensures in
    record {
      pieces = p ∙ ap (λ x. c.cut.result.0.bytes.now ∷ x) (no_words c.cut.result.1 (sym c.is_some.ensures ∙ c.if-is_some.false));
      some = empty_by c.cut.result.0.bytes.now (eqb-false _ _ (sym c.if-is_empty.ensures));
      place = halves_place 32 c.in_ok-rest.field-0 c.cut.result.0 c.cut.result.1 c.cut.ensures ∙ sym (ap place_of c.in_ok-rest.was);
    }
