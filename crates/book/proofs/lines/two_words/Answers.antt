use Rattle.std.proofs.Common.{[], ◌≡◌, ◌∷◌, ap, ◌∙◌, sym}
use Rattle.book.specs.Reading.{empty}
use Rattle.book.specs.Shown.{pieces_of, place_of}
use Rattle.std.proofs.lemmas.Bool.{or_right, eqb-false}
use Rattle.book.proofs.Splits.{empty_by}
use Rattle.book.proofs.Pieces.{after_cut, after_place, halves_place}
use Rattle.book.proofs.lines.two_words.Goals as goal

pub returns-in_err-right : goal.returns-in_err-right
returns-in_err-right c =
    let p = after_cut 32 c.args.rest c.in_ok-rest.field-0 c.cut.result.0 c.cut.result.1 c.in_ok-rest.was c.cut.ensures in
    rw c.from_residual-in_err-right.ensures (λ a b e. or_right (empty a) (empty b) (let q : pieces_of 32 c.cut.result.1 ≡ b ∷ [] = cc in c.in_err-right.ensures b q))

pub returns : goal.returns
returns c =
    let p = after_cut 32 c.args.rest c.in_ok-rest.field-0 c.cut.result.0 c.cut.result.1 c.in_ok-rest.was c.cut.ensures in
    let h = c.in_ok-right.ensures in
    record {
      pieces = p ∙ ap (λ x. c.cut.result.0.bytes.now ∷ x) h.pieces;
      left = empty_by c.cut.result.0.bytes.now (eqb-false _ _ (sym c.if-is_empty.ensures));
      right = h.some;
      place = halves_place 32 c.in_ok-rest.field-0 c.cut.result.0 c.cut.result.1 c.cut.ensures ∙ sym (ap place_of c.in_ok-rest.was);
      after = h.place ∙ after_place 32 c.in_ok-rest.field-0 c.cut.result.0 c.cut.result.1 _ _ c.cut.ensures h.pieces;
    }
