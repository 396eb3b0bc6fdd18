use Rattle.std.proofs.Common.{◌||◌, eqb, ap, ◌∙◌, arith}
use Rattle.sets.specs.Sets.{has}
use Rattle.sets.proofs.Upto.{joins, skips}
use Rattle.store.specs.Nets.{standing}
use Rattle.search.proofs.Standing.{stands, absent}
use Rattle.search.proofs.network.row_of.Goals as goal
use Rattle.search.proofs.network.row_of.Goals.{then-mark-gt0, else-mark-gt0}

pub loop-b-preserved : goal.loop-b-preserved
loop-b-preserved g c x =
    let net = g.S.Store.meaning c.args.store.now in
    let lawful = g.S.Store.lawful c.args.store.now in
    let a = c.args.a in
    let b = c.loop-b.b in
    let e = c.mark.ensures in
    elim c.if-mark-gt0.branch [
      | then-mark-gt0 w ↦
          ap (λ s. has s x) w.neighbours-is
          ∙ w.insert.ensures.members x
          ∙ ap (λ t. eqb x b || t) (c.loop-b.invariant x)
          ∙ joins (standing net a) b x (stands net lawful a b (omega arith))
      | else-mark-gt0 w ↦
          ap (λ s. has s x) w.neighbours-is ∙ c.loop-b.invariant x ∙ skips (standing net a) b x (absent net a b (omega arith))
    ]
