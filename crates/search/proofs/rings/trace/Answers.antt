use Rattle.std.proofs.Common.{◌≡◌, suc, ◌+◌, ◌-◌, ◌≤◌, true, sym, ap, ◌∙◌, subst, arith}
use Rattle.std.proofs.lemmas.List.{get_or_push}
use Rattle.std.proofs.lemmas.Bool.{both_ways, and_from, and_parts}
use Rattle.graph.specs.Graphs.{at}
use Rattle.sets.specs.Sets.{has}
use Rattle.sets.specs.Rows.{adj}
use Rattle.search.specs.Layers.{level, Traced}
use Rattle.search.proofs.Levels.{marked_level}
use Rattle.search.proofs.Tracing.{traced_more}
use Rattle.search.proofs.rings.trace.Goals as goal

pub unreachable-requires : goal.unreachable-requires
unreachable-requires c =
    let m = c.loop-e.e in
    let e : m ≡ suc (m - 1) = omega arith in
    let md : m ≤ c.args.d = c.loop-e.invariant.3 in
    let layer = marked_level c.args.marks.now (m - 1) (m - 1 + 1) (has c.marked-layer.result) (omega arith) c.marked-layer.ensures in
    let y = c.requires.descends (m - 1) c.loop-e.x (omega arith) (subst (λ k. level c.args.marks.now k c.loop-e.x ≡ true) e c.loop-e.invariant.4) in
    both_ways _ (c.in_default.ensures y.0)
    (c.intersection.ensures y.0
    ∙ and_from _ _ (c.neighbours.ensures y.0 ∙ c.args.network.now.simple.symmetric _ _ y.2) (layer y.0 ∙ y.1))

pub loop-e-preserved : goal.loop-e-preserved
loop-e-preserved c =
    let m = c.loop-e.e in
    let d = c.args.d in
    let i = c.loop-e.invariant in
    let ring = c.loop-e.ring.items in
    let y = c.in-Some.y in
    let md : m ≤ d = i.3 in
    let both = and_parts (has c.neighbours.result y) (has c.marked-layer.result y) (sym (c.intersection.ensures y) ∙ c.in-Some.ensures.member) in
    let layer = marked_level c.args.marks.now (m - 1) (m - 1 + 1) (has c.marked-layer.result) (omega arith) c.marked-layer.ensures in
    let l : level c.args.marks.now (m - 1) y ≡ true = sym (layer y) ∙ both.1 in
    let long = i.0.long in
    let t = traced_more (adj c.args.network.now.rows) (level c.args.marks.now) c.args.v c.args.a d m (m - 1) ring c.loop-e.x y i.0 (omega arith) md i.1
    (sym (c.neighbours.ensures y) ∙ both.0) l in (
      subst (λ xs. Traced (adj c.args.network.now.rows) (level c.args.marks.now) c.args.v c.args.a d (m - 1) xs) (sym c.push-in-loop-e.ensures.items) t,
      ap (λ xs. at xs (suc (d - (m - 1)))) c.push-in-loop-e.ensures.items ∙ get_or_push ring y 0 (suc (d - (m - 1))) (omega arith),
      c.in-Some.ensures.below,
      omega arith,
      l,
    )
