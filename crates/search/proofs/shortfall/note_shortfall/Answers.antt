use Rattle.std.proofs.Common.{◌≡◌, ℕ, ◌<◌, not, ◌&&◌, ◌||◌, ◌↔◌, sym, ◌∙◌, subst, ap₂, rules}
use Rattle.std.proofs.lemmas.Bool.{and_parts, and_from}
use Rattle.graph.specs.Graphs.{Graph, Edge}
use Rattle.sets.specs.Sets.{has, size}
use Rattle.sets.specs.Rows.{adj, In, Touched, gaps}
use Rattle.search.proofs.Laying.{Laying, laid, left_falls, all_laid}
use Rattle.search.proofs.shortfall.note_shortfall.Goals as goal

module _ (c : goal.After-note_gaps) where
  abbrev g : Graph
  g = adj c.args.network.now.rows

  is_border : (a : ℕ) → In c.intersection.result a ↔ (Touched g (has c.part_of-part.result) a × Edge g c.args.v a)
  is_border a = (
    λ e.
        let p = and_parts (has c.touching.result a) (has c.neighbours-near.result a) (sym (c.intersection.ensures a) ∙ e) in
        ((c.touching.ensures a).0 p.0, sym (c.neighbours-near.ensures a) ∙ p.1),
    λ p. c.intersection.ensures a ∙ and_from _ _ ((c.touching.ensures a).1 p.0) (c.neighbours-near.ensures a ∙ p.1),
  )

  left_is : (λ x. has c.loop-c.left x && not (has c.part_of-part.result x)) ≡ has c.difference-left.result
  left_is = λ i x. sym (c.difference-left.ensures x) i

  now_is : (λ a b. adj c.loop-c.missing a b || gaps g (has c.intersection.result) a b) ≡ adj c.note_gaps.new.noted
  now_is = λ i a b. sym (c.note_gaps.ensures a b) i

pub loop-c-smaller : goal.loop-c-smaller
loop-c-smaller c =
    subst (λ f. size f 256 < size (has c.loop-c.left) 256) (left_is c)
    (left_falls (g c) (has c.remove.new.self) c.args.v (adj c.loop-c.missing) (has c.loop-c.left) c.loop-c.invariant c.in-Some.c
    c.in-Some.ensures.member (has c.part_of-part.result) (has c.intersection.result) c.part_of-part.ensures (is_border c)
    c.in-Some.ensures.below)

pub loop-c-preserved : goal.loop-c-preserved
loop-c-preserved c =
    subst (λ f. f) (ap₂ (λ n l. Laying (g c) (has c.remove.new.self) c.args.v n l) (now_is c) (left_is c))
    (laid (g c) (has c.remove.new.self) c.args.v (adj c.loop-c.missing) (has c.loop-c.left) c.loop-c.invariant c.in-Some.c
    c.in-Some.ensures.member (has c.part_of-part.result) (has c.intersection.result) c.part_of-part.ensures (is_border c))

pub returns : goal.returns
returns c =
    all_laid c.args.network.now.size c.args.v (adj c.args.network.now.rows) c.args.network.now.simple (has c.remove.new.self) (λ x. search rules)
    (adj c.loop-c.missing) (has c.loop-c.left) c.loop-c.invariant c.in_default.ensures
