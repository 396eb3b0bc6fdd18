use Rattle.std.proofs.Common.{◌≡◌, ℕ, ◌-◌, ◌<◌, List, [], ◌∷◌, ◌++◌, length, get_or, sym, refl, ◌∙◌, subst, arith, reverse}
use Rattle.std.proofs.lemmas.Bool.{false≢true}
use Rattle.std.proofs.lemmas.Iterator.Adapters.{YieldsList-from_rev_slice}
use Rattle.std.proofs.lemmas.Iterator.Consumers.{YieldsList-turn}
use Rattle.std.proofs.lemmas.List.{get_or-reverse, get_or_default, length-reverse, length_push}
use Rattle.graph.specs.Graphs.{at}
use Rattle.sets.specs.Sets.{has}
use Rattle.sets.specs.Rows.{adj}
use Rattle.search.proofs.Cliques.{Seen, seen_more, clique_by}
use Rattle.search.proofs.perfect.is_perfect.Goals as goal

-- the entry at a place from the back
from_back : (o : List ℕ) (k v : ℕ) → (k < length (reverse o)) × (v ≡ get_or (reverse o) k v) → (k < length o) × (at o (length o - 1 - k) ≡ v)
from_back o k v h =
    let n = length-reverse o in
    let l : k < length o = omega (arith, h.0) in
    (l, sym (h.1 ∙ get_or-reverse o k v l ∙ get_or_default o (length o - 1 - k) v 0 (omega arith)))

pub returns-then-not-is_clique : goal.returns-then-not-is_clique
returns-then-not-is_clique c =
    let n = c.args.network.now.size in
    let o = c.args.order.now in
    let turn = YieldsList-turn (YieldsList-from_rev_slice o cc) c.loop-v.yielded _ c.loop-v.yielded_by _ _ c.in-Some.field-0 c.in-Some.is c.next.ensures.steps in
    let here = from_back o (length c.loop-v.yielded) c.in-Some.field-0.now turn in
    let full = c.requires.full in (
      λ e. absurd (false≢true e),
      λ perfect.
          absurd (false≢true (c.if-not-is_clique.ensures.1
          (clique_by n (adj c.args.network.now.rows) o c.requires (n - length c.loop-v.yielded) (length o - 1 - length c.loop-v.yielded) (has c.loop-v.later)
          (has c.neighbours.result) (has c.intersection.result) _ c.loop-v.invariant (omega (arith, here.0)) (omega (arith, here.0)) here.1 c.neighbours.ensures
          c.intersection.ensures perfect))),
    )

pub loop-v-preserved : goal.loop-v-preserved
loop-v-preserved c =
    let n = c.args.network.now.size in
    let o = c.args.order.now in
    let g = adj c.args.network.now.rows in
    let turn = YieldsList-turn (YieldsList-from_rev_slice o cc) c.loop-v.yielded _ c.loop-v.yielded_by _ _ c.in-Some.field-0 c.in-Some.is c.next.ensures.steps in
    let here = from_back o (length c.loop-v.yielded) c.in-Some.field-0.now turn in
    let full = c.requires.full in
    let e : length o - 1 - length c.loop-v.yielded ≡ n - length (c.loop-v.yielded ++ c.in-Some.field-0 ∷ []) =
    omega (arith, here.0, length_push c.loop-v.yielded c.in-Some.field-0) in
    subst (λ m. Seen n m g o (has c.insert.new.self)) e
    (seen_more n g o c.requires (n - length c.loop-v.yielded) (length o - 1 - length c.loop-v.yielded) (has c.loop-v.later)
    (has c.insert.new.self) (has c.neighbours.result) (has c.intersection.result) _ c.loop-v.invariant (omega (arith, here.0)) (omega (arith, here.0)) here.1
    c.neighbours.ensures c.intersection.ensures (c.if-not-is_clique.ensures.0 refl) c.insert.ensures.members)
