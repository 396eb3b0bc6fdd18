use Rattle.std.proofs.Common.{◌≡◌, drop, length, refl, sym, ap, ◌∙◌, subst, arith, rules}
use Rattle.std.proofs.lemmas.Bool.{false≢true}
use Rattle.graph.specs.Graphs.{Perfect}
use Rattle.sets.specs.Rows.{adj}
use Rattle.search.specs.declared.judging.Verdict.TheVariants.{Chordal, Ring}
use Rattle.search.specs.Strips.{zeroed, fronted}
use Rattle.search.proofs.Verdicts.{not_chordal, chordal_says, ring_says, judged, zeroed_same}
use Rattle.search.proofs.judging.judge.Goals as goal

pub returns-then-is_perfect-clause-judges : goal.returns-then-is_perfect-clause-judges
returns-then-is_perfect-clause-judges g c =
    let network = c.of-network in
    let made = c.place_all-order.ensures in
    let e : zeroed c.over-guard.result.strip.now ≡ zeroed c.args.marks.now = ap zeroed c.over-guard.ensures.bytes in
    let says = chordal_says c.args.strip.now c.put_front.new.strip network.result.simple made.searched.order
    (subst (Perfect network.result.size (adj network.result.rows)) c.as_slice.ensures.value (c.if-is_perfect.ensures.0 refl))
    (c.put_front.ensures ∙ ap (λ xs. fronted xs c.args.strip.now) c.as_slice-then-is_perfect.ensures.value) in (
      omega arith,
      omega arith,
      omega arith,
      search rules,
      judged c.place_all-order.result.items c.args.strip.now c.put_front.new.strip c.args.labels.now c.place_all-order.new.labels Chordal
          network.ensures.size network.ensures.edges made says,
    )

pub find_ring-ring-requires-clause-ringed : goal.find_ring-ring-requires-clause-ringed
find_ring-ring-requires-clause-ringed g c =
    not_chordal g.met.L.Label.laws (omega arith) c.of-network.result.simple c.place_all-order.ensures.searched
    (λ perfect. false≢true (c.if-is_perfect.ensures.1 (subst (Perfect c.of-network.result.size (adj c.of-network.result.rows)) (sym c.as_slice.ensures.value) perfect)))

pub returns-clause-judges : goal.returns-clause-judges
returns-clause-judges g c =
    let network = c.of-network in
    let order = c.place_all-order.result.items in
    let ring = c.find_ring-ring in
    let e : zeroed ring.new.marks ≡ zeroed c.args.marks.now =
    zeroed_same ring.new.marks c.args.marks.now (omega (arith, ap length c.over-guard.ensures.bytes))
    (ring.ensures.rest ∙ ap (drop 256) c.over-guard.ensures.bytes) in
    let says = ring_says order c.args.strip.now c.put_front-2.new.strip ring.result.items _ c.len-length.ensures.value c.len-length.ensures.fits ring.ensures.ring
    (c.put_front-2.ensures ∙ ap (λ xs. fronted xs c.args.strip.now) c.as_slice-2.ensures.value) in (
      omega arith,
      omega arith,
      omega arith,
      search rules,
      judged order c.args.strip.now c.put_front-2.new.strip c.args.labels.now c.place_all-order.new.labels (Ring c.len-length.result)
          network.ensures.size network.ensures.edges c.place_all-order.ensures says,
    )
