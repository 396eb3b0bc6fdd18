use Rattle.std.proofs.Common.{ap, ◌∙◌, arith}
use Rattle.sets.specs.Rows.{adj}
use Rattle.store.specs.Nets.{standing}
use Rattle.search.specs.Searches.{SearchMade}
use Rattle.search.specs.Strips.{fronted}
use Rattle.search.proofs.Standing.{moved}
use Rattle.search.proofs.judging.search.Goals as goal

pub returns-clause-searches : goal.returns-clause-searches
returns-clause-searches g c =
    let net = g.S.Store.meaning c.args.store.now in
    let network = c.of in
    let order = c.place_all-order.result.items in (
      omega arith,
      omega arith,
      (
        order,
        moved (λ n h. SearchMade g.L.Label.BLANK g.L.Label.raised g.L.Label.less n h order c.args.labels.now c.place_all-order.new.labels)
            network.result.size net.size (adj network.result.rows) (standing net) network.ensures.size network.ensures.edges c.place_all-order.ensures,
        c.put_front.ensures ∙ ap (λ xs. fronted xs c.args.strip.now) c.as_slice.ensures.value,
      ),
    )
