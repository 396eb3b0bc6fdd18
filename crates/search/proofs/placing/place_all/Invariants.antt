use Rattle.sets.specs.Sets.{has}
use Rattle.sets.specs.Rows.{adj}
use Rattle.search.proofs.Filled.{Found}
use Rattle.search.proofs.placing.place_all.Given as goal

abbrev pub invariant-loop-p : goal.invariant-loop-p
invariant-loop-p g l =
    Found g.L.Label.BLANK g.L.Label.raised g.L.Label.less l.network.size l.p (adj l.network.rows) l.entries (has l.unplaced) l.initial.labels l.labels
