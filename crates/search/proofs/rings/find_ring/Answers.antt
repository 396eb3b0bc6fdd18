use Rattle.std.proofs.Common.{ℕ, ◌<◌, arith}
use Rattle.std.proofs.lemmas.List.{drop_at}
use Rattle.graph.specs.Graphs.{Graph, Simple, Free, Short}
use Rattle.graph.proofs.Rings.{chordal_iff}
use Rattle.graph.proofs.Walks.{short}
use Rattle.sets.specs.Sets.{has}
use Rattle.sets.specs.Rows.{adj}
use Rattle.search.proofs.Tracing.{ring_made}
use Rattle.search.proofs.Ways.{Passable, passable}
use Rattle.search.proofs.rings.find_ring.Goals as goal
use Rattle.search.proofs.rings.find_ring.Goals.{After-insert, at-mark_layers-d-requires, at-trace-requires-clause-few, at-returns-clause-ring}

-- vertices outside have no shortfall
all_free : {n : ℕ} {g : Graph} → Simple n g → ((x : ℕ) → x < n → Free g x) → (x : ℕ) → Free g x
all_free s f x a b h = f x (s.within _ _ (s.symmetric _ _ h.left.0)) a b h

module _ (c : After-insert) where
  lacking : Short (adj c.args.network.now.rows) c.in-Some.v c.in-Some.a c.in-Some.b
  lacking = short c.args.network.now.simple c.in-Some.ensures

  way : Passable c.args.network.now.size (adj c.args.network.now.rows) c.in-Some.v c.in-Some.a c.in-Some.b (has c.insert.new.self)
  way =
      passable c.args.network.now.simple lacking (has c.insert.new.self) (has c.remove.new.self) (has c.difference-within.result) (has c.stations.result)
      (has c.neighbours.result) c.insert.ensures.members c.remove.ensures c.difference-within.ensures c.stations.ensures c.neighbours.ensures
      (omega arith)

pub unreachable-requires : goal.unreachable-requires
unreachable-requires c = c.requires.ringed ((chordal_iff c.args.network.now.simple).1 (all_free c.args.network.now.simple c.in_default.ensures))

pub mark_layers-d-requires : goal.mark_layers-d-requires
mark_layers-d-requires c = let w = way (at-mark_layers-d-requires c).After-insert in record { few = w.few; end = w.holds; start = w.lacks; walk = w.walk }

pub trace-requires-clause-few : goal.trace-requires-clause-few
trace-requires-clause-few c =
    let w = way (at-trace-requires-clause-few c).After-insert in
    omega (arith, c.mark_layers-d.ensures.few, w.few)

pub returns-clause-ring : goal.returns-clause-ring
returns-clause-ring c =
    let w = way (at-returns-clause-ring c).After-insert in
    ring_made c.args.network.now.simple (lacking (at-returns-clause-ring c).After-insert) (has c.insert.new.self) w.inside c.mark_layers-d.ensures
    c.trace.ensures

pub returns-clause-rest : goal.returns-clause-rest
returns-clause-rest c = drop_at c.mark_layers-d.new.marks _ 256 (omega arith)
