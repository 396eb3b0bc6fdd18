use Rattle.graph.proofs.Minimal.{searched_perfect}
use Rattle.graph.proofs.Searches.{searched_made, searched_unique}
use Rattle.search.proofs.theorems.search_orders.Goals as goal

pub returns : goal.returns
returns g c =
    record {
      made = λ n h. searched_made g.met.L.Label.laws n h;
      unique = λ n h o r x y. searched_unique x y;
      perfect = λ n h o small s chordal r. searched_perfect g.met.L.Label.laws small s chordal r;
    }
