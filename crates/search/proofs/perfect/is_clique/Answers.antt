use Rattle.std.proofs.Common.{rules}
use Rattle.std.proofs.lemmas.Bool.{false≢true}
use Rattle.std.proofs.lemmas.Iterator.{cases_from_all}
use Rattle.sets.specs.Sets.{has}
use Rattle.sets.specs.Rows.{adj}
use Rattle.sets.proofs.InTurn.{in_turn}
use Rattle.search.specs.Cliques.{Joined}
use Rattle.search.proofs.Cliques.{joined_all}
use Rattle.search.proofs.perfect.is_clique.Goals as goal

pub returns : goal.returns
returns c =
    let g = adj c.args.network.now.rows in
    let among = has c.args.members in
    joined_all g c.args.members _
    (cases_from_all _ _ _ (Joined g among) (λ a. Joined g among a → ⊥) c.all.ensures.ran (in_turn c.into_iter.ensures.into_iter_gives.0)
    (λ x q k. search rules) (λ x q k joined. search (rules, false≢true)))
