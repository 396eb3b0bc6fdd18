use Rattle.std.proofs.Common.{◌∙◌, rules}
use Rattle.std.proofs.lemmas.List.{get_or-replicate}
use Rattle.sets.proofs.Members.{empty_has}
use Rattle.sets.proofs.Written.{cleared}
use Rattle.search.proofs.network.rows_of.Goals as goal

pub loop-a-init : goal.loop-a-init
loop-a-init g c x b = cleared _ _ (λ i d l. get_or-replicate 256 i _ d l) empty_has x b ∙ (search rules)
