use Rattle.std.proofs.Common.{◌≡◌, ℕ, ◌-◌, ◌*◌, ◌<◌, ltb, rules}
use Rattle.sets.specs.Sets.{bit}
use Rattle.sets.proofs.Members.{word, four, below_has}
use Rattle.sets.proofs.station_set.StationSet.below.Goals as goal

pub returns : goal.returns
returns c =
    let e = c.from_fn.ensures.items.each in
    below_has c.args.n c.from_fn.result
    (four (λ q. (k : ℕ) → k < 64 → bit (word c.from_fn.result q) k ≡ ltb k (c.args.n - 64 * q)) (λ k l. search rules) (λ k l. search rules) (λ k l. search rules) (λ k l. search rules))
