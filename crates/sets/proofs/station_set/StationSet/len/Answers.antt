use Rattle.std.proofs.Common.{ℕ, ◌∙◌, rules, arith}
use Rattle.std.proofs.lemmas.List.Sums.{sum_by-le}
use Rattle.std.proofs.lemmas.Iterator.{YieldsList-from_slice, YieldsList-from_map}
use Rattle.std.proofs.lemmas.Iterator.Consumers.{YieldsList-at, sum_by_from_yields_List, fits_by_from_yields_list}
use Rattle.sets.specs.Sets.{bit, size}
use Rattle.sets.proofs.Sizes.{size_most}
use Rattle.sets.proofs.Members.{size_words}
use Rattle.sets.proofs.station_set.StationSet.len.Goals as goal

abbrev count : ℕ → ℕ
count w = size (bit w) 64

pub sum-requires-clause-fits : goal.sum-requires-clause-fits
sum-requires-clause-fits c =
    let n = sum_by-le count 64 c.args.self.words (λ k d l. size_most (bit _) 64) in
    fits_by_from_yields_list count c.args.self.words c.map.result _
    (YieldsList-from_map _ count (YieldsList-at c.map.ensures.source (YieldsList-from_slice c.args.self.words c.iter.ensures.rest)) c.map.ensures.closure (λ x r q k. search rules))
    (omega (arith, n))

pub returns : goal.returns
returns c =
    let e = sum_by_from_yields_List count c.args.self.words c.map.result _ c.sum.ensures.ran
    (YieldsList-from_map _ count (YieldsList-at c.map.ensures.source (YieldsList-from_slice c.args.self.words c.iter.ensures.rest)) c.map.ensures.closure (λ x r q k. search rules))
    ∙ size_words c.args.self (omega arith) in
    omega (arith, e)
