use Rattle.std.proofs.Common.{◌≡◌, ℕ, ◌<◌, ◌&&◌, refl, ap, ◌∙◌, rules}
use lib.Bits.{bit_and}
use Rattle.sets.specs.Sets.{bit}
use Rattle.sets.proofs.Words.{bit_of_and}
use Rattle.sets.proofs.Members.{word, lift}
use Rattle.sets.proofs.station_set.StationSet.intersection.Goals as goal

pub returns : goal.returns
returns c =
    let each : (q : ℕ) → q < 4 → word c.word_by_word.result.words q ≡ bit_and (word c.args.self.words q) (word c.args.other.words q)
    = λ q l. let e = c.word_by_word.ensures q l in search rules
    in
    lift _ c.args.self c.args.other ◌&&◌ (λ q l k h. ap (λ w. bit w k) (each q l) ∙ bit_of_and _ _ k) refl
