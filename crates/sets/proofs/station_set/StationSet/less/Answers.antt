use Rattle.std.proofs.Common.{◌≡◌, ◌<◌, inl, inr, refl, arith}
use Rattle.sets.proofs.Members.{word, four}
use Rattle.sets.proofs.Lexical.{word_decides}
use Rattle.sets.proofs.station_set.StationSet.less.Goals as goal

pub returns-then-a-b : goal.returns-then-a-b
returns-then-a-b c = word_decides c.args.self c.args.other 3 (omega arith) (omega arith) (omega arith) (λ q h m. absurd (omega arith)) (inl c.if-a-b.true)

pub returns-then-a-b-2 : goal.returns-then-a-b-2
returns-then-a-b-2 c =
    let same = four (λ q. 2 < q → word c.args.self.words q ≡ word c.args.other.words q)
    (λ h. absurd (omega arith)) (λ h. absurd (omega arith)) (λ h. absurd (omega arith)) (λ h. omega arith) in
    word_decides c.args.self c.args.other 2 (omega arith) (omega arith) (omega arith) (λ q h m. same q m h) (inl c.if-a-b-2.true)

pub returns-then-a-b-3 : goal.returns-then-a-b-3
returns-then-a-b-3 c =
    let same = four (λ q. 1 < q → word c.args.self.words q ≡ word c.args.other.words q)
    (λ h. absurd (omega arith)) (λ h. absurd (omega arith)) (λ h. omega arith) (λ h. omega arith) in
    word_decides c.args.self c.args.other 1 (omega arith) (omega arith) (omega arith) (λ q h m. same q m h) (inl c.if-a-b-3.true)

pub returns-else-a-b-3 : goal.returns-else-a-b-3
returns-else-a-b-3 c =
    let same = four (λ q. 0 < q → word c.args.self.words q ≡ word c.args.other.words q)
    (λ h. absurd (omega arith)) (λ h. omega arith) (λ h. omega arith) (λ h. omega arith) in
    word_decides c.args.self c.args.other 0 (omega arith) (omega arith) (omega arith) (λ q h m. same q m h) (inr refl)
