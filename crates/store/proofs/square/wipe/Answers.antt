use Rattle.std.proofs.Common.{◌≡◌, ℕ, ◌≤◌, List, ◌++◌, length, take, drop, replicate, refl, ap, ◌∙◌, arith, length-take}
use Rattle.store.specs.Squares.{wiped}
use Rattle.store.proofs.square.wipe.Goals as goal

-- what a fill of the first n elements leaves
filled : (n : ℕ) (old front rest : List ℕ) → n ≤ length old → front ≡ replicate (length (take n old)) 0 → rest ≡ drop n old → front ++ rest ≡ replicate n 0 ++ drop n old
filled n old front rest h e d =
    let len : length (take n old) ≡ n = simp length-take (omega arith) in
    ap (λ x. x ++ rest) (e ∙ ap (λ k. replicate k 0) len) ∙ ap (λ x. replicate n 0 ++ x) d

pub returns : goal.returns
unfolding wiped
returns c = filled 8192 c.args.area.now c.fill.new.self _ c.requires (c.fill.ensures.after (λ y h. h)) refl
