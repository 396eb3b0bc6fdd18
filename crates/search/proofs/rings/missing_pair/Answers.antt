use Rattle.std.proofs.Common.{ℕ, ◌<◌, sym, subst, inl, inr, arith, MatchOption}
use Rattle.std.proofs.lemmas.Bool.{cases_eq, both_ways}
use Rattle.graph.specs.Graphs.{Free, Shortfall}
use Rattle.sets.specs.Rows.{adj}
use Rattle.search.proofs.rings.missing_pair.Goals as goal

pub search-preserved : goal.search-preserved
search-preserved c = (
  λ x h a b s. elim (cases_eq x c.search.v) [
    | inl m ↦
        let t = subst (λ v. Shortfall (adj c.args.network.now.rows) v a b) m s in
        let l = c.args.network.now.simple.within _ a t.left.0 in
        both_ways _ (c.loop-a.invariant.1 a b (omega arith)) ((c.note_shortfall.ensures a b).1 t)
    | inr d ↦ c.loop-a.invariant.0 x (omega arith) a b s
  ],
  c.loop-a.invariant.2,
)

pub returns-after-search : goal.returns-after-search
returns-after-search c =
    subst
    (λ f. MatchOption f ((x : ℕ) → x < c.args.network.now.size → Free (adj c.args.network.now.rows) x)
    (λ w. Shortfall (adj c.args.network.now.rows) w.0 w.1 w.2))
    (sym c.search.invariant.1) (λ x h. c.search.invariant.0 x (omega arith))
