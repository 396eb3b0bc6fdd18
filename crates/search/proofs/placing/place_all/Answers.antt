use Rattle.std.proofs.Common.{◌≡◌, ◌-◌, ◌&&◌, get_or, take, sym, refl, ap, ◌∙◌, subst, arith}
use Rattle.sets.specs.Sets.{has}
use Rattle.sets.specs.Rows.{adj}
use Rattle.search.specs.Searches.{Blanked, SearchMade}
use Rattle.search.proofs.Filling.{placing_none, some_left}
use Rattle.search.proofs.Filled.{found_more, found_all}
use Rattle.search.proofs.placing.place_all.Goals as goal

pub loop-p-init : goal.loop-p-init
loop-p-init g c =
    record {
      state =
          placing_none c.size-n.result _ (has c.stations-unplaced.result) (λ v. get_or c.reset.new.labels v g.L.Label.BLANK) c.size-n.ensures
          c.stations-unplaced.ensures (λ v l. c.reset.ensures.first v _ (omega arith));
      long = refl;
      row = refl;
      others = λ k d h. refl;
    }

pub pick-v-requires : goal.pick-v-requires
pick-v-requires g c =
    some_left c.loop-p.p c.loop-p.entries (has c.loop-p.unplaced) _ c.loop-p.invariant.state c.loop-p-test.true (omega arith)

pub loop-p-preserved : goal.loop-p-preserved
loop-p-preserved g c =
    found_more c.loop-p.p (c.loop-p.p - 1) c.loop-p.entries (has c.loop-p.unplaced) (has c.remove.new.self)
    (has c.intersection-near.result) c.reset.new.labels c.loop-p.labels c.raise_all.new.labels c.pick-v.result c.loop-p.invariant (omega arith)
    c.args.network.now.simple (omega arith) (omega arith) c.pick-v.ensures c.remove.ensures
    (λ x. c.intersection-near.ensures x ∙ ap (λ b. b && has c.remove.new.self x) (c.neighbours.ensures x)) c.raise_all.ensures (omega arith)

pub returns : goal.returns
returns g c =
    let n = c.args.network.now.size in
    let e : take n c.loop-p.entries ≡ c.truncate.new.self.items =
    sym (c.truncate.ensures.items ∙ ap (λ k. take k c.from-order.result.items) c.size-n.ensures ∙ ap (take n) c.from-order.ensures.0) in
    subst (λ o. SearchMade g.L.Label.BLANK g.L.Label.raised g.L.Label.less n (adj c.args.network.now.rows) o c.args.labels.now c.loop-p.labels) e
    (found_all c.loop-p.p c.loop-p.entries (has c.loop-p.unplaced) c.args.labels.now c.reset.new.labels
    c.loop-p.labels c.loop-p.invariant (omega arith) (omega arith) (omega arith) (subst (λ n. Blanked g.L.Label.BLANK n c.args.labels.now c.reset.new.labels) c.size-n.ensures c.reset.ensures))
