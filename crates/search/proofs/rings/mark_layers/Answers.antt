use Rattle.std.proofs.Common.{◌≡◌, ℕ, suc, ◌+◌, ◌<◌, ◌≤◌, true, length, set, sym, refl, ap, ◌∙◌, arith}
use Rattle.std.proofs.lemmas.List.{get_or-replicate}
use Rattle.std.proofs.lemmas.Bool.{and_parts}
use Rattle.graph.specs.Graphs.{at}
use Rattle.sets.specs.Sets.{has}
use Rattle.sets.specs.Rows.{adj}
use Rattle.sets.proofs.Members.{has_below}
use Rattle.search.specs.Layers.{level}
use Rattle.search.proofs.Breadth.{room, wave_start, wave_more, fewer_left}
use Rattle.search.proofs.Levels.{marked_level, touches_level, level_start, low_start, level_new, level_old, low_new}
use Rattle.search.proofs.rings.mark_layers.Goals as goal

pub loop-left-init : goal.loop-left-init
loop-left-init c =
    let z = c.fill.new.self in
    let b = c.args.b in
    let none : (x : ℕ) → x < 256 → at z x ≡ 0 = λ x l. ap (λ s. at s x) (c.fill.ensures.after (λ y h. h)) ∙ get_or-replicate (length c.args.marks.now) x 0 0 (omega arith) in (
      wave_start c.requires.walk c.requires.end (has_below c.args.within) (level (set z b 1)) (has c.args.within) 0 c.requires.start refl
          (level_start z b none (omega arith) (omega arith)) refl,
      low_start z b none (omega arith) (omega arith),
    )

pub overflow_add-d-in-loop-left-2 : goal.overflow_add-d-in-loop-left-2
overflow_add-d-in-loop-left-2 c =
    let r = room c.loop-left.invariant.0 (omega arith) c.requires.few (sym c.loop-left-test.ensures) in
    omega arith

pub loop-left-smaller : goal.loop-left-smaller
loop-left-smaller c =
    let old = c.loop-left.marks in
    let d = c.loop-left.d in
    let touches = touches_level (adj c.args.network.now.rows) (has c.touching.result) (has c.marked-last.result) (level old d)
    (marked_level old d (d + 1) (has c.marked-last.result) (omega arith) c.marked-last.ensures) c.touching.ensures in
    fewer_left c.requires.walk c.requires.end (has_below c.args.within) (level old) (level old) (has c.loop-left.left)
    (has c.difference-left.result) (has c.intersection-fresh.result) (has c.touching.result) d c.loop-left.invariant.0
    (sym c.loop-left-test.ensures) touches c.intersection-fresh.ensures c.difference-left.ensures

pub loop-left-preserved : goal.loop-left-preserved
loop-left-preserved c =
    let old = c.loop-left.marks in
    let new = c.mark_all.new.strip in
    let d = c.loop-left.d in
    let left = has c.loop-left.left in
    let fresh = has c.intersection-fresh.result in
    let k : ℕ = d + 1 in
    let is_k : k ≡ suc d = omega arith in
    let is_mark : k + 1 ≡ suc k = omega arith in
    let low : (x : ℕ) → x < 256 → at old x ≤ k = λ x l. omega (arith, c.loop-left.invariant.1 x l) in
    let fresh_left : (x : ℕ) → fresh x ≡ true → left x ≡ true =
    λ x t. (and_parts (has c.touching.result x) (left x) (sym (c.intersection-fresh.ensures x) ∙ t)).1 in
    let touches = touches_level (adj c.args.network.now.rows) (has c.touching.result) (has c.marked-last.result) (level old d)
    (marked_level old d (d + 1) (has c.marked-last.result) (omega arith) c.marked-last.ensures) c.touching.ensures in (
      wave_more c.requires.walk c.requires.end (has_below c.args.within) (level old) (level new) left
          (has c.difference-left.result) fresh (has c.touching.result) d c.loop-left.invariant.0
          (sym c.loop-left-test.ensures) touches c.intersection-fresh.ensures c.difference-left.ensures k is_k
          (level_new old new fresh left d k (k + 1) is_k is_mark c.mark_all.ensures low fresh_left (has_below c.intersection-fresh.result) c.loop-left.invariant.0.apart)
          (level_old old new fresh left d k (k + 1) is_k is_mark c.mark_all.ensures low fresh_left (has_below c.intersection-fresh.result) c.loop-left.invariant.0.apart),
      (λ x l. omega (arith, low_new old new fresh left d k (k + 1) is_k is_mark c.mark_all.ensures low fresh_left (has_below c.intersection-fresh.result) c.loop-left.invariant.0.apart x l)),
    )
