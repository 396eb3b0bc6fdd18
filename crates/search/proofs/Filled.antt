-- The positions and the row of labels, turn by turn of a search.
use Rattle.std.proofs.Common.{◌≡◌, ℕ, suc, ◌<◌, ◌≤◌, Bool, cond, not, ◌&&◌, eqb, List, length, get_or, take, set, sym, ap, ◌∙◌, subst, arith, length-set}
use Rattle.std.proofs.lemmas.List.{get_or-take, get_or-set_same, get_or-set_other, get_or_default}
use Rattle.std.proofs.lemmas.Bool.{and_right, and_parts, cond-false}
use Rattle.graph.specs.Graphs.{Graph, Simple, at}
use Rattle.graph.specs.Search.{label_before}
use Rattle.graph.proofs.Walks.{gap_by}
use Rattle.search.specs.Searches.{Picked, Blanked, RaisedAt, SearchMade}
use Rattle.search.proofs.Passing.{label_same}
use Rattle.search.proofs.Filling.{Placing, placing_more, placing_all}

-- what the loop keeps: the state, and what is not touched
pub record Found {L : Type 0} (blank : L) (raise : L → ℕ → L) (less : L → L → Bool) (n m : ℕ) (g : Graph) (o : List ℕ) (un : ℕ → Bool) (before ls : List L) : Type 0 where
  pub state : Placing blank raise less n m g o un (λ v. get_or ls v blank)
  pub long : length o ≡ 256
  pub row : length ls ≡ length before
  pub others : (k : ℕ) (d : L) → n ≤ k → get_or ls k d ≡ get_or before k d

module _ {L : Type 0} {blank : L} {raise : L → ℕ → L} {less : L → L → Bool} {n : ℕ} {g : Graph} where
  pub found_more :
      (m p : ℕ) (o : List ℕ) (un left which : ℕ → Bool) (before ls now : List L) (v : ℕ) → Found blank raise less n m g o un before ls →
      m ≡ suc p → Simple n g → p < n → n ≤ 256 → Picked less ls un v → ((x : ℕ) → left x ≡ (not (eqb x v) && un x)) →
      ((x : ℕ) → which x ≡ (g v x && left x)) → RaisedAt raise p which ls now → length now ≡ length ls →
      Found blank raise less n p g (set o p v) left before now
  found_more m p o un left which before ls now v i e s pn few k taken w r same =
      record {
        state =
            placing_more s p o (set o p v) un left (λ x. get_or ls x blank) (λ x. get_or now x blank)
            (subst (λ y. Placing blank raise less n y g o un (λ x. get_or ls x blank)) e i.state) pn v k.member
            (λ x t. k.top x blank t)
            (λ x l t. let q = k.low x l t in (q.0, q.1, q.2 blank))
            (get_or-set_same o p v 0 (omega (arith, i.long))) (λ q d. get_or-set_other o p q v 0 d) taken
            (λ x. r x blank ∙ ap (λ y. cond y (raise (get_or ls x blank) p) (get_or ls x blank)) (w x));
        long = simp length-set i.long;
        row = same ∙ i.row;
        others = λ x d h.
            r x d ∙ cond-false (which x) _ _
            (w x ∙ and_right (g v x) (left x)
            (gap_by (λ t. let b = i.state.inside x (and_parts (not (eqb x v)) (un x) (sym (taken x) ∙ t)).1 in omega arith)))
            ∙ i.others x d h;
      }

  pub found_all :
      (m : ℕ) (o : List ℕ) (un : ℕ → Bool) (given before ls : List L) → Found blank raise less n m g o un before ls → m ≡ 0 →
      n ≤ 256 → n ≤ length ls → Blanked blank n given before → SearchMade blank raise less n g (take n o) given ls
  found_all m o un given before ls i e few room b =
      let state : Placing blank raise less n 0 g o un (λ x. get_or ls x blank) =
      subst (λ y. Placing blank raise less n y g o un (λ x. get_or ls x blank)) e i.state in
      record {
        searched = placing_all o un (λ x. get_or ls x blank) state (omega (arith, i.long));
        own = λ p d l.
            let h = state.below p (omega arith) l in
            let s = get_or-take n o p 0 l in
            ap (λ x. get_or ls x d) s ∙ get_or_default ls (at o p) d blank (omega arith) ∙ state.own p (omega arith) l
            ∙ label_same blank raise n g o (take n o) p (at o p) (λ q j k. sym (get_or-take n o q 0 k))
            ∙ ap (λ x. label_before blank raise n g (take n o) p x) (sym s);
        others = λ x d h. i.others x d h ∙ b.rest x d h;
      }
