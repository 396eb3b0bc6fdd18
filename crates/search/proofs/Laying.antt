-- The shortfalls of a station, part by part.
use Rattle.std.proofs.Common.{◌≡◌, ℕ, ◌<◌, Bool, true, false, not, ◌&&◌, ◌||◌, eqb, ◌≢◌, ◌↔◌, sym, inl, inr}
use Rattle.std.proofs.lemmas.Bool.{both_ways, cases_Bool, ne_eqb, eqb-false, and_parts, and_from, or_cases, or_left, or_right, and_right, not_from_true, not_from_false, not-true}
use Rattle.graph.specs.Graphs.{Graph, Edge, Gap, Simple, Linked, here, next, Outside, Border, Shortfall}
use Rattle.sets.specs.Rows.{gaps}
use Rattle.sets.specs.Sets.{size}
use Rattle.sets.proofs.Sizes.{size_lt}

-- a is on the border of the part of c, among the members
abbrev pub Bound : Graph → (ℕ → Bool) → ℕ → ℕ → ℕ → Type 0
Bound g ok v c a = Edge g v a × ((d : ℕ) × Linked g (λ x. ok x ≡ true) c d × Edge g d a)

-- a and b are different, not adjacent, and on the border of one part of the members
pub record Lacked (g : Graph) (ok : ℕ → Bool) (v a b : ℕ) : Type 0 where
  pub apart : a ≢ b
  pub gap : Gap g a b
  pub part : ℕ
  pub left : Bound g ok v part a
  pub right : Bound g ok v part b

-- the borders of the parts of the vertices that are no more left are noted
pub record Laying (g : Graph) (ok : ℕ → Bool) (v : ℕ) (now : Graph) (left : ℕ → Bool) : Type 0 where
  pub inside : (x : ℕ) → left x ≡ true → ok x ≡ true
  pub sound : (a b : ℕ) → Edge now a b → Lacked g ok v a b
  pub full : (c a b : ℕ) → ok c ≡ true → left c ≡ false → a ≢ b → Gap g a b → Bound g ok v c a → Bound g ok v c b → Edge now a b

pub follow : {g : Graph} {ok : ℕ → Type 0} {a b c : ℕ} → Linked g ok a b → Linked g ok b c → Linked g ok a c
follow (here o) r = r
follow (next o e s) r = next o e (follow s r)

linked_first : {g : Graph} {ok : ℕ → Type 0} {a b : ℕ} → Linked g ok a b → ok a
linked_first (here o) = o
linked_first (next o e s) = o

module _ (g : Graph) (ok : ℕ → Bool) (v : ℕ) (now : Graph) (left : ℕ → Bool) (r : Laying g ok v now left)
    (c : ℕ) (t : left c ≡ true) (part border : ℕ → Bool)
    (is_part : (d : ℕ) → (part d ≡ true) ↔ Linked g (λ x. ok x ≡ true) c d)
    (is_border : (a : ℕ) → (border a ≡ true) ↔ (((d : ℕ) × (part d ≡ true) × Edge g d a) × Edge g v a)) where
  bound_of : (a : ℕ) → border a ≡ true → Bound g ok v c a
  bound_of a e = let p = (is_border a).0 e in (p.1, (p.0.0, (is_part p.0.0).0 p.0.1, p.0.2))

  of_bound : (x a : ℕ) → Linked g (λ x. ok x ≡ true) c x → Bound g ok v x a → border a ≡ true
  of_bound x a k b = (is_border a).1 ((b.1.0, (is_part b.1.0).1 (follow k b.1.1), b.1.2), b.0)

  pub laid : Laying g ok v (λ a b. now a b || gaps g border a b) (λ x. left x && not (part x))
  laid =
      record {
        inside = λ x e. r.inside x (and_parts (left x) (not (part x)) e).0;
        sound = λ a b e. elim (or_cases (now a b) (gaps g border a b) e) [
          | inl h ↦ r.sound a b h
          | inr h ↦
              let p = and_parts (border a) _ h in
              let q = and_parts (not (eqb b a)) _ p.1 in
              let s = and_parts (border b) (not (g a b)) q.1 in
              record {
                apart = λ i. eqb-false b a (not-true _ q.0) (sym i);
                gap = not-true _ s.1;
                part = c;
                left = bound_of a p.0;
                right = bound_of b s.0;
              }
        ];
        full = λ x a b o l d f p q. elim (cases_Bool (left x)) [
          | inr n ↦ or_left _ _ (r.full x a b o n d f p q)
          | inl y ↦
              let k : Linked g (λ x. ok x ≡ true) c x = (is_part x).0 (seen x y l) in
              or_right _ _
              (and_from _ _ (of_bound x a k p)
              (and_from _ _ (not_from_false _ (ne_eqb b a (λ i. d (sym i)))) (and_from _ _ (of_bound x b k q) (not_from_false _ f))))
        ];
      }
    where
      seen : (x : ℕ) → left x ≡ true → (left x && not (part x)) ≡ false → part x ≡ true
      seen x y l = elim (cases_Bool (part x)) [
        | inl e ↦ e
        | inr e ↦ absurd (both_ways _ l (and_from _ _ y (not_from_false _ e)))
      ]

  pub left_falls : c < 256 → size (λ x. left x && not (part x)) 256 < size left 256
  left_falls l =
      size_lt (λ x. left x && not (part x)) left 256 (λ x _ e. (and_parts (left x) (not (part x)) e).0) c l
      (and_right _ _ (not_from_true _ ((is_part c).1 (here (r.inside c t))))) t

-- the parts among the stations below n are those of the whole

module _ (n v : ℕ) (g : Graph) (s : Simple n g) (ok : ℕ → Bool)
    (is_ok : (x : ℕ) → (ok x ≡ true) ↔ ((x < n) × Outside g v x)) where
  widely : {c d : ℕ} → Linked g (λ x. ok x ≡ true) c d → Linked g (Outside g v) c d
  widely (here o) = here ((is_ok _).0 o).1
  widely (next o e r) = next ((is_ok _).0 o).1 e (widely r)

  narrowly : {c d : ℕ} → Linked g (Outside g v) c d → d < n → Linked g (λ x. ok x ≡ true) c d
  narrowly (here o) l = here ((is_ok _).1 (l, o))
  narrowly (next {a = a} {c = c} o e r) l = next ((is_ok _).1 (s.within c a (s.symmetric a c e), o)) e (narrowly r l)

  border_of : (c a : ℕ) → Bound g ok v c a → Border g v c a
  border_of c a b = (b.0, (b.1.0, widely b.1.1, s.symmetric _ _ b.1.2))

  of_border : (c a : ℕ) → Border g v c a → Bound g ok v c a
  of_border c a b = (b.0, (b.1.0, narrowly b.1.1 (s.within _ _ b.1.2), s.symmetric _ _ b.1.2))

  pub all_laid : (now : Graph) (left : ℕ → Bool) → Laying g ok v now left → ((x : ℕ) → left x ≡ false) → (a b : ℕ) → Edge now a b ↔ Shortfall g v a b
  all_laid now left r none a b = (
    λ e.
        let f = r.sound a b e in
        record {
          apart = f.apart;
          gap = f.gap;
          part = f.part;
          left = border_of _ _ f.left;
          right = border_of _ _ f.right;
        },
    λ f.
        let p = of_border f.part a f.left in
        r.full f.part a b (linked_first p.1.1) (none f.part) f.apart f.gap p (of_border f.part b f.right),
  )
