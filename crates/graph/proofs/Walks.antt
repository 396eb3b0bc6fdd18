-- Walks: put together, turned round, carried over to another graph; shortfalls by parts are those by walks.
use Rattle.std.proofs.Common.{◌≡◌, ℕ, Bool, true, false, ◌⊎◌, ◌↔◌, sym, inl, inr}
use Rattle.std.proofs.lemmas.Bool.{both_ways, cases_Bool}
use Rattle.graph.specs.Graphs.{Graph, Edge, Gap, Simple, Inside, Walk, edge, step, Linked, here, next, Outside, Shortfall, Short}

-- a test that cannot be true is false: not adjacent, since adjacency would be absurd
pub gap_by : {t : Bool} → (t ≡ true → ⊥) → t ≡ false
gap_by {t} f = elim (cases_Bool t) [ inl e ↦ absurd (f e) | inr e ↦ e ]

-- and the other way
pub edge_by : {t : Bool} → (t ≡ false → ⊥) → t ≡ true
edge_by {t} f = elim (cases_Bool t) [ inl e ↦ e | inr e ↦ absurd (f e) ]

module _ {g : Graph} {ok : ℕ → Type 0} where
  -- one walk after another
  pub append : {a b c : ℕ} → Walk g ok a c → ok c → Walk g ok c b → Walk g ok a b
  append (edge e) k w = step e k w
  append (step e o r) k w = step e o (append r k w)

  -- the first of a chain is ok
  pub starts : {c d : ℕ} → Linked g ok c d → ok c
  starts (here o) = o
  starts (next o e r) = o

  -- the chain of a walk's inner vertices, the first given
  inner : {c b : ℕ} → ok c → Walk g ok c b → (d : ℕ) × Linked g ok c d × Edge g d b
  inner {c} o (edge e) = (c, here o, e)
  inner o (step e p r) =
      let i = inner p r in
      (i.0, next o e i.1, i.2)

  module _ (turn : (a b : ℕ) → Edge g a b → Edge g b a) where
    -- a walk turned round
    pub reverse : {a b : ℕ} → Walk g ok a b → Walk g ok b a
    reverse (edge e) = edge (turn _ _ e)
    reverse (step e o r) = append (reverse r) o (edge (turn _ _ e))

    -- from a neighbour of the chain's first through the chain to a neighbour of its last
    through : {c d : ℕ} → Linked g ok c d → (a b : ℕ) → Edge g a c → Edge g b d → Walk g ok a b
    through (here o) a b e f = step e o (edge (turn _ _ f))
    through (next o e r) a b f l = step f o (through r _ b e l)

    -- between neighbours of two vertices of one part, through the part
    from_part : {c d : ℕ} → Linked g ok c d → (e a b : ℕ) → Linked g ok c e → Edge g a d → Edge g b e → Walk g ok a b
    from_part (here o) e a b r f l = through r a b f l
    from_part (next o s r) e a b q f l = from_part r e a b (next (starts r) (turn _ _ s) q) f l

module _ {g h : Graph} {ok ok' : ℕ → Type 0} (over : Inside g h) (more : (c : ℕ) → ok c → ok' c) where
  -- a walk in a graph inside another is one there
  pub carry : {a b : ℕ} → Walk g ok a b → Walk h ok' a b
  carry (edge e) = edge (over _ _ e)
  carry (step e o r) = step (over _ _ e) (more _ o) (carry r)

-- where each edge of h with an ok end can be replaced by a walk in g, so can each walk of h between vertices that are not adjacent
module _ {g h : Graph} {ok ok' : ℕ → Type 0} (more : (c : ℕ) → ok c → ok' c) (old : (a b : ℕ) → Edge h a b → ok a ⊎ ok b → Walk g ok' a b) where
  -- from an ok vertex
  from : {a b : ℕ} → ok a → Walk h ok a b → Walk g ok' a b
  from k (edge e) = old _ _ e (inl k)
  from k (step e o r) = append (old _ _ e (inl k)) (more _ o) (from o r)

  -- from any vertex
  pub translate : {a b : ℕ} → Gap h a b → Walk h ok a b → Walk g ok' a b
  translate n (edge e) = absurd (both_ways _ n e)
  translate n (step e o r) = append (old _ _ e (inr o)) (more _ o) (from o r)

module _ {n : ℕ} {g : Graph} (s : Simple n g) where
  -- a shortfall by parts is one by a walk
  pub short : {v a b : ℕ} → Shortfall g v a b → Short g v a b
  short f =
      record {
        apart = f.apart;
        gap = f.gap;
        left = f.left.0;
        right = f.right.0;
        walk = from_part s.symmetric f.left.1.1 _ _ _ f.right.1.1 f.left.1.2 f.right.1.2;
      }

  -- a shortfall by a walk is one by parts
  pub shortfall : {v a b : ℕ} → Short g v a b → Shortfall g v a b
  shortfall {v} {a} {b} f = go f.walk
    where
      go : Walk g (Outside g v) a b → Shortfall g v a b
      go (edge e) = absurd (both_ways _ f.gap e)
      go (step {c = c} e o r) =
          let i = inner o r in
          record {
            apart = f.apart;
            gap = f.gap;
            part = c;
            left = (f.left, (c, here o, e));
            right = (f.right, (i.0, i.1, s.symmetric _ _ i.2));
          }

  -- so they are the same
  pub short_iff : (v a b : ℕ) → Shortfall g v a b ↔ Short g v a b
  short_iff v a b = (short, shortfall)

  -- not adjacent, turned round
  pub gap_turn : (a b : ℕ) → Gap g a b → Gap g b a
  gap_turn a b e = gap_by (λ f. both_ways _ e (s.symmetric b a f))

  -- a shortfall turned round
  pub short_turn : {v a b : ℕ} → Short g v a b → Short g v b a
  short_turn f =
      record {
        apart = λ e. f.apart (sym e);
        gap = gap_turn _ _ f.gap;
        left = f.right;
        right = f.left;
        walk = reverse s.symmetric f.walk;
      }
