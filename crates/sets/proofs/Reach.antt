-- A search that takes one station at a time and adds its unseen neighbours.
use Rattle.std.proofs.Common.{◌≡◌, ℕ, Bool, true, false, not, ◌||◌, ◌↔◌, sym, subst}
use Rattle.graph.specs.Graphs.{Graph, Edge, Linked, here, next}

pub record Reached (g : Graph) (ok : ℕ → Bool) (c : ℕ) (seen todo : ℕ → Bool) : Type 0 where
  pub start : seen c ≡ true
  pub sound : (x : ℕ) → seen x ≡ true → Linked g (λ x. ok x ≡ true) c x
  pub listed : (x : ℕ) → todo x ≡ true → seen x ≡ true
  pub closed : (x y : ℕ) → seen x ≡ true → todo x ≡ false → Edge g x y → ok y ≡ true → seen y ≡ true

-- what is not done yet
abbrev pub waiting : (ℕ → Bool) → (ℕ → Bool) → ℕ → Bool
waiting seen todo x = not (seen x) || todo x

pub extend : {g : Graph} {ok : ℕ → Type 0} {a b c : ℕ} → Linked g ok a b → Edge g b c → ok c → Linked g ok a c
extend (here o) e k = next o e (here k)
extend (next o f r) e k = next o f (extend r e k)

pub alone : (g : Graph) (ok : ℕ → Bool) (c x : ℕ) → ok c ≡ true → x ≡ c → Linked g (λ x. ok x ≡ true) c x
alone g ok c x k e = subst (λ y. Linked g (λ x. ok x ≡ true) c y) (sym e) (here k)

linked_seen : {g : Graph} {ok seen : ℕ → Bool} {a b : ℕ} →
    ((x y : ℕ) → seen x ≡ true → Edge g x y → ok y ≡ true → seen y ≡ true) →
    Linked g (λ x. ok x ≡ true) a b → seen a ≡ true → seen b ≡ true
linked_seen f (here o) s = s
linked_seen f (next o e (here k)) s = f _ _ s e k
linked_seen f (next o e (next k h r)) s = linked_seen f (next k h r) (f _ _ s e k)

pub finish : (g : Graph) (ok seen todo : ℕ → Bool) (c : ℕ) → Reached g ok c seen todo → ((x : ℕ) → todo x ≡ false) →
    (d : ℕ) → (seen d ≡ true) ↔ Linked g (λ x. ok x ≡ true) c d
finish g ok seen todo c r n d = (r.sound d, λ k. linked_seen (λ x y s e o. r.closed x y s (n x) e o) k r.start)
