-- Vertices by their distance from b, through the vertices that are ok, up to the layer that has a.
use Rattle.std.specs.Prelude.{◌≡◌, ℕ, suc, ◌+◌, ◌<◌, ◌≤◌, Bool, true, ◌&&◌, List, length, ◌==◌, nat_lt}
use Rattle.graph.specs.Graphs.{Graph, Edge, at}
use Rattle.sets.specs.Sets.{size}

-- the layer of distance e that a strip of marks tells: its vertices have the mark e + 1
unfoldable pub level : List ℕ → ℕ → ℕ → Bool
level marks e x = nat_lt x 256 && at marks x == suc e

-- each vertex of a layer above the first, up to layer d, has a neighbour in the layer below
abbrev pub Descends : Graph → (ℕ → ℕ → Bool) → ℕ → Type 0
Descends g lay d = (e x : ℕ) → e < d → lay (suc e) x ≡ true → (y : ℕ) × (lay e y ≡ true) × Edge g y x

-- `lay e` holds the vertices at distance e from b, for each e up to d, and a is at distance d
pub record Layered (g : Graph) (ok : ℕ → Bool) (a b : ℕ) (lay : ℕ → ℕ → Bool) (d : ℕ) : Type 0 where
  pub start : (x : ℕ) → lay 0 x ≡ true → x ≡ b
  pub back : Descends g lay d
  pub inside : (e x : ℕ) → e < d → lay (suc e) x ≡ true → ok x ≡ true
  pub single : (e f x : ℕ) → e ≤ d → f ≤ d → lay e x ≡ true → lay f x ≡ true → e ≡ f
  pub near : (e x y : ℕ) → e < d → lay e x ≡ true → Edge g x y → ok y ≡ true → (f : ℕ) × (f ≤ suc e) × (lay f y ≡ true)
  pub end : lay d a ≡ true
  pub few : d ≤ size ok 256

-- a list that begins with v and a, and goes on with a neighbour in each layer below that of a, down to layer m
pub record Traced (g : Graph) (lay : ℕ → ℕ → Bool) (v a d m : ℕ) (ring : List ℕ) : Type 0 where
  pub long : length ring + m ≡ suc (suc d)
  pub head : at ring 0 ≡ v
  pub first : at ring 1 ≡ a
  pub levels : (i j : ℕ) → i + j ≡ d → m ≤ j → lay j (at ring (suc i)) ≡ true
  pub joins : (i : ℕ) → suc i + m ≤ d → Edge g (at ring (suc i)) (at ring (suc (suc i)))
