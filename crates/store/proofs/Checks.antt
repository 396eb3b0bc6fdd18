-- What a passed check says, and when one passes.
use Rattle.std.proofs.Common.{◌≡◌, ℕ, ◌<◌, ◌≤◌, arith}
use Rattle.std.proofs.lemmas.Bool.Decides.{nat_tests}
use Rattle.store.specs.declared.refusal.Refusal.{Refusal}
use Rattle.store.specs.declared.refusal.Refusal.TheVariants.{StationOutside}
use Rattle.store.specs.Refusals.{number, pair_refusal}
use Rattle.store.specs.Matrices.{size_over, size_refusal}
use Rattle.store.specs.MatrixLaws.{size_two}

-- the size is 1 to 256, and the area has the bytes
pub record SizeFits (n len : ℕ) : Type 0 where
  pub some : 1 ≤ n
  pub most : n ≤ 256
  pub long : 8192 ≤ len

pub size_fits : (n len : ℕ) → size_refusal n len ≡ 0 → SizeFits n len
size_fits n len e = record { some = grind (arith, nat_tests); most = grind (arith, nat_tests); long = grind (arith, nat_tests) }

-- two different stations below the size
pub record TwoStations (size u v : ℕ) : Type 0 where
  pub one : u < size
  pub other : v < size
  pub differ : u ≡ v → ⊥

pub two_stations : (size u v : ℕ) → pair_refusal size u v ≡ 0 → TwoStations size u v
two_stations size u v e = record { one = grind (arith, nat_tests); other = grind (arith, nat_tests); differ = λ d. grind (arith, nat_tests) }

-- a pair takes a whole square
pub pair_long : (len n u v : ℕ) → pair_refusal (size_over len n) u v ≡ 0 → 8192 ≤ len
pair_long len n u v e = let two = two_stations (size_over len n) u v e in size_two len n (let d = two.differ in omega (arith, two.one, two.other))

pub pair_passes : (size u v : ℕ) → u < size → v < size → (u ≡ v → ⊥) → pair_refusal size u v ≡ 0
pair_passes size u v hu hv d = grind (arith, nat_tests)

pub size_passes : (n len : ℕ) → 1 ≤ n → n ≤ 256 → 8192 ≤ len → size_refusal n len ≡ 0
size_passes n len some most long = grind (arith, nat_tests)

-- no refusal has the number 0
pub number_some : (e : Refusal) → number e ≡ 0 → ⊥
number_some StationOutside h = omega arith
number_some _ h = omega arith
