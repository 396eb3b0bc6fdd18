-- What strips of bytes hold.
use Rattle.std.specs.Prelude.{ℕ, min, List, ◌++◌, length, drop, replicate}

-- the first 256 bytes zero, or all where there are fewer, and the rest as it was
unfoldable pub zeroed : List ℕ → List ℕ
zeroed strip = replicate (min 256 (length strip)) 0 ++ drop 256 strip

-- the strip begins with the list, and goes on as it was
abbrev pub fronted : List ℕ → List ℕ → List ℕ
fronted list strip = list ++ drop (length list) strip
