-- The numbers of refusals, and what a store's `lay` does.
use Rattle.std.specs.Prelude.{◌≡◌, ℕ, cond, Ok, Err, List, ◌++◌, Result, ◌==◌, nat_lt, codes, decimal}
use Rattle.store.specs.declared.refusal.Refusal.{Refusal}
use Rattle.store.specs.declared.refusal.Refusal.TheVariants.{StationOutside, SameStation, PairStands, NoRoom, SheetLength, SizeOutside, PairMalformed, PairNotAbove, AreaTooShort, StoreHoldsFill, StripTooShort, TakeOutside, AlreadyTaken, ShortfallExceedsRoom, StationsLeft, NumberPastLast}
use Rattle.store.specs.Nets.{Net, with_fill}

-- the documented number of each refusal
abbrev pub number : Refusal → ℕ
number StationOutside = 1
number SameStation = 2
number PairStands = 3
number NoRoom = 4
number SheetLength = 5
number SizeOutside = 6
number PairMalformed = 7
number PairNotAbove = 8
number AreaTooShort = 9
number StoreHoldsFill = 10
number StripTooShort = 11
number TakeOutside = 12
number AlreadyTaken = 13
number ShortfallExceedsRoom = 14
number StationsLeft = 15
number NumberPastLast = 16

-- the text that a refusal prints as: the word, a space, and the number in decimal
abbrev pub refused_text : Refusal → List ℕ
refused_text r = codes "refused " ++ decimal (number r)

-- the answer to a check: Ok at 0, and at any other number the refusal of that number
abbrev pub Checks : {A : Type 0} → ℕ → Result A Refusal → Type 0
Checks k (Ok _) = k ≡ 0
Checks k (Err e) = number e ≡ k

-- the number by which a pair of stations below `size` is refused, 0 where it is not
abbrev pub pair_refusal : ℕ → ℕ → ℕ → ℕ
pair_refusal size u v = cond (nat_lt u size) (cond (nat_lt v size) (cond (u == v) 2 0) 1) 1

-- the number by which `lay` is refused, 0 where the pair may be laid
abbrev pub lay_refusal : Net → ℕ → ℕ → ℕ
lay_refusal net u v =
    cond (nat_lt u net.size) (cond (nat_lt v net.size) (cond (u == v) 2 (cond (nat_lt 0 (net.mark u v)) 3 (cond (nat_lt 0 net.room) 0 4))) 1) 1

-- what `lay` does: the pair joins the fill, or the refusal is told and the net is as it was
abbrev pub Lays : Net → ℕ → ℕ → Net → Result (Unit {0}) Refusal → Type 0
Lays old u v new (Ok _) = (lay_refusal old u v ≡ 0) × (new ≡ with_fill old u v)
Lays old u v new (Err e) = (number e ≡ lay_refusal old u v) × (new ≡ old)
