-- The small networks, by computing.
use Rattle.std.proofs.Common.{[], ◌∷◌, refl}
use Rattle.graph.specs.Small.{square, ring_of_five, ring_of_six, star, SmallNetworks}
use Rattle.graph.proofs.Deciding.{takes_by, finds_by}

pub small_networks : SmallNetworks
small_networks =
    record {
      lone_takes = takes_by 1 [] 0 [] refl refl refl;
      lone_order = finds_by 1 [] (0 ∷ []) refl refl;
      square_from_0 = (takes_by 4 square 0 ((1, 3) ∷ []) refl refl refl, (takes_by 4 ((1, 3) ∷ square) 1 [] refl refl refl, tt));
      square_from_1 = takes_by 4 square 1 ((0, 2) ∷ []) refl refl refl;
      five_in_turn = (
        takes_by 5 ring_of_five 0 ((1, 4) ∷ []) refl refl refl,
        (takes_by 5 ((1, 4) ∷ ring_of_five) 1 ((2, 4) ∷ []) refl refl refl, tt),
      );
      six_in_turn = (
        takes_by 6 ring_of_six 0 ((1, 5) ∷ []) refl refl refl,
        (
          takes_by 6 ((1, 5) ∷ ring_of_six) 2 ((1, 3) ∷ []) refl refl refl,
          (takes_by 6 ((1, 3) ∷ (1, 5) ∷ ring_of_six) 4 ((3, 5) ∷ []) refl refl refl, tt),
        ),
      );
      star_takes = takes_by 4 star 0 [] refl refl refl;
      star_fill = refl;
    }
