-- 000, section 4 and figure 4: the regions of the first two tuples, and the units of one write. Assumes nothing.
use Rattle.std.specs.Prelude.{ℕ, ◌≡◌, List, [], ◌∷◌}
use Rattle.cells.specs.Cells.{cell}
use Rattle.cells.specs.Figure.{shelf}
use Rattle.layout.specs.declared.Region.{Region}
use Rattle.layout.specs.Regions.{region, region_of}
use Rattle.layout.specs.Places.{place, cell_at, four_of}

-- equation 1's first two tuples: "T0: 0, 2, 6", "T1: 0, 1, 3"
abbrev pub first_tuples : List ℕ
first_tuples = 0 ∷ 2 ∷ 6 ∷ 0 ∷ 1 ∷ 3 ∷ []

abbrev pub regions_at : ℕ → List Region
regions_at t = region_of shelf first_tuples t 0 ∷ region_of shelf first_tuples t 1 ∷ region_of shelf first_tuples t 2 ∷ []

pub record Figure4 : Type 0 where
  -- "three regions which are the first regions from G0, G2, G6 respectively"
  pub tuple_0 : regions_at 0 ≡ region 0 0 ∷ region 2 0 ∷ region 6 0 ∷ []
  -- "the second region from group G0 and the first regions from group G1 and group G3"
  pub tuple_1 : regions_at 1 ≡ region 0 1 ∷ region 1 0 ∷ region 3 0 ∷ []
  pub back : cell_at shelf first_tuples 1 4 ≡ cell 1 0 1 1
  -- label 3 is on D0, and on D20 as parity; "P1 = 2 ⊕ 3" is on D1; the diagonal of D20's unit ends on D18
  pub four :
      four_of shelf first_tuples 3
      ≡ record { user = place 0 1; outer = place 20 1; inner = place 1 2; both = place 18 2 }
