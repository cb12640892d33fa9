-- A loop that takes a tuple's regions into a list. Assumes nothing.
use Prim.Native.Nat.{ℕ, ◌+◌, ◌≤◌, ◌<◌}
use mathlib.Core.Path.{◌≡◌, subst⁻¹, ◌∙◌}
use mathlib.Core.List.{List}
use native.Mathlib.Omega.{arith}
use lib.ListN.{length, set}
use Rattle.std.proofs.Common.{below_more, get_or-set_same, get_or-set_other}
use Rattle.geometry.specs.declared.Geometry.{Geometry}
use Rattle.layout.specs.declared.Region.{Region}
use Rattle.layout.specs.Regions.{region, region_of}
use Rattle.layout.specs.Ranges.{SmallRegion}
use Rattle.sources.specs.Written.{in_hand, Regions, RegionsOf}

-- the first e are those of tuple t, and small
abbrev pub Taken : Geometry → List ℕ → (t : ℕ) → List Region → (e : ℕ) → Type 0
Taken G d t regions e = (j : ℕ) → j < e → (in_hand regions j ≡ region_of G d t j) × SmallRegion (in_hand regions j)

module _ (G : Geometry) (d : List ℕ) (t : ℕ) (regions : List Region) (e : ℕ) (s : Taken G d t regions e) where
  pub taken_more : e < length regions → (a : Region) → (a ≡ region_of G d t e) × SmallRegion a → Taken G d t (set regions e a) (e + 1)
  taken_more h a q =
      let own = get_or-set_same regions e a (region 0 0) h in
      below_more _ _
      (λ j k.
      let other = get_or-set_other regions e j a (region 0 0) (omega arith) in
      rw other (s j k))
      (own ∙ q.0, subst⁻¹ SmallRegion own q.1)

  pub taken_all : G.k ≤ length regions → G.k ≤ e → Regions G regions × RegionsOf G d t regions
  taken_all long h = (record { long = long; small = λ j k. (s j (omega arith)).1 }, λ j k. (s j (omega arith)).0)
