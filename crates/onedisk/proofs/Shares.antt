-- What each disk gives to restore disk x. Assumes nothing.
use mathlib.Core.Path.{◌∙◌}
use native.Mathlib.Omega.{arith}
use Rattle.sources.specs.Plan.{plan_of}
use Rattle.onedisk.specs.Sources.{triples_in, on_disk, is_unit, in_part}
use Rattle.onedisk.specs.Theorems.{EachDiskGivesItsShare}
use Rattle.onedisk.proofs.Hits.{plan_count}
use Rattle.onedisk.proofs.Members.{triple_among, in_range_lem}
use Rattle.onedisk.proofs.Distinct.{once, itself}
use Rattle.onedisk.proofs.OwnGroup.{group_one}
use Rattle.onedisk.proofs.OtherGroups.{all_but_one}

pub each_disk_gives_its_share : EachDiskGivesItsShare
each_disk_gives_its_share G d L x hx =
    record {
      inside = λ y z w t.
          in_range_lem G d L x hx (record { restores = y; disk = z; unit = w }) (triple_among y z w (triples_in (plan_of G d x)) t);
      once = λ z w. let n = plan_count G d x (is_unit z w) in omega (arith, n, once G d L x hx z w);
      itself = plan_count G d x (on_disk x) ∙ itself G d L x hx;
      others = λ a ha ne. all_but_one G d L x hx a ha ne;
      group = λ z hz same ne p hp. plan_count G d x (in_part G z p) ∙ group_one G d L x hx z same ne p hp;
    }
