-- A changed byte changes the XORs that read it, and no others. Assumes nothing.
use Prim.Native.Nat.{ℕ, ◌+◌, ◌*◌, ◌≤◌, ◌<◌}
use mathlib.Core.Path.{◌≡◌, refl, sym, ap, ap₂, subst, ◌∙◌}
use mathlib.Core.Bool.{Bool, true, false, cond}
use mathlib.Core.Logic.{◌⊎◌, inl, inr}
use mathlib.Core.List.{List, [], ◌∷◌}
use lib.Bits.{bit_xor, xor_zero_r}
use lib.Dec.{eqb}
use lib.ListN.{length}
use borrow.Author.Tests.{eq-eqb, eqb-true}
use Rattle.counting.proofs.Bools.{bool_either, bool_not_both, and_both, both_and}
use Rattle.geometry.specs.declared.Geometry.{Geometry}
use Rattle.geometry.specs.Geometry.{units_of, bytes_of}
use Rattle.design.specs.Design.{Laid}
use Rattle.numbering.proofs.Numbering.{digits_only}
use Rattle.layout.specs.Places.{place}
use Rattle.array.specs.Array.{start_of}
use Rattle.leaves.proofs.Xor.{xor_swap, xor_assoc, xor_cancel}
use Rattle.rebuilding.specs.Rebuild.{rebuilt_of}
use Rattle.sources.specs.Plan.{plan_of}
use Rattle.onedisk.specs.OneDisk.{OneLost}
use Rattle.onedisk.specs.Sources.{byte_of, Triple, triples_in, source_byte, source_sum, IsTriple, count_in, on_disk, is_unit}
use Rattle.onedisk.specs.Changes.{OneByteDiffers, DiskStays, DiskDiffers}
use Rattle.onedisk.specs.Theorems.{AChangedByteChangesWhatThePlanSays}
use Rattle.onedisk.proofs.Planned.{each_rebuilt_byte_is_the_XOR_of_its_planned_sources}
use Rattle.onedisk.proofs.Members.{Among, triple_among, among_triple, none_counted, first_only, rest_low, only_one, in_range_lem}
use Rattle.onedisk.proofs.Shares.{each_disk_gives_its_share}

-- ---- the XOR over the sources
module _ (G : Geometry) (a b : List ℕ) (i y : ℕ) where
  abbrev part : List ℕ → Triple → ℕ
  part c s = cond (eqb s.restores y) (source_byte G c i s) 0

  sum_stays :
      (ts : List Triple) → ((s : Triple) → Among s ts → part b s ≡ part a s) → source_sum G b i y ts ≡ source_sum G a i y ts
  unfolding source_sum
  sum_stays [] h = refl
  sum_stays (s ∷ ts) h = ap₂ bit_xor (h s (inl refl)) (sum_stays ts (λ t m. h t (inr m)))

  -- one source differs by e
  sum_differs :
      (f : Triple → Bool) (e : ℕ) (s : Triple) (ts : List Triple) → Among s ts → count_in f ts ≤ 1 → f s ≡ true →
      ((t : Triple) → Among t ts → f t ≡ false → part b t ≡ part a t) → part b s ≡ bit_xor (part a s) e →
      source_sum G b i y ts ≡ bit_xor (source_sum G a i y ts) e
  unfolding source_sum
  sum_differs f e s [] m l h same differs = elim m [ ]
  sum_differs f e s (t ∷ ts) (inl p) l h same differs =
      ap₂ bit_xor (ap (part b) p ∙ differs ∙ ap (λ (r : Triple). bit_xor (part a r) e) (sym p))
      (sum_stays ts (λ r m. same r (inr m) (none_counted f r ts m (first_only f t ts l (ap f p ∙ h)))))
      ∙ xor_swap (part a t) e (source_sum G a i y ts)
  sum_differs f e s (t ∷ ts) (inr m) l h same differs =
      ap₂ bit_xor (same t (inl refl) (fails (bool_either (f t))))
      (sum_differs f e s ts m (rest_low f t ts l) h (λ r q. same r (inr q)) differs)
      ∙ sym (xor_assoc (part a t) (source_sum G a i y ts) e)
    where
      fails : (f t ≡ true) ⊎ (f t ≡ false) → f t ≡ false
      fails (inl q) = bool_not_both (f s) h (none_counted f s ts m (first_only f t ts l q))
      fails (inr q) = q

-- a byte of the array is at one offset of one unit of one disk
byte_only :
    (G : Geometry) (x y i z w j : ℕ) → y < units_of G → w < units_of G → i < G.u → j < G.u →
    start_of G (place x y) + i ≡ start_of G (place z w) + j → ((x ≡ z) × (y ≡ w)) × (i ≡ j)
unfolding start_of
byte_only G x y i z w j hy hw hi hj e =
    let p = digits_only G.u (x * units_of G + y) i (z * units_of G + w) j hi hj e in
    (digits_only (units_of G) x y z w hy hw p.0, p.1)

module _ (G : Geometry) (d marks a b : List ℕ) (x : ℕ) (L : Laid G d) (o : OneLost G marks x) (long : length a ≡ bytes_of G)
    (z w j e : ℕ) (c : OneByteDiffers G a b z w j e) where
  abbrev plan : List Triple
  plan = triples_in (plan_of G d x)

  before : (y i : ℕ) → y < units_of G → i < G.u → byte_of G (rebuilt_of G d marks a) x y i ≡ source_sum G a i y plan
  before = each_rebuilt_byte_is_the_XOR_of_its_planned_sources G d marks a x L o long

  after : (y i : ℕ) → y < units_of G → i < G.u → byte_of G (rebuilt_of G d marks b) x y i ≡ source_sum G b i y plan
  after = each_rebuilt_byte_is_the_XOR_of_its_planned_sources G d marks b x L o (c.long ∙ long)

  -- a source that is another unit, or a byte at another offset, stays
  byte_stays :
      (s : Triple) (i : ℕ) → Among s plan → i < G.u → (is_unit z w s ≡ true → i ≡ j → ⊥) →
      source_byte G b i s ≡ source_byte G a i s
  byte_stays s i m hi ne =
      c.elsewhere (start_of G (place s.disk s.unit) + i)
      (λ q.
      let p = byte_only G s.disk s.unit i z w j (in_range_lem G d L x o.disk s m).2 c.unit hi c.offset q in
      ne (both_and _ _ (eq-eqb s.disk z p.0.0) (eq-eqb s.unit w p.0.1)) p.1)

  -- where no triple that restores y has the changed byte, y's byte at the offset stays
  unit_stays :
      (y i : ℕ) → y < units_of G → i < G.u →
      ((s : Triple) → Among s plan → s.restores ≡ y → is_unit z w s ≡ true → i ≡ j → ⊥) →
      byte_of G (rebuilt_of G d marks b) x y i ≡ byte_of G (rebuilt_of G d marks a) x y i
  unit_stays y i hy hi none =
      after y i hy hi ∙ sum_stays G a b i y plan (λ s m. go s m (bool_either (eqb s.restores y))) ∙ sym (before y i hy hi)
    where
      go :
          (s : Triple) → Among s plan → (eqb s.restores y ≡ true) ⊎ (eqb s.restores y ≡ false) →
          cond (eqb s.restores y) (source_byte G b i s) 0 ≡ cond (eqb s.restores y) (source_byte G a i s) 0
      go s m (inl q) =
          ap (λ (n : ℕ). cond (eqb s.restores y) n 0)
          (byte_stays s i m hi (none s m (eqb-true s.restores y q)))
      go s m (inr q) = rw q refl

  module _ (y : ℕ) (t : IsTriple y z w (triples_in (plan_of G d x))) where
    abbrev it : Triple
    it = record { restores = y; disk = z; unit = w }

    there : Among (record { restores = y; disk = z; unit = w }) (triples_in (plan_of G d x))
    there = triple_among y z w plan t

    once : count_in (is_unit z w) (triples_in (plan_of G d x)) ≤ 1
    once = (each_disk_gives_its_share G d L x o.disk).once z w

    is_it : is_unit z w (record { restores = y; disk = z; unit = w }) ≡ true
    is_it = both_and (eqb z z) (eqb w w) (eq-eqb z z refl) (eq-eqb w w refl)

    y_low : y < units_of G
    y_low = (in_range_lem G d L x o.disk it there).0

    differs_here : byte_of G (rebuilt_of G d marks b) x y j ≡ bit_xor (byte_of G (rebuilt_of G d marks a) x y j) e
    differs_here =
        after y j y_low c.offset
        ∙ sum_differs G a b j y (is_unit z w) e it plan there once is_it
        (λ s m q.
        ap (λ (n : ℕ). cond (eqb s.restores y) n 0)
        (byte_stays s j m c.offset (λ h r. bool_not_both (is_unit z w s) h q)))
        (ap (λ (v : Bool). cond v (byte_of G b z w j) 0) same
        ∙ c.here
        ∙ ap (λ (v : Bool). bit_xor (cond v (byte_of G a z w j) 0) e) (sym same))
        ∙ ap (λ (n : ℕ). bit_xor n e) (sym (before y j y_low c.offset))
      where
        same : eqb y y ≡ true
        same = eq-eqb y y refl

    differs : DiskDiffers G x (rebuilt_of G d marks a) (rebuilt_of G d marks b) y j e
    differs =
        record {
          here = differs_here;
          changed = λ q.
              c.nonzero
              (sym (xor_cancel (byte_of G (rebuilt_of G d marks a) x y j) e)
              ∙ ap (bit_xor (byte_of G (rebuilt_of G d marks a) x y j)) (sym differs_here ∙ q ∙ sym (xor_zero_r _))
              ∙ xor_cancel (byte_of G (rebuilt_of G d marks a) x y j) 0);
          elsewhere = λ v i hv hi ne.
              unit_stays v i hv hi
              (λ s m r h q.
              ne (sym r ∙ ap (λ (k : Triple). k.restores) (only_one (is_unit z w) plan once s it m there h is_it)) q);
        }

  stays : ((y : ℕ) → IsTriple y z w (triples_in (plan_of G d x)) → ⊥) → DiskStays G x (rebuilt_of G d marks a) (rebuilt_of G d marks b)
  stays none y i hy hi =
      unit_stays y i hy hi
      (λ s m r h q.
      let both = and_both (eqb s.disk z) (eqb s.unit w) h in
      none s.restores
      (subst (λ (n : ℕ). IsTriple s.restores n w plan) (eqb-true s.disk z both.0)
      (subst (λ (n : ℕ). IsTriple s.restores s.disk n plan) (eqb-true s.unit w both.1) (among_triple s plan m))))

  own_stays : z ≡ x → DiskStays G x (rebuilt_of G d marks a) (rebuilt_of G d marks b)
  own_stays q =
      stays
      (λ y t.
      bool_not_both (eqb z x) (eq-eqb z x q)
      (none_counted (on_disk x) (record { restores = y; disk = z; unit = w }) plan (triple_among y z w plan t)
      (each_disk_gives_its_share G d L x o.disk).itself))

pub a_changed_byte_changes_what_the_plan_says : AChangedByteChangesWhatThePlanSays
a_changed_byte_changes_what_the_plan_says G d marks a b x L o long z w j e c =
    record {
      planned = differs G d marks a b x L o long z w j e c;
      unplanned = stays G d marks a b x L o long z w j e c;
      own = own_stays G d marks a b x L o long z w j e c;
    }
