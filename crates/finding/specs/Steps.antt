-- 01, "Calls" (audit): the count as the audit takes it: with one set more, with sets that were counted apart, and with several
-- sets more from a number on. Assumes nothing.
use Rattle.std.specs.Prelude.{ℕ, zero, suc, ◌+◌, Bool, true, false, cond, eqb}
use Rattle.finding.specs.declared.Found.{Found}

-- what is found with set s, the next: it XORs to zero, or it does not
abbrev pub with_set : Found → (s : ℕ) → (zero : Bool) → Found
with_set f s true = f
with_set f s false = record { bad = f.bad + 1; lowest = cond (eqb f.bad 0) s f.lowest }

-- x is what is found of some sets; with `earlier`, what is found of sets that all have lower numbers, counted apart. Where no set
-- of x is bad it is `earlier` whole, its lowest number too
abbrev pub after : Found → (earlier : Found) → Found
after x f =
    cond (eqb x.bad 0) f (record { bad = f.bad + x.bad; lowest = cond (eqb f.bad 0) x.lowest f.lowest })

-- what is found with n sets more, from number s on; `zeros` says of the x-th of them, from 0, whether it XORs to zero
unfoldable pub found_from : (zeros : ℕ → Bool) → Found → (s n : ℕ) → Found
found_from zeros f s zero = f
found_from zeros f s (suc n) = with_set (found_from zeros f s n) (s + n) (zeros n)
