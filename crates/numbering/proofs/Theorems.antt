-- The theorems of specs/Theorems.antt, in its order. Assumes nothing.
use mathlib.Core.Path.{◌∙◌, ap, refl, sym}
use Rattle.numbering.specs.Positions.{parity_position, data_number}
use Rattle.numbering.specs.Theorems
use Rattle.numbering.proofs.Positions.{data_position_lem, number_of_position}
use Rattle.numbering.proofs.Numbering as numbering
use Rattle.numbering.proofs.SetNumbers as numbers

pub the_last_region_is_the_parity : Theorems.TheLastRegionIsTheParity
unfolding parity_position
the_last_region_is_the_parity G t =
    record {
      parity = refl;
      position = data_position_lem G t;
      number = λ l h. sym (ap (data_number G t) (data_position_lem G t l h)) ∙ number_of_position G t l;
    }

pub user_units_are_numbered : Theorems.UserUnitsAreNumbered
user_units_are_numbered G s =
    record {
      digits = λ n h. numbering.digits_in G n s h;
      number = numbering.number_of_digits G;
      low = numbering.number_lt G;
      tuple = numbering.tuple_of_number G;
      region = numbering.region_of_number G;
      row = numbering.row_of_number G;
      column = numbering.column_of_number G;
    }

pub sets_are_numbered : Theorems.SetsAreNumbered
sets_are_numbered G s =
    record {
      outer_low = numbers.outer_number_lt G;
      inner_low = numbers.inner_number_lt G;
      outer_only = numbers.outer_number_only G;
      inner_only = numbers.inner_number_only G;
      apart = numbers.outer_inner_number G;
      every = numbers.set_of_number G s;
    }
