-- The proofs, in the words of the statements. Assumes nothing.
use Rattle.address.proofs.Back.{back_and_map}
use Rattle.writing.proofs.Accepted.{accepted_difference}
use Rattle.calls.specs.Theorems
use Rattle.calls.proofs.Calls.{every_call}
use Rattle.calls.proofs.ForC.{every_function_for_C}
use Rattle.calls.proofs.Same.{same_as_the_call}
use Rattle.calls.proofs.Published as published
use Rattle.calls.proofs.Written as written

pub demand_1 : Theorems.Demand1
demand_1 = (every_call, every_function_for_C)

pub the_functions_for_C_are_the_calls : Theorems.TheFunctionsForCAreTheCalls
the_functions_for_C_are_the_calls = same_as_the_call

pub the_map_gives_the_published_places : Theorems.TheMapGivesThePublishedPlaces
the_map_gives_the_published_places = published.places_of_the_map

pub each_mapped_unit_has_its_label : Theorems.EachMappedUnitHasItsLabel
each_mapped_unit_has_its_label = published.label_of_a_mapped_unit

pub the_way_back_gives_the_published_roles : Theorems.TheWayBackGivesThePublishedRoles
the_way_back_gives_the_published_roles = published.roles_of_the_way_back

pub the_way_back_names_what_the_map_names : Theorems.TheWayBackNamesWhatTheMapNames
the_way_back_names_what_the_map_names = published.back_of_the_map

pub the_map_names_what_the_way_back_names : Theorems.TheMapNamesWhatTheWayBackNames
the_map_names_what_the_way_back_names = back_and_map

pub an_accepted_write_puts_one_difference_into_four_units : Theorems.AnAcceptedWritePutsOneDifferenceIntoFourUnits
an_accepted_write_puts_one_difference_into_four_units = accepted_difference

pub an_accepted_write_goes_to_the_published_places : Theorems.AnAcceptedWriteGoesToThePublishedPlaces
an_accepted_write_goes_to_the_published_places = written.places_of_a_write
