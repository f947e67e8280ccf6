use Rattle.area_entry.proofs.entering_tests.are_of_first.Goals as goal

pub returns : goal.returns
returns c = record { first = λ t. record { place = 0; owned = c.is_first_of_all.ensures.first t } }
