use Rattle.nmgc_world_laws.specs.laws.StoredLaws.{step_stores, old_refers_to_young, old_weaks_stay, old_weaks_are_finalised}
use Rattle.nmgc_world_laws.proofs.laws.new_values_are_stored.Goals as goal

pub returns : goal.returns
returns c = record { step = step_stores; rows = old_refers_to_young; weaks = old_weaks_stay; finalised = old_weaks_are_finalised }
