-- The lists over all mutators, in the view of the collector and in the mutators.
use Rattle.std.proofs.{Common.◌≡◌, Common.List, Common.[], Common.◌∷◌, Common.map, lemmas.List.Elements.All-nil, lemmas.List.Elements.All-cons, lemmas.List.Elements.All-head, lemmas.List.Elements.All-tail}
use Rattle.std.specs.Prelude.{All}
use Rattle.nmgc_journal.specs.declared.report.MutatorEnd.{MutatorEnd}
use Rattle.nmgc_mutator.specs.declared.mutator.Mutator.{Mutator}
use Rattle.nmgc_collector_laws.specs.Worked as worked
use Rattle.nmgc_run_spec.specs.Terms as reported
use Rattle.nmgc_run_spec.specs.Terms.{HasAllRegisters}
use Rattle.nmgc_collector_laws.specs.{Seen.ends_of, Seen.end_of, Seen.nurseries_of, Seen.recorded_in, Seen.young_weaks_in, laws.Roots.same_registers, laws.Roots.same_queues, laws.Roots.same_serials}
use Rattle.nmgc_cycle.specs.{declared.collector.Collector.Collector, Roots.HasRegisters, Shown.seen, Shown.seen_mutator}
use Rattle.nmgc_cycle.proofs.lists.RootLists.{same_nurseries, same_recorded, same_weaks}

-- the mutators, as in a report
abbrev ends_in : List Mutator → List MutatorEnd
ends_in ms = map end_of (map seen_mutator ms)

each_whole : (ms : List Mutator) → All HasRegisters ms → All HasAllRegisters (ends_in ms)
each_whole [] h = All-nil HasAllRegisters
each_whole (m ∷ ms) h =
    All-cons HasAllRegisters (end_of (seen_mutator m)) (ends_in ms) (All-head HasRegisters m ms h) (each_whole ms (All-tail HasRegisters m ms h))

module _ (c : Collector) where
  pub registers_seen : reported.registers_of (ends_of (seen c)) ≡ worked.registers_of c.mutators.items
  registers_seen = same_registers c.mutators.items

  pub queues_seen : reported.queues_of (ends_of (seen c)) ≡ worked.queues_of c.mutators.items
  queues_seen = same_queues c.mutators.items

  pub serials_seen : reported.serials_of (ends_of (seen c)) ≡ worked.serials_of c.mutators.items
  serials_seen = same_serials c.mutators.items

  pub nurseries_seen : nurseries_of (seen c) ≡ worked.nurseries_of c.mutators.items
  nurseries_seen = same_nurseries c.mutators.items

  pub recorded_seen : recorded_in (seen c) ≡ worked.recorded_of c.mutators.items
  recorded_seen = same_recorded c.mutators.items

  pub young_seen : young_weaks_in (seen c) ≡ worked.weaks_of c.mutators.items
  young_seen = same_weaks c.mutators.items

  -- each has all its registers
  pub whole_seen : All HasRegisters c.mutators.items → All HasAllRegisters (ends_of (seen c))
  whole_seen h = each_whole c.mutators.items h
