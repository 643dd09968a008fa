-- Lemmas that crates above need too.
use Rattle.nmgc_collector_laws.specs.laws.Vocabulary.{World, IsSound, Facts, Core, facts_kept, interval_of, Cycle, IsCoreOf, newest_first}

-- the facts of a cycle's machine, and its snapshot

pub core_facts : (c : Cycle) (w : World) (core : Core) → IsSound (interval_of c) → IsCoreOf c w core → Facts core
core_facts c w core sound m = facts_kept newest_first c.snapshot sound.world m.events c.rows core m.runs m.open_yet
