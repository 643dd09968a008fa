-- Rows, requests and answers are no facts of heap and cycle: with others the collector represents the same state.
use Rattle.nmgc_cycle.proofs.Vocabulary.{◌≡◌, List, refl, sym, subst, Place, Script, HoldsInCycle, IsPacedAtStop, IsSoundState, State, Progress, idle, marking, sweeping, plan_of, Cycle, Collector, IsWellFormed, Sweeps, seen, StandsAt}

-- its parts are well-formed, whatever its cycle
pub kept_reported : (script : Script) (old new : Collector) → new ≡ record old {
  rows = record old.rows { stops = new.rows.stops; cycles = new.rows.cycles };
  cycle = record old.cycle {
    progress = new.cycle.progress;
    collect = new.cycle.collect;
    full = new.cycle.full;
    turns = new.cycle.turns;
    upper_turns = new.cycle.upper_turns;
  };
  answered = new.answered;
} → IsWellFormed script old →
    IsWellFormed script new
kept_reported script old new rest k = rw rest (record {
  layout = k.layout;
  sound = k.sound;
  lists = k.lists;
  entries = k.entries;
  has_words = k.has_words;
  count = k.count;
  own = λ n m e. let o = k.own n m e in record { number = o.number; layout = o.layout; whole = o.whole; no_replies = o.no_replies; line = o.line };
  inbox = k.inbox;
  positions_are = k.positions_are;
  positions = k.positions;
  no_ends = k.no_ends;
  room = k.room;
  workers = k.workers;
})

module _ (script : Script) (old new : Collector) (s t : State) where
  abbrev reported : Collector
  reported = record old {
    rows = record old.rows { stops = new.rows.stops };
    cycle = record old.cycle { collect = new.cycle.collect; full = new.cycle.full };
    answered = new.answered;
  }

  abbrev then_state : State
  then_state = record s { collect = t.collect; full = t.full }

  sound_reported : IsSoundState (plan_of script) s → IsSoundState (plan_of script) then_state
  sound_reported h = record {
    world = h.world;
    able = record { programs = h.able.programs; mutators = h.able.mutators; registers = h.able.registers; serials = h.able.serials };
    sound_blocks = h.sound_blocks;
    known = h.known;
    cycle = h.cycle;
    earlier = h.earlier;
    blocks = h.blocks;
  }

  cycle_reported : (q : Progress) (places : List Place) → HoldsInCycle (λ (k : Cycle).
      IsPacedAtStop script.config.quota k s (seen old)) q s (seen old) places →
      HoldsInCycle (λ (k : Cycle). IsPacedAtStop script.config.quota k then_state (seen reported)) q then_state (seen reported) places
  cycle_reported idle places h = h
  cycle_reported (marking k) places h = (
    record {
      core = h.0.core;
      machine = h.0.machine;
      tied = h.0.tied;
      remembered = h.0.remembered;
      low = h.0.low;
      room = h.0.room;
      queue_room = h.0.queue_room;
      from_is = h.0.from_is;
      noted = h.0.noted;
      nothing_listed = h.0.nothing_listed;
    },
    record { scanned = h.1.scanned; not_done = h.1.not_done },
  )
  cycle_reported (sweeping k closed) places h = h

  sweeper_reported : (q : Progress) → Sweeps q s old → Sweeps q then_state reported
  sweeper_reported idle h = tt
  sweeper_reported (marking k) h = (record { notes = h.0.notes; left = h.0.left }, h.1, h.2, h.3)
  sweeper_reported (sweeping k closed) h = h

  stands_there : new.cycle.collect ≡ t.collect → new.cycle.full ≡ t.full → StandsAt script old s → StandsAt script reported then_state
  stands_there collect full h = record {
    kept = kept_reported script old reported refl h.kept;
    sound = sound_reported h.sound;
    course = h.course;
    matches = record { phase = h.matches.phase; begun = h.matches.begun; collect = collect; full = full };
    heap = record { places = h.heap.places; all = h.heap.all; holds = h.heap.holds; listed = h.heap.listed };
    nurseries = h.nurseries;
    empty = h.empty;
    rest = h.rest;
    cycle = cycle_reported s.progress h.heap.places h.cycle;
    sweeper = sweeper_reported s.progress h.sweeper;
    named = h.named;
  }

  -- a state with the same requests
  pub stands_reported : new ≡ reported → t ≡ then_state → new.cycle.collect ≡ t.collect → new.cycle.full ≡ t.full → StandsAt script old s → StandsAt script new t
  stands_reported new_is state_is collect full h = subst (λ (z : Collector × State). StandsAt script z.0 z.1) (λ i. (
    sym new_is i,
    sym state_is i,
  )) (stands_there collect full h)
