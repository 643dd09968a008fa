-- The cycle in progress and the heap after a round, by the collector's part in it.
use Rattle.nmgc_cycle.proofs.Vocabulary.{◌≡◌, ◌≤◌, List, ◌∷◌, nursery_place, AllocState, Place, LieInOrder, Remembers, Opening, ListsFinalised, Script, AreNurseries, HoldsInCycle, IsPacedAfterRound, HoldsAfterRound, snapshots, ends_of, nurseries_of, recorded_in, young_weaks_in, finalised_in, Cycle, SweepsBeside, AreNamed, Collector, Sweeps, seen, phase_in}
use Rattle.nmgc_alloc.specs.Reserve as reserve
use Rattle.nmgc_cycle.proofs.{rounds.Over.IsOver, rounds.Over.s, rounds.Over.w, rounds.Over.t, rounds.Over.last, rounds.Over.shown, rounds.RoundOver.layout}

-- the round's blocks and addresses: words, segments, nurseries and remembered entries represent them, and the cycle goes on
pub record HasGoneOn (script : Script) (c new : Collector) (o : Opening) (x : IsOver script c new o) : Type 0 where
  pub blocks : AllocState
  pub swept : SweepsBeside script.config.quota (s script c new o x).progress (s script c new o x).allocation blocks
  pub phase : phase_in new.cycle.progress ≡ phase_in c.cycle.progress
  pub at : List Place
  pub heap : HoldsAfterRound (layout script c new o x) (s script c new o x) (t script c new o x blocks) at x.did.words new.heap.segments
      (ends_of (shown script c new o x)) (seen c).weaks
  pub nurseries : AreNurseries (layout script c new o x) at (w script c new o x) (nurseries_of (shown script c new o x))
  pub ordered : LieInOrder (nursery_place (layout script c new o x) 0) at
  pub remembers : Remembers (nursery_place (layout script c new o x) 0) ((s script c new o x).world ∷
      snapshots (t script c new o x blocks).progress) at (w script c new o x) (recorded_in (shown script c new o x)) (young_weaks_in (shown script c new o x))
  pub reported : ListsFinalised (nursery_place (layout script c new o x) 0) at (s script c new o x).world (w script c new o x) (finalised_in (shown script c new o x))
  pub free : reserve.free_count c.heap.segments.segments ≤ reserve.free_count new.heap.segments.segments
  pub cycle : HoldsInCycle (λ (k : Cycle).
      IsPacedAfterRound script.config.quota k (t script c new o x blocks) (shown script c new o x)) (t script c new o x blocks).progress
      (t script c new o x blocks) (shown script c new o x) at
  pub sweeper : Sweeps (t script c new o x blocks).progress (t script c new o x blocks) (last script c new o x)
  pub named : AreNamed (layout script c new o x) c.heap.names blocks
