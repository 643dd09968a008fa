-- The laws of a sweeper and its cycle, from the cycle's beginning to its end.
use Rattle.std.specs.Prelude.{ℕ, ◌≡◌, ◌↔◌, ◌<◌, List, [], length}
use Rattle.nmgc_world_spec.specs.{declared.value.Name.Name, Reach.Lists, Reach.ListsNumbers, Reach.Counts}
use Rattle.nmgc_object.specs.declared.layout.Layout.{Layout}
use Rattle.nmgc_segment.specs.{Segment.mark_of, Marks.epoch_of}
use Rattle.nmgc_alloc.specs.{AllocState.nth, AllocState.Segments, AllocState.StandsFor, AllocState.AllocState, AllocState.NoneIs, AllocState.IsIn, AllocState.count_in, AllocState.cycle_begun, AllocState.cells, AllocState.PlacesName, Segments.Allocates, Segments.IsWaiting, Settled.AreSettled, Invariant.LieOnce}
use Rattle.nmgc_segment.specs.declared.state.State.TheVariants as stands
use Rattle.nmgc_stop_spec.specs.{Cycle.IsDeadIn, Kept.IsKeptObject, Cycle.IsSweptIn, Cycle.IsHadIn, Cycle.IsFreedIn, Cycle.Cycle, Waiting.AreAsNoted}
use Rattle.nmgc_sweep.specs.{Sweeping.AreKeptMarked, Seen.CycleSeen, Sweeper.Sweeper, Sweeper.AreLeft, Sweeper.HasNotes, Work.HasBegun, Work.IsAtWork}
use Rattle.nmgc_name_lists.specs.Order.{in_order}

-- the law that a sweeper that starts when a cycle begins is the cycle's sweeper
abbrev pub StartNotesSegments : Type 0
StartNotesSegments = (c : Cycle) (words : List ℕ) (segments : Segments) (epoch : ℕ) (sweeper : Sweeper) → StandsFor segments words (cycle_begun c.heap) →
    NoneIs (IsIn stands.Sweeping) c.heap → LieOnce c.heap → epoch ≡ epoch_of c.number → HasBegun segments epoch sweeper → HasNotes c sweeper

-- the law that a sweeper's segments are still exactly the waiting segments, as long as the same segments wait
abbrev pub LeftStays : Type 0
LeftStays = (old new : Segments) (sweeper : Sweeper) → ((number : ℕ) → IsWaiting new number ↔ IsWaiting old number) → new.layout ≡ old.layout →
    AreLeft old sweeper → AreLeft new sweeper

-- a cycle that has just been closed: the facts about its marks and its counts
pub record IsClosedNow (c : Cycle) (closed : ℕ) (a : AllocState) (segments : Segments) (cycle : CycleSeen) (epoch : ℕ) : Type 0 where
  pub from_is : cycle.from ≡ c.from
  pub closed_is : cycle.closed ≡ closed
  pub dead : Lists (IsDeadIn c) cycle.dead
  pub kept : Counts (IsKeptObject c) cycle.kept
  pub as_noted : AreAsNoted c a
  pub marked : AreKeptMarked c a segments epoch
  pub settled : AreSettled c.number segments
  pub begun : 0 < c.number

-- the law that a sweeper is at work once its cycle is closed and before it has swept anything
abbrev pub ClosingBeginsWork : Type 0
ClosingBeginsWork = (c : Cycle) (closed : ℕ) (words : List ℕ) (a : AllocState) (segments : Segments) (cycle : CycleSeen) (sweeper : Sweeper) →
    StandsFor segments words a → HasNotes c sweeper → AreLeft segments sweeper → sweeper.seen.swept ≡ sweeper.left → sweeper.seen.had ≡ [] →
    sweeper.seen.freed ≡ [] → IsClosedNow c closed a segments cycle sweeper.seen.epoch → IsAtWork c closed words a segments cycle sweeper

-- the sweeper's lists are the census of its cycle, once the names are put in order
pub record ShowsCensus (c : Cycle) (sweeper : Sweeper) : Type 0 where
  pub swept : ListsNumbers (IsSweptIn c) sweeper.seen.swept
  pub had : Lists (IsHadIn c) (in_order sweeper.seen.had)
  pub freed : Lists (IsFreedIn c) (in_order sweeper.seen.freed)

-- the law that the lists of a sweeper at work are the census when no segment waits
abbrev pub EndShowsCensus : Type 0
EndShowsCensus = (c : Cycle) (closed : ℕ) (words : List ℕ) (a : AllocState) (segments : Segments) (cycle : CycleSeen) (sweeper : Sweeper) →
    IsAtWork c closed words a segments cycle sweeper → NoneIs (IsIn stands.Sweeping) a → ShowsCensus c sweeper

-- the law that the number of waiting segments is the number of segments that the sweeper has left
abbrev pub LeftIsCounted : Type 0
LeftIsCounted = (words : List ℕ) (a : AllocState) (segments : Segments) (sweeper : Sweeper) → StandsFor segments words a →
    AreLeft segments sweeper → count_in stands.Sweeping a ≡ length sweeper.left

-- a change of segments and blocks that keeps the waiting segments, the names in these segments, and all marks
pub record KeepsWaiting (old new : Segments) (a b : AllocState) : Type 0 where
  pub waits : (number : ℕ) → IsWaiting new number ↔ IsWaiting old number
  pub marks : (number block : ℕ) → mark_of (nth new.segments number) block ≡ mark_of (nth old.segments number) block
  pub names : (number : ℕ) → IsIn stands.Sweeping (cells a number) → (cells b number).names ≡ (cells a number).names
  pub count : length new.segments ≡ length old.segments
  pub layout : new.layout ≡ old.layout

-- the law that a sweeper at work stays at work when the waiting segments, their names and all marks stay
abbrev pub WorkGoesOn : Type 0
WorkGoesOn = (c : Cycle) (closed : ℕ) (words after : List ℕ) (a b : AllocState) (old new : Segments) (cycle : CycleSeen) (sweeper : Sweeper) →
    IsAtWork c closed words a old cycle sweeper → AreLeft old sweeper → StandsFor new after b → KeepsWaiting old new a b →
    IsAtWork c closed after b new cycle sweeper × AreLeft new sweeper

-- the law that placing an object keeps the waiting segments, their names and all marks
abbrev pub PlacingKeepsWaiting : Type 0
PlacingKeepsWaiting = (layout : Layout) (old new : Segments) (a b : AllocState) (mutator class at : ℕ) (name : Name) →
    Allocates old new mutator class at → PlacesName layout a b mutator class name → KeepsWaiting old new a b
