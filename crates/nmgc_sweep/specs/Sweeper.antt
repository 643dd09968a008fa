-- A sweeper in contracts, and the facts that it keeps from its cycle's beginning on.
use Rattle.std.specs.Prelude.{ℕ, ◌≡◌, ◌*◌, ◌<◌, ◌≤◌, ◌++◌, List, length, drop, Contains}
use Rattle.nmgc_object.specs.declared.size.TheConstants.{MIN_BLOCK_WORDS}
use Rattle.nmgc_alloc.specs.{AllocState.Segments, Segments.IsWaiting, Invariant.LieOnce}
use Rattle.nmgc_world_spec.specs.Reach.{Ascends, ListsNumbers}
use Rattle.nmgc_sweep.specs.{Sweeping.HasNoted, Seen.SweeperSeen}
use Rattle.nmgc_stop_spec.specs.Cycle.{Cycle}

-- a sweeper: the view that any collector's sweeper has, the segments that it hasn't swept, in order, and the number of names
-- that it has room for in each. Two counts of the gate's passes in the whole run: by upper halves of sweeps, and by all else
pub record Sweeper : Type 0 where
  pub seen : SweeperSeen
  pub left : List ℕ
  pub most : ℕ
  pub turns : ℕ
  pub upper_turns : ℕ

-- the sweeper with another count of the gate's passes
abbrev pub turned : Sweeper → ℕ → Sweeper
turned sweeper turns = record sweeper { turns = turns }

-- the segments that the sweeper hasn't swept are exactly the waiting ones, in order, and there is room for the names of each
pub record AreLeft (segments : Segments) (sweeper : Sweeper) : Type 0 where
  pub numbers : ListsNumbers (IsWaiting segments) sweeper.left
  pub room : segments.layout.words ≤ MIN_BLOCK_WORDS * sweeper.most

-- segments that can be listed: the segments that the sweeper hasn't swept wait, and there is room for the names of each. The
-- sweeper planned each segment that waits
pub record CanList (segments : Segments) (sweeper : Sweeper) : Type 0 where
  pub waits : (number : ℕ) → Contains sweeper.left number → IsWaiting segments number
  pub planned : (number : ℕ) → IsWaiting segments number → Contains sweeper.seen.swept number
  pub room : segments.layout.words ≤ MIN_BLOCK_WORDS * sweeper.most

-- a sweeper on its plan: it planned the segments that it has done, and then the rest, which is in order. The number from
-- which it searches on lies above each segment that it has done, and above none of the rest
pub record IsOnPlan (planned done : List ℕ) (next : ℕ) : Type 0 where
  pub first : planned ≡ done ++ drop (length done) planned
  pub ordered : Ascends (drop (length done) planned)
  pub above : (number : ℕ) → Contains done number → number < next
  pub below : (number : ℕ) → Contains (drop (length done) planned) number → next ≤ number

-- a cycle's sweeper: it noted the segments that the cycle has to judge, and no name lay in two blocks when the cycle began
pub record HasNotes (c : Cycle) (sweeper : Sweeper) : Type 0 where
  pub noted : HasNoted c sweeper.seen
  pub once : LieOnce c.heap
