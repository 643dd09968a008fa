-- Why a closing is within its bounds: the stop at which the marker is done is neither too late nor too early.
use Rattle.std.specs.Prelude.{ℕ, ◌≡◌, ◌+◌, ◌-◌, ◌/◌, ◌≤◌, List, true, false}
use Rattle.nmgc_snapshot_laws.specs.State.{State as Core}
use Rattle.nmgc_alloc.specs.AllocState.{AllocState}
use Rattle.nmgc_heap_spec.specs.Objects.{Place}
use Rattle.nmgc_stop_spec.specs.Cycle.{Cycle}
use Rattle.nmgc_stop_spec.specs.Kept.{IsKeptObject, interval_of}
use Rattle.nmgc_world_laws.specs.Reachable.{IsSound}
use Rattle.nmgc_run_spec.specs.Run.{IsSoon, IsPaced, MayWait, State}
use Rattle.nmgc_collector_laws.specs.{Collector.IsPacedAfterRound, Marker.IsCoreOf, Marker.IsTied, Seen.CollectorSeen}
use Rattle.nmgc_world_spec.specs.Reach.{Counts}

-- the law that a closing isn't too late: earlier rounds scanned their quotas, and the last scanned something or was the first
abbrev pub ClosingIsSoon : Type 0
ClosingIsSoon = (quota : ℕ) (c : Cycle) (t : State) (seen : CollectorSeen) (kept : ℕ) → IsPacedAfterRound quota c t seen → seen.marker.marked ≤ kept →
    Counts (IsKeptObject c) kept → IsSoon quota c t.number

-- the law that a closing that isn't too late comes at most (kept - 1) / quota + 1 rounds (rounded down) after the snapshot
abbrev pub ClosingComes : Type 0
ClosingComes = (quota : ℕ) (c : Cycle) (closed kept : ℕ) → 1 ≤ quota → IsSoon quota c closed → Counts (IsKeptObject c) kept →
    closed ≤ c.from + ((kept - 1) / quota + 1)

-- the law that a closing after a round that left nothing to scan isn't too early (`IsPaced`)
abbrev pub ClosingIsPaced : Type 0
ClosingIsPaced = (quota : ℕ) (c : Cycle) (t : State) (seen : CollectorSeen) (allocation : AllocState) (places : List Place) (core : Core) →
    IsSound (interval_of c) → IsCoreOf c t.world core → IsTied c allocation seen.segments places seen.marker core → c.from + 1 ≤ t.number →
    IsPacedAfterRound quota c t seen → seen.work.empty ≡ true → IsPaced quota c t.number

-- the law that a cycle may go on after a round that left something to scan (`MayWait`)
abbrev pub WaitingIsPaced : Type 0
WaitingIsPaced = (quota : ℕ) (c : Cycle) (t : State) (seen : CollectorSeen) → c.from + 1 ≤ t.number → IsPacedAfterRound quota c t seen →
    seen.work.empty ≡ false → MayWait quota c t.number
