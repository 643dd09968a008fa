-- The cycle in progress beside its world: its number, its beginning, and the segments that wait to be swept.
use Rattle.std.specs.Prelude.{ℕ, ◌≡◌, ◌<◌, ◌≤◌, List}
use Rattle.nmgc_world_spec.specs.{declared.command.Reply.Reply, World.World, Reach.Row}
use Rattle.nmgc_segment.specs.declared.state.State.TheVariants as stands
use Rattle.nmgc_object.specs.declared.layout.Layout.{Layout}
use Rattle.nmgc_script.specs.declared.script.Config.{Config}
use Rattle.nmgc_alloc.specs.AllocState.{AllocState, IsIn, NoneIs, cells}
use Rattle.nmgc_stop_spec.specs.{Cycle.IsSweptIn, Cycle.Cycle, Waiting.AreAsNoted}
use Rattle.nmgc_run_spec.specs.Run.{Promotes, IsRound, Run, IsRun, last_state, Plan, State, Progress, idle, marking, sweeping, cycle_started}

-- the cycle is the last one begun, at this stop or before, and its number isn't 0
pub record IsLastBegun (c : Cycle) (number begun : ℕ) : Type 0 where
  pub number_is : c.number ≡ begun
  pub some : 0 < c.number
  pub from_before : c.from ≤ number

-- nothing was swept yet: exactly the segments filled when the cycle began wait, with the names that they had then
pub record WaitsWhole (c : Cycle) (allocation : AllocState) : Type 0 where
  pub as_noted : AreAsNoted c allocation
  pub all : (number : ℕ) → IsSweptIn c number → IsIn stands.Sweeping (cells allocation number)

-- a cycle in course: it is the last one begun, at this stop or before. While it marks, exactly the segments filled when it
-- began wait, with the names of then; while it sweeps, some of them still wait. Without a cycle, no segment waits
abbrev pub IsInCourse : Progress → ℕ → ℕ → AllocState → Type 0
IsInCourse idle number begun allocation = NoneIs (IsIn stands.Sweeping) allocation
IsInCourse (marking c) number begun allocation = IsLastBegun c number begun × WaitsWhole c allocation
IsInCourse (sweeping c closed) number begun allocation = IsLastBegun c number begun × AreAsNoted c allocation

-- the cycle of the state is in course
abbrev pub IsStateInCourse : State → Type 0
IsStateInCourse s = IsInCourse s.progress s.number s.begun s.allocation

-- the law that the cycle is in course at every stop of a run
abbrev pub RunsAreInCourse : Type 0
RunsAreInCourse = (plan : Plan) (run : Run) → IsRun plan run → IsStateInCourse (last_state run)

-- the laws that a cycle stays in course over a round, and over a promotion
abbrev pub RoundsStayInCourse : Type 0
RoundsStayInCourse = (config : Config) (s t : State) (replies : List (List Reply)) (rows : List Row) → IsRound config s replies rows t →
    IsStateInCourse s → IsStateInCourse t

abbrev pub PromotionsStayInCourse : Type 0
PromotionsStayInCourse = (layout : Layout) (began : World) (s t : State) (count : ℕ) → Promotes layout began s t count → IsStateInCourse s → IsStateInCourse t

-- the law that a cycle that begins is in course, if no segment waits before it
abbrev pub CyclesBeginInCourse : Type 0
CyclesBeginInCourse = (s : State) → NoneIs (IsIn stands.Sweeping) s.allocation → IsStateInCourse (cycle_started s)
