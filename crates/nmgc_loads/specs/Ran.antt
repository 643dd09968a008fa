-- Runs of loads that ended.
use Rattle.std.specs.Prelude.{ℕ, List}
use Rattle.nmgc_limits.specs.Limits.{most_segment_words}
use Rattle.nmgc_world_spec.specs.declared.command.Reply.{Reply}
use Rattle.nmgc_script.specs.declared.script.Config.{Config}
use Rattle.nmgc_run_laws.specs.Limits.{most_commands}
use Rattle.nmgc_cycle.specs.Programs.{HasRunPrograms}
use Rattle.nmgc_decider.specs.{Heap.IsHeap, Waiting.IsWaiting, declared.decider.Decided.Decided}
use Rattle.nmgc_loads.specs.{Ready.AreLoads, declared.load.Load.Load, declared.run.Finished.Finished}

-- programs with loads as deciders, one for each mutator of a heap, ran to this end. They gave the commands of the collector's
-- run, and took its replies. They may have any task
pub record HasRunLoads (threads : ℕ) (f : Finished) : Type 0 where
  pub config : Config
  pub heap : IsHeap threads config
  pub began : List (Decided Load)
  pub loads : AreLoads threads most_commands began
  pub ran : HasRunPrograms (λ (p : Decided Load). p.waiting) (λ (p : Decided Load) (r : Reply) (q : Decided Load). Unit {0})
      (λ (p : Decided Load). most_segment_words) (λ (p : Decided Load). p.left)
      (λ (p : Decided Load). Unit {0} × IsWaiting most_segment_words p.left p.waiting) config began f.programs.items f.collector f.«end»
