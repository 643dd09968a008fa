-- A lawful report with its heap stated as at any stop. By a law of `nmgc_run_laws`, `Ends.EndsAreStops`, it is lawful.
use Rattle.std.specs.Prelude.{◌≡◌, List, map, Some}
use Rattle.nmgc_object.specs.declared.layout.Layout.{Layout}
use Rattle.nmgc_heap_spec.specs.Objects.{Place}
use Rattle.nmgc_journal.specs.declared.report.Report.{Report}
use Rattle.nmgc_run_spec.specs.{Run.Plan, Run.State, Run.layout_of, Run.answer_of, Run.Run, Run.IsRun, Run.AreRowsOf, Run.last_state, Heap.HoldsAtStop}

-- the report has the heap of a stop with this state, and the names of its listed weak pointers
abbrev pub HasHeapOfStop : Layout → State → Report → Type 0
HasHeapOfStop layout s report = (weaks : List Place) × (report.weaks ≡ map (λ (p : Place). p.name) weaks) ×
    HoldsAtStop layout s report.words report.segments report.mutators weaks

-- the report describes one run of the plan up to its end, and has the heap of its last stop
pub record IsLawfulAtStop (plan : Plan) (report : Report) : Type 0 where
  pub run : Run
  pub is_run : IsRun plan run
  pub agrees : AreRowsOf run report.rounds report.stops report.cycles
  pub end_is : answer_of plan (last_state run) ≡ Some report.end
  pub heap : HasHeapOfStop (layout_of plan) (last_state run) report
