-- The heap at the end of a run is the heap at its last stop.
use Rattle.std.specs.Prelude.{◌≡◌, ◌↔◌, Some}
use Rattle.nmgc_journal.specs.declared.report.Report.{Report}
use Rattle.nmgc_script.specs.declared.script.Script.{Script}
use Rattle.nmgc_run_spec.specs.{AtStop.HasHeapOfStop, Lawful.HoldsAtEnd, Run.Run, Run.IsRun, Run.last_state, Run.plan_of, Run.layout_of, Run.answer_of}
use Rattle.nmgc_run_laws.specs.Limits.{FitsRun}

-- the law that at the end of a run of a script that fits, the heap at the end and the heap at a stop say the same
abbrev pub EndsAreStops : Type 0
EndsAreStops = (script : Script) (report : Report) (run : Run) → FitsRun script → IsRun (plan_of script) run →
    answer_of (plan_of script) (last_state run) ≡ Some report.end →
    HoldsAtEnd (layout_of (plan_of script)) (last_state run) report ↔ HasHeapOfStop (layout_of (plan_of script)) (last_state run) report
