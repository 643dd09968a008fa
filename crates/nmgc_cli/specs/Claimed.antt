-- The claims of several markers in the world that a run leaves.
use Rattle.std.specs.Prelude.{ℕ, List}
use Rattle.nmgc_world_spec.specs.{declared.value.Name.Name, World.World}
use Rattle.nmgc_script.specs.{declared.script.Script.Script, Spelling.IsInLimits}
use Rattle.nmgc_journal.specs.declared.report.Report.{Report}
use Rattle.nmgc_run_spec.specs.{Lawful.IsLawful, Run.last_state}
use Rattle.nmgc_pmark.specs.{Strong.roots_of, Claims.AreClaims}

-- the last world of a lawful report's run
abbrev pub last_world : (script : Script) (report : Report) → IsLawful script report → World
last_world script report lawful = (last_state lawful.run).world

-- the claims of markers that begin at the last world's roots, for each script within the limits that makes the report lawful
abbrev pub AreClaimsOf : ℕ → Report → List (List Name) → Type 0
AreClaimsOf markers report by = (script : Script) → IsInLimits script → (lawful : IsLawful script report) →
    AreClaims (last_world script report lawful) (roots_of (last_world script report lawful)) markers by
