use Rattle.nmgc_script.specs.{Parts.upgraded_number, declared.script.Script.Script}
use Rattle.nmgc_journal.specs.declared.report.Report.{Report}
use Rattle.nmgc_run_spec.specs.Lawful.{IsLawful}
use Rattle.std.proofs.Common.{ℕ}
use Rattle.nmgc_run_laws.proofs.laws.a_version_changes_nothing.Goals as goal

-- a report that is lawful for a script is lawful for a script with another version
other_version : (script : Script) (version : ℕ) (report : Report) → IsLawful script report → IsLawful (record script { version = version }) report
other_version script version report h = record {
  run = h.run;
  is_run = h.is_run;
  agrees = h.agrees;
  end_is = h.end_is;
  heap = h.heap;
}

-- and back
same_version : (script : Script) (version : ℕ) (report : Report) → IsLawful (record script { version = version }) report → IsLawful script report
same_version script version report h = record {
  run = h.run;
  is_run = h.is_run;
  agrees = h.agrees;
  end_is = h.end_is;
  heap = h.heap;
}

pub returns-clause-version : goal.returns-clause-version
returns-clause-version c = λ script version report. (other_version script version report, same_version script version report)

pub returns-clause-upgrade : goal.returns-clause-upgrade
returns-clause-upgrade c = λ script report. (
  other_version script (upgraded_number script.version) report,
  same_version script (upgraded_number script.version) report,
)
