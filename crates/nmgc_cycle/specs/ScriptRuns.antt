-- The law that ties runs of scripts to runs of programs: the programs of a script are its lists of commands.
use Rattle.std.specs.Prelude.{ℕ, List, [], Option}
use Rattle.nmgc_world_spec.specs.{declared.command.Command.Command, declared.command.Reply.Reply}
use Rattle.nmgc_script.specs.declared.script.Script.{Script}
use Rattle.nmgc_journal.specs.declared.report.Report.{Report}
use Rattle.nmgc_run_spec.specs.Lawful.{IsRunOf}
use Rattle.nmgc_run_laws.specs.Limits.{FitsRun}
use Rattle.nmgc_mutator.specs.declared.program.Listed.{Listed}
use Rattle.nmgc_cycle.specs.Programs.{AreListed, IsRunOfPrograms}

-- the law that a script's programs, run as lists of commands from their beginnings, have a report of the script's own run
abbrev pub ListsRunAsScripts : (Listed → Option Command) → (Listed → Reply → Listed → Type 0) → (Listed → ℕ) → (Listed → ℕ) → (Listed → Type 0) → Type 0
ListsRunAsScripts next steps words most valid = (script : Script) (before after : List Listed) (report : Report) → FitsRun script →
    AreListed script [] before → IsRunOfPrograms next steps words most valid script.config before after report → IsRunOf script report
