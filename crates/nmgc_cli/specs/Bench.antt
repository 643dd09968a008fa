-- The answer of the subcommand `bench`, which reads no input.
use Rattle.std.specs.Prelude.{◌<◌, ◌^◌}
use Rattle.nmgc_journal.specs.{declared.report.Report.Report, Printing.command_count}

-- the report answers fewer than 2^64 commands, so a summary can count them
abbrev pub HasCount : Report → Type 0
HasCount report = command_count report.rounds < 2 ^ 64
