-- The result for bytes that spell no script.
use Rattle.std.specs.Prelude.{ℕ, List}
use Rattle.nmgc_script.specs.{declared.fault.ScriptFault.ScriptFault, Spelling.kept_lines, Spelling.IsFaultOfText, Parts.end_of}
use Rattle.nmgc_script.specs.declared.fault.ScriptFault.TheVariants as script_fault

-- the report for bytes that spell no script: the first bad line and its first cause
abbrev pub IsFaultOf : List ℕ → ScriptFault → Type 0
IsFaultOf bytes script_fault.NoMemory = Unit {0}
IsFaultOf bytes (script_fault.Bad line c) = IsFaultOfText (end_of bytes) (kept_lines bytes) line c
