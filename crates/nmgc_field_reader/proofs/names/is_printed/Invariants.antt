use Rattle.std.proofs.Common.{take}
use Rattle.std.specs.Prelude.{All}
use Rattle.nmgc_field_reader.specs.FieldLines.{IsPrinted}
use Rattle.nmgc_field_reader.proofs.names.is_printed.Given as goal

abbrev pub invariant-loop-byte : goal.invariant-loop-byte
invariant-loop-byte l = All IsPrinted (take l.byte-index l.word)
