use Rattle.std.proofs.Common.{◌≡◌, []}
use Rattle.std.specs.Prelude.{All, take}
use Rattle.nmgc_live.proofs.head.has_commands.Given as goal

-- the programs so far have no commands
abbrev pub invariant-loop-program : goal.invariant-loop-program
invariant-loop-program l = All (λ program. program ≡ []) (take l.program-index l.script.threads)
