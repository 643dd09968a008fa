use Rattle.std.proofs.Common.{arith}
use Rattle.nmgc_cli.proofs.Single.{single, is_argument}
use Rattle.nmgc_cli.proofs.task.is_alone.Goals as goal

pub returns-in-len1 : goal.returns-in-len1
returns-in-len1 c = rw (single c.args.arguments.now c.argument-item.result (omega arith) (omega arith) c.argument-item.is)
    (is_argument _ _ _ _ c.as_str.ensures.value c.eq.ensures)
