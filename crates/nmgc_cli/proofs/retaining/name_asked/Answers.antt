use Rattle.std.proofs.Common.{arith}
use Rattle.nmgc_cli.proofs.Asking.{pair, name_in, no_name_in}
use Rattle.nmgc_cli.proofs.retaining.name_asked.Goals as goal

pub returns-in-len2-clause-asked : goal.returns-in-len2-clause-asked
returns-in-len2-clause-asked c =
    rw (pair c.args.arguments.now c.subcommand-item.result c.name-item.result (omega arith) (omega arith) c.subcommand-item.is c.name-item.is)
    (name_in _ _ _ _ _ c.as_str.ensures.value c.as_str-in-len2.ensures.value c.name_after.ensures.asked)

pub returns-in-len2-clause-none : goal.returns-in-len2-clause-none
returns-in-len2-clause-none c =
    rw (pair c.args.arguments.now c.subcommand-item.result c.name-item.result (omega arith) (omega arith) c.subcommand-item.is c.name-item.is)
    (no_name_in _ _ _ _ _ c.as_str.ensures.value c.as_str-in-len2.ensures.value c.name_after.ensures.none)
