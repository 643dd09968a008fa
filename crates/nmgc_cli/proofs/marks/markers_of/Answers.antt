use Rattle.nmgc_cli.proofs.{Vocabulary.arith, Vocabulary.Marks, Asking.pair, Asking.asked_in, Asking.none_in}
use Rattle.nmgc_cli.proofs.marks.markers_of.Goals as goal

pub returns-in-len2-clause-asked : goal.returns-in-len2-clause-asked
returns-in-len2-clause-asked c =
    rw (pair c.args.arguments.now c.name-item.result c.number-item.result (omega arith) (omega arith) c.name-item.is c.number-item.is)
    (asked_in Marks _ _ _ _ _ c.as_str.ensures.value c.as_str-in-len2.ensures.value c.markers_named.ensures.asked)

pub returns-in-len2-clause-none : goal.returns-in-len2-clause-none
returns-in-len2-clause-none c =
    rw (pair c.args.arguments.now c.name-item.result c.number-item.result (omega arith) (omega arith) c.name-item.is c.number-item.is)
    (none_in Marks _ _ _ _ _ c.as_str.ensures.value c.as_str-in-len2.ensures.value c.markers_named.ensures.none)
