use Rattle.nmgc_arguments.proofs.{Vocabulary.refl, Vocabulary.is_utf8-from_IsUtf8, Passing.not_utf8}
use Rattle.nmgc_arguments.proofs.arguments.text.Goals as goal

pub returns-in-Ok : goal.returns-in-Ok
returns-in-Ok c = rw (is_utf8-from_IsUtf8 c.args.bytes.now c.in-Ok.ensures.cases.1) c.in-Ok.ensures.cases.0

pub returns-in-Err : goal.returns-in-Err
returns-in-Err c = rw (not_utf8 c.args.bytes.now c.in-Err.ensures.cases.0) refl
