use Rattle.nmgc_arguments.proofs.{Vocabulary.map, Vocabulary.arith, Vocabulary.Global, Vocabulary.map-append, Vocabulary.string_bytes, Passing.one_more}
use Rattle.nmgc_arguments.proofs.arguments.arguments_of.Goals as goal

pub loop-place-preserved : goal.loop-place-preserved
loop-place-preserved g c =
    let at = rw c.in-Some.is at c.in_ok-argument.ensures in
    let grown = one_more (g.L.CommandLine.arguments c.args.line.now) c.loop-place.place (string_bytes {Z =
    Global} c.in-Some.argument) (map (string_bytes {Z = Global}) c.loop-place.arguments.items) (omega arith) at c.loop-place.invariant in
    rw (c.in_ok-push.ensures.items, map-append) grown
