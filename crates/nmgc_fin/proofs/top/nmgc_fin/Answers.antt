use Rattle.nmgc_fin.proofs.{Vocabulary.map, Vocabulary.Global, Vocabulary.ℕ, Vocabulary.List, Vocabulary.subst, Vocabulary.sym, Vocabulary.string_bytes, Vocabulary.Rose, Vocabulary.Says, Outputs.completes}
use Rattle.nmgc_fin.proofs.top.nmgc_fin.Goals as goal

pub returns-clause-complete : goal.returns-clause-complete
returns-clause-complete g c =
    completes (map (string_bytes {Z =
    Global}) c.args.arguments.now) (g.S.Source.left c.args.source.now) (g.S.Source.left c.output_of-status.new.source)
    (g.K.Sink.taken c.args.sink.now) (g.K.Sink.taken c.write_output.new.sink)
    (Rose (g.S.Source.faults c.args.source.now) (g.S.Source.faults c.output_of-status.new.source))
    (Rose (g.K.Sink.faults c.args.sink.now) (g.K.Sink.faults c.write_output.new.sink)) c.output_of-status.result.status c.bytes.result.now c.write_output.result
    (subst (λ (t : List ℕ).
    Says (map (string_bytes {Z =
    Global}) c.args.arguments.now) (g.S.Source.left c.args.source.now) (g.S.Source.left c.output_of-status.new.source)
    (Rose (g.S.Source.faults c.args.source.now) (g.S.Source.faults c.output_of-status.new.source)) c.output_of-status.result.status t)
    (sym c.bytes.ensures) c.output_of-status.ensures.says)
    c.write_output.ensures
