use Rattle.nmgc_name_lists.proofs.Vocabulary.{sym, span_length}
use Rattle.nmgc_name_lists.proofs.span.Span.count.Goals as goal

pub returns : goal.returns
returns c = let span = c.args.self.now in sym (span_length span.maker span.first span.count)
