use Rattle.nmgc_name_lists.specs.laws.Spans.{span_more}
use Rattle.nmgc_name_lists.proofs.span.Span.with_name.Goals as goal

pub returns : goal.returns
returns c = let span = c.args.self.now in span_more span.maker span.first span.count c.args.name c.requires.0 c.requires.1
