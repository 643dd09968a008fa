use Rattle.std.proofs.{Common.length, Common.sym, Common.arith, lemmas.List.take_all}
use Rattle.nmgc_io.proofs.tokens.cut_tokens.Goals as goal

pub cut_tokens_within-requires : goal.cut_tokens_within-requires
cut_tokens_within-requires c = sym (take_all (length c.args.line.now) c.args.line.now (omega arith))
