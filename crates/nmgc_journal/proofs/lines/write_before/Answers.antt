use Rattle.std.proofs.Common.{decimal, arith}
use Rattle.nmgc_journal.proofs.Buffers.{written}
use Rattle.nmgc_journal.proofs.lines.write_before.Goals as goal

pub returns-clause-text : goal.returns-clause-text
returns-clause-text c = written c.args.line.now (decimal c.args.number) c.write_digits.result c.args.end c.args.byte _ (omega arith) (omega arith)
    c.write_digits.ensures.written
