use Rattle.std.proofs.Common.{inl, inr, arith}
use Rattle.nmgc_cycle.proofs.collector.empty_words.Goals as goal

pub returns-clause-heap : goal.returns-clause-heap
returns-clause-heap c =
    let i = c.loop-slot.invariant in
    record {
      total = i.total;
      header = i.header;
      name = i.name;
      slots = λ k lt. i.slots k (omega arith);
      zeros = λ at nobody. i.zeros at (elim nobody [ inl first ↦ inl first | inr last ↦ inr last.0 ]);
    }
