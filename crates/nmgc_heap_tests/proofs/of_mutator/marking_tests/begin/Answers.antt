use Rattle.nmgc_heap_tests.proofs.{Vocabulary.subst, Vocabulary.sym, Vocabulary.◌∙◌, Vocabulary.Opening, Vocabulary.CanOpen, Sampled.begun, Sampled.word_count_is}
use Rattle.nmgc_heap_tests.proofs.of_mutator.marking_tests.begin.Goals as goal

pub start-round-requires-clause-opens : goal.start-round-requires-clause-opens
start-round-requires-clause-opens c = subst (λ (o : Opening).
    CanOpen o c.args.words) (sym c.opening-opening.ensures) (c.a_marking_round_opens.ensures c.args.words c.requires.heap)

pub returns : goal.returns
returns c =
    let s = c.start-round.ensures in (
      begun c.args.words c.start-round.result.round c.opening-opening.result.value c.start-round.result.mutators c.pop.new.self c.in_ok-seat.seat
          c.start-round.result.collector c.opening-opening.ensures s.mutators.0 s.mutators.1 c.in_ok-seat.ensures.last s.collector.0 s.collector.1,
      s.round.1 ∙ word_count_is c.args.words c.requires.heap,
    )
