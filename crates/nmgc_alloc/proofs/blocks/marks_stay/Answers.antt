use Rattle.nmgc_alloc.proofs.Vocabulary.{IsMarked, IsCarried, prepared, carried_over, retired, marked_within, carried_within, marked_of_marks, placed_at, turned_at, prepared_marks, retired_turns, carried_marks_turn, swept_at}
use Rattle.nmgc_alloc.proofs.blocks.marks_stay.Goals as goal

pub returns-clause-allocate : goal.returns-clause-allocate
returns-clause-allocate c = λ s new m k at epoch e sound sound_new a.
    placed_at (λ x b. IsMarked x epoch b) (marked_within epoch e) (marked_of_marks epoch) s new m k at sound sound_new a

pub returns-clause-prepare : goal.returns-clause-prepare
returns-clause-prepare c = λ s epoch e sound sound_new. turned_at (λ x b. IsMarked x epoch b) (λ x b.
    IsMarked x epoch b) prepared 0 (marked_within epoch e) (marked_within epoch e) (prepared_marks epoch) s sound sound_new

pub returns-clause-retire_all : goal.returns-clause-retire_all
returns-clause-retire_all c = λ s epoch e sound sound_new. turned_at (λ x b. IsMarked x epoch b) (λ x b.
    IsMarked x epoch b) retired s.fresh (marked_within epoch e) (marked_within epoch e) (retired_turns (λ x b.
    IsMarked x epoch b) (marked_of_marks epoch)) s sound sound_new

pub returns-clause-sweep_next : goal.returns-clause-sweep_next
returns-clause-sweep_next c = swept_at

pub returns-clause-carry : goal.returns-clause-carry
returns-clause-carry c = λ s epoch e sound sound_new. turned_at (IsCarried epoch) (λ x b.
    IsMarked x epoch b) (carried_over epoch) s.fresh (carried_within epoch e) (marked_within epoch e) (carried_marks_turn epoch e) s sound sound_new
