use Rattle.nmgc_alloc.proofs.Vocabulary.{InSnapshot, IsMarked, IsCarried, in_snapshot, is_marked, is_carried, prepared, carried_over, retired, snapshot_within, marked_within, snapshot_of_marks, marked_of_marks, snapshot_counted, marked_counted, placed_count, turned_count, turned_number, carried_counted, carried_turns, carried_marks_turn, retired_turns, prepared_marks, marks_snapshot_count, marks_marked_count, swept_marked_count}
use Rattle.nmgc_alloc.proofs.blocks.block_counts_follow.Goals as goal

pub returns-clause-allocate : goal.returns-clause-allocate
returns-clause-allocate c = λ s new m k at epoch e sound a. (
  placed_count InSnapshot in_snapshot snapshot_within snapshot_of_marks snapshot_counted s new m k at sound a,
  placed_count (λ x b. IsMarked x epoch b) (is_marked epoch) (marked_within epoch e) (marked_of_marks epoch) (marked_counted epoch) s new m k at sound a,
)

pub returns-clause-mark_at : goal.returns-clause-mark_at
returns-clause-mark_at c = λ s new at epoch answer e sound m. (
  marks_snapshot_count s new at epoch answer e sound m,
  marks_marked_count s new at epoch answer e sound m,
)

pub returns-clause-carry : goal.returns-clause-carry
returns-clause-carry c = λ s epoch e sound. (
  turned_count InSnapshot in_snapshot (carried_over epoch) snapshot_counted (carried_turns epoch e) s sound,
  turned_number (IsCarried epoch) (λ x b.
      IsMarked x epoch b) (is_carried epoch) (is_marked epoch) (carried_over epoch) (carried_counted epoch) (marked_counted epoch) (carried_marks_turn epoch e) s sound,
)

pub returns-clause-retire_all : goal.returns-clause-retire_all
returns-clause-retire_all c = λ s epoch sound. (
  turned_count InSnapshot in_snapshot retired snapshot_counted (retired_turns InSnapshot snapshot_of_marks) s sound,
  turned_count (λ x b. IsMarked x epoch b) (is_marked epoch) retired (marked_counted epoch) (retired_turns (λ x b.
      IsMarked x epoch b) (marked_of_marks epoch)) s sound,
)

pub returns-clause-prepare : goal.returns-clause-prepare
returns-clause-prepare c = λ s epoch sound. turned_count (λ x b.
    IsMarked x epoch b) (is_marked epoch) prepared (marked_counted epoch) (prepared_marks epoch) s sound

pub returns-clause-sweep_next : goal.returns-clause-sweep_next
returns-clause-sweep_next c = swept_marked_count
