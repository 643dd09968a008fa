use Rattle.nmgc_alloc.proofs.Vocabulary.{InSnapshot, InUse, prepared, carried_over, retired, used_within, snapshot_within, snapshot_of_marks, placed_at, turned_at, carried_turns, retired_turns, prepared_snapshot}
use Rattle.nmgc_alloc.proofs.blocks.snapshot_stays.Goals as goal

pub returns-clause-allocate : goal.returns-clause-allocate
returns-clause-allocate c = λ s new m k at sound sound_new a. placed_at InSnapshot snapshot_within snapshot_of_marks s new m k at sound sound_new a

pub returns-clause-carry : goal.returns-clause-carry
returns-clause-carry c = λ s epoch e sound sound_new.
    turned_at InSnapshot InSnapshot (carried_over epoch) s.fresh snapshot_within snapshot_within (carried_turns epoch e) s sound sound_new

pub returns-clause-retire_all : goal.returns-clause-retire_all
returns-clause-retire_all c = λ s sound sound_new.
    turned_at InSnapshot InSnapshot retired s.fresh snapshot_within snapshot_within (retired_turns InSnapshot snapshot_of_marks) s sound sound_new

pub returns-clause-prepare : goal.returns-clause-prepare
returns-clause-prepare c = λ s sound sound_new. turned_at InUse InSnapshot prepared 0 used_within snapshot_within prepared_snapshot s sound sound_new
