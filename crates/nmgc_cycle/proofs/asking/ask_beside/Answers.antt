use Rattle.nmgc_cycle.proofs.{Vocabulary.subst, Vocabulary.slice_get_within, Vocabulary.get_or_from_slice_get, rounds.AskedParts.all_valid}
use Rattle.nmgc_cycle.proofs.asking.ask_beside.Goals as goal

pub is_worth_a_thread-requires-after_bounds : goal.is_worth_a_thread-requires-after_bounds
is_worth_a_thread-requires-after_bounds g c κs within k p e = subst g.P.Program.valid (get_or_from_slice_get c.args.programs.now k p p e)
    (all_valid g.P.Program.words g.P.Program.most g.P.Program.valid c.args.inputs.now.round.now c.args.inputs.now.config.now.slice c.args.workers.now c.args.programs.now
    c.requires.mutators k p (slice_get_within c.args.programs.now k p e))
