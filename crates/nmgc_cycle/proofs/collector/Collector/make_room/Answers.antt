use Rattle.nmgc_cycle.proofs.{Vocabulary.◌≡◌, Vocabulary.List, Vocabulary.length, Vocabulary.slice_index_or, Vocabulary.min, Vocabulary.subst, Vocabulary.sym, Vocabulary.ap, Vocabulary.◌∙◌, Vocabulary.arith, Vocabulary.with_items, Vocabulary.with_items_is, Vocabulary.Config, Vocabulary.Mutator, Vocabulary.HasLists, Vocabulary.AreReserved, Vocabulary.most_at, Vocabulary.◌≤◌, Vocabulary.most_slice, rounds.SliceRoom.on_both, rounds.SliceRoom.asked_room}
use Rattle.nmgc_cycle.proofs.collector.Collector.make_room.Goals as goal

pub reserve_all-requires-clause-count : goal.reserve_all-requires-clause-count
reserve_all-requires-clause-count g c κs within = c.requires.programs.count ∙ sym c.requires.stopped.1.kept.count ∙
    sym (ap (λ (l : List Mutator). length l) c.as_mut_slice.ensures.value)

pub reserve_all-requires-clause-slice : goal.reserve_all-requires-clause-slice
reserve_all-requires-clause-slice g c κs within = subst (λ (x : Config). x.slice ≤ most_slice) (sym c.requires.config) c.requires.limits.fits.config.slice

pub returns-clause-room : goal.returns-clause-room
returns-clause-room g c =
    let script = c.args.script.now.value in
    let own = c.args.self.now in
    let still = c.requires.stopped.1 in
    let new = c.reserve_all.new.mutators in
    let slice = c.args.config.now.slice in
    let programs = c.args.programs.now in
    let old : c.as_mut_slice.result.now ≡ own.mutators.items = c.as_mut_slice.ensures.value in
    on_both c.reserve_all.result (λ kept room.
    let reserved : AreReserved own.mutators.items new = subst (λ (l : List Mutator). AreReserved l new) old kept in
    let back : (with_items own.mutators new).items ≡ new = with_items_is own.mutators new (reserved.count ∙ sym own.mutators.ok.0) in
    asked_room g.P.Program.words g.P.Program.most g.P.Program.valid script own (record own { mutators = with_items own.mutators new }) c.requires.stopped.0
    programs slice c.requires.limits still c.requires.programs (subst (AreReserved own.mutators.items) (sym back) reserved) (λ k d lt.
    subst (λ (l : List Mutator). HasLists (min slice (most_at g.P.Program.most programs k)) (slice_index_or l k d)) (sym back)
    (room k d (let e = ap (λ (l : List Mutator). length l) old in omega (arith, lt, e))))) c.reserve_all.ensures.kept c.reserve_all.ensures.room
