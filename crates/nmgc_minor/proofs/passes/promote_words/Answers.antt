use Rattle.nmgc_minor.proofs.{Vocabulary.flat_map, Vocabulary.◌+◌, Vocabulary.◌++◌, Vocabulary.ℕ, Vocabulary.List, Vocabulary.length, Vocabulary.map, Vocabulary.refl, Vocabulary.sym, Vocabulary.ap, Vocabulary.subst, Vocabulary.◌∙◌, Vocabulary.arith, Vocabulary.Move, Vocabulary.inputs_of, Vocabulary.IsSharedSlot, Vocabulary.PlacesRange, Vocabulary.CanCopyAll, Vocabulary.CopiesAll, Vocabulary.ForwardsAt, Vocabulary.forward_word, Vocabulary.Promotes, WriteLaws.address_in, WriteLaws.parts_of, WriteLaws.leaves, WriteLaws.lent_back, WriteLaws.ready, WriteLaws.ready_small, WriteLaws.ready_copy, WriteLaws.ready_promotes}
use Rattle.nmgc_minor.proofs.passes.promote_words.Goals as goal

pub find_survivors-requires-clause-recorded : goal.find_survivors-requires-clause-recorded
find_survivors-requires-clause-recorded g c = λ at h.
    let b = c.requires.can.recorded at.0 (address_in (flat_map g.M.MutatorRoots.recorded c.args.mutators.now) at h) in
    let i = c.requires.can.inside in
    omega (arith, b, i)

pub find_survivors-requires-clause-weaks : goal.find_survivors-requires-clause-weaks
find_survivors-requires-clause-weaks g c = λ at h. c.requires.can.weaks at.0 (address_in (flat_map g.M.MutatorRoots.young_weaks c.args.mutators.now) at h)

pub place_nurseries-requires-clause-nurseries : goal.place_nurseries-requires-clause-nurseries
place_nurseries-requires-clause-nurseries g c =
    (parts_of c.args.young.now c.find_survivors.new.young c.args.segments.now (g.W.HeapWords.words c.args.words.now) (map g.M.MutatorRoots.nursery c.args.mutators.now)
    (inputs_of (flat_map g.M.MutatorRoots.registers c.args.mutators.now) (map g.M.MutatorRoots.queue c.args.mutators.now)
    (flat_map g.M.MutatorRoots.recorded c.args.mutators.now) (flat_map g.M.MutatorRoots.young_weaks c.args.mutators.now))
    c.as_mut_slice.result.now c.requires.can
    c.find_survivors.ensures.finds c.as_mut_slice.ensures.value).0

pub place_nurseries-requires-clause-objects : goal.place_nurseries-requires-clause-objects
place_nurseries-requires-clause-objects g c =
    rw (c.find_survivors.ensures.same) ((parts_of c.args.young.now c.find_survivors.new.young c.args.segments.now (g.W.HeapWords.words c.args.words.now)
    (map g.M.MutatorRoots.nursery c.args.mutators.now) (inputs_of (flat_map g.M.MutatorRoots.registers c.args.mutators.now)
    (map g.M.MutatorRoots.queue c.args.mutators.now) (flat_map g.M.MutatorRoots.recorded c.args.mutators.now)
    (flat_map g.M.MutatorRoots.young_weaks c.args.mutators.now)) c.as_mut_slice.result.now
    c.requires.can c.find_survivors.ensures.finds c.as_mut_slice.ensures.value).1)

pub forward_shared-requires : goal.forward_shared-requires
forward_shared-requires g c =
    let e = ap length (c.place_nurseries.ensures.same ∙ c.find_survivors.ensures.same) in
    let a = c.requires.can.above in
    let i = c.requires.can.inside in
    omega (arith, e, a, i)

pub forward_recorded-requires-clause-inside : goal.forward_recorded-requires-clause-inside
forward_recorded-requires-clause-inside g c = λ at h.
    let e = ap length (c.place_nurseries.ensures.same ∙ c.find_survivors.ensures.same) in
    let b = c.requires.can.recorded at.0 (address_in (flat_map g.M.MutatorRoots.recorded c.args.mutators.now) at h) in
    let i = c.requires.can.inside in
    let t = c.forward_shared.ensures.total in
    omega (arith, b, i, t, e)

pub forward_recorded-requires-clause-small : goal.forward_recorded-requires-clause-small
forward_recorded-requires-clause-small g c =
    let words = g.W.HeapWords.words c.args.words.now in
    let p = c.place_nurseries.ensures in
    let range = subst (λ (ws : List ℕ).
    PlacesRange c.find_survivors.new.young.base ws c.args.segments.now c.place_nurseries.new.segments c.as_mut_slice.result.now
    c.place_nurseries.new.table p.places.0 c.find_survivors.new.young.base (c.find_survivors.new.young.base + length c.as_mut_slice.result.now))
    c.find_survivors.ensures.same p.places.2 in
    let back = lent_back c.find_survivors.new.young.table.len c.find_survivors.new.young.table.items c.as_mut_slice.result.now c.place_nurseries.new.table
    c.as_slice-table.result.now c.as_mut_slice.ensures.len p.places.2.size c.as_slice-table.ensures.value in
    let all = p.places.1 ∙ ap (λ (xs : List Move). xs ++ p.places.0) c.requires.moves in
    let r = ready c.args.young.now c.find_survivors.new.young c.args.segments.now c.place_nurseries.new.segments words (map g.M.MutatorRoots.nursery c.args.mutators.now)
    (inputs_of (flat_map g.M.MutatorRoots.registers c.args.mutators.now) (map g.M.MutatorRoots.queue c.args.mutators.now)
    (flat_map g.M.MutatorRoots.recorded c.args.mutators.now) (flat_map g.M.MutatorRoots.young_weaks c.args.mutators.now))
    (flat_map g.M.MutatorRoots.recorded c.args.mutators.now) c.as_mut_slice.result.now
    c.place_nurseries.new.table c.as_slice-table.result.now c.place_nurseries.new.moves.items p.places.0 c.requires.can c.find_survivors.ensures.finds
    refl c.as_mut_slice.ensures.value back all p.sound p.layout range in
    ready_small c.find_survivors.new.young words c.args.segments.now c.place_nurseries.new.segments c.as_slice-table.result.now
    c.place_nurseries.new.moves.items (inputs_of (flat_map g.M.MutatorRoots.registers c.args.mutators.now)
    (map g.M.MutatorRoots.queue c.args.mutators.now) (flat_map g.M.MutatorRoots.recorded c.args.mutators.now)
    (flat_map g.M.MutatorRoots.young_weaks c.args.mutators.now)) (flat_map g.M.MutatorRoots.recorded c.args.mutators.now) r

pub copy_all-requires : goal.copy_all-requires
copy_all-requires g c =
    let words = g.W.HeapWords.words c.args.words.now in
    let p = c.place_nurseries.ensures in
    let range = subst (λ (ws : List ℕ).
    PlacesRange c.find_survivors.new.young.base ws c.args.segments.now c.place_nurseries.new.segments c.as_mut_slice.result.now
    c.place_nurseries.new.table p.places.0 c.find_survivors.new.young.base (c.find_survivors.new.young.base + length c.as_mut_slice.result.now))
    c.find_survivors.ensures.same p.places.2 in
    let back = lent_back c.find_survivors.new.young.table.len c.find_survivors.new.young.table.items c.as_mut_slice.result.now c.place_nurseries.new.table
    c.as_slice-table.result.now c.as_mut_slice.ensures.len p.places.2.size c.as_slice-table.ensures.value in
    let all = p.places.1 ∙ ap (λ (xs : List Move). xs ++ p.places.0) c.requires.moves in
    let r = ready c.args.young.now c.find_survivors.new.young c.args.segments.now c.place_nurseries.new.segments words (map g.M.MutatorRoots.nursery c.args.mutators.now)
    (inputs_of (flat_map g.M.MutatorRoots.registers c.args.mutators.now) (map g.M.MutatorRoots.queue c.args.mutators.now)
    (flat_map g.M.MutatorRoots.recorded c.args.mutators.now) (flat_map g.M.MutatorRoots.young_weaks c.args.mutators.now))
    (flat_map g.M.MutatorRoots.recorded c.args.mutators.now) c.as_mut_slice.result.now
    c.place_nurseries.new.table c.as_slice-table.result.now c.place_nurseries.new.moves.items p.places.0 c.requires.can c.find_survivors.ensures.finds
    refl c.as_mut_slice.ensures.value back all p.sound p.layout range in
    let shared = subst (λ (ws : List ℕ).
    ForwardsAt (forward_word c.as_slice-table.result.now c.find_survivors.new.young.base) ws (g.W.HeapWords.words c.forward_shared.new.words)
    IsSharedSlot) (p.same ∙ c.find_survivors.ensures.same) c.forward_shared.ensures in
    subst (λ (xs : List Move).
    CanCopyAll c.find_survivors.new.young.base (g.W.HeapWords.words c.forward_recorded.new.words) xs) (sym c.items.ensures)
    (ready_copy c.find_survivors.new.young words c.args.segments.now c.place_nurseries.new.segments c.as_slice-table.result.now
    c.place_nurseries.new.moves.items (inputs_of (flat_map g.M.MutatorRoots.registers c.args.mutators.now)
    (map g.M.MutatorRoots.queue c.args.mutators.now) (flat_map g.M.MutatorRoots.recorded c.args.mutators.now)
    (flat_map g.M.MutatorRoots.young_weaks c.args.mutators.now))
    (flat_map g.M.MutatorRoots.recorded c.args.mutators.now) r (g.W.HeapWords.words c.forward_shared.new.words)
    (g.W.HeapWords.words c.forward_recorded.new.words) shared
    c.forward_recorded.ensures)

pub returns-clause-promotes : goal.returns-clause-promotes
returns-clause-promotes g c =
    let words = g.W.HeapWords.words c.args.words.now in
    let final = g.W.HeapWords.words c.copy_all.new.words in
    let p = c.place_nurseries.ensures in
    let range = subst (λ (ws : List ℕ).
    PlacesRange c.find_survivors.new.young.base ws c.args.segments.now c.place_nurseries.new.segments c.as_mut_slice.result.now
    c.place_nurseries.new.table p.places.0 c.find_survivors.new.young.base (c.find_survivors.new.young.base + length c.as_mut_slice.result.now))
    c.find_survivors.ensures.same p.places.2 in
    let back = lent_back c.find_survivors.new.young.table.len c.find_survivors.new.young.table.items c.as_mut_slice.result.now c.place_nurseries.new.table
    c.as_slice-table.result.now c.as_mut_slice.ensures.len p.places.2.size c.as_slice-table.ensures.value in
    let all = p.places.1 ∙ ap (λ (xs : List Move). xs ++ p.places.0) c.requires.moves in
    let r = ready c.args.young.now c.find_survivors.new.young c.args.segments.now c.place_nurseries.new.segments words (map g.M.MutatorRoots.nursery c.args.mutators.now)
    (inputs_of (flat_map g.M.MutatorRoots.registers c.args.mutators.now) (map g.M.MutatorRoots.queue c.args.mutators.now)
    (flat_map g.M.MutatorRoots.recorded c.args.mutators.now) (flat_map g.M.MutatorRoots.young_weaks c.args.mutators.now))
    (flat_map g.M.MutatorRoots.recorded c.args.mutators.now) c.as_mut_slice.result.now
    c.place_nurseries.new.table c.as_slice-table.result.now c.place_nurseries.new.moves.items p.places.0 c.requires.can c.find_survivors.ensures.finds
    refl c.as_mut_slice.ensures.value back all p.sound p.layout range in
    let shared = subst (λ (ws : List ℕ).
    ForwardsAt (forward_word c.as_slice-table.result.now c.find_survivors.new.young.base) ws (g.W.HeapWords.words c.forward_shared.new.words)
    IsSharedSlot) (p.same ∙ c.find_survivors.ensures.same) c.forward_shared.ensures in
    let copies = subst (λ (xs : List Move).
    CopiesAll (forward_word c.as_slice-table.result.now c.find_survivors.new.young.base) (g.W.HeapWords.words c.forward_recorded.new.words) final xs)
    c.items.ensures c.copy_all.ensures in
    let made = ready_promotes c.find_survivors.new.young words c.args.segments.now c.place_nurseries.new.segments c.as_slice-table.result.now
    c.place_nurseries.new.moves.items (inputs_of (flat_map g.M.MutatorRoots.registers c.args.mutators.now)
    (map g.M.MutatorRoots.queue c.args.mutators.now) (flat_map g.M.MutatorRoots.recorded c.args.mutators.now)
    (flat_map g.M.MutatorRoots.young_weaks c.args.mutators.now))
    (flat_map g.M.MutatorRoots.recorded c.args.mutators.now) r (g.W.HeapWords.words c.forward_shared.new.words)
    (g.W.HeapWords.words c.forward_recorded.new.words) final shared
    c.forward_recorded.ensures copies in
    let at_old = subst (λ (b : ℕ).
    Promotes b words final c.args.segments.now c.place_nurseries.new.segments c.place_nurseries.new.moves.items
    (inputs_of (flat_map g.M.MutatorRoots.registers c.args.mutators.now) (map g.M.MutatorRoots.queue c.args.mutators.now)
    (flat_map g.M.MutatorRoots.recorded c.args.mutators.now) (flat_map g.M.MutatorRoots.young_weaks c.args.mutators.now))
    c.as_slice-table.result.now) c.find_survivors.ensures.finds.base made in
    subst (λ (t : List ℕ).
    Promotes c.args.young.now.base words final c.args.segments.now c.place_nurseries.new.segments c.place_nurseries.new.moves.items
    (inputs_of (flat_map g.M.MutatorRoots.registers c.args.mutators.now) (map g.M.MutatorRoots.queue c.args.mutators.now)
    (flat_map g.M.MutatorRoots.recorded c.args.mutators.now) (flat_map g.M.MutatorRoots.young_weaks c.args.mutators.now)) t)
    c.as_slice-table.ensures.value at_old

pub returns-clause-leaves : goal.returns-clause-leaves
returns-clause-leaves g c =
    let words = g.W.HeapWords.words c.args.words.now in
    let p = c.place_nurseries.ensures in
    let range = subst (λ (ws : List ℕ).
    PlacesRange c.find_survivors.new.young.base ws c.args.segments.now c.place_nurseries.new.segments c.as_mut_slice.result.now
    c.place_nurseries.new.table p.places.0 c.find_survivors.new.young.base (c.find_survivors.new.young.base + length c.as_mut_slice.result.now))
    c.find_survivors.ensures.same p.places.2 in
    let back = lent_back c.find_survivors.new.young.table.len c.find_survivors.new.young.table.items c.as_mut_slice.result.now c.place_nurseries.new.table
    c.as_slice-table.result.now c.as_mut_slice.ensures.len p.places.2.size c.as_slice-table.ensures.value in
    let all = p.places.1 ∙ ap (λ (xs : List Move). xs ++ p.places.0) c.requires.moves in
    let r = ready c.args.young.now c.find_survivors.new.young c.args.segments.now c.place_nurseries.new.segments words (map g.M.MutatorRoots.nursery c.args.mutators.now)
    (inputs_of (flat_map g.M.MutatorRoots.registers c.args.mutators.now) (map g.M.MutatorRoots.queue c.args.mutators.now)
    (flat_map g.M.MutatorRoots.recorded c.args.mutators.now) (flat_map g.M.MutatorRoots.young_weaks c.args.mutators.now))
    (flat_map g.M.MutatorRoots.recorded c.args.mutators.now) c.as_mut_slice.result.now
    c.place_nurseries.new.table c.as_slice-table.result.now c.place_nurseries.new.moves.items p.places.0 c.requires.can c.find_survivors.ensures.finds
    refl c.as_mut_slice.ensures.value back all p.sound p.layout range in
    leaves c.args.young.now c.find_survivors.new.young _ words c.args.segments.now c.place_nurseries.new.segments c.as_slice-table.result.now
    c.place_nurseries.new.moves.items (inputs_of (flat_map g.M.MutatorRoots.registers c.args.mutators.now)
    (map g.M.MutatorRoots.queue c.args.mutators.now) (flat_map g.M.MutatorRoots.recorded c.args.mutators.now)
    (flat_map g.M.MutatorRoots.young_weaks c.args.mutators.now))
    (flat_map g.M.MutatorRoots.recorded c.args.mutators.now) c.find_survivors.ensures.finds r refl (sym c.as_slice-table.ensures.value) refl refl
