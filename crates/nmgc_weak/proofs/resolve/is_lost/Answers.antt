use Rattle.nmgc_weak.proofs.Vocabulary.{◌↔◌, refl, Bool, true, false, slice_index, IsTrue, IsKeyMarkedWord, key_place}
use mathlib.Core.Bool.{not}
use Rattle.nmgc_weak.proofs.resolve.is_lost.Goals as goal

-- a test that fails exactly if its claim doesn't hold
fails_where : (b : Bool) (P : Type 0) → (IsTrue b ↔ P) → IsTrue (not b) ↔ (P → ⊥)
fails_where true P h = ((λ e. absurd cc), (λ none. absurd (none (h.0 refl))))
fails_where false P h = ((λ e p. absurd (let t = h.1 p in cc)), (λ none. refl))

pub returns-then-is_of_snapshot-clause-lost : goal.returns-then-is_of_snapshot-clause-lost
returns-then-is_of_snapshot-clause-lost g c =
    let key = slice_index (g.W.HeapWords.words c.args.words.now) (key_place c.args.at.0) in
    let apart = fails_where c.has_marked_key-key_marked.result (IsKeyMarkedWord c.args.segments.now c.args.marker.now.epoch key)
    c.has_marked_key-key_marked.ensures.marked in
    let there = c.is_of_snapshot.ensures.0 c.if-is_of_snapshot.true in
    ((λ t. (there, apart.0 t)), (λ lost. apart.1 lost.1))
