use Rattle.nmgc_weak.proofs.{Vocabulary.ℕ, Vocabulary.List, Vocabulary.get_or, Vocabulary.sym, Vocabulary.subst, Vocabulary.OldWeak, Vocabulary.IsWithin, Finding.at_contains}
use Rattle.nmgc_weak.proofs.resolve.file_waiting.Goals as goal

abbrev nobody : OldWeak
nobody = record { weak = record { maker = 0; serial = 0 }; at = record { 0 = 0 } }

pub file_one-requires-clause-within : goal.file_one-requires-clause-within
file_one-requires-clause-within g c =
    let x = get_or c.args.list.now c.loop-place.place nobody in
    subst (λ (l : List ℕ). IsWithin l x.at.0) (sym c.loop-place.invariant.words)
    (c.requires.within x (at_contains c.args.list.now c.loop-place.place nobody c.loop-place-test.true))
