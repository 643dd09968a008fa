use Rattle.nmgc_weak.proofs.Vocabulary.{ℕ, List, sym, subst, IsWithin}
use Rattle.nmgc_weak.proofs.resolve.file_one.Goals as goal

pub key_of-requires : goal.key_of-requires
key_of-requires g c = subst (λ (l : List ℕ). IsWithin l c.args.weak.at.0) (sym c.is_lost.ensures.words) c.requires.within
