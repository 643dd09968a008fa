use Rattle.std.proofs.Common.{◌<◌, subst, ℕ}
use Rattle.std.proofs.Math.Nat.{not-suc-le-zero}
use Rattle.nmgc_journal.proofs.final_words.FullTable.drop.Goals as goal

pub free-requires : goal.free-requires
free-requires c = λ k below. absurd (not-suc-le-zero (subst (λ (n : ℕ). k < n) c.self.inside.bare below))
