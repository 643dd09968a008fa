use Rattle.nmgc_pmark.proofs.{Vocabulary.IsRoot, Vocabulary.IsStart, Vocabulary.roots_of, Scans.root_start, Scans.start_root, Same.reached_from_more}
use Rattle.nmgc_pmark.proofs.laws.roots_start_strong_reach.Goals as goal

pub returns : goal.returns
returns c = λ w world name. (
  λ strong. (reached_from_more w (IsStart (roots_of w)) (IsRoot w) (start_root w world) name strong.0, strong.1),
  λ strong. (reached_from_more w (IsRoot w) (IsStart (roots_of w)) (root_start w world) name strong.0, strong.1),
)
