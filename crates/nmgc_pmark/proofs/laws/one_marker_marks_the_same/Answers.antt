use Rattle.nmgc_pmark.proofs.Same.{marked_same}
use Rattle.nmgc_pmark.proofs.laws.one_marker_marks_the_same.Goals as goal

pub returns : goal.returns
returns c = λ o s marker markers by alone claims p there in_snapshot other.
    marked_same c.all_reached_is_marked.ensures o s marker markers by alone claims p there in_snapshot other
