use Rattle.nmgc_io.proofs.{Vocabulary.eqb, Vocabulary.sym, Vocabulary.subst, Vocabulary.arith, Vocabulary.w8, Vocabulary.ℕ, Vocabulary.take, Vocabulary.length-take-le, Vocabulary.bitmask_splat, Marked.marks_of_mask}
use Rattle.nmgc_io.specs.Spaces.{MarksSpaces}
use Rattle.nmgc_io.proofs.spaces.space_marks.Goals as goal

pub returns : goal.returns
returns c =
    let front = take 16 c.args.text.now in
    let found = bitmask_splat w8 eqb front 16 32 (length-take-le 16 c.args.text.now c.requires) (omega arith) in
    subst (λ (m : ℕ). MarksSpaces m front) (sym found) (marks_of_mask front)
