use Rattle.std.proofs.Common.{arith}
use Rattle.nmgc_alloc.specs.declared.search.Category.TheVariants as category
use Rattle.nmgc_alloc.proofs.filing.Filed.note.Goals as goal

pub overflow_add-self : goal.overflow_add-self
overflow_add-self c = omega (arith, c.requires.few.each category.Free tt)

pub overflow_add-self-in-Active : goal.overflow_add-self-in-Active
overflow_add-self-in-Active c = omega (arith, c.requires.few.each (category.Active c.from.result) (omega (arith, c.from.ensures, c.requires.class)))
