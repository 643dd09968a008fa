use Rattle.nmgc_object.proofs.Vocabulary.{arith, few_fields}
use Rattle.nmgc_object.proofs.size.object_words.Goals as goal

pub overflow_add-result : goal.overflow_add-result
overflow_add-result c = omega (arith, few_fields c.args.header c.requires)

pub returns-clause-most : goal.returns-clause-most
returns-clause-most c = omega (arith, few_fields c.args.header c.requires)
