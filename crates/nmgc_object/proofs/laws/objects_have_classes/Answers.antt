use Rattle.nmgc_object.proofs.Vocabulary.{arith, few_fields, object_class, object_half, class_counted}
use Rattle.nmgc_object.proofs.laws.objects_have_classes.Goals as goal

pub returns-clause-fits : goal.returns-clause-fits
returns-clause-fits c = object_class

pub returns-clause-object : goal.returns-clause-object
returns-clause-object c = λ header h. (omega arith, omega (arith, few_fields header h))

pub returns-clause-half : goal.returns-clause-half
returns-clause-half c = λ layout words class h two fits is. object_half layout.words words class h.words two fits is

pub returns-clause-classes : goal.returns-clause-classes
returns-clause-classes c = λ layout class h. class_counted layout class h.words
