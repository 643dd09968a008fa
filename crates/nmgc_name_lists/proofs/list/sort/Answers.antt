use Rattle.nmgc_name_lists.proofs.Vocabulary.{rules, answers_always, key_of}
use Rattle.nmgc_name_lists.proofs.list.sort.Goals as goal

pub returns-clause-sorted : goal.returns-clause-sorted
returns-clause-sorted c = c.sort_unstable_by_key.ensures.sorted key_of (answers_always _ _ _ (λ f a r g h. search rules))
