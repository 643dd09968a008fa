use Rattle.nmgc_image.proofs.Vocabulary.{sym, eqb, IsNonDecreasingBy-from_sort, list_any-IsPermutation, key_of}
use Rattle.nmgc_image.proofs.declared.set_of_keys.Goals as goal

pub invariant_of-result : goal.invariant_of-result
invariant_of-result c = record { sorted = IsNonDecreasingBy-from_sort (λ x. x) c.sort_unstable.new.self.items c.sort_unstable.ensures.sorted }

pub returns : goal.returns
returns c = λ name. sym (list_any-IsPermutation (λ key.
    eqb key (key_of name)) c.args.keys.items c.sort_unstable.new.self.items c.sort_unstable.ensures.permutation)
