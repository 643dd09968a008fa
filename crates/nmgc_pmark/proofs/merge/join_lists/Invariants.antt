use Rattle.nmgc_pmark.proofs.Vocabulary.{◌≡◌, ◌++◌, List, drop, flat_map, Name}
use Rattle.nmgc_pmark.proofs.merge.join_lists.Given as goal

-- the names so far and the names of the remaining lists are all names
abbrev pub invariant-loop-own : goal.invariant-loop-own
invariant-loop-own l = l.names.items ++ flat_map (λ (own : List Name). own) (drop l.own-index l.by) ≡ flat_map (λ (own : List Name). own) l.by
