use Rattle.nmgc_image.proofs.Vocabulary.{◌≡◌, map, take, Entry, key_of}
use Rattle.nmgc_image.proofs.declared.keys_of.Given as goal

abbrev pub invariant-loop-entry : goal.invariant-loop-entry
invariant-loop-entry l = l.keys.items ≡ map (λ (entry : Entry). key_of entry.name) (take l.entry-index l.nodes)
