use Rattle.nmgc_image.proofs.Vocabulary.{◌≡◌, map, take, key_of}
use Rattle.nmgc_image.proofs.declared.set_of_names.Given as goal

abbrev pub invariant-loop-name : goal.invariant-loop-name
invariant-loop-name l = l.keys.items ≡ map key_of (take l.name-index l.names)
