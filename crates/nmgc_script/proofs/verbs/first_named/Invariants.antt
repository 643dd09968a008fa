use Rattle.nmgc_script.proofs.Vocabulary.{◌≡◌, length, first_named}
use Rattle.nmgc_script.proofs.verbs.first_named.Given as goal

-- no verb before has the name
abbrev pub invariant-loop-left : goal.invariant-loop-left
invariant-loop-left l = first_named l.name l.left ≡ first_named l.name l.verbs

abbrev pub decreases-loop-left : goal.decreases-loop-left
decreases-loop-left l = length l.left
