use Rattle.nmgc_script.proofs.{Vocabulary.◌≡◌, Vocabulary.◌∙◌, Vocabulary.ap, Vocabulary.named_at, VerbLaws.named_again}
use Rattle.nmgc_script.proofs.verbs.any_verb_of.Goals as goal

pub returns-in-Some : goal.returns-in-Some
returns-in-Some c = ap named_at c.in-Some.ensures ∙ named_again c.in-Some.verb
