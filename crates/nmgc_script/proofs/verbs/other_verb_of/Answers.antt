use Rattle.nmgc_script.proofs.{Vocabulary.◌≡◌, Vocabulary.◌∙◌, Vocabulary.sym, Vocabulary.ap, Vocabulary.bytes_eq-Decides, Vocabulary.named_at, Vocabulary.verb_name, VerbLaws.named_again}
use Rattle.nmgc_script.proofs.verbs.other_verb_of.Goals as goal

pub returns-then-eq : goal.returns-then-eq
returns-then-eq c =
    let is : c.args.name.now ≡ verb_name c.guess_verb-verb.result =
    (bytes_eq-Decides c.args.name.now c.name.result.now).0 (sym c.eq.ensures ∙ c.if-eq.true) ∙ c.name.ensures in
    ap named_at is ∙ named_again c.guess_verb-verb.result
