use Rattle.nmgc_script.proofs.{Vocabulary.◌≡◌, Vocabulary.ℕ, Vocabulary.List, Vocabulary.rules, Vocabulary.subst, Vocabulary.sym, Vocabulary.append_assoc, Vocabulary.plain, Vocabulary.Spells, PrintLaws.plain_spells}
use Rattle.nmgc_script.proofs.printing.print.Goals as goal

pub returns-clause-back : goal.returns-clause-back
returns-clause-back c =
    let s = c.args.script.now in
    let text : c.push_sections.new.out.items ≡ plain s = search (rules, append_assoc) in
    subst (λ (bytes : List ℕ). Spells bytes s) (sym text) (plain_spells s c.requires)
