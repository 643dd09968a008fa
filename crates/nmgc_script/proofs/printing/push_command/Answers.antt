use Rattle.nmgc_script.proofs.Vocabulary.{◌≡◌, ◌++◌, subst, sym, OnOk, Command, spaced, command_words}
use Rattle.nmgc_script.proofs.printing.push_command.Goals as goal

pub returns : goal.returns
returns c =
    subst (λ (k : Command). OnOk c.push_form.result (c.push_form.new.out.items ≡ c.args.out.now.items ++ spaced (command_words k)))
    (sym c.form.ensures) c.push_form.ensures
