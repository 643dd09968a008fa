use Rattle.nmgc_image.proofs.Vocabulary.{◌≡◌, ℕ, List, ◌++◌, ap, subst, ◌∙◌, IfOk, Declared, cut, keys_of, keys_beside, HaveSame}
use Rattle.nmgc_image.proofs.declared.names_in.Goals as goal

pub returns : goal.returns
returns c =
    let all : c.push_keys.new.keys.items ≡ keys_beside c.args.nodes.now (cut c.args.bytes.now).lines = c.in_ok-push_keys.ensures ∙
    ap (λ (ks : List ℕ). ks ++ keys_of (cut c.args.bytes.now).lines) c.in_ok-keys.ensures in
    subst (λ (ks : List ℕ). IfOk c.set_of_keys.result (λ (declared : Declared). HaveSame declared.keys.items ks)) all c.set_of_keys.ensures
