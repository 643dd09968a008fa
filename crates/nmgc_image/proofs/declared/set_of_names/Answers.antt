use Rattle.nmgc_image.proofs.{Vocabulary.◌≡◌, Vocabulary.◌∙◌, Vocabulary.List, Vocabulary.ℕ, Vocabulary.ap, Vocabulary.map, Vocabulary.take_all, Vocabulary.IfOk-weaker, Vocabulary.Declared, Vocabulary.IsTestOf, Vocabulary.has_key, Vocabulary.key_of, Vocabulary.HaveSame, Keys.names_find, Keys.names_same}
use Rattle.nmgc_image.proofs.declared.set_of_names.Goals as goal

pub returns : goal.returns
returns c =
    let all : c.loop-name.keys.items ≡ map key_of c.args.names.now = c.loop-name.invariant ∙
    ap (map key_of) (take_all c.loop-name.name-index c.args.names.now c.loop-name-test.false) in
    IfOk-weaker c.set_of_keys.result (λ (declared : Declared). HaveSame declared.keys.items c.loop-name.keys.items) (λ (declared : Declared).
    IsTestOf (has_key declared.keys.items) c.args.names.now) (λ declared same.
    names_same (has_key declared.keys.items) (has_key (map key_of c.args.names.now)) c.args.names.now (λ name. same name ∙
    ap (λ (ks : List ℕ). has_key ks name) all) (names_find c.args.names.now c.requires)) c.set_of_keys.ensures
