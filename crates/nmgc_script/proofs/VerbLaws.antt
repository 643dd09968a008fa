-- A verb is looked up exactly from its name.
use Rattle.nmgc_script.proofs.{Vocabulary.◌≡◌, Vocabulary.ℕ, Vocabulary.List, Vocabulary.[], Vocabulary.◌∷◌, Vocabulary.refl, Vocabulary.ap, Vocabulary.◌∙◌, Vocabulary.inl, Vocabulary.inr, Vocabulary.Ok, Vocabulary.Err, Vocabulary.bytes_eq, Vocabulary.bytes_eq-Decides, Vocabulary.Cause, Vocabulary.Verb, Vocabulary.VERBS, Vocabulary.verb_name, Vocabulary.first_named, Vocabulary.named_at, Vocabulary.has_verb, Vocabulary.verb_at, Vocabulary.chosen, Vocabulary.Version, Vocabulary.Command, Vocabulary.Rec, Vocabulary.Tag, Vocabulary.IsSince, Vocabulary.command_words, Vocabulary.first_of, Vocabulary.true, Vocabulary.sym, Vocabulary.subst, Vocabulary.leb-true, WordLaws.FailsBy, WordLaws.fails_choose, WordLaws.ok_is, WordLaws.bind_ok, WordLaws.guard_ok, CauseLaws.fails_then}
use Rattle.nmgc_script.specs.declared.fault.Cause.TheVariants as cause
use Rattle.nmgc_script.specs.declared.verbs.Verb.TheVariants as verb

first_takes : (name : List ℕ) (vs : List Verb) (v : Verb) → first_named name vs ≡ Ok v → name ≡ verb_name v
unfolding first_named
first_takes name [] v e = absurd cc
first_takes name (w ∷ ws) v e =
    elim (chosen (bytes_eq name (verb_name w)) (Ok w) (first_named name ws) (Ok v) e) [
      | inl p ↦ (bytes_eq-Decides name (verb_name w)).0 p.0 ∙ ap verb_name (ok_is {E = Cause} w v p.1)
      | inr p ↦ first_takes name ws v p.1
    ]

-- a name whose lookup gives a verb is the verb's name
pub named_takes : (name : List ℕ) (v : Verb) → named_at name ≡ Ok v → name ≡ verb_name v
named_takes name v e = first_takes name VERBS v e

first_fails : (name : List ℕ) (vs : List Verb) → FailsBy cause.Command (first_named name vs)
unfolding first_named
first_fails name [] = refl
first_fails name (v ∷ vs) = fails_choose cause.Command (bytes_eq name (verb_name v)) (Ok v) (first_named name vs) tt (first_fails name vs)

named_fails : (name : List ℕ) → FailsBy cause.Command (named_at name)
named_fails name = first_fails name VERBS

-- a verb's name is read as the verb
pub named_again : (v : Verb) → named_at (verb_name v) ≡ Ok v
unfolding first_named
named_again verb.Num = refl
named_again verb.Nil = refl
named_again verb.Mov = refl
named_again verb.Con = refl
named_again verb.Var = refl
named_again verb.Arr = refl
named_again verb.Rec = refl
named_again verb.Thunk = refl
named_again verb.Weak = refl
named_again verb.Stack = refl
named_again verb.Get = refl
named_again verb.Tag = refl
named_again verb.Set = refl
named_again verb.Cas = refl
named_again verb.Update = refl
named_again verb.Force = refl
named_again verb.Push = refl
named_again verb.Pop = refl
named_again verb.Deref = refl
named_again verb.Finalise = refl
named_again verb.NextFin = refl
named_again verb.Show = refl
named_again verb.Same = refl
named_again verb.Yield = refl
named_again verb.Collect = refl
named_again verb.Full = refl

-- a name that is looked up in a version
pub verb_takes : (ver : Version) (name : List ℕ) (v : Verb) → verb_at ver name ≡ Ok v → (name ≡ verb_name v) × (has_verb ver v ≡ true)
unfolding verb_at
verb_takes ver name v e =
    let b = bind_ok (named_at name) _ v e in
    let g = guard_ok (has_verb ver b.0) cause.Command b.0 v b.2 in
    (named_takes name b.0 b.1 ∙ ap verb_name g.1, subst (λ (k : Verb). has_verb ver k ≡ true) g.1 g.0)

pub verb_fails : (ver : Version) (name : List ℕ) → FailsBy cause.Command (verb_at ver name)
unfolding verb_at
verb_fails ver name = fails_then cause.Command (named_at name) _ (named_fails name) (λ v.
    fails_choose cause.Command (has_verb ver v) (Ok v) (Err cause.Command) tt refl)

pub verb_again : (ver : Version) (v : Verb) → has_verb ver v ≡ true → verb_at ver (verb_name v) ≡ Ok v
unfolding verb_at
verb_again ver v has = rw (named_again v, has) refl

pub verb_of_nothing : (ver : Version) → verb_at ver [] ≡ Err cause.Command
unfolding verb_at first_named
verb_of_nothing ver = refl

-- a version that has a verb has the verb of the same name
same_verb : (ver : Version) (v k : Verb) → has_verb ver v ≡ true → verb_name v ≡ verb_name k → has_verb ver k ≡ true
same_verb ver v k has e =
    let same : v ≡ k = ok_is {E = Cause} v k (sym (named_again v) ∙ ap named_at e ∙ named_again k) in
    subst (λ (i : Verb). has_verb ver i ≡ true) same has

-- a command with the name of a verb that the version has is one of the version
pub verb_since : (ver : Version) (v : Verb) (c : Command) → has_verb ver v ≡ true → verb_name v ≡ first_of (command_words c) → IsSince ver.number c
verb_since ver v (Rec dest fields) has e = leb-true 3 ver.number (same_verb ver v verb.Rec has e)
verb_since ver v (Tag dest object) has e = leb-true 3 ver.number (same_verb ver v verb.Tag has e)
verb_since ver v _ has e = tt
