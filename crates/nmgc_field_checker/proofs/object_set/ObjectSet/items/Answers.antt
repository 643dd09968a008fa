use Rattle.nmgc_field_checker.proofs.{Vocabulary.All, Vocabulary.List, Vocabulary.length, Vocabulary.Objects, Vocabulary.subst, Vocabulary.sym, Vocabulary.ℕ, Vocabulary.◌<◌, SetLaws.flags_below}
use Rattle.nmgc_field_checker.proofs.object_set.ObjectSet.items.Goals as goal

pub returns-clause-below : goal.returns-clause-below
returns-clause-below c =
    subst (λ (s : Objects). All (λ (n : ℕ). n < s.bound) c.items.result.now) c.self.view_is
    (subst (λ (l : List ℕ). All (λ (n : ℕ). n < length c.self.inside.flags) l) (sym c.items.ensures)
    (flags_below c.self.inside.flags c.self.inside.objects c.self.invariant))
