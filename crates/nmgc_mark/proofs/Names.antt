-- The name at an address.
use Rattle.nmgc_mark.proofs.Vocabulary.{◌≡◌, inr, ℕ, List, refl, ap, ◌∙◌, Some, Contains, Name, Place, name_at, Layout, AreApart, some_at}

-- it is the only name there if objects are apart
pub named_at : (layout : Layout) (places : List Place) (at : ℕ) (name : Name) → AreApart layout places →
    Contains places (record { at = at; name = name }) → name_at places at ≡ Some name
named_at layout places at name h c =
    let r = some_at places at name c in
    let same = h.one (record { at = at; name = r.0 }) (record { at = at; name = name }) r.2 c (inr refl) in
    r.1 ∙ ap (λ (p : Place). Some p.name) same
