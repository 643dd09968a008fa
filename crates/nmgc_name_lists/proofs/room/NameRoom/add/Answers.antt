use Rattle.nmgc_name_lists.proofs.Vocabulary.{◌≡◌, ◌-◌, ◌∙◌, List, [], ◌∷◌, ◌++◌, length, length-append, ap, arith, vec_capacity, Name, NameRoom, names_in}
use Rattle.nmgc_name_lists.proofs.room.NameRoom.add.Goals as goal

pub add_name-requires : goal.add_name-requires
add_name-requires c =
    let spare : vec_capacity c.self.inside.spans - c.self.inside.count ≡ c.args.self.now.spare = ap (λ (r : NameRoom). r.spare) c.self.view_is in
    let some = c.requires in
    let few = c.self.invariant.1 in
    omega (arith, spare, some, few)

pub invariant_of-self : goal.invariant_of-self
invariant_of-self c =
    let names : List Name = names_in c.self.inside.spans.items in
    let more = ap (λ (l : List Name). length l) c.add_name.ensures.names in
    let one = length-append names (c.args.name ∷ []) in
    let counted = c.self.invariant.0 in
    let few = c.self.invariant.1 in
    let spans = c.add_name.ensures.few in
    (omega (arith, more, one, counted), omega (arith, few, spans))

pub returns-clause-names : goal.returns-clause-names
returns-clause-names c = c.add_name.ensures.names ∙ ap (λ (r : NameRoom). r.names ++ c.args.name ∷ []) c.self.view_is

pub returns-clause-spare : goal.returns-clause-spare
returns-clause-spare c =
    let spare : vec_capacity c.self.inside.spans - c.self.inside.count ≡ c.args.self.now.spare = ap (λ (r : NameRoom). r.spare) c.self.view_is in
    let some = c.requires in
    let same = c.add_name.ensures.capacity in
    omega (arith, spare, some, same)
