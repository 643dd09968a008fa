-- Names of a snapshot: a list that has each once, and a set of the same names.
use Rattle.std.specs.Prelude.{◌↔◌, ◌⊎◌, List, [], ◌∷◌, ◌++◌, not, ◌&&◌, is_some, IsSome, Contains, if◌then◌else◌}
use Rattle.nmgc_world_spec.specs.{declared.value.Name.Name, World.World, World.node_of}
use Rattle.nmgc_graph.specs.Marks.{HasPlaces, IsMarked, mark_of, with_mark}
use Rattle.nmgc_barrier_checker.specs.declared.name_set.NameSet.{NameSet}

-- a list and a set with the same names; the set has a position for each name of the snapshot
pub record IsListed (snapshot : World) (listed : NameSet) : Type 0 where
  pub places : HasPlaces snapshot listed.set
  pub same : (name : Name) → IsMarked listed.set name ↔ Contains listed.names name

-- the list and the set after a name was added; only a name that the snapshot has and the set doesn't have is added
abbrev pub joined : World → NameSet → Name → NameSet
joined snapshot listed name =
    if is_some (node_of snapshot name) && not (mark_of listed.set name)
    then (record { set = with_mark listed.set name; names = listed.names ++ name ∷ [] })
    else listed

-- the list after names were added: it has its old names, and each added name that the snapshot has
abbrev pub Joins : World → List Name → List Name → List Name → Type 0
Joins snapshot before names after = (name : Name) → Contains after name ↔ (Contains before name ⊎ (Contains names name × IsSome (node_of snapshot name)))
