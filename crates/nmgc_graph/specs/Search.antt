-- A search for names: a set of marked names, some of them still waiting on a worklist.
--
-- Only private contracts use these definitions. The answers of the public calls are defined by `Reach` alone.
use Rattle.std.specs.Prelude.{◌≡◌, ◌⊎◌, ◌≤◌, List, [], ◌∷◌, ◌++◌, map, flat_map, Bool, true, false, not, ◌&&◌, Contains, IsSome, fold, Option, Some, None, option_and_then, if◌then◌else◌}
use Rattle.nmgc_world_spec.specs.{declared.value.Name.Name, declared.value.Value.Value, declared.node.Parts.Parts, declared.node.Node.Node, declared.node.Node.TheVariants.Weak, World.World, World.node_of, World.shared_name, declared.mutator_state.MutatorState.MutatorState}
use Rattle.nmgc_world_spec.specs.declared.value.Value.TheVariants as value
use Rattle.nmgc_graph.specs.{declared.search.Search.Search, Marks.mark_of, Marks.IsMarked, Marks.with_mark, Marks.unmarked_count, Marks.HasPlaces}
use Rattle.nmgc_world_spec.specs.Reach.{strong_fields, RefersTo, IsReached, IsAlive, IsKeptBy, IsLive, IsKept}

-- the search after a name was marked; the name waits unless it was marked before
abbrev pub with_name : Search → Name → Search
with_name s name = if mark_of s.marks name then s else record { marks = with_mark s.marks name; work = s.work ++ name ∷ [] }

-- the search after the name that a value refers to was marked, if the value refers to a name
abbrev pub with_value : Search → Value → Search
with_value s value.Nil = s
with_value s (value.Number n) = s
with_value s (value.Ref name) = with_name s name

-- the search after the names that values refer to were marked
abbrev pub with_values : Search → List Value → Search
with_values s values = fold with_value s values

-- the values in the strong fields of a node, if there is a node
abbrev pub fields_in : Option Node → List Value
fields_in None = []
fields_in (Some node) = strong_fields node

-- each marked name waits, or the search has followed it: its strong fields refer to marked names
abbrev pub IsTraced : World → Search → Type 0
IsTraced w s = (name target : Name) → IsMarked s.marks name → RefersTo w name target → Contains s.work name ⊎ IsMarked s.marks target

-- the invariant of a search: names that wait are marked, and marked names that don't wait have been followed
pub record IsSearch (w : World) (s : Search) : Type 0 where
  pub places : HasPlaces w s.marks
  pub waiting : (name : Name) → Contains s.work name → IsMarked s.marks name
  pub traced : IsTraced w s

-- a search that went on along strong fields: every name that it newly marked is reachable from names marked before
pub record IsFollowed (w : World) (old new : Search) : Type 0 where
  pub search : IsSearch w new
  pub kept : (name : Name) → IsMarked old.marks name → IsMarked new.marks name
  pub sound : (name : Name) → IsMarked new.marks name → IsReached w (IsMarked old.marks) name
  pub fewer : unmarked_count new.marks ≤ unmarked_count old.marks

-- the parts of a weak pointer that is alive; none for any other node
abbrev pub parts_in : Node → Option Parts
parts_in (Weak parts) = parts
parts_in _ = None

-- the parts of a name's weak pointer, if the name belongs to a weak pointer that is alive
abbrev pub parts_of : World → Name → Option Parts
parts_of w weak = option_and_then parts_in (node_of w weak)

-- whether a key counts as marked: it is nil, a number, or a reference to a marked name
abbrev pub is_key_marked : List (List Bool) → Value → Bool
is_key_marked marks value.Nil = true
is_key_marked marks (value.Number n) = true
is_key_marked marks (value.Ref name) = mark_of marks name

-- the search after a weak pointer was visited: if its key is marked, it, its value and its finaliser are marked too
abbrev pub with_weak : Search → Name → Option Parts → Search
with_weak s weak None = s
with_weak s weak (Some parts) = if is_key_marked s.marks parts.key then with_values s (value.Ref weak ∷ parts.value ∷ parts.finaliser ∷ []) else s

-- the search after the weak pointers were visited in order: each with a marked key is marked, with its value and finaliser
abbrev pub with_weaks : World → Search → List Name → Search
with_weaks w s weaks = fold (λ t weak. with_weak t weak (parts_of w weak)) s weaks

-- whether a weak pointer with these parts is alive and not finalised, and its key isn't marked
abbrev pub is_lost : List (List Bool) → List (List Bool) → Name → Option Parts → Bool
is_lost marks finalised weak None = false
is_lost marks finalised weak (Some parts) = not (is_key_marked marks parts.key) && not (mark_of finalised weak)

-- a weak pointer that is alive and not finalised, and whose key isn't marked
pub record IsLost (w : World) (marks : List (List Bool)) (finalised : List Name) (weak : Name) : Type 0 where
  pub parts : Parts
  pub alive : IsAlive w weak parts
  pub not_finalised : Contains finalised weak → ⊥
  pub hidden : is_key_marked marks parts.key ≡ false

-- the set of those given names that are in the map
pub record IsSetOf (w : World) (names : List Name) (marks : List (List Bool)) : Type 0 where
  pub places : HasPlaces w marks
  pub sound : (name : Name) → IsMarked marks name → Contains names name
  pub complete : (name : Name) → Contains names name → IsSome (node_of w name) → IsMarked marks name

-- the finaliser among these parts; none if there are no parts
abbrev pub finaliser_in : Option Parts → List Value
finaliser_in None = []
finaliser_in (Some parts) = parts.finaliser ∷ []

-- the finalisers of those weak pointers that are alive
abbrev pub finalisers_of : World → List Name → List Value
finalisers_of w weaks = flat_map (λ weak. finaliser_in (parts_of w weak)) weaks

-- the values in a mutator's registers and finaliser queue
abbrev pub values_held : MutatorState → List Value
values_held state = state.registers ++ state.queue

-- the starts of a search: g, the values in the mutators' registers and queues, and the further names
abbrev pub starts_of : World → List Name → List Value
starts_of w extra = value.Ref shared_name ∷ flat_map values_held w.mutators ++ map value.Ref extra

-- a search for live names: it marks only live names, and has marked its starts
pub record IsLiveSearch (w : World) (extra : List Name) (s : Search) : Type 0 where
  pub search : IsSearch w s
  pub sound : (name : Name) → IsMarked s.marks name → IsLive w extra name
  pub begun : (name : Name) → Contains (starts_of w extra) (value.Ref name) → IsMarked s.marks name

-- each weak pointer with a marked key is marked, with its value and its finaliser, unless the key still waits
abbrev pub AreRevived : World → Search → Type 0
AreRevived w s = (weak target : Name) (parts : Parts) → IsAlive w weak parts → is_key_marked s.marks parts.key ≡ true → IsKeptBy weak parts target →
    ((key : Name) × (parts.key ≡ value.Ref key) × Contains s.work key) ⊎ IsMarked s.marks target

-- a search that has found the live names: exactly the live names are marked, and no name waits
pub record IsLiveFound (w : World) (extra : List Name) (s : Search) : Type 0 where
  pub search : IsSearch w s
  pub empty : s.work ≡ []
  pub sound : (name : Name) → IsMarked s.marks name → IsLive w extra name
  pub complete : (name : Name) → IsLive w extra name → IsMarked s.marks name

-- a search that has found the kept names: exactly the kept names are marked
pub record IsKeptFound (w : World) (extra finalised : List Name) (s : Search) : Type 0 where
  pub places : HasPlaces w s.marks
  pub sound : (name : Name) → IsMarked s.marks name → IsKept w extra finalised name
  pub complete : (name : Name) → IsKept w extra finalised name → IsMarked s.marks name
