-- How a command's due names are found: by fields that snapshot and world share at positions that the command may change. For
-- a mutator that isn't scanned, also by the field that the command may write and the object that it may make.
use Rattle.std.specs.Prelude.{◌≡◌, ◌+◌, ◌-◌, ◌<◌, ◌≤◌, ℕ, List, [], ◌∷◌, length, map, flat_map, Option, Some, None, Bool, true, false, Contains, ◌++◌, filter, option_to_list, if◌then◌else◌}
use Rattle.std.specs.{List.Sorted.IsSortedByKey, Ordering.ordering_then, Ordering.nat_cmp}
use Rattle.nmgc_world_spec.specs.{declared.value.Name.Name, declared.value.Value.Value, declared.node.Parts.Parts, declared.node.Node.Node, declared.node.Node.TheVariants.Thunk, declared.node.Node.TheVariants.Weak, declared.node.Node.TheVariants.Stack, declared.change.Change.Change, declared.command.Command.Command, World.World, World.node_of, World.parts_held, World.is_same_name, Reach.strong_fields, Reach.names_among, Written.asked}
use Rattle.nmgc_world_spec.specs.declared.value.Value.TheVariants as value
use Rattle.nmgc_world_spec.specs.declared.change.Change.TheVariants as change
use Rattle.nmgc_graph.specs.Search.{parts_of}
use Rattle.nmgc_world_laws.specs.{Holds.strong_at, Stored.place_written, Stored.value_written}
use Rattle.nmgc_snapshot_laws.specs.Machine.{is_pushed_in}
use Rattle.nmgc_barrier_checker.specs.declared.due.Field.{Field}

-- the value in a strong field of a node, if the node and the field exist
abbrev pub strong_in : Option Node → ℕ → Option Value
strong_in None place = None
strong_in (Some node) place = strong_at node place

-- whether a value is a reference to the target
abbrev pub is_ref_to : Name → Option Value → Bool
is_ref_to target None = false
is_ref_to target (Some value.Nil) = false
is_ref_to target (Some (value.Number n)) = false
is_ref_to target (Some (value.Ref name)) = is_same_name name target

-- whether a world has the field: the strong field at its position refers to its target
abbrev pub stands_in : World → Field → Bool
stands_in w f = is_ref_to f.target (strong_in (node_of w f.name) f.place)

-- the position of a stack's top
abbrev pub top_place : Node → ℕ
top_place (Stack size values) = length values - 1
top_place node = 0

-- the position after a stack's top
abbrev pub depth : Node → ℕ
depth (Stack size values) = length values
depth node = 0

-- the position after a thunk's last free variable
abbrev pub after_free : Node → ℕ
after_free (Thunk free result) = length free + 1
after_free node = 0

-- the first position that a change may write or remove
abbrev pub first_place : Change → Node → ℕ
first_place (change.Set index v) node = index
first_place (change.Exchange index expected v) node = index
first_place (change.Update v) node = 0
first_place (change.Push m v) node = 0
first_place (change.Pop m) node = top_place node
first_place change.Finalise node = 0

-- the position after the last position that a change may write or remove
abbrev pub end_place : Change → Node → ℕ
end_place (change.Set index v) node = index + 1
end_place (change.Exchange index expected v) node = index + 1
end_place (change.Update v) node = after_free node
end_place (change.Push m v) node = 0
end_place (change.Pop m) node = depth node
end_place change.Finalise node = 0

-- fields that both the snapshot and the world have, and at least all at positions that the command may write or remove
pub record IsStanding (snapshot w : World) (m : ℕ) (c : Command) (fields : List Field) : Type 0 where
  pub sound : (f : Field) → Contains fields f → (stands_in snapshot f ≡ true) × (stands_in w f ≡ true)
  pub all : (f : Field) (ch : Change) (node : Node) → asked w m c ≡ Some (value.Ref f.name, ch) → node_of w f.name ≡ Some node →
      first_place ch node ≤ f.place → f.place < end_place ch node → stands_in snapshot f ≡ true → stands_in w f ≡ true → Contains fields f

-- the names to which these fields refer
abbrev pub targets : List Field → List Name
targets fields = map (λ (f : Field). f.target) fields

-- the names that a weak pointer with these parts keeps: its own name, and the names in its value and its finaliser
abbrev pub kept_of : Name → Option Parts → List Name
kept_of weak None = []
kept_of weak (Some parts) = names_among (value.Ref weak ∷ parts.value ∷ parts.finaliser ∷ [])

-- the names kept by those weak pointers that are alive in the snapshot: their own, and those in values and finalisers
abbrev pub kept_then : World → List Name → List Name
kept_then snapshot weaks = flat_map (λ weak. kept_of weak (parts_of snapshot weak)) weaks

-- the field that the command may write, if it writes a reference and the world doesn't have the field; at most one
pub record IsComing (w : World) (m : ℕ) (c : Command) (field : Option Field) : Type 0 where
  pub sound : (f : Field) → field ≡ Some f → stands_in w f ≡ false
  pub all : (f : Field) (ch : Change) (node : Node) → asked w m c ≡ Some (value.Ref f.name, ch) → node_of w f.name ≡ Some node →
      place_written ch node ≡ Some f.place → value_written ch ≡ Some (value.Ref f.target) → stands_in w f ≡ false → field ≡ Some f

-- the target of the field that came, if there is such a field and the world has it
abbrev pub came_in : World → Option Field → Option Name
came_in after None = None
came_in after (Some f) = if stands_in after f then Some f.target else None

-- the values that a new node stores: those in its strong fields, or the parts of a weak pointer
abbrev pub stored_values : Node → List Value
stored_values (Weak parts) = parts_held parts
stored_values node = strong_fields node

-- the values that the node of a name stores, if there is a node
abbrev pub values_in : Option Node → List Value
values_in None = []
values_in (Some node) = stored_values node

-- the names that a command stored, by the world after it: the target of the field that came, and the names in the object that
-- it may have made
abbrev pub stored_in : World → Name → Option Field → List Name
stored_in after made field = option_to_list (came_in after field) ++ names_among (values_in (node_of after made))

-- the names that a command handed out: none if its mutator is scanned, and otherwise the stored names that may be due
abbrev pub handed_in : Bool → World → World → Name → Option Field → List Name
handed_in true snapshot after made field = []
handed_in false snapshot after made field = filter (is_pushed_in snapshot) (stored_in after made field)

-- the names that come due if a value is handed over: none unless the first mutator isn't scanned and the second is
abbrev pub given_names : Bool → Bool → World → Value → List Name
given_names true taken snapshot v = []
given_names false false snapshot v = []
given_names false true snapshot v = filter (is_pushed_in snapshot) (names_among (v ∷ []))

-- sorted names: no name is before its predecessor in the list
abbrev pub AreSorted : List Name → Type 0
AreSorted names = IsSortedByKey {X = Name} {K = ℕ × ℕ} (λ (name : Name). (name.maker, name.serial)) (λ a b. ordering_then (nat_cmp a.0 b.0) (nat_cmp a.1 b.1)) names

-- sorted names, each once
abbrev pub once : List Name → List Name
once [] = []
once (name ∷ []) = name ∷ []
once (name ∷ next ∷ names) = if is_same_name name next then once (next ∷ names) else name ∷ once (next ∷ names)

-- a count, with one more or not
abbrev pub added : Bool → ℕ → ℕ
added true count = count + 1
added false count = count
