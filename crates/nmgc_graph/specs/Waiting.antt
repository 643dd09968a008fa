-- The weak pointers of a list, filed by the names that they wait for, which are their keys.
--
-- Only private contracts use these definitions. A weak pointer is represented by its position in the list. The weak pointers
-- that wait for a name are represented by a bound: their positions are below it, and the last is just below it. The bound is
-- 0 if no weak pointer waits.
use Rattle.std.specs.Prelude.{◌≡◌, ℕ, ◌+◌, ◌<◌, ◌≤◌, List, [], ◌∷◌, ◌++◌, length, slice_index, slice_index_or, slice_set, Option, Some, None, IsSome, Contains, option_and_then}
use Rattle.nmgc_world_spec.specs.{declared.value.Name.Name, declared.value.Value.Value, declared.node.Parts.Parts, World.World, World.node_of}
use Rattle.nmgc_world_spec.specs.declared.value.Value.TheVariants as value
use Rattle.nmgc_graph.specs.{declared.search.Search.Search, declared.waiting.Waiting.Waiting, Search.parts_of, Search.with_weaks}

-- the name that a value refers to, if it refers to one
abbrev pub name_in : Value → Option Name
name_in value.Nil = None
name_in (value.Number n) = None
name_in (value.Ref name) = Some name

-- the name that a weak pointer waits for: the weak pointer is alive, and its key refers to the name
abbrev pub key_of : World → Name → Option Name
key_of w weak = option_and_then (λ (parts : Parts). name_in parts.key) (parts_of w weak)

-- the bounds of one maker's names
abbrev pub bounds_of : List (List ℕ) → ℕ → List ℕ
bounds_of bounds maker = slice_index_or bounds maker []

-- the bound of a name; 0 if there is no place for it
abbrev pub bound_of : List (List ℕ) → Name → ℕ
bound_of bounds name = slice_index_or (bounds_of bounds name.maker) name.serial 0

-- the index has a place for the name's bound
abbrev pub HasBound : List (List ℕ) → Name → Type 0
HasBound bounds name = name.serial < length (bounds_of bounds name.maker)

-- the bounds with another bound of a name
abbrev pub with_bound : List (List ℕ) → Name → ℕ → List (List ℕ)
with_bound bounds name bound = slice_set bounds name.maker (slice_set (bounds_of bounds name.maker) name.serial bound)

-- the index after the next weak pointer of the list was filed, which waits for a name or for no name
abbrev pub with_next : Waiting → Option Name → Waiting
with_next waiting None = record { bounds = waiting.bounds; before = waiting.before ++ 0 ∷ [] }
with_next waiting (Some key) = record {
  bounds = with_bound waiting.bounds key (length waiting.before + 1);
  before = waiting.before ++ bound_of waiting.bounds key ∷ [];
}

-- the weak pointer at a position of the list
abbrev pub weak_at : List Name → ℕ → Name
weak_at weaks place = slice_index_or weaks place (record { maker = 0; serial = 0 })

-- the bound of a name among the weak pointers before a position
pub record IsBound (w : World) (weaks : List Name) (name : Name) (place bound : ℕ) : Type 0 where
  pub within : bound ≤ place
  pub below : (k : ℕ) → k < place → key_of w (weak_at weaks k) ≡ Some name → k < bound
  pub last : (k : ℕ) → bound ≡ k + 1 → key_of w (weak_at weaks k) ≡ Some name

-- the index of the first `count` weak pointers: each name's bound, and for each weak pointer that waits the bound before it
pub record AreFiled (w : World) (weaks : List Name) (count : ℕ) (waiting : Waiting) : Type 0 where
  pub counted : length waiting.before ≡ count
  pub places : (name : Name) → IsSome (node_of w name) → HasBound waiting.bounds name
  pub bounds : (name : Name) → IsBound w weaks name count (bound_of waiting.bounds name)
  pub before : (k : ℕ) (name : Name) → k < count → key_of w (weak_at weaks k) ≡ Some name → IsBound w weaks name k (slice_index waiting.before k)

-- a pass over some weak pointers, among which are all weak pointers of the list that wait for the name
pub record IsRevival (w : World) (weaks : List Name) (name : Name) (old new : Search) : Type 0 where
  pub passed : List Name
  pub is : new ≡ with_weaks w old passed
  pub all : (k : ℕ) → k < length weaks → key_of w (weak_at weaks k) ≡ Some name → Contains passed (weak_at weaks k)
