-- Objects at a stop: those that a cycle judges and frees, those that are promoted, and their places.
--
-- Names opened since the snapshot count as reachable, and weak pointers finalised since then don't die. Everything else after
-- the snapshot is left out: a cycle frees the objects that could not be reached at its snapshot. By the stop up to which
-- `earlier` has the rows, the marker has all objects that these rows owed.
use Rattle.std.specs.Prelude.{IsSome, List, None, Some, [], ℕ, ◌∷◌, ◌≡◌, ◌≢◌, ◌⊎◌}
use Rattle.nmgc_world_spec.specs.Reach.{IsAlive, IsDead, IsKept, IsOfWeak, IsReached, IsRoot, RefersTo, Row, finalised, opened}
use Rattle.nmgc_world_spec.specs.{World.World, World.node_of, World.shared_name, declared.node.Node.Node, declared.node.Parts.Parts, declared.value.Name.Name}
use Rattle.nmgc_object.specs.{Words.IsClassOf, declared.layout.Layout.Layout}
use Rattle.nmgc_segment.specs.declared.state.State.TheVariants as stands
use Rattle.nmgc_alloc.specs.AllocState.{AllocState, IsIn, IsOne, LiesIn, PlacesName, block_place, cells}
use Rattle.nmgc_heap_spec.specs.Objects.{Place, shared_place, size_of}

-- a cycle: its number, its snapshot's stop, world and allocation state, its rows, and these without the last round (`earlier`)
pub record Cycle : Type 0 where
  pub number : ℕ
  pub from : ℕ
  pub snapshot : World
  pub heap : AllocState
  pub rows : List Row
  pub earlier : List Row

-- the weak pointer dies when the cycle closes: it is dead in the snapshot, with the names opened and finalised since
abbrev pub IsDeadIn : Cycle → Name → Type 0
IsDeadIn c weak = IsDead c.snapshot (opened c.snapshot c.rows) (finalised c.snapshot c.rows) weak

-- the cycle keeps the name: it is kept in the snapshot, with the names opened and finalised since
abbrev pub IsKeptIn : Cycle → Name → Type 0
IsKeptIn c name = IsKept c.snapshot (opened c.snapshot c.rows) (finalised c.snapshot c.rows) name

-- the cycle sweeps the segment: it was filled when the cycle began
abbrev pub IsSweptIn : Cycle → ℕ → Type 0
IsSweptIn c number = IsOne (IsIn stands.Filled) c.heap number

-- when the cycle began, the object lay in a segment that the cycle sweeps
abbrev pub IsHadIn : Cycle → Name → Type 0
IsHadIn c name = (number : ℕ) × (block : ℕ) × IsSweptIn c number × LiesIn c.heap number block name

-- the cycle frees the object: it lay in a segment that the cycle sweeps, and the cycle doesn't keep it
abbrev pub IsFreedIn : Cycle → Name → Type 0
IsFreedIn c name = IsHadIn c name × (IsKeptIn c name → ⊥)

-- a name other than g, the shared array, with property P
abbrev pub ExceptShared : (Name → Type 0) → Name → Type 0
ExceptShared P name = P name × (name ≢ shared_name)

-- a new name: the round made it
abbrev pub IsYoung : World → World → Name → Type 0
IsYoung began w name = (node_of began name ≡ None) × IsSome (node_of w name)

-- the search begins at roots, at names to which an older object refers, and at new weak pointers alive, with their parts
abbrev pub IsFirstPromoted : World → World → Name → Type 0
IsFirstPromoted began w name = IsRoot w name ⊎ (((holder : Name) × IsSome (node_of began holder) × RefersTo w holder name) ⊎
    ((weak : Name) × (parts : Parts) × IsYoung began w weak × IsAlive w weak parts × IsOfWeak weak parts name))

-- the promotion rule: a new name is promoted if strong fields lead to it from a name at which the search begins
abbrev pub IsPromoted : World → World → Name → Type 0
IsPromoted began w name = IsYoung began w name × IsReached w (IsFirstPromoted began w) name

-- the object of the name is placed by the placing rule, for its maker and the least class whose blocks are large enough
pub record PlacesObject (layout : Layout) (w : World) (old new : AllocState) (name : Name) : Type 0 where
  pub node : Node
  pub there : node_of w name ≡ Some node
  pub class : ℕ
  pub fits : IsClassOf (size_of node) class
  pub places : PlacesName layout old new name.maker class name

-- the names are placed in order, each by the placing rule for its maker and the least class large enough for its object
abbrev pub PlacesEach : Layout → World → AllocState → List Name → AllocState → Type 0
PlacesEach layout w old [] new = new ≡ old
PlacesEach layout w old (name ∷ names) new = (next : AllocState) × PlacesObject layout w old next name × PlacesEach layout w next names new

-- the place of a block, with the name of the object in it
pub record IsBlockPlace (layout : Layout) (allocation : AllocState) (p : Place) : Type 0 where
  pub number : ℕ
  pub block : ℕ
  pub lies : LiesIn allocation number block p.name
  pub at : p.at ≡ block_place layout number (cells allocation number).class block

-- a place while the nurseries are empty: the place of g, or of a block
abbrev pub IsPlaceAtStop : Layout → AllocState → Place → Type 0
IsPlaceAtStop layout allocation p = (p ≡ shared_place) ⊎ IsBlockPlace layout allocation p
