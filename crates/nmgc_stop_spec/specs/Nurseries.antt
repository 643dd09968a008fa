-- The objects in the nurseries.
use Rattle.std.specs.Prelude.{ℕ, ◌≡◌, ◌+◌, ◌<◌, ◌≤◌, List, length, slice_index_or, Contains, Some}
use Rattle.nmgc_world_spec.specs.{declared.node.Node.Node, World.World, World.node_of, Reach.IsBefore}
use Rattle.nmgc_object.specs.{Words.nursery_place, declared.layout.Layout.Layout, declared.layout.Nursery.Nursery}
use Rattle.nmgc_heap_spec.specs.Objects.{size_of, Place}

-- the nursery of the mutator `maker`
abbrev pub nursery_at : List Nursery → ℕ → Nursery
nursery_at nurseries maker = slice_index_or nurseries maker (record { base = 0; top = 0; end = 0 })

-- the nurseries are the mutators' parts of the words, and every nursery object lies in the used part of its maker's nursery
pub record AreUsed (layout : Layout) (base : ℕ) (places : List Place) (w : World) (nurseries : List Nursery) : Type 0 where
  pub count : length nurseries ≡ layout.mutators
  pub places_are : (maker : ℕ) → maker < layout.mutators → (nursery_at nurseries maker).base ≡ nursery_place layout maker
  pub tops : (maker : ℕ) → maker < layout.mutators → ((nursery_at nurseries maker).base ≤ (nursery_at nurseries maker).top) ×
      ((nursery_at nurseries maker).top ≤ (nursery_at nurseries maker).base + layout.nursery)
  pub used : (p : Place) (node : Node) → Contains places p → base ≤ p.at → node_of w p.name ≡ Some node →
      p.at + size_of node ≤ (nursery_at nurseries p.name.maker).top

-- nursery objects lie in the order of their names: an object at a lower address has the earlier name
abbrev pub LieInOrder : ℕ → List Place → Type 0
LieInOrder base places = (a b : Place) → Contains places a → Contains places b → base ≤ a.at → a.at < b.at → IsBefore a.name b.name

-- no nursery has an object
abbrev pub AreEmpty : List Nursery → Type 0
AreEmpty nurseries = (maker : ℕ) → (nursery_at nurseries maker).top ≡ (nursery_at nurseries maker).base
