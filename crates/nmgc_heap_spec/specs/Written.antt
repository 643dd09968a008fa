-- The words of a node, by its shape and by the parts of an object: statements of laws.
use Rattle.std.specs.Prelude.{ℕ, ◌≡◌, ◌≢◌, ◌≤◌, List, slice_index, slice_get, Contains, Some}
use Rattle.nmgc_world_spec.specs.{declared.value.Name.Name, declared.node.Node.Node, World.World, World.node_of, World.shared_name, Known.IsWorld}
use Rattle.nmgc_world_laws.specs.{Shape.kind_of, Shape.tag_of, Shape.part_count, Shape.words_of, Limits.IsNodeWithin, Limits.IsWithin}
use Rattle.nmgc_object.specs.{Fields.header_place, Words.name_place, Words.header_word, Words.name_word, Words.IsHeader, Fields.field_place, Fields.object_size, Layouts.IsSegmentSize, declared.layout.Layout.Layout}
use Rattle.nmgc_heap_spec.specs.{Objects.Slot, Objects.header_of, Objects.size_of, Objects.slots_of, Objects.Place, Objects.Fills, Objects.LiesWell, Tracked.IsTracked, Represents.Represents}

-- the header of a node is its shape, and its object has the number of words that header and shape give
abbrev pub HeaderIsShape : Type 0
HeaderIsShape = (node : Node) → ((header_of node).kind ≡ kind_of node) × ((header_of node).tag ≡ tag_of node) ×
    ((header_of node).fields ≡ part_count node) × (size_of node ≡ object_size (header_of node)) × (size_of node ≡ words_of node)

-- a node within the limits of a script, except g, has a header that can be written, and an object no larger than a segment
abbrev pub NodeIsWritten : Type 0
NodeIsWritten = (words : ℕ) (name : Name) (node : Node) → IsSegmentSize words → name ≢ shared_name → IsNodeWithin words name node →
    IsHeader (header_of node) × (size_of node ≤ words)

-- in a world within the limits every node has a header that can be written, and every object except g fits into a segment
abbrev pub WorldIsWritten : Type 0
WorldIsWritten = (words : ℕ) (w : World) → IsSegmentSize words → IsWorld w → IsWithin words w → (name : Name) (node : Node) →
    node_of w name ≡ Some node → IsHeader (header_of node) × (name ≢ shared_name → size_of node ≤ words)

-- an object written where `nmgc_object` puts its parts: its header, each specified field, and its extent. In words that
-- represent a world every tracked object is written like this, and every place has its name there
pub record IsWritten (layout : Layout) (places : List Place) (words : List ℕ) (p : Place) (node : Node) : Type 0 where
  pub header : slice_index words (header_place p.at) ≡ header_word (header_of node)
  pub fields : (i : ℕ) (slot : Slot) → slice_get (slots_of node) i ≡ Some slot → Fills (Contains places) (slice_index words (field_place p.at i)) slot
  pub lies : LiesWell layout p (object_size (header_of node))

abbrev pub PartsAreWritten : (Name → Node → Type 0) → Type 0
PartsAreWritten K = (layout : Layout) (earlier : List World) (places : List Place) (w : World) (words : List ℕ) →
    Represents layout earlier K places w words → (p : Place) → Contains places p → (slice_index words (name_place p.at) ≡ name_word p.name) ×
    ((node : Node) → IsTracked w earlier p.name → node_of w p.name ≡ Some node → IsWritten layout places words p node)
