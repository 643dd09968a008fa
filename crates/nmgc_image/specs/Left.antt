-- The heap of a report represents a world.
use Rattle.std.specs.Prelude.{◌≡◌, ℕ, ◌+◌, ◌<◌, ◌≤◌, List, length, map, flat_map, Contains, All}
use Rattle.nmgc_limits.specs.declared.mutators.TheConstants.{REGISTERS}
use Rattle.nmgc_world_spec.specs.{declared.value.Name.Name, World.World, Known.IsWorld, Reach.IsWide}
use Rattle.nmgc_world_laws.specs.Limits.{IsWithin}
use Rattle.nmgc_object.specs.{Layouts.IsLayout, Words.nursery_place, declared.layout.Layout.Layout, declared.size.TheConstants.HEADER_WORDS, declared.words.TheConstants.MAX_FIELDS}
use Rattle.nmgc_heap_spec.specs.{Objects.Place, Represents.Represents, Represents.NoNode, Roots.RepresentsRoots, Roots.ListsWeaks}
use Rattle.nmgc_stop_spec.specs.Occupied.{AreBlocks}
use Rattle.nmgc_journal.specs.{declared.report.MutatorEnd.MutatorEnd, declared.report.Report.Report}
use Rattle.nmgc_image.specs.{declared.image.Image.Image, Image.IsImage, Image.Shows}

-- the most words of a segment for which the header of each object can be written
abbrev pub most_object_words : ℕ
most_object_words = HEADER_WORDS + MAX_FIELDS

-- the heap that a run leaves: the report's words, segments, roots and list of weak pointers represent a world within the
-- limits, as a stop leaves it. All objects are in blocks, and none in a nursery.
pub record IsLeftAs (report : Report) (w : World) : Type 0 where
  pub world : IsWorld w
  pub limit : ℕ
  pub small : limit ≤ most_object_words
  pub within : IsWithin limit w
  pub layout : Layout
  pub sized : IsLayout layout
  pub earlier : List World
  pub places : List Place
  pub represents : Represents layout earlier NoNode places w report.words
  pub registers : All (λ (m : MutatorEnd). length m.registers ≡ REGISTERS) report.mutators
  pub roots : RepresentsRoots places w (flat_map (λ (m : MutatorEnd). m.registers) report.mutators) (map (λ (m : MutatorEnd).
      m.queue) report.mutators) (map (λ (m : MutatorEnd). m.serial) report.mutators)
  pub layout_is : report.segments.layout ≡ layout
  pub blocks : AreBlocks report.segments (nursery_place layout 0) places w
  pub settled : (p : Place) → Contains places p → p.at < nursery_place layout 0
  pub weaks : List Place
  pub listed : ListsWeaks layout places w weaks
  pub weaks_are : report.weaks ≡ map (λ (p : Place). p.name) weaks

-- a name in the world's wide reach has its object at this address
abbrev pub LiesWideAt : List Place → World → ℕ → Type 0
LiesWideAt places w at = (name : Name) × IsWide w name × Contains places (record { at = at; name = name })

-- an image that shows a world within the limits is well-formed: orderly, with g and every name that it mentions
abbrev pub ShownIsImage : Type 0
ShownIsImage = (words : ℕ) (w : World) (image : Image) → words ≤ most_object_words → IsWorld w → IsWithin words w → Shows w image → IsImage image
