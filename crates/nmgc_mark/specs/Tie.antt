-- The tie by addresses, for the opening of a round: the marker's marks and queue are the marking machine's. An opening is a
-- state of the marking machine with the objects in use, at a stop as well as in a round. The marks are that state's, or the
-- marks after the collector's scans. A marker represents blocks by their addresses.
use Rattle.std.specs.Prelude.{ℕ, ◌≡◌, ◌+◌, ◌≤◌, ◌⊎◌, ◌↔◌, List, [], ◌∷◌, length, Contains, IsSome}
use Rattle.nmgc_world_spec.specs.{declared.value.Name.Name, World.node_of, World.shared_name}
use Rattle.nmgc_object.specs.{Words.word_total, FinQueue.FinQueue, declared.layout.Layout.Layout, declared.size.TheConstants.HEADER_WORDS}
use Rattle.nmgc_snapshot_laws.specs.{declared.event.Entry.Entry, State.newest_first}
use Rattle.nmgc_alloc.specs.{AllocState.Segments, Blocks.IsSnapshotAt, Blocks.IsMarkedAt}
use Rattle.nmgc_heap_spec.specs.Objects.{Place}
use Rattle.nmgc_round.specs.{View.Opening, Marking.Marks, Marking.with_name, Marking.name_at, Marking.name_meant}
use Rattle.nmgc_mark.specs.Seen.{MarkerSeen}

-- objects that are apart: no two share an address or a name, and each has room for header and name within the heap's words
pub record AreApart (layout : Layout) (places : List Place) : Type 0 where
  pub one : (p q : Place) → Contains places p → Contains places q → (p.name ≡ q.name) ⊎ (p.at ≡ q.at) → p ≡ q
  pub above : (p : Place) → Contains places p → 1 ≤ p.at
  pub inside : (p : Place) → Contains places p → p.at + HEADER_WORDS ≤ word_total layout

-- the snapshot by addresses: a block is in it exactly if an object in use begins at the block's address and has a name of the
-- snapshot. Only g has no block, and no two objects share an address or a name.
pub record IsRightSnapshot (o : Opening) (s : Segments) : Type 0 where
  pub layout : s.layout ≡ o.layout
  pub apart : AreApart o.layout o.places
  pub sound : (at : ℕ) → IsSnapshotAt s at → (name : Name) × Contains o.places (record { at = at; name = name }) × IsSome (node_of o.core.snapshot name)
  pub complete : (p : Place) → Contains o.places p → IsSome (node_of o.core.snapshot p.name) → (p.name ≡ shared_name) ⊎ IsSnapshotAt s p.at

-- the queue has the addresses of the entries' objects in order, and each entry is still to be scanned from the header on
abbrev pub AreQueued : List Place → List ℕ → List Entry → Type 0
AreQueued places [] [] = Unit {0}
AreQueued places (at ∷ ats) (entry ∷ entries) = (Contains places (record { at = at; name = entry.name }) × (entry.position ≡ 0)) × AreQueued places ats entries
AreQueued places _ _ = ⊥

-- the tie: the marker has the machine's marks and queue, newest first. A block is marked with the epoch exactly if the name at
-- its address is marked. The queue has the addresses of the queued names, with no position read yet. The marker counts the
-- marked names without g, which counts as marked and has no block.
pub record IsTied (o : Opening) (m : Marks) (s : Segments) (marker : MarkerSeen) : Type 0 where
  pub snapshot : IsRightSnapshot o s
  pub shared : Contains m.marked shared_name
  pub marks : (p : Place) → Contains o.places p → IsSnapshotAt s p.at → IsMarkedAt s marker.epoch p.at ↔ Contains m.marked p.name
  pub order : m.order ≡ newest_first
  pub queue : AreQueued o.places marker.queue m.queue
  pub count : marker.marked + 1 ≡ length m.marked

-- the machine's marks after the targets of words are marked in order
abbrev pub with_words : Opening → Marks → List ℕ → Marks
with_words o m [] = m
with_words o m (w ∷ ws) = with_words o (with_name o.core.snapshot m (name_meant o.places w)) ws

abbrev pub with_queues : Opening → Marks → List FinQueue → Marks
with_queues o m [] = m
with_queues o m (q ∷ qs) = with_queues o (with_words o m q.words) qs

-- the machine's marks after the names at addresses are marked in order
abbrev pub with_places : Opening → Marks → List ℕ → Marks
with_places o m [] = m
with_places o m (at ∷ ats) = with_places o (with_name o.core.snapshot m (name_at o.places at)) ats
