-- The fold of the collector's scans: the marked names and the queue, by the opening state and its addresses alone.
use Rattle.std.specs.Prelude.{ℕ, ◌+◌, ◌/◌, ◌%◌, ◌==◌, ◌&&◌, ◌||◌, not, nat_le, Bool, true, false, List, [], ◌∷◌, ◌++◌, zero, suc, drop, Option, Some, None, is_some, if◌then◌else◌}
use Rattle.nmgc_world_spec.specs.{declared.value.Name.Name, declared.node.Node.Node, declared.node.Node.TheVariants.Thunk, World.World, World.node_of}
use Rattle.nmgc_snapshot_laws.specs.{declared.event.Entry.Entry, State.State, State.Order, State.joined, State.is_listed, State.entry_of, Scan.fields_of}
use Rattle.nmgc_object.specs.declared.size.TheConstants.{HEADER_WORDS}
use Rattle.nmgc_heap_spec.specs.Objects.{Place}
use Rattle.nmgc_round.specs.View.{Scan, Opening}

-- the marks: the marked names and the queue, with its order
pub record Marks : Type 0 where
  pub marked : List Name
  pub queue : List Entry
  pub order : Order

-- the marks of a state
abbrev pub marks_of : State → Marks
marks_of s = record { marked = s.marked; queue = s.queue; order = s.order }

-- the name of the object that begins at an address, if there is one
abbrev pub name_at : List Place → ℕ → Option Name
name_at [] at = None
name_at (p ∷ ps) at = if p.at == at then Some p.name else name_at ps at

-- the name to which a word refers, among these addresses: an unset field refers to none
abbrev pub name_meant : List Place → ℕ → Option Name
name_meant places w = if w == 0 then None else (if w % 2 == 0 then name_at places (w / 2) else None)

-- the name to which the word at a position refers: the header refers to none
abbrev pub name_read : List Place → ℕ → ℕ → Option Name
name_read places zero w = None
name_read places (suc i) w = name_meant places w

-- the marks after a name was found: if it is an unmarked name of the snapshot, it is marked and queued
abbrev pub with_name : World → Marks → Option Name → Marks
with_name snapshot m None = m
with_name snapshot m (Some name) = if is_some (node_of snapshot name) && not (is_listed name m.marked) then record m {
  marked = m.marked ++ name ∷ [];
  queue = joined m.order m.queue (entry_of name);
} else m

-- whether a node is a thunk
abbrev pub is_thunk : Node → Bool
is_thunk (Thunk free result) = true
is_thunk _ = false

-- whether no position is left to read after this word: it was the last field, or a result that was set
abbrev pub is_last_word : Node → ℕ → ℕ → Bool
is_last_word node position w = nat_le (fields_of node) position || ((position == 1) && (is_thunk node && not (w == 0)))

-- the entry after this word, if a position is left; kind and number of fields are from the node in the snapshot
abbrev pub entry_past : Option Node → Entry → ℕ → List Entry
entry_past None entry w = []
entry_past (Some node) entry w = if is_last_word node entry.position w then [] else (record { name = entry.name; position = entry.position + 1 }) ∷ []

-- the marks without the first entry of the queue
abbrev pub rest_of : Marks → Marks
rest_of m = record m { queue = drop 1 m.queue }

-- the marks after one scan: the entry leaves the queue, the name read is marked, and the entry is first again, if a position
-- is left
abbrev pub after_word : Opening → Marks → Scan → Marks
after_word o m s =
    let more = with_name o.core.snapshot (rest_of m) (name_read o.places s.entry.position s.word) in
    record more { queue = entry_past (node_of o.core.snapshot s.entry.name) s.entry s.word ++ more.queue }

-- the marks after scans
abbrev pub folded : Opening → Marks → List Scan → Marks
folded o m [] = m
folded o m (s ∷ ss) = folded o (after_word o m s) ss

-- the marks of a round: a fold of the scans over the opening alone. When a word that was read points to one of the opening's
-- addresses, the name there is marked and queued, provided that it is an unmarked name of the snapshot
abbrev pub marks_after : Opening → List Scan → Marks
marks_after o ss = folded o (marks_of o.core) ss

-- the offset of a position among the words of its object
abbrev pub offset_of : ℕ → ℕ
offset_of zero = 0
offset_of (suc i) = HEADER_WORDS + i
