-- The facts at the end of a round: its rule, for the words and the one seat that has every part.
use Rattle.std.specs.Prelude.{◌≡◌, true, ℕ, ◌<◌, List, ◌∷◌, ◌++◌, map, length, Contains}
use mathlib.Core.Option.{some}
use lib.ListN.{get_elem?}
use Rattle.nmgc_world_spec.specs.{declared.value.Name.Name, declared.node.Node.Node, World.shared_name}
use Rattle.nmgc_object.specs.{declared.layout.TheConstants.SHARED_PLACE, Words.word_total}
use Rattle.nmgc_snapshot_laws.specs.declared.event.Entry.{Entry}
use Rattle.nmgc_heap_spec.specs.{Objects.Place, Represents.Represents}
use Rattle.nmgc_round.specs.{Events.Happening, Events.IsLegal, Events.done_by, Events.scans_in, View.Opening, View.Part, View.Seen, View.exclusive, Marking.marks_of, Marking.marks_after, Objects.Object, Objects.place_of, Objects.earlier, Objects.IsObject, Objects.IsIn, Objects.RepresentsInRound}
use Rattle.nmgc_round.specs.Rule.{now, AllRead, Fits, Rests, IsOpening, ArePlaced, IsNew, IsQueued, AreKnown}

-- a round that is over: the words, and the views of all its seats joined in one, agree with one list of events
pub record IsFinished (o : Opening) (words : List ℕ) (v : Seen) : Type 0 where
  pub is : IsOpening o
  pub placed : ArePlaced o
  pub events : List Happening
  pub born : List Object
  pub legal : IsLegal o.core events
  pub stands : RepresentsInRound o born (now o events).world words
  pub shared : IsIn o born (record { at = SHARED_PLACE; name = shared_name })
  pub new : (x : Object) → Contains born x → IsNew o x
  pub known : AreKnown o born (now o events).world
  pub queued : (entry : Entry) → Contains (now o events).queue entry → IsQueued o entry
  pub parts : (k : ℕ) (p : Part) → get_elem? v.parts k ≡ some p → Fits o born (now o events) (done_by p.number events) p × Rests o born words p
  pub scans : v.collects ≡ true → AllRead (IsIn o born) v.scans (scans_in events) × (marks_of (now o events) ≡ marks_after o v.scans)

-- a view with the part of every mutator
abbrev pub HasEach : Opening → Seen → Type 0
HasEach o v = (m : ℕ) → m < length o.core.world.mutators → (k : ℕ) × (p : Part) × (get_elem? v.parts k ≡ some p) × (p.number ≡ m)

-- a view with every part of its round
abbrev pub HasAll : Seen → Type 0
HasAll v = (v.collects ≡ true) × HasEach v.opening v

-- the round of the view v has ended, and w is the view of the only seat
abbrev pub Ended : Seen → Seen → Type 0
Ended v w = (w ≡ exclusive w.words) × IsFinished v.opening w.words v × (length w.words ≡ word_total v.opening.layout)

-- the addresses in use at the end of the round
abbrev pub places_then : Opening → List Object → List Place
places_then o born = o.places ++ map place_of born

-- the nodes with which the round knows its objects: their fields that never change are still the same
abbrev pub IsKeptThen : Opening → List Object → Name → Node → Type 0
IsKeptThen o born name before = (x : Object) × IsObject o born x × (x.name ≡ name) × (before ≡ x.node)

-- the facts that a round leaves: there is one list of events for this view. The words represent the world after these events,
-- with the addresses of the opening and of the new objects
abbrev pub Leaves : Opening → List ℕ → Seen → Type 0
Leaves o words v = (h : IsFinished o words v) × Represents o.layout (o.core.world ∷
    earlier o) (IsKeptThen o h.born) (places_then o h.born) (now o h.events).world words
