-- The rule of the table: it is stopped, or there is a list of events of a round with which the words and all views agree.
use Rattle.std.specs.Prelude.{◌≡◌, ◌⊎◌, ℕ, ◌+◌, ◌<◌, ◌≤◌, Bool, true, false, List, [], ◌∷◌, length, slice_index, Contains, Option, Some, None, IsSome}
use mathlib.Core.Option.{some}
use lib.ListN.{get_elem?}
use Rattle.nmgc_world_spec.specs.{declared.value.Name.Name, declared.value.Value.Value, declared.node.Node.Node, declared.command.Command.Command, declared.command.Reply.Reply, declared.command.Reply.TheVariants.Given, World.World, World.state_of, World.node_of, World.serial_of, World.shared_name, Reach.names_among, Reach.IsWide}
use Rattle.nmgc_object.specs.{Layouts.IsLayout, Words.nursery_place, declared.layout.TheConstants.SHARED_PLACE, declared.size.TheConstants.HEADER_WORDS}
use Rattle.nmgc_snapshot_laws.specs.{declared.event.Entry.Entry, State.State, State.names_of, Scan.fields_of}
use Rattle.nmgc_heap_spec.specs.{Objects.header_of, Objects.size_of, Objects.Place, Objects.Means, Objects.ListMeans, Changes.MayChange, Tracked.IsTracked}
use Rattle.nmgc_round.specs.{Events.Happening, Events.replay, Events.IsLegal, Events.done_by, Events.scans_in, Marking.marks_of, Marking.marks_after, Own.OwnSlots, Objects.Object, Objects.end_of, Objects.earlier, Objects.IsOld, Objects.IsLater, Objects.IsObject, Objects.IsIn, Objects.RepresentsInRound}
use Rattle.nmgc_round.specs.View.{Answer, plain, word, DoneRow, Hand, FixedWord, UnbornWord, Scan, Opening, Part, Seen, exclusive, hand_now}
use Rattle.nmgc_world_laws.specs.Holds.{has_result}

-- the state after events
abbrev pub now : Opening → List Happening → State
now o es = replay o.core es

-- the reply that an answer represents
abbrev pub Answers : (Place → Type 0) → Answer → Reply → Type 0
Answers P (plain r) reply = r ≡ reply
Answers P (word w) reply = (v : Value) × (Given v ≡ reply) × Means P w v

-- rows that agree with the events, one by one
abbrev pub AllAnswer : (Place → Type 0) → List DoneRow → List (Command × Reply) → Type 0
AllAnswer P [] [] = Unit {0}
AllAnswer P [] (x ∷ xs) = ⊥
AllAnswer P (r ∷ rs) [] = ⊥
AllAnswer P (r ∷ rs) (x ∷ xs) = ((r.command ≡ x.0) × Answers P r.answer x.1) × AllAnswer P rs xs

-- a word that was read at a position: the header has no value, and neither has an unset field
abbrev pub IsRead : (Place → Type 0) → ℕ → Option Value → Type 0
IsRead P w None = Unit {0}
IsRead P w (Some v) = Means P w v

-- scans that agree with the values read, one by one: position 0 is the header, and an unset field has no value
abbrev pub AllRead : (Place → Type 0) → List Scan → List (Entry × Option Value) → Type 0
AllRead P [] [] = Unit {0}
AllRead P [] (x ∷ xs) = ⊥
AllRead P (s ∷ ss) [] = ⊥
AllRead P (s ∷ ss) (x ∷ xs) = ((s.entry ≡ x.0) × IsRead P s.word x.1 × (x.1 ≡ None → 1 ≤ s.entry.position → s.word ≡ 0)) × AllRead P ss xs

-- words of values whose references are these names
abbrev pub AreOwed : (Place → Type 0) → List ℕ → List Name → Type 0
AreOwed P ws names = (values : List Value) × ListMeans P ws values × (names_among values ≡ names)

-- the words that a seat owes: while marking words of the names of the marking machine, and else none
abbrev pub Owes : Bool → (Place → Type 0) → List ℕ → List Name → Type 0
Owes true P ws names = AreOwed P ws names
Owes false P ws names = ws ≡ []

-- a hand that agrees with a mutator's state in the world: the hand that the mutator's rows leave
pub record IsHand (o : Opening) (born : List Object) (w : World) (m : ℕ) (h : Hand) : Type 0 where
  pub registers : ListMeans (IsIn o born) h.registers (state_of w m).registers
  pub queue : ListMeans (IsIn o born) h.queue (state_of w m).queue
  pub serial : h.serial ≡ serial_of w m

-- a part agrees with the events. Its rows are its mutator's commands with their replies. Registers, queue, serial and own
-- stacks agree with the world. The words that its steps found represent values with the references that the marking machine
-- lists as owed. While marking it owes the same words, else none
pub record Fits (o : Opening) (born : List Object) (s : State) (done : List (Command × Reply)) (p : Part) : Type 0 where
  pub exists : p.number < length s.world.mutators
  pub owing : p.number < length s.owed
  pub rows : AllAnswer (IsIn o born) p.rows done
  pub hand : IsHand o born s.world p.number (hand_now o p)
  pub found : AreOwed (IsIn o born) p.found (names_of s.owed p.number)
  pub owed : Owes o.marking (IsIn o born) p.owed (names_of s.owed p.number)
  pub own : OwnSlots o born s.world p.number (hand_now o p)

-- a mutator's nursery, and its first word that is in no object
abbrev pub base_of : Opening → ℕ → ℕ
base_of o m = nursery_place o.layout m

abbrev pub limit_of : Opening → ℕ → ℕ
limit_of o m = nursery_place o.layout m + o.layout.nursery

abbrev pub top_of : Opening → Part → ℕ
top_of o p = base_of o p.number + p.used

-- a word that never changes in a round: a header, a name, or a field that may not change
pub record IsFixed (o : Opening) (born : List Object) (at offset : ℕ) : Type 0 where
  pub object : Object
  pub here : IsObject o born object
  pub is_at : object.at ≡ at
  pub within : offset < size_of object.node
  pub fixed : (i : ℕ) → offset ≡ HEADER_WORDS + i → MayChange (header_of object.node).kind i → ⊥

-- a part agrees with the words: its nursery's rest is in no object, and the words that it names are as stored or loaded
pub record Rests (o : Opening) (born : List Object) (words : List ℕ) (p : Part) : Type 0 where
  pub exists : p.number < o.layout.mutators
  pub room : top_of o p ≤ limit_of o p.number
  pub below : (x : Object) → Contains born x → x.name.maker ≡ p.number → end_of x ≤ top_of o p
  pub unborn : (u : UnbornWord) → Contains p.unborn u → (slice_index words u.at ≡ u.word) × (top_of o p ≤ u.at) × (u.at < limit_of o p.number)
  pub fixed : (f : FixedWord) → Contains p.fixed f → IsFixed o born f.at f.offset × (slice_index words (f.at + f.offset) ≡ f.word)

-- a seat with a part in the round
abbrev pub IsActive : Seen → Type 0
IsActive v = ((k : ℕ) × (p : Part) × (get_elem? v.parts k ≡ some p)) ⊎ (v.collects ≡ true)

-- an idle seat: it has no part in a round, and isn't the only seat at a stop. So no flag says that a seat is spent
abbrev pub IsIdle : Seen → Type 0
IsIdle v = (v.is_sole ≡ false) × (v.parts ≡ []) × (v.collects ≡ false)

-- a view that agrees with the events and words; each mutator's part is at one seat, and the scans are at one
pub record Agrees (o : Opening) (born : List Object) (words : List ℕ) (es : List Happening) (owner : ℕ → ℕ) (scanner : ℕ) (id : ℕ) (v : Seen) : Type 0 where
  pub shares : v.is_sole ≡ false
  pub opening : IsActive v → v.opening ≡ o
  pub parts : (k : ℕ) (p : Part) → get_elem? v.parts k ≡ some p → (owner p.number ≡ id) × Fits o born (now o es) (done_by p.number es) p × Rests o born words p
  pub scans : v.collects ≡ true → (scanner ≡ id) × AllRead (IsIn o born) v.scans (scans_in es) × (marks_of (now o es) ≡ marks_after o v.scans)

-- every name that was tracked when the round began has an address
abbrev pub ArePlaced : Opening → Type 0
ArePlaced o = (name : Name) (node : Node) → IsTracked o.core.world (earlier o) name → node_of o.core.world name ≡ Some node → (at : ℕ) ×
    Contains o.places (record { at = at; name = name })

-- an object allocated in the round: its name is new, and it lies in its maker's nursery
pub record IsNew (o : Opening) (x : Object) : Type 0 where
  pub unknown : node_of o.core.world x.name ≡ None
  pub no_snapshot : node_of o.core.snapshot x.name ≡ None
  pub maker : x.name.maker < o.layout.mutators
  pub from : base_of o x.name.maker ≤ x.at
  pub to : end_of x ≤ limit_of o x.name.maker

-- the facts of an opening that no step changes
pub record IsOpening (o : Opening) : Type 0 where
  pub layout : IsLayout o.layout
  pub not_closed : o.core.is_closed ≡ false
  pub mutators : length o.core.world.mutators ≡ o.layout.mutators
  pub owed : length o.core.owed ≡ o.layout.mutators
  pub snapshot : (m : ℕ) → serial_of o.core.snapshot m ≤ serial_of o.core.world m
  pub wide : o.marking ≡ true → (x : Object) → IsOld o x → IsSome (node_of o.core.snapshot x.name) → IsWide o.core.snapshot x.name
  pub in_segments : (p : Place) → Contains o.places p → (m : ℕ) → m < o.layout.mutators → (p.at < base_of o m) ⊎ (limit_of o m ≤ p.at)

-- a queue entry: its name has its object, and a node in the snapshot with this position, after a result only if none was set
pub record IsQueued (o : Opening) (entry : Entry) : Type 0 where
  pub marking : o.marking ≡ true
  pub object : Object
  pub here : IsOld o object
  pub name : object.name ≡ entry.name
  pub node : Node
  pub there : node_of o.core.snapshot entry.name ≡ Some node
  pub within : entry.position ≤ fields_of node
  pub passed : 2 ≤ entry.position → has_result node ≡ false

-- every node of the world is a later node of one that was there when the round began, or the node of a new object
abbrev pub AreKnown : Opening → List Object → World → Type 0
AreKnown o born w = (name : Name) (node : Node) → node_of w name ≡ Some node →
    ((before : Node) × (node_of o.core.world name ≡ Some before) × IsLater before node) ⊎ ((x : Object) × Contains born x × (x.name ≡ name))

-- the rule of a round: there are events, legal from the opening, and new objects, which the words represent. Each part is at
-- one seat and agrees. The scans are at one seat and are the scans of the events, and the marks are the fold of the scans
pub record Keeps (o : Opening) (words : List ℕ) (views : List Seen) : Type 0 where
  pub is : IsOpening o
  pub placed : ArePlaced o
  pub events : List Happening
  pub born : List Object
  pub owner : ℕ → ℕ
  pub scanner : ℕ
  pub legal : IsLegal o.core events
  pub stands : RepresentsInRound o born (now o events).world words
  pub shared : IsIn o born (record { at = SHARED_PLACE; name = shared_name })
  pub new : (x : Object) → Contains born x → IsNew o x
  pub known : AreKnown o born (now o events).world
  pub queued : (entry : Entry) → Contains (now o events).queue entry → IsQueued o entry
  pub agrees : (id : ℕ) (v : Seen) → get_elem? views id ≡ some v → Agrees o born words events owner scanner id v

-- the table is stopped: one seat knows the words, and no other seat has a part
pub record Stopped (words : List ℕ) (views : List Seen) : Type 0 where
  pub holder : ℕ
  pub each : (id : ℕ) (v : Seen) → get_elem? views id ≡ some v → ((id ≡ holder) × (v ≡ exclusive words)) ⊎ IsIdle v

-- the rule of the table: it is stopped, or in a round with some opening, by the rule of a round
abbrev pub Holding : List ℕ → List Seen → Type 0
Holding words views = Stopped words views ⊎ ((o : Opening) × Keeps o words views)
