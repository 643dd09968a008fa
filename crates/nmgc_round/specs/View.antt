-- The views of seats: the state when the round began, the rows of their mutators, and the collector's scans.
--
-- A row has its answer as a word. The object of a pointer in it is known by the fixed words, once the seat has loaded the
-- name there or allocated the object; so a row never changes.
use Rattle.std.specs.Prelude.{ℕ, suc, ◌+◌, ◌*◌, ◌-◌, ◌/◌, ◌==◌, List, [], ◌∷◌, ◌++◌, map, drop, take, length, slice_index_or, slice_set, Bool, true, false, if◌then◌else◌}
use Rattle.nmgc_world_spec.specs.{declared.command.Operand.Operand, declared.command.Operand.TheVariants.Register, declared.command.Operand.TheVariants.Shared, declared.command.Command.Command, declared.command.Reply.Reply, declared.command.Reply.TheVariants.Fine, declared.value.Name.Name, World.words_made, World.new_world}
use Rattle.nmgc_world_spec.specs.declared.command.Command.TheVariants.{Num, Nil, Mov, Con, Var, Arr, Rec, Thunk, Weak, Stack, Get, Tag, Set, Cas, Update, Force, Push, Pop, Deref, Finalise, NextFin, Show, Same, Yield, Collect, Full}
use Rattle.nmgc_object.specs.{Words.name_word, declared.layout.Layout.Layout, declared.layout.TheConstants.SHARED_PLACE, declared.words.TheConstants.NIL_WORD, declared.words.TheConstants.ZERO_WORD}
use Rattle.nmgc_snapshot_laws.specs.{declared.event.Entry.Entry, State.State, State.newest_first, State.unmarked}
use Rattle.nmgc_heap_spec.specs.Objects.{Place}

-- an answer as a seat knows it: a reply that gives no value, or the word of the value given
pub data Answer : Type 0 where
  plain : Reply → Answer
  word : ℕ → Answer

-- a row: a command that a mutator did, with its answer: a reply that gives no value, or the word of the value given. It never
-- changes. The object of a pointer in it is known by the name word that the seat loaded at its address
pub record DoneRow : Type 0 where
  pub command : Command
  pub answer : Answer

-- the words of a stack's values, from the bottom up
pub record Slots : Type 0 where
  pub at : ℕ
  pub words : List ℕ

-- the state of a mutator outside the words: registers and finaliser queue as words, next serial, and the values of own stacks
pub record Hand : Type 0 where
  pub registers : List ℕ
  pub queue : List ℕ
  pub serial : ℕ
  pub stacks : List Slots

-- a word that was loaded and that never changes
pub record FixedWord : Type 0 where
  pub at : ℕ
  pub offset : ℕ
  pub word : ℕ

-- a word that was stored at an address that is in no object yet
pub record UnbornWord : Type 0 where
  pub at : ℕ
  pub word : ℕ

-- an entry of the mark queue, and the word that was read there
pub record Scan : Type 0 where
  pub entry : Entry
  pub word : ℕ

-- the beginning of a round: the layout, whether a cycle is marking, the state of the marking machine (outside marking a bare
-- world's), all addresses in use, and the hand of each mutator
pub record Opening : Type 0 where
  pub layout : Layout
  pub marking : Bool
  pub core : State
  pub places : List Place
  pub hands : List Hand

-- one mutator's part of a view: its rows, the words that its steps found, and that a marking cycle would owe, and the words
-- that it owes. Then the number of its nursery's words in objects, stored words in no object yet, and loaded words that never
-- change
pub record Part : Type 0 where
  pub number : ℕ
  pub rows : List DoneRow
  pub found : List ℕ
  pub owed : List ℕ
  pub used : ℕ
  pub unborn : List UnbornWord
  pub fixed : List FixedWord

-- the view of a seat. The only seat at a stop knows all words. In a round a seat knows the opening, the parts of its
-- mutators, and the scans if it has the collector's part
pub record Seen : Type 0 where
  pub is_sole : Bool
  pub words : List ℕ
  pub opening : Opening
  pub parts : List Part
  pub collects : Bool
  pub scans : List Scan

-- the empty hand, for a number that no mutator has
abbrev pub no_hand : Hand
no_hand = record { registers = []; queue = []; serial = 0; stacks = [] }

-- a mutator's hand, by its number
abbrev pub hand_of : List Hand → ℕ → Hand
hand_of hands m = slice_index_or hands m no_hand

-- the word of an operand
abbrev pub word_of : List ℕ → Operand → ℕ
word_of registers (Register r) = slice_index_or registers r NIL_WORD
word_of registers Shared = 2 * SHARED_PLACE

-- a hand with another word in a register
abbrev pub holding : Hand → ℕ → ℕ → Hand
holding h register w = record h { registers = slice_set h.registers register w }

-- a hand whose register takes the word that was given, if one was
abbrev pub taking : Hand → ℕ → Answer → Hand
taking h register (plain r) = h
taking h register (word w) = holding h register w

-- a hand after the allocation of an object
abbrev pub bearing : Hand → ℕ → Answer → Hand
bearing h register a = taking (record h { serial = h.serial + 1 }) register a

-- a hand with one more stack
abbrev pub stacking : Hand → Answer → Hand
stacking h (plain r) = h
stacking h (word w) = record h { stacks = record { at = w / 2; words = [] } ∷ h.stacks }

-- stacks with other values in the stack at an address
abbrev pub with_slots : List Slots → ℕ → (List ℕ → List ℕ) → List Slots
with_slots stacks at change = map (λ (s : Slots). if s.at == at then record s { words = change s.words } else s) stacks

-- a hand with one more value on a stack of its mutator's own, if the push succeeded
abbrev pub pushed : Hand → ℕ → ℕ → Answer → Hand
pushed h object w (plain Fine) = record h { stacks = with_slots h.stacks (object / 2) (λ ws. ws ++ w ∷ []) }
pushed h object w a = h

-- a hand with one value less on a stack of its mutator's own, if the pop succeeded
abbrev pub popped : Hand → ℕ → Answer → Hand
popped h object (plain r) = h
popped h object (word w) = record h { stacks = with_slots h.stacks (object / 2) (λ ws. take (length ws - 1) ws) }

-- the hand that a row leaves its mutator: registers, queue, next serial and stacks, by the row alone
abbrev pub leaves : Hand → Command → Answer → Hand
leaves h (Num dest n) a = holding h dest (2 * n + ZERO_WORD)
leaves h (Nil dest) a = holding h dest NIL_WORD
leaves h (Mov dest v) a = holding h dest (word_of h.registers v)
leaves h (Con dest tag fields) a = bearing h dest a
leaves h (Var dest v) a = bearing h dest a
leaves h (Arr dest count v) a = bearing h dest a
leaves h (Rec dest fields) a = bearing h dest a
leaves h (Thunk dest free) a = bearing h dest a
leaves h (Weak dest key v finaliser) a = bearing h dest a
leaves h (Stack dest size) a = stacking (bearing h dest a) a
leaves h (Get dest object index) a = taking h dest a
leaves h (Tag dest object) a = taking h dest a
leaves h (Set object index v) a = h
leaves h (Cas object index expected v) a = h
leaves h (Update object v) a = h
leaves h (Force dest object) a = taking h dest a
leaves h (Push object v) a = pushed h (word_of h.registers object) (word_of h.registers v) a
leaves h (Pop dest object) a = taking (popped h (word_of h.registers object) a) dest a
leaves h (Deref dest object) a = taking h dest a
leaves h (Finalise dest object) a = taking h dest a
leaves h (NextFin dest) a = taking (record h { queue = drop 1 h.queue }) dest a
leaves h (Show v) a = h
leaves h (Same left right) a = h
leaves h Yield a = h
leaves h Collect a = h
leaves h Full a = h

-- the hand that rows leave, in order
abbrev pub rows_leave : Hand → List DoneRow → Hand
rows_leave h [] = h
rows_leave h (r ∷ rs) = rows_leave (leaves h r.command r.answer) rs

-- the hand of a part's mutator now
abbrev pub hand_now : Opening → Part → Hand
hand_now o p = rows_leave (hand_of o.hands p.number) p.rows

-- a part with one more row, and the words that it owes
abbrev pub doing : Part → Command → Answer → List ℕ → Part
doing p c a owed = record p { rows = p.rows ++ record { command = c; answer = a } ∷ []; owed = p.owed ++ owed }

-- a part that names one more word that never changes
abbrev pub knowing : Part → ℕ → ℕ → ℕ → Part
knowing p at offset w = record p { fixed = record { at = at; offset = offset; word = w } ∷ p.fixed }

-- a part that names one more word in no object yet
abbrev pub storing : Part → ℕ → ℕ → Part
storing p at w = record p { unborn = record { at = at; word = w } ∷ p.unborn }

-- a part whose unborn words are now in an object: it knows the object's header and name
abbrev pub bearing_object : Part → ℕ → ℕ → ℕ → ℕ → Part
bearing_object p at size header name = record p {
  used = p.used + size;
  unborn = [];
  fixed = record { at = at; offset = 0; word = header } ∷ record { at = at; offset = 1; word = name } ∷ p.fixed;
}

-- parts with another first part
abbrev pub first_changed : (Part → Part) → List Part → List Part
first_changed f [] = []
first_changed f (p ∷ ps) = f p ∷ ps

-- a view with another part of its mutator
abbrev pub changing : (Part → Part) → Seen → Seen
changing f v = record v { parts = first_changed f v.parts }

-- the view after a load of a word that never changes
abbrev pub loaded : Seen → ℕ → ℕ → ℕ → Seen
loaded v at offset w = changing (λ p. knowing p at offset w) v

-- the view after a store into a word in no object yet
abbrev pub stored : Seen → ℕ → ℕ → Seen
stored v at w = changing (λ p. storing p at w) v

-- the view after a load of a word in no object yet: it is named, as after a store, exactly if it is the word to be stored
abbrev pub met : Seen → ℕ → ℕ → Bool → Seen
met v at w true = stored v at w
met v at w false = v

-- the view after a command with its answer
abbrev pub answered : Seen → Command → Answer → Seen
answered v c a = changing (λ p. doing p c a []) v

-- the words that are owed for one word: this word while marking, and otherwise none
abbrev pub owed_word : Bool → ℕ → List ℕ
owed_word true w = w ∷ []
owed_word false w = []

-- a part whose last swap found this word
abbrev pub finding : Part → ℕ → Part
finding p w = record p { found = p.found ++ w ∷ [] }

-- the view after a swap that found this word
abbrev pub swapped : Seen → Command → ℕ → Seen
swapped v c old = changing (λ p. doing (finding p old) c (plain Fine) (owed_word v.opening.marking old)) v

-- the name of a mutator's next object
abbrev pub next_of : Opening → Part → Name
next_of o p = record { maker = p.number; serial = (hand_now o p).serial }

-- the view after an allocation at an address
abbrev pub gave_birth : Seen → ℕ → ℕ → Command → Seen
gave_birth v at header c = changing (λ p. doing (bearing_object p at (words_made c) header (name_word (next_of v.opening p))) c (word (2 * at)) []) v

-- the view after a look at a new object's header: if the header is already there, the view after the allocation
abbrev pub met_at_birth : Seen → ℕ → ℕ → Command → Bool → Seen
met_at_birth v at header c true = gave_birth v at header c
met_at_birth v at header c false = v

-- the view of a collector after one more scan
abbrev pub scanning : Seen → Scan → Seen
scanning v s = record v { scans = v.scans ++ s ∷ [] }

-- the opening of no round
abbrev pub no_opening : Opening
no_opening = record {
  layout = record { segments = 0; words = 0; nursery = 0; mutators = 0 };
  marking = false;
  core = unmarked newest_first (new_world 0);
  places = [];
  hands = [];
}

-- the view of a seat that was joined to another: it knows nothing
abbrev pub nobody : Seen
nobody = record { is_sole = false; words = []; opening = no_opening; parts = []; collects = false; scans = [] }

-- the view of the only seat, which knows the words
abbrev pub exclusive : List ℕ → Seen
exclusive ws = record { is_sole = true; words = ws; opening = no_opening; parts = []; collects = false; scans = [] }

-- the part of a mutator that has done nothing yet
abbrev pub blank : ℕ → Part
blank m = record { number = m; rows = []; found = []; owed = []; used = 0; unborn = []; fixed = [] }

-- the parts of the mutators from m on, one for each hand
abbrev pub blanks : ℕ → List Hand → List Part
blanks m [] = []
blanks m (h ∷ hs) = blank m ∷ blanks (suc m) hs

-- the view of the first seat, which has every part
abbrev pub whole : Opening → Seen
whole o = record { is_sole = false; words = []; opening = o; parts = blanks 0 o.hands; collects = true; scans = [] }
