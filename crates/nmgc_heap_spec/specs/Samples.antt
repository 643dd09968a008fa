-- A small heap with its words: 32 segments of 64 words, one mutator, and a nursery as large as a segment. Commands made its
-- world, and its words are those at a stop. The words after the last object are left open. The other unspecified words are 0:
-- word 0, the words between g and the first segment, and the last word of a block that its object doesn't fill.
use Rattle.std.specs.Prelude.{ℕ, zero, suc, ◌≡◌, ◌≢◌, ◌+◌, ◌-◌, ◌*◌, List, [], ◌∷◌, ◌++◌, length, map, replicate, slice_index, Contains}
use Rattle.nmgc_limits.specs.declared.mutators.TheConstants.{REGISTERS, SHARED_MAKER, SHARED_SLOTS}
use Rattle.nmgc_world_spec.specs.{declared.value.Name.Name, declared.node.Node.Node, declared.command.Command.Command, declared.command.Command.TheVariants.Num, declared.command.Command.TheVariants.Nil, declared.command.Command.TheVariants.Con, declared.command.Command.TheVariants.Var, declared.command.Command.TheVariants.Collect, declared.command.Operand.TheVariants.Register, World.World, World.new_world, World.step}
use Rattle.nmgc_object.specs.{declared.layout.Layout.Layout, declared.words.TheConstants.SERIAL_UNIT, declared.layout.TheConstants.FIRST_PLACE}
use Rattle.nmgc_heap_spec.specs.{Objects.Place, Objects.shared_place, Represents.NoNode, Represents.Represents, Roots.RepresentsRoots}

-- the layout of this small heap
abbrev pub small_layout : Layout
small_layout = record { segments = 32; words = 64; nursery = 64; mutators = 1 }

-- the world after commands of mutator 0
abbrev pub after : World → List Command → World
after w [] = w
after w (c ∷ cs) = after (step w 0 c).0 cs

-- an object of mutator 0 by its serial, and its block of four words in the first segment
abbrev pub own : ℕ → Name
own serial = record { maker = 0; serial = serial }

abbrev pub block : ℕ → Place
block serial = record { at = FIRST_PLACE + 4 * serial; name = own serial }

-- g, and a block for each of these serials
abbrev pub places_of : List ℕ → List Place
places_of serials = shared_place ∷ map block serials

-- the words up to the first segment: word 0, g with nil in each slot, and thirteen words that belong to no object
abbrev pub first_words : List ℕ
first_words = 0 ∷ 32771 ∷ SHARED_MAKER ∷ (replicate SHARED_SLOTS 1 ++ replicate 13 0)

-- a variable that holds the only reference to a constructor, and a chain of fourteen more; a cycle begins

abbrev pub chain : ℕ → List Command → List Command
chain zero rest = rest
chain (suc n) rest = Con 3 0 (Register 3 ∷ Register 1 ∷ []) ∷ chain n rest

-- the world at the snapshot
abbrev pub snapshot : World
snapshot = after (new_world 1) (Num 1 5 ∷ Con 2 0 (Register 1 ∷ []) ∷ Var 0 (Register 2) ∷ Nil 2 ∷ chain 14 (Collect ∷ []))

abbrev pub chain_serials : List ℕ
chain_serials = 0 ∷ 1 ∷ 2 ∷ 3 ∷ 4 ∷ 5 ∷ 6 ∷ 7 ∷ 8 ∷ 9 ∷ 10 ∷ 11 ∷ 12 ∷ 13 ∷ 14 ∷ 15 ∷ []

-- the words of a link of the chain: header, name, a pointer to the link before, and the number 5
abbrev pub link : ℕ → List ℕ → List ℕ
link serial rest = 4097 ∷ SERIAL_UNIT * serial ∷ 2 * (FIRST_PLACE + 4 * serial - 4) ∷ 13 ∷ rest

abbrev pub links : List ℕ
links = link 3 (link 4 (link 5 (link 6 (link 7 (link 8 (link 9 (link 10 (link 11 (link 12 (link 13 (link 14 (link 15 []))))))))))))

-- the words of the heap, with this word in the variable
abbrev pub chain_words : ℕ → List ℕ → List ℕ
chain_words word rest = first_words ++ (2049 ∷ 0 ∷ 13 ∷ 0 ∷ 2050 ∷ 64 ∷ word ∷ 0 ∷ 4097 ∷ 128 ∷ 1 ∷ 13 ∷ (links ++ rest))

-- with a pointer to word 32 in the variable the words represent the snapshot
abbrev pub SnapshotStands : Type 0
SnapshotStands = (rest : List ℕ) → length rest ≡ 2048 → Represents small_layout [] NoNode (places_of chain_serials) snapshot (chain_words 64 rest) ×
    RepresentsRoots (places_of chain_serials) snapshot (72 ∷ 13 ∷ 1 ∷ 184 ∷ replicate (REGISTERS - 4) 1) ([] ∷ []) (16 ∷ [])

-- all words that represent the snapshot at these places have this header, name and pointer for the variable
abbrev pub WordsAreDetermined : (Name → Node → Type 0) → Type 0
WordsAreDetermined K = (earlier : List World) (words : List ℕ) → Represents small_layout earlier K (places_of chain_serials) snapshot words →
    (slice_index words 36 ≡ 2050) × (slice_index words 37 ≡ 64) × (slice_index words 38 ≡ 64)

-- no words represent a world with a second place for a name
abbrev pub NoSecondPlace : (Name → Node → Type 0) → Type 0
NoSecondPlace K = (earlier : List World) (places : List Place) (w : World) (words : List ℕ) (at : ℕ) → Contains places (block 0) →
    at ≢ FIRST_PLACE → Contains places (record { at = at; name = own 0 }) → Represents small_layout earlier K places w words → ⊥
