-- The slots of own stacks, as a hand has them.
--
-- Only its maker pushes to a stack and pops off it. So a mutator's rows and the opening determine the words in the slots of
-- its stacks. The opening has the words of the world's values, by the addresses of objects.
use Rattle.std.specs.Prelude.{◌≡◌, ℕ, ◌+◌, ◌*◌, ◌==◌, List, [], ◌∷◌, ◌++◌, map, Option, Some, None, if◌then◌else◌}
use Rattle.nmgc_world_spec.specs.{declared.value.Name.Name, declared.value.Value.Value, declared.node.Node.Node, declared.node.Node.TheVariants.Stack, World.is_same_name, World.World, World.node_of}
use Rattle.nmgc_world_spec.specs.declared.value.Value.TheVariants as value
use Rattle.nmgc_object.specs.declared.words.TheConstants.{NIL_WORD, ZERO_WORD}
use Rattle.nmgc_heap_spec.specs.Objects.{Place, ListMeans}
use Rattle.nmgc_round.specs.{View.Slots, View.Hand, View.Opening, Objects.Object, Objects.IsObject, Objects.IsIn}

-- the words of the stack at an address, from the bottom up, if it is in the list
abbrev pub slots_at : List Slots → ℕ → Option (List ℕ)
slots_at [] at = None
slots_at (s ∷ ss) at = if s.at == at then Some s.words else slots_at ss at

-- a list of stacks that has the words of a stack's values
abbrev pub HasStack : Opening → List Object → List Slots → ℕ → List Value → Type 0
HasStack o born stacks at values = (ws : List ℕ) × (slots_at stacks at ≡ Some ws) × ListMeans (IsIn o born) ws values

-- a hand with the words in the slots of each stack that its mutator made: only the maker pushes to a stack and pops off it
abbrev pub OwnSlots : Opening → List Object → World → ℕ → Hand → Type 0
OwnSlots o born w m h = (x : Object) (size : ℕ) (values : List Value) → IsObject o born x → x.name.maker ≡ m →
    node_of w x.name ≡ Some (Stack size values) → HasStack o born h.stacks x.at values

-- the address of the object with this name among places, or 0
abbrev pub place_named : List Place → Name → ℕ
place_named [] name = 0
place_named (p ∷ places) name = if is_same_name p.name name then p.at else place_named places name

-- the word of a value
abbrev pub word_in : List Place → Value → ℕ
word_in places value.Nil = NIL_WORD
word_in places (value.Number n) = 2 * n + ZERO_WORD
word_in places (value.Ref name) = 2 * place_named places name

-- the slots of a node, if it is a stack
abbrev pub slots_of_node : List Place → ℕ → Option Node → List Slots
slots_of_node places at (Some (Stack size values)) = record { at = at; words = map (word_in places) values } ∷ []
slots_of_node places at _ = []

-- the stacks that a mutator made, among the second list of places
abbrev pub stacks_at : List Place → World → ℕ → List Place → List Slots
stacks_at places w m [] = []
stacks_at places w m (p ∷ ps) = (if p.name.maker == m then slots_of_node places p.at (node_of w p.name) else []) ++ stacks_at places w m ps

-- a mutator's own stacks in a world with objects at these addresses: an opening's hands list them, so later hands have them
abbrev pub old_stacks : List Place → World → ℕ → List Slots
old_stacks places w m = stacks_at places w m places
