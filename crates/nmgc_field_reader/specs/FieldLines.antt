-- The lines of a trace of format 3: the event that each line is.
use Rattle.std.specs.Prelude.{◌≡◌, ◌≢◌, ◌<◌, ◌≤◌, ◌+◌, ◌-◌, ◌^◌, ℕ, List, [], ◌∷◌, length, map, codes, decimal, Option, Some, None, All, unwrap_or, if◌then◌else◌, nat_eq, Bool, false, ◌||◌}
use Rattle.std.specs.Cmp.Lexicographic.{pointwise}
use Rattle.std.specs.Map.{lookup}
use Rattle.std.specs.Vec.{vec_items}
use Rattle.std.specs.declared.vec.Vec.{Vec}
use Rattle.nmgc_field_checker.specs.{declared.event.Actor.Actor, declared.event.FieldEvent.FieldEvent, Marking.actor}
use Rattle.nmgc_field_checker.specs.declared.event.FieldEvent.TheVariants as event

-- the object of each name that the heap has
abbrev pub Known : Type 0
Known = List ℕ → Option ℕ

-- the names of a map with these entries, and the object of each
abbrev pub names_of : {A : Type 0} → List (Vec ℕ A × ℕ) → List (List ℕ × ℕ)
names_of entries = map (λ e. (vec_items e.0, e.1)) entries

-- the object of each of these names
abbrev pub known_by : List (List ℕ × ℕ) → Known
known_by names word = lookup (λ name. pointwise nat_eq word name) names

-- the object of each name after this name got an object, or lost it
abbrev pub has_name : List ℕ → Option ℕ → Known → Known
has_name name object known word = if pointwise nat_eq name word then object else known word

-- whether a name is one of these
abbrev pub is_among : List (List ℕ) → List ℕ → Bool
is_among [] word = false
is_among (name ∷ names) word = pointwise nat_eq name word || is_among names word

-- the object of each name after these names lost theirs
abbrev pub without : List (List ℕ) → Known → Known
without names known word = if is_among names word then None else known word

-- a byte from `!` to `~`
abbrev pub IsPrinted : ℕ → Type 0
IsPrinted byte = (33 ≤ byte) × (byte ≤ 126)

-- a name: 1 to 64 bytes from `!` to `~`, and not just a hyphen
pub record IsName (word : List ℕ) : Type 0 where
  pub some : 1 ≤ length word
  pub few : length word ≤ 64
  pub printed : All IsPrinted word
  pub other : word ≢ codes "-"

-- the object with a name. To a name that the heap doesn't have, this gives a number that no object has
abbrev pub object_at : Known → List ℕ → ℕ
object_at known word = unwrap_or (known word) (2 ^ 32 - 1)

-- a mutator, spelled by its number
pub record IsMutator (word : List ℕ) (a : Actor) : Type 0 where
  pub number : ℕ
  pub small : number < 2 ^ 62
  pub word_is : word ≡ decimal number
  pub actor_is : a ≡ actor (number + 1)

-- an actor: a mutator, or a hyphen for the runtime itself
pub data IsActor : List ℕ → Actor → Type 0 where
  runtime : IsActor (codes "-") (actor 0)
  mutator : (word : List ℕ) (a : Actor) → IsMutator word a → IsActor word a

-- a value: the name of an object, or a hyphen for everything that is no reference
pub data IsValue (known : Known) : List ℕ → Option ℕ → Type 0 where
  nothing : IsValue known (codes "-") None
  name : (word : List ℕ) → IsName word → IsValue known word (Some (object_at known word))

-- values, one for each token
pub data AreValues (known : Known) : List (List ℕ) → List (Option ℕ) → Type 0 where
  none : AreValues known [] []
  more : (word : List ℕ) (value : Option ℕ) (words : List (List ℕ)) (values : List (Option ℕ)) → IsValue known word value → AreValues known words values →
      AreValues known (word ∷ words) (value ∷ values)

-- names, one or more, or a hyphen for none
pub data AreNames (known : Known) : List (List ℕ) → List ℕ → Type 0 where
  none : AreNames known (codes "-" ∷ []) []
  some : (word : List ℕ) (words : List (List ℕ)) → All IsName (word ∷ words) → AreNames known (word ∷ words) (map (object_at known) (word ∷ words))

-- the event of a line with these tokens: the table of lines
pub data Means (known : Known) : List (List ℕ) → FieldEvent → Type 0 where
  began : (m : List ℕ) (a : Actor) → IsMutator m a → Means known (codes "began" ∷ m ∷ []) (event.Began a)
  ended : (m : List ℕ) (a : Actor) → IsMutator m a → Means known (codes "ended" ∷ m ∷ []) (event.Ended a)
  made : (m name : List ℕ) (count : ℕ) (words : List (List ℕ)) (a : Actor) (values : List (Option ℕ)) → IsActor m a → IsName name → count < 2 ^ 32 →
      length words ≤ count → AreValues known words values →
      Means known (m ∷ codes "new" ∷ name ∷ decimal count ∷ words) (event.Made a (known name) count values)
  written : (m name : List ℕ) (place : ℕ) (word : List ℕ) (words : List (List ℕ)) (a : Actor) (values : List (Option ℕ)) → IsActor m a → IsName name →
      place < 2 ^ 32 → AreValues known (word ∷ words) values →
      Means known (m ∷ codes "write" ∷ name ∷ decimal place ∷ word ∷ words) (event.Written a (object_at known name) place values)
  handed : (m name n : List ℕ) (a b : Actor) → IsMutator m a → IsName name → IsMutator n b →
      Means known (m ∷ codes "hand" ∷ name ∷ n ∷ []) (event.Handed a (object_at known name) b)
  owed : (m name : List ℕ) (a : Actor) → IsActor m a → IsName name → Means known (m ∷ codes "owes" ∷ name ∷ []) (event.Owed a (object_at known name))
  mark : (words : List (List ℕ)) (roots : List ℕ) → AreNames known words roots → Means known (codes "mark" ∷ words) (event.Mark roots)
  scan : (m : List ℕ) (words : List (List ℕ)) (a : Actor) (roots : List ℕ) → IsMutator m a → AreNames known words roots →
      Means known (codes "scan" ∷ m ∷ words) (event.Scan a roots)
  push : (m name : List ℕ) (a : Actor) → IsActor m a → IsName name → Means known (codes "push" ∷ m ∷ name ∷ []) (event.Push a (object_at known name))
  settle : (m : List ℕ) (a : Actor) → IsMutator m a → Means known (codes "settle" ∷ m ∷ []) (event.Settle a)
  close : Means known (codes "close" ∷ []) event.Close
  marked : (words : List (List ℕ)) (objects : List ℕ) → AreNames known words objects → Means known (codes "marked" ∷ words) (event.Marked objects)
  black : (words : List (List ℕ)) (objects : List ℕ) → AreNames known words objects → Means known (codes "black" ∷ words) (event.Black objects)
  freed : (words : List (List ℕ)) (objects : List ℕ) → AreNames known words objects → Means known (codes "freed" ∷ words) (event.Freed objects)
  stop : Means known (codes "stop" ∷ []) event.Stop

-- the outcome of reading a line: its event, or that it is none of a trace
abbrev pub IsMeant : Known → List (List ℕ) → Option FieldEvent → Type 0
IsMeant known words None = (e : FieldEvent) → Means known words e → ⊥
IsMeant known words (Some e) = Means known words e
