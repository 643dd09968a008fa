-- How lines of format 3 are read, token by token, for private contracts. `FieldLines` alone defines the event of a line.
use Rattle.std.specs.Prelude.{ℕ, ◌+◌, ◌-◌, ◌^◌, List, [], ◌∷◌, length, codes, decimal, Bool, true, not, Option, Some, None, ◌&&◌, ◌==◌, nat_le, nat_lt, if◌then◌else◌}
use Rattle.std.specs.{Str.bytes_eq, Str.Parse.digits_value}
use Rattle.nmgc_field_checker.specs.{declared.event.Actor.Actor, declared.event.FieldEvent.FieldEvent, Marking.actor}
use Rattle.nmgc_field_checker.specs.declared.event.FieldEvent.TheVariants as event
use Rattle.nmgc_field_reader.specs.FieldLines.{Known, object_at}

-- TOKENS

-- two readings in a row: the result of the second for the value that the first found, or none if the first found none
infixl 10 ◌>>=◌
abbrev pub ◌>>=◌ : {A B : Type 0} → Option A → (A → Option B) → Option B
(Some x) >>= f = f x
None >>= f = None

-- the number of at most `limit` whose decimal text is the token, if there is one
unfoldable pub number_at : ℕ → List ℕ → Option ℕ
number_at limit word = if bytes_eq word (decimal (digits_value 10 word)) && nat_le (digits_value 10 word) limit then Some (digits_value 10 word) else None

-- the mutator that a token spells
unfoldable pub mutator_at : List ℕ → Option Actor
mutator_at word = number_at (2 ^ 62 - 1) word >>= λ m. Some (actor (m + 1))

-- the actor that a token spells: a mutator, or a hyphen for the runtime itself
unfoldable pub actor_at : List ℕ → Option Actor
actor_at word = if bytes_eq word (codes "-") then Some (actor 0) else mutator_at word

-- the number below 2^32 that a token spells
abbrev pub short_at : List ℕ → Option ℕ
short_at word = number_at (2 ^ 32 - 1) word

-- whether each byte is one from `!` to `~`
abbrev pub are_printed : List ℕ → Bool
are_printed [] = true
are_printed (b ∷ word) = (nat_le 33 b && nat_le b 126) && are_printed word

-- whether a token is a name
unfoldable pub is_name : List ℕ → Bool
is_name word = (nat_le 1 (length word) && nat_le (length word) 64) && (are_printed word && not (bytes_eq word (codes "-")))

-- the object with the name that a token spells
unfoldable pub object_named : Known → List ℕ → Option ℕ
object_named known word = if is_name word then Some (object_at known word) else None

-- the value that a token spells: the object with a name, or nothing for a hyphen
unfoldable pub value_named : Known → List ℕ → Option (Option ℕ)
value_named known word = if bytes_eq word (codes "-") then Some None else (object_named known word >>= λ object. Some (Some object))

-- the result of reading each item in order, or nothing if one can't be read
unfoldable pub each_at : {A B : Type 0} → (A → Option B) → List A → Option (List B)
each_at f [] = Some []
each_at f (x ∷ xs) = do
  first ← f x
  others ← each_at f xs
  Some (first ∷ others)

-- an empty list of objects if no token is left, and otherwise nothing
unfoldable pub no_objects_at : List (List ℕ) → Option (List ℕ)
no_objects_at [] = Some []
no_objects_at words = None

-- the objects with the names that tokens spell; a hyphen spells no names
unfoldable pub objects_at : Known → List (List ℕ) → Option (List ℕ)
objects_at known [] = None
objects_at known (word ∷ words) = if bytes_eq word (codes "-") then no_objects_at words else each_at (object_named known) (word ∷ words)

-- LINES THAT BEGIN WITH A KEYWORD

unfoldable pub began_at : List (List ℕ) → Option FieldEvent
began_at (m ∷ []) = mutator_at m >>= λ a. Some (event.Began a)
began_at words = None

unfoldable pub ended_at : List (List ℕ) → Option FieldEvent
ended_at (m ∷ []) = mutator_at m >>= λ a. Some (event.Ended a)
ended_at words = None

unfoldable pub settle_at : List (List ℕ) → Option FieldEvent
settle_at (m ∷ []) = mutator_at m >>= λ a. Some (event.Settle a)
settle_at words = None

unfoldable pub push_at : Known → List (List ℕ) → Option FieldEvent
push_at known (m ∷ name ∷ []) = do
  a ← actor_at m
  object ← object_named known name
  Some (event.Push a object)
push_at known words = None

unfoldable pub mark_at : Known → List (List ℕ) → Option FieldEvent
mark_at known words = objects_at known words >>= λ roots. Some (event.Mark roots)

unfoldable pub scan_at : Known → List (List ℕ) → Option FieldEvent
scan_at known [] = None
scan_at known (m ∷ words) = do
  a ← mutator_at m
  roots ← objects_at known words
  Some (event.Scan a roots)

unfoldable pub close_at : List (List ℕ) → Option FieldEvent
close_at [] = Some event.Close
close_at words = None

unfoldable pub marked_at : Known → List (List ℕ) → Option FieldEvent
marked_at known words = objects_at known words >>= λ objects. Some (event.Marked objects)

unfoldable pub black_at : Known → List (List ℕ) → Option FieldEvent
black_at known words = objects_at known words >>= λ objects. Some (event.Black objects)

unfoldable pub freed_at : Known → List (List ℕ) → Option FieldEvent
freed_at known words = objects_at known words >>= λ objects. Some (event.Freed objects)

unfoldable pub stop_at : List (List ℕ) → Option FieldEvent
stop_at [] = Some event.Stop
stop_at words = None

-- LINES THAT BEGIN WITH AN ACTOR

-- a new object, if it has no more values than fields
unfoldable pub new_at : Actor → Option ℕ → ℕ → List (Option ℕ) → Option FieldEvent
new_at a taken count values = if nat_lt count (length values) then None else Some (event.Made a taken count values)

unfoldable pub made_at : Known → Actor → List ℕ → List (List ℕ) → Option FieldEvent
made_at known a name [] = None
made_at known a name (count ∷ words) = if is_name name then (short_at count >>= λ n. each_at (value_named known) words >>= λ values. new_at a (known name) n values) else None

unfoldable pub written_at : Known → Actor → List ℕ → List (List ℕ) → Option FieldEvent
written_at known a name (place ∷ word ∷ words) = do
  object ← object_named known name
  at ← short_at place
  values ← each_at (value_named known) (word ∷ words)
  Some (event.Written a object at values)
written_at known a name words = None

unfoldable pub handed_at : Known → Actor → List ℕ → List (List ℕ) → Option FieldEvent
handed_at known a name (taker ∷ []) = if a.number == 0 then None else (object_named known name >>= λ object. mutator_at taker >>= λ b. Some (event.Handed a object b))
handed_at known a name words = None

unfoldable pub owed_at : Known → Actor → List ℕ → List (List ℕ) → Option FieldEvent
owed_at known a name [] = object_named known name >>= λ object. Some (event.Owed a object)
owed_at known a name words = None

-- the line of an actor with this verb about an object
unfoldable pub verb_at : Known → Actor → List ℕ → List ℕ → List (List ℕ) → Option FieldEvent
verb_at known a verb name words =
    if bytes_eq verb (codes "new") then made_at known a name words
    else if bytes_eq verb (codes "write") then written_at known a name words
    else if bytes_eq verb (codes "hand") then handed_at known a name words
    else if bytes_eq verb (codes "owes") then owed_at known a name words
    else None

unfoldable pub acted_at : Known → List ℕ → List (List ℕ) → Option FieldEvent
acted_at known word (verb ∷ name ∷ words) = actor_at word >>= λ a. verb_at known a verb name words
acted_at known word words = None

-- the event of a line that ends a cycle or the trace, or reports on the last cycle, or else of a line of an actor
unfoldable pub ending_at : Known → List ℕ → List (List ℕ) → Option FieldEvent
ending_at known word words =
    if bytes_eq word (codes "close") then close_at words
    else if bytes_eq word (codes "marked") then marked_at known words
    else if bytes_eq word (codes "black") then black_at known words
    else if bytes_eq word (codes "freed") then freed_at known words
    else if bytes_eq word (codes "stop") then stop_at words
    else acted_at known word words

-- the event of a line with these tokens
unfoldable pub event_at : Known → List (List ℕ) → Option FieldEvent
event_at known [] = None
event_at known (word ∷ words) =
    if bytes_eq word (codes "began") then began_at words
    else if bytes_eq word (codes "ended") then ended_at words
    else if bytes_eq word (codes "mark") then mark_at known words
    else if bytes_eq word (codes "scan") then scan_at known words
    else if bytes_eq word (codes "push") then push_at known words
    else if bytes_eq word (codes "settle") then settle_at words
    else ending_at known word words
