-- The contracts' view of the list of weak pointers, and the addresses of a weak pointer's parts.
use Rattle.std.specs.Prelude.{ℕ, ◌≡◌, ◌+◌, ◌*◌, ◌^◌, ◌<◌, ◌==◌, not, Bool, List, [], ◌∷◌, length, set, map, filter, count_by, slice_index, Contains}
use Rattle.nmgc_world_spec.specs.declared.value.Name.{Name}
use Rattle.nmgc_object.specs.declared.size.TheConstants.{HEADER_WORDS}
use Rattle.nmgc_heap_spec.specs.Objects.{Place}
use Rattle.nmgc_weak.specs.{declared.weaks.OldWeak.OldWeak, declared.weaks.Death.Death}

-- the list in contracts: its weak pointers with addresses, in order of names, the room for further ones, and the last deaths.
-- With addresses the same statement serves stops and rounds; a report has the names alone
pub record Weaks : Type 0 where
  pub list : List OldWeak
  pub spare : ℕ
  pub deaths : List Death

-- the address of a weak pointer with its name, as a place
abbrev pub place_of : OldWeak → Place
place_of weak = record { at = weak.at.0; name = weak.weak }

-- the addresses of a list's weak pointers with their names, as places
abbrev pub places_of : List OldWeak → List Place
places_of list = map place_of list

abbrev pub names_of : List OldWeak → List Name
names_of list = map (λ (weak : OldWeak). weak.weak) list

-- the addresses of the words of a weak pointer's key, value and finaliser
abbrev pub key_place : ℕ → ℕ
key_place at = at + HEADER_WORDS

abbrev pub value_place : ℕ → ℕ
value_place at = at + (HEADER_WORDS + 1)

abbrev pub finaliser_place : ℕ → ℕ
finaliser_place at = at + (HEADER_WORDS + 2)

-- the weak pointer's three parts are among the heap's words, and a part that is a pointer is small enough for an address
pub record IsWithin (words : List ℕ) (at : ℕ) : Type 0 where
  pub inside : finaliser_place at < length words
  pub small : (i to : ℕ) → i < 3 → slice_index words (at + HEADER_WORDS + i) ≡ 2 * to → to < 2 ^ 32

-- each listed weak pointer has its parts among the heap's words, and a part that is a pointer is small enough for an address
abbrev pub AreWithin : List ℕ → List OldWeak → Type 0
AreWithin words list = (weak : OldWeak) → Contains list weak → IsWithin words weak.at.0

-- each weak pointer of the list has its parts among the heap's words
abbrev pub AreInside : List ℕ → List OldWeak → Type 0
AreInside words list = (weak : OldWeak) → Contains list weak → finaliser_place weak.at.0 < length words

-- whether a weak pointer is alive by its words: its value word isn't 0
abbrev pub is_alive : List ℕ → OldWeak → Bool
is_alive words weak = not (slice_index words (value_place weak.at.0) == 0)

-- the weak pointers of a list whose value word isn't 0
abbrev pub alive_of : List ℕ → List OldWeak → List OldWeak
alive_of words list = filter (is_alive words) list

-- the number of a list's weak pointers that a maker made
abbrev pub count_made_by : ℕ → List OldWeak → ℕ
count_made_by maker list = count_by (λ (weak : OldWeak). weak.weak.maker == maker) list

-- the deaths of weak pointers, with the words of their finalisers
abbrev pub deaths_of : List ℕ → List OldWeak → List Death
deaths_of words dying =
    map (λ (weak : OldWeak). let death : Death = record { weak = weak.weak; finaliser = slice_index words (finaliser_place weak.at.0) } in death) dying

-- the words after the value words of the `dying` weak pointers are set to 0
abbrev pub without_values : List ℕ → List OldWeak → List ℕ
without_values words [] = words
without_values words (weak ∷ dying) = without_values (set words (value_place weak.at.0) 0) dying

-- the words after a closing: the value words of the listed weak pointers that died are 0, and no other word changed
pub record HaveLostValues (list : List OldWeak) (deaths : List Death) (old new : List ℕ) : Type 0 where
  pub dying : List OldWeak
  pub listed : (weak : OldWeak) → Contains dying weak → Contains list weak
  pub dead : names_of dying ≡ map (λ (death : Death). death.weak) deaths
  pub words : new ≡ without_values old dying
