-- How objects are read from a heap after the last write: terms of private contracts. Only `Shows` says which image is made.
use Rattle.std.specs.Prelude.{◌≡◌, ℕ, ◌+◌, ◌-◌, ◌/◌, ◌%◌, ◌^◌, ◌<◌, ◌≤◌, List, [], ◌∷◌, length, take, drop, map, slice_index, Some, None, Bool, true, false, ◌&&◌, ◌==◌, nat_lt, if◌then◌else◌}
use Rattle.nmgc_world_spec.specs.{declared.value.Name.Name, declared.value.Value.Value, declared.node.Kind.Kind, declared.node.Node.Node, declared.node.Node.TheVariants.Con, declared.node.Node.TheVariants.Var, declared.node.Node.TheVariants.Arr, declared.node.Node.TheVariants.Thunk, declared.node.Node.TheVariants.Weak, declared.node.Node.TheVariants.Stack}
use Rattle.nmgc_world_spec.specs.declared.value.Value.TheVariants as value
use Rattle.nmgc_world_spec.specs.declared.node.Kind.TheVariants as kind
use Rattle.nmgc_object.specs.{Words.header_word, Words.name_word, Words.IsHeader, Words.IsName, declared.words.Header.Header, declared.words.TheConstants.MAX_FIELDS, declared.words.TheConstants.NIL_WORD, declared.words.TheConstants.SERIAL_UNIT, declared.size.TheConstants.HEADER_WORDS, declared.size.TheConstants.NAME_OFFSET}

-- the name at an address can be read, and the addresses of an object's fields are numbers of 32 bits
pub record IsNamedAt (words : List ℕ) (at : ℕ) : Type 0 where
  pub within : at + NAME_OFFSET < length words
  pub small : at + MAX_FIELDS + HEADER_WORDS < 2 ^ 32
  pub name : Name
  pub valid : IsName name
  pub word : name_word name ≡ slice_index words (at + NAME_OFFSET)

-- the object that begins at an address can be read: it has a header, and its words exist
pub record IsObjectAt (words : List ℕ) (at : ℕ) : Type 0 where
  pub header : Header
  pub valid : IsHeader header
  pub word : header_word header ≡ slice_index words at
  pub within : at + HEADER_WORDS + header.fields ≤ length words
  pub named : IsNamedAt words at

-- the name at an address
abbrev pub name_in : List ℕ → ℕ → Name
name_in words at = record { maker = slice_index words (at + NAME_OFFSET) % SERIAL_UNIT; serial = slice_index words (at + NAME_OFFSET) / SERIAL_UNIT }

-- the word is a pointer: even, and not 0
abbrev pub is_pointer : ℕ → Bool
is_pointer word = nat_lt 0 word && (word % 2 == 0)

-- the addresses that words point to
abbrev pub pointers : List ℕ → List ℕ
pointers [] = []
pointers (word ∷ words) = if is_pointer word then word / 2 ∷ pointers words else pointers words

-- a field word can be read: it isn't 0, and if it is a pointer, a name can be read at its address
abbrev pub IsReadable : List ℕ → ℕ → Type 0
IsReadable words word = (1 ≤ word) × (is_pointer word ≡ true → IsNamedAt words (word / 2))

-- the value that a field word represents
abbrev pub value_in : List ℕ → ℕ → Value
value_in words word = if word == NIL_WORD then value.Nil else if word % 2 == 0 then value.Ref (name_in words (word / 2)) else value.Number (word / 2 - 1)

-- the words before the first 0
abbrev pub leading : List ℕ → List ℕ
leading [] = []
leading (word ∷ words) = if word == 0 then [] else word ∷ leading words

-- the value words of a thunk: the result or, if the result is unset, the free variables
abbrev pub thunk_words : List ℕ → List ℕ
thunk_words [] = []
thunk_words (result ∷ free) = if result == 0 then free else result ∷ []

-- the value words of a weak pointer: none if its value is unset, and otherwise all fields
abbrev pub weak_words : List ℕ → List ℕ
weak_words (key ∷ v ∷ finaliser ∷ []) = if v == 0 then [] else key ∷ v ∷ finaliser ∷ []
weak_words fields = []

-- the field words of an object that represent values
abbrev pub value_words : Kind → List ℕ → List ℕ
value_words kind.Con fields = fields
value_words kind.Var fields = fields
value_words kind.Arr fields = fields
value_words kind.Thunk fields = thunk_words fields
value_words kind.Weak fields = weak_words fields
value_words kind.Stack fields = leading fields

-- the field words of an object at an address
abbrev pub fields_at : List ℕ → ℕ → Header → List ℕ
fields_at words at header = take header.fields (drop (at + HEADER_WORDS) words)

-- the field words of the object at an address that represent values
abbrev pub value_words_at : List ℕ → ℕ → Header → List ℕ
value_words_at words at header = value_words header.kind (fields_at words at header)

-- the first word is 0; false if there are no words
abbrev pub begins_unset : List ℕ → Bool
begins_unset [] = false
begins_unset (word ∷ words) = word == 0

-- the variable whose value is the first of a list
abbrev pub var_of : List Value → Node
var_of (v ∷ values) = Var v
var_of [] = Var value.Nil

-- the thunk of a list of values: they are its free variables if its result is unset, and otherwise its result
abbrev pub thunk_of : Bool → List Value → Node
thunk_of true values = Thunk values None
thunk_of false (result ∷ values) = Thunk [] (Some result)
thunk_of false [] = Thunk [] None

-- the weak pointer of a list of values: alive with three values, and otherwise dead
abbrev pub weak_of : List Value → Node
weak_of (key ∷ v ∷ finaliser ∷ []) = Weak (Some (record { key = key; value = v; finaliser = finaliser }))
weak_of values = Weak None

-- the node of an object, as an image shows it: from its header, whether its first field is unset, and its values
abbrev pub made_of : Kind → Header → Bool → List Value → Node
made_of kind.Con header unset values = Con header.tag values
made_of kind.Var header unset values = var_of values
made_of kind.Arr header unset values = Arr values
made_of kind.Thunk header unset values = thunk_of unset values
made_of kind.Weak header unset values = weak_of values
made_of kind.Stack header unset values = Stack header.fields values

-- the node that is read at an address
abbrev pub node_read : List ℕ → ℕ → Header → Node
node_read words at header = made_of header.kind header (begins_unset (fields_at words at header)) (map (value_in words) (value_words_at words at header))
