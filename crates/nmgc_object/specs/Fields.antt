-- The fields of an object: their number, their addresses and their words.
use Rattle.std.specs.Prelude.{ℕ, ◌+◌, ◌*◌, ◌^◌, ◌<◌, ◌≤◌}
use Rattle.nmgc_world_spec.specs.{declared.node.Kind.Kind, declared.node.Kind.TheVariants.Con, declared.node.Kind.TheVariants.Var, declared.node.Kind.TheVariants.Arr, declared.node.Kind.TheVariants.Thunk, declared.node.Kind.TheVariants.Weak, declared.node.Kind.TheVariants.Stack}
use Rattle.nmgc_object.specs.{declared.words.TheConstants.VAR_FIELDS, declared.words.TheConstants.WEAK_FIELDS, declared.size.TheConstants.HEADER_WORDS, declared.words.Header.Header, declared.words.TheConstants.NUMBER_LIMIT, declared.words.TheConstants.NIL_WORD, declared.words.TheConstants.ZERO_WORD, declared.words.Field.Field, declared.words.Field.TheVariants.Unset, declared.words.Field.TheVariants.Nil, declared.words.Field.TheVariants.Number, declared.words.Field.TheVariants.Pointer}

-- the number of fields of an object of this kind with `parts` parts
abbrev pub field_count : Kind → ℕ → ℕ
field_count Con parts = parts
field_count Var parts = VAR_FIELDS
field_count Arr parts = parts
field_count Thunk parts = parts + 1
field_count Weak parts = WEAK_FIELDS
field_count Stack parts = parts

-- the words of an object with this number of fields
abbrev pub words_with : ℕ → ℕ
words_with fields = HEADER_WORDS + fields

-- the words of an object with `parts` parts: a header, a name, and a word for each field; a thunk has one more for its result
abbrev pub word_count : Kind → ℕ → ℕ
word_count kind parts = words_with (field_count kind parts)

-- the address of an object's header, which is its first word
abbrev pub header_place : ℕ → ℕ
header_place at = at

-- the address of an object's field: fields begin at the third word, and each has one word
abbrev pub field_place : ℕ → ℕ → ℕ
field_place at field = at + HEADER_WORDS + field

-- the words of an object with this header
abbrev pub object_size : Header → ℕ
object_size header = words_with header.fields

-- a valid field: nothing, nil, a number below `NUMBER_LIMIT`, or a pointer to an address from 1 up to 32 bits
abbrev pub IsField : Field → Type 0
IsField Unset = Unit {0}
IsField Nil = Unit {0}
IsField (Number n) = n < NUMBER_LIMIT
IsField (Pointer at) = (1 ≤ at.0) × (at.0 < 2 ^ 32)

-- the word of a field
abbrev pub field_word : Field → ℕ
field_word Unset = 0
field_word Nil = NIL_WORD
field_word (Number n) = 2 * n + ZERO_WORD
field_word (Pointer at) = 2 * at.0
