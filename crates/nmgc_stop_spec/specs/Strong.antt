-- The strong fields of an object, as its words show them. A search through the words follows these fields.
use Rattle.std.specs.Prelude.{ℕ, ◌≡◌, ◌+◌, ◌<◌, ◌≤◌, Bool, true, false, List, length, slice_index, ◌==◌}
use Rattle.nmgc_world_spec.specs.{declared.node.Kind.Kind, declared.node.Kind.TheVariants.Con, declared.node.Kind.TheVariants.Var, declared.node.Kind.TheVariants.Arr, declared.node.Kind.TheVariants.Thunk, declared.node.Kind.TheVariants.Weak, declared.node.Kind.TheVariants.Stack}
use Rattle.nmgc_object.specs.{Words.header_word, Words.IsHeader, declared.words.Header.Header, declared.size.TheConstants.HEADER_WORDS}

-- the strong fields of an object with `count` fields, as a range: from the first number up to the second, which is left out.
-- If a thunk's result is set, only the result is strong. A weak pointer has no strong field
abbrev pub strong_part : Kind → ℕ → Bool → ℕ × ℕ
strong_part Con count unset = (0, count)
strong_part Var count unset = (0, count)
strong_part Arr count unset = (0, count)
strong_part Thunk count true = (1, count)
strong_part Thunk count false = (0, 1)
strong_part Weak count unset = (0, 0)
strong_part Stack count unset = (0, count)

-- the range of strong fields of the object that has this header and lies at this address
abbrev pub strong_of : List ℕ → ℕ → Header → ℕ × ℕ
strong_of words at header = strong_part header.kind header.fields (slice_index words (at + HEADER_WORDS) == 0)

-- the object at the address has this word in a strong field. A weak pointer has no strong field. If the word of a thunk's
-- result isn't 0, the result is the thunk's only strong field
pub record HasStrong (words : List ℕ) (at word : ℕ) : Type 0 where
  pub header : Header
  pub valid : IsHeader header
  pub read : slice_index words at ≡ header_word header
  pub index : ℕ
  pub from : (strong_of words at header).0 ≤ index
  pub before : index < (strong_of words at header).1
  pub is : slice_index words (at + HEADER_WORDS + index) ≡ word

-- an object with a valid header lies at the address, and ends within the words
pub record HasHeader (words : List ℕ) (at : ℕ) : Type 0 where
  pub header : Header
  pub valid : IsHeader header
  pub read : slice_index words at ≡ header_word header
  pub inside : at + HEADER_WORDS + header.fields ≤ length words

-- `from` and `to` are the addresses at which an object's strong fields begin and end
pub record IsStrongRange (words : List ℕ) (at from to : ℕ) : Type 0 where
  pub header : Header
  pub valid : IsHeader header
  pub read : slice_index words at ≡ header_word header
  pub first : from ≡ at + HEADER_WORDS + (strong_of words at header).0
  pub last : to ≡ at + HEADER_WORDS + (strong_of words at header).1
  pub ordered : from ≤ to
  pub inside : to ≤ length words

-- the word is among the words at the addresses from `from` up to `to`, which is left out
abbrev pub IsAmong : List ℕ → ℕ → ℕ → ℕ → Type 0
IsAmong words from to word = (i : ℕ) × (from ≤ i) × (i < to) × (slice_index words i ≡ word)
