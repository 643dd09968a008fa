-- Packed parts of a report: the words of the heap that is left, and replies of a word each.
use Rattle.std.specs.Prelude.{List, [], if◌then◌else◌, map, slice_index_or, ℕ, ◌%◌, ◌/◌, ◌==◌, ◌^◌, ◌∷◌}
use Rattle.nmgc_world_spec.specs.declared.command.Reply.TheVariants.{Already, Dead, Fine, Fixed, Given, No, NoField, NoPointer, NotOwner, Nothing, StackEmpty, StackFull, Updated, WrongKind, Yes}
use Rattle.nmgc_world_spec.specs.{declared.command.Reply.Reply, declared.value.Name.Name, declared.value.Value.TheVariants.Nil, declared.value.Value.TheVariants.Number, declared.value.Value.TheVariants.Ref}
use Rattle.nmgc_journal.specs.{declared.final_words.Storage.Storage, declared.final_words.Storage.TheVariants.Table, declared.final_words.Storage.TheVariants.Vector, declared.replies.Form.Form, declared.replies.Form.TheVariants.Halves, declared.replies.Form.TheVariants.Packed, declared.replies.Form.TheVariants.Whole}

-- final words: the words in order, in a vector or in a closed table
abbrev pub words_of : Storage → List ℕ
words_of (Vector words) = words.items
words_of (Table words) = words

-- the plain replies: the fifteen that give neither a number nor an object, each at its position, from 0
abbrev pub plain_replies : List Reply
plain_replies = Fine ∷ Yes ∷ No ∷ Updated ∷ Already ∷ NoPointer ∷ NoField ∷ WrongKind ∷ NotOwner ∷ Fixed ∷ Dead ∷ Nothing ∷ StackFull ∷ StackEmpty ∷
    Given Nil ∷ []

-- the name that a code represents: the code is 256 times the serial, plus the maker
abbrev pub name_in : ℕ → Name
name_in code = record { maker = code % 2 ^ 8; serial = (code / 2 ^ 8) % 2 ^ 32 }

-- the reply of a word: 2n + 1 is the number n, 4c + 2 the object of code c, 4p the plain reply at position p, or else `Fine`
abbrev pub reply_in : ℕ → Reply
reply_in word = if word % 2 == 1 then Given (Number (word / 2)) else if word % 4 == 2 then Given (Ref (name_in (word / 4))) else slice_index_or
    plain_replies (word / 4) Fine

-- a list of replies, in order: stored as a word each, as the word's lower half if all upper halves are 0, or unpacked
abbrev pub replies_of : Form → List Reply
replies_of (Halves words) = map reply_in words.items
replies_of (Packed words) = map reply_in words.items
replies_of (Whole replies) = replies.items
