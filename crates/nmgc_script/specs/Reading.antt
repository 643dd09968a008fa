-- Reading from left to right, up to the first fault.
--
-- These are the promises of the functions inside the parser to each other. No contract that another crate can call uses them:
-- the promises to a caller of `parse` are in Spelling and Faults. Each function tries the causes of its tokens in the order
-- in which they are reported.
use Rattle.std.specs.Prelude.{◌≡◌, ℕ, ◌+◌, ◌-◌, ◌^◌, List, [], ◌∷◌, length, codes, decimal, Bool, false, true, Result, Ok, Err, ◌==◌, ◌&&◌, nat_le, if◌then◌else◌}
use Rattle.std.specs.{Int.is_power_of_two, Str.bytes_eq, Str.Parse.digits_value}
use Rattle.nmgc_limits.specs.Limits.{most_nursery_words, most_quota, most_segment_words, least_segment_words, most_slice, most_trigger}
use Rattle.nmgc_world_spec.specs.{declared.command.Operand.Operand, declared.command.Operand.TheVariants.Register, declared.command.Operand.TheVariants.Shared, declared.command.Command.Command, World.words_made}
use Rattle.nmgc_world_spec.specs.declared.command.Command.TheVariants.{Num, Nil, Mov, Con, Var, Arr, Rec, Thunk, Weak, Stack, Get, Tag, Set, Cas, Update, Force, Push, Pop, Deref, Finalise, NextFin, Show, Same, Yield, Collect, Full}
use Rattle.nmgc_io.specs.Text.{tokens_of, lines_of}
use Rattle.nmgc_script.specs.{declared.fault.Cause.Cause, declared.fault.LineFault.LineFault, declared.fault.ScriptFault.ScriptFault, declared.script.Config.Config, declared.script.Script.Script, declared.verbs.Verb.Verb, declared.verbs.TheConstants.VERBS, declared.version.Version.Version, declared.sections.Entry.Entry, Parts.total_words, Spelling.version_1, Spelling.version_2, Spelling.version_3, Spelling.kept_from, Parts.verb_name}
use Rattle.nmgc_script.specs.declared.fault.Cause.TheVariants as cause
use Rattle.nmgc_script.specs.declared.fault.LineFault.TheVariants as fault
use Rattle.nmgc_script.specs.declared.fault.ScriptFault.TheVariants as script_fault
use Rattle.nmgc_script.specs.declared.verbs.Verb.TheVariants as verb
use Rattle.nmgc_script.specs.declared.sections.Entry.TheVariants as entry

infixl 10 ◌>>=◌
abbrev pub ◌>>=◌ : {A B E : Type 0} → Result A E → (A → Result B E) → Result B E
(Ok x) >>= f = f x
(Err e) >>= f = Err e

-- the result of reading each item in order, or the first fault
unfoldable pub each_at : {A B E : Type 0} → (A → Result B E) → List A → Result (List B) E
each_at f [] = Ok []
each_at f (x ∷ xs) = do
  first ← f x
  others ← each_at f xs
  Ok (first ∷ others)

-- unless memory ran out, the fault that a function returned is the fault of reading
abbrev pub Fails : {Y : Type 0} → LineFault → Result Y Cause → Type 0
Fails fault.NoMemory read = Unit {0}
Fails (fault.Bad c) read = read ≡ Err c

-- unless memory ran out, the result of a function is the result of reading
abbrev pub Gives : {X : Type 0} → Result X LineFault → Result X Cause → Type 0
Gives (Ok x) read = read ≡ Ok x
Gives (Err e) read = Fails e read

-- TOKENS

-- the number of at most `limit` that a token spells in decimal digits
unfoldable pub number_at : ℕ → List ℕ → Result ℕ Cause
number_at limit word =
    if bytes_eq word (decimal (digits_value 10 word)) && nat_le (digits_value 10 word) limit then Ok (digits_value 10 word) else Err cause.Operand

-- the register of the version that a token spells: an 'r' and a number
unfoldable pub register_at : Version → List ℕ → Result ℕ Cause
register_at version [] = Err cause.Operand
register_at version (b ∷ digits) = if b == 114 then number_at (version.registers - 1) digits else Err cause.Operand

-- the operand that a token spells: a 'g' or a register of the version
unfoldable pub operand_at : Version → List ℕ → Result Operand Cause
operand_at version word = if bytes_eq word (codes "g") then Ok Shared else register_at version word >>= λ r. Ok (Register r)

-- the tag that a token spells: a number up to 255
abbrev pub tag_at : List ℕ → Result ℕ Cause
tag_at word = number_at 255 word

-- the number of a value that a token spells: below 2 ^ 62
abbrev pub long_at : List ℕ → Result ℕ Cause
long_at word = number_at (2 ^ 62 - 1) word

-- the index or count that a token spells: a number up to 65,535
abbrev pub short_at : List ℕ → Result ℕ Cause
short_at word = number_at 65535 word

-- SHAPES: the number of tokens after a name, and the form of each

unfoldable pub none_at : Command → List (List ℕ) → Result Command Cause
none_at c [] = Ok c
none_at c words = Err cause.Arity

unfoldable pub one_at : {A : Type 0} → (List ℕ → Result A Cause) → List (List ℕ) → Result A Cause
one_at f (x ∷ []) = f x
one_at f words = Err cause.Arity

unfoldable pub two_at : {A B : Type 0} → (List ℕ → Result A Cause) → (List ℕ → Result B Cause) → List (List ℕ) → Result (A × B) Cause
two_at f g (x ∷ y ∷ []) = do
  a ← f x
  b ← g y
  Ok (a, b)
two_at f g words = Err cause.Arity

unfoldable pub three_at : {A B C : Type 0} → (List ℕ → Result A Cause) → (List ℕ → Result B Cause) → (List ℕ → Result C Cause) → List (List ℕ) →
    Result (A × B × C) Cause
three_at f g h (x ∷ y ∷ z ∷ []) = do
  a ← f x
  b ← g y
  c ← h z
  Ok (a, b, c)
three_at f g h words = Err cause.Arity

unfoldable pub four_at : {A B C D : Type 0} → (List ℕ → Result A Cause) → (List ℕ → Result B Cause) → (List ℕ → Result C Cause) →
    (List ℕ → Result D Cause) → List (List ℕ) → Result (A × B × C × D) Cause
four_at f g h i (x ∷ y ∷ z ∷ w ∷ []) = do
  front ← two_at f g (x ∷ y ∷ [])
  back ← two_at h i (z ∷ w ∷ [])
  Ok (front.0, front.1, back.0, back.1)
four_at f g h i words = Err cause.Arity

-- the register, the tag and the operands, of any number, that tokens spell
unfoldable pub con_at : Version → List (List ℕ) → Result (ℕ × ℕ × List Operand) Cause
con_at version (dest ∷ tag ∷ fields) = do
  d ← register_at version dest
  t ← tag_at tag
  fs ← each_at (operand_at version) fields
  Ok (d, t, fs)
con_at version words = Err cause.Arity

-- the register and the operands, at most this number, that tokens spell
unfoldable pub values_at : Version → ℕ → List (List ℕ) → Result (ℕ × List Operand) Cause
values_at version most [] = Err cause.Arity
values_at version most (dest ∷ values) =
    if nat_le (length values) most then (register_at version dest >>= λ d. each_at (operand_at version) values >>= λ vs. Ok (d, vs)) else Err cause.Arity

-- the command that a verb and the tokens after its name spell
abbrev pub operands_at : Version → Verb → List (List ℕ) → Result Command Cause
operands_at v verb.Num words = two_at (register_at v) long_at words >>= λ p. Ok (Num p.0 p.1)
operands_at v verb.Nil words = one_at (register_at v) words >>= λ p. Ok (Nil p)
operands_at v verb.Mov words = two_at (register_at v) (operand_at v) words >>= λ p. Ok (Mov p.0 p.1)
operands_at v verb.Con words = con_at v words >>= λ p. Ok (Con p.0 p.1 p.2)
operands_at v verb.Var words = two_at (register_at v) (operand_at v) words >>= λ p. Ok (Var p.0 p.1)
operands_at v verb.Arr words = three_at (register_at v) short_at (operand_at v) words >>= λ p. Ok (Arr p.0 p.1 p.2)
operands_at v verb.Rec words = values_at v 65535 words >>= λ p. Ok (Rec p.0 p.1)
operands_at v verb.Thunk words = values_at v 8 words >>= λ p. Ok (Thunk p.0 p.1)
operands_at v verb.Weak words = four_at (register_at v) (operand_at v) (operand_at v) (operand_at v) words >>= λ p. Ok (Weak p.0 p.1 p.2 p.3)
operands_at v verb.Stack words = two_at (register_at v) short_at words >>= λ p. Ok (Stack p.0 p.1)
operands_at v verb.Get words = three_at (register_at v) (operand_at v) short_at words >>= λ p. Ok (Get p.0 p.1 p.2)
operands_at v verb.Tag words = two_at (register_at v) (operand_at v) words >>= λ p. Ok (Tag p.0 p.1)
operands_at v verb.Set words = three_at (operand_at v) short_at (operand_at v) words >>= λ p. Ok (Set p.0 p.1 p.2)
operands_at v verb.Cas words = four_at (operand_at v) short_at (operand_at v) (operand_at v) words >>= λ p. Ok (Cas p.0 p.1 p.2 p.3)
operands_at v verb.Update words = two_at (operand_at v) (operand_at v) words >>= λ p. Ok (Update p.0 p.1)
operands_at v verb.Force words = two_at (register_at v) (operand_at v) words >>= λ p. Ok (Force p.0 p.1)
operands_at v verb.Push words = two_at (operand_at v) (operand_at v) words >>= λ p. Ok (Push p.0 p.1)
operands_at v verb.Pop words = two_at (register_at v) (operand_at v) words >>= λ p. Ok (Pop p.0 p.1)
operands_at v verb.Deref words = two_at (register_at v) (operand_at v) words >>= λ p. Ok (Deref p.0 p.1)
operands_at v verb.Finalise words = two_at (register_at v) (operand_at v) words >>= λ p. Ok (Finalise p.0 p.1)
operands_at v verb.NextFin words = one_at (register_at v) words >>= λ p. Ok (NextFin p)
operands_at v verb.Show words = one_at (operand_at v) words >>= λ p. Ok (Show p)
operands_at v verb.Same words = two_at (operand_at v) (operand_at v) words >>= λ p. Ok (Same p.0 p.1)
operands_at v verb.Yield words = none_at Yield words
operands_at v verb.Collect words = none_at Collect words
operands_at v verb.Full words = none_at Full words

-- THE NAMES OF COMMANDS

-- the first verb of a list that has a given name
unfoldable pub first_named : List ℕ → List Verb → Result Verb Cause
first_named name [] = Err cause.Command
first_named name (v ∷ vs) = if bytes_eq name (verb_name v) then Ok v else first_named name vs

-- the verb that has a given name
abbrev pub named_at : List ℕ → Result Verb Cause
named_at name = first_named name VERBS

-- whether the version has a verb: `tag` and `rec` are new in version 3
abbrev pub has_verb : Version → Verb → Bool
has_verb version verb.Rec = nat_le 3 version.number
has_verb version verb.Tag = nat_le 3 version.number
has_verb version _ = true

-- the version's verb that has a given name
unfoldable pub verb_at : Version → List ℕ → Result Verb Cause
verb_at version name = named_at name >>= λ v. if has_verb version v then Ok v else Err cause.Command

-- A COMMAND LINE: its name, the number of its tokens, each token, and the size of its object

-- the command, or a fault if the object that it makes doesn't fit in a segment
unfoldable pub sized : ℕ → Command → Result Command Cause
sized size command = if nat_le (words_made command) size then Ok command else Err cause.Size

-- the command that the tokens of a line spell
unfoldable pub command_at : Version → ℕ → List (List ℕ) → Result Command Cause
command_at version size [] = Err cause.Command
command_at version size (name ∷ words) = do
  v ← verb_at version name
  command ← operands_at version v words
  sized size command

-- THE HEAP LINE, whose faults all have one cause

-- the number from `low` to `high` that a token spells
unfoldable pub between_at : ℕ → ℕ → List ℕ → Result ℕ Cause
between_at low high word = number_at high word >>= λ n. if nat_le low n then Ok n else Err cause.Operand

-- the number of words of a segment that a token spells: a power of two within the limits
unfoldable pub segment_size_at : List ℕ → Result ℕ Cause
segment_size_at word = between_at least_segment_words most_segment_words word >>= λ n. if is_power_of_two n then Ok n else Err cause.Operand

-- the three sizes of a heap that tokens spell: its segments, the words of a segment and the words of a nursery
unfoldable pub sizes_at : Version → List ℕ → List ℕ → List ℕ → Result (ℕ × ℕ × ℕ) Cause
sizes_at v segments words nursery = do
  s ← between_at 1 v.segments segments
  w ← segment_size_at words
  n ← between_at w most_nursery_words nursery
  Ok (s, w, n)

-- the pace that tokens spell: the slice, the quota and the trigger
unfoldable pub pace_at : List ℕ → List ℕ → List ℕ → Result (ℕ × ℕ × ℕ) Cause
pace_at slice quota trigger = do
  l ← between_at 1 most_slice slice
  q ← between_at 1 most_quota quota
  t ← number_at most_trigger trigger
  Ok (l, q, t)

-- the settings that the six tokens of a heap line spell
unfoldable pub config_at : Version → List ℕ → List ℕ → List ℕ → List ℕ → List ℕ → List ℕ → Result Config Cause
config_at v segments words nursery slice quota trigger = do
  sizes ← sizes_at v segments words nursery
  pace ← pace_at slice quota trigger
  Ok (record { segments = sizes.0; words = sizes.1; nursery = sizes.2; slice = pace.0; quota = pace.1; trigger = pace.2 })

-- the settings that the tokens after `heap` spell
unfoldable pub numbers_at : Version → List (List ℕ) → Result Config Cause
numbers_at v (segments ∷ words ∷ nursery ∷ slice ∷ quota ∷ trigger ∷ []) = config_at v segments words nursery slice quota trigger
numbers_at v words = Err cause.Heap

-- the result with this cause in place of any fault
abbrev pub or_cause : {A : Type 0} → Cause → Result A Cause → Result A Cause
or_cause c (Ok x) = Ok x
or_cause c (Err e) = Err c

-- the settings that the tokens of a heap line spell
unfoldable pub heap_words_at : Version → List (List ℕ) → Result Config Cause
heap_words_at v [] = Err cause.Heap
heap_words_at v (name ∷ words) = if bytes_eq name (codes "heap") then or_cause cause.Heap (numbers_at v words) else Err cause.Heap

-- A SECTION LINE: the number of the next thread, and the total

-- the thread number that the tokens of a section line spell
unfoldable pub thread_at : Version → List (List ℕ) → Result ℕ Cause
thread_at version (name ∷ number ∷ []) =
    if bytes_eq name (codes "thread") then or_cause cause.Thread (number_at (version.threads - 1) number) else Err cause.Thread
thread_at version words = Err cause.Thread

-- the entry of the line that begins the section of thread n, or a fault if the total has no room for it
unfoldable pub section_at : Version → Config → ℕ → List (List ℕ) → Result Entry Cause
section_at v h n words = do
  thread ← thread_at v words
  if thread == n then (if nat_le (total_words h (n + 1)) v.heap_words then Ok entry.Section else Err cause.Total) else Err cause.Thread

-- A LINE AFTER THE FIRST SECTION LINE

-- the first token is the name of a section line
abbrev pub is_section : List (List ℕ) → Bool
is_section [] = false
is_section (name ∷ words) = bytes_eq name (codes "thread")

-- the entry of a line, if n sections began before it
unfoldable pub entry_at : Version → Config → ℕ → List (List ℕ) → Result Entry Cause
entry_at v h n words = if is_section words then section_at v h n words else command_at v h.words words >>= λ c. Ok (entry.Command c)

-- WHOLE SCRIPTS, whose lines have numbers

-- a fault of a line with its number
abbrev pub at_line : {A : Type 0} → ℕ → Result A Cause → Result A (ℕ × Cause)
at_line n (Ok x) = Ok x
at_line n (Err c) = Err (n, c)

-- the number of sections that began up to an entry, if n began before the entry
abbrev pub begun_after : Entry → ℕ → ℕ
begun_after entry.Section n = n + 1
begun_after (entry.Command c) n = n

-- the commands up to the next section and the programs after it, with an entry put before them
abbrev pub with_entry : Entry → List Command × List (List Command) → List Command × List (List Command)
with_entry entry.Section rest = ([], rest.0 ∷ rest.1)
with_entry (entry.Command c) rest = (c ∷ rest.0, rest.1)

-- the commands of the section that is read, and the programs of the sections after it
unfoldable pub rest_at : Version → Config → ℕ → List (ℕ × List ℕ) → Result (List Command × List (List Command)) (ℕ × Cause)
rest_at v h n [] = Ok ([], [])
rest_at v h n (line ∷ lines) = do
  e ← at_line line.0 (entry_at v h n (tokens_of line.1))
  others ← rest_at v h (begun_after e n) lines
  Ok (with_entry e others)

-- the programs of all sections, read from the lines after the first section line
unfoldable pub programs_at : Version → Config → List (ℕ × List ℕ) → Result (List (List Command)) (ℕ × Cause)
programs_at v h lines = rest_at v h 1 lines >>= λ programs. Ok (programs.0 ∷ programs.1)

-- the programs of all sections, read from the lines after the heap line
unfoldable pub threads_at : Version → ℕ → Config → List (ℕ × List ℕ) → Result (List (List Command)) (ℕ × Cause)
threads_at v end h [] = Err (end, cause.Thread)
threads_at v end h (line ∷ lines) = at_line line.0 (section_at v h 0 (tokens_of line.1)) >>= λ first. programs_at v h lines

-- the version that the version line names, and the lines after it
unfoldable pub version_at : ℕ → List (ℕ × List ℕ) → Result (Version × List (ℕ × List ℕ)) (ℕ × Cause)
version_at end [] = Err (end, cause.Version)
version_at end (line ∷ lines) =
    if bytes_eq line.1 (codes "nmgc 1") then Ok (version_1, lines) else
    (if bytes_eq line.1 (codes "nmgc 2") then Ok (version_2, lines) else
    (if bytes_eq line.1 (codes "nmgc 3") then Ok (version_3, lines) else Err (line.0, cause.Version)))

-- the settings of the heap line, and the lines after it
unfoldable pub heap_at : Version → ℕ → List (ℕ × List ℕ) → Result (Config × List (ℕ × List ℕ)) (ℕ × Cause)
heap_at v end [] = Err (end, cause.Heap)
heap_at v end (line ∷ lines) = at_line line.0 (heap_words_at v (tokens_of line.1)) >>= λ config. Ok (config, lines)

-- the script of these lines; if they end too early, the fault is at the line after the last
unfoldable pub script_at : ℕ → List (ℕ × List ℕ) → Result Script (ℕ × Cause)
script_at end lines = do
  version ← version_at end lines
  heap ← heap_at version.0 end version.1
  threads ← threads_at version.0 end heap.0 heap.1
  Ok (record { version = version.0.number; config = heap.0; threads = threads })

-- unless memory ran out, the fault that a function returned, with its line, is the fault of reading
abbrev pub FailsAt : {Y : Type 0} → ScriptFault → Result Y (ℕ × Cause) → Type 0
FailsAt script_fault.NoMemory read = Unit {0}
FailsAt (script_fault.Bad line c) read = read ≡ Err (line, c)

-- the result of a function for a line, with the number of the line added to a fault
abbrev pub placed : {X : Type 0} → ℕ → Result X LineFault → Result X ScriptFault
placed n (Ok x) = Ok x
placed n (Err fault.NoMemory) = Err script_fault.NoMemory
placed n (Err (fault.Bad c)) = Err (script_fault.Bad n c)

-- unless memory ran out, the result of a function, under this view, is the result of reading
abbrev pub GivesAt : {X Y : Type 0} → (X → Y) → Result X ScriptFault → Result Y (ℕ × Cause) → Type 0
GivesAt view (Ok x) read = read ≡ Ok (view x)
GivesAt view (Err e) read = FailsAt e read

-- the lines of the rest of a text that aren't passed over, each with its number; the rest begins with line n
abbrev pub kept_after : ℕ → List ℕ → List (ℕ × List ℕ)
kept_after n bytes = kept_from n (lines_of bytes)

-- the number of the line after the last, for the rest of a text that begins with line n
abbrev pub end_after : ℕ → List ℕ → ℕ
end_after n bytes = n + length (lines_of bytes)
