-- How lines are read, token by token, for private contracts. `Said` alone defines the meaning of a line.
use Rattle.std.specs.Prelude.{◌≡◌, ◌⊎◌, ℕ, ◌-◌, List, [], ◌∷◌, ◌++◌, codes, Option, Some, None, Result, Ok, Err, IfOk, IsErr, ◌==◌, nat_lt, if◌then◌else◌}
use Rattle.std.specs.Str.{bytes_eq}
use Rattle.nmgc_limits.specs.declared.mutators.TheConstants.{REGISTERS}
use Rattle.nmgc_world_spec.specs.{declared.value.Name.Name, declared.command.Operand.Operand, declared.command.Command.Command, declared.command.Reply.Reply, World.Fits}
use Rattle.nmgc_world_spec.specs.declared.command.Operand.TheVariants as operand
use Rattle.nmgc_world_spec.specs.declared.command.Reply.TheVariants as reply
use Rattle.nmgc_snapshot_laws.specs.declared.event.Event.TheVariants as core
use Rattle.nmgc_barrier_checker.specs.declared.event.Event.TheVariants as event
use Rattle.nmgc_barrier_checker.specs.{declared.hand.Hand.Hand, declared.rows.Copying.Copying, declared.rows.Filling.Filling, declared.rows.Task.Task, Rows.copied, Rows.filled}
use Rattle.nmgc_lists.specs.declared.memory.NoMemory.{NoMemory}
use Rattle.nmgc_io.specs.Text.{spaced}
use Rattle.nmgc_script.specs.{declared.fault.ScriptFault.ScriptFault, declared.script.Script.Script, Spelling.command_words}
use Rattle.nmgc_script.specs.declared.fault.ScriptFault.TheVariants as script_fault
use Rattle.nmgc_journal.specs.Reading.{◌>>=◌, number_at, name_at, value_at}
use Rattle.nmgc_trace_checker.specs.{declared.line.Line.Line, declared.meaning.Meaning.Meaning}
use Rattle.nmgc_trace_checker.specs.declared.line.Line.TheVariants as line
use Rattle.nmgc_trace_checker.specs.declared.meaning.Meaning.TheVariants as meaning

-- TOKENS

-- the number below 256 that a token spells
abbrev pub byte_at : List ℕ → Option ℕ
byte_at word = number_at 255 word

-- the index or count that a token spells: a number up to 65,535
abbrev pub short_at : List ℕ → Option ℕ
short_at word = number_at 65535 word

-- the register that a token spells: an 'r' and a number
unfoldable pub register_at : List ℕ → Option ℕ
register_at [] = None
register_at (b ∷ digits) = if b == 114 then number_at (REGISTERS - 1) digits else None

-- the operand that a token spells: a 'g' or a register
unfoldable pub operand_at : List ℕ → Option Operand
operand_at word = if bytes_eq word (codes "g") then Some operand.Shared else (register_at word >>= λ r. Some (operand.Register r))

-- the result of reading each item in order, or nothing if one can't be read
unfoldable pub each_at : {A B : Type 0} → (A → Option B) → List A → Option (List B)
each_at f [] = Some []
each_at f (x ∷ xs) = do
  first ← f x
  others ← each_at f xs
  Some (first ∷ others)

-- an empty list of names if no token is left, and otherwise nothing
unfoldable pub no_names_at : List (List ℕ) → Option (List Name)
no_names_at [] = Some []
no_names_at words = None

-- the names that tokens spell; a hyphen spells no names
unfoldable pub names_at : List (List ℕ) → Option (List Name)
names_at [] = None
names_at (word ∷ words) = if bytes_eq word (codes "-") then no_names_at words else each_at name_at (word ∷ words)

-- the pusher that a token spells: a mutator, or none for a hyphen
unfoldable pub pusher_at : List ℕ → Option (Option ℕ)
pusher_at who = if bytes_eq who (codes "-") then Some None else (byte_at who >>= λ m. Some (Some m))

-- ANSWERS

-- the answer that a token spells, if it is the answer of a command that was done, or of a test
unfoldable pub done_at : List ℕ → Option Reply
done_at word =
    if bytes_eq word (codes "ok") then Some reply.Fine
    else if bytes_eq word (codes "yes") then Some reply.Yes
    else if bytes_eq word (codes "no") then Some reply.No
    else if bytes_eq word (codes "updated") then Some reply.Updated
    else if bytes_eq word (codes "already") then Some reply.Already
    else None

-- the answer that a token spells, if it is the answer of a command that can't be done
unfoldable pub refused_at : List ℕ → Option Reply
refused_at word =
    if bytes_eq word (codes "nopointer") then Some reply.NoPointer
    else if bytes_eq word (codes "nofield") then Some reply.NoField
    else if bytes_eq word (codes "wrongkind") then Some reply.WrongKind
    else if bytes_eq word (codes "notowner") then Some reply.NotOwner
    else if bytes_eq word (codes "fixed") then Some reply.Fixed
    else None

-- the answer that a token spells, if it says that nothing is given: `dead`, `none`, `stackfull` or `stackempty`
unfoldable pub nothing_at : List ℕ → Option Reply
nothing_at word =
    if bytes_eq word (codes "dead") then Some reply.Dead
    else if bytes_eq word (codes "none") then Some reply.Nothing
    else if bytes_eq word (codes "stackfull") then Some reply.StackFull
    else if bytes_eq word (codes "stackempty") then Some reply.StackEmpty
    else None

-- the first option, or else the second
abbrev pub or_else : {A : Type 0} → Option A → Option A → Option A
or_else (Some x) other = Some x
or_else None other = other

-- the answer that a token spells: a keyword, or the value that is given
unfoldable pub reply_at : List ℕ → Option Reply
reply_at word = or_else (done_at word) (or_else (refused_at word) (or_else (nothing_at word) (value_at word >>= λ v. Some (reply.Given v))))

-- COMMANDS WITH THEIR ANSWERS

-- the tokens of a command and of its answer, with one more token at the front of the command
abbrev pub onto_command : List ℕ → Option (List (List ℕ) × List ℕ) → Option (List (List ℕ) × List ℕ)
onto_command word None = None
onto_command word (Some p) = Some (word ∷ p.0, p.1)

-- the tokens of a command, and the token of its answer after the sign `=`
abbrev pub answered_at : List (List ℕ) → Option (List (List ℕ) × List ℕ)
answered_at [] = None
answered_at (word ∷ []) = None
answered_at (word ∷ answer ∷ []) = if bytes_eq word (codes "=") then Some ([], answer) else None
answered_at (word ∷ second ∷ third ∷ words) = onto_command word (answered_at (second ∷ third ∷ words))

-- the parts of the tokens of a line: a mutator, the tokens of its command, and the answer
unfoldable pub parts_at : List (List ℕ) → Option (ℕ × List (List ℕ) × Reply)
parts_at [] = None
parts_at (mutator ∷ words) = do
  m ← byte_at mutator
  p ← answered_at words
  answer ← reply_at p.1
  Some (m, p.0, answer)

-- the lines of a script before its first command
abbrev pub script_head : List ℕ
script_head = codes "nmgc 3\nheap 128 4096 4096 4096 1048576 8\nthread 0\n"

-- the last command of the last program, or none exactly if there is none
abbrev pub IsLastIf : List (List Command) → Option Command → Type 0
IsLastIf programs (Some c) = (before : List (List Command)) × (front : List Command) × (programs ≡ before ++ (front ++ c ∷ []) ∷ [])
IsLastIf programs None = (before : List (List Command)) (front : List Command) (c : Command) → programs ≡ before ++ (front ++ c ∷ []) ∷ [] → ⊥

-- the last command of a script that was read, and none if the script is bad
abbrev pub IsLastOf : Result Script ScriptFault → Result (Option Command) NoMemory → Type 0
IsLastOf (Ok s) result = IfOk result (IsLastIf s.threads)
IsLastOf (Err script_fault.NoMemory) result = IsErr result
IsLastOf (Err (script_fault.Bad number cause)) result = result ≡ Ok None

-- a line that spells a command
abbrev pub IsSpelled : List ℕ → Command → Type 0
IsSpelled line c = Fits 4096 c × (line ≡ spaced (command_words c))

-- the command that a line spells, or none exactly if it spells no command
abbrev pub IsSpelledIf : List ℕ → Option Command → Type 0
IsSpelledIf line (Some c) = IsSpelled line c
IsSpelledIf line None = (c : Command) → IsSpelled line c → ⊥

-- tokens that spell a command
abbrev pub IsCommandOf : List (List ℕ) → Command → Type 0
IsCommandOf words c = IsSpelled (spaced words) c

-- the command that tokens spell, or none exactly if they spell no command
abbrev pub IsCommandIf : List (List ℕ) → Option Command → Type 0
IsCommandIf words read = IsSpelledIf (spaced words) read

-- COPIES AND FILLS

-- the object and the index of a field that two tokens spell
unfoldable pub place_at : List ℕ → List ℕ → Option (Operand × ℕ)
place_at object index = do
  o ← operand_at object
  i ← short_at index
  Some (o, i)

-- the number of fields and the register that two tokens spell
unfoldable pub span_at : List ℕ → List ℕ → Option (ℕ × ℕ)
span_at count via = do
  n ← short_at count
  r ← register_at via
  Some (n, r)

-- the copy between two positions; if the fields move up, it goes downwards
abbrev pub copying_of : Operand × ℕ → Operand × ℕ → ℕ × ℕ → Copying
copying_of to from span = record {
  from = from.0;
  first = from.1;
  to = to.0;
  place = to.1;
  count = span.0;
  via = span.1;
  down = nat_lt from.1 to.1;
}

-- the copy that six tokens spell
unfoldable pub copy_at : List ℕ → List ℕ → List ℕ → List ℕ → List ℕ → List ℕ → Option Copying
copy_at to place from first count via = do
  t ← place_at to place
  f ← place_at from first
  n ← span_at count via
  Some (copying_of t f n)

-- the copy that the tokens after `copy` spell
unfoldable pub copying_at : List (List ℕ) → Option Copying
copying_at (to ∷ place ∷ from ∷ first ∷ count ∷ word ∷ via ∷ []) = if bytes_eq word (codes "via") then copy_at to place from first count via else None
copying_at words = None

-- the fill that four tokens spell
unfoldable pub fill_at : List ℕ → List ℕ → List ℕ → List ℕ → Option Filling
fill_at object first count value = do
  p ← place_at object first
  n ← short_at count
  v ← operand_at value
  Some (record { object = p.0; first = p.1; count = n; value = v })

-- the fill that the tokens after `fill` spell
unfoldable pub filling_at : List (List ℕ) → Option Filling
filling_at (object ∷ first ∷ count ∷ value ∷ []) = fill_at object first count value
filling_at words = None

-- the tasks of a copy, and of a fill
abbrev pub copied_of : Copying → List Task
copied_of k = copied k k.count

abbrev pub filled_of : Filling → List Task
filled_of k = filled k k.count

-- the tasks of the copy or the fill that tokens spell
unfoldable pub rows_at : List (List ℕ) → Option (List Task)
rows_at [] = None
rows_at (verb ∷ words) =
    if bytes_eq verb (codes "copy") then (copying_at words >>= λ k. Some (copied_of k))
    else if bytes_eq verb (codes "fill") then (filling_at words >>= λ k. Some (filled_of k))
    else None

-- the tasks of the copy or the fill that tokens spell, if the answer says that it was done
abbrev pub rows_if : Reply → List (List ℕ) → Option (List Task)
rows_if reply.Fine words = rows_at words
rows_if answer words = None

-- VALUES HANDED OVER

-- the value that a mutator hands over, as the tokens after `hand` spell it
unfoldable pub hand_words_at : ℕ → List (List ℕ) → Option Hand
hand_words_at m (val ∷ taker ∷ dest ∷ []) = do
  v ← operand_at val
  n ← byte_at taker
  r ← register_at dest
  Some (record { giver = m; value = v; taker = n; dest = r })
hand_words_at m words = None

-- the value that a mutator hands over by these tokens
unfoldable pub hand_at : ℕ → List (List ℕ) → Option Hand
hand_at m [] = None
hand_at m (verb ∷ words) = if bytes_eq verb (codes "hand") then hand_words_at m words else None

-- FORMAT 2, EXCEPT COMMANDS

unfoldable pub mutators_at : List (List ℕ) → Option Meaning
mutators_at (count ∷ []) = byte_at count >>= λ n. Some (meaning.Mutators n)
mutators_at words = None

-- the meaning of `mark` and this token: marking begins with the shared array as a root
unfoldable pub shared_mark_at : List ℕ → Option Meaning
shared_mark_at word = if bytes_eq word (codes "g") then Some (meaning.Event event.MarkShared) else None

unfoldable pub mark_at : List (List ℕ) → Option Meaning
mark_at [] = Some (meaning.Event event.Mark)
mark_at (shared ∷ []) = shared_mark_at shared
mark_at words = None

unfoldable pub push_at : List (List ℕ) → Option Meaning
push_at (who ∷ name ∷ []) = do
  p ← pusher_at who
  n ← name_at name
  Some (meaning.Event (event.Push n))
push_at words = None

unfoldable pub settle_at : List (List ℕ) → Option Meaning
settle_at (mutator ∷ []) = byte_at mutator >>= λ m. Some (meaning.Event (event.Settle m))
settle_at words = None

unfoldable pub scan_at : List (List ℕ) → Option Meaning
scan_at (mutator ∷ []) = byte_at mutator >>= λ m. Some (meaning.Event (event.Scan m))
scan_at words = None

unfoldable pub exit_at : List (List ℕ) → Option Meaning
exit_at (mutator ∷ []) = byte_at mutator >>= λ m. Some (meaning.Event (event.Exit m))
exit_at words = None

unfoldable pub take_at : List (List ℕ) → Option Meaning
take_at (name ∷ []) = name_at name >>= λ n. Some (meaning.Event (event.Take n))
take_at words = None

unfoldable pub close_at : List (List ℕ) → Option Meaning
close_at [] = Some (meaning.Event event.Close)
close_at (word ∷ words) = names_at (word ∷ words) >>= λ names. Some (meaning.Event (event.CloseWith names))

unfoldable pub marked_at : List (List ℕ) → Option Meaning
marked_at words = names_at words >>= λ names. Some (meaning.Event (event.Marked names))

unfoldable pub black_at : List (List ℕ) → Option Meaning
black_at words = names_at words >>= λ names. Some (meaning.Event (event.Black names))

unfoldable pub freed_at : List (List ℕ) → Option Meaning
freed_at words = names_at words >>= λ names. Some (meaning.Event (event.Freed names))

unfoldable pub stop_at : List (List ℕ) → Option Meaning
stop_at [] = Some (meaning.Event event.Stop)
stop_at words = None

-- the meaning of a line that ends a cycle or the trace, or reports on the last cycle; none for any other line
unfoldable pub ending_at : List ℕ → List (List ℕ) → Option Meaning
ending_at word words =
    if bytes_eq word (codes "close") then close_at words
    else if bytes_eq word (codes "marked") then marked_at words
    else if bytes_eq word (codes "black") then black_at words
    else if bytes_eq word (codes "freed") then freed_at words
    else if bytes_eq word (codes "stop") then stop_at words
    else None

-- the meaning of a line that begins with a keyword; none if it begins otherwise, or if what follows the keyword is wrong
unfoldable pub plain_at : List (List ℕ) → Option Meaning
plain_at [] = None
plain_at (word ∷ words) =
    if bytes_eq word (codes "mutators") then mutators_at words
    else if bytes_eq word (codes "mark") then mark_at words
    else if bytes_eq word (codes "push") then push_at words
    else if bytes_eq word (codes "settle") then settle_at words
    else if bytes_eq word (codes "take") then take_at words
    else if bytes_eq word (codes "scan") then scan_at words
    else if bytes_eq word (codes "ended") then exit_at words
    else ending_at word words

-- FORMAT 1, EXCEPT COMMANDS

unfoldable pub count_line_at : List (List ℕ) → Option Line
count_line_at (count ∷ []) = byte_at count >>= λ n. Some (line.Mutators n)
count_line_at words = None

unfoldable pub mark_line_at : List (List ℕ) → Option Line
mark_line_at [] = Some line.Mark
mark_line_at words = None

unfoldable pub push_line_at : List (List ℕ) → Option Line
push_line_at (mutator ∷ []) = byte_at mutator >>= λ m. Some (line.Event (core.Push m))
push_line_at words = None

unfoldable pub scan_line_at : List (List ℕ) → Option Line
scan_line_at [] = Some (line.Event core.Scan)
scan_line_at words = None

unfoldable pub take_line_at : List (List ℕ) → Option Line
take_line_at (mutator ∷ name ∷ []) = do
  m ← byte_at mutator
  n ← name_at name
  Some (line.Take m n)
take_line_at words = None

unfoldable pub close_line_at : List (List ℕ) → Option Line
close_line_at [] = Some (line.Event core.Close)
close_line_at words = None

unfoldable pub drain_line_at : List (List ℕ) → Option Line
drain_line_at [] = Some line.Drain
drain_line_at words = None

-- the meaning of a line of format 1 about the marker; none for any other line
unfoldable pub marker_line_at : List ℕ → List (List ℕ) → Option Line
marker_line_at word words =
    if bytes_eq word (codes "scan") then scan_line_at words
    else if bytes_eq word (codes "take") then take_line_at words
    else if bytes_eq word (codes "close") then close_line_at words
    else if bytes_eq word (codes "drain") then drain_line_at words
    else None

-- the meaning of a line of format 1 that begins with a keyword; none if it begins otherwise, or if its rest is wrong
unfoldable pub plain_line_at : List (List ℕ) → Option Line
plain_line_at [] = None
plain_line_at (word ∷ words) =
    if bytes_eq word (codes "mutators") then count_line_at words
    else if bytes_eq word (codes "mark") then mark_line_at words
    else if bytes_eq word (codes "push") then push_line_at words
    else marker_line_at word words

-- THE MEANING OF A LINE OF FORMAT 1

-- the meaning of a line with a mutator, in format 1: the command that its tokens spell, or no line of a trace
abbrev pub IsLineCommand : ℕ → List (List ℕ) → Reply → Line → Type 0
IsLineCommand m words answer l = ((c : Command) × (l ≡ line.Event (core.Command m c answer)) × IsCommandOf words c) ⊎
    ((l ≡ line.Unknown) × ((c : Command) → IsCommandOf words c → ⊥))

-- the meaning of a line by its parts, in format 1: a command of a mutator, or no line of a trace if there are no parts
abbrev pub IsLineGiven : Option (ℕ × List (List ℕ) × Reply) → Line → Type 0
IsLineGiven (Some p) l = IsLineCommand p.0 p.1 p.2 l
IsLineGiven None l = l ≡ line.Unknown

-- the meaning of a line of format 1 by its keyword or, without a keyword, as a command of a mutator
abbrev pub IsLineBy : Option Line → List (List ℕ) → Line → Type 0
IsLineBy (Some plain) words l = l ≡ plain
IsLineBy None words l = IsLineGiven (parts_at words) l
