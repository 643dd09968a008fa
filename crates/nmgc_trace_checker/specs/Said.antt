-- The meaning of the lines of a trace, by their spelling in bytes. A line is tokens with single spaces between.
use Rattle.std.specs.Prelude.{◌≡◌, ◌⊎◌, ◌<◌, ℕ, List, [], ◌∷◌, ◌++◌, map, codes, decimal, Option, Some, Bool, true, false, nat_lt, All, IfSome}
use Rattle.std.specs.Io.BufRead.{strip_last}
use Rattle.nmgc_world_spec.specs.{declared.value.Name.Name, declared.command.Command.Command, declared.command.Reply.Reply, World.Fits, Known.IsRegister, Known.IsOperand}
use Rattle.nmgc_world_spec.specs.declared.command.Reply.TheVariants as reply
use Rattle.nmgc_snapshot_laws.specs.declared.event.Event.{Event as CoreEvent}
use Rattle.nmgc_snapshot_laws.specs.declared.event.Event.TheVariants as core
use Rattle.nmgc_barrier_checker.specs.{declared.event.Event.Event, declared.hand.Hand.Hand, declared.rows.Copying.Copying, declared.rows.Filling.Filling, declared.rows.Task.Task, Rows.copied, Rows.filled}
use Rattle.nmgc_barrier_checker.specs.declared.event.Event.TheVariants as event
use Rattle.nmgc_object.specs.Words.{IsName}
use Rattle.nmgc_io.specs.Text.{lines_of, tokens_of, is_blank_or_comment}
use Rattle.nmgc_script.specs.{Spelling.register_word, Spelling.operand_word, Spelling.command_words}
use Rattle.nmgc_journal.specs.Text.{name_text, reply_text, IsValue}
use Rattle.nmgc_trace_checker.specs.{declared.line.Line.Line, declared.meaning.Meaning.Meaning, Borrowing.borrowing_at, Immediates.HasImmediates}
use Rattle.nmgc_trace_checker.specs.declared.line.Line.TheVariants as line
use Rattle.nmgc_trace_checker.specs.declared.meaning.Meaning.TheVariants as meaning

-- THE LINES OF A TEXT

-- the lines of a text, cut at line feeds; the last may have none. A carriage return at the end of a line isn't part of it
abbrev pub texts_of : List ℕ → List (List ℕ)
texts_of bytes = map (λ line. strip_last 13 line) (lines_of bytes)

-- the first of `texts` say these items, one each and in order, and the texts `left` follow them
abbrev pub AreSaid : {A : Type 0} → (List ℕ → A → Type 0) → List (List ℕ) → List A → List (List ℕ) → Type 0
AreSaid says texts [] left = texts ≡ left
AreSaid says [] (said ∷ others) left = ⊥
AreSaid says (text ∷ texts) (said ∷ others) left = says text said × AreSaid says texts others left

-- the texts still to be judged after a read: the line that was read with its end, and the lines of the rest; or none
abbrev pub ahead : Bool → List ℕ → List ℕ → List (List ℕ)
ahead true line rest = strip_last 13 (strip_last 10 line) ∷ texts_of rest
ahead false line rest = []

-- if the bytes are known, the next line of these bytes was read, or none was left
abbrev pub IsNextLine : Option (List ℕ) → Option (List ℕ) → List ℕ → Bool → Type 0
IsNextLine old new line is_there = IfSome old (λ bytes. (rest : List ℕ) × (new ≡ Some rest) × (texts_of bytes ≡ ahead is_there line rest))

-- THE TOKENS OF A LINE

-- tokens that say a number of mutators
abbrev pub IsMutators : List (List ℕ) → ℕ → Type 0
IsMutators words count = (count < 256) × (words ≡ codes "mutators" ∷ decimal count ∷ [])

-- an answer that has a text
abbrev pub IsReply : Reply → Type 0
IsReply (reply.Given v) = IsValue v
IsReply answer = Unit {0}

-- the tokens of a mutator's command, and its answer
abbrev pub given_words : ℕ → List (List ℕ) → List ℕ → List (List ℕ)
given_words m words answer = decimal m ∷ words ++ codes "=" ∷ answer ∷ []

-- tokens that say a mutator's command and its answer. The command may be in a script with segments of 4096 words
pub record IsGiven (words : List (List ℕ)) (m : ℕ) (c : Command) (answer : Reply) : Type 0 where
  pub mutator : m < 256
  pub fits : Fits 4096 c
  pub reply : IsReply answer
  pub words_are : words ≡ given_words m (command_words c) (reply_text answer)

-- the tokens of a copy
abbrev pub copy_words : Copying → List (List ℕ)
copy_words k = codes "copy" ∷ operand_word k.to ∷ decimal k.place ∷ operand_word k.from ∷ decimal k.first ∷ decimal k.count ∷ codes "via" ∷
    register_word k.via ∷ []

-- a copy that a line may have: its operands and numbers may be in a command, and it goes downwards if the fields move up
pub record IsCopying (k : Copying) : Type 0 where
  pub to : IsOperand k.to
  pub place : k.place < 65536
  pub from : IsOperand k.from
  pub first : k.first < 65536
  pub count : k.count < 65536
  pub via : IsRegister k.via
  pub down : k.down ≡ nat_lt k.first k.place

-- tokens that say a copy that was done, with the tasks of the copy
pub record IsCopied (words : List (List ℕ)) (m : ℕ) (tasks : List Task) : Type 0 where
  pub mutator : m < 256
  pub copying : Copying
  pub valid : IsCopying copying
  pub words_are : words ≡ given_words m (copy_words copying) (codes "ok")
  pub tasks_are : tasks ≡ copied copying copying.count

-- the tokens of a fill
abbrev pub fill_words : Filling → List (List ℕ)
fill_words k = codes "fill" ∷ operand_word k.object ∷ decimal k.first ∷ decimal k.count ∷ operand_word k.value ∷ []

-- a fill that a line may have
pub record IsFilling (k : Filling) : Type 0 where
  pub object : IsOperand k.object
  pub first : k.first < 65536
  pub count : k.count < 65536
  pub value : IsOperand k.value

-- tokens that say a fill that was done, with the tasks of the fill
pub record IsFilled (words : List (List ℕ)) (m : ℕ) (tasks : List Task) : Type 0 where
  pub mutator : m < 256
  pub filling : Filling
  pub valid : IsFilling filling
  pub words_are : words ≡ given_words m (fill_words filling) (codes "ok")
  pub tasks_are : tasks ≡ filled filling filling.count

-- tokens that say tasks with borrowed registers, as `borrowing_at` reads them from the tokens after the mutator
pub record IsBorrowing (words : List (List ℕ)) (m : ℕ) (borrowed : List ℕ) (tasks : List Task) : Type 0 where
  pub mutator : m < 256
  pub command : List (List ℕ)
  pub answer : Reply
  pub reply : IsReply answer
  pub words_are : words ≡ given_words m command (reply_text answer)
  pub reads : borrowing_at answer command ≡ Some (record { borrowed = borrowed; tasks = tasks })

-- tokens that say a command with numbers or nil as operands, as `HasImmediates` reads the tokens after the mutator
pub record IsImmediate (words : List (List ℕ)) (m : ℕ) (borrowed : List ℕ) (tasks : List Task) : Type 0 where
  pub mutator : m < 256
  pub command : List (List ℕ)
  pub answer : Reply
  pub reply : IsReply answer
  pub words_are : words ≡ given_words m command (reply_text answer)
  pub reads : HasImmediates answer command (record { borrowed = borrowed; tasks = tasks })

-- tokens that say tasks of a mutator: a copy or a fill, with borrowed registers or without, or a command with immediates
abbrev pub SaysRows : List (List ℕ) → ℕ → List ℕ → List Task → Type 0
SaysRows words m borrowed tasks = ((borrowed ≡ []) × (IsCopied words m tasks ⊎ IsFilled words m tasks)) ⊎
    (IsBorrowing words m borrowed tasks ⊎ IsImmediate words m borrowed tasks)

-- the tokens of a value that is handed over, after its mutator
abbrev pub hand_words : Hand → List (List ℕ)
hand_words k = codes "hand" ∷ operand_word k.value ∷ decimal k.taker ∷ register_word k.dest ∷ []

-- tokens that say a value that is handed over, and an answer
pub record IsHanded (words : List (List ℕ)) (k : Hand) (answer : Reply) : Type 0 where
  pub giver : k.giver < 256
  pub value : IsOperand k.value
  pub taker : k.taker < 256
  pub dest : IsRegister k.dest
  pub reply : IsReply answer
  pub words_are : words ≡ given_words k.giver (hand_words k) (reply_text answer)

-- the token of a pusher: a mutator, or a hyphen for the collector itself
abbrev pub IsPusher : List ℕ → Type 0
IsPusher who = (who ≡ codes "-") ⊎ ((m : ℕ) × (m < 256) × (who ≡ decimal m))

-- the tokens of names; a hyphen if there is none
abbrev pub names_words : List Name → List (List ℕ)
names_words [] = codes "-" ∷ []
names_words (name ∷ names) = map name_text (name ∷ names)

-- tokens that say names after a keyword
abbrev pub AreNames : List (List ℕ) → List ℕ → List Name → Type 0
AreNames words word names = All IsName names × (words ≡ word ∷ names_words names)

-- FORMAT 2

-- tokens that say an event of a runtime
abbrev pub SaysEvent : List (List ℕ) → Event → Type 0
SaysEvent words (event.Given m c answer) = IsGiven words m c answer
SaysEvent words (event.Rows m borrowed tasks) = SaysRows words m borrowed tasks
SaysEvent words (event.Hand k answer) = IsHanded words k answer
SaysEvent words event.Mark = words ≡ codes "mark" ∷ []
SaysEvent words event.MarkShared = words ≡ codes "mark" ∷ codes "g" ∷ []
SaysEvent words (event.Scan m) = (m < 256) × (words ≡ codes "scan" ∷ decimal m ∷ [])
SaysEvent words (event.Exit m) = (m < 256) × (words ≡ codes "ended" ∷ decimal m ∷ [])
SaysEvent words (event.Push name) = (who : List ℕ) × IsPusher who × IsName name × (words ≡ codes "push" ∷ who ∷ name_text name ∷ [])
SaysEvent words (event.Settle m) = (m < 256) × (words ≡ codes "settle" ∷ decimal m ∷ [])
SaysEvent words (event.Take name) = IsName name × (words ≡ codes "take" ∷ name_text name ∷ [])
SaysEvent words event.Close = words ≡ codes "close" ∷ []
SaysEvent words (event.CloseWith names) = AreNames words (codes "close") names
SaysEvent words (event.Marked names) = AreNames words (codes "marked") names
SaysEvent words (event.Black names) = AreNames words (codes "black") names
SaysEvent words (event.Freed names) = AreNames words (codes "freed") names
SaysEvent words event.Stop = words ≡ codes "stop" ∷ []

-- a text that is no line of a trace: it is neither empty nor a comment, and has no other meaning
pub record SaysNothing (text : List ℕ) : Type 0 where
  pub kept : is_blank_or_comment text ≡ false
  pub mutators : (count : ℕ) → IsMutators (tokens_of text) count → ⊥
  pub event : (e : Event) → SaysEvent (tokens_of text) e → ⊥

-- the meaning of a line of format 2, by its tokens with single spaces between. Commands, answers, numbers and names are
-- spelled as in scripts and reports. An empty line or a line that begins with `#` says nothing. Other texts are no lines
abbrev pub Says : List ℕ → Meaning → Type 0
Says text meaning.Blank = is_blank_or_comment text ≡ true
Says text (meaning.Mutators count) = IsMutators (tokens_of text) count
Says text (meaning.Event e) = SaysEvent (tokens_of text) e
Says text meaning.Unknown = SaysNothing text

-- FORMAT 1

-- tokens that say an event of the marking machine, except a take: its line also has the name (`IsTakeOf`)
abbrev pub SaysCore : List (List ℕ) → CoreEvent → Type 0
SaysCore words (core.Command m c answer) = IsGiven words m c answer
SaysCore words (core.Push m) = (m < 256) × (words ≡ codes "push" ∷ decimal m ∷ [])
SaysCore words core.Scan = words ≡ codes "scan" ∷ []
SaysCore words (core.Take m) = ⊥
SaysCore words core.Close = words ≡ codes "close" ∷ []

-- tokens that say that the marker takes a name from a mutator
abbrev pub IsTakeOf : List (List ℕ) → ℕ → Name → Type 0
IsTakeOf words m name = (m < 256) × IsName name × (words ≡ codes "take" ∷ decimal m ∷ name_text name ∷ [])

-- a text that is no line of a trace of format 1: it is neither empty nor a comment, and has no other meaning
pub record SaysNoLine (text : List ℕ) : Type 0 where
  pub kept : is_blank_or_comment text ≡ false
  pub mutators : (count : ℕ) → IsMutators (tokens_of text) count → ⊥
  pub mark : tokens_of text ≡ codes "mark" ∷ [] → ⊥
  pub event : (e : CoreEvent) → SaysCore (tokens_of text) e → ⊥
  pub take : (m : ℕ) (name : Name) → IsTakeOf (tokens_of text) m name → ⊥
  pub drain : tokens_of text ≡ codes "drain" ∷ [] → ⊥

-- the meaning of a line of format 1, by its tokens. Any text without another meaning is no line of a trace
abbrev pub SaysLine : List ℕ → Line → Type 0
SaysLine text line.Blank = is_blank_or_comment text ≡ true
SaysLine text (line.Mutators count) = IsMutators (tokens_of text) count
SaysLine text line.Mark = tokens_of text ≡ codes "mark" ∷ []
SaysLine text (line.Event e) = SaysCore (tokens_of text) e
SaysLine text (line.Take m name) = IsTakeOf (tokens_of text) m name
SaysLine text line.Drain = tokens_of text ≡ codes "drain" ∷ []
SaysLine text line.Unknown = SaysNoLine text
