-- Scripts: their lines, limits and spelling, the bench's script, and the fault that is reported.
use Rattle.std.specs.Prelude.{All, List, [], codes, decimal, if◌then◌else◌, length, map, replicate, suc, zero, ℕ, ◌*◌, ◌++◌, ◌+◌, ◌<◌, ◌==◌, ◌∷◌, ◌≡◌, ◌≢◌, ◌≤◌, ◌⊎◌}
use Rattle.std.specs.Str.{bytes_eq}
use Rattle.nmgc_limits.specs.Limits.{IsSegmentSize, most_heap_words, most_nursery_words, most_quota, most_script_bytes, most_segments, most_slice, most_trigger}
use Rattle.nmgc_limits.specs.declared.mutators.TheConstants.{MAKERS, REGISTERS}
use Rattle.nmgc_world_spec.specs.declared.command.Command.TheVariants.{Arr, Cas, Collect, Con, Deref, Finalise, Force, Full, Get, Mov, NextFin, Nil, Num, Pop, Push, Rec, Same, Set, Show, Stack, Tag, Thunk, Update, Var, Weak, Yield}
use Rattle.nmgc_world_spec.specs.{World.Fits, World.HasNumbers, World.HasRegistersBelow, World.words_made, declared.command.Command.Command, declared.command.Operand.Operand, declared.command.Operand.TheVariants.Register, declared.command.Operand.TheVariants.Shared}
use Rattle.nmgc_io.specs.Text.{is_blank_or_comment, lines_of, spaced, tokens_of}
use Rattle.nmgc_script.specs.{declared.fault.Cause.Cause, declared.script.Config.Config, declared.script.Script.Script, declared.version.Version.Version}
use Rattle.nmgc_script.specs.declared.fault.Cause.TheVariants as cause

-- the lines that aren't passed over, each with its number, numbered from n: blank lines and comments are passed over
unfoldable pub kept_from : ℕ → List (List ℕ) → List (ℕ × List ℕ)
kept_from n [] = []
kept_from n (line ∷ lines) = if is_blank_or_comment line then kept_from (n + 1) lines else (n, line) ∷ kept_from (n + 1) lines

-- the lines of a text that aren't passed over, each with its number from 1; a line that is passed over still counts
abbrev pub kept_lines : List ℕ → List (ℕ × List ℕ)
kept_lines bytes = kept_from 1 (lines_of bytes)

-- the versions of scripts, each with its limits: threads, registers that commands may name, segments, words of all segments
-- and nurseries together, and bytes of a script
abbrev pub version_1 : Version
version_1 = record { number = 1; threads = 8; registers = 16; segments = most_segments; heap_words = 4194304; bytes = 16777216 }

abbrev pub version_2 : Version
version_2 = record { number = 2; threads = MAKERS; registers = REGISTERS; segments = most_segments; heap_words = 4194304; bytes = 16777216 }

abbrev pub version_3 : Version
version_3 = record { number = 3; threads = MAKERS; registers = REGISTERS; segments = most_segments; heap_words = most_heap_words; bytes = most_script_bytes }

-- the version can be read: it is version 1, 2 or 3
abbrev pub IsVersion : Version → Type 0
IsVersion v = (v ≡ version_1) ⊎ ((v ≡ version_2) ⊎ (v ≡ version_3))

-- the version with this number; for a number without a version, version 3, whose number differs then
abbrev pub version_of : ℕ → Version
version_of n = if n == 1 then version_1 else (if n == 2 then version_2 else version_3)

-- the most bytes of a script with these lines, which begin with its version line
unfoldable pub lines_bytes : List (ℕ × List ℕ) → ℕ
lines_bytes [] = version_1.bytes
lines_bytes (line ∷ lines) = if bytes_eq line.1 (codes "nmgc 3") then version_3.bytes else version_1.bytes

-- the most bytes of a script that begins like these bytes
abbrev pub most_bytes : List ℕ → ℕ
most_bytes bytes = lines_bytes (kept_lines bytes)

-- each number of a heap line is within its own limits, in a version with at most this number of segments
pub record FitsConfig (most : ℕ) (c : Config) : Type 0 where
  pub some_segments : 1 ≤ c.segments
  pub segments : c.segments ≤ most
  pub words : IsSegmentSize c.words
  pub some_nursery : c.words ≤ c.nursery
  pub nursery : c.nursery ≤ most_nursery_words
  pub some_slice : 1 ≤ c.slice
  pub slice : c.slice ≤ most_slice
  pub some_quota : 1 ≤ c.quota
  pub quota : c.quota ≤ most_quota
  pub trigger : c.trigger ≤ most_trigger

-- a version of this number has the command: `tag` and `rec` are new in version 3
abbrev pub IsSince : ℕ → Command → Type 0
IsSince n (Rec dest fields) = 3 ≤ n
IsSince n (Tag dest object) = 3 ≤ n
IsSince n _ = Unit {0}

-- the version has the command, and all registers that the command names
abbrev pub IsOf : Version → Command → Type 0
IsOf v c = HasRegistersBelow v.registers c × IsSince v.number c

-- the script is within the limits of its own version
pub record FitsScript (s : Script) : Type 0 where
  pub version : s.version ≡ (version_of s.version).number
  pub config : FitsConfig (version_of s.version).segments s.config
  pub some_thread : 1 ≤ length s.threads
  pub threads : length s.threads ≤ (version_of s.version).threads
  pub total : s.config.segments * s.config.words + length s.threads * s.config.nursery ≤ (version_of s.version).heap_words
  pub commands : All (λ program. All (Fits s.config.words) program) s.threads
  pub of_version : All (λ program. All (IsOf (version_of s.version)) program) s.threads

-- a script's upgrade: in version 2 if it has version 1, and otherwise itself, since version 3 has limits that version 2 lacks
abbrev pub upgraded : Script → Script
upgraded s = record { version = if s.version == 1 then version_2.number else s.version; config = s.config; threads = s.threads }

-- the scripts that are run: within the limits, and no program has more commands than a script may have bytes
pub record IsInLimits (script : Script) : Type 0 where
  pub fits : FitsScript script
  pub few : All (λ (program : List Command). length program ≤ most_script_bytes) script.threads

-- the token of a register, and of an operand
abbrev pub register_word : ℕ → List ℕ
register_word r = 114 ∷ decimal r

abbrev pub operand_word : Operand → List ℕ
operand_word (Register r) = register_word r
operand_word Shared = codes "g"

-- the tokens of a command: its name and its operands
abbrev pub command_words : Command → List (List ℕ)
command_words (Num dest number) = codes "num" ∷ register_word dest ∷ decimal number ∷ []
command_words (Nil dest) = codes "nil" ∷ register_word dest ∷ []
command_words (Mov dest value) = codes "mov" ∷ register_word dest ∷ operand_word value ∷ []
command_words (Con dest tag fields) = codes "con" ∷ register_word dest ∷ decimal tag ∷ map operand_word fields
command_words (Var dest value) = codes "var" ∷ register_word dest ∷ operand_word value ∷ []
command_words (Arr dest count value) = codes "arr" ∷ register_word dest ∷ decimal count ∷ operand_word value ∷ []
command_words (Rec dest fields) = codes "rec" ∷ register_word dest ∷ map operand_word fields
command_words (Thunk dest free) = codes "thunk" ∷ register_word dest ∷ map operand_word free
command_words (Weak dest key value finaliser) = codes "weak" ∷ register_word dest ∷ operand_word key ∷ operand_word value ∷ operand_word finaliser ∷ []
command_words (Stack dest size) = codes "stack" ∷ register_word dest ∷ decimal size ∷ []
command_words (Get dest object index) = codes "get" ∷ register_word dest ∷ operand_word object ∷ decimal index ∷ []
command_words (Tag dest object) = codes "tag" ∷ register_word dest ∷ operand_word object ∷ []
command_words (Set object index value) = codes "set" ∷ operand_word object ∷ decimal index ∷ operand_word value ∷ []
command_words (Cas object index expected value) = codes "cas" ∷ operand_word object ∷ decimal index ∷ operand_word expected ∷ operand_word value ∷ []
command_words (Update object value) = codes "update" ∷ operand_word object ∷ operand_word value ∷ []
command_words (Force dest object) = codes "force" ∷ register_word dest ∷ operand_word object ∷ []
command_words (Push object value) = codes "push" ∷ operand_word object ∷ operand_word value ∷ []
command_words (Pop dest object) = codes "pop" ∷ register_word dest ∷ operand_word object ∷ []
command_words (Deref dest object) = codes "deref" ∷ register_word dest ∷ operand_word object ∷ []
command_words (Finalise dest object) = codes "finalise" ∷ register_word dest ∷ operand_word object ∷ []
command_words (NextFin dest) = codes "nextfin" ∷ register_word dest ∷ []
command_words (Show value) = codes "show" ∷ operand_word value ∷ []
command_words (Same left right) = codes "same" ∷ operand_word left ∷ operand_word right ∷ []
command_words Yield = codes "yield" ∷ []
command_words Collect = codes "collect" ∷ []
command_words Full = codes "full" ∷ []

-- the tokens of a heap line
abbrev pub heap_words : Config → List (List ℕ)
heap_words c = codes "heap" ∷ decimal c.segments ∷ decimal c.words ∷ decimal c.nursery ∷ decimal c.slice ∷ decimal c.quota ∷ decimal c.trigger ∷ []

-- the lines of the programs, numbered from thread n: a line that begins the section, and a line for each command
abbrev pub section_lines : ℕ → List (List Command) → List (List ℕ)
section_lines n [] = []
section_lines n (program ∷ programs) = spaced (codes "thread" ∷ decimal n ∷ []) ∷ map (λ c. spaced (command_words c)) program ++
    section_lines (n + 1) programs

-- the lines of a script: its version, its heap, and its sections
abbrev pub script_lines : Script → List (List ℕ)
script_lines s = spaced (codes "nmgc" ∷ decimal s.version ∷ []) ∷ spaced (heap_words s.config) ∷ section_lines 0 s.threads

-- the bytes spell the script: it is within the limits, and the lines that aren't passed over are its lines
pub record Spells (bytes : List ℕ) (s : Script) : Type 0 where
  pub lines : map (λ line. line.1) (kept_lines bytes) ≡ script_lines s
  pub fits : FitsScript s

-- The bench's script: each of four mutators makes lists, and keeps the last list in a slot of g of its own.

-- the number of cells of a list: they fill a nursery
unfoldable pub list_cells : ℕ
list_cells = 1024

-- a mutator's batch: it drops its list, makes another list cell by cell, and stores that in its own slot of the shared array
abbrev pub batch : ℕ → List Command
batch mutator = Nil 0 ∷ (replicate list_cells (Con 0 0 (Register 0 ∷ Register 1 ∷ [])) ++ Set Shared mutator (Register 0) ∷ [])

-- n copies of a list, appended
abbrev pub repeated : {A : Type 0} → ℕ → List A → List A
repeated zero xs = []
repeated (suc n) xs = repeated n xs ++ xs

-- the bench's script with this number of batches for each mutator: a nursery and a segment each have room for one list
abbrev pub bench_script : ℕ → Script
bench_script batches = record {
  version = version_1.number;
  config = record { segments = 128; words = 4096; nursery = 4096; slice = 4096; quota = 1048576; trigger = 8 };
  threads = repeated batches (batch 0) ∷ repeated batches (batch 1) ∷ repeated batches (batch 2) ∷ repeated batches (batch 3) ∷ [];
}

-- the first token of a line, or the empty token if there is none
abbrev pub first_of : List (List ℕ) → List ℕ
first_of [] = []
first_of (word ∷ words) = word

-- a command of the version has this name and this number of tokens, its name included
abbrev pub HasArity : Version → List ℕ → ℕ → Type 0
HasArity v name n = (c : Command) × HasRegistersBelow v.registers c × HasNumbers c × (first_of (command_words c) ≡ name) × (length (command_words c) ≡ n)

-- a line with these tokens has to begin a section: its first token is `thread`, or no section began before it
abbrev pub HasToBegin : ℕ → List (List ℕ) → Type 0
HasToBegin n words = (first_of words ≡ codes "thread") ⊎ (n ≡ 0)

-- the faults of a line: for each cause, when a line has it. The line is after the heap line in a script of version v, has
-- these tokens, and n sections began before it. The causes are tried in the order of `Cause`. So each case is about lines
-- without a fault of an earlier cause: no section line, no bad total, a known name, the right number of tokens, good tokens.
-- A number of tokens is wrong if no command with the name has this number.
abbrev pub HasFault : Version → Config → ℕ → List (List ℕ) → Cause → Type 0
HasFault v h n words cause.Version = ⊥
HasFault v h n words cause.Heap = ⊥
HasFault v h n words cause.Thread = HasToBegin n words × (n < v.threads → words ≢ codes "thread" ∷ decimal n ∷ [])
HasFault v h n words cause.Total = HasToBegin n words × (v.heap_words < h.segments * h.words + (n + 1) * h.nursery)
HasFault v h n words cause.Command = (HasToBegin n words → ⊥) × ((c : Command) → IsSince v.number c → first_of words ≢ first_of (command_words c))
HasFault v h n words cause.Arity = (HasToBegin n words → ⊥) × ((c : Command) × (first_of words ≡ first_of (command_words c))) ×
    (HasArity v (first_of words) (length words) → ⊥)
HasFault v h n words cause.Operand = (HasToBegin n words → ⊥) × ((c : Command) → HasRegistersBelow v.registers c → HasNumbers c → words ≢ command_words c)
HasFault v h n words cause.Size = (HasToBegin n words → ⊥) × ((c : Command) × HasRegistersBelow v.registers c × HasNumbers c ×
    (words ≡ command_words c) × (h.words < words_made c))

-- the position of a cause in the order in which causes are tried
abbrev pub order_of : Cause → ℕ
order_of cause.Version = 0
order_of cause.Heap = 1
order_of cause.Thread = 2
order_of cause.Total = 3
order_of cause.Command = 4
order_of cause.Arity = 5
order_of cause.Operand = 6
order_of cause.Size = 7

-- the line has this fault and no fault of an earlier cause, in the order in which causes are tried
pub record IsFirstFault (v : Version) (h : Config) (n : ℕ) (words : List (List ℕ)) (c : Cause) : Type 0 where
  pub here : HasFault v h n words c
  pub none_before : (e : Cause) → order_of e < order_of c → HasFault v h n words e → ⊥

-- the line has no fault
abbrev pub IsFaultless : Version → Config → ℕ → List (List ℕ) → Type 0
IsFaultless v h n words = (e : Cause) → HasFault v h n words e → ⊥

-- the number of sections that began before a line or at it, if n began before it
abbrev pub begun_with : ℕ → List (List ℕ) → ℕ
begun_with n words = if bytes_eq (first_of words) (codes "thread") then n + 1 else n

-- among the lines after the heap line, with n sections begun before them: the first bad line and its first cause. If the
-- lines end before any section begins, the bad line is the line after the last line of the text, for the cause `Thread`.
abbrev pub IsFaultInRest : Version → Config → ℕ → ℕ → List (ℕ × List ℕ) → ℕ → Cause → Type 0
IsFaultInRest v h n end [] number c = (n ≡ 0) × (number ≡ end) × (c ≡ cause.Thread)
IsFaultInRest v h n end (line ∷ lines) number c =
    ((number ≡ line.0) × IsFirstFault v h n (tokens_of line.1) c) ⊎
    (IsFaultless v h n (tokens_of line.1) × IsFaultInRest v h (begun_with n (tokens_of line.1)) end lines number c)

-- the first bad line from the heap line on, and its first cause; without a heap line, the line after the last one
abbrev pub IsFaultFromHeap : Version → ℕ → List (ℕ × List ℕ) → ℕ → Cause → Type 0
IsFaultFromHeap v end [] number c = (number ≡ end) × (c ≡ cause.Heap)
IsFaultFromHeap v end (line ∷ lines) number c =
    ((number ≡ line.0) × (c ≡ cause.Heap) × ((h : Config) → FitsConfig v.segments h → line.1 ≢ spaced (heap_words h))) ⊎
    ((h : Config) × FitsConfig v.segments h × (line.1 ≡ spaced (heap_words h)) × IsFaultInRest v h 0 end lines number c)

-- the fault of a bad script: the first bad line and its first cause; if the text ends too early, the line after the last
abbrev pub IsFaultOfText : ℕ → List (ℕ × List ℕ) → ℕ → Cause → Type 0
IsFaultOfText end [] number c = (number ≡ end) × (c ≡ cause.Version)
IsFaultOfText end (line ∷ lines) number c =
    ((number ≡ line.0) × (c ≡ cause.Version) × ((v : Version) → IsVersion v → line.1 ≢ spaced (codes "nmgc" ∷ decimal v.number ∷ []))) ⊎
    ((v : Version) × IsVersion v × (line.1 ≡ spaced (codes "nmgc" ∷ decimal v.number ∷ [])) × IsFaultFromHeap v end lines number c)
