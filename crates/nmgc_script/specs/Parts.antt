-- Parts of the definitions, with names that contracts within this crate and laws use.
use Rattle.std.specs.Prelude.{ℕ, ◌+◌, ◌*◌, ◌≤◌, List, ◌∷◌, [], map, codes, decimal, length, All, ◌==◌, if◌then◌else◌}
use Rattle.nmgc_io.specs.Text.{spaced, ended, lines_of}
use Rattle.nmgc_limits.specs.Limits.{most_script_bytes}
use Rattle.nmgc_world_spec.specs.{declared.command.Operand.TheVariants.Register, declared.command.Command.Command, declared.command.Command.TheVariants.Con}
use Rattle.nmgc_script.specs.{declared.script.Config.Config, declared.script.Script.Script, declared.verbs.Verb.Verb, declared.bench.TheConstants.MAX_BATCHES, Spelling.batch, Spelling.repeated, Spelling.version_2, Spelling.command_words, Spelling.script_lines}
use Rattle.nmgc_script.specs.declared.verbs.Verb.TheVariants as verb

-- the name of a verb
abbrev pub verb_name : Verb → List ℕ
verb_name verb.Num = codes "num"
verb_name verb.Nil = codes "nil"
verb_name verb.Mov = codes "mov"
verb_name verb.Con = codes "con"
verb_name verb.Var = codes "var"
verb_name verb.Arr = codes "arr"
verb_name verb.Rec = codes "rec"
verb_name verb.Thunk = codes "thunk"
verb_name verb.Weak = codes "weak"
verb_name verb.Stack = codes "stack"
verb_name verb.Get = codes "get"
verb_name verb.Tag = codes "tag"
verb_name verb.Set = codes "set"
verb_name verb.Cas = codes "cas"
verb_name verb.Update = codes "update"
verb_name verb.Force = codes "force"
verb_name verb.Push = codes "push"
verb_name verb.Pop = codes "pop"
verb_name verb.Deref = codes "deref"
verb_name verb.Finalise = codes "finalise"
verb_name verb.NextFin = codes "nextfin"
verb_name verb.Show = codes "show"
verb_name verb.Same = codes "same"
verb_name verb.Yield = codes "yield"
verb_name verb.Collect = codes "collect"
verb_name verb.Full = codes "full"

-- the lines of a program
abbrev pub program_lines : List Command → List (List ℕ)
program_lines program = map (λ c. spaced (command_words c)) program

-- the plain spelling: no line is passed over
abbrev pub plain : Script → List ℕ
plain s = ended (script_lines s)

-- the length of each program is at most the greatest number of bytes of a script
abbrev pub HasFewCommands : Script → Type 0
HasFewCommands script = All (λ (program : List Command). length program ≤ most_script_bytes) script.threads

-- the version of a script's upgrade: version 2 for a script of version 1
abbrev pub upgraded_number : ℕ → ℕ
upgraded_number n = if n == 1 then version_2.number else n

-- the number of the line after the last, which is reported if a text ends too early
abbrev pub end_of : List ℕ → ℕ
end_of bytes = 1 + length (lines_of bytes)

-- the command that adds a cell to a bench's list
abbrev pub cell : Command
cell = Con 0 0 (Register 0 ∷ Register 1 ∷ [])

-- a mutator's program in a bench: a number of batches
abbrev pub bench_program : ℕ → ℕ → List Command
bench_program batches mutator = repeated batches (batch mutator)

-- the sizes of a bench's heap
abbrev pub bench_config : Config
bench_config = record { segments = 128; words = 4096; nursery = 4096; slice = 4096; quota = 1048576; trigger = 8 }

-- the tokens of the line that begins the section of thread n
abbrev pub section_words : ℕ → List (List ℕ)
section_words n = codes "thread" ∷ decimal n ∷ []

-- the tokens of the line that names a version
abbrev pub version_words : ℕ → List (List ℕ)
version_words n = codes "nmgc" ∷ decimal n ∷ []

-- the words of all segments and of one nursery for each thread
abbrev pub total_words : Config → ℕ → ℕ
total_words c threads = c.segments * c.words + threads * c.nursery

-- the most batches of a bench
abbrev pub most_batches : ℕ
most_batches = MAX_BATCHES
