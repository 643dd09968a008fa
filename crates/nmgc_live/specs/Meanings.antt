-- The meaning of a line of a session, behind its head.
use Rattle.std.specs.Prelude.{ℕ, ◌≡◌, ◌≢◌, ◌<◌, ◌≤◌, ◌⊎◌, ◌++◌, List, ◌∷◌, length, codes, decimal, All, Bool, true, false, Option, Some, Ok, Err, slice_get}
use Rattle.std.specs.Io.KnownBytes.{Consumes}
use Rattle.nmgc_world_spec.specs.declared.command.Command.{Command}
use Rattle.nmgc_io.specs.Text.{is_blank_or_comment, tokens_of}
use Rattle.nmgc_script.specs.{Reading.command_at, Spelling.version_3, declared.fault.Cause.Cause}
use Rattle.nmgc_script.specs.declared.fault.Cause.TheVariants as cause
use Rattle.nmgc_cycle.specs.{declared.command_queue.CommandQueue.CommandQueue, declared.session.Session.Session, Sessions.HasPushedTo, Sessions.HasRoom, Sessions.HaveRoomAll}
use Rattle.nmgc_live.specs.Lines.{ReadsCut, ReadsEnd, ReadsLine, ReadsNoLine, ReadsShort}
use Rattle.nmgc_live.specs.declared.{options.Options.Options, refusal.Fault.Fault, refusal.Refusal.Refusal, session.Judged.Judged, session.LineLimits.LineLimits, lines.LineReader.LineReader, lines.TheConstants.MAX_LINE_BYTES}
use Rattle.nmgc_live.specs.declared.refusal.Fault.TheVariants as fault
use Rattle.nmgc_live.specs.declared.refusal.Refusal.TheVariants as no
use Rattle.nmgc_live.specs.declared.session.Judged.TheVariants as judged

-- a line has a mutator's number, a space, and these bytes
abbrev pub IsFor : ℕ → List ℕ → ℕ → List ℕ → Type 0
IsFor count line m rest = (line ≡ decimal m ++ 32 ∷ rest) × (m < count)

-- a line gives a mutator a command, in a heap with segments of `words` words and with `count` mutators
abbrev pub IsGiven : ℕ → ℕ → List ℕ → ℕ → Command → Type 0
IsGiven words count line m c = (rest : List ℕ) × IsFor count line m rest × (command_at version_3 words (tokens_of rest) ≡ Ok c)

-- the first token of a line is no mutator's number
abbrev pub IsForNone : ℕ → List ℕ → Type 0
IsForNone count line = (word : List ℕ) × ((line ≡ word) ⊎ ((rest : List ℕ) × (line ≡ word ++ 32 ∷ rest))) × All (λ b. b ≢ 32) word ×
    ((m : ℕ) → m < count → word ≢ decimal m)

-- a line has to give a command: it is no other line of a session. `has_help` says whether `help` is one
abbrev pub HasToGive : Bool → List ℕ → Type 0
HasToGive has_help line = (is_blank_or_comment line ≡ false) × (line ≢ codes "round") × (line ≢ codes "end") × (has_help ≡ true → line ≢ codes "help")

-- a line gives no command, for this cause: the bytes behind the mutator's number are no command, there are none, or there is no such mutator
abbrev pub GivesNone : ℕ → ℕ → List ℕ → Cause → Type 0
GivesNone words count line c = ((m : ℕ) × ((rest : List ℕ) × IsFor count line m rest × (command_at version_3 words (tokens_of rest) ≡ Err c))) ⊎
    (((c ≡ cause.Command) × ((m : ℕ) × (line ≡ decimal m) × (m < count))) ⊎ ((c ≡ cause.Thread) × IsForNone count line))

-- a line is bad for this fault. `IsFull` says which mutators may get no more commands. A round may give each mutator a pause
abbrev pub IsBad : ℕ → ℕ → Bool → (ℕ → Type 0) → List ℕ → Fault → Type 0
IsBad words count has_help IsFull line (fault.Script c) = HasToGive has_help line × GivesNone words count line c
IsBad words count has_help IsFull line fault.Line = MAX_LINE_BYTES < length line
IsBad words count has_help IsFull line fault.TooMany = ((line ≡ codes "round") × ((m : ℕ) × (m < count) × IsFull m)) ⊎
    ((m : ℕ) × ((c : Command) × IsGiven words count line m c × IsFull m))

-- a mutator of a session may get no more commands
abbrev pub IsFullIn : Session → ℕ → Type 0
IsFullIn session m = (q : CommandQueue) × (slice_get session.queues.items m ≡ Some q) × (HasRoom q → ⊥)

-- the fault of a line that is one word
abbrev pub IsWordFault : ℕ → List ℕ → Fault → Type 0
IsWordFault most word f = ((f ≡ fault.Script cause.Command) × ((m : ℕ) × (word ≡ decimal m) × (m ≤ most))) ⊎
    ((f ≡ fault.Script cause.Thread) × ((m : ℕ) → m ≤ most → word ≢ decimal m))

-- the line `round` was judged so: each mutator needs room for a pause
abbrev pub IsRoundJudged : Session → Judged → Type 0
IsRoundJudged session judged.Round = HaveRoomAll session
IsRoundJudged session (judged.Bad f) = (f ≡ fault.TooMany) × ((m : ℕ) × (m < length session.queues.items) × IsFullIn session m)
IsRoundJudged session _ = ⊥

-- a line was judged so, and the session got its command
abbrev pub IsJudged : ℕ → ℕ → Bool → Session → Session → List ℕ → Judged → Type 0
IsJudged words count has_help old new line judged.Quiet = (new ≡ old) × (is_blank_or_comment line ≡ true)
IsJudged words count has_help old new line judged.Added = (m : ℕ) × ((c : Command) × IsGiven words count line m c × HasPushedTo m c old new)
IsJudged words count has_help old new line judged.Round = (new ≡ old) × (line ≡ codes "round") × HaveRoomAll new
IsJudged words count has_help old new line judged.End = (new ≡ old) × (line ≡ codes "end")
IsJudged words count has_help old new line judged.Help = (new ≡ old) × (line ≡ codes "help") × (has_help ≡ true)
IsJudged words count has_help old new line (judged.Bad f) = (new ≡ old) × IsBad words count has_help (IsFullIn new) line f

-- a line was read and judged so, and the session got its command
abbrev pub IsNextJudged : Options → LineLimits → LineReader → LineReader → Option (List ℕ) → Option (List ℕ) → Session → Session → Judged → Type 0
IsNextJudged o heap before now left_old left_new old new judged.Quiet = (new ≡ old) × ((line : List ℕ) × ReadsShort before now left_old left_new line ×
    (is_blank_or_comment line ≡ true))
IsNextJudged o heap before now left_old left_new old new judged.Added = (line : List ℕ) × ReadsShort before now left_old left_new line ×
    ((m : ℕ) × ((c : Command) × IsGiven heap.words heap.count line m c × HasPushedTo m c old new))
IsNextJudged o heap before now left_old left_new old new judged.Round = (new ≡ old) × ReadsLine before now left_old left_new (codes "round") × HaveRoomAll new
IsNextJudged o heap before now left_old left_new old new judged.End = (new ≡ old) × (ReadsLine before now left_old left_new (codes "end") ⊎
    ReadsEnd before now left_old left_new)
IsNextJudged o heap before now left_old left_new old new judged.Help = (new ≡ old) × ReadsLine before now left_old left_new (codes "help") × (o.has_prompts ≡ true)
IsNextJudged o heap before now left_old left_new old new (judged.Bad f) = (new ≡ old) × (((line : List ℕ) × ReadsLine before now left_old left_new line ×
    IsBad heap.words heap.count o.has_prompts (IsFullIn new) line f) ⊎ ((f ≡ fault.Line) × ReadsCut before now left_old left_new))

-- no line was read: the source failed, and no whole line is left, or there was no memory
abbrev pub IsNoLine : LineReader → Option (List ℕ) → Option (List ℕ) → Refusal → Type 0
IsNoLine before left_old left_new no.ReadFault = ReadsNoLine before left_old left_new
IsNoLine before left_old left_new no.NoMemory = (taken : List ℕ) × Consumes left_old left_new taken
IsNoLine before left_old left_new _ = ⊥
