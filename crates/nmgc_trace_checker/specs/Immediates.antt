-- Commands with immediates: numbers or nil as operands. Such a line borrows a register for each of them, loads it, and does
-- the command that names the registers instead.
use Rattle.std.specs.Prelude.{◌≡◌, ℕ, zero, suc, ◌+◌, List, [], ◌∷◌, ◌++◌, codes, decimal, Option, Some, None, Bool, true, false, not, ◌||◌, ◌==◌, nat_lt, if◌then◌else◌}
use Rattle.std.specs.Str.{bytes_eq}
use Rattle.nmgc_limits.specs.declared.mutators.TheConstants.{REGISTERS}
use Rattle.nmgc_world_spec.specs.{declared.value.Value.Value, declared.command.Command.Command, declared.command.Reply.Reply}
use Rattle.nmgc_barrier_checker.specs.declared.rows.Task.{Task}
use Rattle.nmgc_trace_checker.specs.{declared.borrowing.Rows.Rows, declared.immediates.Places.Places, declared.immediates.Rewriting.Rewriting, Borrowing.loads, Borrowing.plain_at, Reading.register_at, Reading.IsCommandOf, Reading.IsSpelled}
use Rattle.nmgc_trace_checker.specs.declared.immediates.Places.TheVariants as places

-- THE OPERANDS OF COMMANDS

-- whether the token at this place after the verb is an operand that is read; the first place is 0
abbrev pub is_read : Places → ℕ → Bool
is_read places.Absent place = false
is_read places.All place = true
is_read places.AroundIndex place = not (place == 1)
is_read places.BeforeIndex place = place == 1
is_read places.AfterRegister place = nat_lt 0 place
is_read places.AfterNumber place = nat_lt 1 place

-- the places of the operands of a command that makes an object of them, or moves one
unfoldable pub made_places : List ℕ → Places
made_places verb =
    if bytes_eq verb (codes "mov") then places.AfterRegister
    else if bytes_eq verb (codes "var") then places.AfterRegister
    else if bytes_eq verb (codes "rec") then places.AfterRegister
    else if bytes_eq verb (codes "thunk") then places.AfterRegister
    else if bytes_eq verb (codes "weak") then places.AfterRegister
    else places.Absent

-- the places of the operands of these commands, or of one that reads an object into a register
unfoldable pub loaded_places : List ℕ → Places
loaded_places verb =
    if bytes_eq verb (codes "force") then places.AfterRegister
    else if bytes_eq verb (codes "pop") then places.AfterRegister
    else if bytes_eq verb (codes "deref") then places.AfterRegister
    else if bytes_eq verb (codes "finalise") then places.AfterRegister
    else if bytes_eq verb (codes "tag") then places.AfterRegister
    else made_places verb

-- the places of the operands of these commands, or of one whose tokens are all operands
unfoldable pub bare_places : List ℕ → Places
bare_places verb =
    if bytes_eq verb (codes "update") then places.All
    else if bytes_eq verb (codes "push") then places.All
    else if bytes_eq verb (codes "show") then places.All
    else if bytes_eq verb (codes "same") then places.All
    else loaded_places verb

-- the places of the operands of the command with this verb
unfoldable pub places_of : List ℕ → Places
places_of verb =
    if bytes_eq verb (codes "set") then places.AroundIndex
    else if bytes_eq verb (codes "cas") then places.AroundIndex
    else if bytes_eq verb (codes "get") then places.BeforeIndex
    else if bytes_eq verb (codes "con") then places.AfterNumber
    else if bytes_eq verb (codes "arr") then places.AfterNumber
    else bare_places verb

-- the immediate at this place: the number or nil that the token spells, if an operand is read there
abbrev pub immediate_at : Places → ℕ → List ℕ → Option Value
immediate_at places place word = if is_read places place then plain_at word else None

-- REGISTERS THAT NO TOKEN NAMES

-- whether this register was read from a token
abbrev pub is_same : ℕ → Option ℕ → Bool
is_same r None = false
is_same r (Some q) = q == r

-- whether one of the tokens is the register with this number
abbrev pub is_named : ℕ → List (List ℕ) → Bool
is_named r [] = false
is_named r (word ∷ words) = is_same r (register_at word) || is_named r words

-- the last register below a bound that no token names
abbrev pub spare_below : List (List ℕ) → ℕ → Option ℕ
spare_below words zero = None
spare_below words (suc r) = if is_named r words then spare_below words r else Some r

-- THE COMMAND WITH REGISTERS

-- a command that names registers for immediates, as far as it is written
pub record Rewritten : Type 0 where
  -- its text
  pub text : List ℕ
  -- the tasks that load the registers
  pub tasks : List Task
  -- the registers that are borrowed
  pub borrowed : List ℕ
  -- the next register to be borrowed is below this bound
  pub bound : ℕ

-- the beginning of a command: its verb, and no register borrowed
abbrev pub verb_alone : List ℕ → Rewritten
verb_alone verb = record { text = verb; tasks = []; borrowed = []; bound = REGISTERS }

-- the command with one more token, which stays as it is
abbrev pub with_word : List ℕ → Rewritten → Rewritten
with_word word s = record { text = s.text ++ 32 ∷ word; tasks = s.tasks; borrowed = s.borrowed; bound = s.bound }

-- the command with one more token for an immediate: a register, into which it is loaded
abbrev pub with_register : ℕ → Value → Rewritten → Rewritten
with_register r v s = record {
  text = s.text ++ 32 ∷ 114 ∷ decimal r;
  tasks = s.tasks ++ loads r (Some v);
  borrowed = s.borrowed ++ r ∷ [];
  bound = r;
}

-- the command without a register for an immediate: no register is left, so the token stays, and the text spells no command
abbrev pub without_register : List ℕ → Rewritten → Rewritten
without_register word s = record { text = s.text ++ 32 ∷ word; tasks = s.tasks; borrowed = s.borrowed; bound = 0 }

-- the command with one more token for an immediate, by the register for it, if one is left
abbrev pub with_immediate : Option ℕ → Value → List ℕ → Rewritten → Rewritten
with_immediate (Some r) v word s = with_register r v s
with_immediate None v word s = without_register word s

-- the command with one more token, which may be an immediate. `all` are the command's tokens after its verb
abbrev pub with_token : List (List ℕ) → Option Value → List ℕ → Rewritten → Rewritten
with_token all None word s = with_word word s
with_token all (Some v) word s = with_immediate (spare_below all s.bound) v word s

-- the command with these further tokens; the first is at this place
abbrev pub with_tokens : List (List ℕ) → Places → ℕ → List (List ℕ) → Rewritten → Rewritten
with_tokens all places place [] s = s
with_tokens all places place (word ∷ words) s = with_tokens all places (place + 1) words (with_token all (immediate_at places place word) word s)

-- the command that these tokens become: a register for each immediate
abbrev pub rewritten : List (List ℕ) → Rewritten
rewritten [] = verb_alone []
rewritten (verb ∷ words) = with_tokens words (places_of verb) 0 words (verb_alone verb)

-- the command of the code, as far as it is written
abbrev pub written_in : Rewriting → Rewritten
written_in s = record { text = s.text.items; tasks = s.tasks; borrowed = s.borrowed; bound = s.bound }

-- LINES

-- the registers and tasks of a command that was rewritten: the loads, and then the command with the line's answer
abbrev pub rows_of : Rewritten → Command → Reply → Rows
rows_of s c answer = record { borrowed = s.borrowed; tasks = s.tasks ++ record { command = c; answer = Some answer } ∷ [] }

-- these registers and tasks are the line's: a command is spelled with a register for each immediate
abbrev pub IsRewritten : Reply → List (List ℕ) → Rows → Type 0
IsRewritten answer words rows = (c : Command) × IsSpelled (rewritten words).text c × (rows ≡ rows_of (rewritten words) c answer)

-- the registers and tasks of the line, or none exactly if no command is spelled so
abbrev pub IsRewrittenIf : Reply → List (List ℕ) → Option Rows → Type 0
IsRewrittenIf answer words (Some rows) = IsRewritten answer words rows
IsRewrittenIf answer words None = (rows : Rows) → IsRewritten answer words rows → ⊥

-- the registers and tasks of a line whose tokens spell no command as they are, but do with a register for each immediate
pub record HasImmediates (answer : Reply) (words : List (List ℕ)) (rows : Rows) : Type 0 where
  pub uncommanded : (c : Command) → IsCommandOf words c → ⊥
  pub rewrites : IsRewritten answer words rows
