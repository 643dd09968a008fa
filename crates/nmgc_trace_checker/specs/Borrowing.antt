-- Lines with values that no register of the runtime holds: an exchange, a copy without a register, and a fill with a number or
-- nil. Such a line borrows registers that it doesn't name, and does the commands of today with them.
use Rattle.std.specs.Prelude.{ℕ, List, [], ◌∷◌, ◌++◌, codes, Option, Some, None, Bool, true, false, not, ◌&&◌, ◌==◌, if◌then◌else◌}
use Rattle.std.specs.Str.{bytes_eq}
use Rattle.nmgc_world_spec.specs.{declared.value.Value.Value, declared.command.Operand.Operand, declared.command.Reply.Reply}
use Rattle.nmgc_world_spec.specs.declared.value.Value.TheVariants as value
use Rattle.nmgc_world_spec.specs.declared.command.Operand.TheVariants as operand
use Rattle.nmgc_world_spec.specs.declared.command.Command.TheVariants as command
use Rattle.nmgc_world_spec.specs.declared.command.Reply.TheVariants as reply
use Rattle.nmgc_barrier_checker.specs.{declared.rows.Copying.Copying, declared.rows.Task.Task, Rows.task_of, Rows.copied, Rows.filled}
use Rattle.nmgc_journal.specs.Reading.{◌>>=◌, value_at}
use Rattle.nmgc_trace_checker.specs.{declared.borrowing.Rows.Rows, declared.borrowing.Stored.Stored, declared.borrowing.Swapping.Swapping, Reading.short_at, Reading.register_at, Reading.operand_at, Reading.or_else, Reading.place_at, Reading.copying_of}

-- REGISTERS THAT A LINE DOESN'T NAME

-- whether an operand is the register with this number
abbrev pub is_register : ℕ → Operand → Bool
is_register r (operand.Register q) = q == r
is_register r operand.Shared = false

-- whether none of three operands is the register with this number
abbrev pub is_spare : ℕ → Operand → Operand → Operand → Bool
is_spare r a b c = not (is_register r a) && (not (is_register r b) && not (is_register r c))

-- the last register that none of three operands is: 63, 62, 61 or 60
abbrev pub spare : Operand → Operand → Operand → ℕ
spare a b c = if is_spare 63 a b c then 63 else if is_spare 62 a b c then 62 else if is_spare 61 a b c then 61 else 60

-- VALUES THAT ARE STORED

-- a value if it is no reference, and otherwise nothing
abbrev pub plain_of : Value → Option Value
plain_of (value.Ref name) = None
plain_of v = Some v

-- the number or nil that a token spells
unfoldable pub plain_at : List ℕ → Option Value
plain_at word = value_at word >>= plain_of

-- the operand that a token spells, or else the register r, with the number or nil that the token spells
unfoldable pub stored_at : ℕ → List ℕ → Option Stored
stored_at r word = or_else (operand_at word >>= λ o. Some (record { operand = o; load = None }))
    (plain_at word >>= λ v. Some (record { operand = operand.Register r; load = Some v }))

-- the tasks that load a number or nil into a register, if there is one to load
abbrev pub loads : ℕ → Option Value → List Task
loads r (Some value.Nil) = task_of (command.Nil r) ∷ []
loads r (Some (value.Number n)) = task_of (command.Num r n) ∷ []
loads r o = []

-- the register r if a value is loaded, as a list
abbrev pub lent : ℕ → Option Value → List ℕ
lent r None = []
lent r (Some v) = r ∷ []

-- EXCHANGES

-- whether the answer refuses an exchange: there is no such field that can be written
abbrev pub refuses : Reply → Bool
refuses reply.NoPointer = true
refuses reply.NoField = true
refuses reply.WrongKind = true
refuses reply.Fixed = true
refuses answer = false

-- the tasks of an exchange by a borrowed register: the old value is loaded, which is the answer. Then the new value is
-- stored, and the old one goes into its register
abbrev pub exchanged : Swapping → ℕ → Reply → List Task
exchanged k b answer = record { command = command.Get b k.object k.index; answer = Some answer } ∷ task_of (command.Set k.object k.index k.value) ∷
    task_of (command.Mov k.dest (operand.Register b)) ∷ []

-- the task of an exchange that is refused: the store is refused with this answer, and no register changes
abbrev pub unexchanged : Swapping → Reply → List Task
unexchanged k answer = record { command = command.Set k.object k.index k.value; answer = Some answer } ∷ []

-- the tasks of an exchange with this answer
abbrev pub swapped : Swapping → ℕ → Reply → List Task
swapped k b answer = if refuses answer then unexchanged k answer else exchanged k b answer

-- the register that an exchange borrows for the old value
abbrev pub swap_register : Swapping → ℕ
swap_register k = spare (operand.Register k.dest) k.object k.value

-- the registers and tasks of an exchange, by its register, its field, the register for a new value, and the new value
abbrev pub swap_rows : Reply → ℕ → Operand × ℕ → ℕ → Stored → Rows
swap_rows answer dest place r new =
    let k : Swapping = record { dest = dest; object = place.0; index = place.1; value = new.operand } in
    record { borrowed = lent r new.load ++ swap_register k ∷ []; tasks = loads r new.load ++ swapped k (swap_register k) answer }

-- the exchange that the tokens after `swap` spell, with this answer
unfoldable pub swap_at : Reply → List (List ℕ) → Option Rows
swap_at answer (dest ∷ object ∷ index ∷ word ∷ []) = do
  d ← register_at dest
  p ← place_at object index
  new ← stored_at (spare (operand.Register d) p.0 operand.Shared) word
  Some (swap_rows answer d p (spare (operand.Register d) p.0 operand.Shared) new)
swap_at answer words = None

-- COPIES WITHOUT A REGISTER, AND FILLS WITH A NUMBER OR NIL

-- the registers and tasks of a copy through a borrowed register
abbrev pub copy_rows : Operand × ℕ → Operand × ℕ → ℕ → Rows
copy_rows to from count =
    let k : Copying = copying_of to from (count, spare to.0 from.0 operand.Shared) in record { borrowed = k.via ∷ []; tasks = copied k k.count }

-- the copy that the five tokens after `copy` spell
unfoldable pub plain_copy_at : List (List ℕ) → Option Rows
plain_copy_at (to ∷ place ∷ from ∷ first ∷ count ∷ []) = do
  t ← place_at to place
  f ← place_at from first
  n ← short_at count
  Some (copy_rows t f n)
plain_copy_at words = None

-- the registers and tasks of a fill with a value that a borrowed register holds
abbrev pub fill_rows : Operand × ℕ → ℕ → Value → Rows
fill_rows place count v =
    let r : ℕ = spare place.0 operand.Shared operand.Shared in
    record {
      borrowed = r ∷ [];
      tasks = loads r (Some v) ++ filled (record { object = place.0; first = place.1; count = count; value = operand.Register r }) count;
    }

-- the fill with a number or nil that the tokens after `fill` spell
unfoldable pub plain_fill_at : List (List ℕ) → Option Rows
plain_fill_at (object ∷ first ∷ count ∷ word ∷ []) = do
  p ← place_at object first
  n ← short_at count
  v ← plain_at word
  Some (fill_rows p n v)
plain_fill_at words = None

-- ALL THESE LINES

-- the registers and tasks of an option if the answer is `ok`
abbrev pub if_fine : Reply → Option Rows → Option Rows
if_fine reply.Fine rows = rows
if_fine answer rows = None

-- the registers and tasks of the line whose tokens after the mutator are these, with this answer
unfoldable pub borrowing_at : Reply → List (List ℕ) → Option Rows
borrowing_at answer [] = None
borrowing_at answer (verb ∷ words) =
    if bytes_eq verb (codes "swap") then swap_at answer words
    else if bytes_eq verb (codes "copy") then if_fine answer (plain_copy_at words)
    else if bytes_eq verb (codes "fill") then if_fine answer (plain_fill_at words)
    else None
