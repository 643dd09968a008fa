-- Why a session is given up, and the text and the status of each reason.
use Rattle.std.specs.Prelude.{ℕ, ◌≡◌, ◌⊎◌, List, [], ◌∷◌, ◌++◌, Option, codes, decimal, false}
use Rattle.std.specs.Io.KnownBytes.{Appends, Keeps}
use Rattle.nmgc_io.specs.Text.{AppendsFront}
use Rattle.nmgc_io.specs.declared.ends.ReadEnd.{ReadEnd}
use Rattle.nmgc_io.specs.declared.ends.ReadEnd.TheVariants as read
use Rattle.nmgc_cli.specs.Output.{cause_text}
use Rattle.nmgc_cli.specs.declared.status.Status.{Status}
use Rattle.nmgc_cli.specs.declared.status.Status.TheVariants as status
use Rattle.nmgc_live.specs.declared.options.Options.{Options}
use Rattle.nmgc_live.specs.declared.refusal.{Fault.Fault, Refusal.Refusal}
use Rattle.nmgc_live.specs.declared.refusal.Fault.TheVariants as fault
use Rattle.nmgc_live.specs.declared.refusal.Refusal.TheVariants as no

-- the token of a line's fault
abbrev pub fault_text : Fault → List ℕ
fault_text (fault.Script cause) = cause_text cause
fault_text fault.Line = codes "line"
fault_text fault.TooMany = codes "toomany"

-- the line that reports a bad line
abbrev pub bad_line : ℕ → Fault → List ℕ
bad_line n f = codes "bad line " ++ decimal n ++ 32 ∷ fault_text f ++ 10 ∷ []

-- the text of a refusal; after a failed write there is none
abbrev pub refusal_text : Refusal → List ℕ
refusal_text (no.Bad n f) = bad_line n f
refusal_text no.ReadFault = codes "read fault\n"
refusal_text no.WriteFault = []
refusal_text no.NoMemory = codes "no memory\n"

-- the status of a refusal
abbrev pub refusal_status : Refusal → Status
refusal_status (no.Bad n f) = status.BadScript
refusal_status no.ReadFault = status.ReadFault
refusal_status no.WriteFault = status.WriteFault
refusal_status no.NoMemory = status.NoMemory

-- the refusal after a read that gave no line
abbrev pub read_refusal : ReadEnd → Refusal
read_refusal read.ReadFault = no.ReadFault
read_refusal read.TooLong = no.NoMemory
read_refusal read.NoMemory = no.NoMemory

-- a text was written to the sink, and then the session ended with this status, or the sink failed at the text
abbrev pub WritesLast : Option (List ℕ) → Option (List ℕ) → List ℕ → Status → Status → Type 0
WritesLast before now text wanted result = ((result ≡ wanted) × Appends before now text) ⊎ ((result ≡ status.WriteFault) × AppendsFront before now text)

-- the text of a refusal was written, or that there was no memory for the text of a bad line
abbrev pub WritesRefusal : Option (List ℕ) → Option (List ℕ) → Refusal → Status → Type 0
WritesRefusal before now refusal result = (said : Refusal) × ((said ≡ refusal) ⊎ ((said ≡ no.NoMemory) × ((n : ℕ) × ((f : Fault) × (refusal ≡ no.Bad n f))))) ×
    WritesLast before now (refusal_text said) (refusal_status said) result

-- a session was given up at a bad line: it doesn't pass over bad lines, or there was no memory for the answer, or the sink failed
abbrev pub GivesUp : Option (List ℕ) → Option (List ℕ) → Options → ℕ → Fault → Refusal → Type 0
GivesUp before now options n f (no.Bad m g) = (options.passes_over ≡ false) × (m ≡ n) × (g ≡ f) × Keeps before now
GivesUp before now options n f no.ReadFault = ⊥
GivesUp before now options n f no.NoMemory = Keeps before now
GivesUp before now options n f no.WriteFault = AppendsFront before now (bad_line n f)
