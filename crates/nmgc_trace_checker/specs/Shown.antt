-- How outputs are written and results are shown, for private contracts.
use Rattle.std.specs.Prelude.{◌≡◌, ◌≤◌, ℕ, List, ◌++◌, codes, Option, Bool, Result, Ok, Err}
use Rattle.std.specs.Io.KnownBytes.{Appends}
use Rattle.nmgc_io.specs.{Text.AppendsFront, Text.Rose, declared.ends.WriteEnd.WriteEnd}
use Rattle.nmgc_io.specs.declared.ends.WriteEnd.TheVariants.{WriteFault}
use Rattle.nmgc_arguments.specs.{Output.text_bytes, declared.output.Text.Text}
use Rattle.nmgc_trace_checker.specs.{declared.reading.TraceFault.TraceFault, declared.status.Status.Status, Outcomes.IsHeard, Program.IsGravest, Program.IsJudged, Program.IsShown, Program.Judged}
use Rattle.nmgc_trace_checker.specs.declared.reading.TraceFault.TheVariants as fault

-- these bytes were written, or a front of them and the output's count of faults rose
abbrev pub Writes : {A : Type 0} → List ℕ → Option (List ℕ) → Option (List ℕ) → ℕ → ℕ → Result A WriteEnd → Type 0
Writes bytes old new before now (Ok x) = Appends old new bytes × (before ≤ now)
Writes bytes old new before now (Err e) = AppendsFront old new bytes × Rose before now

-- an output that `says` allows, with the gravest of its statuses, was written, or a front of such an output
abbrev pub WritesOne : (List ℕ → List Status → Type 0) → Option (List ℕ) → Option (List ℕ) → ℕ → ℕ → Result Status WriteEnd → Type 0
WritesOne says old new before now (Ok s) = (said : List ℕ) × (ss : List Status) × says said ss × IsGravest ss s × Appends old new said × (before ≤ now)
WritesOne says old new before now (Err e) = (said : List ℕ) × (ss : List Status) × says said ss × AppendsFront old new said × Rose before now

-- a trace was judged, and the answers while it came were written, or a front of them
abbrev pub WritesLive : Option (List ℕ) → Bool → Option (List ℕ) → Option (List ℕ) → ℕ → ℕ → Result Judged WriteEnd → Type 0
WritesLive known is_asked old new before now (Ok judged) = (said : List ℕ) × IsJudged known is_asked said judged × Appends old new said × (before ≤ now)
WritesLive known is_asked old new before now (Err e) = (said : List ℕ) × IsHeard known is_asked said × AppendsFront old new said ×
    Rose before now

-- the status and the line of a result, without the argument before it: its text and a line feed
abbrev pub IsShownAs : Judged → Status → Text → Type 0
IsShownAs judged s line = (text : List ℕ) × IsShown judged text s × (text_bytes line ≡ text ++ codes "\n")

-- a fault is the result of a trace, unless the output is the fault
abbrev pub IsPassedOn : TraceFault → Result Judged WriteEnd → Type 0
IsPassedOn fault.Unwritten r = r ≡ Err WriteFault
IsPassedOn f r = r ≡ Ok (Err f)
