-- The texts that reports of formats 2 and 3 share.
use Rattle.std.specs.Prelude.{ℕ, List, [], ◌++◌, codes, decimal, Option, Some, None, ◌==◌, if◌then◌else◌}
use Rattle.nmgc_trace_checker.specs.declared.counts.Counts.{Counts}

-- the text of a line, in brackets after a space, or nothing if there is none
abbrev pub bracketed : Option (List ℕ) → List ℕ
bracketed None = []
bracketed (Some text) = codes " (" ++ text ++ codes ")"

-- a number and a noun, in the singular or the plural
abbrev pub counted_text : ℕ → List ℕ → List ℕ → List ℕ
counted_text n one many = decimal n ++ (if n == 1 then one else many)

-- how often a name came due
abbrev pub dues_text : ℕ → List ℕ
dues_text n = if n == 0 then codes "; nothing came due, so no barrier was tried"
    else if n == 1 then codes "; something came due once"
    else codes "; something came due " ++ decimal n ++ codes " times"

-- the counts of a trace that passes, and how often a name came due
abbrev pub counts_text : Counts → ℕ → List ℕ
counts_text c dues = counted_text c.cycles (codes " cycle, ") (codes " cycles, ") ++ counted_text c.commands (codes " command, ") (codes " commands, ") ++
    counted_text c.pushes (codes " push") (codes " pushes") ++ dues_text dues
