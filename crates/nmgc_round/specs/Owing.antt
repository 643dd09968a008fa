-- The words that a step owes beside the word that it found: words that the view's fixed words name.
use Rattle.std.specs.Prelude.{ℕ, zero, suc, ◌+◌, ◌==◌, ◌&&◌, Bool, true, false, List, [], ◌∷◌, ◌++◌, if◌then◌else◌}
use Rattle.nmgc_world_spec.specs.declared.command.Command.{Command}
use Rattle.nmgc_round.specs.View.{Answer, FixedWord, Part, Seen, changing, doing}

-- the word that is named at an address and offset, or 0
abbrev pub fixed_at : List FixedWord → ℕ → ℕ → ℕ
fixed_at [] at offset = 0
fixed_at (f ∷ fs) at offset = if (f.at == at) && (f.offset == offset) then f.word else fixed_at fs at offset

-- the words that are named at an address from an offset on, `count` of them
abbrev pub fixed_from : List FixedWord → ℕ → ℕ → ℕ → List ℕ
fixed_from fixed at offset zero = []
fixed_from fixed at offset (suc count) = fixed_at fixed at offset ∷ fixed_from fixed at (offset + 1) count

-- the words that are owed of these words: all of them while marking, and otherwise none
abbrev pub owed_words : Bool → List ℕ → List ℕ
owed_words true ws = ws
owed_words false ws = []

-- a part whose last step took these words out of an object
abbrev pub finding_all : Part → List ℕ → Part
finding_all p ws = record p { found = p.found ++ ws }

-- the view after a command with its answer, which owes words that its part names
abbrev pub owing : Seen → Command → Answer → (Part → List ℕ) → Seen
owing v c a ws = changing (λ p. doing (finding_all p (ws p)) c a (owed_words v.opening.marking (ws p))) v
