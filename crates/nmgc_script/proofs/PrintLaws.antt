-- The printed text is the plain spelling, and is read back.
use Rattle.std.proofs.{Common.◌≡◌, Common.◌<◌, Common.◌+◌, Common.◌^◌, Common.ℕ, Common.List, Common.[], Common.◌∷◌, Common.◌++◌, Common.map, Common.length, Common.refl, Common.sym, Common.ap, Common.◌∙◌, Common.arith, Common.append_assoc, lemmas.List.Elements.recursion_from_All}
use Rattle.std.specs.List.{AllByRecursion, All}
use Rattle.nmgc_world_spec.specs.{declared.command.Command.Command, World.Fits}
use Rattle.nmgc_io.specs.{Text.lines_of, laws.Parts.cut_on, laws.Parts.lines_cut, Spaced.after_spaces, Text.spaced, Text.ended, laws.Parts.spaced_after}
use Rattle.nmgc_script.specs.{declared.script.Script.Script, Spelling.FitsScript, Spelling.kept_from, Spelling.command_words, Spelling.heap_words, Spelling.section_lines, Spelling.script_lines, Spelling.Spells, Spelling.version_of, laws.Versions.threads_few, laws.Versions.usable_number, Parts.section_words, Parts.version_words, Parts.program_lines, Parts.plain, laws.Lines.IsKept, laws.Lines.made_kept, laws.Lines.command_line, laws.Lines.heap_line_words, laws.Lines.section_line_words, laws.Lines.version_line_words}
use Rattle.nmgc_script.proofs.SectionLaws.{text}

pub after_append : (xs ys : List (List ℕ)) → after_spaces (xs ++ ys) ≡ after_spaces xs ++ after_spaces ys
after_append [] ys = refl
after_append (x ∷ xs) ys = ap (λ (l : List ℕ). 32 ∷ (x ++ l)) (after_append xs ys) ∙
    ap (λ (l : List ℕ). 32 ∷ l) (sym (append_assoc x (after_spaces xs) (after_spaces ys)))

pub spaced_longer : (word : List ℕ) (xs ys : List (List ℕ)) → spaced (word ∷ xs) ++ after_spaces ys ≡ spaced (word ∷ xs ++ ys)
spaced_longer word xs ys =
    ap (λ (l : List ℕ). l ++ after_spaces ys) (spaced_after word xs) ∙ append_assoc word (after_spaces xs) (after_spaces ys) ∙
    ap (λ (l : List ℕ). word ++ l) (sym (after_append xs ys)) ∙ sym (spaced_after word (xs ++ ys))

lines_ended : (lines : List (List ℕ)) → AllByRecursion IsKept lines → lines_of (ended lines) ≡ lines
lines_ended [] h = refl
lines_ended (line ∷ lines) h =
    rw (append_assoc line (10 ∷ []) (ended lines), cut_on 10 lines_of lines_cut line (ended lines) h.0.one, lines_ended lines h.1) refl

all_kept : (n : ℕ) (lines : List (List ℕ)) → AllByRecursion IsKept lines → map text (kept_from n lines) ≡ lines
unfolding kept_from
all_kept n [] h = refl
all_kept n (line ∷ lines) h = rw (h.0.kept, all_kept (n + 1) lines h.1) refl

kept_append : (xs ys : List (List ℕ)) → AllByRecursion IsKept xs → AllByRecursion IsKept ys → AllByRecursion IsKept (xs ++ ys)
kept_append [] ys h k = k
kept_append (x ∷ xs) ys h k = (h.0, kept_append xs ys h.1 k)

program_kept : (size : ℕ) (program : List Command) → AllByRecursion (Fits size) program → AllByRecursion IsKept (program_lines program)
program_kept size [] h = tt
program_kept size (c ∷ cs) h = (made_kept (command_words c) (command_line size c h.0), program_kept size cs h.1)

sections_kept : (size n : ℕ) (threads : List (List Command)) → n + length threads < 2 ^ 64 → AllByRecursion (All (Fits size)) threads →
    AllByRecursion IsKept (section_lines n threads)
sections_kept size n [] few h = tt
sections_kept size n (program ∷ programs) few h = (
  made_kept (section_words n) (section_line_words n (omega arith)),
  kept_append (program_lines program) (section_lines (n + 1) programs)
      (program_kept size program (recursion_from_All (Fits size) program h.0)) (sections_kept size (n + 1) programs (omega arith) h.1),
)

script_kept : (s : Script) → FitsScript s → AllByRecursion IsKept (script_lines s)
script_kept s fits = (
  made_kept (version_words s.version) (version_line_words s.version (let usable = usable_number s.version in omega (arith, fits.version, usable.number))),
  (
    made_kept (heap_words s.config) (heap_line_words (version_of s.version).segments (let usable = usable_number s.version in omega (arith, usable.segments)) s.config fits.config),
    sections_kept s.config.words 0 s.threads (omega (arith, threads_few s fits)) (recursion_from_All (λ program.
        All (Fits s.config.words) program) s.threads fits.commands),
  ),
)

-- the plain spelling of a script spells it
pub plain_spells : (s : Script) → FitsScript s → Spells (plain s) s
plain_spells s fits =
    let kept = script_kept s fits in
    record { lines = rw (lines_ended (script_lines s) kept) (all_kept 1 (script_lines s) kept); fits = fits }
