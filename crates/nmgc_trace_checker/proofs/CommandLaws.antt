-- A line spells a command exactly if the script with this line as its only command is read and has a command.
use Rattle.std.proofs.{Common.◌≡◌, Common.◌<◌, Common.◌≤◌, Common.◌+◌, Common.◌*◌, Common.ℕ, Common.List, Common.[], Common.◌∷◌, Common.◌++◌, Common.map, Common.length, Common.refl, Common.sym, Common.ap, Common.subst, Common.◌∙◌, Common.arith, Common.true, Common.false, Common.codes, Common.inl, Common.inr, Common.Option, Common.Some, Common.None, Common.Result, Common.Ok, Common.Err, Common.IfOk, Common.MatchResult, Common.append_assoc, Common.lit≤, lemmas.Bool.ne_eqb, lemmas.Bool.cases_Bool, lemmas.List.append-nil, lemmas.List.map_push, lemmas.List.length-append, lemmas.List.Elements.All-nil, lemmas.List.Elements.All-cons, lemmas.List.Elements.All-contains, lemmas.List.Elements.Contains-push}
use Rattle.std.specs.{Prelude.All, Prelude.Contains, Fmt.digits}
use Rattle.nmgc_lists.specs.{declared.memory.NoMemory.NoMemory, laws.Items.contains_cases, laws.Items.contains_head, laws.Items.contains_tail, laws.Items.nothing_in}
use Rattle.nmgc_world_spec.specs.{declared.command.Command.Command, World.Fits}
use Rattle.nmgc_io.specs.Text.{lines_of, is_blank_or_comment, spaced}
use Rattle.nmgc_script.specs.{declared.fault.Cause.Cause, declared.fault.ScriptFault.ScriptFault, declared.script.Config.Config, declared.script.Script.Script, Spelling.FitsScript, Spelling.IsOf, Spelling.version_3, laws.Versions.since_last, Spelling.kept_from, Spelling.kept_lines, Spelling.command_words, Spelling.heap_words, Spelling.section_lines, Spelling.Spells, Parts.version_words, Parts.section_words, Parts.program_lines, laws.Lines.IsLine, laws.Lines.IsKept, laws.Lines.made_kept, laws.Lines.made_short, laws.Lines.command_line, laws.Versions.bench_sizes_fit}
use Rattle.nmgc_script.specs.declared.fault.ScriptFault.TheVariants as script_fault
use Rattle.nmgc_trace_checker.specs.Reading.{script_head, IsLastIf, IsLastOf, IsSpelled, IsSpelledIf}
use Rattle.nmgc_trace_checker.proofs.LineWords.{command_count}

-- THE LINES OF THE SCRIPT

abbrev script_with : List ℕ → List ℕ
script_with line = (script_head ++ line) ++ 10 ∷ []

feed_on : (line : List ℕ) → IsLine line → lines_of (line ++ 10 ∷ []) ≡ line ∷ []
feed_on [] none = refl
feed_on (b ∷ line) none = rw (ne_eqb b 10 none.0, feed_on line none.1) refl

abbrev with_head : List (List ℕ) → List (List ℕ)
with_head lines = codes "nmgc 3" ∷ codes "heap 128 4096 4096 4096 1048576 8" ∷ codes "thread 0" ∷ lines

lines_are : (line : List ℕ) → IsLine line → lines_of (script_with line) ≡ with_head (line ∷ [])
lines_are line none = ap with_head (feed_on line none)

abbrev texts : List (ℕ × List ℕ) → List (List ℕ)
texts lines = map (λ line. line.1) lines

kept_line : (line : List ℕ) → is_blank_or_comment line ≡ false → texts (kept_from 1 (with_head (line ∷ []))) ≡ with_head (line ∷ [])
unfolding kept_from
kept_line line k = rw k refl

passed_line : (line : List ℕ) → is_blank_or_comment line ≡ true → texts (kept_from 1 (with_head (line ∷ []))) ≡ with_head []
unfolding kept_from
passed_line line k = rw k refl

all_kept : (line : List ℕ) → IsLine line → texts (kept_lines (script_with line)) ≡ texts (kept_from 1 (with_head (line ∷ [])))
all_kept line none = ap (λ (lines : List (List ℕ)). texts (kept_from 1 lines)) (lines_are line none)

-- A COMMAND THAT WAS READ

-- the last line of sections is the line of the last command
last_in : (n : ℕ) (before : List (List Command)) (front : List Command) (c : Command) →
    (lines : List (List ℕ)) × (section_lines n (before ++ (front ++ c ∷ []) ∷ []) ≡ spaced (section_words n) ∷ (lines ++ spaced (command_words c) ∷ []))
last_in n [] front c = (
  program_lines front,
  ap (λ (ls : List (List ℕ)). spaced (section_words n) ∷ ls)
      (append-nil (program_lines (front ++ c ∷ [])) ∙ map_push (λ k. spaced (command_words k)) front c),
)
last_in n (p ∷ before) front c =
    let more : (lines : List (List ℕ)) × (section_lines (n + 1) (before ++ (front ++ c ∷ []) ∷ []) ≡ spaced (section_words (n + 1)) ∷
    (lines ++ spaced (command_words c) ∷ [])) = last_in (n + 1) before front c in (
      program_lines p ++ spaced (section_words (n + 1)) ∷ more.0,
      ap (λ (ls : List (List ℕ)). spaced (section_words n) ∷ ls) (ap (λ (ls : List (List ℕ)). program_lines p ++ ls) more.1 ∙
          sym (append_assoc (program_lines p) (spaced (section_words (n + 1)) ∷ more.0) (spaced (command_words c) ∷ []))),
    )

abbrev after_three : List (List ℕ) → List (List ℕ)
after_three (a ∷ b ∷ c ∷ lines) = lines
after_three _ = []

not_none : (lines : List (List ℕ)) (line : List ℕ) → [] ≡ lines ++ line ∷ [] → ⊥
not_none [] line e = cc
not_none (x ∷ lines) line e = cc

just_one : (lines : List (List ℕ)) (line other : List ℕ) → line ∷ [] ≡ lines ++ other ∷ [] → line ≡ other
just_one [] line other e = cc
just_one (x ∷ lines) line other e = absurd (not_none lines other cc)

-- a command that fits in a smaller segment fits
wider : (words : ℕ) (c : Command) → words ≤ 4096 → Fits words c → Fits 4096 c
wider words c le f = record { registers = f.registers; numbers = f.numbers; size = (let few = f.size in omega arith) }

module _ (line : List ℕ) (none : IsLine line) (s : Script) (spells : Spells (script_with line) s) (before : List (List Command)) (front : List Command)
    (c : Command) (last : s.threads ≡ before ++ (front ++ c ∷ []) ∷ []) where
  lines_of_it : (lines : List (List ℕ)) × (texts (kept_from 1 (with_head (line ∷ []))) ≡ spaced (version_words s.version) ∷ spaced (heap_words s.config) ∷
      spaced (section_words 0) ∷ (lines ++ spaced (command_words c) ∷ []))
  lines_of_it =
      let l : (lines : List (List ℕ)) × (section_lines 0 (before ++ (front ++ c ∷ []) ∷ []) ≡ spaced (section_words 0) ∷
      (lines ++ spaced (command_words c) ∷ [])) = last_in 0 before front c in (
        l.0,
        sym (all_kept line none) ∙ spells.lines ∙ ap (λ (ls : List (List ℕ)). spaced (version_words s.version) ∷ spaced (heap_words s.config) ∷ ls)
            (ap (λ (ts : List (List Command)). section_lines 0 ts) last ∙ l.1),
      )

  line_is : line ≡ spaced (command_words c)
  line_is = elim (cases_Bool (is_blank_or_comment line)) [
    | inl p ↦ absurd (not_none lines_of_it.0 (spaced (command_words c)) (ap after_three (sym (passed_line line p) ∙ lines_of_it.1)))
    | inr k ↦ just_one lines_of_it.0 line (spaced (command_words c)) (ap after_three (sym (kept_line line k) ∙ lines_of_it.1))
  ]

  it_fits : Fits 4096 c
  it_fits =
      let P : List Command → Type 0 = λ program. All (Fits s.config.words) program in
      let here : Contains s.threads (front ++ c ∷ []) =
      subst (λ (ts : List (List Command)). Contains ts (front ++ c ∷ [])) (sym last) (Contains-push before (front ++ c ∷ [])) in
      let program : All (Fits s.config.words) (front ++ c ∷ []) = All-contains P s.threads (front ++ c ∷ []) spells.fits.commands here in
      wider s.config.words c spells.fits.config.words.most
      (All-contains (Fits s.config.words) (front ++ c ∷ []) c program (Contains-push front c))

  pub it_spells : IsSpelled line c
  it_spells = (it_fits, line_is)

-- A COMMAND THAT IS SPELLED

abbrev config : Config
config = record { segments = 128; words = 4096; nursery = 4096; slice = 4096; quota = 1048576; trigger = 8 }

abbrev with_command : Command → Script
with_command c = record { version = 3; config = config; threads = (c ∷ []) ∷ [] }

with_fits : (c : Command) → Fits 4096 c → FitsScript (with_command c)
with_fits c f = record {
  version = refl;
  config = bench_sizes_fit;
  some_thread = omega arith;
  threads = omega arith;
  total = omega arith;
  commands = All-cons (λ program. All (Fits 4096) program) (c ∷ []) [] (All-cons (Fits 4096) c [] f (All-nil (Fits 4096)))
      (All-nil (λ program. All (Fits 4096) program));
  of_version = All-cons (λ program. All (IsOf version_3) program) (c ∷ [])
      [] (All-cons (IsOf version_3) c [] (f.registers, since_last c) (All-nil (IsOf version_3))) (All-nil (λ program. All (IsOf version_3) program));
}

head_is : (line : List ℕ) → with_head (line ∷ []) ≡ spaced (version_words 3) ∷ spaced (heap_words config) ∷ spaced (section_words 0) ∷ line ∷ []
unfolding digits
head_is line = refl

module _ (line : List ℕ) (c : Command) (is : IsSpelled line c) where
  kept : IsKept line
  kept = subst IsKept (sym is.1) (made_kept (command_words c) (command_line 4096 c is.0))

  pub no_feed : IsLine line
  no_feed = kept.one

  pub not_long : length (script_with line) ≤ 131072
  not_long =
      let few : length (command_words c) ≤ 4098 = command_count 4096 c is.0 (lit≤ tt) in
      let short : length line ≤ 22 * length (command_words c) =
      subst (λ (l : List ℕ). length l ≤ 22 * length (command_words c)) (sym is.1) (made_short (command_words c) (command_line 4096 c is.0)) in
      let all : length (script_with line) ≡ length (script_head ++ line) + 1 = length-append (script_head ++ line) (10 ∷ []) in
      let most : length (script_head ++ line) ≡ length script_head + length line = length-append script_head line in
      omega arith

  pub script_spells : Spells (script_with line) (with_command c)
  script_spells = record {
    lines = all_kept line no_feed ∙ kept_line line kept.kept ∙ head_is line ∙
        ap (λ (l : List ℕ). spaced (version_words 3) ∷ spaced (heap_words config) ∷ spaced (section_words 0) ∷ l ∷ []) is.1;
    fits = with_fits c is.0;
  }

-- THE RESULT OF READING

-- the result of `parse` for the script
abbrev pub IsRead : List ℕ → Result Script ScriptFault → Type 0
IsRead bytes read = IfOk read (λ s. Spells bytes s) × ((s : Script) → Spells bytes s →
    MatchResult read (λ found. s ≡ found) (λ fault. fault ≡ script_fault.NoMemory))

spelled_if : (line : List ℕ) → IsLine line → (s : Script) → Spells (script_with line) s →
    ((other : Script) → Spells (script_with line) other → other ≡ s) → (o : Option Command) → IsLastIf s.threads o → IsSpelledIf line o
spelled_if line none s spells only (Some c) last = it_spells line none s spells last.0 last.1 c last.2
spelled_if line none s spells only None last = λ c is.
    last [] [] c (sym (ap (λ (t : Script). t.threads) (only (with_command c) (script_spells line c is))))

pub command_is : (line bytes : List ℕ) (read : Result Script ScriptFault) (result : Result (Option Command) NoMemory) → IsLine line →
    bytes ≡ script_with line → IsRead bytes read → IsLastOf read result → IfOk result (IsSpelledIf line)
command_is line bytes (Ok s) (Ok o) none is r last =
    spelled_if line none s (subst (λ (b : List ℕ). Spells b s) is r.0) (λ other spells.
    r.1 other (subst (λ (b : List ℕ). Spells b other) (sym is) spells)) o last
command_is line bytes (Ok s) (Err e) none is r last = tt
command_is line bytes (Err script_fault.NoMemory) (Ok o) none is r last = absurd cc
command_is line bytes (Err script_fault.NoMemory) (Err e) none is r last = tt
command_is line bytes (Err (script_fault.Bad number cause)) (Err e) none is r last = tt
command_is line bytes (Err (script_fault.Bad number cause)) (Ok o) none is r last =
    let nothing : o ≡ None = ok_same o None last in
    subst (IsSpelledIf line) (sym nothing) (λ c s. not_bad number cause (r.1 (with_command c) (subst (λ (b : List ℕ). Spells b (with_command c)) (sym is)
    (script_spells line c s))))
  where
    ok_same : (x y : Option Command) → ◌≡◌ {A = Result (Option Command) NoMemory} (Ok x) (Ok y) → x ≡ y
    ok_same x y e = cc

    not_bad : (n : ℕ) (why : Cause) → script_fault.Bad n why ≡ script_fault.NoMemory → ⊥
    not_bad n why e = cc

-- a line with a line feed in it
pub feed_within : (line : List ℕ) → Contains line 10 → IsSpelledIf line None
feed_within line has = λ c is. apart line (no_feed line c is) has
  where
    apart : (l : List ℕ) → IsLine l → Contains l 10 → ⊥
    apart [] h k = nothing_in 10 k
    apart (b ∷ l) h k = elim (contains_cases b l 10 k) [ inl e ↦ h.0 e | inr more ↦ apart l h.1 more ]

pub no_feed_within : (line : List ℕ) → (Contains line 10 → ⊥) → IsLine line
no_feed_within [] never = tt
no_feed_within (b ∷ line) never = (
  λ e. never (subst (λ (k : ℕ). Contains (b ∷ line) k) e (contains_head b line)),
  no_feed_within line (λ k. never (contains_tail b line 10 k)),
)

-- a line that is too long
pub too_long : (line bytes : List ℕ) → bytes ≡ script_with line → 131072 < length bytes → IsSpelledIf line None
too_long line bytes is long = λ c s.
    let few : length (script_with line) ≤ 131072 = not_long line c s in
    let same : length bytes ≡ length (script_with line) = ap length is in
    omega arith
