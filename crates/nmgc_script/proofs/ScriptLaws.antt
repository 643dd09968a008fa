-- A script is read exactly from its lines.
use Rattle.std.proofs.{Common.◌≡◌, Common.◌≤◌, Common.◌^◌, Common.◌<◌, Common.◌+◌, Common.ℕ, Common.List, Common.[], Common.◌∷◌, Common.◌++◌, Common.map, Common.length, Common.refl, Common.sym, Common.ap, Common.subst, Common.◌∙◌, Common.arith, Common.inl, Common.inr, Common.Bool, Common.true, Common.false, Common.cond, Common.eqb, Common.suc, Common.Result, Common.Ok, Common.Err, Common.IfOk, Common.MatchResult, Common.codes, lemmas.Bool.Decides.eqb_tells, lemmas.List.length-map, lemmas.List.length-append, lemmas.List.Sums.sum_by-cons, lemmas.List.Elements.All-from_recursion, lemmas.List.Elements.All-weaker, lemmas.List.Elements.recursion_from_All, lemmas.Slice.Eq.bytes_eq-Decides}
use Rattle.std.specs.{List.AllByRecursion, List.All, List.sum_by, Str.bytes_eq}
use Rattle.nmgc_world_spec.specs.{declared.command.Command.Command, World.Fits}
use Rattle.nmgc_io.specs.{Text.lines_of, Text.tokens_of, Text.onto_first, Text.is_blank_or_comment, Text.spaced, laws.Parts.spaced-tokens_of}
use Rattle.nmgc_script.specs.{declared.fault.Cause.Cause, declared.fault.ScriptFault.ScriptFault, declared.script.Config.Config, declared.script.Script.Script, declared.version.Version.Version, laws.Versions.IsUsable, laws.Versions.usable_version, laws.Versions.usable_number, laws.Versions.version_is, Spelling.FitsConfig, Spelling.FitsScript, Spelling.IsOf, Spelling.IsVersion, Spelling.version_1, Spelling.version_2, Spelling.version_of, Spelling.kept_from, Spelling.kept_lines, Spelling.heap_words, Spelling.command_words, Spelling.section_lines, Spelling.script_lines, Spelling.Spells, Spelling.version_3, Parts.total_words, Parts.end_of, Parts.section_words, Parts.version_words, Parts.program_lines, Reading.heap_words_at, Reading.section_at, Reading.rest_at, Reading.programs_at, Reading.threads_at, Reading.version_at, Reading.heap_at, Reading.script_at, Reading.at_line, Reading.GivesAt, laws.Lines.tokens_of-line, laws.Lines.heap_line_words, laws.Lines.section_line_words, laws.Lines.first_line, laws.Lines.second_line, laws.Versions.numbered, laws.Lines.third_line}
use Rattle.nmgc_script.specs.declared.fault.Cause.TheVariants as cause
use Rattle.nmgc_script.specs.declared.fault.ScriptFault.TheVariants as script_fault
use Rattle.nmgc_script.specs.declared.sections.Entry.TheVariants as entry
use Rattle.nmgc_script.proofs.{WordLaws.bind_ok, WordLaws.guard_ok, WordLaws.ok_is, CommandLaws.Fit, ConfigLaws.heap_takes, ConfigLaws.heap_again, SectionLaws.text, SectionLaws.at_line_ok, SectionLaws.section_takes, SectionLaws.section_again, SectionLaws.rest_takes, SectionLaws.rest_again, SectionLaws.fewer}
use Rattle.nmgc_lists.specs.laws.Truths.{chosen}

-- `All` and the same by recursion, in two levels
all_of : {X : Type 0} (P Q : X → Type 0) → ((x : X) → P x → Q x) → (xss : List (List X)) → AllByRecursion (AllByRecursion P) xss → All (λ xs. All Q xs) xss
all_of {X} P Q f xss h = All-from_recursion (λ xs. All Q xs) xss (each xss h)
  where
    each : (xss : List (List X)) → AllByRecursion (AllByRecursion P) xss → AllByRecursion (λ xs. All Q xs) xss
    each [] h = tt
    each (xs ∷ xss) h = (All-weaker P Q f xs (All-from_recursion P xs h.0), each xss h.1)

both_to : {X : Type 0} (P Q : X → Type 0) (xss : List (List X)) → All (λ xs. All P xs) xss → All (λ xs. All Q xs) xss →
    AllByRecursion (AllByRecursion (λ x. P x × Q x)) xss
both_to {X} P Q xss h k = each xss (recursion_from_All (λ xs. All P xs) xss h) (recursion_from_All (λ xs. All Q xs) xss k)
  where
    both : (xs : List X) → AllByRecursion P xs → AllByRecursion Q xs → AllByRecursion (λ x. P x × Q x) xs
    both [] h k = tt
    both (x ∷ xs) h k = ((h.0, k.0), both xs h.1 k.1)

    each : (xss : List (List X)) → AllByRecursion (λ xs. All P xs) xss → AllByRecursion (λ xs. All Q xs) xss →
        AllByRecursion (AllByRecursion (λ x. P x × Q x)) xss
    each [] h k = tt
    each (xs ∷ xss) h k = (both xs (recursion_from_All P xs h.0) (recursion_from_All Q xs k.0), each xss h.1 k.1)

-- a text without lines names no version
nothing : (end : ℕ) (p : Version × List (ℕ × List ℕ)) → version_at end [] ≡ Ok p → ⊥
unfolding version_at
nothing end p e = absurd cc

-- a line that is read as a version's line is that line
pub version_found : (end : ℕ) (line : ℕ × List ℕ) (lines : List (ℕ × List ℕ)) (p : Version × List (ℕ × List ℕ)) →
    version_at end (line ∷ lines) ≡ Ok p → IsVersion p.0 × (line.1 ≡ spaced (version_words p.0.number)) × (lines ≡ p.1)
unfolding version_at
version_found end line lines p e =
    elim (chosen (bytes_eq line.1 (codes "nmgc 1")) (Ok (
      version_1,
      lines,
    )) (cond (bytes_eq line.1 (codes "nmgc 2")) (Ok (version_2, lines)) (cond (bytes_eq line.1 (codes "nmgc 3")) (Ok (version_3, lines)) (Err (line.0, cause.Version)))) (Ok p) e) [
      | inl q ↦
          let here : line.1 ≡ codes "nmgc 1" = (bytes_eq-Decides line.1 (codes "nmgc 1")).0 q.0 in
          subst Found (ok_is {E = ℕ × Cause} (version_1, lines) p q.1) (inl refl, here ∙ sym first_line, refl)
      | inr q ↦
          elim (chosen (bytes_eq line.1 (codes "nmgc 2")) (Ok (version_2, lines)) (cond (bytes_eq line.1 (codes "nmgc 3")) (Ok (version_3, lines)) (Err (line.0, cause.Version))) (Ok p) q.1) [
            | inl r ↦
                let here : line.1 ≡ codes "nmgc 2" = (bytes_eq-Decides line.1 (codes "nmgc 2")).0 r.0 in
                subst Found (ok_is {E = ℕ × Cause} (version_2, lines) p r.1) (inr (inl refl), here ∙ sym second_line, refl)
            | inr r ↦
                let g = guard_ok (bytes_eq line.1 (codes "nmgc 3")) (line.0, cause.Version) (version_3, lines) p r.1 in
                let here : line.1 ≡ codes "nmgc 3" = (bytes_eq-Decides line.1 (codes "nmgc 3")).0 g.0 in
                subst Found g.1 (inr (inr refl), here ∙ sym third_line, refl)
          ]
    ]
  where
    Found : Version × List (ℕ × List ℕ) → Type 0
    Found r = IsVersion r.0 × (line.1 ≡ spaced (version_words r.0.number)) × (lines ≡ r.1)

version_takes : (end : ℕ) (lines : List (ℕ × List ℕ)) (p : Version × List (ℕ × List ℕ)) → version_at end lines ≡ Ok p →
    (map text lines ≡ spaced (version_words p.0.number) ∷ map text p.1) × IsVersion p.0
version_takes end [] p e = absurd (nothing end p e)
version_takes end (line ∷ lines) p e =
    let f = version_found end line lines p e in
    (cc (f.1, f.2), f.0)

-- a version's line is read as the version
version_again : (end : ℕ) (line : ℕ × List ℕ) (lines : List (ℕ × List ℕ)) (n : ℕ) → n ≡ (version_of n).number → line.1 ≡ spaced (version_words n) →
    version_at end (line ∷ lines) ≡ Ok (version_of n, lines)
unfolding version_at
version_again end line lines n is e = elim (eqb_tells n 1) [
  | inl p ↦
      let here : line.1 ≡ codes "nmgc 1" = e ∙ ap (λ (k : ℕ). spaced (version_words k)) p.1 ∙ first_line in
      rw (p.0, (bytes_eq-Decides line.1 (codes "nmgc 1")).1 here) refl
  | inr p ↦
      elim (eqb_tells n 2) [
        | inl q ↦
            let here : line.1 ≡ codes "nmgc 2" = e ∙ ap (λ (k : ℕ). spaced (version_words k)) q.1 ∙ second_line in
            let other : bytes_eq line.1 (codes "nmgc 1") ≡ false = ap (λ (l : List ℕ). bytes_eq l (codes "nmgc 1")) here in
            rw (p.0, q.0, other, (bytes_eq-Decides line.1 (codes "nmgc 2")).1 here) refl
        | inr q ↦
            let three : n ≡ 3 = is ∙ ap (λ (b : Bool). (cond b version_1 (cond (eqb n 2) version_2 version_3)).number) p.0
            ∙ ap (λ (b : Bool). (cond b version_2 version_3).number) q.0 in
            let here : line.1 ≡ codes "nmgc 3" = e ∙ ap (λ (k : ℕ). spaced (version_words k)) three ∙ third_line in
            let first : bytes_eq line.1 (codes "nmgc 1") ≡ false = ap (λ (l : List ℕ). bytes_eq l (codes "nmgc 1")) here in
            let second : bytes_eq line.1 (codes "nmgc 2") ≡ false = ap (λ (l : List ℕ). bytes_eq l (codes "nmgc 2")) here in
            rw (p.0, q.0, first, second, (bytes_eq-Decides line.1 (codes "nmgc 3")).1 here) refl
      ]
]

heap_at_takes : (ver : Version) (usable : IsUsable ver) (end : ℕ) (lines : List (ℕ × List ℕ)) (p : Config × List (ℕ × List ℕ)) →
    heap_at ver end lines ≡ Ok p → (map text lines ≡ spaced (heap_words p.0) ∷ map text p.1) × FitsConfig ver.segments p.0
unfolding heap_at
heap_at_takes ver usable end [] p e = absurd cc
heap_at_takes ver usable end (line ∷ lines) p e =
    let b = bind_ok (at_line line.0 (heap_words_at ver (tokens_of line.1))) (λ config. Ok (config, lines)) p e in
    let t = heap_takes ver (omega (arith, usable.segments)) (tokens_of line.1) b.0 (at_line_ok line.0 (heap_words_at ver (tokens_of line.1)) b.0 b.1) in
    let here : line.1 ≡ spaced (heap_words b.0) = sym (spaced-tokens_of line.1) ∙ ap spaced t.0 in
    subst (λ (q : Config × List (ℕ × List ℕ)). (map text (line ∷ lines) ≡ spaced (heap_words q.0) ∷ map text q.1) ×
    FitsConfig ver.segments q.0) (ok_is {E = ℕ × Cause} (b.0, lines) p b.2) (ap (λ (l : List ℕ). l ∷ map text lines) here, t.1)

-- the lines spell the programs, which are within the limits
record ThreadsSpelled (ver : Version) (h : Config) (lines : List (ℕ × List ℕ)) (threads : List (List Command)) : Type 0 where
  lines_are : map text lines ≡ section_lines 0 threads
  some : 1 ≤ length threads
  few : length threads ≤ ver.threads
  total : total_words h (length threads) ≤ ver.heap_words
  fit : AllByRecursion (AllByRecursion (Fit ver h.words)) threads

threads_takes : (ver : Version) (usable : IsUsable ver) (end : ℕ) (h : Config) (lines : List (ℕ × List ℕ)) (threads : List (List Command)) →
    threads_at ver end h lines ≡ Ok threads → ThreadsSpelled ver h lines threads
unfolding threads_at programs_at
threads_takes ver usable end h [] threads e = absurd cc
threads_takes ver usable end h (line ∷ lines) threads e =
    let b = bind_ok (at_line line.0 (section_at ver h 0 (tokens_of line.1))) _ threads e in
    let p = bind_ok (rest_at ver h 1 lines) _ threads b.2 in
    let s = section_takes ver usable h 0 (tokens_of line.1) b.0 (at_line_ok line.0 (section_at ver h 0 (tokens_of line.1)) b.0 b.1) in
    let r = rest_takes ver usable h 1 lines p.0 (omega (arith, usable.some_thread)) s.0.2 p.1 in
    let here : line.1 ≡ spaced (section_words 0) = sym (spaced-tokens_of line.1) ∙ ap spaced s.0.0 in
    let more : 1 + length p.0.1 ≡ length (p.0.0 ∷ p.0.1) = omega arith in
    let all : ThreadsSpelled ver h (line ∷ lines) (p.0.0 ∷ p.0.1) = record {
      lines_are = cc (here, r.lines_are);
      some = omega (arith, more);
      few = omega (arith, r.few, more);
      total = subst (λ (k : ℕ). total_words h k ≤ ver.heap_words) more r.total;
      fit = (r.first, r.others);
    } in
    subst (ThreadsSpelled ver h (line ∷ lines)) (ok_is {E = ℕ × Cause} (p.0.0 ∷ p.0.1) threads p.2) all

script_takes : (end : ℕ) (lines : List (ℕ × List ℕ)) (s : Script) → script_at end lines ≡ Ok s → (map text lines ≡ script_lines s) × FitsScript s
unfolding script_at
script_takes end lines s e =
    let b = bind_ok (version_at end lines) _ s e in
    let h = bind_ok (heap_at b.0.0 end b.0.1) _ s b.2 in
    let t = bind_ok (threads_at b.0.0 end h.0.0 h.0.1) _ s h.2 in
    let first = version_takes end lines b.0 b.1 in
    let usable = usable_version b.0.0 first.1 in
    let second = heap_at_takes b.0.0 usable end b.0.1 h.0 h.1 in
    let third = threads_takes b.0.0 usable end h.0.0 h.0.1 t.0 t.1 in
    let same : b.0.0 ≡ version_of b.0.0.number = sym (version_is b.0.0 first.1) in
    let made : Script = record { version = b.0.0.number; config = h.0.0; threads = t.0 } in
    let fits : FitsScript made = record {
      version = ap (λ (v : Version). v.number) same;
      config = subst (λ (v : Version). FitsConfig v.segments h.0.0) same second.1;
      some_thread = third.some;
      threads = subst (λ (v : Version). length t.0 ≤ v.threads) same third.few;
      total = subst (λ (v : Version). total_words h.0.0 (length t.0) ≤ v.heap_words) same third.total;
      commands = all_of (Fit b.0.0 h.0.0.words) (Fits h.0.0.words) (λ c fit. fit.0) t.0 third.fit;
      of_version = subst (λ (v : Version). All (λ program. All (IsOf v) program) t.0) same
          (all_of (Fit b.0.0 h.0.0.words) (IsOf b.0.0) (λ c fit. fit.1) t.0 third.fit);
    } in
    subst (λ (k : Script). (map text lines ≡ script_lines k) × FitsScript k) (ok_is {E = ℕ × Cause} made s t.2) (cc (first.0, second.0, third.lines_are), fits)

threads_again : (ver : Version) (usable : IsUsable ver) (end : ℕ) (h : Config) (lines : List (ℕ × List ℕ)) (threads : List (List Command)) →
    1 ≤ length threads → length threads ≤ ver.threads → total_words h (length threads) ≤ ver.heap_words →
    AllByRecursion (AllByRecursion (Fit ver h.words)) threads → map text lines ≡ section_lines 0 threads → threads_at ver end h lines ≡ Ok threads
unfolding threads_at programs_at
threads_again ver usable end h lines [] some few total fit e = absurd (omega arith)
threads_again ver usable end h [] (program ∷ programs) some few total fit e = absurd cc
threads_again ver usable end h (line ∷ lines) (program ∷ programs) some few total fit e =
    let more : 1 + length programs ≡ length (program ∷ programs) = omega arith in
    let here : line.1 ≡ spaced (section_words 0) = cc in
    let words : tokens_of line.1 ≡ section_words 0 = ap tokens_of here ∙ tokens_of-line (section_words 0) (section_line_words 0 (omega arith)) in
    let room : total_words h 1 ≤ ver.heap_words = fewer h 1 (length (program ∷ programs)) ver.heap_words (omega (arith, more)) total in
    let read : section_at ver h 0 (tokens_of line.1) ≡ Ok entry.Section = ap (section_at ver h 0) words ∙
    section_again ver usable h 0 (omega (arith, usable.some_thread)) room in
    let after : map text lines ≡ program_lines program ++ section_lines 1 programs = cc in
    rw (
      read,
      rest_again ver usable h 1 lines program programs fit.0 fit.1 (omega (
        arith,
        few,
        more,
      )) (subst (λ (k : ℕ). total_words h k ≤ ver.heap_words) (sym more) total) after,
    ) refl

pub script_again : (end : ℕ) (lines : List (ℕ × List ℕ)) (s : Script) → FitsScript s → map text lines ≡ script_lines s → script_at end lines ≡ Ok s
unfolding script_at heap_at
script_again end [] s fits e = absurd cc
script_again end (first ∷ []) s fits e = absurd cc
script_again end (first ∷ second ∷ lines) s fits e =
    let ver : Version = version_of s.version in
    let usable : IsUsable ver = usable_number s.version in
    let small : ver.segments < 2 ^ 64 = omega (arith, usable.segments) in
    let is_first : first.1 ≡ spaced (version_words s.version) = cc in
    let is_second : second.1 ≡ spaced (heap_words s.config) = cc in
    let after : map text lines ≡ section_lines 0 s.threads = cc in
    let words : tokens_of second.1 ≡ heap_words s.config = ap tokens_of is_second ∙ tokens_of-line (heap_words s.config) (heap_line_words ver.segments small s.config fits.config) in
    let version : version_at end (first ∷ second ∷ lines) ≡ Ok (ver, second ∷ lines) =
    version_again end first (second ∷ lines) s.version fits.version is_first in
    let config : heap_words_at ver (tokens_of second.1) ≡ Ok s.config = ap (heap_words_at ver) words ∙ heap_again ver small s.config fits.config in
    let threads : threads_at ver end s.config lines ≡ Ok s.threads =
    threads_again ver usable end s.config lines s.threads fits.some_thread fits.threads fits.total
    (both_to (Fits s.config.words) (IsOf ver) s.threads fits.commands fits.of_version) after in
    let read : script_at end (first ∷ second ∷ lines) ≡ Ok (numbered ver.number s) = rw (version, config, threads) refl in
    read ∙ ap (λ (n : ℕ). Ok (numbered n s)) (sym fits.version)

-- a script that is read is spelled by the bytes
pub found : (bytes : List ℕ) (r : Result Script ScriptFault) → GivesAt (λ s. s) r (script_at (end_of bytes) (kept_lines bytes)) → IfOk r (λ s. Spells bytes s)
found bytes (Err e) h = tt
found bytes (Ok s) h = let t = script_takes (end_of bytes) (kept_lines bytes) s h in record { lines = t.0; fits = t.1 }

-- bytes that spell a script are read as this script, unless memory runs out
pub only : (bytes : List ℕ) (r : Result Script ScriptFault) (s : Script) → Spells bytes s →
    GivesAt (λ s. s) r (script_at (end_of bytes) (kept_lines bytes)) → MatchResult r (λ read. s ≡ read) (λ fault. fault ≡ script_fault.NoMemory)
only bytes (Ok read) s h g = ok_is {E = ℕ × Cause} s read (sym (script_again (end_of bytes) (kept_lines bytes) s h.fits h.lines) ∙ g)
only bytes (Err script_fault.NoMemory) s h g = refl
only bytes (Err (script_fault.Bad line c)) s h g =
    let read : script_at (end_of bytes) (kept_lines bytes) ≡ Ok s = script_again (end_of bytes) (kept_lines bytes) s h.fits h.lines in cc

-- bytes spell at most one script
pub one_script : (bytes : List ℕ) (a b : Script) → Spells bytes a → Spells bytes b → a ≡ b
one_script bytes a b ha hb =
    let ra : script_at (end_of bytes) (kept_lines bytes) ≡ Ok a = script_again (end_of bytes) (kept_lines bytes) a ha.fits ha.lines in
    let rb : script_at (end_of bytes) (kept_lines bytes) ≡ Ok b = script_again (end_of bytes) (kept_lines bytes) b hb.fits hb.lines in
    ok_is {E = ℕ × Cause} a b (sym ra ∙ rb)

-- FEW COMMANDS

few_onto : (b : ℕ) (parts : List (List ℕ)) (n : ℕ) → length parts ≤ n → length (onto_first b parts) ≤ suc n
few_onto b [] n h = omega arith
few_onto b (p ∷ ps) n h = omega arith

few_lines : (bytes : List ℕ) → length (lines_of bytes) ≤ length bytes
few_lines [] = omega arith
few_lines (b ∷ bytes) = elim (eqb_tells b 10) [
  | inl p ↦ rw p.0 (omega (arith, few_lines bytes))
  | inr p ↦ rw p.0 (few_onto b (lines_of bytes) (length bytes) (few_lines bytes))
]

either : {X : Type 0} (b : Bool) (x y : List X) (n : ℕ) → length x ≤ n → length y ≤ n → length (cond b x y) ≤ n
either true x y n h k = h
either false x y n h k = k

few_kept : (n : ℕ) (lines : List (List ℕ)) → length (kept_from n lines) ≤ length lines
unfolding kept_from
few_kept n [] = omega arith
few_kept n (line ∷ lines) =
    let others = few_kept (n + 1) lines in
    either (is_blank_or_comment line) (kept_from (n + 1) lines) ((n, line) ∷ kept_from (n + 1) lines) (suc (length lines)) (omega arith) (omega arith)

few_commands : (n : ℕ) (threads : List (List Command)) → sum_by (λ program. length program) threads ≤ length (section_lines n threads)
few_commands n [] = omega arith
few_commands n (program ∷ programs) =
    let others = few_commands (n + 1) programs in
    omega (
      arith,
      sum_by-cons (λ (p : List Command). length p) program programs,
      length-append (program_lines program) (section_lines (n + 1) programs),
      length-map program (λ (c : Command). spaced (command_words c)),
    )

-- the number of a script's commands is at most the number of the text's bytes
pub few_of : (bytes : List ℕ) (s : Script) → Spells bytes s → sum_by (λ program. length program) s.threads ≤ length bytes
few_of bytes s h =
    let texts : length (map text (kept_lines bytes)) ≡ length (kept_lines bytes) = length-map (kept_lines bytes) text in
    omega (arith, few_lines bytes, few_kept 1 (lines_of bytes), few_commands 0 s.threads, texts, ap length h.lines)

pub few : (bytes : List ℕ) (r : Result Script ScriptFault) → GivesAt (λ s. s) r (script_at (end_of bytes) (kept_lines bytes)) →
    IfOk r (λ s. sum_by (λ program. length program) s.threads ≤ length bytes)
few bytes (Err e) h = tt
few bytes (Ok s) h = few_of bytes s (found bytes (Ok s) h)
