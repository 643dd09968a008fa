-- Sections are read exactly from their lines.
use Rattle.std.proofs.{Common.◌≡◌, Common.◌≤◌, Common.◌<◌, Common.◌-◌, Common.◌+◌, Common.ℕ, Common.List, Common.[], Common.◌∷◌, Common.◌++◌, Common.map, Common.length, Common.refl, Common.sym, Common.ap, Common.subst, Common.◌∙◌, Common.arith, Common.inl, Common.inr, Common.false, Common.codes, Common.eqb, Common.leb, Common.Result, Common.Ok, Common.Err, lemmas.Bool.le-leb, lemmas.Bool.leb-true, lemmas.Bool.eq-eqb, lemmas.Bool.eqb-true, Math.Nat.mul-le-mul_right, lemmas.Slice.Eq.bytes_eq-Decides}
use Rattle.std.specs.{List.AllByRecursion, Str.bytes_eq}
use Rattle.nmgc_world_spec.specs.declared.command.Command.{Command}
use Rattle.nmgc_io.specs.{Text.tokens_of, Text.spaced, laws.Parts.spaced-tokens_of}
use Rattle.nmgc_script.specs.{declared.fault.Cause.Cause, declared.script.Config.Config, declared.verbs.Verb.Verb, declared.sections.Entry.Entry, declared.version.Version.Version, laws.Versions.IsUsable, Parts.total_words, Parts.verb_name, Spelling.command_words, Parts.section_words, Parts.program_lines, Spelling.section_lines, Reading.◌>>=◌, Reading.number_at, Reading.or_cause, Reading.thread_at, Reading.section_at, Reading.is_section, Reading.entry_at, Reading.command_at, Reading.at_line, Reading.with_entry, Reading.begun_after, Reading.rest_at, laws.Lines.tokens_of-line, laws.Lines.command_line, laws.Lines.section_line_words}
use Rattle.nmgc_script.specs.declared.fault.Cause.TheVariants as cause
use Rattle.nmgc_script.specs.declared.verbs.Verb.TheVariants as verb
use Rattle.nmgc_script.specs.declared.sections.Entry.TheVariants as entry
use Rattle.nmgc_script.proofs.{WordLaws.Reads, WordLaws.bind_ok, WordLaws.guard_ok, WordLaws.ok_is, WordLaws.number_reads, CommandLaws.Fit, CommandLaws.words_read, CommandLaws.command_reads}
use Rattle.nmgc_lists.specs.laws.Truths.{chosen}

pub at_line_ok : {A : Type 0} (n : ℕ) (r : Result A Cause) (x : A) → at_line n r ≡ Ok x → r ≡ Ok x
at_line_ok n (Ok y) x e = ap Ok (ok_is {E = ℕ × Cause} y x e)
at_line_ok n (Err c) x e = absurd cc

pub or_cause_ok : {A : Type 0} (c : Cause) (r : Result A Cause) (x : A) → or_cause c r ≡ Ok x → r ≡ Ok x
or_cause_ok c (Ok y) x e = e
or_cause_ok c (Err d) x e = absurd cc

pub thread_reads : (ver : Version) (usable : IsUsable ver) → Reads (thread_at ver) section_words (λ n. n < ver.threads)
unfolding thread_at
thread_reads ver usable = record { takes = takes; again = again }
  where
    takes : (words : List (List ℕ)) (n : ℕ) → thread_at ver words ≡ Ok n → (words ≡ section_words n) × (n < ver.threads)
    takes [] n e = absurd cc
    takes (name ∷ []) n e = absurd cc
    takes (name ∷ number ∷ other ∷ others) n e = absurd cc
    takes (name ∷ number ∷ []) n e =
        elim (chosen (bytes_eq name (codes "thread")) (or_cause cause.Thread (number_at (ver.threads - 1) number)) (Err cause.Thread) (Ok n) e) [
          | inl p ↦
              let t = (number_reads (ver.threads - 1) (omega (
                arith,
                usable.threads,
              ))).takes number n (or_cause_ok cause.Thread (number_at (ver.threads - 1) number) n p.1) in
              let first : name ≡ codes "thread" = (bytes_eq-Decides name (codes "thread")).0 p.0 in
              (cc (first, t.0), omega (arith, t.1, usable.some_thread))
          | inr p ↦ absurd (let never : Err cause.Thread ≡ Ok n = p.1 in cc)
        ]

    again : (n : ℕ) → n < ver.threads → thread_at ver (section_words n) ≡ Ok n
    again n h = rw ((number_reads (ver.threads - 1) (omega (arith, usable.threads))).again n (omega arith)) refl

-- the section line of thread n, for which the heap has room
abbrev pub Begins : Version → Config → ℕ → List (List ℕ) → Type 0
Begins ver h n words = (words ≡ section_words n) × (n < ver.threads) × (total_words h (n + 1) ≤ ver.heap_words)

pub section_takes : (ver : Version) (usable : IsUsable ver) (h : Config) (n : ℕ) (words : List (List ℕ)) (e : Entry) →
    section_at ver h n words ≡ Ok e → Begins ver h n words × (e ≡ entry.Section)
unfolding section_at
section_takes ver usable h n words e read =
    let b = bind_ok (thread_at ver words) _ e read in
    let t = (thread_reads ver usable).takes words b.0 b.1 in
    elim (chosen (eqb b.0 n) _ (Err cause.Thread) (Ok e) b.2) [
      | inl p ↦
          let g = guard_ok (leb (total_words h (n + 1)) ver.heap_words) cause.Total entry.Section e p.1 in
          let same : b.0 ≡ n = eqb-true b.0 n p.0 in (
            (
              subst (λ (k : ℕ). words ≡ section_words k) same t.0,
              subst (λ (k : ℕ). k < ver.threads) same t.1,
              leb-true (total_words h (n + 1)) ver.heap_words g.0,
            ),
            sym g.1,
          )
      | inr p ↦ absurd (let never : Err cause.Thread ≡ Ok e = p.1 in cc)
    ]

pub section_again : (ver : Version) (usable : IsUsable ver) (h : Config) (n : ℕ) → n < ver.threads → total_words h (n + 1) ≤ ver.heap_words →
    section_at ver h n (section_words n) ≡ Ok entry.Section
unfolding section_at
section_again ver usable h n few total = rw ((thread_reads ver usable).again n few, eq-eqb n n refl, le-leb (total_words h (n + 1)) ver.heap_words total) refl

-- the tokens spell the entry
abbrev EntrySpelled : Version → Config → ℕ → List (List ℕ) → Entry → Type 0
EntrySpelled ver h n words entry.Section = Begins ver h n words
EntrySpelled ver h n words (entry.Command c) = (words ≡ command_words c) × Fit ver h.words c

entry_takes : (ver : Version) (usable : IsUsable ver) (h : Config) (n : ℕ) (words : List (List ℕ)) (e : Entry) → entry_at ver h n words ≡ Ok e →
    EntrySpelled ver h n words e
unfolding entry_at
entry_takes ver usable h n words e read =
    elim (chosen (is_section words) (section_at ver h n words) (command_at ver h.words words >>= λ c. Ok (entry.Command c)) (Ok e) read) [
      | inl p ↦ let t = section_takes ver usable h n words e p.1 in subst (EntrySpelled ver h n words) (sym t.1) t.0
      | inr p ↦
          let b = bind_ok (command_at ver h.words words) _ e p.1 in
          subst (EntrySpelled ver h n words) (ok_is {E = Cause} (entry.Command b.0) e b.2) ((command_reads ver usable h.words).takes words b.0 b.1)
    ]

-- a verb's name doesn't begin a section
verb_apart : (v : Verb) → bytes_eq (verb_name v) (codes "thread") ≡ false
verb_apart verb.Num = refl
verb_apart verb.Nil = refl
verb_apart verb.Mov = refl
verb_apart verb.Con = refl
verb_apart verb.Var = refl
verb_apart verb.Arr = refl
verb_apart verb.Rec = refl
verb_apart verb.Thunk = refl
verb_apart verb.Weak = refl
verb_apart verb.Stack = refl
verb_apart verb.Get = refl
verb_apart verb.Tag = refl
verb_apart verb.Set = refl
verb_apart verb.Cas = refl
verb_apart verb.Update = refl
verb_apart verb.Force = refl
verb_apart verb.Push = refl
verb_apart verb.Pop = refl
verb_apart verb.Deref = refl
verb_apart verb.Finalise = refl
verb_apart verb.NextFin = refl
verb_apart verb.Show = refl
verb_apart verb.Same = refl
verb_apart verb.Yield = refl
verb_apart verb.Collect = refl
verb_apart verb.Full = refl

not_section : (ver : Version) (usable : IsUsable ver) (size : ℕ) (c : Command) → Fit ver size c → is_section (command_words c) ≡ false
not_section ver usable size c fits = let r = words_read ver usable c fits.1.0 fits.0.numbers in ap is_section r.2 ∙ verb_apart r.0

order_again : (ver : Version) (usable : IsUsable ver) (h : Config) (n : ℕ) (c : Command) → Fit ver h.words c →
    entry_at ver h n (command_words c) ≡ Ok (entry.Command c)
unfolding entry_at
order_again ver usable h n c fits = rw (not_section ver usable h.words c fits, (command_reads ver usable h.words).again c fits) refl

begin_again : (ver : Version) (usable : IsUsable ver) (h : Config) (n : ℕ) → n < ver.threads → total_words h (n + 1) ≤ ver.heap_words →
    entry_at ver h n (section_words n) ≡ Ok entry.Section
unfolding entry_at
begin_again ver usable h n few total = section_again ver usable h n few total

-- the line's text
abbrev pub text : ℕ × List ℕ → List ℕ
text line = line.1

-- the lines spell the commands of the section that is read and the programs after it
pub record RestSpelled (ver : Version) (h : Config) (n : ℕ) (lines : List (ℕ × List ℕ)) (p : List Command × List (List Command)) : Type 0 where
  pub lines_are : map text lines ≡ program_lines p.0 ++ section_lines n p.1
  pub first : AllByRecursion (Fit ver h.words) p.0
  pub others : AllByRecursion (AllByRecursion (Fit ver h.words)) p.1
  pub few : n + length p.1 ≤ ver.threads
  pub total : total_words h (n + length p.1) ≤ ver.heap_words

entry_more : (ver : Version) (usable : IsUsable ver) (h : Config) (n : ℕ) (line : ℕ ×
    List ℕ) (lines : List (ℕ × List ℕ)) (e : Entry) (p : List Command × List (List Command)) → EntrySpelled ver h n (tokens_of line.1) e →
    RestSpelled ver h (begun_after e n) lines p → RestSpelled ver h n (line ∷ lines) (with_entry e p)
entry_more ver usable h n line lines entry.Section p s r =
    let more : (n + 1) + length p.1 ≡ n + length (p.0 ∷ p.1) = omega arith in
    let here : line.1 ≡ spaced (section_words n) = sym (spaced-tokens_of line.1) ∙ ap spaced s.0 in
    record {
      lines_are = cc (here, r.lines_are);
      first = tt;
      others = (r.first, r.others);
      few = omega (arith, r.few, more);
      total = subst (λ (k : ℕ). total_words h k ≤ ver.heap_words) more r.total;
    }
entry_more ver usable h n line lines (entry.Command c) p s r =
    let here : line.1 ≡ spaced (command_words c) = sym (spaced-tokens_of line.1) ∙ ap spaced s.0 in
    record {
      lines_are = cc (here, r.lines_are);
      first = (s.1, r.first);
      others = r.others;
      few = r.few;
      total = r.total;
    }

-- after an entry there is still room
room_after : (ver : Version) (usable : IsUsable ver) (h : Config) (n : ℕ) (words : List (List ℕ)) (e : Entry) → EntrySpelled ver h n words e →
    n ≤ ver.threads → total_words h n ≤ ver.heap_words → (begun_after e n ≤ ver.threads) × (total_words h (begun_after e n) ≤ ver.heap_words)
room_after ver usable h n words entry.Section s few total = (omega (arith, s.1), s.2)
room_after ver usable h n words (entry.Command c) s few total = (few, total)

pub rest_takes : (ver : Version) (usable : IsUsable ver) (h : Config) (n : ℕ) (lines : List (ℕ × List ℕ)) (p : List Command × List (List Command)) →
    n ≤ ver.threads → total_words h n ≤ ver.heap_words → rest_at ver h n lines ≡ Ok p → RestSpelled ver h n lines p
unfolding rest_at
rest_takes ver usable h n [] p few total e =
    let none : RestSpelled ver h n [] ([], []) = record {
      lines_are = refl;
      first = tt;
      others = tt;
      few = omega arith;
      total = let same : n ≡ n + 0 = omega arith in subst (λ (k : ℕ). total_words h k ≤ ver.heap_words) same total;
    } in
    subst (RestSpelled ver h n []) (ok_is {E = ℕ × Cause} ([], []) p e) none
rest_takes ver usable h n (line ∷ lines) p few total e =
    let b = bind_ok (at_line line.0 (entry_at ver h n (tokens_of line.1))) _ p e in
    let o = bind_ok (rest_at ver h (begun_after b.0 n) lines) _ p b.2 in
    let spelled = entry_takes ver usable h n (tokens_of line.1) b.0 (at_line_ok line.0 (entry_at ver h n (tokens_of line.1)) b.0 b.1) in
    let room = room_after ver usable h n (tokens_of line.1) b.0 spelled few total in
    let r = rest_takes ver usable h (begun_after b.0 n) lines o.0 room.0 room.1 o.1 in
    subst (RestSpelled ver h n (line ∷ lines)) (ok_is {E = ℕ × Cause} (with_entry b.0 o.0) p o.2) (entry_more ver usable h n line lines b.0 o.0 spelled r)

-- fewer threads have fewer words
pub fewer : (h : Config) (n m limit : ℕ) → n ≤ m → total_words h m ≤ limit → total_words h n ≤ limit
fewer h n m limit le total = omega (arith, mul-le-mul_right h.nursery le)

module _ (ver : Version) (usable : IsUsable ver) (h : Config) where
  pub rest_again : (n : ℕ) (lines : List (ℕ × List ℕ)) (cs : List Command) (ts : List (List Command)) → AllByRecursion (Fit ver h.words) cs →
      AllByRecursion (AllByRecursion (Fit ver h.words)) ts → n + length ts ≤ ver.threads → total_words h (n + length ts) ≤ ver.heap_words →
      map text lines ≡ program_lines cs ++ section_lines n ts → rest_at ver h n lines ≡ Ok (cs, ts)
  unfolding rest_at
  rest_again n [] [] [] fit fits few total e = refl
  rest_again n [] [] (t ∷ ts) fit fits few total e = absurd cc
  rest_again n [] (c ∷ cs) ts fit fits few total e = absurd cc
  rest_again n (line ∷ lines) [] [] fit fits few total e = absurd cc
  rest_again n (line ∷ lines) (c ∷ cs) ts fit fits few total e =
      let here : line.1 ≡ spaced (command_words c) = cc in
      let words : tokens_of line.1 ≡ command_words c = ap tokens_of here ∙ tokens_of-line (command_words c) (command_line h.words c fit.0.0) in
      let read : entry_at ver h n (tokens_of line.1) ≡ Ok (entry.Command c) = ap (entry_at ver h n) words ∙ order_again ver usable h n c fit.0 in
      let after : map text lines ≡ program_lines cs ++ section_lines n ts = cc in
      rw (read, rest_again n lines cs ts fit.1 fits few total after) refl
  rest_again n (line ∷ lines) [] (t ∷ ts) fit fits few total e =
      let more : (n + 1) + length ts ≡ n + length (t ∷ ts) = omega arith in
      let here : line.1 ≡ spaced (section_words n) = cc in
      let lt : n < ver.threads = omega (arith, few, more) in
      let words : tokens_of line.1 ≡ section_words n = ap tokens_of here ∙
      tokens_of-line (section_words n) (section_line_words n (omega (arith, lt, usable.threads))) in
      let room : total_words h (n + 1) ≤ ver.heap_words = fewer h (n + 1) (n + length (t ∷ ts)) ver.heap_words (omega arith) total in
      let read : entry_at ver h n (tokens_of line.1) ≡ Ok entry.Section = ap (entry_at ver h n) words ∙ begin_again ver usable h n lt room in
      let after : map text lines ≡ program_lines t ++ section_lines (n + 1) ts = cc in
      rw (
        read,
        rest_again (n + 1) lines t ts fits.0 fits.1 (omega (
          arith,
          few,
          more,
        )) (subst (λ (k : ℕ). total_words h k ≤ ver.heap_words) (sym more) total) after,
      ) refl
