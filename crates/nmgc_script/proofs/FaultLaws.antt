-- The line and the cause that reading gives are the first bad line and its first cause.
use Rattle.std.proofs.{Common.◌≡◌, Common.◌≢◌, Common.◌≤◌, Common.◌<◌, Common.◌^◌, Common.◌+◌, Common.ℕ, Common.List, Common.[], Common.◌∷◌, Common.length, Common.refl, Common.sym, Common.ap, Common.subst, Common.◌∙◌, Common.arith, Common.inl, Common.inr, Common.Bool, Common.true, Common.false, Common.cond, Common.codes, Common.leb, Common.eqb, Common.Result, Common.Ok, Common.Err, Common.IfErr, lemmas.Bool.leb-false, lemmas.Bool.eq-eqb, lemmas.Bool.eqb-true, lemmas.Slice.Eq.bytes_eq-Decides}
use Rattle.std.specs.Str.{bytes_eq}
use Rattle.nmgc_world_spec.specs.{declared.command.Command.Command, World.HasRegistersBelow, World.HasNumbers, World.words_made}
use Rattle.nmgc_io.specs.{Text.tokens_of, Text.spaced, laws.Parts.spaced-tokens_of}
use Rattle.nmgc_script.specs.{declared.fault.Cause.Cause, declared.fault.ScriptFault.ScriptFault, declared.script.Config.Config, declared.script.Script.Script, declared.version.Version.Version, declared.sections.Entry.Entry, declared.verbs.Verb.Verb, laws.Versions.IsUsable, laws.Versions.usable_version, laws.Versions.registers_wider, Spelling.IsVersion, Spelling.version_1, Spelling.version_2, Spelling.command_words, Spelling.heap_words, Spelling.kept_lines, Spelling.first_of, Spelling.HasArity, Spelling.HasToBegin, Spelling.HasFault, Spelling.order_of, Spelling.IsFirstFault, Spelling.IsFaultless, Spelling.begun_with, Spelling.IsFaultInRest, Spelling.IsFaultFromHeap, Spelling.IsFaultOfText, Spelling.version_3, Parts.total_words, Parts.verb_name, Parts.section_words, Parts.version_words, Parts.end_of, Results.IsFaultOf, Reading.◌>>=◌, Reading.or_cause, Reading.has_verb, Reading.verb_at, Reading.operands_at, Reading.sized, Reading.command_at, Reading.thread_at, Reading.section_at, Reading.is_section, Reading.entry_at, Reading.begun_after, Reading.with_entry, Reading.rest_at, Reading.programs_at, Reading.threads_at, Reading.version_at, Reading.heap_words_at, Reading.numbers_at, Reading.heap_at, Reading.script_at, Reading.at_line, Reading.GivesAt, laws.Lines.tokens_of-line, laws.Lines.heap_line_words, laws.Lines.first_line, laws.Lines.second_line, laws.Lines.third_line}
use Rattle.nmgc_script.specs.declared.fault.Cause.TheVariants as cause
use Rattle.nmgc_script.specs.declared.fault.ScriptFault.TheVariants as script_fault
use Rattle.nmgc_script.specs.declared.sections.Entry.TheVariants as entry
use Rattle.nmgc_script.proofs.{WordLaws.FailsBy, WordLaws.fails_choose, WordLaws.bind_ok, WordLaws.ok_is, VerbLaws.verb_takes, VerbLaws.verb_since, VerbLaws.verb_again, VerbLaws.verb_fails, VerbLaws.verb_of_nothing, CommandLaws.Spell, CommandLaws.operands_spell, CommandLaws.sized_takes, CommandLaws.command_again, CauseLaws.result_cases, CauseLaws.fails_is, CauseLaws.HasCount, CauseLaws.CausesArity, CauseLaws.operands_cause, ArityLaws.named_command, ArityLaws.since_verb, ArityLaws.since_command, ArityLaws.named_verb, ArityLaws.right_of, ArityLaws.count_of, ArityLaws.count_some, ConfigLaws.heap_takes, ConfigLaws.heap_again, SectionLaws.at_line_ok, SectionLaws.thread_reads, SectionLaws.Begins, SectionLaws.section_takes}
use Rattle.nmgc_lists.specs.laws.Truths.{chosen}

-- the same reading can't give two results
two_results : {A E : Type 0} (r : Result A E) (a : A) (e : E) → r ≡ Ok a → r ≡ Err e → ⊥
two_results r a e is not = absurd (let never : Ok a ≡ Err e = sym is ∙ not in cc)

-- a reading whose first step doesn't fail continues with the second step
goes_to : {A B E : Type 0} (r : Result A E) (f : A → Result B E) (a : A) → r ≡ Ok a → (r >>= f) ≡ f a
goes_to r f a is = rw is refl

stops_at : {A B E : Type 0} (r : Result A E) (f : A → Result B E) (e : E) → r ≡ Err e → (r >>= f) ≡ Err e
stops_at r f e is = rw is refl

err_is : {A E : Type 0} (d e : E) → ◌≡◌ {A = Result A E} (Err d) (Err e) → d ≡ e
err_is d e h = cc

err_map : {A B E : Type 0} (r : Result A E) (f : A → B) (e : E) → (r >>= λ a. Ok (f a)) ≡ Err e → r ≡ Err e
err_map {A} {B} (Ok a) f e h = absurd cc
err_map {A} {B} (Err d) f e h = ap Err (err_is {A = B} d e h)

or_cause_fails : {A : Type 0} (c : Cause) (r : Result A Cause) → FailsBy c (or_cause c r)
or_cause_fails c (Ok a) = tt
or_cause_fails c (Err e) = refl

thread_fails : (ver : Version) (usable : IsUsable ver) (words : List (List ℕ)) → FailsBy cause.Thread (thread_at ver words)
unfolding thread_at
thread_fails ver usable [] = refl
thread_fails ver usable (name ∷ []) = refl
thread_fails ver usable (name ∷ number ∷ other ∷ others) = refl
thread_fails ver usable (name ∷ number ∷ []) =
    fails_choose cause.Thread (bytes_eq name (codes "thread")) (or_cause cause.Thread _) (Err cause.Thread) (or_cause_fails cause.Thread _) refl

heap_fails : (v : Version) (words : List (List ℕ)) → FailsBy cause.Heap (heap_words_at v words)
unfolding heap_words_at
heap_fails v [] = refl
heap_fails v (name ∷ words) =
    fails_choose cause.Heap (bytes_eq name (codes "heap")) (or_cause cause.Heap (numbers_at v words)) (Err cause.Heap)
    (or_cause_fails cause.Heap (numbers_at v words)) refl

-- THE LINE OF A COMMAND

-- tokens are read as the verb and the tokens after its name
read_as : (ver : Version) (usable : IsUsable ver) (size : ℕ) (name : List ℕ) (words : List (List ℕ)) (v : Verb) → verb_at ver name ≡ Ok v →
    command_at ver size (name ∷ words) ≡ (operands_at ver v words >>= λ c. sized size c)
unfolding command_at
read_as ver usable size name words v is = rw is refl

-- tokens that spell a command within the limits of registers and numbers are read as this command, before its size is checked
read_operands : (ver : Version) (usable : IsUsable ver) (name : List ℕ) (words : List (List ℕ)) (v : Verb) (c : Command) → verb_at ver name ≡ Ok v →
    HasRegistersBelow ver.registers c → HasNumbers c → name ∷ words ≡ command_words c → operands_at ver v words ≡ Ok c
read_operands ver usable name words v c is registers numbers same =
    let whole : command_at ver (words_made c) (name ∷ words) ≡ Ok c = ap (command_at ver (words_made c)) same ∙
    command_again ver usable (words_made c) c (
      record { registers = registers_wider ver.registers usable.registers c registers; numbers = numbers; size = omega arith },
      (registers, verb_since ver v c (verb_takes ver name v is).1 (sym (verb_takes ver name v is).0 ∙ ap first_of same)),
    ) in
    let b = bind_ok (operands_at ver v words) (λ k. sized (words_made c) k) c (sym (read_as ver usable (words_made c) name words v is) ∙ whole) in
    let s = sized_takes (words_made c) b.0 c b.2 in
    b.1 ∙ ap Ok s.0

sized_fails : (size : ℕ) (c : Command) (e : Cause) → sized size c ≡ Err e → (e ≡ cause.Size) × (size < words_made c)
unfolding sized
sized_fails size c e is = elim (chosen (leb (words_made c) size) (Ok c) (Err cause.Size) (Err e) is) [
  | inl p ↦ absurd (let never : Ok c ≡ Err e = p.1 in cc)
  | inr p ↦ (sym (err_is {A = Command} cause.Size e p.1), leb-false (words_made c) size p.0)
]

module _ (ver : Version) (usable : IsUsable ver) (h : Config) (n : ℕ) where
  -- a name that no verb has
  command_fault : (words : List (List ℕ)) → (HasToBegin n words → ⊥) → ((v : Verb) → has_verb ver v ≡ true → first_of words ≢ verb_name v) →
      IsFirstFault ver h n words cause.Command
  command_fault words apart no_verb = record { here = (apart, λ c since same. let v = named_verb c in no_verb v.0 (since_verb ver c since) (same ∙ v.1)); none_before = before }
    where
      before : (e : Cause) → order_of e < 4 → HasFault ver h n words e → ⊥
      before cause.Version lt f = f
      before cause.Heap lt f = f
      before cause.Thread lt f = apart f.0
      before cause.Total lt f = apart f.0
      before cause.Command lt f = absurd (omega arith)
      before cause.Arity lt f = absurd (omega arith)
      before cause.Operand lt f = absurd (omega arith)
      before cause.Size lt f = absurd (omega arith)

  arity_fault : (name : List ℕ) (words : List (List ℕ)) (v : Verb) → (HasToBegin n (name ∷ words) → ⊥) → has_verb ver v ≡ true → name ≡ verb_name v →
      (HasCount v (length (name ∷ words)) → ⊥) → IsFirstFault ver h n (name ∷ words) cause.Arity
  arity_fault name words v apart has is wrong = record {
    here = (
      apart,
      (let c = named_command v in (c.0, is ∙ c.1)),
      λ some. wrong (subst (λ (k : ℕ). HasCount v k) some.4 (count_of ver usable v some.0 some.1 some.2 (some.3 ∙ is))),
    );
    none_before = before;
  }
    where
      before : (e : Cause) → order_of e < 5 → HasFault ver h n (name ∷ words) e → ⊥
      before cause.Version lt f = f
      before cause.Heap lt f = f
      before cause.Thread lt f = apart f.0
      before cause.Total lt f = apart f.0
      before cause.Command lt f = let c = named_command v in f.1 c.0 (since_command ver v has) (is ∙ c.1)
      before cause.Arity lt f = absurd (omega arith)
      before cause.Operand lt f = absurd (omega arith)
      before cause.Size lt f = absurd (omega arith)

  -- a command of the name has this number of tokens
  right_arity : (name : List ℕ) (words : List (List ℕ)) (v : Verb) → verb_at ver name ≡ Ok v → HasCount v (length (name ∷ words)) →
      HasArity ver name (length (name ∷ words))
  right_arity name words v is right = subst (λ (k : List ℕ). HasArity ver k (length (name ∷
      words))) (sym (verb_takes ver name v is).0) (count_some ver usable v (length (name ∷ words)) right)

  operand_fault : (name : List ℕ) (words : List (List ℕ)) (v : Verb) → (HasToBegin n (name ∷ words) → ⊥) → verb_at ver name ≡ Ok v →
      HasCount v (length (name ∷ words)) → operands_at ver v words ≡ Err cause.Operand → IsFirstFault ver h n (name ∷ words) cause.Operand
  operand_fault name words v apart is right bad = record {
    here = (
      apart,
      λ c registers numbers same.
          two_results (operands_at ver v words) c cause.Operand (read_operands ver usable name words v c is registers numbers same) bad,
    );
    none_before = before;
  }
    where
      before : (e : Cause) → order_of e < 6 → HasFault ver h n (name ∷ words) e → ⊥
      before cause.Version lt f = f
      before cause.Heap lt f = f
      before cause.Thread lt f = apart f.0
      before cause.Total lt f = apart f.0
      before cause.Command lt f = let c = named_command v in f.1 c.0 (since_command ver v (verb_takes ver name v is).1) ((verb_takes ver name v is).0 ∙ c.1)
      before cause.Arity lt f = f.2 (right_arity name words v is right)
      before cause.Operand lt f = absurd (omega arith)
      before cause.Size lt f = absurd (omega arith)

  size_fault : (name : List ℕ) (words : List (List ℕ)) (v : Verb) (c : Command) → (HasToBegin n (name ∷ words) → ⊥) → verb_at ver name ≡ Ok v →
      HasCount v (length (name ∷ words)) → HasRegistersBelow ver.registers c → HasNumbers c → name ∷ words ≡ command_words c →
      h.words < words_made c → IsFirstFault ver h n (name ∷ words) cause.Size
  size_fault name words v c apart is right registers numbers same large = record { here = (apart, (c, registers, numbers, same, large)); none_before = before }
    where
      before : (e : Cause) → order_of e < 7 → HasFault ver h n (name ∷ words) e → ⊥
      before cause.Version lt f = f
      before cause.Heap lt f = f
      before cause.Thread lt f = apart f.0
      before cause.Total lt f = apart f.0
      before cause.Command lt f = let c = named_command v in f.1 c.0 (since_command ver v (verb_takes ver name v is).1) ((verb_takes ver name v is).0 ∙ c.1)
      before cause.Arity lt f = f.2 (right_arity name words v is right)
      before cause.Operand lt f = f.1 c registers numbers same
      before cause.Size lt f = absurd (omega arith)

  arity_or_operand : (name : List ℕ) (words : List (List ℕ)) (v : Verb) (e : Cause) (r : Result Command Cause) → r ≡ operands_at ver v words →
      (HasToBegin n (name ∷ words) → ⊥) → verb_at ver name ≡ Ok v → CausesArity r (HasCount v (length (name ∷ words))) → r ≡ Err e →
      IsFirstFault ver h n (name ∷ words) e
  arity_or_operand name words v e (Ok c) same apart is agrees bad = absurd cc
  arity_or_operand name words v e (Err d) same apart is agrees bad = elim agrees [
    | inl p ↦ subst (IsFirstFault ver h n (name ∷ words)) (sym p.0 ∙ err_is {A = Command} d e bad) (arity_fault name words v apart (verb_takes ver name v is).1 (verb_takes ver name v is).0 p.1)
    | inr p ↦ subst (IsFirstFault ver h n (name ∷ words)) (sym p.0 ∙
        err_is {A = Command} d e bad) (operand_fault name words v apart is p.1 (sym same ∙ ap Err p.0))
  ]

  pub command_known : (words : List (List ℕ)) (e : Cause) → (HasToBegin n words → ⊥) → command_at ver h.words words ≡ Err e → IsFirstFault ver h n words e
  unfolding command_at
  command_known [] e apart bad =
      subst (IsFirstFault ver h n []) (err_is {A = Command} cause.Command e bad) (command_fault [] apart (λ v has is.
      two_results (verb_at ver []) v cause.Command (ap (verb_at ver) is ∙ verb_again ver v has) (verb_of_nothing ver)))
  command_known (name ∷ words) e apart bad =
      elim (result_cases (verb_at ver name)) [
        | inr p ↦
            let is_command : p.0 ≡ cause.Command = fails_is cause.Command p.0 (verb_at ver name) (verb_fails ver name) p.1 in
            let stops : command_at ver h.words (name ∷ words) ≡ Err p.0 = stops_at (verb_at ver name) _ p.0 p.1 in
            let same : p.0 ≡ e = err_is {A = Command} p.0 e (sym stops ∙ bad) in
            subst (IsFirstFault ver h n (name ∷ words)) (sym is_command ∙
            same) (command_fault (name ∷ words) apart (λ v has is. two_results (verb_at ver name) v p.0 (ap (verb_at ver) is ∙ verb_again ver v has) p.1))
        | inl v ↦
            let goes : command_at ver h.words (name ∷ words) ≡ (operands_at ver v.0 words >>= λ c. sized h.words c) =
            read_as ver usable h.words name words v.0 v.1 in
            let agrees = operands_cause ver usable v.0 name words in
            elim (result_cases (operands_at ver v.0 words)) [
              | inr p ↦
                  let same : p.0 ≡ e = err_is {A = Command} p.0 e (sym (stops_at (operands_at ver v.0 words) (λ c. sized h.words c) p.0 p.1) ∙
                  sym goes ∙ bad) in
                  subst (IsFirstFault ver h n (name ∷ words)) same (arity_or_operand name words v.0 p.0 (operands_at ver v.0 words) refl apart v.1 agrees p.1)
              | inl c ↦
                  let size = sized_fails h.words c.0 e (sym (goes_to (operands_at ver v.0 words) (λ k. sized h.words k) c.0 c.1) ∙ sym goes ∙ bad) in
                  let spelled = operands_spell ver usable v.0 words c.0 c.1 in
                  let same : name ∷ words ≡ command_words c.0 = ap (λ (w : List ℕ). w ∷ words) (verb_takes ver name v.0 v.1).0 ∙ spelled.0 in
                  subst (IsFirstFault ver h n (name ∷
                  words)) (sym size.0) (size_fault name words v.0 c.0 apart v.1 (right_of (HasCount v.0 (length (name ∷
                  words))) c.0 (operands_at ver v.0 words) c.1 agrees) spelled.1 spelled.2 same size.1)
            ]
      ]

  -- a command that is read has no fault
  pub command_faultless : (words : List (List ℕ)) (c : Command) → (HasToBegin n words → ⊥) → command_at ver h.words words ≡ Ok c → IsFaultless ver h n words
  unfolding command_at
  command_faultless [] c apart good = absurd cc
  command_faultless (name ∷ words) c apart good = faultless
    where
      v : (k : Verb) × (verb_at ver name ≡ Ok k) × ((operands_at ver k words >>= λ d. sized h.words d) ≡ Ok c)
      v = bind_ok (verb_at ver name) _ c good

      o : (d : Command) × (operands_at ver v.0 words ≡ Ok d) × (sized h.words d ≡ Ok c)
      o = bind_ok (operands_at ver v.0 words) (λ d. sized h.words d) c v.2

      s : (o.0 ≡ c) × (words_made c ≤ h.words)
      s = sized_takes h.words o.0 c o.2

      read : operands_at ver v.0 words ≡ Ok c
      read = o.1 ∙ ap Ok s.0

      spelled : Spell ver (verb_name v.0) words c
      spelled = operands_spell ver usable v.0 words c read

      named : name ≡ verb_name v.0
      named = (verb_takes ver name v.0 v.1).0

      right : HasCount v.0 (length (name ∷ words))
      right = right_of (HasCount v.0 (length (name ∷ words))) c (operands_at ver v.0 words) read (operands_cause ver usable v.0 name words)

      faultless : (e : Cause) → HasFault ver h n (name ∷ words) e → ⊥
      faultless cause.Version f = f
      faultless cause.Heap f = f
      faultless cause.Thread f = apart f.0
      faultless cause.Total f = apart f.0
      faultless cause.Command f = let k = named_command v.0 in f.1 k.0 (since_command ver v.0 (verb_takes ver name v.0 v.1).1) (named ∙ k.1)
      faultless cause.Arity f = f.2 (right_arity name words v.0 v.1 right)
      faultless cause.Operand f = f.1 c spelled.1 spelled.2 (ap (λ (w : List ℕ). w ∷ words) named ∙ spelled.0)
      faultless cause.Size f =
          let other : operands_at ver v.0 words ≡ Ok f.1.0 = read_operands ver usable name words v.0 f.1.0 v.1 f.1.1 f.1.2 f.1.3 in
          let same : c ≡ f.1.0 = ok_is {E = Cause} c f.1.0 (sym read ∙ other) in
          let large : h.words < words_made c = subst (λ (k : Command). h.words < words_made k) (sym same) f.1.4 in
          absurd (omega (arith, s.1, large))

  -- A LINE THAT HAS TO BEGIN A SECTION

  thread_fault : (words : List (List ℕ)) → HasToBegin n words → (n < ver.threads → words ≢ section_words n) → IsFirstFault ver h n words cause.Thread
  thread_fault words begins wrong = record { here = (begins, wrong); none_before = before }
    where
      before : (e : Cause) → order_of e < 2 → HasFault ver h n words e → ⊥
      before cause.Version lt f = f
      before cause.Heap lt f = f
      before cause.Thread lt f = absurd (omega arith)
      before cause.Total lt f = absurd (omega arith)
      before cause.Command lt f = absurd (omega arith)
      before cause.Arity lt f = absurd (omega arith)
      before cause.Operand lt f = absurd (omega arith)
      before cause.Size lt f = absurd (omega arith)

  total_fault : (words : List (List ℕ)) → HasToBegin n words → n < ver.threads → words ≡ section_words n → ver.heap_words < total_words h (n + 1) →
      IsFirstFault ver h n words cause.Total
  total_fault words begins few same large = record { here = (begins, large); none_before = before }
    where
      before : (e : Cause) → order_of e < 3 → HasFault ver h n words e → ⊥
      before cause.Version lt f = f
      before cause.Heap lt f = f
      before cause.Thread lt f = f.1 few same
      before cause.Total lt f = absurd (omega arith)
      before cause.Command lt f = absurd (omega arith)
      before cause.Arity lt f = absurd (omega arith)
      before cause.Operand lt f = absurd (omega arith)
      before cause.Size lt f = absurd (omega arith)

  pub section_faultless : (words : List (List ℕ)) → HasToBegin n words → Begins ver h n words → IsFaultless ver h n words
  section_faultless words begins good cause.Version f = f
  section_faultless words begins good cause.Heap f = f
  section_faultless words begins good cause.Thread f = f.1 good.1 good.0
  section_faultless words begins good cause.Total f = absurd (omega (arith, good.2, f.1))
  section_faultless words begins good cause.Command f = f.0 begins
  section_faultless words begins good cause.Arity f = f.0 begins
  section_faultless words begins good cause.Operand f = f.0 begins
  section_faultless words begins good cause.Size f = f.0 begins

  section_fault : (words : List (List ℕ)) (e : Cause) → HasToBegin n words → section_at ver h n words ≡ Err e → IsFirstFault ver h n words e
  unfolding section_at
  section_fault words e begins bad =
      elim (result_cases (thread_at ver words)) [
        | inr p ↦
            let is_thread : p.0 ≡ cause.Thread = fails_is cause.Thread p.0 (thread_at ver words) (thread_fails ver usable words) p.1 in
            let stops : section_at ver h n words ≡ Err p.0 = stops_at (thread_at ver words) _ p.0 p.1 in
            let same : p.0 ≡ e = err_is {A = Entry} p.0 e (sym stops ∙ bad) in
            subst (IsFirstFault ver h n words) (sym is_thread ∙
            same) (thread_fault words begins (λ few is. two_results (thread_at ver words) n p.0 (ap (thread_at ver) is ∙
            (thread_reads ver usable).again n few) p.1))
        | inl t ↦
            let rest : Result Entry Cause = cond (leb (total_words h (n + 1)) ver.heap_words) (Ok entry.Section) (Err cause.Total) in
            let goes : section_at ver h n words ≡ cond (eqb t.0 n) rest (Err cause.Thread) = goes_to (thread_at ver words) _ t.0 t.1 in
            elim (chosen (eqb t.0 n) rest (Err cause.Thread) (Err e) (sym goes ∙ bad)) [
              | inr p ↦ subst (IsFirstFault ver h n words) (err_is {A = Entry} cause.Thread e p.1) (thread_fault words begins (λ few is.
                  let read : Ok t.0 ≡ Ok n = sym t.1 ∙ ap (thread_at ver) is ∙ (thread_reads ver usable).again n few in
                  let same : eqb t.0 n ≡ true = eq-eqb t.0 n (ok_is {E = Cause} t.0 n read) in
                  absurd (let never : false ≡ true = sym p.0 ∙ same in cc)))
              | inl p ↦
                  let same : t.0 ≡ n = eqb-true t.0 n p.0 in
                  let takes = (thread_reads ver usable).takes words t.0 t.1 in
                  elim (chosen (leb (total_words h (n + 1)) ver.heap_words) (Ok entry.Section) (Err cause.Total) (Err e) p.1) [
                    | inl q ↦ absurd (let never : Ok entry.Section ≡ Err e = q.1 in cc)
                    | inr q ↦ subst (IsFirstFault ver h n words) (err_is {A =
                        Entry} cause.Total e q.1) (total_fault words begins (subst (λ (k : ℕ). k < ver.threads) same takes.1) (subst (λ (k : ℕ).
                        words ≡ section_words k) same takes.0) (leb-false (total_words h (n + 1)) ver.heap_words q.0))
                  ]
            ]
      ]

  -- A LINE AFTER THE FIRST SECTION LINE

  begins_of : (words : List (List ℕ)) → is_section words ≡ true → HasToBegin n words
  begins_of [] e = absurd cc
  begins_of (name ∷ words) e = inl ((bytes_eq-Decides name (codes "thread")).0 e)

  apart_of : (words : List (List ℕ)) → n ≢ 0 → is_section words ≡ false → HasToBegin n words → ⊥
  apart_of words some e (inr none) = some none
  apart_of [] some e (inl same) = absurd cc
  apart_of (name ∷ words) some e (inl same) = absurd (let never : false ≡ true = sym e ∙ (bytes_eq-Decides name (codes "thread")).1 same in cc)

  entry_fault : (words : List (List ℕ)) (e : Cause) → n ≢ 0 → entry_at ver h n words ≡ Err e → IsFirstFault ver h n words e
  unfolding entry_at
  entry_fault words e some bad =
      elim (chosen (is_section words) (section_at ver h n words) (command_at ver h.words words >>= λ c. Ok (entry.Command c)) (Err e) bad) [
        | inl p ↦ section_fault words e (begins_of words p.0) p.1
        | inr p ↦ command_known words e (apart_of words some p.0) (err_map (command_at ver h.words words) (λ c. entry.Command c) e p.1)
      ]

  begun_is : (words : List (List ℕ)) (b : Bool) → is_section words ≡ b → begun_with n words ≡ cond b (n + 1) n
  begun_is [] b e = rw (← e) refl
  begun_is (name ∷ words) b e = rw e refl

  pub entry_good : (words : List (List ℕ)) (x : Entry) → n ≢ 0 → entry_at ver h n words ≡ Ok x → IsFaultless ver h n words ×
      (begun_with n words ≡ begun_after x n)
  unfolding entry_at
  entry_good words x some good =
      elim (chosen (is_section words) (section_at ver h n words) (command_at ver h.words words >>= λ c. Ok (entry.Command c)) (Ok x) good) [
        | inl p ↦
            let t = section_takes ver usable h n words x p.1 in
            (section_faultless words (begins_of words p.0) t.0, begun_is words true p.0 ∙ ap (λ (y : Entry). begun_after y n) (sym t.1))
        | inr p ↦
            let b = bind_ok (command_at ver h.words words) (λ c. Ok (entry.Command c)) x p.1 in (
              command_faultless words b.0 (apart_of words some p.0) b.1,
              begun_is words false p.0 ∙
                  ap (λ (y : Entry). begun_after y n) (ok_is {E = Cause} (entry.Command b.0) x b.2),
            )
      ]

-- WHOLE TEXTS

at_line_err : {A : Type 0} (n : ℕ) (r : Result A Cause) (number : ℕ) (c : Cause) → at_line n r ≡ Err (number, c) → (number ≡ n) × (r ≡ Err c)
at_line_err {A} n (Ok y) number c e = absurd cc
at_line_err {A} n (Err d) number c e = let same : ◌≡◌ {A = ℕ × Cause} (n, d) (number, c) = err_is {A = A} (n, d) (number, c) e in
    (sym (ap (λ (p : ℕ × Cause). p.0) same), ap (λ (p : ℕ × Cause). Err p.1) same)

err_of : {A B : Type 0} (r : Result A (ℕ × Cause)) (f : A → Result B (ℕ × Cause)) (number : ℕ) (c : Cause) → ((a : A) → f a ≡ Err (number, c) → ⊥) →
    (r >>= f) ≡ Err (number, c) → r ≡ Err (number, c)
err_of {A} {B} (Ok a) f number c never e = absurd (never a e)
err_of {A} {B} (Err d) f number c never e = ap Err (err_is {A = B} d (number, c) e)

pub some_after : (x : Entry) (n : ℕ) → n ≢ 0 → begun_after x n ≢ 0
some_after entry.Section n some = λ e. omega arith
some_after (entry.Command c) n some = some

rest_fault : (ver : Version) (usable : IsUsable ver) (h : Config) (end n : ℕ) (lines : List (ℕ × List ℕ)) (number : ℕ) (c : Cause) → n ≢ 0 →
    rest_at ver h n lines ≡ Err (number, c) → IsFaultInRest ver h n end lines number c
unfolding rest_at
rest_fault ver usable h end n [] number c some bad = absurd cc
rest_fault ver usable h end n (line ∷ lines) number c some bad =
    let words = tokens_of line.1 in
    elim (result_cases (at_line line.0 (entry_at ver h n words))) [
      | inr p ↦
          let stops : rest_at ver h n (line ∷ lines) ≡ Err p.0 = stops_at (at_line line.0 (entry_at ver h n words)) _ p.0 p.1 in
          let same : p.0 ≡ (number, c) = err_is {A = List Command × List (List Command)} p.0 (number, c) (sym stops ∙ bad) in
          let at = at_line_err line.0 (entry_at ver h n words) number c (p.1 ∙ ap Err same) in
          inl (at.0, entry_fault ver usable h n words c some at.1)
      | inl x ↦
          let good = entry_good ver usable h n words x.0 some (at_line_ok line.0 (entry_at ver h n words) x.0 x.1) in
          let goes : rest_at ver h n (line ∷ lines) ≡ (rest_at ver h (begun_after x.0 n) lines >>= λ others. Ok (with_entry x.0 others)) =
          goes_to (at_line line.0 (entry_at ver h n words)) _ x.0 x.1 in
          let later = rest_fault ver usable h end (begun_after x.0 n) lines number c (some_after x.0 n some)
          (err_of (rest_at ver h (begun_after x.0 n) lines) _ number c (λ a e. absurd cc) (sym goes ∙ bad)) in
          inr (good.0, subst (λ (k : ℕ). IsFaultInRest ver h k end lines number c) (sym good.1) later)
    ]

threads_fault : (ver : Version) (usable : IsUsable ver) (h : Config) (end : ℕ) (lines : List (ℕ × List ℕ)) (number : ℕ) (c : Cause) →
    threads_at ver end h lines ≡ Err (number, c) → IsFaultInRest ver h 0 end lines number c
unfolding threads_at programs_at
threads_fault ver usable h end [] number c bad =
    let same : ◌≡◌ {A = ℕ × Cause} (end, cause.Thread) (number, c) = err_is {A = List (List Command)} (end, cause.Thread) (number, c) bad in
    (refl, sym (ap (λ (p : ℕ × Cause). p.0) same), sym (ap (λ (p : ℕ × Cause). p.1) same))
threads_fault ver usable h end (line ∷ lines) number c bad =
    let words = tokens_of line.1 in
    elim (result_cases (at_line line.0 (section_at ver h 0 words))) [
      | inr p ↦
          let stops : threads_at ver end h (line ∷ lines) ≡ Err p.0 = stops_at (at_line line.0 (section_at ver h 0 words)) _ p.0 p.1 in
          let same : p.0 ≡ (number, c) = err_is {A = List (List Command)} p.0 (number, c) (sym stops ∙ bad) in
          let at = at_line_err line.0 (section_at ver h 0 words) number c (p.1 ∙ ap Err same) in
          inl (at.0, section_fault ver usable h 0 words c (inr refl) at.1)
      | inl x ↦
          let good = section_takes ver usable h 0 words x.0 (at_line_ok line.0 (section_at ver h 0 words) x.0 x.1) in
          let goes : threads_at ver end h (line ∷ lines) ≡ programs_at ver h lines = goes_to (at_line line.0 (section_at ver h 0 words)) _ x.0 x.1 in
          let later = rest_fault ver usable h end 1 lines number c (λ e.
          omega arith) (err_of (rest_at ver h 1 lines) _ number c (λ a e. absurd cc) (sym goes ∙ bad)) in
          let begun : 1 ≡ begun_with 0 words = sym (ap (begun_with 0) good.0.0) in
          inr (section_faultless ver usable h 0 words (inr refl) good.0, subst (λ (k : ℕ). IsFaultInRest ver h k end lines number c) begun later)
    ]

heap_fault : (ver : Version) (usable : IsUsable ver) (end : ℕ) (lines : List (ℕ × List ℕ)) (number : ℕ) (c : Cause) →
    (heap_at ver end lines >>= λ p. threads_at ver end p.0 p.1) ≡ Err (number, c) → IsFaultFromHeap ver end lines number c
unfolding heap_at
heap_fault ver usable end [] number c bad =
    let same : ◌≡◌ {A = ℕ × Cause} (end, cause.Heap) (number, c) = err_is {A = List (List Command)} (end, cause.Heap) (number, c) bad in
    (sym (ap (λ (p : ℕ × Cause). p.0) same), sym (ap (λ (p : ℕ × Cause). p.1) same))
heap_fault ver usable end (line ∷ lines) number c bad =
    let words = tokens_of line.1 in
    let few : ver.segments < 2 ^ 64 = omega (arith, usable.segments) in
    elim (result_cases (heap_words_at ver words)) [
      | inr p ↦
          let is_heap : p.0 ≡ cause.Heap = fails_is cause.Heap p.0 (heap_words_at ver words) (heap_fails ver words) p.1 in
          let stops : (heap_at ver end (line ∷ lines) >>= λ q. threads_at ver end q.0 q.1) ≡ Err (line.0, p.0) = rw p.1 refl in
          let same : ◌≡◌ {A = ℕ × Cause} (line.0, p.0) (number, c) = err_is {A = List (List Command)} (line.0, p.0) (number, c) (sym stops ∙ bad) in
          inl (
            sym (ap (λ (q : ℕ × Cause). q.0) same),
            sym (ap (λ (q : ℕ × Cause). q.1) same) ∙ is_heap,
            λ h fits is. two_results (heap_words_at ver words) h p.0 (ap (λ (l : List ℕ). heap_words_at ver (tokens_of l)) is ∙
                ap (heap_words_at ver) (tokens_of-line (heap_words h) (heap_line_words ver.segments few h fits)) ∙ heap_again ver few h fits) p.1,
          )
      | inl h ↦
          let t = heap_takes ver few words h.0 h.1 in
          let goes : (heap_at ver end (line ∷ lines) >>= λ q. threads_at ver end q.0 q.1) ≡ threads_at ver end h.0 lines = rw h.1 refl in
          inr (h.0, t.1, sym (spaced-tokens_of line.1) ∙ ap spaced t.0, threads_fault ver usable h.0 end lines number c (sym goes ∙ bad))
    ]

err_inner : {A B C E : Type 0} (r : Result A E) (f : A → Result B E) (g : A → B → C) (e : E) → (r >>= λ a. f a >>= λ b. Ok (g a b)) ≡ Err e → (r >>= f) ≡ Err e
err_inner (Ok a) f g e h = err_map (f a) (g a) e h
err_inner {A} {B} {C} (Err d) f g e h = ap Err (err_is {A = C} d e h)

-- a version, and the lines after its line
abbrev versioned : Version → List (ℕ × List ℕ) → Result (Version × List (ℕ × List ℕ)) (ℕ × Cause)
versioned ver lines = Ok (ver, lines)

-- the rest of the script, read after the version line
abbrev script_after : ℕ → Version × List (ℕ × List ℕ) → Result Script (ℕ × Cause)
script_after end v = heap_at v.0 end v.1 >>= λ heap. threads_at v.0 end heap.0 heap.1 >>= λ threads.
    Ok (let made : Script = record { version = v.0.number; config = heap.0; threads = threads } in made)

version_fault : (ver : Version) → IsVersion ver → (end : ℕ) (line : ℕ × List ℕ) (lines : List (ℕ × List ℕ)) (number : ℕ) (c : Cause) →
    line.1 ≡ spaced (version_words ver.number) → script_after end (ver, lines) ≡ Err (number, c) → IsFaultOfText end (line ∷ lines) number c
version_fault ver known end line lines number c is h = inr (
  ver,
  known,
  is,
  heap_fault ver (usable_version ver known) end lines number c (err_inner (heap_at ver end lines) (λ heap.
      threads_at ver end heap.0 heap.1) (λ heap threads. let made : Script = record { version = ver.number; config = heap.0; threads = threads } in
      made) (number, c) h),
)

script_fault_is : (end : ℕ) (lines : List (ℕ × List ℕ)) (number : ℕ) (c : Cause) → script_at end lines ≡ Err (number, c) → IsFaultOfText end lines number c
unfolding script_at version_at
script_fault_is end [] number c bad =
    let same : ◌≡◌ {A = ℕ × Cause} (end, cause.Version) (number, c) = err_is {A = Script} (end, cause.Version) (number, c) bad in
    (sym (ap (λ (p : ℕ × Cause). p.0) same), sym (ap (λ (p : ℕ × Cause). p.1) same))
script_fault_is end (line ∷ lines) number c bad =
    go (bytes_eq line.1 (codes "nmgc 1")) (bytes_eq line.1 (codes "nmgc 2")) (bytes_eq line.1 (codes "nmgc 3")) refl refl refl bad
  where
    -- the line differs from a version's line
    differs : (text : List ℕ) → bytes_eq line.1 text ≡ false → line.1 ≡ text → ⊥
    differs text is other = absurd (let never : false ≡ true = sym is ∙ (bytes_eq-Decides line.1 text).1 other in cc)

    no_version : bytes_eq line.1 (codes "nmgc 1") ≡ false → bytes_eq line.1 (codes "nmgc 2") ≡ false → bytes_eq line.1 (codes "nmgc 3") ≡ false →
        (v : Version) → IsVersion v → line.1 ≢ spaced (version_words v.number)
    no_version is also too v (inl e) other = differs (codes "nmgc 1") is (other ∙ ap (λ (w : Version). spaced (version_words w.number)) e ∙ first_line)
    no_version is also too v (inr (inl e)) other =
        differs (codes "nmgc 2") also (other ∙ ap (λ (w : Version). spaced (version_words w.number)) e ∙ second_line)
    no_version is also too v (inr (inr e)) other =
        differs (codes "nmgc 3") too (other ∙ ap (λ (w : Version). spaced (version_words w.number)) e ∙ third_line)

    go : (b d f : Bool) → bytes_eq line.1 (codes "nmgc 1") ≡ b → bytes_eq line.1 (codes "nmgc 2") ≡ d → bytes_eq line.1 (codes "nmgc 3") ≡ f →
        (cond b (versioned version_1 lines) (cond d (versioned version_2 lines) (cond f (versioned version_3 lines) (Err (line.0, cause.Version)))) >>=
        script_after end) ≡ Err (number, c) → IsFaultOfText end (line ∷ lines) number c
    go true d f is also too h = version_fault version_1 (inl refl) end line lines number c ((bytes_eq-Decides line.1 (codes "nmgc 1")).0 is ∙ sym first_line) h
    go false true f is also too h =
        version_fault version_2 (inr (inl refl)) end line lines number c ((bytes_eq-Decides line.1 (codes "nmgc 2")).0 also ∙ sym second_line) h
    go false false true is also too h =
        version_fault version_3 (inr (inr refl)) end line lines number c ((bytes_eq-Decides line.1 (codes "nmgc 3")).0 too ∙ sym third_line) h
    go false false false is also too h =
        let same : ◌≡◌ {A = ℕ × Cause} (line.0, cause.Version) (number, c) = err_is {A = Script} (line.0, cause.Version) (number, c) h in
        inl (sym (ap (λ (p : ℕ × Cause). p.0) same), sym (ap (λ (p : ℕ × Cause). p.1) same), no_version is also too)

-- the reported fault is the first bad line and its first cause
pub reported : (bytes : List ℕ) (r : Result Script ScriptFault) → GivesAt (λ s. s) r (script_at (end_of bytes) (kept_lines bytes)) →
    IfErr r (λ fault. IsFaultOf bytes fault)
reported bytes (Ok s) h = tt
reported bytes (Err script_fault.NoMemory) h = tt
reported bytes (Err (script_fault.Bad line c)) h = script_fault_is (end_of bytes) (kept_lines bytes) line c h
