-- A text spells a script or has one first bad line with one first cause, and never both.
use Rattle.std.proofs.{Common.◌≡◌, Common.◌≢◌, Common.◌<◌, Common.◌^◌, Common.ℕ, Common.zero, Common.suc, Common.List, Common.[], Common.◌∷◌, Common.refl, Common.sym, Common.ap, Common.subst, Common.◌∙◌, Common.arith, Common.inl, Common.inr, Common.codes, Common.decimal, Common.Ok, lemmas.Bool.cases_order, lemmas.Fmt.decimal_injective, lemmas.List.append_cancel_left}
use Rattle.nmgc_world_spec.specs.declared.command.Command.{Command}
use Rattle.nmgc_io.specs.{Text.tokens_of, Text.spaced, laws.Parts.spaced-tokens_of}
use Rattle.nmgc_script.specs.{declared.fault.Cause.Cause, declared.script.Config.Config, declared.script.Script.Script, declared.version.Version.Version, laws.Versions.IsUsable, laws.Versions.usable_version, Spelling.FitsConfig, Spelling.IsVersion, Spelling.heap_words, Spelling.Spells, Spelling.kept_lines, Spelling.order_of, Spelling.IsFirstFault, Spelling.begun_with, Spelling.IsFaultInRest, Spelling.IsFaultFromHeap, Spelling.IsFaultOfText, Spelling.version_of, Parts.version_words, Parts.end_of, Reading.heap_words_at, Reading.section_at, Reading.entry_at, Reading.begun_after, Reading.at_line, Reading.rest_at, Reading.programs_at, Reading.threads_at, Reading.version_at, Reading.heap_at, Reading.script_at, laws.Lines.tokens_of-line, laws.Lines.heap_line_words, laws.Versions.version_is}
use Rattle.nmgc_script.specs.declared.fault.Cause.TheVariants as cause
use Rattle.nmgc_script.proofs.{WordLaws.bind_ok, WordLaws.ok_is, ConfigLaws.heap_takes, ConfigLaws.heap_again, SectionLaws.at_line_ok, SectionLaws.section_takes, ScriptLaws.script_again, ScriptLaws.version_found, FaultLaws.entry_good, FaultLaws.section_faultless, FaultLaws.some_after}

-- the cause at a position of the order
cause_of : ℕ → Cause
cause_of zero = cause.Version
cause_of (suc zero) = cause.Heap
cause_of (suc (suc zero)) = cause.Thread
cause_of (suc (suc (suc zero))) = cause.Total
cause_of (suc (suc (suc (suc zero)))) = cause.Command
cause_of (suc (suc (suc (suc (suc zero))))) = cause.Arity
cause_of (suc (suc (suc (suc (suc (suc zero)))))) = cause.Operand
cause_of (suc (suc (suc (suc (suc (suc (suc n))))))) = cause.Size

cause_back : (c : Cause) → cause_of (order_of c) ≡ c
unfolding cause_of
cause_back cause.Version = refl
cause_back cause.Heap = refl
cause_back cause.Thread = refl
cause_back cause.Total = refl
cause_back cause.Command = refl
cause_back cause.Arity = refl
cause_back cause.Operand = refl
cause_back cause.Size = refl

-- a line has one first fault
one_first : (ver : Version) (usable : IsUsable ver) (h : Config) (n : ℕ) (words : List (List ℕ)) (c d : Cause) → IsFirstFault ver h n words c →
    IsFirstFault ver h n words d → c ≡ d
one_first ver usable h n words c d p q =
    elim (cases_order (order_of c) (order_of d)) [
      | inl same ↦ sym (cause_back c) ∙ ap cause_of same ∙ cause_back d
      | inr other ↦ elim other [
        | inl lt ↦ absurd (q.none_before c lt p.here)
        | inr lt ↦ absurd (p.none_before d lt q.here)
      ]
    ]

-- the same line and the same cause
abbrev pub Same : ℕ → Cause → ℕ → Cause → Type 0
Same a c b d = (a ≡ b) × (c ≡ d)

one_rest : (ver : Version) (usable : IsUsable ver) (h : Config) (n end : ℕ) (lines : List (ℕ × List ℕ)) (a : ℕ) (c : Cause) (b : ℕ) (d : Cause) →
    IsFaultInRest ver h n end lines a c → IsFaultInRest ver h n end lines b d → Same a c b d
one_rest ver usable h n end [] a c b d p q = (p.1 ∙ sym q.1, p.2 ∙ sym q.2)
one_rest ver usable h n end (line ∷ lines) a c b d (inl p) (inl q) = (p.0 ∙ sym q.0, one_first ver usable h n (tokens_of line.1) c d p.1 q.1)
one_rest ver usable h n end (line ∷ lines) a c b d (inl p) (inr q) = absurd (q.0 c p.1.here)
one_rest ver usable h n end (line ∷ lines) a c b d (inr p) (inl q) = absurd (p.0 d q.1.here)
one_rest ver usable h n end (line ∷ lines) a c b d (inr p) (inr q) = one_rest ver usable h (begun_with n (tokens_of line.1)) end lines a c b d p.1 q.1

-- a heap line has one configuration
one_config : (ver : Version) (usable : IsUsable ver) (line : List ℕ) (g h : Config) → FitsConfig ver.segments g → FitsConfig ver.segments h →
    line ≡ spaced (heap_words g) → line ≡ spaced (heap_words h) → g ≡ h
one_config ver usable line g h fg fh eg eh = ok_is {E = Cause} g h (sym (reads g fg eg) ∙ reads h fh eh)
  where
    few : ver.segments < 2 ^ 64
    few = omega (arith, usable.segments)

    reads : (c : Config) → FitsConfig ver.segments c → line ≡ spaced (heap_words c) → heap_words_at ver (tokens_of line) ≡ Ok c
    reads c fits is = ap (λ (l : List ℕ). heap_words_at ver (tokens_of l)) is ∙
        ap (heap_words_at ver) (tokens_of-line (heap_words c) (heap_line_words ver.segments few c fits)) ∙ heap_again ver few c fits

one_heap : (ver : Version) (usable : IsUsable ver) (end : ℕ) (lines : List (ℕ × List ℕ)) (a : ℕ) (c : Cause) (b : ℕ) (d : Cause) →
    IsFaultFromHeap ver end lines a c → IsFaultFromHeap ver end lines b d → Same a c b d
one_heap ver usable end [] a c b d p q = (p.0 ∙ sym q.0, p.1 ∙ sym q.1)
one_heap ver usable end (line ∷ lines) a c b d (inl p) (inl q) = (p.0 ∙ sym q.0, p.1 ∙ sym q.1)
one_heap ver usable end (line ∷ lines) a c b d (inl p) (inr q) = absurd (p.2 q.0 q.1 q.2)
one_heap ver usable end (line ∷ lines) a c b d (inr p) (inl q) = absurd (q.2 p.0 p.1 p.2)
one_heap ver usable end (line ∷ lines) a c b d (inr p) (inr q) =
    let same : p.0 ≡ q.0 = one_config ver usable line.1 p.0 q.0 p.1 q.1 p.2 q.2 in
    one_rest ver usable q.0 0 end lines a c b d (subst (λ (k : Config). IsFaultInRest ver k 0 end lines a c) same p.3) q.3

-- a line has one version
one_version : (line : List ℕ) (v w : Version) → IsVersion v → IsVersion w → line ≡ spaced (version_words v.number) →
    line ≡ spaced (version_words w.number) → v ≡ w
one_version line v w is also e f =
    let low = usable_version v is in
    let small = usable_version w also in
    let same : v.number ≡ w.number = decimal_injective v.number w.number (omega (arith, low.number)) (omega (arith, small.number))
    (append_cancel_left (codes "nmgc ") (decimal v.number) (decimal w.number) (sym e ∙ f)) in
    sym (version_is v is) ∙ ap version_of same ∙ version_is w also

pub one_fault : (end : ℕ) (lines : List (ℕ × List ℕ)) (a : ℕ) (c : Cause) (b : ℕ) (d : Cause) → IsFaultOfText end lines a c → IsFaultOfText end lines b d → Same a c b d
one_fault end [] a c b d p q = (p.0 ∙ sym q.0, p.1 ∙ sym q.1)
one_fault end (line ∷ lines) a c b d (inl p) (inl q) = (p.0 ∙ sym q.0, p.1 ∙ sym q.1)
one_fault end (line ∷ lines) a c b d (inl p) (inr q) = absurd (p.2 q.0 q.1 q.2)
one_fault end (line ∷ lines) a c b d (inr p) (inl q) = absurd (q.2 p.0 p.1 p.2)
one_fault end (line ∷ lines) a c b d (inr p) (inr q) =
    let same : p.0 ≡ q.0 = one_version line.1 p.0 q.0 p.1 q.1 p.2 q.2 in
    one_heap q.0 (usable_version q.0 q.1) end lines a c b d (subst (λ (v : Version). IsFaultFromHeap v end lines a c) same p.3) q.3

-- NEVER BOTH

rest_good : (ver : Version) (usable : IsUsable ver) (h : Config) (n end : ℕ) (lines : List (ℕ × List ℕ)) (p : List Command ×
    List (List Command)) (a : ℕ) (c : Cause) → n ≢ 0 → rest_at ver h n lines ≡ Ok p → IsFaultInRest ver h n end lines a c → ⊥
unfolding rest_at
rest_good ver usable h n end [] p a c some good t = some t.0
rest_good ver usable h n end (line ∷ lines) p a c some good t =
    let words = tokens_of line.1 in
    let b = bind_ok (at_line line.0 (entry_at ver h n words)) _ p good in
    let o = bind_ok (rest_at ver h (begun_after b.0 n) lines) _ p b.2 in
    let g = entry_good ver usable h n words b.0 some (at_line_ok line.0 (entry_at ver h n words) b.0 b.1) in
    elim t [
      | inl q ↦ g.0 c q.1.here
      | inr q ↦ rest_good ver usable h (begun_after b.0 n) end lines o.0 a c (some_after b.0 n some) o.1 (subst (λ (k : ℕ).
          IsFaultInRest ver h k end lines a c) g.1 q.1)
    ]

threads_good : (ver : Version) (usable : IsUsable ver) (h : Config) (end : ℕ) (lines : List (ℕ ×
    List ℕ)) (threads : List (List Command)) (a : ℕ) (c : Cause) → threads_at ver end h lines ≡ Ok threads → IsFaultInRest ver h 0 end lines a c → ⊥
unfolding threads_at programs_at
threads_good ver usable h end [] threads a c good t = absurd cc
threads_good ver usable h end (line ∷ lines) threads a c good t =
    let words = tokens_of line.1 in
    let b = bind_ok (at_line line.0 (section_at ver h 0 words)) _ threads good in
    let o = bind_ok (rest_at ver h 1 lines) _ threads b.2 in
    let g = section_takes ver usable h 0 words b.0 (at_line_ok line.0 (section_at ver h 0 words) b.0 b.1) in
    let begun : begun_with 0 words ≡ 1 = ap (begun_with 0) g.0.0 in
    elim t [
      | inl q ↦ section_faultless ver usable h 0 words (inr refl) g.0 c q.1.here
      | inr q ↦ rest_good ver usable h 1 end lines o.0 a c (λ e. omega arith) o.1 (subst (λ (k : ℕ). IsFaultInRest ver h k end lines a c) begun q.1)
    ]

heap_good : (ver : Version) (usable : IsUsable ver) (end : ℕ) (lines : List (ℕ × List ℕ)) (h : Config ×
    List (ℕ × List ℕ)) (threads : List (List Command)) (a : ℕ) (c : Cause) → heap_at ver end lines ≡ Ok h → threads_at ver end h.0 h.1 ≡ Ok threads →
    IsFaultFromHeap ver end lines a c → ⊥
unfolding heap_at
heap_good ver usable end [] h threads a c good more t = absurd cc
heap_good ver usable end (line ∷ lines) h threads a c good more t =
    let b = bind_ok (at_line line.0 (heap_words_at ver (tokens_of line.1))) (λ config. Ok (config, lines)) h good in
    let g = heap_takes ver (omega (arith, usable.segments)) (tokens_of line.1) b.0 (at_line_ok line.0 (heap_words_at ver (tokens_of line.1)) b.0 b.1) in
    let is : line.1 ≡ spaced (heap_words b.0) = sym (spaced-tokens_of line.1) ∙ ap spaced g.0 in
    let parts : (b.0, lines) ≡ h = ok_is {E = ℕ × Cause} (b.0, lines) h b.2 in
    let later : threads_at ver end b.0 lines ≡ Ok threads = rw (← parts) at more in
    elim t [
      | inl q ↦ q.2 b.0 g.1 is
      | inr q ↦ threads_good ver usable b.0 end lines threads a c later (subst (λ (k : Config).
          IsFaultInRest ver k 0 end lines a c) (one_config ver usable line.1 q.0 b.0 q.1 g.1 q.2 is) q.3)
    ]

-- a text without lines names no version
no_version : (end : ℕ) (p : Version × List (ℕ × List ℕ)) → version_at end [] ≡ Ok p → ⊥
unfolding version_at
no_version end p good = absurd cc

version_good : (end : ℕ) (lines : List (ℕ × List ℕ)) (p : Version × List (ℕ × List ℕ)) (h : Config ×
    List (ℕ × List ℕ)) (threads : List (List Command)) (a : ℕ) (c : Cause) → version_at end lines ≡ Ok p → heap_at p.0 end p.1 ≡ Ok h →
    threads_at p.0 end h.0 h.1 ≡ Ok threads → IsFaultOfText end lines a c → ⊥
version_good end [] p h threads a c good heap more t = no_version end p good
version_good end (line ∷ lines) p h threads a c good heap more t =
    let f = version_found end line lines p good in
    elim t [
      | inl q ↦ q.2 p.0 f.0 f.1
      | inr q ↦ heap_good p.0 (usable_version p.0 f.0) end p.1 h threads a c heap more (subst (λ (v : Version).
          IsFaultFromHeap v end p.1 a c) (one_version line.1 q.0 p.0 q.1 f.0 q.2 f.1) (subst (λ (l : List (ℕ × List ℕ)). IsFaultFromHeap q.0 end l a c) f.2 q.3))
    ]

-- lines that are read as a script have no fault to report
pub none_known : (end : ℕ) (lines : List (ℕ × List ℕ)) (s : Script) (a : ℕ) (c : Cause) → script_at end lines ≡ Ok s → IsFaultOfText end lines a c → ⊥
unfolding script_at
none_known end lines s a c good t =
    let b = bind_ok (version_at end lines) _ s good in
    let h = bind_ok (heap_at b.0.0 end b.0.1) _ s b.2 in
    let p = bind_ok (threads_at b.0.0 end h.0.0 h.0.1) _ s h.2 in
    version_good end lines b.0 h.0 p.0 a c b.1 h.1 p.1 t

-- bytes that spell a script have no fault to report
pub never_both : (bytes : List ℕ) (s : Script) (a : ℕ) (c : Cause) → Spells bytes s → IsFaultOfText (end_of bytes) (kept_lines bytes) a c → ⊥
never_both bytes s a c h t = none_known (end_of bytes) (kept_lines bytes) s a c (script_again (end_of bytes) (kept_lines bytes) s h.fits h.lines) t
