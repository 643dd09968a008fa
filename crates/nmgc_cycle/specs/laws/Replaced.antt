-- Programs at a stop may be replaced by others: the run stands before the stop with these, too.
use Rattle.std.proofs.Common.{◌≡◌, ◌+◌, ◌≤◌, ◌++◌, ◌∷◌, ◌∙◌, ℕ, zero, suc, List, [], length, map, Option, Some, refl, sym, ap, subst, arith}
use Rattle.std.specs.Prelude.{slice_get, sum_by, option_to_list}
use Rattle.std.proofs.lemmas.{List.Sums.sum_by-cons, Option.slice_get_within}
use Rattle.nmgc_lists.specs.laws.Items.{item}
use Rattle.nmgc_world_spec.specs.declared.command.Command.{Command}
use Rattle.nmgc_run_laws.specs.Limits.{FitsRun}
use Rattle.nmgc_script.specs.declared.script.Script.{Script}
use Rattle.nmgc_collector_laws.specs.Worked.{Done}
use Rattle.nmgc_cycle.specs.{declared.program_run.ProgramRun.ProgramRun, Keeps.CanStop, Programs.most_total, Programs.threads_of, SoFar.MayReplace, SoFar.StandsBeforeStop, SoFar.script_so_far}

-- one of the programs, with the commands given in its place
pub one_in_all : {P : Type 0} (most : P → ℕ) (given : List (List Done)) (programs : List P) (k : ℕ) (g : List Done) (p : P) → slice_get given k ≡ Some g →
    slice_get programs k ≡ Some p → length g + most p ≤ sum_by length given + most_total most programs
one_in_all most [] programs k g p e f = absurd cc
one_in_all most (d ∷ given) [] k g p e f = absurd cc
one_in_all most (d ∷ given) (q ∷ programs) zero g p e f =
    let one : d ≡ g = cc in
    let two : q ≡ p = cc in
    let long = ap (λ (x : List Done). length x) one in
    let same = ap most two in
    let all = sum_by-cons length d given in
    omega (arith, long, same, all)
one_in_all most (d ∷ given) (q ∷ programs) (suc k) g p e f =
    let rest = one_in_all most given programs k g p e f in
    let all = sum_by-cons length d given in
    omega (arith, rest, all)

-- the script so far is the same
threads_same : {P Q : Type 0} (next : P → Option Command) (next' : Q → Option Command) (given : List (List Done)) (programs : List P) (others : List Q) →
    length others ≡ length programs →
    ((k : ℕ) (p : P) (q : Q) → slice_get programs k ≡ Some p → slice_get others k ≡ Some q → next' q ≡ next p) →
    threads_of next' given others ≡ threads_of next given programs
threads_same next next' [] programs others e same = refl
threads_same next next' (d ∷ given) [] [] e same = refl
threads_same next next' (d ∷ given) (p ∷ programs) (q ∷ others) e same =
    ap (λ (o : Option Command). (map (λ (x : Done). x.0) d ++ option_to_list o) ∷ threads_of next' given others) (same 0 p q refl refl)
    ∙ ap (λ (l : List (List Command)). (map (λ (x : Done). x.0) d ++ option_to_list (next p)) ∷ l)
    (threads_same next next' given programs others (omega (arith, e)) (λ k. same (suc k)))
threads_same next next' (d ∷ given) [] (q ∷ others) e same = absurd (omega (arith, e))
threads_same next next' (d ∷ given) (p ∷ programs) [] e same = absurd (omega (arith, e))

-- a run that stands before a stop goes on with programs that may take the place of its own, and keeps all that was given
pub programs_are_replaced : {P Q : Type 0} (next : P → Option Command) (words most : P → ℕ) (valid : P → Type 0) (next' : Q → Option Command)
    (words' most' : Q → ℕ) (valid' : Q → Type 0) (run : ProgramRun) (programs : List P) (others : List Q) → StandsBeforeStop next words most valid run programs →
    MayReplace next next' words' most' valid' run programs others → StandsBeforeStop next' words' most' valid' run others
programs_are_replaced next words most valid next' words' most' valid' run programs others stands may =
    let far = stands.0 in
    let same : script_so_far next' run others ≡ script_so_far next run programs =
    ap (λ (l : List (List Command)). record (script_so_far next run programs) { threads = l })
    (threads_same next next' run.given.value programs others may.count may.same) in (
      record {
        count = far.count ∙ sym may.count;
        limits = subst FitsRun (sym same) far.limits;
        asked = record {
          count = may.count ∙ far.asked.count ∙ sym (ap (λ (s : Script). length s.threads) same);
          valid_are = may.valid_are;
          fit = may.fit;
          few = λ k q e.
              let within = slice_get_within others k q e in
              let many = may.count in
              let counted = far.count in
              let g = item run.given.value k (omega (arith, within, many, counted)) in
              let one = one_in_all most' run.given.value others k g.0 q g.1 e in
              let here = far.positions k g.0 g.1 in
              let short = may.short in
              omega (arith, one, here, short);
        };
        positions = far.positions;
        replies = far.replies;
        short = may.short;
      },
      subst (λ (s : Script). CanStop s run.collector) (sym same) stands.1,
    )
