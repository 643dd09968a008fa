use Rattle.nmgc_cycle.proofs.{Vocabulary.◌∙◌, Vocabulary.List, Vocabulary.ℕ, Vocabulary.Command, Vocabulary.ap, Vocabulary.subst, Vocabulary.sym, Vocabulary.length, Vocabulary.arith, Vocabulary.AreListed, Vocabulary.Report, Vocabulary.in_limits_fit, rounds.ScriptRuns.from_beginnings, rounds.ScriptRuns.lists_are_scripts, rounds.ScriptRuns.lists_may_run, rounds.ListedRounds.listed_next, rounds.ListedRounds.listed_steps, rounds.ListedRounds.listed_words, rounds.ListedRounds.listed_most, rounds.ListedRounds.listed_valid}
use Rattle.std.proofs.lemmas.Result.{IfOk-weaker}
use Rattle.nmgc_run_spec.specs.Lawful.{IsRunOf}
use Rattle.nmgc_cycle.specs.Programs.{IsRunOfPrograms}
use Rattle.nmgc_cycle.proofs.collector.Collector.run.Goals as goal

pub run_programs-requires-after_bounds : goal.run_programs-requires-after_bounds
run_programs-requires-after_bounds g c κs within =
    let script = c.args.script.now in
    let long = ap (λ (l : List (List Command)). length l) c.items.ensures in
    let zeros = c.as_slice.ensures.value ∙ c.in_ok-beginnings.ensures.items_if_clones_equal (λ y e. e) in
    let are = subst (λ (l : List ℕ). AreListed script l c.as_mut_slice.result.now) zeros
    (subst (AreListed script c.as_slice.result.now) (sym c.as_mut_slice.ensures.value) c.in_ok-programs.ensures) in
    lists_may_run script c.as_mut_slice.result.now c.requires (from_beginnings script _ c.as_mut_slice.result.now (omega (arith, long)) are)

pub returns : goal.returns
returns g c =
    let script = c.args.script.now in
    let long = ap (λ (l : List (List Command)). length l) c.items.ensures in
    let zeros = c.as_slice.ensures.value ∙ c.in_ok-beginnings.ensures.items_if_clones_equal (λ y e. e) in
    let are = subst (λ (l : List ℕ). AreListed script l c.as_mut_slice.result.now) zeros
    (subst (AreListed script c.as_slice.result.now) (sym c.as_mut_slice.ensures.value) c.in_ok-programs.ensures) in
    let begun = from_beginnings script _ c.as_mut_slice.result.now (omega (arith, long)) are in
    IfOk-weaker c.run_programs.result
    (IsRunOfPrograms listed_next listed_steps listed_words listed_most listed_valid script.config c.as_mut_slice.result.now c.run_programs.new.programs)
    (λ (report : Report). IsRunOf script report)
    (λ report run. lists_are_scripts script c.as_mut_slice.result.now c.run_programs.new.programs report (in_limits_fit script c.requires) begun run)
    c.run_programs.ensures.run
