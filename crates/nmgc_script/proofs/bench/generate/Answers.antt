use Rattle.nmgc_script.proofs.{Vocabulary.◌≡◌, Vocabulary.◌∙◌, Vocabulary.List, Vocabulary.sym, Vocabulary.subst, Vocabulary.Command, Vocabulary.FitsScript, Vocabulary.HasFewCommands, Vocabulary.bench_config, Vocabulary.bench_script, BenchLaws.bench_fits, BenchLaws.bench_is_short, BenchLaws.same_four}
use Rattle.nmgc_script.proofs.bench.generate.Goals as goal

pub returns-clause-fits : goal.returns-clause-fits
returns-clause-fits c =
    let e : c.in_ok-from_vec.field-0 ≡ (bench_script c.args.batches).threads = c.in_ok-from_vec.ensures ∙ c.in_ok-threads.ensures.items ∙
    same_four _ _ _ _ _ _ _ _ c.in_ok-program.ensures c.in_ok-program-2.ensures c.in_ok-program-3.ensures c.in_ok-program-4.ensures in
    let P : List (List Command) → Type 0 = λ threads. FitsScript (record { version = 1; config = bench_config; threads = threads }) in
    subst P (sym e) (bench_fits c.args.batches)

pub returns-clause-few : goal.returns-clause-few
returns-clause-few c =
    let e : c.in_ok-from_vec.field-0 ≡ (bench_script c.args.batches).threads = c.in_ok-from_vec.ensures ∙ c.in_ok-threads.ensures.items ∙
    same_four _ _ _ _ _ _ _ _ c.in_ok-program.ensures c.in_ok-program-2.ensures c.in_ok-program-3.ensures c.in_ok-program-4.ensures in
    let P : List (List Command) → Type 0 = λ threads. HasFewCommands (record { version = 1; config = bench_config; threads = threads }) in
    subst P (sym e) (bench_is_short c.args.batches c.requires.few)
