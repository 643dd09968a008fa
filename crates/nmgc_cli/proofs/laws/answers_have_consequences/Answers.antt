use Rattle.nmgc_cli.proofs.{Vocabulary.Rose, Answering.reports, Answering.completes, Answering.bench_completes, Answering.upgrades, Answering.upgrade_completes, Answering.paths, Answering.retain_completes}
use Rattle.nmgc_cli.proofs.laws.answers_have_consequences.Goals as goal

pub returns-clause-report : goal.returns-clause-report
returns-clause-report c = λ arguments left left' taken taken' read read' written written' answer status report reported ended.
    reports arguments left left' taken taken' (Rose read read') (Rose written written') answer status report reported ended

pub returns-clause-upgrade : goal.returns-clause-upgrade
returns-clause-upgrade c = λ arguments left left' taken taken' read read' written written' answer status report reported ended.
    upgrades arguments left left' taken taken' (Rose read read') (Rose written written') answer status report reported ended

pub returns-clause-path : goal.returns-clause-path
returns-clause-path c = λ arguments left left' taken taken' read read' written written' answer status report reported ended.
    paths arguments left left' taken taken' (Rose read read') (Rose written written') answer status report reported ended

pub returns-clause-complete : goal.returns-clause-complete
returns-clause-complete c = λ arguments left left' taken taken' read read' written written' answer status report reported ended.
    completes arguments left left' taken taken' (Rose read read') (Rose written written') answer status report reported ended

pub returns-clause-upgraded : goal.returns-clause-upgraded
returns-clause-upgraded c = λ arguments left left' taken taken' read read' written written' answer status report reported ended.
    upgrade_completes arguments left left' taken taken' (Rose read read') (Rose written written') answer status report reported ended

pub returns-clause-retain : goal.returns-clause-retain
returns-clause-retain c = λ arguments left left' taken taken' read read' written written' answer status report reported ended.
    retain_completes arguments left left' taken taken' (Rose read read') (Rose written written') answer status report reported ended

pub returns-clause-bench : goal.returns-clause-bench
returns-clause-bench c = λ arguments left left' taken taken' read read' written written' answer status report reported ended.
    bench_completes arguments left left' taken taken' (Rose read read') (Rose written written') answer status report reported ended
