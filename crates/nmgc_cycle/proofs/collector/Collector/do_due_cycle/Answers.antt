use Rattle.nmgc_cycle.proofs.{Vocabulary.sym, Vocabulary.◌∙◌, Vocabulary.inr, Vocabulary.false≢true, cycles.FullCycle.begins_at, stops.Handing.none_begun}
use Rattle.nmgc_cycle.proofs.collector.Collector.do_due_cycle.Goals as goal

pub try_begin-requires-clause-can : goal.try_begin-requires-clause-can
try_begin-requires-clause-can g c = λ due. (begins_at c.a_due_cycle_leads.ensures.begin_ready c.args.stop c.args.self.now c.requires.stands).can due.0

pub returns-in_ok-try_begin-clause-proceeds : goal.returns-in_ok-try_begin-clause-proceeds
returns-in_ok-try_begin-clause-proceeds g c = inr ((λ due. false≢true (sym c.if-is_full_due.false ∙ c.is_full_due.ensures.1 due)), c.in_ok-try_begin.ensures)

pub returns-in_ok-try_begin-clause-handed : goal.returns-in_ok-try_begin-clause-handed
returns-in_ok-try_begin-clause-handed g c = none_begun c.args.trigger c.args.stop c.args.self.now c.try_begin.new.self c.args.rows.now c.in_ok-try_begin.ensures
