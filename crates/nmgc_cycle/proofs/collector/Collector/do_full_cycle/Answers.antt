use Rattle.nmgc_cycle.proofs.{Vocabulary.refl, Vocabulary.subst, Vocabulary.Collector, Vocabulary.HasStarted, cycles.FullCycle.started_at, cycles.FullCycle.is_filed_at, stops.Handing.handed_after, stops.Handing.handed_twice, stops.Handing.starts_same}
use Rattle.nmgc_cycle.proofs.collector.Collector.do_full_cycle.Goals as goal

pub start-requires-clause-inside : goal.start-requires-clause-inside
start-requires-clause-inside g c =
    (is_filed_at c.a_due_cycle_leads.ensures.finish c.a_due_cycle_leads.ensures.filing c.a_due_cycle_leads.ensures.begin_ready c.args.stop
    c.args.self.now c.finish_cycle.new.self c.retire_all.new.self c.requires.stands c.in_ok-finish_cycle.ensures.finished c.retire_all.ensures.value
    c.retire_all.ensures.sound).begins.inside

pub start-requires-clause-can : goal.start-requires-clause-can
start-requires-clause-can g c =
    let at = is_filed_at c.a_due_cycle_leads.ensures.finish c.a_due_cycle_leads.ensures.filing c.a_due_cycle_leads.ensures.begin_ready
    c.args.stop c.args.self.now c.finish_cycle.new.self c.retire_all.new.self c.requires.stands c.in_ok-finish_cycle.ensures.finished
    c.retire_all.ensures.value c.retire_all.ensures.sound in
    at.begins.can at.none

pub finish_cycle-requires-2-clause-stands : goal.finish_cycle-requires-2-clause-stands
finish_cycle-requires-2-clause-stands g c κs within =
    let at = is_filed_at c.a_due_cycle_leads.ensures.finish c.a_due_cycle_leads.ensures.filing c.a_due_cycle_leads.ensures.begin_ready
    c.args.stop c.args.self.now c.finish_cycle.new.self c.retire_all.new.self c.requires.stands c.in_ok-finish_cycle.ensures.finished
    c.retire_all.ensures.value c.retire_all.ensures.sound in
    started_at c.a_due_cycle_leads.ensures.starting c.args.stop
    (record c.finish_cycle.new.self { heap = record c.finish_cycle.new.self.heap { segments = c.retire_all.new.self } }) c.start.new.self at.stands
    at.none c.in_ok-start.ensures

pub returns-clause-full : goal.returns-clause-full
returns-clause-full g c =
    let at = is_filed_at c.a_due_cycle_leads.ensures.finish c.a_due_cycle_leads.ensures.filing c.a_due_cycle_leads.ensures.begin_ready
    c.args.stop c.args.self.now c.finish_cycle.new.self c.retire_all.new.self c.requires.stands c.in_ok-finish_cycle.ensures.finished
    c.retire_all.ensures.value c.retire_all.ensures.sound in
    record {
      idled = c.finish_cycle.new.self;
      first = c.in_ok-finish_cycle.ensures.finished;
      sound = at.sound;
      started = c.start.new.self;
      starts = subst (λ (x : Collector). HasStarted c.args.stop x c.start.new.self) at.is c.in_ok-start.ensures;
      last = c.finish_cycle-2.new.self;
      again = c.in_ok-finish_cycle-2.ensures.finished;
      is = refl;
    }

pub returns-clause-handed : goal.returns-clause-handed
returns-clause-handed g c = handed_twice c.args.stop c.args.self.now.rows.cycles c.finish_cycle.new.self.rows.cycles c.finish_cycle-2.new.self.rows.cycles
    c.args.rows.now c.finish_cycle.new.rows c.finish_cycle-2.new.rows c.in_ok-finish_cycle.ensures.handed
    (handed_after c.args.stop (record c.finish_cycle.new.self { heap = record c.finish_cycle.new.self.heap { segments = c.retire_all.new.self } }) c.start.new.self
    c.finish_cycle-2.new.self c.finish_cycle.new.rows c.finish_cycle-2.new.rows (starts_same c.args.stop _ c.start.new.self c.in_ok-start.ensures)
    c.in_ok-finish_cycle-2.ensures.handed)
