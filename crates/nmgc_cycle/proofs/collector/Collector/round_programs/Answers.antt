use Rattle.nmgc_cycle.proofs.{Vocabulary.◌∙◌, Vocabulary.ap, Vocabulary.sym, Vocabulary.subst, Vocabulary.◌≡◌, Vocabulary.passed, Vocabulary.worked_on, Vocabulary.upper_worked_on, Vocabulary.turns_of, Vocabulary.upper_turns_of, Vocabulary.Collector, Vocabulary.longer_script, Vocabulary.slice_index, lists.Plans.is_runnable, rounds.InboxOn.lines_of, rounds.InboxOn.round_met, rounds.Meeting.all_in_order, stops.Tried.met_tried}
use Rattle.nmgc_cycle.proofs.collector.Collector.round_programs.Goals as goal

pub meet_all-requires : goal.meet_all-requires
meet_all-requires g c =
    let asked = c.in_ok-rows.ensures.worked in
    let on = c.requires.continues c.do_round.new.programs asked.done asked.gave in
    lines_of (longer_script on.0 c.args.script.now.value) c.do_round.new.self (is_runnable (longer_script on.0 c.args.script.now.value) on.3).few
    (asked.did on.0 on.1 on.2 on.3).0.0.kept

pub returns-clause-worked : goal.returns-clause-worked
returns-clause-worked g c =
    let asked = c.in_ok-rows.ensures.worked in
    record {
      done = asked.done;
      gave = asked.gave;
      did = λ more longer on limits.
          let script = longer_script more c.args.script.now.value in
          let did = asked.did more longer on limits in (
            round_met script c.args.self.now c.do_round.new.self c.meet_all.new.self _ c.meet_all.ensures.rest c.meet_all.ensures.met did.0,
            met_tried script c.args.self.now c.do_round.new.self c.meet_all.new.self _ c.meet_all.ensures.rest c.meet_all.ensures.met did.1,
          );
      positions = λ k d e. ap (λ (x : Collector). slice_index x.positions.items k) c.meet_all.ensures.rest ∙ asked.positions k d e;
      rows = asked.rows;
      rows_are = ap (λ (x : Collector). x.rows.rounds) c.meet_all.ensures.rest ∙ asked.rows_are;
      replies = asked.replies;
    }

pub returns-clause-reported : goal.returns-clause-reported
returns-clause-reported g c = ap (λ (x : Collector). x.rows.rounds) c.meet_all.ensures.rest ∙ c.in_ok-rows.ensures.reported

pub returns-clause-stops : goal.returns-clause-stops
returns-clause-stops g c = ap (λ (x : Collector). x.rows.stops) c.meet_all.ensures.rest ∙ c.in_ok-rows.ensures.stops

pub returns-clause-cycles : goal.returns-clause-cycles
returns-clause-cycles g c = ap (λ (x : Collector). x.rows.cycles) c.meet_all.ensures.rest ∙ c.in_ok-rows.ensures.cycles

pub returns-clause-turns : goal.returns-clause-turns
returns-clause-turns g c = subst (λ (x : Collector). turns_of x ≡
    passed (turns_of c.args.self.now) (worked_on c.args.self.now.cycle.progress x.cycle.progress)) (sym c.meet_all.ensures.rest) c.in_ok-rows.ensures.turns

pub returns-clause-upper_turns : goal.returns-clause-upper_turns
returns-clause-upper_turns g c = subst (λ (x : Collector). upper_turns_of x ≡
    passed (upper_turns_of c.args.self.now) (upper_worked_on c.args.self.now.cycle.progress x.cycle.progress)) (sym c.meet_all.ensures.rest)
    c.in_ok-rows.ensures.upper_turns

pub returns-clause-remembered : goal.returns-clause-remembered
returns-clause-remembered g c =
    all_in_order c.do_round.new.self.inbox c.meet_all.new.self.inbox c.do_round.new.self.mutators.items c.meet_all.new.self.mutators.items c.meet_all.ensures.met
