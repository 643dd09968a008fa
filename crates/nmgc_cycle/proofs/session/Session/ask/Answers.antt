use Rattle.nmgc_cycle.proofs.{Vocabulary.◌≡◌, Vocabulary.◌∙◌, Vocabulary.List, Vocabulary.sym, Vocabulary.ap, Vocabulary.subst, Vocabulary.refl, Vocabulary.false, Vocabulary.on_ok_weaker, Vocabulary.Script, Vocabulary.FitsRun, Vocabulary.HasStopped, Vocabulary.MayBeAsked, Vocabulary.CanContinue, Vocabulary.CommandQueue, sessions.Leading.are_queues, sessions.Leading.before_fits, sessions.Leading.may_be_asked, sessions.Leading.may_continue, sessions.Leading.steps_in, sessions.Leading.words_in_queue, sessions.Rounds.asked_back, sessions.Rounds.stopped_before}
use Rattle.nmgc_cycle.specs.Sessions.{IsQueue, most_in, next_in, script_before}
use Rattle.nmgc_cycle.proofs.session.Session.ask.Goals as goal

pub of-script-requires : goal.of-script-requires
of-script-requires g c = (script_before c.args.self.now.config c.as_slice.result.now, refl)

pub round_programs-requires-clause-limits : goal.round_programs-requires-clause-limits
round_programs-requires-clause-limits g c κs within =
    let s = c.args.self.now in
    let is : c.of-script.result.value ≡ script_before s.config s.queues.items = c.of-script.ensures ∙ ap (λ (l : List CommandQueue). script_before s.config l) c.as_slice.ensures.value in
    subst FitsRun (sym is) (before_fits false s c.requires.session s.queues.items (are_queues false s c.requires.session))

pub round_programs-requires-clause-config : goal.round_programs-requires-clause-config
round_programs-requires-clause-config g c κs within = ap (λ (x : Script). x.config) (sym c.of-script.ensures)

pub round_programs-requires-clause-stopped : goal.round_programs-requires-clause-stopped
round_programs-requires-clause-stopped g c κs within =
    let s = c.args.self.now in
    let is : c.of-script.result.value ≡ script_before s.config s.queues.items = c.of-script.ensures ∙ ap (λ (l : List CommandQueue). script_before s.config l) c.as_slice.ensures.value in
    (subst (λ (x : Script). HasStopped x s.collector) (sym is) (stopped_before s c.requires.session c.requires.pauses), c.requires.goes_on)

pub round_programs-requires-clause-programs : goal.round_programs-requires-clause-programs
round_programs-requires-clause-programs g c κs within =
    let s = c.args.self.now in
    let is : c.of-script.result.value ≡ script_before s.config s.queues.items = c.of-script.ensures ∙ ap (λ (l : List CommandQueue). script_before s.config l) c.as_slice.ensures.value in
    subst (λ (l : List CommandQueue). MayBeAsked words_in_queue most_in IsQueue c.of-script.result.value s.collector.positions.items l) (sym c.as_mut_slice.ensures.value)
    (subst (λ (x : Script). MayBeAsked words_in_queue most_in IsQueue x s.collector.positions.items s.queues.items) (sym is) (may_be_asked false s c.requires.session))

pub round_programs-requires-clause-continues : goal.round_programs-requires-clause-continues
round_programs-requires-clause-continues g c κs within =
    let s = c.args.self.now in
    let is : c.of-script.result.value ≡ script_before s.config s.queues.items = c.of-script.ensures ∙ ap (λ (l : List CommandQueue). script_before s.config l) c.as_slice.ensures.value in
    subst (λ (l : List CommandQueue). CanContinue next_in steps_in words_in_queue most_in IsQueue c.of-script.result.value s.collector.positions.items l) (sym c.as_mut_slice.ensures.value)
    (subst (λ (x : Script). CanContinue next_in steps_in words_in_queue most_in IsQueue x s.collector.positions.items s.queues.items) (sym is) (may_continue false s c.requires.session))

pub returns-clause-session : goal.returns-clause-session
returns-clause-session g c =
    let s = c.args.self.now in
    let is : c.of-script.result.value ≡ script_before s.config s.queues.items = c.of-script.ensures ∙ ap (λ (l : List CommandQueue). script_before s.config l) c.as_slice.ensures.value in
    on_ok_weaker c.round_programs.result (λ worked. (asked_back s c.requires.session c.requires.pauses c.round_programs.new.self c.of-script.result.value
    c.as_mut_slice.result.now c.round_programs.new.programs is c.as_mut_slice.ensures.value worked).0) c.round_programs.ensures.worked

pub returns-clause-lines : goal.returns-clause-lines
returns-clause-lines g c =
    let s = c.args.self.now in
    let is : c.of-script.result.value ≡ script_before s.config s.queues.items = c.of-script.ensures ∙ ap (λ (l : List CommandQueue). script_before s.config l) c.as_slice.ensures.value in
    on_ok_weaker c.round_programs.result (λ worked. (asked_back s c.requires.session c.requires.pauses c.round_programs.new.self c.of-script.result.value
    c.as_mut_slice.result.now c.round_programs.new.programs is c.as_mut_slice.ensures.value worked).1) c.round_programs.ensures.worked
