use Rattle.nmgc_mutator.proofs.{Vocabulary.rules, Vocabulary.◌≡◌, Vocabulary.◌∙◌, Vocabulary.◌+◌, Vocabulary.Some, Vocabulary.Bor, Vocabulary.ap, Vocabulary.subst, Vocabulary.sym, Vocabulary.arith, Vocabulary.refl, Vocabulary.Command, Vocabulary.seen, Vocabulary.Mutator, Vocabulary.next_turn, Vocabulary.passed, Vocabulary.IsReady, Steps.ready_turned, Slices.AsksOn, Slices.asking_none, Slices.asking_more, Slices.asking_on, Slices.asked_ended, Slices.asked_over, Slices.asked_all, Slices.asked_none, Slices.asked_full, Slices.ended_tried, Slices.there, Slices.not_there}
use Rattle.nmgc_mutator.proofs.mutator.Mutator.run_program.Goals as goal

pub loop-done-init : goal.loop-done-init
loop-done-init g c = (
  asking_none g.P.Program.next g.P.Program.steps g.P.Program.words g.P.Program.most c.args.round.now (seen c.args.seat.now) c.args.self.now
      c.args.program.now c.args.slice c.args.seat.now refl c.requires.ready c.requires.room,
  c.requires.program,
)

pub step-requires-clause-ready : goal.step-requires-clause-ready
step-requires-clause-ready g c =
    subst (λ (x : Mutator).
    IsReady c.args.round.now c.loop-done.seat x) (sym c.pass.ensures)
    (ready_turned c.args.round.now c.loop-done.seat c.loop-done.self (next_turn c.loop-done.self.turns) c.loop-done.invariant.0.ready)

pub returns-in_default-clause-run : goal.returns-in_default-clause-run
returns-in_default-clause-run g c =
    asked_over g.P.Program.next g.P.Program.steps g.P.Program.words g.P.Program.most c.args.round.now (seen c.args.seat.now) c.args.self.now
    c.args.program.now c.args.slice c.loop-done.done c.loop-done.seat c.loop-done.self c.loop-done.program c.loop-done.invariant.0 c.in_default.ensures.none

pub returns-in-NurseryFull-clause-run : goal.returns-in-NurseryFull-clause-run
returns-in-NurseryFull-clause-run g c =
    asked_full g.P.Program.next g.P.Program.steps g.P.Program.words g.P.Program.most c.args.round.now (seen c.args.seat.now) c.args.self.now
    c.args.program.now c.args.slice c.loop-done.done c.loop-done.seat c.step.new.seat c.loop-done.self c.pass.new.self c.step.new.self
    c.loop-done.program c.in-Some.command.now c.in-NurseryFull.need c.in-NurseryFull.left c.loop-done.invariant.0 c.loop-done-test.true
    c.in-Some.ensures.some c.pass.ensures c.in-NurseryFull.ensures

pub returns-in-Some-end-clause-run : goal.returns-in-Some-end-clause-run
returns-in-Some-end-clause-run g c =
    let h : AsksOn g.P.Program.next g.P.Program.steps g.P.Program.words g.P.Program.most c.args.round.now (seen c.args.seat.now) c.args.self.now
    c.args.program.now c.args.slice c.loop-done.done c.step.new.seat c.step.new.self c.take_reply.new.self c.in-Some.command.now =
    asking_more g.P.Program.next g.P.Program.steps g.P.Program.words g.P.Program.most c.args.round.now (seen c.args.seat.now) c.args.self.now
    c.args.program.now c.args.slice c.loop-done.done c.loop-done.seat c.loop-done.self c.pass.new.self c.step.new.seat c.step.new.self
    c.loop-done.program c.take_reply.new.self c.in-Some.command.now c.in-Replied.reply c.loop-done.invariant.0 c.loop-done-test.true c.in-Some.ensures.some
    c.in-Some.ensures.fits c.take_reply.ensures.steps c.take_reply.ensures.words c.take_reply.ensures.fewer c.pass.ensures c.in-Replied.ensures in
    asked_ended g.P.Program.next g.P.Program.steps g.P.Program.words g.P.Program.most c.args.round.now (seen c.args.seat.now) c.args.self.now
    c.args.program.now c.args.slice c.loop-done.done c.step.new.seat c.step.new.self c.take_reply.new.self c.in-Some.command.now c.in-Some-end.end h
    c.in-Some-end.ensures.some

pub returns-in-Some-end-clause-turns : goal.returns-in-Some-end-clause-turns
returns-in-Some-end-clause-turns g c =
    let h : AsksOn g.P.Program.next g.P.Program.steps g.P.Program.words g.P.Program.most c.args.round.now (seen c.args.seat.now) c.args.self.now
    c.args.program.now c.args.slice c.loop-done.done c.step.new.seat c.step.new.self c.take_reply.new.self c.in-Some.command.now =
    asking_more g.P.Program.next g.P.Program.steps g.P.Program.words g.P.Program.most c.args.round.now (seen c.args.seat.now) c.args.self.now
    c.args.program.now c.args.slice c.loop-done.done c.loop-done.seat c.loop-done.self c.pass.new.self c.step.new.seat c.step.new.self
    c.loop-done.program c.take_reply.new.self c.in-Some.command.now c.in-Replied.reply c.loop-done.invariant.0 c.loop-done-test.true c.in-Some.ensures.some
    c.in-Some.ensures.fits c.take_reply.ensures.steps c.take_reply.ensures.words c.take_reply.ensures.fewer c.pass.ensures c.in-Replied.ensures in
    h.turns ∙ ap (λ n. passed c.args.self.now.turns n) (sym (ended_tried c.in-Some.command.now c.in-Some-end.end (c.loop-done.done + 1)
    c.in-Some-end.ensures.some))

pub loop-done-preserved : goal.loop-done-preserved
loop-done-preserved g c =
    let h : AsksOn g.P.Program.next g.P.Program.steps g.P.Program.words g.P.Program.most c.args.round.now (seen c.args.seat.now) c.args.self.now
    c.args.program.now c.args.slice c.loop-done.done c.step.new.seat c.step.new.self c.take_reply.new.self c.in-Some.command.now =
    asking_more g.P.Program.next g.P.Program.steps g.P.Program.words g.P.Program.most c.args.round.now (seen c.args.seat.now) c.args.self.now
    c.args.program.now c.args.slice c.loop-done.done c.loop-done.seat c.loop-done.self c.pass.new.self c.step.new.seat c.step.new.self
    c.loop-done.program c.take_reply.new.self c.in-Some.command.now c.in-Replied.reply c.loop-done.invariant.0 c.loop-done-test.true c.in-Some.ensures.some
    c.in-Some.ensures.fits c.take_reply.ensures.steps c.take_reply.ensures.words c.take_reply.ensures.fewer c.pass.ensures c.in-Replied.ensures in (
      asking_on g.P.Program.next g.P.Program.steps g.P.Program.words g.P.Program.most c.args.round.now (seen c.args.seat.now) c.args.self.now
          c.args.program.now c.args.slice c.loop-done.done c.step.new.seat c.step.new.self c.take_reply.new.self c.in-Some.command.now h
          c.in_default-end.ensures.none,
      c.take_reply.ensures.valid,
    )

pub returns-then-is_some-clause-run : goal.returns-then-is_some-clause-run
returns-then-is_some-clause-run g c =
    let t = c.loop-done-test.false in
    let a = c.loop-done.auto.done-end in
    let e : c.loop-done.done ≡ c.args.slice = omega (arith, t, a) in
    let s = there (λ (b : Bor Command). g.P.Program.next c.loop-done.program ≡ Some b.now) c.peek-2.result (search rules) c.peek-2.ensures.some in
    asked_all g.P.Program.next g.P.Program.steps g.P.Program.words g.P.Program.most c.args.round.now (seen c.args.seat.now) c.args.self.now
    c.args.program.now c.args.slice c.loop-done.done c.loop-done.seat c.loop-done.self c.loop-done.program s.0.now c.loop-done.invariant.0 e s.1

pub returns-else-is_some-clause-run : goal.returns-else-is_some-clause-run
returns-else-is_some-clause-run g c =
    let t = c.loop-done-test.false in
    let a = c.loop-done.auto.done-end in
    let e : c.loop-done.done ≡ c.args.slice = omega (arith, t, a) in
    let none = not_there c.peek-2.result (search rules) c.peek-2.ensures.none in
    asked_none g.P.Program.next g.P.Program.steps g.P.Program.words g.P.Program.most c.args.round.now (seen c.args.seat.now) c.args.self.now
    c.args.program.now c.args.slice c.loop-done.done c.loop-done.seat c.loop-done.self c.loop-done.program c.loop-done.invariant.0 e none
