use Rattle.nmgc_cycle.proofs.{Vocabulary.◌∙◌, Vocabulary.List, Vocabulary.ℕ, Vocabulary.ap, Vocabulary.refl, Vocabulary.sym, Vocabulary.arith, Vocabulary.total_of, rounds.Resuming.few_in_all, rounds.Resuming.may_replace, rounds.Resuming.yield_too}
use Rattle.std.proofs.lemmas.Bool.{le-leb, leb-true}
use Rattle.nmgc_cycle.specs.laws.Replaced.{programs_are_replaced}
use Rattle.nmgc_cycle.proofs.program_run.ProgramRun.may_resume.Goals as goal

pub returns-then-not-begin_with_yield-clause-answer : goal.returns-then-not-begin_with_yield-clause-answer
returns-then-not-begin_with_yield-clause-answer g c = (
  λ none. absurd cc,
  λ may. sym c.if-not-begin_with_yield.true ∙ c.begin_with_yield.ensures.1 (yield_too g.P.Program.next g.P.Program.words g.P.Program.most g.P.Program.valid g.Q.Program.next g.Q.Program.words g.Q.Program.most g.Q.Program.valid c.args.self.now c.args.parked.now c.args.others.now c.requires.stands c.requires.parked may),
)

pub returns-clause-stands : goal.returns-clause-stands
returns-clause-stands g c few =
    let small = leb-true c.commands_at_most.result c.from.result few in
    let bound = c.from.ensures in
    let all = c.commands_at_most.ensures.0 (omega (arith, small, bound)) in
    let size = c.if-others-parked.false in
    let slice = ap (λ (l : List ℕ). total_of l) c.as_slice.ensures.value in
    programs_are_replaced g.P.Program.next g.P.Program.words g.P.Program.most g.P.Program.valid g.Q.Program.next g.Q.Program.words g.Q.Program.most g.Q.Program.valid c.args.self.now c.args.parked.now c.args.others.now c.requires.stands (may_replace g.P.Program.next g.P.Program.words g.P.Program.most g.P.Program.valid g.Q.Program.next g.Q.Program.words g.Q.Program.most g.Q.Program.valid c.args.self.now c.args.parked.now c.args.others.now c.requires.stands c.requires.parked
    (omega (arith, size)) (c.if-not-begin_with_yield.ensures.0 refl) c.requires.valid c.requires.fit (omega (arith, all, slice)))

pub returns-clause-answer : goal.returns-clause-answer
returns-clause-answer g c = (
  λ few.
      let small = leb-true c.commands_at_most.result c.from.result few in
      let bound = c.from.ensures in
      let all = c.commands_at_most.ensures.0 (omega (arith, small, bound)) in
      let size = c.if-others-parked.false in
      let slice = ap (λ (l : List ℕ). total_of l) c.as_slice.ensures.value in
      may_replace g.P.Program.next g.P.Program.words g.P.Program.most g.P.Program.valid g.Q.Program.next g.Q.Program.words g.Q.Program.most g.Q.Program.valid c.args.self.now c.args.parked.now c.args.others.now c.requires.stands c.requires.parked
      (omega (arith, size)) (c.if-not-begin_with_yield.ensures.0 refl) c.requires.valid c.requires.fit (omega (arith, all, slice)),
  λ may.
      let small = few_in_all g.P.Program.next g.P.Program.words g.P.Program.most g.P.Program.valid g.Q.Program.next g.Q.Program.words g.Q.Program.most g.Q.Program.valid c.args.self.now c.args.parked.now c.args.others.now c.requires.stands c.requires.parked may in
      let bound = c.from.ensures in
      let slice = ap (λ (l : List ℕ). total_of l) c.as_slice.ensures.value in
      let all = c.commands_at_most.ensures.1 (omega (arith, small, slice)) in
      le-leb c.commands_at_most.result c.from.result (omega (arith, all, bound)),
)
