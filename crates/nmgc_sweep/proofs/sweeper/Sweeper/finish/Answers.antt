use Rattle.nmgc_sweep.proofs.{Vocabulary.ℕ, Vocabulary.◌≡◌, Vocabulary.length, Vocabulary.subst, Vocabulary.arith, Vocabulary.HasSwept, Vocabulary.HasJudged, Begins.waiting_counted, Steps.is_none}
use Rattle.nmgc_sweep.proofs.sweeper.Sweeper.finish.Goals as goal

pub returns-clause-swept : goal.returns-clause-swept
returns-clause-swept g c =
    let left = c.args.self.now.left in
    let all = waiting_counted c.args.segments.now left c.args.segments.now.segments c.requires.left.numbers in
    let waiting = c.sweep_count-waiting.ensures in
    let many = c.sweep_some.ensures.many in
    let same : c.sweep_some.result ≡ length left = omega (arith, all, waiting, many) in
    subst (λ (k : ℕ). HasSwept c.args.segments.now c.sweep_some.new.segments c.args.names.now c.args.self.now c.sweep_some.new.self k) same
    c.sweep_some.ensures.swept

pub returns-clause-judged : goal.returns-clause-judged
returns-clause-judged g c =
    let left = c.args.self.now.left in
    let all = waiting_counted c.args.segments.now left c.args.segments.now.segments c.requires.left.numbers in
    let waiting = c.sweep_count-waiting.ensures in
    let many = c.sweep_some.ensures.many in
    let same : c.sweep_some.result ≡ length left = omega (arith, all, waiting, many) in
    subst (λ (k : ℕ). HasJudged c.args.segments.now c.sweep_some.new.segments c.args.names.now c.args.self.now c.sweep_some.new.self k) same
    c.sweep_some.ensures.judged

pub returns-clause-finished : goal.returns-clause-finished
returns-clause-finished g c =
    let all = waiting_counted c.args.segments.now c.args.self.now.left c.args.segments.now.segments c.requires.left.numbers in
    let waiting = c.sweep_count-waiting.ensures in
    let many = c.sweep_some.ensures.many in
    let fewer = c.sweep_some.ensures.swept.fewer in
    is_none c.sweep_some.new.self.left (omega (arith, all, waiting, many, fewer))
