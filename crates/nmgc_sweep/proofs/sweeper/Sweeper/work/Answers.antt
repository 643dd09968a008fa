use Rattle.nmgc_sweep.proofs.{Vocabulary.ℕ, Vocabulary.◌≡◌, Vocabulary.◌-◌, Vocabulary.◌/◌, Vocabulary.◌∙◌, Vocabulary.ap, Vocabulary.sym, Vocabulary.subst, Vocabulary.passed, Vocabulary.Sweeper, Vocabulary.HasSwept, Vocabulary.HasJudged, Judged.judged_counted, Steps.swept_counted}
use Rattle.nmgc_sweep.proofs.sweeper.Sweeper.work.Goals as goal

pub returns-clause-swept : goal.returns-clause-swept
returns-clause-swept g c =
    let old = c.args.segments.now in
    let new = c.sweep_some-swept.new.segments in
    let turns = c.add_passes-self-inside.result in
    let upper = c.add_passes-self-inside-2.result in
    subst (λ (s : Sweeper). HasSwept old new c.args.names.now c.args.self.now (record s {
      turns = turns;
      upper_turns = upper;
    }) c.sweep_some-swept.result) (sym c.self-2.view_is)
    (swept_counted old new c.args.names.now c.args.self.now c.sweep_some-swept.new.self turns upper c.sweep_some-swept.result c.sweep_some-swept.ensures.swept)

pub returns-clause-judged : goal.returns-clause-judged
returns-clause-judged g c =
    let old = c.args.segments.now in
    let new = c.sweep_some-swept.new.segments in
    let turns = c.add_passes-self-inside.result in
    let upper = c.add_passes-self-inside-2.result in
    subst (λ (s : Sweeper). HasJudged old new c.args.names.now c.args.self.now (record s {
      turns = turns;
      upper_turns = upper;
    }) c.sweep_some-swept.result) (sym c.self-2.view_is)
    (judged_counted old new c.args.names.now c.args.self.now c.sweep_some-swept.new.self turns upper
    c.sweep_some-swept.result c.sweep_some-swept.ensures.judged)

pub returns-clause-turns : goal.returns-clause-turns
returns-clause-turns g c =
    let was : c.self.inside.turns ≡ c.args.self.now.turns = ap (λ (s : Sweeper). s.turns) c.self.view_is in
    c.add_passes-self-inside.ensures ∙ ap (λ (n : ℕ). passed n (c.sweep_some-swept.result - c.sweep_some-swept.result / 2)) was

pub returns-clause-upper_turns : goal.returns-clause-upper_turns
returns-clause-upper_turns g c =
    let was : c.self.inside.upper_turns ≡ c.args.self.now.upper_turns = ap (λ (s : Sweeper). s.upper_turns) c.self.view_is in
    c.add_passes-self-inside-2.ensures ∙ ap (λ (n : ℕ). passed n (c.sweep_some-swept.result / 2)) was
