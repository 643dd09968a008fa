use Rattle.nmgc_barrier_checker.proofs.{Vocabulary.◌≡◌, Vocabulary.◌<◌, Vocabulary.◌∙◌, Vocabulary.ℕ, Vocabulary.List, Vocabulary.Option, Vocabulary.false, Vocabulary.ap, Vocabulary.sym, Vocabulary.subst, Vocabulary.Value, Vocabulary.Watch, Vocabulary.AreHeldIf, Vocabulary.IsStep, Vocabulary.is_stopped, Vocabulary.put_back, Vocabulary.AreKnownIn, Borrowed.acted_count, Borrowed.acted_known, Borrowed.held_none, Borrowed.held_parts, RowLaws.counts_borrowed, RowLaws.rows_step, RowLaws.rows_absent, RowLaws.rows_stopped}
use Rattle.nmgc_barrier_checker.specs.declared.event.Event.TheVariants as event
use Rattle.nmgc_barrier_checker.proofs.watch.Watch.do_line.Goals as goal

pub returns-then-is_stopped-clause-step : goal.returns-then-is_stopped-clause-step
returns-then-is_stopped-clause-step c =
    rows_stopped c.args.line c.args.mutator c.args.borrowed.now c.args.tasks.now c.args.self.now (sym c.is_stopped.ensures ∙ c.if-is_stopped.true)

pub returns-in_default-clause-step : goal.returns-in_default-clause-step
returns-in_default-clause-step c =
    let going : is_stopped c.args.self.now ≡ false = sym c.is_stopped.ensures ∙ c.if-is_stopped.false in
    rows_absent c.args.line c.args.mutator c.args.borrowed.now c.args.tasks.now c.args.self.now going
    (held_none c.args.mutator c.args.self.now going
    (subst (λ (o : Option (List Value)). AreHeldIf c.args.mutator c.args.self.now o) c.in_default.is c.in_ok-held.ensures))

pub put_back-requires-clause-mutator : goal.put_back-requires-clause-mutator
put_back-requires-clause-mutator c =
    let going : is_stopped c.args.self.now ≡ false = sym c.is_stopped.ensures ∙ c.if-is_stopped.false in
    let parts = held_parts c.args.mutator c.args.self.now c.in-Some.held going
    (subst (λ (o : Option (List Value)). AreHeldIf c.args.mutator c.args.self.now o) c.in-Some.is c.in_ok-held.ensures) in
    subst (λ (n : ℕ). c.args.mutator < n)
    (sym (acted_count c.args.line c.args.mutator c.args.tasks.now c.args.self.now c.act_all-2.new.self c.in_ok-why.why c.in_ok-why.ensures.acted)) parts.0

pub put_back-requires-clause-known : goal.put_back-requires-clause-known
put_back-requires-clause-known c =
    let going : is_stopped c.args.self.now ≡ false = sym c.is_stopped.ensures ∙ c.if-is_stopped.false in
    let parts = held_parts c.args.mutator c.args.self.now c.in-Some.held going
    (subst (λ (o : Option (List Value)). AreHeldIf c.args.mutator c.args.self.now o) c.in-Some.is c.in_ok-held.ensures) in
    subst (AreKnownIn c.act_all-2.new.self) (sym c.items.ensures)
    (acted_known c.args.line c.args.mutator c.args.tasks.now c.args.self.now c.act_all-2.new.self c.in_ok-why.why c.in-Some.held
    c.in_ok-why.ensures.acted parts.2)

pub returns-clause-step : goal.returns-clause-step
returns-clause-step c =
    let going : is_stopped c.args.self.now ≡ false = sym c.is_stopped.ensures ∙ c.if-is_stopped.false in
    let parts = held_parts c.args.mutator c.args.self.now c.in-Some.held going
    (subst (λ (o : Option (List Value)). AreHeldIf c.args.mutator c.args.self.now o) c.in-Some.is c.in_ok-held.ensures) in
    subst (λ (q : Watch). IsStep c.args.line c.args.self.now (event.Rows c.args.mutator c.args.borrowed.now c.args.tasks.now) c.in_ok-why.why q)
    (sym (c.put_back.ensures ∙ ap (λ (l : List Value). put_back c.args.mutator l c.args.borrowed.now c.act_all-2.new.self)
    (c.items.ensures ∙ parts.1)))
    (rows_step c.args.line c.args.mutator c.args.borrowed.now c.args.tasks.now c.args.self.now c.act_all-2.new.self c.in_ok-why.why
    going parts.0 c.in_ok-why.ensures.acted)

pub returns-clause-dues : goal.returns-clause-dues
returns-clause-dues c =
    counts_borrowed c.args.line c.args.mutator c.args.borrowed.now c.args.tasks.now c.args.self.now c.in_ok-why.why c.args.dues.now
    c.act_all-2.new.dues c.in_ok-why.ensures.dues
