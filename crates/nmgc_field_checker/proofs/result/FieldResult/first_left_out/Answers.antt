use Rattle.nmgc_field_checker.proofs.{Vocabulary.Contains, Vocabulary.IsLeftOut, Vocabulary.Left, Vocabulary.arith, Vocabulary.cases_lt, Vocabulary.inl, Vocabulary.inr, Vocabulary.never, Vocabulary.refl, Vocabulary.subst, Vocabulary.sym, Vocabulary.ℕ, Vocabulary.◌+◌, Vocabulary.◌<◌, Vocabulary.◌≡◌, Vocabulary.◌≤◌, ReportLaws.from_listed, ReportLaws.to_listed}
use Rattle.nmgc_field_checker.proofs.result.FieldResult.first_left_out.Goals as goal

pub loop-object-init : goal.loop-object-init
loop-object-init c = λ n lt p. absurd (omega arith)

pub loop-object-preserved : goal.loop-object-preserved
loop-object-preserved c = λ n lt p. elim (cases_lt n c.loop-object.object) [
  | inl less ↦ c.loop-object.invariant n less p
  | inr le ↦
      let same : n ≡ c.loop-object.object = omega arith in
      never (c.if-is_left_out.ensures.1 (subst (λ (k : ℕ). IsLeftOut c.args.self.now c.in_ok-listed.listed.items k) same
      (to_listed c.args.self.now c.args.objects.now c.self.inside.first_new c.in_ok-listed.listed c.in_ok-listed.ensures n p)))
]

pub returns-then-is_left_out : goal.returns-then-is_left_out
returns-then-is_left_out c = (
  from_listed c.args.self.now c.args.objects.now c.self.inside.first_new c.in_ok-listed.listed c.in_ok-listed.ensures c.loop-object.object c.loop-object-test.true
      (c.if-is_left_out.ensures.0 refl),
  λ other p. elim (cases_lt other c.loop-object.object) [ inl less ↦ absurd (c.loop-object.invariant other less p) | inr le ↦ le ],
)

pub returns : goal.returns
returns c = λ n p.
    let below : n < c.self.inside.first_new = c.self.invariant n (subst (λ (l : Left). Contains l.kept.items n) (sym c.self.view_is) p.0) in
    c.loop-object.invariant n (omega arith) p
