use Rattle.nmgc_field_checker.proofs.{Vocabulary.IsLeastIf, Vocabulary.IsLeftOut, Vocabulary.Option, Vocabulary.subst, Vocabulary.sym, Vocabulary.ℕ, Vocabulary.◌∙◌, LineLaws.has_or, ReportLaws.black_is}
use Rattle.nmgc_field_checker.proofs.result.FieldResult.reason_against_black.Goals as goal

pub returns-in-None-first_not_kept : goal.returns-in-None-first_not_kept
returns-in-None-first_not_kept c = black_is c.args.self.now c.args.objects.now (sym c.has_freed.ensures ∙ c.if-has_freed.false) (subst (λ (o : Option ℕ). IsLeastIf (IsLeftOut c.args.self.now c.args.objects.now) o) c.in-None.is c.in_ok-object.ensures) c.in_default.ensures (has_or c.args.self.now.heap) c.in-None-first_not_kept.ensures
