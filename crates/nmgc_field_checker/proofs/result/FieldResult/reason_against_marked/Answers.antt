use Rattle.nmgc_field_checker.proofs.{Vocabulary.IsLeastIf, Vocabulary.IsLeftOut, Vocabulary.Option, Vocabulary.subst, Vocabulary.sym, Vocabulary.ℕ, Vocabulary.◌∙◌, ReportLaws.marked_is}
use Rattle.nmgc_field_checker.proofs.result.FieldResult.reason_against_marked.Goals as goal

pub returns-in-None-first_unkept : goal.returns-in-None-first_unkept
returns-in-None-first_unkept c = marked_is c.args.self.now c.args.objects.now (sym c.has_freed.ensures ∙ c.if-has_freed.false) (subst (λ (o : Option ℕ). IsLeastIf (IsLeftOut c.args.self.now c.args.objects.now) o) c.in-None.is c.in_ok-object.ensures) c.in-None-first_unkept.ensures
