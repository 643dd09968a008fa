use Rattle.std.proofs.Common.{List, ap, sym, ℕ, ◌∙◌}
use Rattle.nmgc_field_reader.specs.FieldLines.{known_by}
use Rattle.nmgc_field_reader.proofs.NameLaws.{same_lookup}
use Rattle.nmgc_field_reader.proofs.names.FieldNames.object.Goals as goal

pub returns : goal.returns
returns c =
    c.copied.ensures ∙ c.get.ensures.value ∙ sym (same_lookup c.self.inside.objects.entries c.args.name.now) ∙
    ap (λ (l : List (List ℕ × ℕ)). known_by l c.args.name.now) c.self.view_is
