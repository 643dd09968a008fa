use Rattle.std.proofs.Common.{List, None, subst, ℕ, ◌≡◌}
use Rattle.nmgc_field_reader.specs.FieldLines.{has_name, known_by, names_of}
use Rattle.nmgc_field_reader.proofs.NameLaws.{renamed}
use Rattle.nmgc_field_reader.proofs.names.FieldNames.forget.Goals as goal

pub returns : goal.returns
returns c = λ word.
    subst (λ (l : List (List ℕ × ℕ)). known_by (names_of c.remove.new.self.entries) word ≡ has_name c.args.name.now None (known_by l) word) c.self.view_is
    (renamed c.self.inside.objects.entries c.remove.new.self.entries c.args.name.now None c.remove.ensures.updates.1 c.remove.ensures.updates.3 word)
