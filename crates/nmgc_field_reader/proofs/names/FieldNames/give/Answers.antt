use Rattle.std.proofs.Common.{List, Some, subst, ℕ, ◌≡◌}
use Rattle.nmgc_field_reader.specs.FieldLines.{has_name, known_by, names_of}
use Rattle.nmgc_field_reader.proofs.NameLaws.{renamed}
use Rattle.nmgc_field_reader.proofs.names.FieldNames.give.Goals as goal

pub returns : goal.returns
returns c = λ word.
    subst (λ (l : List (List ℕ × ℕ)). known_by (names_of c.insert.new.self.entries) word ≡ has_name c.args.name.now (Some c.args.object) (known_by l) word) c.self.view_is
    (subst (λ (n : List ℕ). known_by (names_of c.insert.new.self.entries) word ≡ has_name n (Some c.args.object)
    (known_by (names_of c.self.inside.objects.entries)) word) c.in_ok-key.ensures.items
    (renamed c.self.inside.objects.entries c.insert.new.self.entries c.in_ok-key.key.items (Some c.args.object) c.in_ok-insert.ensures.updates.1
    c.in_ok-insert.ensures.updates.3 word))
