use Rattle.std.proofs.Common.{List, get_or, map, refl, subst, sym, take, ℕ, ◌≡◌}
use Rattle.std.proofs.lemmas.List.{map_more, take_all}
use Rattle.nmgc_field_reader.specs.FieldLines.{known_by, without}
use Rattle.nmgc_field_reader.proofs.NameLaws.{without_one_more}
use Rattle.nmgc_field_reader.proofs.names.FieldNames.forget_all.Goals as goal

pub loop-name-init : goal.loop-name-init
loop-name-init c = λ word. refl

pub loop-name-preserved : goal.loop-name-preserved
loop-name-preserved c = λ word.
    subst (λ (l : List (List ℕ)). known_by c.forget.new.self word ≡ without l (known_by c.args.self.now) word)
    (sym (map_more (λ w. w.now) c.args.names.now c.loop-name.name-index _ c.loop-name-test.true))
    (without_one_more (map (λ w. w.now) (take c.loop-name.name-index c.args.names.now)) _ c.args.self.now c.loop-name.self c.forget.new.self
    c.loop-name.invariant c.forget.ensures word)

pub returns : goal.returns
returns c = λ word.
    subst (λ l. known_by c.loop-name.self word ≡ without (map (λ w. w.now) l) (known_by c.args.self.now) word)
    (take_all c.loop-name.name-index c.args.names.now c.loop-name-test.false) (c.loop-name.invariant word)
