use Rattle.nmgc_field_checker.proofs.{Vocabulary.Joins, Vocabulary.List, Vocabulary.None, Vocabulary.Objects, Vocabulary.Option, Vocabulary.flat_map, Vocabulary.get_or, Vocabulary.length, Vocabulary.option_to_list, Vocabulary.subst, Vocabulary.sym, Vocabulary.take, Vocabulary.take_all, Vocabulary.ℕ, FollowLaws.targets_added, FollowLaws.targets_more, SetLaws.grows_more, SetLaws.grows_none, SetLaws.joins_lists, SetLaws.joins_none}
use Rattle.nmgc_field_checker.proofs.search.add_targets.Goals as goal

pub loop-field-init : goal.loop-field-init
loop-field-init c = record { joins = joins_none c.args.found.now; grows = grows_none c.args.found.now.items }

pub loop-field-preserved : goal.loop-field-preserved
loop-field-preserved c =
    let fields = c.fields-field-items.result.now in
    record {
      joins = subst (λ (l : List ℕ). Joins c.args.found.now l c.add_target.new.found) (sym (targets_more fields c.loop-field.field-index None c.loop-field-test.true))
          (joins_lists c.args.found.now c.loop-field.found c.add_target.new.found (flat_map option_to_list (take c.loop-field.field-index fields))
          (option_to_list (get_or fields c.loop-field.field-index None)) c.loop-field.invariant.joins c.in_ok-add_target.ensures.joins);
      grows = grows_more c.args.found.now.items c.loop-field.found.items c.add_target.new.found.items c.loop-field.invariant.grows c.add_target.ensures.grows;
    }

pub returns : goal.returns
returns c =
    let fields = c.fields-field-items.result.now in
    targets_added c.args.heap.now c.args.object fields c.args.found.now c.loop-field.found c.fields-field-items.ensures.fields c.fields-field-items.ensures.below
    c.requires (subst (λ (l : List (Option ℕ)). Joins c.args.found.now (flat_map option_to_list l) c.loop-field.found)
    (take_all c.loop-field.field-index fields c.loop-field-test.false) c.loop-field.invariant.joins) c.loop-field.invariant.grows
