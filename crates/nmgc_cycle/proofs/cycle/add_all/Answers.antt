use Rattle.nmgc_cycle.proofs.{Vocabulary.List, Vocabulary.ℕ, Vocabulary.◌≡◌, Vocabulary.take, Vocabulary.get_or, Vocabulary.sym, Vocabulary.subst, Vocabulary.◌∙◌, Vocabulary.arith, Vocabulary.slice_get-get_or, Vocabulary.get_or_from_slice_get, Vocabulary.Mutator, Vocabulary.remembered, Vocabulary.HasAdded, Vocabulary.remembered_by, Vocabulary.item, stops.Adding.added_none, stops.Adding.added_then, stops.Adding.remembered_more, stops.Forgetting.any_then, stops.Forgetting.forgot_after, stops.Forgetting.forgot_enough, stops.Forgetting.forgot_more, stops.Forgetting.forgot_none}
use Rattle.nmgc_cycle.proofs.cycle.add_all.Goals as goal

pub loop-number-init : goal.loop-number-init
loop-number-init c = record {
  added = added_none c.args.segments.now c.args.marker.now c.requires.room;
  forgot = forgot_none c.args.inbox.now c.args.mutators.now c.requires.lines;
}

pub overflow_cast-number : goal.overflow_cast-number
overflow_cast-number c = let few = c.requires.lines.few in let lt = c.loop-number-test.true in omega (arith, few, lt)

pub add_one-requires-clause-line : goal.add_one-requires-clause-line
add_one-requires-clause-line c =
    let h = c.loop-number.invariant.forgot in
    let lt = c.loop-number-test.true in
    let count = h.count in
    let m : Mutator = get_or c.loop-number.mutators c.loop-number.number c.index-mutators-number.result in
    h.lines c.loop-number.number m (slice_get-get_or c.loop-number.mutators c.loop-number.number c.index-mutators-number.result (omega (arith, lt, count)))

pub loop-number-preserved : goal.loop-number-preserved
loop-number-preserved c =
    let h = c.loop-number.invariant.forgot in
    let lt = c.loop-number-test.true in
    let count = h.count in
    let k = c.loop-number.number in
    let ms : List Mutator = c.args.mutators.now in
    let m : Mutator = get_or c.loop-number.mutators k c.index-mutators-number.result in
    let n : Mutator = c.add_one.new.mutator in
    let at = slice_get-get_or c.loop-number.mutators k c.index-mutators-number.result (omega (arith, lt, count)) in
    let first = item ms k lt in
    let same : m ≡ first.0 = h.others k first.0 m (omega arith) first.1 at in
    let is : m ≡ get_or ms k m = same ∙ sym (get_or_from_slice_get ms k first.0 m first.1) in
    let one : HasAdded (remembered (get_or ms k m)) c.loop-number.segments c.add_one.new.segments c.loop-number.marker c.add_one.new.marker =
    subst (λ (x : Mutator).
    HasAdded (remembered x) c.loop-number.segments c.add_one.new.segments c.loop-number.marker c.add_one.new.marker) is c.add_one.ensures.added in
    record {
      added =
          subst (λ (all : List ℕ). HasAdded all c.args.segments.now c.add_one.new.segments c.args.marker.now c.add_one.new.marker) (remembered_more ms k m lt)
          (added_then (remembered_by (take k ms)) (remembered (get_or ms k m)) c.args.segments.now c.loop-number.segments c.add_one.new.segments
          c.args.marker.now c.loop-number.marker c.add_one.new.marker c.loop-number.invariant.added one);
      forgot = forgot_more c.args.inbox.now c.loop-number.inbox c.forget.new.inbox ms c.loop-number.mutators k m c.forget.new.mutator h at
          (forgot_after m n c.forget.new.mutator c.add_one.ensures.mutator c.forget.ensures.forgot)
          (any_then k c.loop-number.inbox c.add_one.new.inbox c.forget.new.inbox c.add_one.ensures.inbox c.forget.ensures.inbox) c.forget.ensures.line;
    }

pub returns-clause-forgot : goal.returns-clause-forgot
returns-clause-forgot c =
    let past = c.loop-number-test.false in
    let end = c.loop-number.auto.number-end in
    forgot_enough c.loop-number.number c.args.inbox.now c.loop-number.inbox c.args.mutators.now c.loop-number.mutators (omega (
      arith,
      past,
      end,
    )) c.loop-number.invariant.forgot
