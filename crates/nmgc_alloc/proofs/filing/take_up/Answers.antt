use Rattle.nmgc_alloc.proofs.{Vocabulary.ℕ, Vocabulary.ap, Vocabulary.arith, Vocabulary.slice_index_or, Vocabulary.tally_from, FilingLaws.taken_free, FilingLaws.taken_class, FilingLaws.taken_all, FilingLaws.few_taken}
use Rattle.nmgc_alloc.specs.declared.search.Category.TheVariants as category
use Rattle.nmgc_alloc.proofs.filing.take_up.Goals as goal

pub overflow_add-lower : goal.overflow_add-lower
overflow_add-lower c = omega (arith, c.requires.few category.Free tt)

pub enter_many-requires-clause-count : goal.enter_many-requires-clause-count
enter_many-requires-clause-count c =
    let few = c.requires.few category.Free tt in
    let read = ap (λ (k : ℕ). (slice_index_or c.args.tallies.now k (tally_from 0 0)).count) c.place.ensures in
    omega (arith, few, read)

pub overflow_add-gain : goal.overflow_add-gain
overflow_add-gain c = omega (arith, c.requires.few (category.Active c.loop-class.class) c.loop-class-test.true)

pub enter_many-requires-in-loop-class-clause-count : goal.enter_many-requires-in-loop-class-clause-count
enter_many-requires-in-loop-class-clause-count c =
    few_taken c.args.lower.now c.args.upper.now c.args.from c.args.end c.loop-class.class c.args.tallies.now c.loop-class.tallies
    c.place-in-loop-class.result c.loop-class-test.true c.place-in-loop-class.ensures c.loop-class.invariant c.requires.few

pub loop-class-init : goal.loop-class-init
loop-class-init c =
    taken_free c.args.lower.now c.args.upper.now c.args.from c.args.end c.args.tallies.now c.place.result c.enter_many.new.self
    c.requires.kinds c.place.ensures c.enter_many.ensures

pub loop-class-preserved : goal.loop-class-preserved
loop-class-preserved c =
    taken_class c.args.lower.now c.args.upper.now c.args.from c.args.end c.loop-class.class c.args.tallies.now c.loop-class.tallies
    c.place-in-loop-class.result c.enter_many-in-loop-class.new.self c.loop-class-test.true c.place-in-loop-class.ensures
    c.enter_many-in-loop-class.ensures c.loop-class.invariant

pub returns-clause-each : goal.returns-clause-each
returns-clause-each c =
    taken_all c.args.lower.now c.args.upper.now c.args.from c.args.end c.loop-class.class c.args.tallies.now c.loop-class.tallies
    c.loop-class-test.false c.loop-class.invariant
