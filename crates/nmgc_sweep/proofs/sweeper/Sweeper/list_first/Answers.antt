use Rattle.nmgc_sweep.proofs.{Vocabulary.ℕ, Vocabulary.◌≡◌, Vocabulary.List, Vocabulary.length, Vocabulary.ap, Vocabulary.subst, Vocabulary.arith, Vocabulary.HaveListed, Steps.can_list_next, Steps.listed_fewer, Steps.listed_more}
use Rattle.nmgc_sweep.proofs.sweeper.Sweeper.list_first.Goals as goal

pub list_next-requires-clause-some : goal.list_next-requires-clause-some
list_next-requires-clause-some c = λ none.
    let zero_left : length c.loop-listed.self.left ≡ 0 = ap (λ (l : List ℕ). length l) none in
    let fewer = c.loop-listed.invariant.fewer in
    let low = c.loop-listed-test.true in
    let enough = c.requires.enough in
    omega (arith, zero_left, fewer, low, enough)

pub loop-listed-preserved : goal.loop-listed-preserved
loop-listed-preserved c =
    let was = c.loop-listed.invariant.fewer in
    let one = listed_fewer c.args.segments.now c.args.names.now c.loop-listed.self c.list_next.new.self c.list_next.ensures in
    record {
      done = listed_more c.args.segments.now c.args.names.now c.loop-listed._listed c.args.self.now c.loop-listed.self c.list_next.new.self
          c.loop-listed.invariant.done c.list_next.ensures;
      can = can_list_next c.args.segments.now c.args.names.now c.loop-listed.self c.list_next.new.self c.loop-listed.invariant.can c.list_next.ensures;
      fewer = omega (arith, was, one);
    }

pub returns : goal.returns
returns c =
    let end = c.loop-listed.auto._listed-end in
    let all : c.loop-listed._listed ≡ c.args.count = omega (arith, c.loop-listed-test.false, end) in
    subst (λ (k : ℕ). HaveListed c.args.segments.now c.args.names.now k c.args.self.now c.loop-listed.self) all c.loop-listed.invariant.done
