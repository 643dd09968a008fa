use Rattle.nmgc_graph.proofs.{Vocabulary.arith, Vocabulary.◌≡◌, Vocabulary.◌+◌, Vocabulary.◌-◌, Vocabulary.IsWorld, Filing.passing_begins, Filing.passing_places, Filing.passing_falls, Filing.passing_goes_on, Filing.passing_ends}
use Rattle.nmgc_graph.proofs.world.World.revive.Goals as goal

pub loop-bound-init : goal.loop-bound-init
loop-bound-init c =
    rw c.bound-bound.ensures (passing_begins c.args.self.now c.args.weaks.now c.args.name c.args.waiting.now c.requires.filed c.args.search.now)

pub mark_weak-requires : goal.mark_weak-requires
mark_weak-requires c =
    let w = c.args.self.now in
    let h : IsWorld w = rw (← c.self.view_is) c.self.invariant in
    passing_places w c.args.weaks.now c.args.name c.args.waiting.now c.requires.filed c.args.search.now c.loop-bound.search c.loop-bound.bound
    c.loop-bound.invariant h c.requires.places

pub bounds-weaks-place : goal.bounds-weaks-place
bounds-weaks-place c = omega (arith, c.loop-bound.invariant.within)

pub bound_before-bound-requires : goal.bound_before-bound-requires
bound_before-bound-requires c = omega (arith, c.loop-bound.invariant.within, c.requires.filed.counted)

pub loop-bound-smaller : goal.loop-bound-smaller
loop-bound-smaller c =
    let e : c.loop-bound.bound ≡ c.loop-bound.bound - 1 + 1 = omega arith in
    rw c.bound_before-bound.ensures (passing_falls c.args.self.now c.args.weaks.now c.args.name c.args.waiting.now c.requires.filed
    c.args.search.now c.loop-bound.search c.loop-bound.bound c.loop-bound.invariant (c.loop-bound.bound - 1) e)

pub loop-bound-preserved : goal.loop-bound-preserved
loop-bound-preserved c =
    let e : c.loop-bound.bound ≡ c.loop-bound.bound - 1 + 1 = omega arith in
    rw (
      c.in_ok-mark_weak.ensures,
      c.bound_before-bound.ensures,
    ) (passing_goes_on c.args.self.now c.args.weaks.now c.args.name c.args.waiting.now c.requires.filed
    c.args.search.now c.loop-bound.search c.loop-bound.bound c.loop-bound.invariant (c.loop-bound.bound - 1) e)

pub returns : goal.returns
returns c =
    passing_ends c.args.self.now c.args.weaks.now c.args.name c.args.waiting.now c.requires.filed c.args.search.now c.loop-bound.search
    c.loop-bound.bound c.loop-bound.invariant (omega arith)
