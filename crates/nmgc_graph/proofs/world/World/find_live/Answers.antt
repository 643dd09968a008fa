use Rattle.nmgc_graph.proofs.{Vocabulary.arith, Vocabulary.List, Vocabulary.sym, Vocabulary.subst, Vocabulary.◌∙◌, Vocabulary.IsWorld, Vocabulary.IsLiveFound, Vocabulary.Name, Lives.live_passed, Lives.pass_revives, Lives.scanned_places, Lives.live_goes_on, Lives.live_count, Lives.revival_goes_on, Lives.live_found}
use Rattle.nmgc_graph.proofs.world.World.find_live.Goals as goal

pub loop-name-init : goal.loop-name-init
loop-name-init c =
    let w = c.args.self.now in
    let h : IsWorld w = rw (← c.self.view_is) c.self.invariant in
    let s = c.in_ok-search.search in
    rw c.in_ok-mark_weaks.ensures (
      live_passed w h c.args.extra.now c.args.weaks.now s c.in_ok-search.ensures,
      pass_revives w h c.args.extra.now c.args.weaks.now s c.in_ok-search.ensures c.requires.weaks.complete,
    )

pub revive-requires-clause-places : goal.revive-requires-clause-places
revive-requires-clause-places c =
    let w = c.args.self.now in
    let h : IsWorld w = rw (← c.self.view_is) c.self.invariant in
    rw c.in_ok-mark_fields.ensures (scanned_places w h c.args.extra.now c.loop-name.search c.pop.new.self c.in-Some.name c.in-Some.ensures.last
    c.loop-name.invariant.0)

pub loop-name-smaller : goal.loop-name-smaller
loop-name-smaller c =
    let w = c.args.self.now in
    let h : IsWorld w = rw (← c.self.view_is) c.self.invariant in
    let count = live_count w h c.args.extra.now c.loop-name.search c.pop.new.self c.in-Some.name c.in-Some.ensures.last c.loop-name.invariant.0
    c.args.weaks.now c.revive.new.search (rw c.in_ok-mark_fields.ensures at c.in_ok-revive.ensures) in
    omega (arith, count)

pub loop-name-preserved : goal.loop-name-preserved
loop-name-preserved c =
    let w = c.args.self.now in
    let h : IsWorld w = rw (← c.self.view_is) c.self.invariant in
    let v = rw c.in_ok-mark_fields.ensures at c.in_ok-revive.ensures in
    let s = c.loop-name.search in (
      live_goes_on w h c.args.extra.now s c.pop.new.self c.in-Some.name c.in-Some.ensures.last c.loop-name.invariant.0 c.args.weaks.now
          c.revive.new.search v,
      revival_goes_on w h c.args.extra.now s c.pop.new.self c.in-Some.name c.in-Some.ensures.last c.loop-name.invariant.0 c.args.weaks.now
          c.revive.new.search v c.requires.weaks.complete c.loop-name.invariant.1,
    )

pub returns : goal.returns
returns c =
    let w = c.args.self.now in
    let h : IsWorld w = rw (← c.self.view_is) c.self.invariant in
    let s = c.loop-name.search in
    let P : List Name → Type 0 = λ work. IsLiveFound w c.args.extra.now (record { marks = s.marks; work = work }) in
    subst P (c.in_default.ensures.empty.0 ∙ sym c.in_default.ensures.empty.1) (live_found w h c.args.extra.now s c.loop-name.invariant.0
    c.loop-name.invariant.1 c.in_default.ensures.empty.0)
