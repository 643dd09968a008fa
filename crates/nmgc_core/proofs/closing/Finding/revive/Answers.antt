use Rattle.std.proofs.Common.{arith, length, ap, ◌≡◌, ◌<◌}
use Rattle.nmgc_core.proofs.Reviving.{listed_wait, first_followed, first_found, empty_list, some_list}
use Rattle.nmgc_core.proofs.closing.Finding.revive.Goals as goal

pub mark_weaks-requires : goal.mark_weaks-requires
mark_weaks-requires c = record { reviving = c.requires.reviving; waiting = listed_wait c.args.core.now c.args.weaks.now c.requires.waiting }

pub loop-self-init : goal.loop-self-init
loop-self-init c = record { reviving = c.in_ok-mark_weaks.ensures.reviving; revived = c.in_ok-mark_weaks.ensures.revived }

pub mark_weaks-requires-in-loop-self : goal.mark_weaks-requires-in-loop-self
mark_weaks-requires-in-loop-self c = record {
  reviving = first_followed c.args.core.now c.loop-self.self c.follow.new.self c.loop-self.invariant.reviving c.in_ok-follow.ensures.followed;
  waiting = listed_wait c.args.core.now c.args.weaks.now c.requires.waiting;
}

pub loop-self-smaller : goal.loop-self-smaller
loop-self-smaller c =
    let none : length c.follow.new.self.work ≡ 0 = ap length c.in_ok-follow.ensures.empty in
    let some : 0 < length c.loop-self.self.work = some_list c.loop-self.self.work c.items.result.now c.items.ensures c.loop-self-test.ensures in
    omega (arith, c.in_ok-mark_weaks-2.ensures.count, none, some, c.in_ok-follow.ensures.followed.fewer)

pub loop-self-preserved : goal.loop-self-preserved
loop-self-preserved c = record { reviving = c.in_ok-mark_weaks-2.ensures.reviving; revived = c.in_ok-mark_weaks-2.ensures.revived }

pub returns : goal.returns
returns c =
    first_found c.args.core.now c.args.weaks.now c.requires.waiting c.loop-self.self c.loop-self.invariant.reviving c.loop-self.invariant.revived
    (empty_list c.loop-self.self.work c.items.result.now c.items.ensures c.loop-self-test.ensures)
