use Rattle.std.proofs.Common.{ℕ, ◌≡◌, ◌≤◌, ◌<◌, ◌-◌, arith, inr, length, refl, subst}
use Rattle.nmgc_world_spec.specs.World.{Fits}
use Rattle.nmgc_live.specs.Meanings.{IsFullIn}
use Rattle.nmgc_live.proofs.Judging.{full_in, line_is_for, number_bad, word_bad}
use Rattle.nmgc_live.proofs.session.judge_command.Goals as goal

pub returns-in_default-clause-judged : goal.returns-in_default-clause-judged
returns-in_default-clause-judged c has_help give =
    let s = c.args.session.now in
    let count = c.args.heap.count in
    let most = c.saturating_sub-most.result in
    let same = c.requires.heap.1 in
    let least = c.requires.session.some in
    let some : 1 ≤ count = omega (arith, same, least) in
    let most_is : most ≡ count - 1 = c.saturating_sub-most.ensures in (
      refl,
      word_bad c.args.heap.words count most has_help (IsFullIn s) c.args.line.now c.fault_of_word.result most_is some give c.in_default.ensures.none
          c.fault_of_word.ensures,
    )

pub returns-in_default-read_number-clause-judged : goal.returns-in_default-read_number-clause-judged
returns-in_default-read_number-clause-judged c has_help give =
    let s = c.args.session.now in
    let count = c.args.heap.count in
    let most = c.saturating_sub-most.result in
    let same = c.requires.heap.1 in
    let least = c.requires.session.some in
    let some : 1 ≤ count = omega (arith, same, least) in
    let most_is : most ≡ count - 1 = c.saturating_sub-most.ensures in (
      refl,
      number_bad c.args.heap.words count most has_help (IsFullIn s) c.args.line.now c.in-Some.number.now c.in-Some.rest.now most_is some give
          c.in-Some.ensures.parts c.in-Some.ensures.first c.in_default-read_number.ensures.none,
    )

pub returns-then-not-has_room-clause-judged : goal.returns-then-not-has_room-clause-judged
returns-then-not-has_room-clause-judged c has_help give =
    let s = c.args.session.now in
    let count = c.args.heap.count in
    let most = c.saturating_sub-most.result in
    let same = c.requires.heap.1 in
    let least = c.requires.session.some in
    let some : 1 ≤ count = omega (arith, same, least) in
    let most_is : most ≡ count - 1 = c.saturating_sub-most.ensures in
    let m = c.in-Some-read_number.number in
    let found = c.in-Some-read_number.ensures.found in
    let within = found.1 in
    let lt : m < length s.queues.items = omega (arith, within, most_is, some, same) in
    let rest = c.in-Some.rest.now in (
      refl,
      inr (
        m,
        (
          c.in-Ok.command,
          (
            rest,
            line_is_for count most m c.args.line.now c.in-Some.number.now rest most_is some c.in-Some.ensures.parts found.0 within,
            c.in-Ok.ensures.command,
          ),
          full_in s m c.has_room.result lt c.if-not-has_room.true (λ q e h. (c.has_room.ensures q e).1 h),
        ),
      ),
    )

pub push-requires-clause-fits : goal.push-requires-clause-fits
push-requires-clause-fits c = subst (λ (w : ℕ). Fits w c.in-Ok.command) c.requires.heap.0 c.in-Ok.ensures.fits
