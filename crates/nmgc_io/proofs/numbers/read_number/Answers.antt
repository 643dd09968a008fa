use Rattle.std.proofs.Common.{◌≡◌, length, arith, refl}
use Rattle.nmgc_io.proofs.Digits.{begins, stops, reads_whole, single, one_found, one_none}
use Rattle.nmgc_io.proofs.numbers.read_number.Goals as goal

pub returns-then-word-eq1-clause-found : goal.returns-then-word-eq1-clause-found
returns-then-word-eq1-clause-found c =
    let one : length c.args.word.now ≡ 1 = omega arith in
    one_found c.args.word.now _ c.args.limit c.with_digit.result (single c.args.word.now one) c.with_digit.ensures.digit c.with_digit.ensures.within

pub returns-then-word-eq1-clause-none : goal.returns-then-word-eq1-clause-none
returns-then-word-eq1-clause-none c =
    let one : length c.args.word.now ≡ 1 = omega arith in
    one_none c.args.word.now c.args.limit c.with_digit.result (omega arith) one c.with_digit.ensures.none

pub returns-then-not-has_no_leading_zero-clause-none : goal.returns-then-not-has_no_leading_zero-clause-none
returns-then-not-has_no_leading_zero-clause-none c n le e =
    let begin = begins n c.args.word.now (omega arith) e in
    let is_true = c.has_no_leading_zero.ensures.1 begin in cc

pub returns-in_err-number-clause-none : goal.returns-in_err-number-clause-none
returns-in_err-number-clause-none c =
    rw c.from_residual.ensures (λ n le e.
    stops c.loop-byte.number c.args.limit n c.loop-byte.byte-index c.args.word.now (omega arith) (omega arith) c.loop-byte.invariant.value
    c.loop-byte.invariant.digits c.in_err-number.ensures.none le e)

pub returns-clause-found : goal.returns-clause-found
returns-clause-found c =
    let begin = c.if-not-has_no_leading_zero.ensures.0 refl in (
      reads_whole c.loop-byte.number c.loop-byte.byte-index c.args.word.now (omega arith) (omega arith) c.loop-byte.invariant.value
          c.loop-byte.invariant.digits begin,
      omega arith,
    )
