use Rattle.std.proofs.lemmas.List.{take-append-le}
use Rattle.nmgc_fin.proofs.{Vocabulary.◌≡◌, Vocabulary.◌+◌, Vocabulary.◌++◌, Vocabulary.[], Vocabulary.List, Vocabulary.ℕ, Vocabulary.HasScanned, Vocabulary.length, Vocabulary.length-append, Vocabulary.length-take, Vocabulary.take, Vocabulary.drop, Vocabulary.refl, Vocabulary.subst, Vocabulary.arith, Scanned.consumes_none, Scanned.read_on, Scanned.read_end}
use Rattle.nmgc_fin.proofs.reading.read_report.Goals as goal

pub loop-count-init : goal.loop-count-init
loop-count-init g c = record {
  room = grind (arith, c.in-Ok.ensures, c.as_mut_slice-piece.ensures.value);
  within = omega arith;
  seen = ([], consumes_none (g.S.Source.left c.args.source.now), refl, c.requires);
  later = omega arith;
}

pub take_piece-requires : goal.take_piece-requires
take_piece-requires g c =
    let o = c.loop-count.invariant.seen in let long = o.2 in let within = c.if-taken-count-gt-MAX_REPORT_BYTES.false in
    (o.0, o.3, omega (arith, long, within, length-take c.in-Ok-read.count (c.read.new.buf ++ drop c.min-room.result c.loop-count.piece)))

pub loop-count-preserved : goal.loop-count-preserved
loop-count-preserved g c =
    let o = c.loop-count.invariant.seen in let buf : List ℕ = c.read.new.buf in let behind : List ℕ = drop c.min-room.result c.loop-count.piece in
    let count = c.in-Ok-read.count in
    let on = read_on _ _ _ o.0 buf count o.1 c.in-Ok-read.ensures.bound.0 c.in-Ok-read.ensures.bytes.0 in
    let long : length (buf ++ behind) ≡ length buf + length behind = length-append buf behind in
    record {
      room = omega (arith, long, c.in-Ok-read.ensures.bound.0, c.if-count-eq0.false);
      within = c.if-taken-count-gt-MAX_REPORT_BYTES.false;
      seen = (
        o.0 ++ take count buf,
        on.0,
        omega (arith, on.1, o.2),
        subst (λ (l : List ℕ). HasScanned c.take_piece.new.self (o.0 ++ l)) (take-append-le count buf behind c.in-Ok-read.ensures.bound.0)
            (c.in-Ok-take_piece.ensures o.0 o.3),
      );
      later = omega (arith, c.loop-count.invariant.later, c.in-Ok-read.ensures.cause);
    }

pub returns-then-count-eq0-clause-read : goal.returns-then-count-eq0-clause-read
returns-then-count-eq0-clause-read g c =
    let o = c.loop-count.invariant.seen in let none = c.if-count-eq0.true in (
      o.0,
      record {
        taken = read_end _ _ _ o.0 _ _ o.1 none c.in-Ok-read.ensures.bytes.0;
        end = c.in-Ok-read.ensures.bytes.1 none
            (omega (arith, c.read.auto.buf, length-take c.min-room.result c.loop-count.piece, c.min-room.ensures, c.loop-count.invariant.room, c.loop-count.invariant.within));
        within = omega (arith, o.2, c.loop-count.invariant.within);
      },
      o.3,
    )

pub returns-then-taken-count-gt-MAX_REPORT_BYTES-clause-too_long : goal.returns-then-taken-count-gt-MAX_REPORT_BYTES-clause-too_long
returns-then-taken-count-gt-MAX_REPORT_BYTES-clause-too_long g c _ =
    let o = c.loop-count.invariant.seen in let count = c.in-Ok-read.count in
    let on = read_on _ _ _ o.0 c.read.new.buf count o.1 c.in-Ok-read.ensures.bound.0 c.in-Ok-read.ensures.bytes.0 in (
      o.0 ++ take count c.read.new.buf,
      on.0,
      omega (arith, on.1, o.2, c.in-Ok-read.ensures.bound.0, c.read.auto.buf, length-take c.min-room.result c.loop-count.piece, c.min-room.ensures, c.if-taken-count-gt-MAX_REPORT_BYTES.true),
    )

pub returns-in_default-take_piece-clause-not_too_long : goal.returns-in_default-take_piece-clause-not_too_long
returns-in_default-take_piece-clause-not_too_long g c _ =
    let o = c.loop-count.invariant.seen in let count = c.in-Ok-read.count in
    let on = read_on _ _ _ o.0 c.read.new.buf count o.1 c.in-Ok-read.ensures.bound.0 c.in-Ok-read.ensures.bytes.0 in
    (o.0 ++ take count c.read.new.buf, on.0, omega (arith, on.1, o.2, c.if-taken-count-gt-MAX_REPORT_BYTES.false))
