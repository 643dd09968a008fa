use Rattle.std.proofs.Common.{◌∙◌, Bool, Option, [], ap, arith, refl, subst}
use Rattle.std.proofs.lemmas.Result.{err_from_is_err_and}
use Rattle.nmgc_live.specs.Steps.{HasTakenLine, open_after}
use Rattle.nmgc_live.specs.declared.refusal.Refusal.TheVariants as no
use Rattle.nmgc_live.proofs.{LineParts.consumes_none, Stepping.come_closed, Stepping.reads_lines, Taking.none_refused}
use Rattle.nmgc_live.proofs.session.come_to_round.Goals as goal

pub returns-then-not-was_open-clause-read : goal.returns-then-not-was_open-clause-read
returns-then-not-was_open-clause-read g c = come_closed c.args.options (g.S.Source.left c.args.source.now) (g.K.Sink.taken c.args.sink.now) c.args.lines.now
    c.args.session.now c.args.was_open c.if-not-was_open.true

pub loop-line-init : goal.loop-line-init
loop-line-init g c = record {
  reader = c.requires.reader;
  session = c.requires.session;
  is_open = c.requires.is_open ∙ c.if-not-was_open.false;
  collector = refl;
  heap = c.requires.heap;
  reading = λ head t lb tb h. (
    t,
    reads_lines c.args.options lb (g.S.Source.left c.args.source.now) tb (g.K.Sink.taken c.args.sink.now) head t c.args.lines.now c.args.session.now
        c.args.was_open c.if-not-was_open.false h,
    refl,
  );
  reads = omega arith;
  writes = omega arith;
}

pub loop-line-preserved : goal.loop-line-preserved
loop-line-preserved g c =
    let i = c.loop-line.invariant in
    let taken = subst (λ (turn : Option Bool). HasTakenLine c.args.options (g.S.Source.left c.loop-line.source) (g.S.Source.left c.take_line.new.source)
    (g.K.Sink.taken c.loop-line.sink) (g.K.Sink.taken c.take_line.new.sink) c.loop-line.lines c.take_line.new.lines c.loop-line.session
    c.take_line.new.session turn) c.in_default.is c.in_ok-turn.ensures.read in
    record {
      reader = c.in_ok-turn.ensures.reader;
      session = c.in_ok-turn.ensures.session;
      is_open = c.in_ok-turn.ensures.is_open ∙ ap open_after c.in_default.is;
      collector = c.in_ok-turn.ensures.collector ∙ i.collector;
      heap = c.in_ok-turn.ensures.heap;
      reading = λ head t lb tb h. (let u = i.reading head t lb tb h in let v = taken head u.0 lb tb u.1 in (v.0, v.1, v.2 ∙ u.2));
      reads = omega (arith, i.reads, c.take_line.ensures.reads);
      writes = omega (arith, i.writes, c.take_line.ensures.writes);
    }

pub returns-in_err-turn-clause-refused : goal.returns-in_err-turn-clause-refused
returns-in_err-turn-clause-refused g c =
    let p = err_from_is_err_and c.from_residual.result c.from_residual.ensures.1 in
    rw (p.1, p.2) (λ head t lb tb h. (let u = c.loop-line.invariant.reading head t lb tb h in
    c.in_err-turn.ensures.refused head u.0 lb tb u.1))

pub returns-in-Some-clause-read : goal.returns-in-Some-clause-read
returns-in-Some-clause-read g c =
    let taken = subst (λ (turn : Option Bool). HasTakenLine c.args.options (g.S.Source.left c.loop-line.source) (g.S.Source.left c.take_line.new.source)
    (g.K.Sink.taken c.loop-line.sink) (g.K.Sink.taken c.take_line.new.sink) c.loop-line.lines c.take_line.new.lines c.loop-line.session
    c.take_line.new.session turn) c.in-Some.is c.in_ok-turn.ensures.read in
    λ head t lb tb h. (let u = c.loop-line.invariant.reading head t lb tb h in let v = taken head u.0 lb tb u.1 in (v.0, v.1, v.2 ∙ u.2))

pub returns-clause-refused : goal.returns-clause-refused
returns-clause-refused g c = λ head t lb tb h.
    let u = c.loop-line.invariant.reading head t lb tb h in
    let a = g.S.Source.left c.loop-line.source in
    let w = g.K.Sink.taken c.loop-line.sink in
    none_refused c.args.options a a w c.loop-line.lines c.loop-line.session no.NoMemory ([], consumes_none a) head u.0 lb tb u.1
