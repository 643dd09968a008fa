use Rattle.std.proofs.Common.{ℕ, List, length, arith, subst, sym, ap}
use Rattle.std.proofs.lemmas.Result.{err_from_is_err_and}
use Rattle.nmgc_live.specs.{Steps.IsHeading, Transcripts.Start}
use Rattle.nmgc_live.proofs.{Heading.heading_starts, Lives.given_up_heading}
use Rattle.nmgc_live.proofs.head.read_head.Goals as goal

pub loop-line-init : goal.loop-line-init
loop-line-init g c =
    let left = g.S.Source.left c.args.source.now in
    let taken = g.K.Sink.taken c.args.sink.now in record {
      reader = c.requires.reader;
      within = (let none = ap (λ (l : List ℕ). length l) c.new.ensures.items in omega (arith, none));
      heading = (
        Start,
        subst (λ (l : List ℕ). IsHeading c.args.options left left taken taken l c.args.lines.now Start) (sym c.new.ensures.items)
            (heading_starts c.args.options left taken c.args.lines.now c.requires.first.0 c.requires.first.1),
      );
      reads = omega arith;
      writes = omega arith;
    }

pub returns-in_err-script-clause-refused : goal.returns-in_err-script-clause-refused
returns-in_err-script-clause-refused g c =
    let p = err_from_is_err_and c.from_residual.result c.from_residual.ensures.1 in
    let i = c.loop-line.invariant.heading in
    rw (p.1, p.2) (c.in_err-script.ensures.refused i.0 (g.S.Source.left c.args.source.now) (g.K.Sink.taken c.args.sink.now) i.1)

pub returns-clause-refused : goal.returns-clause-refused
returns-clause-refused g c =
    let i = c.loop-line.invariant.heading in
    given_up_heading c.args.options (g.S.Source.left c.args.source.now) (g.S.Source.left c.loop-line.source) (g.K.Sink.taken c.args.sink.now)
    (g.K.Sink.taken c.loop-line.sink) c.loop-line.head.text.items c.loop-line.lines i.0 i.1
