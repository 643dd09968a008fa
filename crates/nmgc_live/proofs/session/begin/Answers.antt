use Rattle.std.proofs.Common.{ℕ, ◌∙◌, ◌++◌, List, ap, codes, length, sym}
use Rattle.std.proofs.lemmas.Result.{err_from_is_err_and}
use Rattle.nmgc_world_spec.specs.declared.command.Command.{Command}
use Rattle.nmgc_script.specs.declared.script.Config.{Config}
use Rattle.nmgc_live.proofs.{Heading.stopping_first, Lives.given_up_first, Lives.given_up_headed}
use Rattle.nmgc_live.proofs.session.begin.Goals as goal

pub returns-in_err-lines-clause-refused : goal.returns-in_err-lines-clause-refused
returns-in_err-lines-clause-refused g c =
    let p = err_from_is_err_and c.from_residual.result c.from_residual.ensures.1 in
    rw (p.1, p.2) (given_up_first c.args.options (g.S.Source.left c.args.source.now) (g.K.Sink.taken c.args.sink.now))

pub returns-in_err-head-clause-refused : goal.returns-in_err-head-clause-refused
returns-in_err-head-clause-refused g c =
    let p = err_from_is_err_and c.from_residual-in_err-head.result c.from_residual-in_err-head.ensures.1 in
    rw (p.1, p.2) c.in_err-head.ensures.refused

pub returns-in_err-session-clause-refused : goal.returns-in_err-session-clause-refused
returns-in_err-session-clause-refused g c =
    let p = err_from_is_err_and c.from_residual-in_err-session.result c.from_residual-in_err-session.ensures.1 in
    rw (p.1, p.2) (given_up_headed c.args.options (g.S.Source.left c.args.source.now) (g.S.Source.left c.read_head.new.source)
    (g.K.Sink.taken c.args.sink.now) (g.K.Sink.taken c.read_head.new.sink) c.read_head.new.lines c.in_ok-head.head c.in_ok-head.ensures.read)

pub returns-in_err-push_line-clause-refused : goal.returns-in_err-push_line-clause-refused
returns-in_err-push_line-clause-refused g c =
    let p = err_from_is_err_and c.from_residual-in_err-push_line.result c.from_residual-in_err-push_line.ensures.1 in
    rw (p.1, p.2) (given_up_headed c.args.options (g.S.Source.left c.args.source.now) (g.S.Source.left c.read_head.new.source)
    (g.K.Sink.taken c.args.sink.now) (g.K.Sink.taken c.read_head.new.sink) c.read_head.new.lines c.in_ok-head.head c.in_ok-head.ensures.read)

pub returns-clause-begun : goal.returns-clause-begun
returns-clause-begun g c =
    let b = c.in_ok-session.ensures in (
      record {
        reader = c.in_ok-head.ensures.reader;
        session = b.is;
        is_open_is = b.is_open;
        heap = (
          sym (ap (λ (d : Config). d.words) b.config),
          ap (λ (l : List (List Command)). length l) c.items.ensures ∙ sym b.count,
        );
      },
      (
        c.in_ok-head.head,
        stopping_first c.args.options (g.S.Source.left c.args.source.now) (g.S.Source.left c.read_head.new.source)
            (g.K.Sink.taken c.args.sink.now) (g.K.Sink.taken c.read_head.new.sink) c.in_ok-head.head c.read_head.new.lines c.in_ok-session.session
            c.push_line.new.self c.in_ok-head.ensures.read b (c.push_line.ensures.round ∙ c.new-report.ensures.0)
            (c.in_ok-push_line.ensures.text ∙ ap (λ (l : List ℕ). l ++ codes "report 1\n") c.new-report.ensures.1),
      ),
    )
