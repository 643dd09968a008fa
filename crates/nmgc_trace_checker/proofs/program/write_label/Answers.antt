use Rattle.nmgc_trace_checker.proofs.Vocabulary.{Writes, AppendsFront, List, arith, codes, subst, sym, ℕ, ◌∙◌, err_from_is_err_and, Appends}
use Rattle.nmgc_trace_checker.proofs.{Appended.appends_nothing, Appended.front_first, Outputs.live_label, Outputs.named_label, Outputs.writes_then, Outputs.written_of}
use Rattle.nmgc_trace_checker.proofs.program.write_label.Goals as goal

pub returns-then-is_live : goal.returns-then-is_live
returns-then-is_live g c =
    let a = g.K.Sink.taken c.args.output.now in
    (subst (Appends a a) (sym (live_label c.args.name.now (sym c.is_live.ensures ∙ c.if-is_live.true))) (appends_nothing a), omega arith)

pub returns : goal.returns
returns g c =
    let a = g.K.Sink.taken c.args.output.now in
    let b = g.K.Sink.taken c.write_all.new.sink in
    let end = g.K.Sink.taken c.write_all-2.new.sink in
    let m = g.K.Sink.faults c.args.output.now in
    let n = g.K.Sink.faults c.write_all.new.sink in
    let o = g.K.Sink.faults c.write_all-2.new.sink in
    let r = c.write_all-2.result in
    let last = c.write_all-2.ensures in
    subst (λ (l : List ℕ). Writes l a end m o r) (sym (named_label c.args.name.now (sym c.is_live.ensures ∙ c.if-is_live.false)))
    (writes_then c.args.name.now (codes ": ") a b end m n o r (subst (λ (l : List ℕ). Appends a b l) c.as_bytes.ensures.value c.in_ok-write_all.ensures.ok) c.write_all.ensures.later
    (written_of (codes ": ") b end n o r last.ok last.err last.later last.fault))

pub returns-in_err-write_all : goal.returns-in_err-write_all
returns-in_err-write_all g c =
    let a = g.K.Sink.taken c.args.output.now in
    let b = g.K.Sink.taken c.write_all.new.sink in
    let p = err_from_is_err_and c.from_residual.result c.from_residual.ensures.1 in
    rw p.1 (
      subst (AppendsFront a b) (sym (named_label c.args.name.now (sym c.is_live.ensures ∙ c.if-is_live.false)))
          (front_first a b c.args.name.now (codes ": ") (subst (λ (l : List ℕ). AppendsFront a b l) c.as_bytes.ensures.value c.in_err-write_all.ensures.err)),
      c.in_err-write_all.ensures.fault,
    )
