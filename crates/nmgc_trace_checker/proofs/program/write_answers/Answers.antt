use Rattle.nmgc_trace_checker.proofs.Vocabulary.{AreAnswered, SaysAll, WritesOne, Status, Err, Global, List, Ok, [], arith, drop, length, map, string_bytes, subst, sym, take, ℕ, ◌+◌, ◌∷◌, ◌≡◌, ◌≤◌, length-map, nil_from_length, take_all, err_from_is_err_and}
use Rattle.nmgc_trace_checker.proofs.Outputs.{all_said, cut_short, names_more, names_parted, none_answered, one_answered}
use Rattle.nmgc_trace_checker.proofs.program.write_answers.Goals as goal

pub returns-then-is_empty : goal.returns-then-is_empty
returns-then-is_empty g c =
    let none : c.args.words.now ≡ [] = nil_from_length c.args.words.now (grind (arith, c.if-is_empty.ensures)) in
    subst (λ ws. WritesOne (SaysAll (g.T.Traces.bytes c.args.traces.now) (map (string_bytes {Z = Global}) ws)) (g.K.Sink.taken c.args.output.now)
    (g.K.Sink.taken c.write_fixed.new.output) (g.K.Sink.faults c.args.output.now) (g.K.Sink.faults c.write_fixed.new.output) c.write_fixed.result)
    (sym none) c.write_fixed.ensures

pub loop-word-init : goal.loop-word-init
loop-word-init g c = none_answered (g.T.Traces.bytes c.args.traces.now) (g.K.Sink.taken c.args.output.now) (g.K.Sink.faults c.args.output.now)

pub loop-word-preserved : goal.loop-word-preserved
loop-word-preserved g c =
    let bytes = g.T.Traces.bytes c.args.traces.now in
    let i = c.loop-word.word-index in
    let a = g.K.Sink.taken c.args.output.now in
    let b = g.K.Sink.taken c.loop-word.output in
    let end = g.K.Sink.taken c.write_answer.new.output in
    let m = g.K.Sink.faults c.args.output.now in
    let n = g.K.Sink.faults c.loop-word.output in
    let o = g.K.Sink.faults c.write_answer.new.output in
    let s : Status = c.in_ok-status.status in
    let own = subst (λ (w : List ℕ). WritesOne (AreAnswered bytes (w ∷ [])) b end n o (Ok s)) c.as_str.ensures.value c.in_ok-status.ensures in
    subst (λ (ns : List (List ℕ)). WritesOne (AreAnswered bytes ns) a end m o (Ok c.graver-gravest.result))
    (sym (names_more (string_bytes {Z = Global}) c.args.words.now i c.word-item.result c.loop-word-test.true c.word-item.is))
    (one_answered bytes (map (string_bytes {Z = Global}) (take i c.args.words.now)) (string_bytes {Z = Global} c.word-item.result) a b end m n o
    c.loop-word.gravest c.loop-word.invariant s c.graver-gravest.result own c.graver-gravest.ensures.least c.graver-gravest.ensures.other
    c.graver-gravest.ensures.from)

pub returns : goal.returns
returns g c =
    let bytes = g.T.Traces.bytes c.args.traces.now in
    let names : List (List ℕ) = map (string_bytes {Z = Global}) c.args.words.now in
    let a = g.K.Sink.taken c.args.output.now in
    let b = g.K.Sink.taken c.loop-word.output in
    let m = g.K.Sink.faults c.args.output.now in
    let n = g.K.Sink.faults c.loop-word.output in
    let as_many : length names ≡ length c.args.words.now = length-map c.args.words.now (string_bytes {Z = Global}) in
    let some : 1 ≤ length c.args.words.now = grind (arith, c.if-is_empty.ensures) in
    all_said bytes names a b m n (Ok c.loop-word.gravest) (omega (arith, some, as_many))
    (subst (λ ws. WritesOne (AreAnswered bytes (map (string_bytes {Z = Global}) ws)) a b m n (Ok c.loop-word.gravest))
    (take_all c.loop-word.word-index c.args.words.now c.loop-word-test.false) c.loop-word.invariant)

pub returns-in_err-status : goal.returns-in_err-status
returns-in_err-status g c =
    let bytes = g.T.Traces.bytes c.args.traces.now in
    let names : List (List ℕ) = map (string_bytes {Z = Global}) c.args.words.now in
    let i = c.loop-word.word-index in
    let a = g.K.Sink.taken c.args.output.now in
    let b = g.K.Sink.taken c.loop-word.output in
    let end = g.K.Sink.taken c.write_answer.new.output in
    let m = g.K.Sink.faults c.args.output.now in
    let n = g.K.Sink.faults c.loop-word.output in
    let o = g.K.Sink.faults c.write_answer.new.output in
    let p = err_from_is_err_and c.from_residual.result c.from_residual.ensures.1 in
    let own = subst (λ (w : List ℕ). WritesOne (AreAnswered bytes (w ∷ [])) b end n o (Err p.0)) c.as_str.ensures.value c.in_err-status.ensures in
    let as_many : length names ≡ length c.args.words.now = length-map c.args.words.now (string_bytes {Z = Global}) in
    let some : 1 ≤ length c.args.words.now = grind (arith, c.if-is_empty.ensures) in
    rw p.1 (all_said bytes names a end m o (Err p.0) (omega (arith, some, as_many))
    (subst (λ (ns : List (List ℕ)). WritesOne (AreAnswered bytes ns) a end m o (Err p.0))
    (sym (names_parted (string_bytes {Z = Global}) c.args.words.now i c.word-item.result c.loop-word-test.true c.word-item.is))
    (cut_short bytes (map (string_bytes {Z = Global}) (take i c.args.words.now)) (string_bytes {Z = Global} c.word-item.result) a b end m n o
    c.loop-word.gravest c.loop-word.invariant (map (string_bytes {Z = Global}) (drop (i + 1) c.args.words.now)) p.0 own)))
