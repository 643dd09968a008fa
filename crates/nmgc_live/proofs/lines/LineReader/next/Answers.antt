use Rattle.std.proofs.Common.{◌≡◌, ◌≢◌, ◌++◌, ◌∷◌, ◌∙◌, List, ℕ, [], ap, append-nil, append_assoc, arith, subst, sym, Ok}
use Rattle.std.specs.Prelude.{Bool, true, false}
use Rattle.std.specs.Io.KnownBytes.{Consumes}
use Rattle.std.proofs.lemmas.{List.nil_from_length, List.Elements.All-append, Result.err_from_is_err_and}
use Rattle.nmgc_live.specs.Lines.{EndsPart, HoldsPart, IsNextLine, unread}
use Rattle.nmgc_live.specs.declared.lines.{LineReader.LineReader, NextLine.NextLine}
use Rattle.nmgc_live.proofs.LineParts.{consumes_kept, consumes_on, line_at_end, line_fault, line_refused, line_whole}
use Rattle.nmgc_live.proofs.lines.LineReader.next.Goals as goal

pub returns-in_err-take_part-clause-line : goal.returns-in_err-take_part-clause-line
returns-in_err-take_part-clause-line g c =
    let p = err_from_is_err_and c.from_residual.result c.from_residual.ensures.1 in
    let i = c.loop-read.invariant.line in
    rw (p.1, p.2) (line_refused c.args.self.now c.take_part.new.self (g.S.Source.left c.args.source.now) (g.S.Source.left c.loop-read.source) i.0 i.1.0 i.1.1
    c.in_err-take_part.field-0.0 c.in_err-take_part.ensures.cause)

pub returns-then-branch-clause-line : goal.returns-then-branch-clause-line
returns-then-branch-clause-line g c =
    let i = c.loop-read.invariant.line in
    let t = c.in_ok-take_part.ensures.part in
    let after : List ℕ = unread c.take_part.new.self in
    let ends : EndsPart true (unread c.loop-read.self) t.0 after = subst (λ (b : Bool). EndsPart b (unread c.loop-read.self) t.0 after) c.if-branch.true t.1 in
    let u : unread c.args.self.now ++ i.0 ≡ (i.1.0 ++ t.0) ++ 10 ∷ after =
    i.1.2 ∙ ap (λ (l : List ℕ). i.1.0 ++ l) ends ∙ sym (append_assoc i.1.0 t.0 (10 ∷ after)) in
    subst (λ (r : NextLine). IsNextLine c.args.self.now c.take_part.new.self (g.S.Source.left c.args.source.now) (g.S.Source.left c.loop-read.source) (Ok r))
    (sym c.whole.ensures)
    (line_whole c.args.self.now c.take_part.new.self (g.S.Source.left c.args.source.now) (g.S.Source.left c.loop-read.source) i.0 (i.1.0 ++ t.0) i.1.1 u
    (All-append (λ b. b ≢ 10) i.1.0 t.0 i.1.3 t.2) (t.3 i.1.0 i.1.4))

pub returns-in_err-fill-clause-line : goal.returns-in_err-fill-clause-line
returns-in_err-fill-clause-line g c =
    let p = err_from_is_err_and c.from_residual-in_err-fill.result c.from_residual-in_err-fill.ensures.1 in
    let i = c.loop-read.invariant.line in
    let t = c.in_ok-take_part.ensures.part in
    let ends : EndsPart false (unread c.loop-read.self) t.0 (unread c.take_part.new.self) =
    subst (λ (b : Bool). EndsPart b (unread c.loop-read.self) t.0 (unread c.take_part.new.self)) c.if-branch.false t.1 in
    let u : unread c.args.self.now ++ i.0 ≡ i.1.0 ++ t.0 = i.1.2 ∙ ap (λ (l : List ℕ). i.1.0 ++ l) ends.0 in
    let f = c.in_err-fill.ensures.err in
    rw (p.1, p.2) (line_fault c.args.self.now c.fill.new.self (g.S.Source.left c.args.source.now) (g.S.Source.left c.fill.new.source) i.0 (i.1.0 ++ t.0)
    (consumes_kept (g.S.Source.left c.args.source.now) (g.S.Source.left c.loop-read.source) (g.S.Source.left c.fill.new.source) i.0 i.1.1 f.1)
    c.in_err-fill.field-0.0 f.0 u (All-append (λ b. b ≢ 10) i.1.0 t.0 i.1.3 t.2))

pub returns-then-branch-eq0-clause-line : goal.returns-then-branch-eq0-clause-line
returns-then-branch-eq0-clause-line g c =
    let i = c.loop-read.invariant.line in
    let t = c.in_ok-take_part.ensures.part in
    let old = g.S.Source.left c.args.source.now in
    let mid = g.S.Source.left c.loop-read.source in
    let now = g.S.Source.left c.fill.new.source in
    let r : LineReader = c.fill.new.self in
    let ends : EndsPart false (unread c.loop-read.self) t.0 (unread c.take_part.new.self) =
    subst (λ (b : Bool). EndsPart b (unread c.loop-read.self) t.0 (unread c.take_part.new.self)) c.if-branch.false t.1 in
    let u : unread c.args.self.now ++ i.0 ≡ i.1.0 ++ t.0 = i.1.2 ∙ ap (λ (l : List ℕ). i.1.0 ++ l) ends.0 in
    let none : unread r ≡ [] = nil_from_length (unread r) (c.in_ok-fill.ensures.count ∙ c.if-branch-eq0.true) in
    let same = c.in_ok-fill.ensures.line in
    let on : Consumes old now (i.0 ++ unread r) = consumes_on old mid now i.0 (unread r) i.1.1 c.in_ok-fill.ensures.bytes in
    let all : Consumes old now i.0 = subst (Consumes old now) (ap (λ (l : List ℕ). i.0 ++ l) none ∙ append-nil i.0) on in
    let held = t.3 i.1.0 i.1.4 in
    let holds : HoldsPart r.is_long r.line.items (i.1.0 ++ t.0) =
    subst (λ (x : LineReader). HoldsPart x.is_long x.line.items (i.1.0 ++ t.0)) (sym same) held in
    subst (λ (x : NextLine). IsNextLine c.args.self.now r old now (Ok x)) (sym c.at_end.ensures)
    (line_at_end c.args.self.now r old now i.0 (i.1.0 ++ t.0) all u (All-append (λ b. b ≢ 10) i.1.0 t.0 i.1.3 t.2) holds none
    (c.in_ok-fill.ensures.end c.if-branch-eq0.true))

pub loop-read-preserved : goal.loop-read-preserved
loop-read-preserved g c =
    let i = c.loop-read.invariant.line in
    let t = c.in_ok-take_part.ensures.part in
    let old = g.S.Source.left c.args.source.now in
    let mid = g.S.Source.left c.loop-read.source in
    let now = g.S.Source.left c.fill.new.source in
    let r : LineReader = c.fill.new.self in
    let ends : EndsPart false (unread c.loop-read.self) t.0 (unread c.take_part.new.self) =
    subst (λ (b : Bool). EndsPart b (unread c.loop-read.self) t.0 (unread c.take_part.new.self)) c.if-branch.false t.1 in
    let u : unread c.args.self.now ++ i.0 ≡ i.1.0 ++ t.0 = i.1.2 ∙ ap (λ (l : List ℕ). i.1.0 ++ l) ends.0 in
    let same = c.in_ok-fill.ensures.line in
    let held = t.3 i.1.0 i.1.4 in
    record {
      reader = c.in_ok-fill.ensures.reader;
      number = ap (λ (x : LineReader). x.number) same ∙ c.in_ok-take_part.ensures.number ∙ c.loop-read.invariant.number;
      line = (
        i.0 ++ unread r,
        (
          i.1.0 ++ t.0,
          consumes_on old mid now i.0 (unread r) i.1.1 c.in_ok-fill.ensures.bytes,
          sym (append_assoc (unread c.args.self.now) i.0 (unread r)) ∙ ap (λ (l : List ℕ). l ++ unread r) u,
          All-append (λ b. b ≢ 10) i.1.0 t.0 i.1.3 t.2,
          subst (λ (x : LineReader). HoldsPart x.is_long x.line.items (i.1.0 ++ t.0)) (sym same) held,
        ),
      );
      later = omega (arith, c.loop-read.invariant.later, c.fill.ensures.later);
    }
