use Rattle.nmgc_trace_checker.proofs.Vocabulary.{IsHappening, Begun, Refusal, None, Option, inl, refl, subst, sym}
use Rattle.nmgc_trace_checker.proofs.Vocabulary.{ℕ}
use Rattle.nmgc_trace_checker.proofs.Noted.{all_kept}
use Rattle.nmgc_trace_checker.specs.{Notes.AddsOfIf, Notes.AreKept, Reports.AddsOf}
use Rattle.nmgc_trace_checker.proofs.checker.TraceChecker.judge_line.Goals as goal

pub returns-in-Some : goal.returns-in-Some
returns-in-Some c =
    let H : Option Refusal → Type 0 = λ o. IsHappening c.args.number c.args.self.now.begun c.in_ok-meaning.meaning o c.do_line.new.begun in
    record {
      line = c.in_ok-meaning.meaning;
      says = c.in_ok-meaning.ensures;
      happens = subst H c.in-Some.is c.in_ok-refused.ensures.happening;
      counts_are = refl;
      dues_are = refl;
      noted = λ line is. inl is;
      kept = λ were. were;
    }

pub returns : goal.returns
returns c =
    let H : Option Refusal → Type 0 = λ o. IsHappening c.args.number c.args.self.now.begun c.in_ok-meaning.meaning o c.do_line.new.begun in
    let A : Option Refusal → Type 0 = λ o. AddsOfIf c.args.number c.args.self.now.begun c.in_ok-meaning.meaning o c.args.self.now.dues c.do_line.new.dues in
    let D : ℕ → Type 0 = λ i. AddsOf c.args.number c.args.self.now.begun c.in_ok-meaning.meaning c.args.self.now.dues i in
    let N : Begun → Type 0 = λ b. IsHappening c.args.number c.args.self.now.begun c.in_ok-meaning.meaning None b in
    record {
      line = c.in_ok-meaning.meaning;
      says = c.in_ok-meaning.ensures;
      happens = subst N (sym c.note.ensures.begun) (subst H c.in_default.is c.in_ok-refused.ensures.happening);
      counts_are = c.note.ensures.counts;
      dues_are = subst D (sym c.note.ensures.dues) (subst A c.in_default.is c.in_ok-refused.ensures.dues);
      noted = c.in_ok-note.ensures.lines;
      kept = λ were. subst (λ (b : Begun). AreKept b c.note.new.self.due_lines.items) (sym c.note.ensures.begun)
          (all_kept c.args.number c.args.self.now.begun c.do_line.new.begun c.in_ok-meaning.meaning c.args.self.now.due_lines.items
          c.note.new.self.due_lines.items (subst H c.in_default.is c.in_ok-refused.ensures.happening) c.in_ok-note.ensures.kept were);
    }
