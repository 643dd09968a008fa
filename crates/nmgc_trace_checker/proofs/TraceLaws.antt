-- A trace, line by line.
use Rattle.nmgc_trace_checker.proofs.Vocabulary.{Can, IsNext, IsVerdict, IsVerdictAfter, refusal_of, Line, Progress, Verdict, List, None, [], length, refl, subst, sym, ℕ, ◌++◌, ◌+◌, ◌∷◌, ◌≡◌}
use Rattle.nmgc_trace_checker.specs.{Trace.Comes, Verdicts.EndsAtLine}
use Rattle.nmgc_trace_checker.specs.declared.line.Line.TheVariants as line
use Rattle.nmgc_trace_checker.specs.declared.progress.Progress.TheVariants as progress
use Rattle.nmgc_trace_checker.specs.declared.verdict.Verdict.TheVariants as verdict

-- one more line at the end
pub comes_push : (p q r : Progress) (ls : List Line) (l : Line) → Comes p ls q → Can q l r → Comes p (ls ++ l ∷ []) r
comes_push p q r [] l c can = let P : Progress → Type 0 = λ t. Can t l r in (r, subst P c can, refl)
comes_push p q r (x ∷ ls) l c can = (c.0, c.1, comes_push c.0 q r ls l c.2 can)

refusal_verdict : (lines : List Line) (l : Line) (n : ℕ) → EndsAtLine lines (refusal_of l n) → IsVerdict lines (refusal_of l n)
refusal_verdict lines line.Blank n e = e
refusal_verdict lines _ n e = e

-- a trace whose last line can't happen
pub ends_here : (lines : List Line) (l : Line) (q : Progress) (meaning : Verdict) → Comes progress.Nothing lines q → IsNext q l None →
    meaning ≡ refusal_of l (length lines + 1) → IsVerdict (lines ++ l ∷ []) meaning
ends_here lines l q meaning c cannot e =
    let ends : EndsAtLine (lines ++ l ∷ []) (refusal_of l (length lines + 1)) = record {
      earlier = lines;
      line = l;
      later = [];
      lines_are = refl;
      before = q;
      comes = c;
      cannot = cannot;
      known_is = refl;
    } in
    let P : Verdict → Type 0 = IsVerdict (lines ++ l ∷ []) in
    subst P (sym e) (refusal_verdict (lines ++ l ∷ []) l (length lines + 1) ends)

not_bad : (p : Progress) (n : ℕ) → IsVerdictAfter p (verdict.Bad n) → ⊥
not_bad (progress.Marking s) n t = t
not_bad _ n t = cc

not_refused : (p : Progress) (n : ℕ) → IsVerdictAfter p (verdict.Refused n) → ⊥
not_refused (progress.Marking s) n t = t
not_refused _ n t = cc

-- a trace whose lines can all happen
pub ends_well : (lines : List Line) (p : Progress) (meaning : Verdict) → Comes progress.Nothing lines p → IsVerdictAfter p meaning → IsVerdict lines meaning
ends_well lines p (verdict.Bad n) c t = absurd (not_bad p n t)
ends_well lines p (verdict.Refused n) c t = absurd (not_refused p n t)
ends_well lines p _ c t = record { last = p; comes = c; known_is = t }
