-- A trace of format 2, line by line.
use Rattle.nmgc_trace_checker.proofs.Vocabulary.{Comes, Happens, IsReport, report_of, Begun, Report, Meaning, List, [], arith, length, refl, subst, sym, ℕ, ◌++◌, ◌+◌, ◌∷◌, ◌≡◌}
use Rattle.nmgc_barrier_checker.specs.declared.watch.Watch.TheVariants as watch
use Rattle.nmgc_trace_checker.specs.declared.report.Begun.TheVariants as begun

-- one more line at the end
pub comes_push : (n : ℕ) (p q r : Begun) (ts : List Meaning) (t : Meaning) (k : ℕ) → k ≡ n + length ts → Comes n p ts q → Happens k q t r → Comes n p (ts ++ t ∷ []) r
comes_push n p q r [] t k e c can = let P : Begun → Type 0 = λ b. Happens n b t r in let is : k ≡ n = omega arith in
    (r, subst P c (subst (λ (j : ℕ). Happens j q t r) is can), refl)
comes_push n p q r (x ∷ ts) t k e c can = (c.0, c.1, comes_push (n + 1) c.0 q r ts t k (omega arith) c.2 can)

-- a trace whose lines can all happen
pub ends_well : (lines : List Meaning) (p : Begun) (meaning : Report) → Comes 1 begun.Nothing lines p → meaning ≡ report_of p → IsReport lines meaning
ends_well lines p meaning c e = subst (IsReport lines) (sym e) (by_last p c)
  where
    by_last : (q : Begun) → Comes 1 begun.Nothing lines q → IsReport lines (report_of q)
    by_last begun.Nothing k = record { last = begun.Nothing; comes = k; known_is = refl }
    by_last (begun.Watching (watch.Between w)) k = record { last = begun.Watching (watch.Between w); comes = k; known_is = refl }
    by_last (begun.Watching (watch.Marking h)) k = record { last = begun.Watching (watch.Marking h); comes = k; known_is = refl }
    by_last (begun.Watching (watch.Ended left)) k = record { last = begun.Watching (watch.Ended left); comes = k; known_is = refl }
    by_last (begun.Watching watch.Stopped) k = record { last = begun.Watching watch.Stopped; comes = k; known_is = refl }
