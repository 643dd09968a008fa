-- Lines that come one after the other, and the reports after them.
use Rattle.std.proofs.Common.{List, None, Option, Some, [], ap, append_assoc, arith, false, length, refl, subst, sym, ℕ, ◌+◌, ◌++◌, ◌∙◌, ◌∷◌, ◌≡◌}
use Rattle.nmgc_field_checker.specs.declared.watch.FieldPhase.{FieldPhase}
use Rattle.nmgc_field_checker.specs.declared.watch.FieldPhase.TheVariants as phase
use Rattle.nmgc_field_reader.specs.{declared.counts.FieldCounts.FieldCounts, declared.report.FieldRefusal.FieldRefusal, declared.report.FieldReport.FieldReport, FieldTraces.Comes, FieldTraces.EndsWell, FieldTraces.FieldTrace, FieldTraces.Happens, FieldTraces.HasTried, FieldTraces.IsFieldReport, FieldTraces.nothing_yet, FieldTraces.report_of}
use Rattle.nmgc_field_reader.specs.declared.report.FieldReport.TheVariants as report

-- one more line at the end
pub comes_push : (n : ℕ) (p q r : FieldTrace) (texts : List (List ℕ)) (text : List ℕ) (k : ℕ) → k ≡ n + length texts → Comes n p texts q →
    Happens k q text r → Comes n p (texts ++ text ∷ []) r
comes_push n p q r [] text k e c h =
    let is : k ≡ n = omega arith in
    (r, subst (λ (x : FieldTrace). Happens n x text r) c (subst (λ (i : ℕ). Happens i q text r) is h), refl)
comes_push n p q r (x ∷ texts) text k e c h = (c.0, c.1, comes_push (n + 1) c.0 q r texts text k (omega arith) c.2 h)

-- the report on lines that can all happen
well_report : (lines : List (List ℕ)) (p : FieldPhase) (counts : FieldCounts) (dues : ℕ) → EndsWell lines (report_of p) counts dues →
    IsFieldReport lines (report_of p) counts dues
well_report lines (phase.Between w) counts dues h = h
well_report lines (phase.Marking running) counts dues h = h
well_report lines (phase.Ended left) counts dues h = h
well_report lines phase.Stopped counts dues h = h

pub ends_well : (lines : List (List ℕ)) (last : FieldTrace) (r : FieldReport) (counts : FieldCounts) (dues : ℕ) → Comes 2 nothing_yet lines last →
    r ≡ report_of last.watch.phase → counts ≡ last.counts → dues ≡ last.dues → IsFieldReport lines r counts dues
ends_well lines last r counts dues comes is counts_are dues_are =
    subst (λ (x : FieldReport). IsFieldReport lines x counts dues) (sym is)
    (well_report lines last.watch.phase counts dues (record { last = last; comes = comes; report_is = refl; counts_are = counts_are; dues_are = dues_are }))

-- the report on lines if the last is refused
pub ends_refused : (earlier : List (List ℕ)) (line : List ℕ) (n : ℕ) (before after : FieldTrace) (because : FieldRefusal) (r : FieldReport) (counts : FieldCounts) (dues : ℕ) →
    n ≡ length earlier + 2 → Comes 2 nothing_yet earlier before → HasTried n line before (Some because) after → r ≡ report.Refused n because →
    counts ≡ after.counts → dues ≡ after.dues → IsFieldReport (earlier ++ line ∷ []) r counts dues
ends_refused earlier line n before after because r counts dues count comes tried is counts_are dues_are =
    subst (λ (x : FieldReport). IsFieldReport (earlier ++ line ∷ []) x counts dues) (sym is) (record {
      earlier = earlier;
      line = line;
      later = [];
      lines_are = refl;
      number = count;
      before = before;
      comes = comes;
      refused = tried.0;
      counts_are = counts_are ∙ tried.1;
      dues_are = dues_are ∙ tried.2;
    })
