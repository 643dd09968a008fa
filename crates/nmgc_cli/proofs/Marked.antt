-- The heap of a lawful report can be marked, and the names that markers list are the names that are written.
use Rattle.nmgc_cli.proofs.Vocabulary.{◌≡◌, ℕ, List, subst, Name, Value, World, Lists, Script, IsSegments, Report, IsLawful, last_state, plan_of, layout_of, in_limits_fit, runnable_of, heap_at_stop, states_are_sound, IsInLimits, Stopped, IsStopped, AreClaims, IsStrong, RootsStartStrongReach, roots_of, root_words, IsStoppedAs, StopsAreStopped, AreClaimsOf, IsMarksText, last_world, marks_lines}

-- the heap is a stopped heap with the last world of the run
pub stopped_of : StopsAreStopped → (script : Script) (report : Report) → IsInLimits script → (lawful : IsLawful script report) →
    IsSegments report.segments → IsStoppedAs (last_state lawful.run) report.segments report.words (root_words report.mutators)
stopped_of law script report limits lawful sound =
    let state = states_are_sound (plan_of script) lawful.run (runnable_of script (in_limits_fit script limits)) lawful.is_run in
    let h = heap_at_stop script report (in_limits_fit script limits) lawful in
    law (layout_of (plan_of script)) (last_state lawful.run) report.words report.segments report.mutators h.0 state.world sound h.2

-- so the claims of markers in the heap are claims in that world
pub claims_are : StopsAreStopped → (report : Report) (markers : ℕ) (by : List (List Name)) → IsSegments report.segments →
    ((h : Stopped) → IsStopped h report.segments report.words (root_words report.mutators) → AreClaims h.world h.roots markers by) →
    AreClaimsOf markers report by
claims_are law report markers by sound claims = λ script limits lawful.
    let s = stopped_of law script report limits lawful sound in
    let of_roots : AreClaims s.heap.world (roots_of (last_state lawful.run).world) markers by =
    subst (λ (roots : List Value). AreClaims s.heap.world roots markers by) s.roots_are (claims s.heap s.is) in
    subst (λ (w : World). AreClaims w (roots_of (last_state lawful.run).world) markers by) s.world of_roots

-- and their names are the names of the text
pub marks_are : RootsStartStrongReach → (report : Report) (markers : ℕ) (by : List (List Name)) (names : List Name) (text : List ℕ) → AreClaimsOf markers report by →
    ((w : World) (roots : List Value) (count : ℕ) → AreClaims w roots count by → Lists (IsStrong w roots) names) →
    text ≡ marks_lines markers names report.end → IsMarksText markers report text
marks_are same report markers by names text claims listed is = λ script limits lawful.
    let w = last_world script report lawful in
    let world = (states_are_sound (plan_of script) lawful.run (runnable_of script (in_limits_fit script limits)) lawful.is_run).world in
    let all = listed w (roots_of w) markers (claims script limits lawful) in
    record {
      names = names;
      reached = record {
        ordered = all.ordered;
        sound = λ name c. (same w world name).0 (all.sound name c);
        complete = λ name strong. all.complete name ((same w world name).1 strong);
      };
      text_is = is;
    }
