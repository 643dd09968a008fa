-- The pace of marking within a stop.
use Rattle.nmgc_cycle.proofs.Vocabulary.{ℕ, ◌≡◌, ◌+◌, ◌≤◌, List, sym, ap, ◌∙◌, arith, inl, inr, cases_lt, AllocState, ClosingIsSoon, ClosingIsPaced, PaceAtStop, Scans, Core, IsSound, Place, IsKeptObject, interval_of, Cycle, IsSoon, IsPacedAfterRound, IsPacedAtStop, Counts, IsCoreOf, CollectorSeen, WorkSeen, State, one_more, IsPacedWithin, some_wait}
use Rattle.nmgc_collector_laws.specs.{Closes.WaitingIsPaced, Marker.IsTied}

-- the round ended in pace, and later entries only wait behind
pub paced_within : ClosingIsSoon → ClosingIsPaced → WaitingIsPaced → PaceAtStop →
    (quota : ℕ) (c : Cycle) (t : State) (old new : CollectorSeen) (allocation : AllocState) (places : List Place) (core : Core) → IsSound (interval_of c) →
    IsCoreOf c t.world core → IsTied c allocation old.segments places old.marker core → c.from + 1 ≤ t.number → IsPacedAfterRound quota c t old →
    Scans old.marker new.marker 0 → old.marker.marked ≤ new.marker.marked → new.work ≡ old.work → IsPacedWithin quota c t new
paced_within soon paced waiting at_stop quota c t old new allocation places core sound is_core tied after pace scans grows same = record {
  goes_on = λ left. at_stop quota c t old new pace (omega (arith, after)) (sym (ap (λ (w : WorkSeen). w.empty) same) ∙ left) scans grows;
  waits = λ left. waiting quota c t old after pace (sym (ap (λ (w : WorkSeen). w.empty) same) ∙ left);
  closes = λ none kept le counts. (
    soon quota c t old kept pace (omega (arith, grows, le)) counts,
    paced quota c t old allocation places core sound is_core tied after pace (sym (ap (λ (w : WorkSeen). w.empty) same) ∙ none),
  );
}

-- a forced closing isn't too late: each round since the snapshot scanned its quota, and some object still waits
pub forced_soon : (quota : ℕ) (c : Cycle) (s : State) (seen : CollectorSeen) (kept : ℕ) → IsPacedAtStop quota c s seen → seen.marker.marked ≤ kept →
    Counts (IsKeptObject c) kept → IsSoon quota c s.number
forced_soon quota c s seen kept paced more counts = elim (cases_lt c.from s.number) [
  | inr first ↦ inl (omega (arith, first))
  | inl later ↦
      let scanned = paced.scanned in
      let rounds = one_more s.number c.from quota (omega (arith, later)) in
      let waits = some_wait seen.marker.queue (paced.not_done later) in
      inr (kept, counts, omega (arith, scanned, rounds, waits, more))
]
