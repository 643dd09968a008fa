-- The answer of a stop by the state after it, and its row.
use Rattle.nmgc_cycle.proofs.Vocabulary.{ℕ, ◌≡◌, ◌≤◌, ◌<◌, List, arith, refl, sym, ap, ◌∙◌, Bool, true, false, lt-ltb, le-ltb, count_by, not, ◌&&◌, nat_lt, if◌then◌else◌, Segment, is, Segments, StandsFor, counts_stand, HeapFull, Phase, Idle, StopRow, has_left, Plan, State, Progress, idle, marking, sweeping, is_idle, phase_of, free_count, reserve_of, stop_row, is_short, is_done, answer_of, Some, None}
use Rattle.nmgc_journal.specs.declared.{report.End.TheVariants.Done, report.Phase.TheVariants.Marking, report.Phase.TheVariants.Sweeping}
use Rattle.nmgc_segment.specs.declared.state.State.TheVariants as stands

module _ (plan : Plan) (t : State) where
  -- whether it is short of segments

  pub not_short : has_left t.left ≡ false → is_short plan t ≡ false
  not_short none = ap (λ (b : Bool). b && nat_lt (free_count t) (reserve_of plan)) none

  pub is_short_by : (free reserve : ℕ) → has_left t.left ≡ true → free ≡ free_count t → reserve ≡ reserve_of plan → free < reserve → is_short plan t ≡ true
  is_short_by free reserve some f r less =
      cc (some, lt-ltb (free_count t) (reserve_of plan) (omega (arith, f, r, less)))

  pub is_enough_by : (free reserve : ℕ) → has_left t.left ≡ true → free ≡ free_count t → reserve ≡ reserve_of plan → reserve ≤ free → is_short plan t ≡ false
  is_enough_by free reserve some f r more =
      cc (some, le-ltb (free_count t) (reserve_of plan) (omega (arith, f, r, more)))

  -- its answer if it isn't: an end only if nothing is left and no cycle is in progress

  answers_by : is_short plan t ≡ false → answer_of plan t ≡ (if is_done t then Some Done else None)
  answers_by short = ap (λ (b : Bool). if b then Some (HeapFull (free_count t) (reserve_of plan)) else (if is_done t then Some Done else None)) short

  pub answers_done : has_left t.left ≡ false → is_idle t.progress ≡ true → Some Done ≡ answer_of plan t
  answers_done none quiet =
      let done : is_done t ≡ true = ap (λ (b : Bool). not b && is_idle t.progress) none ∙ quiet in
      sym (answers_by (not_short none) ∙ ap (λ (b : Bool). if b then Some Done else None) done)

  pub answers_on : has_left t.left ≡ false → is_idle t.progress ≡ false → None ≡ answer_of plan t
  answers_on none busy =
      let done : is_done t ≡ false = ap (λ (b : Bool). not b && is_idle t.progress) none ∙ busy in
      sym (answers_by (not_short none) ∙ ap (λ (b : Bool). if b then Some Done else None) done)

  pub answers_none : has_left t.left ≡ true → is_short plan t ≡ false → None ≡ answer_of plan t
  answers_none some short =
      let done : is_done t ≡ false = ap (λ (b : Bool). not b && is_idle t.progress) some in
      sym (answers_by short ∙ ap (λ (b : Bool). if b then Some Done else None) done)

  -- and if it is, that end
  pub answers_full : (free reserve : ℕ) → free ≡ free_count t → reserve ≡ reserve_of plan → is_short plan t ≡ true →
      Some (HeapFull free reserve) ≡ answer_of plan t
  answers_full free reserve f r short =
      cc (f, r, short)

-- whether a cycle is in progress, by the phase

pub quiet_then : (q : Progress) → phase_of q ≡ Idle → is_idle q ≡ true
quiet_then idle e = refl
quiet_then (marking c) e = absurd (let bad : Marking ≡ Idle = e in cc)
quiet_then (sweeping c closed) e = absurd (let bad : Sweeping ≡ Idle = e in cc)

pub busy_then : (q : Progress) → (phase_of q ≡ Idle → ⊥) → is_idle q ≡ false
busy_then idle e = absurd (e refl)
busy_then (marking c) e = refl
busy_then (sweeping c closed) e = refl

-- the row has the number and phase of the state, and the counts of segments
pub row_is : (t : State) (count stops free filled sweep many : ℕ) (phase : Phase) (segments : Segments) (words : List ℕ) →
    StandsFor segments words t.allocation → phase ≡ phase_of t.progress → t.number ≡ stops
    → free ≡ count_by (λ (segment : Segment). is segment.state stands.Free) segments.segments
    → filled ≡ count_by (λ (segment : Segment). is segment.state stands.Filled) segments.segments
    → sweep ≡ count_by (λ (segment : Segment). is segment.state stands.Sweeping) segments.segments
    → many ≡ count
    → ◌≡◌ {A = StopRow} (record { number = stops; phase = phase; free = free; filled = filled; sweep = sweep; promoted = many }) (stop_row t count)
row_is t count stops free filled sweep many phase segments words shown phase_is number f i w m =
    let free_is : free ≡ free_count t = f ∙ counts_stand segments words t.allocation stands.Free shown in
    let filled_is = i ∙ counts_stand segments words t.allocation stands.Filled shown in
    let sweep_is = w ∙ counts_stand segments words t.allocation stands.Sweeping shown in
    cc (number, phase_is, free_is, filled_is, sweep_is, m)
