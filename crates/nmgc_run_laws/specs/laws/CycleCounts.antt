-- Each begun cycle has its row once the run has ended. A full cycle leaves the collector idle, since it sweeps all that wait.
use Rattle.std.specs.Prelude.{◌≡◌, ◌+◌, ◌∷◌, ◌++◌, if◌then◌else◌, ◌&&◌}
use Rattle.nmgc_run_laws.specs.laws.Vocabulary.{ℕ, List, [], length, map, arith, refl, sym, ap, subst, ◌∙◌, Some, None, Bool, true, false, not, cond, inl, inr, length-append, sum_by, flat_map, sum_by-cons, World, Row, Stands, is, prepared_state, Cells, restated, all_swept, StopRow, CycleRow, End, IsKeptIn, Cycle, has_left, State, Plan, Progress, idle, marking, sweeping, is_idle, start, cycle_started, SweepsRest, IsStop, EndsOrWaits, Finishes, DoesFullCycle, BeginsOrWaits, Proceeds, IsFullDue, with_all_retired, is_short, ClosesOrWaits, ClosesNow, noted, Run, Turn, IsRun, AreTurns, state_after, last_state, answer_of, EachCycleHasItsRow}
use Rattle.nmgc_segment.specs.declared.state.State.TheVariants as stands

-- the number of cycles in progress
abbrev in_progress : Progress → ℕ
in_progress idle = 0
in_progress (marking c) = 1
in_progress (sweeping c number) = 1

idle_none : (p : Progress) → is_idle p ≡ true → in_progress p ≡ 0
idle_none idle e = refl
idle_none (marking c) e = absurd cc
idle_none (sweeping c number) e = absurd cc

-- a cycle that was closed, swept and ended has its row, and the collector is idle
record Finished (s t : State) (cycles : List CycleRow) : Type 0 where
  idled : is_idle t.progress ≡ true
  rows : length cycles ≡ in_progress s.progress
  begun : t.begun ≡ s.begun

finishes : (s t : State) (cycles : List CycleRow) → Finishes s t cycles → Finished s t cycles
finishes s t cycles f = by s.progress refl (subst (λ (p : Progress). ClosesNow p s f.closed) refl f.closes)
  where
    swept_progress : f.swept.progress ≡ f.closed.progress
    swept_progress = ap (λ (x : State). x.progress) f.others

    swept_begun : f.swept.begun ≡ f.closed.begun
    swept_begun = ap (λ (x : State). x.begun) f.others

    ends : (p : Progress) → f.closed.progress ≡ p → EndsOrWaits p f.swept t cycles
    ends p e = subst (λ (x : Progress). EndsOrWaits x f.swept t cycles) (swept_progress ∙ e) f.ends

    sweeps : (p : Progress) → f.closed.progress ≡ p → SweepsRest p f.closed.allocation f.swept.allocation
    sweeps p e = subst (λ (x : Progress). SweepsRest x f.closed.allocation f.swept.allocation) e f.sweeps

    after : (c : Cycle) (number : ℕ) → f.closed.progress ≡ sweeping c number → f.closed.begun ≡ s.begun → in_progress s.progress ≡ 1 → Finished s t cycles
    after c number e begun one = elim (ends (sweeping c number) e) [
      | inl h ↦ record {
        idled = ap (λ (x : State). is_idle x.progress) h.1.rest;
        rows = ap (λ (rows : List CycleRow). length rows) h.1.cycles_are ∙ sym one;
        begun = ap (λ (x : State). x.begun) h.1.rest ∙ swept_begun ∙ begun;
      }
      | inr h ↦ absurd (h.0 (all_swept (IsKeptIn c) f.closed.allocation f.swept.allocation (sweeps (sweeping c number) e)))
    ]

    by : (p : Progress) → s.progress ≡ p → ClosesNow s.progress s f.closed → Finished s t cycles
    by idle e closes =
        let same : f.closed ≡ s = subst (λ (p : Progress). ClosesNow p s f.closed) e closes in
        let at : f.closed.progress ≡ idle = ap (λ (x : State). x.progress) same ∙ e in
        let h : EndsOrWaits idle f.swept t cycles = ends idle at in
        record {
          idled = ap (λ (x : State). is_idle x.progress) h.0 ∙ ap is_idle (swept_progress ∙ at);
          rows = ap (λ (rows : List CycleRow). length rows) h.1 ∙ sym (ap in_progress e);
          begun = ap (λ (x : State). x.begun) h.0 ∙ swept_begun ∙ ap (λ (x : State). x.begun) same;
        }
    by (marking c) e closes =
        let h = subst (λ (p : Progress). ClosesNow p s f.closed) e closes in
        after c s.number (ap (λ (x : State). x.progress) h.rest) (ap (λ (x : State). x.begun) h.rest) (ap in_progress e)
    by (sweeping c number) e closes =
        let same : f.closed ≡ s = subst (λ (p : Progress). ClosesNow p s f.closed) e closes in
        after c number (ap (λ (x : State). x.progress) same ∙ e) (ap (λ (x : State). x.begun) same) (ap in_progress e)

-- the rows so far and the cycle in progress are together the cycles begun
abbrev Counted : ℕ → State → Type 0
Counted n s = n + in_progress s.progress ≡ s.begun

same_counted : (n : ℕ) (s t : State) → t.progress ≡ s.progress → t.begun ≡ s.begun → Counted n s → Counted n t
same_counted n s t p b h = ap (λ (x : Progress). n + in_progress x) p ∙ h ∙ sym b

closes_counted : (n quota : ℕ) (p : Progress) (s t : State) → s.progress ≡ p → ClosesOrWaits quota p s t → Counted n s → Counted n t
closes_counted n quota idle s t e same h = same_counted n s t (ap (λ (x : State). x.progress) same) (ap (λ (x : State). x.begun) same) h
closes_counted n quota (marking c) s t e (inl (same, may)) h = same_counted n s t (ap (λ (x : State). x.progress) same) (ap (λ (x : State). x.begun) same) h
closes_counted n quota (marking c) s t e (inr closes) h =
    let new : in_progress t.progress ≡ 1 = ap (λ (x : State). in_progress x.progress) closes.0.rest in
    let old : in_progress s.progress ≡ 1 = ap in_progress e in
    let begun : t.begun ≡ s.begun = ap (λ (x : State). x.begun) closes.0.rest in
    omega (arith, new, old, begun, h)
closes_counted n quota (sweeping c number) s t e same h = same_counted n s t (ap (λ (x : State). x.progress) same) (ap (λ (x : State). x.begun) same) h

ends_counted : (n : ℕ) (p : Progress) (s t : State) (cycles : List CycleRow) → s.progress ≡ p → EndsOrWaits p s t cycles → Counted n s →
    Counted (n + length cycles) t
ends_counted n p s t cycles e ends h = by p e ends
  where
    waited : (t ≡ s) → cycles ≡ [] → Counted (n + length cycles) t
    waited same none =
        let rows : length cycles ≡ 0 = ap (λ (rows : List CycleRow). length rows) none in
        let progress : in_progress t.progress ≡ in_progress s.progress = ap (λ (x : State). in_progress x.progress) same in
        let begun : t.begun ≡ s.begun = ap (λ (x : State). x.begun) same in
        omega (arith, rows, progress, begun, h)

    by : (p : Progress) → s.progress ≡ p → EndsOrWaits p s t cycles → Counted (n + length cycles) t
    by idle e w = waited w.0 w.1
    by (marking c) e w = waited w.0 w.1
    by (sweeping c number) e (inr w) = waited w.1 w.2
    by (sweeping c number) e (inl w) =
        let rows : length cycles ≡ 1 = ap (λ (rows : List CycleRow). length rows) w.1.cycles_are in
        let new : in_progress t.progress ≡ 0 = ap (λ (x : State). in_progress x.progress) w.1.rest in
        let old : in_progress s.progress ≡ 1 = ap in_progress e in
        let begun : t.begun ≡ s.begun = ap (λ (x : State). x.begun) w.1.rest in
        omega (arith, rows, new, old, begun, h)

-- the number of free segments is the same once a cycle begins

prepared_is_free : (s : Stands) → is (prepared_state s) stands.Free ≡ is s stands.Free
prepared_is_free stands.Free = refl
prepared_is_free (stands.Current m) = refl
prepared_is_free stands.Active = refl
prepared_is_free stands.Filled = refl
prepared_is_free stands.Sweeping = refl

-- 1 for a free segment, 0 for any other
abbrev pub free : Cells → ℕ
free c = cond (is c.state stands.Free) 1 0

pub free_kept : (segments : List Cells) → sum_by free (map (restated prepared_state) segments) ≡ sum_by free segments
free_kept [] = refl
free_kept (c ∷ segments) =
    let one : free (restated prepared_state c) ≡ free c = ap (λ (b : Bool). cond b 1 0) (prepared_is_free c.state) in
    let more : sum_by free (map (restated prepared_state) segments) ≡ sum_by free segments = free_kept segments in
    let new : sum_by free (restated prepared_state c ∷ map (restated prepared_state) segments) ≡
    free (restated prepared_state c) + sum_by free (map (restated prepared_state) segments) =
    sum_by-cons free (restated prepared_state c) (map (restated prepared_state) segments) in
    let old : sum_by free (c ∷ segments) ≡ free c + sum_by free segments = sum_by-cons free c segments in
    omega (arith, one, more, new, old)

-- after a stop: the count, and an idle collector if the heap is short
record Left (plan : Plan) (n : ℕ) (t : State) : Type 0 where
  counted : Counted n t
  idle_if_short : is_short plan t ≡ true → is_idle t.progress ≡ true

begins_left : (plan : Plan) (n : ℕ) (s t : State) → (IsFullDue plan s → ⊥) → BeginsOrWaits plan.config s t → Counted n s → Left plan n t
begins_left plan n s t not (inr b) h = record {
  counted = same_counted n s t (ap (λ (x : State). x.progress) b.1) (ap (λ (x : State). x.begun) b.1) h;
  idle_if_short = λ short. absurd (not (inr (sym (ap (λ (x : State). is_short plan x) b.1) ∙ short)));
}
begins_left plan n s t not (inl b) h =
    let none : in_progress s.progress ≡ 0 = idle_none s.progress b.0.0 in
    let one : in_progress t.progress ≡ 1 = ap (λ (x : State). in_progress x.progress) b.1 in
    let begun : t.begun ≡ s.begun + 1 = ap (λ (x : State). x.begun) b.1 in
    let same : is_short plan t ≡ is_short plan s = cc (b.1, free_kept s.allocation.segments) in
    record { counted = omega (arith, none, one, begun, h); idle_if_short = λ short. absurd (not (inr (sym same ∙ short))) }

full_left : (plan : Plan) (n : ℕ) (s t : State) (cycles : List CycleRow) → DoesFullCycle s t cycles → Counted n s → Left plan (n + length cycles) t
full_left plan n s t cycles f h =
    let before = finishes s f.idled f.before f.finishes in
    let again = finishes (cycle_started (with_all_retired f.idled)) f.last f.own f.again in
    let rows : length cycles ≡ length f.before + length f.own = ap (λ (rows : List CycleRow). length rows) f.cycles_are ∙ length-append f.before f.own in
    let first : length f.before ≡ in_progress s.progress = before.rows in
    let own : length f.own ≡ 1 = again.rows in
    let begun_before : f.idled.begun ≡ s.begun = before.begun in
    let begun_again : f.last.begun ≡ f.idled.begun + 1 = again.begun in
    let begun : t.begun ≡ f.last.begun = ap (λ (x : State). x.begun) f.rest in
    let idled : is_idle t.progress ≡ true = ap (λ (x : State). is_idle x.progress) f.rest ∙ again.idled in
    let none : in_progress t.progress ≡ 0 = idle_none t.progress idled in
    record { counted = omega (arith, rows, first, own, begun_before, begun_again, begun, none, h); idle_if_short = λ short. idled }

proceeds_left : (plan : Plan) (n : ℕ) (s t : State) (cycles : List CycleRow) → Proceeds plan s t cycles → Counted n s → Left plan (n + length cycles) t
proceeds_left plan n s t cycles (inl f) h = full_left plan n s t cycles f.1 h
proceeds_left plan n s t cycles (inr b) h =
    let left : Left plan n t = begins_left plan n s t b.0 b.1 h in
    let rows : n ≡ n + length cycles = (let none : length cycles ≡ 0 = ap (λ (rows : List CycleRow). length rows) b.2 in omega (arith, none)) in
    subst (λ (k : ℕ). Left plan k t) rows left

stop_counted : (plan : Plan) (n : ℕ) (began : World) (s t : State) (row : StopRow) (cycles : List CycleRow) → IsStop plan began s t row cycles →
    Counted n s → Left plan (n + length cycles) t
stop_counted plan n began s t row cycles i h =
    let promoted : Counted n i.promoted = same_counted n s i.promoted (ap (λ (x : State). x.progress) i.promotes.rest) (ap (λ (x : State).
    x.begun) i.promotes.rest) h in
    let closed : Counted n i.closed = closes_counted n plan.config.quota i.promoted.progress i.promoted i.closed refl i.closes promoted in
    let ended : Counted (n + length i.first) i.ended = ends_counted n i.closed.progress i.closed i.ended i.first refl i.ends closed in
    let left : Left plan (n + length i.first + length i.more) t = proceeds_left plan (n + length i.first) i.ended t i.more i.proceeds ended in
    let rows : n + length i.first + length i.more ≡ n + length cycles =
    (let all : length cycles ≡ length i.first + length i.more = ap (λ (rows : List CycleRow). length rows) i.cycles_are ∙ length-append i.first i.more in
    omega (arith, all)) in
    subst (λ (k : ℕ). Left plan k t) rows left

noted_same : (p : Progress) (rows : List Row) → in_progress (noted p rows) ≡ in_progress p
noted_same idle rows = refl
noted_same (marking c) rows = refl
noted_same (sweeping c number) rows = refl

-- the rows of rounds and their stops
abbrev rows_of_turns : List Turn → List CycleRow
rows_of_turns turns = flat_map (λ (turn : Turn). turn.stop.cycles) turns

turns_counted : (plan : Plan) (n : ℕ) (s : State) (turns : List Turn) → AreTurns plan s turns → Left plan n s →
    Left plan (n + length (rows_of_turns turns)) (state_after s turns)
turns_counted plan n s [] i h = subst (λ (k : ℕ). Left plan k s) (omega arith) h
turns_counted plan n s (turn ∷ turns) i h =
    let worked : Counted n turn.worked =
    let progress : in_progress turn.worked.progress ≡ in_progress s.progress = cc (i.0.round.rest, noted_same s.progress turn.history) in
    let begun : turn.worked.begun ≡ s.begun = ap (λ (x : State). x.begun) i.0.round.rest in
    let old : Counted n s = h.counted in
    omega (arith, progress, begun, old) in
    let stopped : Left plan (n + length turn.stop.cycles) turn.stop.state =
    stop_counted plan n s.world turn.worked turn.stop.state turn.stop.row turn.stop.cycles i.0.stop worked in
    let rest : Left plan (n + length turn.stop.cycles + length (rows_of_turns turns)) (state_after turn.stop.state turns) =
    turns_counted plan (n + length turn.stop.cycles) turn.stop.state turns i.1 stopped in
    let rows : n + length turn.stop.cycles + length (rows_of_turns turns) ≡ n + length (turn.stop.cycles ++ rows_of_turns turns) =
    (let all : length (turn.stop.cycles ++ rows_of_turns turns) ≡ length turn.stop.cycles + length (rows_of_turns turns) = length-append turn.stop.cycles (rows_of_turns turns) in
    omega (arith, all)) in
    subst (λ (k : ℕ). Left plan k (state_after turn.stop.state turns)) rows rest

-- an end comes only from an idle collector
end_idle : (short none quiet : Bool) (full quiet_end end : End) → (short ≡ true → quiet ≡ true) →
    (if short then Some full else (if none && quiet then Some quiet_end else None)) ≡ Some end → quiet ≡ true
end_idle true none quiet full quiet_end end idled e = idled refl
end_idle false true true full quiet_end end idled e = refl
end_idle false true false full quiet_end end idled e = absurd cc
end_idle false false quiet full quiet_end end idled e = absurd cc

run_left : (plan : Plan) (run : Run) → IsRun plan run →
    Left plan (0 + length run.opening.cycles + length (rows_of_turns run.turns)) (last_state run)
run_left plan run i =
    turns_counted plan (0 + length run.opening.cycles) run.opening.state run.turns i.turns
    (stop_counted plan 0 _ (start plan) run.opening.state run.opening.row run.opening.cycles i.opening refl)

-- no cycle is in progress once a run has ended
pub end_is_idle : (plan : Plan) (run : Run) (end : End) → IsRun plan run → answer_of plan (last_state run) ≡ Some end →
    is_idle (last_state run).progress ≡ true
end_is_idle plan run end i e =
    end_idle (is_short plan (last_state run)) (not (has_left (last_state run).left)) (is_idle (last_state run).progress) _ _ end
    (run_left plan run i).idle_if_short e

pub each_cycle_has_its_row : EachCycleHasItsRow
each_cycle_has_its_row plan run rounds stops cycles end i agrees e =
    let none : in_progress (last_state run).progress ≡ 0 = idle_none (last_state run).progress (end_is_idle plan run end i e) in
    let rows : length cycles ≡ length run.opening.cycles + length (rows_of_turns run.turns) =
    ap (λ (rows : List CycleRow). length rows) agrees.cycles_are ∙ length-append run.opening.cycles (rows_of_turns run.turns) in
    let counted : 0 + length run.opening.cycles + length (rows_of_turns run.turns) + in_progress (last_state run).progress ≡
    (last_state run).begun = (run_left plan run i).counted in
    omega (arith, none, rows, counted)
