-- A full cycle leaves no more rounds to follow, and begins one cycle.
use Rattle.nmgc_cycle.proofs.Vocabulary.{ℕ, ◌≡◌, ◌+◌, ◌≤◌, List, Bool, false, sym, ap, subst, ◌∙◌, arith, inl, inr, AllocState, StandsFor, CycleRow, RoundRows, IsKeptIn, ClosesNow, Plan, State, Progress, idle, marking, sweeping, cycle_started, Finishes, DoesFullCycle, IsFullDue, Proceeds, with_all_retired, SweepsRest, Script, Collector, commands_left, heap_of, phase_left, MayFollow, AreFew, HasMore, NoneIsDue, commands, one_cycle, no_cycle, HasStood, IsDueBy, HasDoneFull, ProceedsThen, words_in}
use Rattle.nmgc_cycle.specs.Cycles.{all_prepared}
use Rattle.nmgc_cycle.specs.declared.progress.Progress.TheVariants as doing
use Rattle.nmgc_cycle.proofs.{cycles.FullCycle.finished_idle, cycles.FullCycle.finished_begun, rounds.NoneLeft.each_fresh, lengths.StopFew.beginning_few, lengths.StopFew.beginning_more, lengths.StopFew.beginning_begun, stops.WholeStop.ending_keeps}

-- no segment was filled by placing since the cycle began

closing_fresh : (p : Progress) (s t : State) → ClosesNow p s t → t.allocation ≡ s.allocation
closing_fresh idle s t e = ap (λ (x : State). x.allocation) e
closing_fresh (marking k) s t h = ap (λ (x : State). x.allocation) h.rest
closing_fresh (sweeping k since) s t e = ap (λ (x : State). x.allocation) e

sweeping_fresh : (p : Progress) (a b : AllocState) → SweepsRest p a b → b.fresh ≡ a.fresh
sweeping_fresh idle a b e = ap (λ (x : AllocState). x.fresh) e
sweeping_fresh (marking k) a b e = ap (λ (x : AllocState). x.fresh) e
sweeping_fresh (sweeping k since) a b h = each_fresh (IsKeptIn k) a b h.numbers h.sweeps

finishing_fresh : (s t : State) (rows : List CycleRow) → Finishes s t rows → t.allocation.fresh ≡ s.allocation.fresh
finishing_fresh s t rows f =
    cc ((ending_keeps f.swept.progress f.swept t rows f.ends).1, sweeping_fresh f.closed.progress f.closed.allocation f.swept.allocation f.sweeps, closing_fresh s.progress s f.closed f.closes)

full_fresh : (s t : State) (rows : List CycleRow) → DoesFullCycle s t rows → t.allocation.fresh ≡ 0
full_fresh s t rows d = ap (λ (x : State). x.allocation.fresh) d.rest ∙ finishing_fresh (cycle_started (with_all_retired d.idled)) d.last d.own d.again

-- no cycle is in progress, and none is due
module _ (script : Script) (old new : Collector) (stops : ℕ) (rounds : new.rows.rounds ≡ old.rows.rounds) (none : new.cycle.progress ≡
    doing.Idle) (not_asked : new.cycle.collect ≡ false) (fresh : new.heap.segments.fresh ≡ 0) where
  none_due : NoneIsDue script.config.trigger new
  none_due = record { not_asked = not_asked; not_filled = λ some. omega (arith, fresh, some) }

  none_left : phase_left script.config.segments new.cycle.progress ≡ 0
  none_left = ap (phase_left script.config.segments) none

  same_left : commands_left script.threads new.rows.rounds ≡ commands_left script.threads old.rows.rounds
  same_left = ap (λ (r : List RoundRows). commands_left script.threads r) rounds

  follow : MayFollow (Unit {0}) script old stops → MayFollow (Unit {0}) script new stops
  follow (commands h) = commands (let same = same_left in omega (arith, h, same))
  follow (one_cycle no_more h) = no_cycle (same_left ∙ no_more) tt none_due (let phase = none_left in omega (arith, h, phase))
  follow (no_cycle no_more nothing not h) = no_cycle (same_left ∙ no_more) tt none_due (let phase = none_left in omega (arith, h, phase))

  pub idle_few : AreFew (Unit {0}) script old stops → AreFew (Unit {0}) script new stops
  idle_few few = record { follow = follow few.follow; phase = (let phase = none_left in omega (arith, phase)) }

full_idle : (stop : ℕ) (old new : Collector) → HasDoneFull stop old new → new.cycle.progress ≡ doing.Idle
full_idle stop old new d = ap (λ (x : Collector). x.cycle.progress) d.is ∙ finished_idle stop d.started d.last d.again

-- a full cycle that is due leaves the count of filled segments 0
pub fresh_where_due : (plan : Plan) (s t : State) (rows : List CycleRow) → Proceeds plan s t rows → IsFullDue plan s → t.allocation.fresh ≡ 0
fresh_where_due plan s t rows (inl x) due = full_fresh s t rows x.1
fresh_where_due plan s t rows (inr x) due = absurd (x.0 due)

pub proceeding_few : (script : Script) (old new : Collector) (stops stop : ℕ) (some : Bool) (t : State) → old.heap.segments.layout ≡ heap_of script →
    (old.cycle.progress ≡ doing.Idle → HasStood (all_prepared old.heap.segments) (words_in old.heap.words)) → (words : List ℕ) →
    StandsFor new.heap.segments words t.allocation → ProceedsThen script.config.trigger some stop old new → AreFew (Unit {0}) script old stops →
    new.rows.rounds ≡ old.rows.rounds → (IsDueBy some old → t.allocation.fresh ≡ 0) → AreFew (Unit {0}) script new stops
proceeding_few script old new stops stop some t layout stood words stands (inl x) few rounds fresh =
    idle_few script old new stops rounds (full_idle stop old new x.1) (ap (λ (y : Collector). y.cycle.collect) x.1.is) (sym stands.fresh ∙ fresh x.0) few
proceeding_few script old new stops stop some t layout stood words stands (inr x) few rounds fresh =
    beginning_few script old new stops stop layout (λ due. stood due.0) x.1 few

-- at most one further cycle was begun

pub proceeding_begun : (trigger : ℕ) (some : Bool) (stop : ℕ) (old new : Collector) → ProceedsThen trigger some stop old new →
    new.cycle.begun ≤ old.cycle.begun + 1
proceeding_begun trigger some stop old new (inl x) =
    let d = x.1 in
    let first = finished_begun stop old d.idled d.first in
    let started = ap (λ (c : Collector). c.cycle.begun) d.starts.is in
    let again = finished_begun stop d.started d.last d.again in
    let is = ap (λ (c : Collector). c.cycle.begun) d.is in
    omega (arith, first, started, again, is)
proceeding_begun trigger some stop old new (inr x) = beginning_begun trigger stop old new x.1

-- a cycle that goes on has work left
pub proceeding_more : (trigger : ℕ) (some : Bool) (stop : ℕ) (old new : Collector) → ProceedsThen trigger some stop old new → HasMore old.cycle.progress →
    HasMore new.cycle.progress
proceeding_more trigger some stop old new (inl x) more = subst HasMore (sym (full_idle stop old new x.1)) tt
proceeding_more trigger some stop old new (inr x) more = beginning_more trigger stop old new x.1 more
