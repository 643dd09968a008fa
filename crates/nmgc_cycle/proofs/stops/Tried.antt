-- The mutators' passes of the gate: a stop's steps add none, and a round adds the commands that each tried.
use Rattle.nmgc_cycle.proofs.Vocabulary.{ℕ, ◌≡◌, ◌+◌, ◌-◌, ◌∙◌, Bool, inl, inr, List, [], ◌∷◌, length, map, slice_index, refl, sym, ap, subst, arith, Option, None, Some, Global, slice_get, Vec, slice_get_within, get_or_from_slice_get, Command, map_item, RoundRows, Nursery, passed, Opening, Mutator, SliceEnd, Ended, tried, Script, Death, OldWeak, Collector, Doing, Closes, Ends, HasStarted, Begins, HasFinished, HasDoneFull, HaveForgotten, HaveMet, HaveQueueRoom, FinalisersQueued, promoted_by, turns_in, mutator_turns_of, AreReserved, DidSlices, HaveTried, cleared, left_at, item}
use Rattle.nmgc_cycle.specs.Full.{ClosesNow, Proceeds, with_all_retired}
use Rattle.nmgc_mutator.specs.declared.mutator.SliceEnd.TheVariants as ending
use Rattle.nmgc_cycle.specs.declared.progress.Progress.TheVariants as doing
use Rattle.nmgc_cycle.proofs.{lists.Mapped.same_maps, rounds.Reserved.was_at, stops.StopEnds.IsStepped}

abbrev turns_by : Mutator → ℕ
turns_by m = m.turns

-- the count at a position in a list: 0 past its end
abbrev turns_at : Option Mutator → ℕ
turns_at None = 0
turns_at (Some m) = m.turns

-- A stop

-- words were forwarded
forwarded : (forward : ℕ → ℕ) (ms : List Mutator) → turns_in (map (promoted_by forward) ms) ≡ turns_in ms
forwarded forward [] = refl
forwarded forward (m ∷ ms) = ap (λ (l : List ℕ). m.turns ∷ l) (forwarded forward ms)

-- nothing is remembered any more
forgotten : (old new : List Mutator) → HaveForgotten old new → turns_in new ≡ turns_in old
forgotten old new h = same_maps turns_by turns_by new old h.count (λ k n m e f. ap turns_by (h.each k m n f e).rest)

-- finalisers were queued
queued : (deaths : List Death) (old new : List Mutator) → FinalisersQueued deaths old new → turns_in new ≡ turns_in old
queued deaths old new h = same_maps turns_by turns_by new old h.have.count (λ k n m e f. ap turns_at (sym e ∙ h.have.each k m f))

-- there is room for them
with_room : (list : List OldWeak) (old new : List Mutator) → HaveQueueRoom list old new → turns_in new ≡ turns_in old
with_room list old new h = same_maps turns_by turns_by new old h.count (λ k n m e f.
    let same = (h.each k m (slice_get_within old k m f)).rest in
    ap turns_by (sym (get_or_from_slice_get new k n m e)) ∙ ap turns_by same ∙ ap turns_by (get_or_from_slice_get old k m m f))

module _ (stop : ℕ) (old new : Collector) where
  closes : (p : Doing) → Closes stop p old new → mutator_turns_of new ≡ mutator_turns_of old
  closes doing.Idle h = ap mutator_turns_of h
  closes (doing.Marking m) (inl h) = queued new.heap.weaks.deaths old.mutators.items new.mutators.items h.1.2.joined
  closes (doing.Marking m) (inr h) = ap mutator_turns_of h.1
  closes (doing.Sweeping w) h = ap mutator_turns_of h

  closes_now : (p : Doing) → ClosesNow stop p old new → mutator_turns_of new ≡ mutator_turns_of old
  closes_now doing.Idle h = ap mutator_turns_of h
  closes_now (doing.Marking m) h = queued new.heap.weaks.deaths old.mutators.items new.mutators.items h.2.joined
  closes_now (doing.Sweeping w) h = ap mutator_turns_of h

  ends : (p : Doing) → Ends stop p old new → mutator_turns_of new ≡ mutator_turns_of old
  ends doing.Idle h = ap mutator_turns_of h
  ends (doing.Marking m) h = ap mutator_turns_of h
  ends (doing.Sweeping w) (inl h) = ap mutator_turns_of h.1
  ends (doing.Sweeping w) (inr h) = ap mutator_turns_of h.1

  -- the next one began
  starts : HasStarted stop old new → mutator_turns_of new ≡ mutator_turns_of old
  starts h = ap mutator_turns_of h.is ∙ with_room old.heap.weaks.list old.mutators.items h.marked.mutators.items h.starts.queue_room

  begins : (trigger : ℕ) → Begins trigger stop old new → mutator_turns_of new ≡ mutator_turns_of old
  begins trigger (inl h) = starts h.1
  begins trigger (inr h) = ap mutator_turns_of h.1

-- a full cycle was done
finished : (stop : ℕ) (old new : Collector) → HasFinished stop old new → mutator_turns_of new ≡ mutator_turns_of old
finished stop old new h = ends stop h.swept new h.swept.cycle.progress h.ends ∙ ap mutator_turns_of h.sweeps.rest ∙
    closes_now stop old h.closed old.cycle.progress h.closes.closes

full : (stop : ℕ) (old new : Collector) → HasDoneFull stop old new → mutator_turns_of new ≡ mutator_turns_of old
full stop old new h = ap mutator_turns_of h.is ∙ finished stop h.started h.last h.again ∙
    starts stop (with_all_retired h.idled) h.started h.starts ∙ finished stop old h.idled h.first

proceeds : (trigger : ℕ) (left : Bool) (stop : ℕ) (old new : Collector) → Proceeds trigger left stop old new →
    mutator_turns_of new ≡ mutator_turns_of old
proceeds trigger left stop old new (inl h) = full stop old new h.1
proceeds trigger left stop old new (inr h) = begins stop old new trigger h.1

pub stop_turns : (script : Script) (old new : Collector) → IsStepped script old new → mutator_turns_of new ≡ mutator_turns_of old
stop_turns script old new x =
    proceeds script.config.trigger x.some x.number x.ended new x.proceeds
    ∙ ends x.number x.closed x.ended x.closed.cycle.progress x.ends
    ∙ closes x.number x.added x.closed x.added.cycle.progress x.closes.closes
    ∙ forgotten x.promoted.mutators.items x.added.mutators.items x.adds.mutators
    ∙ ap turns_in x.promotes.held
    ∙ forwarded x.promotes.forward old.mutators.items

-- A round

-- the end of a slice depends on the nursery alone
ended_on : (program : List Command) (slice done : ℕ) (m n : Mutator) (end : SliceEnd) → n.nursery ≡ m.nursery → Ended program slice done m end →
    Ended program slice done n end
ended_on program slice done m n ending.Slice same h = h
ended_on program slice done m n ending.Program same h = h
ended_on program slice done m n ending.Yield same h = h
ended_on program slice done m n ending.Collect same h = h
ended_on program slice done m n ending.Full same h = h
ended_on program slice done m n (ending.Nursery need left) same h =
    (h.0, h.1, (h.2.0, h.2.1, h.2.2, h.2.3, h.2.4 ∙ sym (ap (λ (x : Nursery). x.end - x.top) same), h.2.5))

abbrev nursery_by : Mutator → Nursery
nursery_by m = m.nursery

slices_tried : (script : Script) (o : Opening) (old new : Collector) → DidSlices script o old new → HaveTried script old new
slices_tried script o old new did = λ k m n e f.
    let within = slice_get_within new.mutators.items k n f in
    let some = did.gathers.worked.mutators_are in
    let many = did.gathers.worked.done_are in
    let d = item did.done k (omega (arith, within, some, many)) in
    let h = did.each k m n d.0 e f d.1 in
    record { done = length d.0; position = h.position; end = h.end; ended = h.ended; turns = h.turns }

-- room for the round came first
tried_from : (script : Script) (old listed roomy new : Collector) → listed ≡ record old { mutators = listed.mutators } →
    AreReserved old.mutators.items listed.mutators.items → roomy ≡ record listed { inbox = roomy.inbox } → HaveTried script roomy new →
    HaveTried script old new
tried_from script old listed roomy new first reserved second h = λ k m n e f.
    let within = slice_get_within old.mutators.items k m e in
    let count = reserved.count in
    let x = item listed.mutators.items k (omega (arith, within, count)) in
    let was = was_at old.mutators.items listed.mutators.items k x.0 reserved x.1 in
    let there = was.1 in
    let same : was.0 ≡ m = cc (there, e) in
    let turns : x.0.turns ≡ m.turns = ap turns_by was.2.rest ∙ ap turns_by same in
    let positions : roomy.positions.items ≡ old.positions.items = cc (second, first) in
    let t = h k x.0 n (ap (λ (c : Collector). slice_get c.mutators.items k) second ∙ x.1) f in
    record {
      done = t.done;
      position = t.position ∙ ap (λ (l : List ℕ). slice_index l k + t.done) positions;
      end = t.end;
      ended = subst (λ (l : List ℕ). Ended (left_at script l k) script.config.slice t.done n t.end) positions t.ended;
      turns = t.turns ∙ ap (λ (turn : ℕ). passed turn (tried t.done t.end)) turns;
    }

-- the replies were taken
tried_cleared : (script : Script) (old did : Collector) (mutators : Vec Mutator Global) (rounds : List RoundRows) →
    mutators.items ≡ map cleared did.mutators.items → HaveTried script old did →
    HaveTried script old (record did { mutators = mutators; rows = record did.rows { rounds = rounds } })
tried_cleared script old did mutators rounds same h = λ k m n e f.
    let x = map_item cleared did.mutators.items k n (cc (same, f)) in
    let t = h k m x.0 e x.1 in
    record {
      done = t.done;
      position = t.position;
      end = t.end;
      ended = ended_on (left_at script old.positions.items k) script.config.slice t.done x.0 n t.end (ap nursery_by x.2) t.ended;
      turns = ap turns_by x.2 ∙ t.turns;
    }

pub played_tried : (script : Script) (o : Opening) (old listed roomy did : Collector) (mutators : Vec Mutator Global) (rounds : List RoundRows) →
    listed ≡ record old { mutators = listed.mutators } → AreReserved old.mutators.items listed.mutators.items →
    roomy ≡ record listed { inbox = roomy.inbox } → DidSlices script o roomy did → mutators.items ≡ map cleared did.mutators.items →
    HaveTried script old (record did { mutators = mutators; rows = record did.rows { rounds = rounds } })
played_tried script o old listed roomy did mutators rounds first reserved second slices same =
    tried_cleared script old did mutators rounds same (tried_from script old listed roomy did first reserved second (slices_tried script o roomy did slices))

-- the ends of the rings met
pub met_tried : (script : Script) (old mid new : Collector) (many : ℕ) → new ≡ record mid { inbox = new.inbox; mutators = new.mutators } →
    HaveMet many mid.inbox new.inbox mid.mutators.items new.mutators.items → HaveTried script old mid → HaveTried script old new
met_tried script old mid new many rest met h = λ k m n e f.
    let within = slice_get_within new.mutators.items k n f in
    let count = met.count in
    let x = item mid.mutators.items k (omega (arith, within, count)) in
    let same = (met.mutators k x.0 n x.1 f).rest in
    let t = h k m x.0 e x.1 in
    record {
      done = t.done;
      position = ap (λ (c : Collector). slice_index c.positions.items k) rest ∙ t.position;
      end = t.end;
      ended = ended_on (left_at script old.positions.items k) script.config.slice t.done x.0 n t.end (ap nursery_by same) t.ended;
      turns = ap turns_by same ∙ t.turns;
    }
