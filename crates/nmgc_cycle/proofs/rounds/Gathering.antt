-- The results of all mutators' slices, by their numbers.
use Rattle.nmgc_cycle.proofs.Vocabulary.{ℕ, ◌≡◌, List, length, map, slice_index_or, sym, ap, subst, ◌∙◌, arith, Some, slice_get, length-map, slice_get_within, get_or_from_slice_get, Command, map_item, Layout, Round, Opening, RoundSeat, alone, Mutator, HasDone, IsResting, SlicesAreDone, Done, Script, Run, Collector, Worker, IsAfterStop, FitsRun, left_at, HaveAllWorked, HasWorkedOn, worker_of, workers_of, mutator_of, seat_of, item}
use Rattle.nmgc_cycle.proofs.{lists.Items.chosen, rounds.Opened.IsOpened, rounds.Readiness.HasSeats, rounds.Readiness.seats_counted, rounds.Readiness.seat_alone, rounds.Readiness.workers_at, rounds.Readiness.workers_count, rounds.Resting.resting, rounds.Resting.mutators_counted, rounds.Slicing.IsSlice, rounds.Slicing.slice_done}

-- the work of worker k, from its mutator's earlier state
pub record OneDid (script : Script) (c : Collector) (round : Round) (o : Opening) (k : ℕ) (new : Worker) (done : List Done) : Type 0 where
  pub old : Mutator
  pub old_is : slice_get c.mutators.items k ≡ Some old
  pub slice : IsSlice script.config round o k (left_at script c.positions.items k) old new done

-- the work of all workers
pub record AllDid (script : Script) (c : Collector) (round : Round) (o : Opening) (new : List Worker) : Type 0 where
  pub done : List (List Done)
  pub count : length done ≡ length new
  pub each : (k : ℕ) (x : Worker) (d : List Done) → slice_get new k ≡ Some x → slice_get done k ≡ Some d → OneDid script c round o k x d

module _ (script : Script) (c : Collector) (run : Run) (limits : FitsRun script) (still : IsAfterStop script c run) (o : Opening)
    (op : IsOpened script c run still o) (round : Round) (seats : List RoundSeat) (has : HasSeats o round seats) (new : List Worker)
    (worked : HaveAllWorked round script c.positions.items (workers_of c.mutators.items seats) new) where
  old_count : length (workers_of c.mutators.items seats) ≡ length c.mutators.items
  old_count = workers_count c.mutators.items seats (seats_counted c.mutators.items o op.hands_are round seats has)

  one_did : (k : ℕ) (x : Worker) → slice_get new k ≡ Some x → (done : List Done) × OneDid script c round o k x done
  one_did k x e =
      let within = slice_get_within new k x e in
      let count = worked.count in
      let m = item c.mutators.items k (omega (arith, within, count, old_count)) in
      let seat = item seats k (let n = seats_counted c.mutators.items o op.hands_are round seats has in omega (arith, within, count, old_count, n)) in
      let was : slice_index_or (workers_of c.mutators.items seats) k x ≡ worker_of (m.0, seat.0) =
      get_or_from_slice_get (workers_of c.mutators.items seats) k (worker_of (
        m.0,
        seat.0,
      )) x (workers_at c.mutators.items seats k m.0 seat.0 m.1 seat.1) in
      let now : slice_index_or new k x ≡ x = get_or_from_slice_get new k x x e in
      let left : List Command = left_at script c.positions.items k in
      let did : HasWorkedOn round script.config.slice left (worker_of (m.0, seat.0)) x =
      subst (HasWorkedOn round script.config.slice left (worker_of (m.0, seat.0))) now (rw was at (worked.each k x (omega (arith, within, count)))) in
      let nursery : m.0.layout.nursery ≡ script.config.nursery =
      ap (λ (l : Layout). l.nursery) ((resting script c run limits still k m.0 m.1).layout_is ∙ still.kept.layout) in
      let h = slice_done script.config round o k left m.0 seat.0 x (seat_alone c.mutators.items o op.hands_are round seats has k seat.0 seat.1) nursery did in
      (h.0, record { old = m.0; old_is = m.1; slice = h.1 })

  pub all_did : AllDid script c round o new
  all_did = let h = chosen (λ k x d. OneDid script c round o k x d) new one_did in record { done = h.0; count = h.1; each = h.2 }

  pub slices_done : (did : AllDid script c round o new) → SlicesAreDone o round c.mutators.items (map mutator_of new) (map seat_of new) did.done
  slices_done did = record {
    mutators_are = (count, length-map new mutator_of ∙ new_count ∙ count);
    seats_are = length-map new seat_of ∙ new_count ∙ count;
    done_are = did.count ∙ new_count ∙ count;
    resting = λ k m e. subst (λ (l : Layout). IsResting l k m) (sym layout) (resting script c run limits still k m e);
    each = each;
  }
    where
      layout : o.layout ≡ c.heap.segments.layout
      layout = op.layout_is

      count : length c.mutators.items ≡ o.layout.mutators
      count = mutators_counted script c run limits still ∙ sym (ap (λ (l : Layout). l.mutators) layout)

      new_count : length new ≡ length c.mutators.items
      new_count = worked.count ∙ old_count

      each : (k : ℕ) (m n : Mutator) (seat : RoundSeat) (d : List Done) → slice_get c.mutators.items k ≡ Some m →
          slice_get (map mutator_of new) k ≡ Some n → slice_get (map seat_of new) k ≡ Some seat → slice_get did.done k ≡ Some d →
          HasDone round (alone o k) seat m n d
      each k m n seat d e f g i =
          let x = map_item mutator_of new k n f in
          let y = map_item seat_of new k seat g in
          let h = did.each k x.0 d x.1 i in
          let here = x.1 in
          let also = y.1 in
          let same : x.0 ≡ y.0 = cc (here, also) in
          let old_is = h.old_is in
          let old : h.old ≡ m = cc (old_is, e) in
          let place : x.0.seat ≡ seat = ap seat_of same ∙ sym y.2 in
          rw (← old) (rw (← place) (subst (λ (u : Mutator). HasDone round (alone o k) x.0.seat h.old u d) (sym x.2) h.slice.did))
