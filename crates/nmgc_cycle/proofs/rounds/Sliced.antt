-- Positions and replies after the slices of a round, and whether a slice asked for a cycle.
use Rattle.nmgc_cycle.proofs.Vocabulary.{ℕ, zero, suc, ◌≡◌, ◌+◌, ◌-◌, ◌<◌, ◌^◌, Bool, List, [], ◌∷◌, ◌++◌, length, map, take, drop, slice_index, refl, sym, ap, subst, ◌∙◌, arith, Option, Some, Global, slice_get, option_map, list_any, Vec, length-drop, slice_get-map, slice_get_within, get_or_from_slice_get, Round, Segments, Opening, Mutator, Ended, tried, passed, Done, Script, map_item, Run, program_of, some_asks, is_collect, is_full, Collector, Worker, IsAfterStop, FitsRun, asks_of, asks_full_of, left_at, commands_in, mutator_of, done_by, DidSlice, item, Receiver, Sender, slice_index_or}
use Rattle.nmgc_cycle.specs.declared.progress.Progress as held
use Rattle.nmgc_cycle.proofs.{rounds.Asking.same_any, rounds.Asking.any_mapped, rounds.Gathering.AllDid, rounds.Gathering.OneDid, lists.Plans.program_few, rounds.Positions.position_within, rounds.Slicing.commands_of}

-- a whole list is overwritten
pub overwritten : {A : Type 0} (n : ℕ) (xs ys : List A) → length ys ≡ length xs → n ≡ length xs → take n (ys ++ drop (length ys) xs) ≡ ys
overwritten zero [] [] l e = refl
overwritten (suc n) [] [] l e = refl
overwritten n [] (y ∷ ys) l e = absurd (omega arith)
overwritten n (x ∷ xs) [] l e = absurd (omega arith)
overwritten zero (x ∷ xs) (y ∷ ys) l e = absurd (omega arith)
overwritten (suc n) (x ∷ xs) (y ∷ ys) l e = ap (λ rest. y ∷ rest) (overwritten n xs ys (omega arith) (omega arith))

-- the worker at a position did the number of commands there
pub done_of : (ws : List Worker) (k : ℕ) (d : Worker) → k < length ws → slice_index (map done_by ws) k ≡ (slice_index_or ws k d).done
done_of [] k d lt = absurd (omega (arith, lt))
done_of (w ∷ ws) zero d lt = refl
done_of (w ∷ ws) (suc k) d lt = done_of ws k d (omega (arith, lt))

module _ (script : Script) (c : Collector) (run : Run) (limits : FitsRun script) (still : IsAfterStop script c run) (o : Opening) (round : Round)
    (new : List Worker) (count : length new ≡ length c.mutators.items) (did : AllDid script c round o new) where
  pub positions_counted : length c.positions.items ≡ length new
  positions_counted = still.kept.positions_are ∙ sym (count ∙ still.kept.count)

  done_at : (k : ℕ) (x : Worker) → slice_get new k ≡ Some x → slice_index (map done_by new) k ≡ x.done
  done_at k x e = get_or_from_slice_get (map done_by new) k x.done 0 (slice_get-map done_by new k ∙ ap (option_map done_by) e)

  one_at : (k : ℕ) → k < length new → (x : Worker) × (slice_get new k ≡ Some x) × ((d : List Done) × OneDid script c round o k x d)
  one_at k lt =
      let x = item new k lt in
      let d = item did.done k (let n = did.count in omega (arith, n, lt)) in
      (x.0, x.1, (d.0, did.each k x.0 d.0 x.1 d.1))

  -- a position doesn't pass the end of its program
  pub positions_fit : (k : ℕ) → k < length c.positions.items → slice_index c.positions.items k + slice_index (map done_by new) k < 2 ^ 32
  positions_fit k lt =
      let x = one_at k (omega (arith, lt, positions_counted)) in
      let is = done_at k x.0 x.1 in
      let most = x.2.1.slice.within in
      let left : length (left_at script c.positions.items k) ≡ length (program_of script.threads k) - slice_index c.positions.items k =
      length-drop (slice_index c.positions.items k) (program_of script.threads k) in
      let within = position_within script c run still k (let n = still.kept.positions_are in omega (arith, lt, n)) in
      let few = program_few script limits k in
      omega (arith, is, most, left, within, few)

  -- a cycle is asked for if a worker asks
  pub asks_are : list_any asks_of new ≡ some_asks is_collect (commands_in did.done)
  asks_are =
      same_any asks_of (λ (d : List Done). list_any is_collect (commands_of d)) new did.done (sym did.count) (λ k x d e f. (did.each k x d e f).slice.asks)
      ∙ sym (any_mapped (list_any is_collect) commands_of did.done)

  -- and so is a full one
  pub asks_full_are : list_any asks_full_of new ≡ some_asks is_full (commands_in did.done)
  asks_full_are =
      same_any asks_full_of (λ (d : List Done). list_any is_full (commands_of d)) new did.done (sym did.count) (λ k x d e f.
      (did.each k x d e f).slice.asks_full)
      ∙ sym (any_mapped (list_any is_full) commands_of did.done)

  -- each did its slice
  pub each_did : (words : Option (List ℕ)) (segments : Segments) (progress : held.Progress) (collect asked : Bool) (inbox : List Receiver)
      (mutators : Vec Mutator Global) (positions : Vec ℕ Global) → mutators.items ≡ map mutator_of new →
      ((k : ℕ) → k < length c.positions.items → slice_index positions.items k ≡ slice_index c.positions.items k + slice_index (map done_by new) k) →
      (k : ℕ) (m n : Mutator) (d : List Done) → slice_get c.mutators.items k ≡ Some m → slice_get mutators.items k ≡ Some n →
      slice_get did.done k ≡ Some d → DidSlice script c (record c {
        heap = record c.heap { words = words; segments = segments };
        cycle = record c.cycle { progress = progress; collect = collect; full = asked };
        inbox = inbox;
        mutators = mutators;
        positions = positions;
      }) k m n d
  each_did words segments progress collect asked inbox mutators positions same moved k m n d e f g =
      let x = map_item mutator_of new k n (ap (λ (l : List Mutator). slice_get l k) (sym same) ∙ f) in
      let h = did.each k x.0 d x.1 g in
      let old_is = h.old_is in
      let old : h.old ≡ m = cc (old_is, e) in
      let within = slice_get_within new k x.0 x.1 in
      let is = done_at k x.0 x.1 in
      let many = h.slice.count in
      let now = moved k (omega (arith, within, positions_counted)) in
      record {
        commands = h.slice.commands;
        replies = ap (λ (u : Mutator). u.replies.items) x.2 ∙ h.slice.did.replies ∙ ap (λ (u : Mutator). u.replies.items ++ map (λ (p : Done). p.1) d) old;
        position = omega (arith, is, many, now);
        end = x.0.end;
        ended =
            subst (λ (u : Mutator). Ended (left_at script c.positions.items k) script.config.slice (length d) u x.0.end) (sym x.2) (subst (λ (n : ℕ).
            Ended (left_at script c.positions.items k) script.config.slice n x.0.mutator x.0.end) (sym many) h.slice.ended);
        turns = ap (λ (u : Mutator). u.turns) x.2 ∙ h.slice.turns ∙ ap (λ (u : Mutator). passed u.turns (tried x.0.done x.0.end)) old ∙
            ap (λ (n : ℕ). passed m.turns (tried n x.0.end)) (sym many);
        queue_room =
            let room = h.slice.did.room.queue in
            let before = ap (λ (u : Mutator). u.queue.spare) old in
            let after = ap (λ (u : Mutator). u.queue.spare) x.2 in
            omega (arith, room, before, after);
        sends =
            let line = h.slice.did.sends in
            let before = ap (λ (u : Mutator). u.sender) old in
            let after = ap (λ (u : Mutator). u.sender) x.2 in (
              ap (λ (s : Sender). s.ring) after ∙ line.0 ∙ ap (λ (s : Sender). s.ring) before,
              ap (λ (s : Sender). s.before) after ∙ line.1 ∙
                  ap (λ (s : Sender). s.before) before,
            );
      }
