-- The workers of a round, in the lists that the round fills; and the state after them and the collector.
use Rattle.nmgc_cycle.proofs.Vocabulary.{ℕ, ◌≡◌, ◌+◌, ◌<◌, ◌^◌, List, [], ◌++◌, length, map, take, drop, slice_index, refl, sym, ap, subst, ◌∙◌, Bool, Some, Global, All, ◌||◌, Vec, Segments, IsSegments, Round, Opening, Scan, Seen, whole, RoundSeat, IsAt, opening_of, all_together, collecting, HasAll, Leaves, Mutator, SlicesAreGathered, Script, Name, Collector, Worker, HasHelped, list_any, asks_of, asks_full_of, DidSlices, MayBeAsked, HaveAskRoom, CanAskAll, HaveAllWorked, workers_of, mutator_of, seat_of, done_by, seen_mutator, Receiver, HavePolled}
use Rattle.nmgc_round.specs.Seat.{seen}
use Rattle.nmgc_collector_laws.specs.Owed as owed
use Rattle.nmgc_cycle.specs.declared.progress.Progress as held
use Rattle.nmgc_cycle.specs.declared.progress.Progress.TheVariants as doing
use Rattle.nmgc_cycle.proofs.{rounds.Ran.MayBegin, rounds.Ran.HasBegun, rounds.Ran.HasRun, rounds.Ran.can_open, rounds.Ran.may_ask, rounds.Ran.workers_are, rounds.Ran.has_run, Vocabulary.MutatorsAreReady, lists.RootLists.seen_at, rounds.Sliced.overwritten, rounds.Sliced.asks_are, rounds.Sliced.asks_full_are, rounds.Sliced.each_did}

-- positions that can advance by these numbers
abbrev pub CanMove : List ℕ → List ℕ → Type 0
CanMove positions done = (k : ℕ) → k < length positions → slice_index positions k + slice_index done k < 2 ^ 32

-- positions that advanced
abbrev pub HaveMoved : List ℕ → List ℕ → List ℕ → Type 0
HaveMoved old done new = (k : ℕ) → k < length old → slice_index new k ≡ slice_index old k + slice_index done k

-- the workers of a round that has begun: each mutator with its seat
pub record AreSeated (script : Script) (c : Collector) (o : Opening) (round : Round) (workers : List Worker) : Type 0 where
  pub seats : List RoundSeat
  pub begun : HasBegun script c o round seats
  pub seated : workers ≡ workers_of c.mutators.items seats

pub are_seated : (script : Script) (c : Collector) (o : Opening) (round : Round) (seats : List RoundSeat) → HasBegun script c o round seats →
    (own : Vec Mutator Global) → own ≡ c.mutators → (workers : List Worker) → workers ≡ workers_of own.items seats → AreSeated script c o round workers
are_seated script c o round seats b own own_is workers seated = record {
  seats = seats;
  begun = b;
  seated = seated ∙ ap (λ (v : Vec Mutator Global). workers_of v.items seats) own_is;
}

-- after all have worked, their list has the slices' results
pub left_in : (workers : Vec Worker Global) (was new : List Worker) → was ≡ workers.items → length new ≡ length was →
    take workers.len (new ++ drop (length new) workers.items) ≡ new
left_in workers was new was_is count = overwritten workers.len workers.items new (count ∙ ap (λ (l : List Worker). length l) was_is) workers.ok.0

module _ (script : Script) (c : Collector) (o : Opening) (round : Round) (was : List Worker) (u : AreSeated script c o round was) where
  -- there is a worker for each mutator
  pub counted : length was ≡ length c.mutators.items
  counted = ap (λ (l : List Worker). length l) u.seated ∙ workers_are script c o round u.seats u.begun

  pub can_ask : MutatorsAreReady → {P : Type 0} (words most : P → ℕ) (valid : P → Type 0) (programs : List P) →
      MayBeAsked words most valid script c.positions.items programs → HaveAskRoom most script.config.slice c.mutators.items programs →
      CanAskAll words most valid round script.config.slice was programs
  can_ask begin words most valid programs asked room = subst (λ (l : List Worker). CanAskAll words most valid round script.config.slice l programs)
      (sym u.seated) (may_ask begin script c o round u.seats u.begun words most valid programs asked room)

  pub played : SlicesAreGathered → (new : List Worker) → HaveAllWorked round script c.positions.items was new → HasRun script c o round new
  played gather new worked = has_run gather script c o round u.seats new u.begun (rw u.seated at worked)

-- the knowledge of the collector's seat after its part: its scans
pub record HasScanned (o : Opening) (round : Round) (seat : RoundSeat) : Type 0 where
  pub at : IsAt round seat
  pub scans : List Scan
  pub knows : seen seat ≡ record (collecting (whole o)) { scans = scans }

pub scanned : (o : Opening) (round : Round) (quota : ℕ) (from seat : RoundSeat) (old new : Segments) (names : List Name) (q after : held.Progress) →
    IsAt round from → seen from ≡ collecting (whole o) → HasHelped round quota from seat old new names q after → HasScanned o round seat
scanned o round quota from seat old new names doing.Idle after at knows h = record {
  at = subst (IsAt round) (sym h.0) at;
  scans = [];
  knows = ap seen h.0 ∙ knows;
}
scanned o round quota from seat old new names (doing.Marking m) after at knows h =
    let worked = h.2.worked in
    record {
      at = worked.collector.0;
      scans = (seen from).scans ++ worked.later.scans;
      knows = worked.later.knows ∙ ap (λ (v : Seen). record v { scans = (seen from).scans ++ worked.later.scans }) knows;
    }
scanned o round quota from seat old new names (doing.Sweeping w) after at knows h = record {
  at = subst (IsAt round) (sym h.2) at;
  scans = [];
  knows = ap seen h.2 ∙ knows;
}

-- the result of a round, after the words are back
module _ (script : Script) (c : Collector) (o : Opening) (may : MayBegin script c o) (round : Round) (new : List Worker)
    (ran : HasRun script c o round new) (seat : RoundSeat) (has : HasScanned o round seat) where
  nothing : owed.RememberNothing c.mutators.items
  nothing k m e = (may.still.at_stop.at_rest.nothing k (seen_mutator m) (seen_at c.mutators.items k m e)).entries

  gathers : owed.SlicesAreGathered → owed.IsGathered o has.scans (map seat_of new) (map mutator_of new) ran.did.done
  gathers law = law o may.words round c.mutators.items (map mutator_of new) (map seat_of new) ran.did.done has.scans (can_open script c o may) ran.slices

  -- the seats together have every part of the round
  pub has_all : owed.SlicesAreGathered → (seats : List RoundSeat) → seats ≡ map seat_of new → HasAll (all_together (seen seat) (map seen seats))
  has_all law seats same = rw has.knows (rw same (gathers law).all)

  pub seats_at : (seats : List RoundSeat) → seats ≡ map seat_of new → All (IsAt round) seats
  seats_at seats same = subst (λ (l : List RoundSeat). All (IsAt round) l) (sym same) ran.at

  module _ (own : owed.SlicesAreGathered) (owes : owed.SlicesAreOwed) (from : RoundSeat) (began : seen from ≡
      collecting (whole o)) (opened : opening_of round ≡
      o) (segments : Segments) (sound : IsSegments segments) (progress : held.Progress)
      (helped : HasHelped round script.config.quota from seat c.heap.segments segments c.heap.names c.cycle.progress progress) where
    pub did_slices : (seats : List RoundSeat) → seats ≡ map seat_of new → (words : List ℕ) →
        Leaves (opening_of round) words (all_together (seen seat) (map seen seats)) → (collect asked : Bool) →
        collect ≡ (c.cycle.collect || list_any asks_of new) → asked ≡ (c.cycle.full || list_any asks_full_of new) → (inbox : List Receiver) →
        HavePolled c.inbox inbox → (mutators : Vec Mutator Global) (positions : Vec ℕ Global) → mutators.items ≡ map mutator_of new →
        length positions.items ≡ length c.positions.items → HaveMoved c.positions.items (map done_by new) positions.items →
        DidSlices script o c (record c {
          heap = record c.heap { words = Some words; segments = segments };
          cycle = record c.cycle { progress = progress; collect = collect; full = asked };
          inbox = inbox;
          mutators = mutators;
          positions = positions;
        })
    did_slices seats seats_are words leaves collect asked collects askeds inbox polled mutators positions same size moved = record {
      rest = refl;
      words = words;
      words_are = refl;
      scans = has.scans;
      seats = map seat_of new;
      leaves =
          subst (λ (x : Opening). Leaves x words (owed.gathered o has.scans (map seat_of new))) opened
          (subst (λ (v : Seen). Leaves (opening_of round) words (all_together v (map seen (map seat_of new)))) has.knows
          (subst (λ (l : List RoundSeat). Leaves (opening_of round) words (all_together (seen seat) (map seen l))) seats_are leaves));
      done = ran.did.done;
      gathers = subst (λ (l : List Mutator). owed.IsGathered o has.scans (map seat_of new) l ran.did.done) (sym same) (gathers own);
      owed = subst (λ (l : List Mutator).
          owed.HaveOwed o (owed.gathered o has.scans (map seat_of new)).parts l) (sym same)
          (owes o may.words round c.mutators.items (map mutator_of new) (map seat_of new) ran.did.done has.scans (can_open script c o may) ran.slices nothing);
      helped = record { round = round; from = from; seat = seat; began = began; knows = has.knows; helped = helped };
      sound = sound;
      polled = polled;
      collect = collects ∙ ap (λ (b : Bool). c.cycle.collect || b) (asks_are script c may.run may.limits may.still o round new ran.count ran.did);
      full = askeds ∙ ap (λ (b : Bool). c.cycle.full || b) (asks_full_are script c may.run may.limits may.still o round new ran.count ran.did);
      positions_are = size;
      each = each_did script c may.run may.limits may.still o round new ran.count ran.did (Some words) segments progress collect asked inbox
          mutators positions same moved;
    }
