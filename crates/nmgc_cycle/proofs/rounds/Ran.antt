-- A round, from its beginning to the end of its slices.
use Rattle.nmgc_cycle.proofs.{Vocabulary.ℕ, Vocabulary.◌≡◌, Vocabulary.List, Vocabulary.length, Vocabulary.map, Vocabulary.◌∙◌, Vocabulary.Some, Vocabulary.All, Vocabulary.Round, Vocabulary.Opening, Vocabulary.RoundSeat, Vocabulary.IsAt, Vocabulary.CanOpen, Vocabulary.SlicesAreDone, Vocabulary.SlicesAreGathered, Vocabulary.Script, Vocabulary.Run, Vocabulary.last_state, Vocabulary.Collector, Vocabulary.Worker, Vocabulary.IsAfterStop, Vocabulary.FitsRun, Vocabulary.OpensAt, Vocabulary.OpensIn, Vocabulary.MayBeAsked, Vocabulary.HaveAskRoom, Vocabulary.CanAskAll, Vocabulary.HaveAllWorked, Vocabulary.workers_of, Vocabulary.mutator_of, Vocabulary.seat_of, rounds.Gathering.AllDid, rounds.Gathering.all_did, rounds.Gathering.slices_done, Vocabulary.HasOpeningLaws, rounds.Opened.IsOpened, rounds.Opened.opened, Vocabulary.MutatorsAreReady, rounds.Readiness.HasSeats, rounds.Readiness.can_ask_all, rounds.Readiness.seats_counted, rounds.Readiness.workers_count}

-- the round after a stop may begin
pub record MayBegin (script : Script) (c : Collector) (o : Opening) : Type 0 where
  pub limits : FitsRun script
  pub run : Run
  pub still : IsAfterStop script c run
  pub opens : OpensIn (last_state run).progress (last_state run) c still.at_stop.heap.places o
  pub op : IsOpened script c run still o
  pub words : List ℕ
  pub words_are : c.heap.words ≡ Some words

abbrev pub may_begin : HasOpeningLaws → (script : Script) (c : Collector) (o : Opening) (words : List ℕ) → FitsRun script → OpensAt script c o →
    c.heap.words ≡ Some words → MayBegin script c o
may_begin laws script c o words limits h is = record {
  limits = limits;
  run = h.0;
  still = h.1;
  opens = h.2;
  op = opened laws script c o limits h;
  words = words;
  words_are = is;
}

pub can_open : (script : Script) (c : Collector) (o : Opening) (m : MayBegin script c o) → CanOpen o m.words
can_open script c o m = m.op.can m.words m.words_are

-- a round of the collector that has begun, with the seats of its opening
pub record HasBegun (script : Script) (c : Collector) (o : Opening) (round : Round) (seats : List RoundSeat) : Type 0 where
  pub may : MayBegin script c o
  pub has : HasSeats o round seats

pub seats_are : (script : Script) (c : Collector) (o : Opening) (round : Round) (seats : List RoundSeat) → HasBegun script c o round seats →
    length seats ≡ length c.mutators.items
seats_are script c o round seats b = seats_counted c.mutators.items o b.may.op.hands_are round seats b.has

-- the workers may ask their programs
pub may_ask : (begin : MutatorsAreReady) (script : Script) (c : Collector) (o : Opening) (round : Round) (seats : List RoundSeat) →
    HasBegun script c o round seats → {P : Type 0} (words most : P → ℕ) (valid : P → Type 0) (programs : List P) →
    MayBeAsked words most valid script c.positions.items programs → HaveAskRoom most script.config.slice c.mutators.items programs →
    CanAskAll words most valid round script.config.slice (workers_of c.mutators.items seats) programs
may_ask begin script c o round seats b words most valid programs asked room =
    can_ask_all begin script c b.may.run b.may.limits b.may.still o b.may.op b.may.words (can_open script c o b.may) round seats b.has words most valid
    programs asked room

pub workers_are : (script : Script) (c : Collector) (o : Opening) (round : Round) (seats : List RoundSeat) → HasBegun script c o round seats →
    length (workers_of c.mutators.items seats) ≡ length c.mutators.items
workers_are script c o round seats b = workers_count c.mutators.items seats (seats_are script c o round seats b)

-- after all did their slices
pub record HasRun (script : Script) (c : Collector) (o : Opening) (round : Round) (new : List Worker) : Type 0 where
  pub count : length new ≡ length c.mutators.items
  pub did : AllDid script c round o new
  pub slices : SlicesAreDone o round c.mutators.items (map mutator_of new) (map seat_of new) did.done
  pub at : All (IsAt round) (map seat_of new)

pub has_run : (gather : SlicesAreGathered) (script : Script) (c : Collector) (o : Opening) (round : Round) (seats : List RoundSeat)
    (new : List Worker) → HasBegun script c o round seats → HaveAllWorked round script c.positions.items (workers_of c.mutators.items seats) new →
    HasRun script c o round new
has_run gather script c o round seats new b worked =
    let did : AllDid script c round o new = all_did script c b.may.run b.may.limits b.may.still o b.may.op round seats b.has new worked in
    let slices = slices_done script c b.may.run b.may.limits b.may.still o b.may.op round seats b.has new worked did in
    record {
      count = worked.count ∙ workers_are script c o round seats b;
      did = did;
      slices = slices;
      at = (gather o b.may.words round c.mutators.items (map mutator_of new) (map seat_of new) did.done (can_open script c o b.may) slices).1;
    }
