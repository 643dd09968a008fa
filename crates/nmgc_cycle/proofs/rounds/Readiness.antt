-- As a round begins, each mutator with its seat may do its slice.
use Rattle.nmgc_cycle.proofs.Vocabulary.{ℕ, zero, suc, ◌≡◌, ◌+◌, ◌<◌, List, [], ◌∷◌, length, map, refl, sym, ap, ◌∙◌, arith, Some, All, slice_get, option_map, length-map, slice_get-map, slice_get_within, get_or_from_slice_get, Layout, Round, Hand, Opening, no_hand, hand_of, RoundSeat, IsAt, opening_of, alone, alones, CanOpen, Mutator, Script, Run, Collector, IsAfterStop, FitsRun, worker_of, workers_of, MayBeAsked, HaveAskRoom, CanAskAll, item, of_item, alones_count, MutatorsAreReady}
use Rattle.nmgc_round.specs.Seat.{seen}
use Rattle.nmgc_mutator.specs.Ready.{IsReady}
use Rattle.nmgc_collector_laws.specs.Rest as rest
use Rattle.nmgc_cycle.proofs.{rounds.Reserving.most_there, rounds.Opened.IsOpened, rounds.Resting.resting}

-- the seats at a round's beginning, by their numbers
alones_at : (o : Opening) (m : ℕ) (hands : List Hand) (k : ℕ) → k < length hands → slice_get (alones o m hands) k ≡ Some (alone o (m + k))
alones_at o m [] k lt = absurd (omega arith)
alones_at o m (h ∷ hands) zero lt = ap (λ (n : ℕ). Some (alone o n)) (omega arith)
alones_at o m (h ∷ hands) (suc k) lt = alones_at o (suc m) hands k (omega arith) ∙ ap (λ (n : ℕ). Some (alone o n)) (omega arith)

-- the worker of a number
pub workers_at : (ms : List Mutator) (seats : List RoundSeat) (k : ℕ) (m : Mutator) (seat : RoundSeat) → slice_get ms k ≡ Some m →
    slice_get seats k ≡ Some seat → slice_get (workers_of ms seats) k ≡ Some (worker_of (m, seat))
workers_at [] seats k m seat e f = absurd cc
workers_at (n ∷ ms) [] k m seat e f = absurd cc
workers_at (n ∷ ms) (s ∷ seats) zero m seat e f = let same : n ≡ m = cc in let also : s ≡ seat = cc in
    ap (λ (x : Mutator). Some (worker_of (x, s))) same ∙ ap (λ (x : RoundSeat). Some (worker_of (m, x))) also
workers_at (n ∷ ms) (s ∷ seats) (suc k) m seat e f = workers_at ms seats k m seat e f

pub workers_count : (ms : List Mutator) (seats : List RoundSeat) → length seats ≡ length ms → length (workers_of ms seats) ≡ length ms
workers_count [] seats e = refl
workers_count (m ∷ ms) [] e = absurd (omega arith)
workers_count (m ∷ ms) (s ∷ seats) e = let rest = workers_count ms seats (omega arith) in omega (arith, rest)

pub record HasSeats (o : Opening) (round : Round) (seats : List RoundSeat) : Type 0 where
  pub opened : opening_of round ≡ o
  pub seen_are : map seen seats ≡ alones o 0 o.hands
  pub at : All (IsAt round) seats

module _ (ms : List Mutator) (o : Opening) (hands_are : o.hands ≡
    map (rest.hand_of o.core.world o.places) ms) (round : Round) (seats : List RoundSeat) (has : HasSeats o round seats) where
  hands_counted : length o.hands ≡ length ms
  hands_counted = ap length hands_are ∙ length-map ms (rest.hand_of o.core.world o.places)

  pub seats_counted : length seats ≡ length ms
  seats_counted = sym (length-map seats seen) ∙ ap length has.seen_are ∙ alones_count o 0 o.hands ∙ hands_counted

  pub seat_alone : (k : ℕ) (seat : RoundSeat) → slice_get seats k ≡ Some seat → seen seat ≡ alone o k
  seat_alone k seat e =
      let within = slice_get_within seats k seat e in
      let here : slice_get (map seen seats) k ≡ Some (seen seat) = slice_get-map seen seats k ∙ ap (option_map seen) e in
      let there : slice_get (map seen seats) k ≡ Some (alone o (0 + k)) = cc (has.seen_are, alones_at o 0 o.hands k (omega (arith, within, hands_counted, seats_counted))) in
      let zero_first : 0 + k ≡ k = omega arith in
      let same : seen seat ≡ alone o (0 + k) = cc (here, there) in
      same ∙ ap (alone o) zero_first

module _ (begin : MutatorsAreReady) (script : Script) (c : Collector) (run : Run) (limits : FitsRun script) (still : IsAfterStop script c run)
    (o : Opening) (op : IsOpened script c run still o) (words : List ℕ) (can : CanOpen o words) (round : Round) (seats : List RoundSeat)
    (has : HasSeats o round seats) where
  -- the hand of a mutator at a round's beginning
  abbrev own_hand : Mutator → Hand
  own_hand = rest.hand_of o.core.world o.places

  hands : o.hands ≡ map own_hand c.mutators.items
  hands = op.hands_are

  count_is : length seats ≡ length c.mutators.items
  count_is = seats_counted c.mutators.items o hands round seats has

  pub is_ready : (k : ℕ) (m : Mutator) (seat : RoundSeat) → slice_get c.mutators.items k ≡ Some m → slice_get seats k ≡ Some seat → IsReady round seat m
  is_ready k m seat e f =
      let r = resting script c run limits still k m e in
      let hand : hand_of o.hands m.number ≡ own_hand m = cc (
        hands,
        r.number_is,
        get_or_from_slice_get (map own_hand c.mutators.items) k (own_hand m) no_hand (slice_get-map own_hand c.mutators.items k ∙ ap (option_map own_hand) e),
      ) in
      let place : IsAt round seat = of_item (IsAt round) seats k seat has.at f in
      begin o words round seat m can has.opened place (seat_alone c.mutators.items o hands round seats has k seat f ∙
      ap (alone o) (sym r.number_is)) (op.layout_is ∙ sym r.layout_is) r.whole r.unused (rw hand (record { registers = refl; queue = refl; serial = refl }))

  pub can_ask_all : {P : Type 0} (words most : P → ℕ) (valid : P → Type 0) (programs : List P) →
      MayBeAsked words most valid script c.positions.items programs → HaveAskRoom most script.config.slice c.mutators.items programs →
      CanAskAll words most valid round script.config.slice (workers_of c.mutators.items seats) programs
  can_ask_all words most valid programs asked room = record {
    count = asked.count ∙ sym (count ∙ still.kept.count);
    each = λ k w e lt.
        let m = item c.mutators.items k (omega (arith, lt, count)) in
        let seat = item seats k (omega (arith, lt, count, count_is)) in
        let p = item programs k (let n = asked.count in let own = still.kept.count in omega (arith, lt, count, n, own)) in
        let r = resting script c run limits still k m.0 m.1 in
        let words_are : m.0.layout.words ≡ script.config.words = ap (λ (l : Layout). l.words) (r.layout_is ∙ still.kept.layout) in
        let fits = asked.fit k p.0 p.1 in
        let worker_is = get_or_from_slice_get (workers_of c.mutators.items seats) k (worker_of (m.0, seat.0)) w
        (workers_at c.mutators.items seats k m.0 seat.0 m.1 seat.1) in
        let program_is = get_or_from_slice_get programs k p.0 e p.1 in
        rw worker_is (rw program_is (record {
          ready = is_ready k m.0 seat.0 m.1 seat.1;
          valid_is = asked.valid_are k p.0 p.1;
          fits = omega (arith, fits, words_are);
          room = rw (most_there most programs k p.0 p.1) at (room k m.0 m.1);
        }));
  }
    where
      count : length (workers_of c.mutators.items seats) ≡ length c.mutators.items
      count = workers_count c.mutators.items seats count_is
