-- A run of programs, one stop and one round further, and its events.
use Rattle.nmgc_cycle.proofs.{Vocabulary.ℕ, Vocabulary.◌≡◌, Vocabulary.◌<◌, Vocabulary.◌≤◌, Vocabulary.◌+◌, Vocabulary.◌*◌, Vocabulary.Bool, Vocabulary.joined, Vocabulary.most_commands, Vocabulary.cycle_most, Vocabulary.◌∙◌, Vocabulary.◌++◌, Vocabulary.◌∷◌, Vocabulary.List, Vocabulary.[], Vocabulary.length, Vocabulary.Option, Vocabulary.Some, Vocabulary.refl, Vocabulary.sym, Vocabulary.ap, Vocabulary.subst, Vocabulary.arith, Vocabulary.length-append, Vocabulary.map, Vocabulary.true, Vocabulary.false, Vocabulary.Command, Vocabulary.Reply, Vocabulary.Done, Vocabulary.Config, Vocabulary.Script, Vocabulary.StopRow, Vocabulary.CycleRow, Vocabulary.RoundRows, Vocabulary.Event, Vocabulary.FitsRun, Vocabulary.HasStopped, Vocabulary.StopEnd, Vocabulary.GaveSome, Vocabulary.GaveMore, Vocabulary.HandsOn, Vocabulary.FailedStop, Vocabulary.None, Vocabulary.IfNone, Vocabulary.End, Vocabulary.further, Vocabulary.stays, Vocabulary.rounds_in, Vocabulary.stops_in, Vocabulary.ObservedFrom, Vocabulary.ObservedRest, Vocabulary.IsContinued, Vocabulary.IsContinuedTo, Vocabulary.HasDoneRound, Vocabulary.HasDoneStop, Vocabulary.IsRoundOrNone, Vocabulary.inl, Vocabulary.ObservedSince, Vocabulary.ObservedStop, Vocabulary.ProgramRun, Vocabulary.StandsAfterStop, Vocabulary.StandsBeforeStop, Vocabulary.each_further, Vocabulary.last_failed, Vocabulary.report_row, Vocabulary.script_of, Vocabulary.script_so_far, rounds.Continuing.gave_none, rounds.ObservedSoFar.more_none, rounds.ObservedSoFar.since_later, rounds.RunSoFar.stops_bound, rounds.SoFar.gave_both, rounds.SoFar.more_both, stops.Further.failed_round, stops.Further.failed_stop, stops.Further.no_further, stops.Further.observed_both, stops.Further.observed_round, stops.Further.observed_stop, stops.Observing.stopped_any}
use Rattle.nmgc_cycle.specs.declared.observer.Event.TheVariants as event

-- a run that only got another collector
abbrev pub IsStopOf : ProgramRun → ProgramRun → Type 0
IsStopOf old new = new ≡ record old { collector = new.collector }

pub script_stays : {P : Type 0} (next : P → Option Command) (old new : ProgramRun) (programs : List P) → IsStopOf old new →
    script_so_far next new programs ≡ script_so_far next old programs
script_stays next old new programs rest = ap (λ (r : ProgramRun). script_of next r.config r.given.value programs) rest

-- a stop's row is one more
pub one_row_more : (old new : List StopRow) (row : StopRow) → new ≡ old ++ row ∷ [] → length old < length new
one_row_more old new row is = let same = ap (λ (l : List StopRow). length l) is in let added = length-append old (row ∷ []) in omega (arith, same, added)

-- the facts of a stop that its events need
pub record HandsRowsOn (old new : ProgramRun) (stop : Option StopRow) (none cycles : List CycleRow) : Type 0 where
  pub rest : IsStopOf old new
  pub rounds : new.collector.rows.rounds ≡ old.collector.rows.rounds
  pub row : StopRow
  pub stops : new.collector.rows.stops ≡ old.collector.rows.stops ++ row ∷ []
  pub stop_is : stop ≡ Some row
  pub number : row.number ≡ length old.collector.rows.stops
  pub hands : HandsOn (length old.collector.rows.stops) old.collector.rows.cycles new.collector.rows.cycles none cycles
  pub none_is : none ≡ []

-- the facts of a round that its events need
pub record HandsRoundOn (old new : ProgramRun) (rows : RoundRows) : Type 0 where
  pub reported : new.collector.rows.rounds ≡ old.collector.rows.rounds ++ rows ∷ []
  pub stops : new.collector.rows.stops ≡ old.collector.rows.stops
  pub cycles : new.collector.rows.cycles ≡ old.collector.rows.cycles

module _ {J : Type 0} (steps : J → Event → J → Type 0) where
  pub stop_on : (old new : ProgramRun) (stop : Option StopRow) (none cycles : List CycleRow) (m q : J) → HandsRowsOn old new stop none cycles →
      ObservedStop steps m stop (map report_row cycles) q → ObservedFrom steps old.collector m new.collector false q
  stop_on old new stop none cycles m q h step =
      observed_stop steps m q old.collector new.collector h.row stop none cycles h.none_is h.stop_is h.number h.rounds h.stops h.hands step

  pub round_on : (old stopped new : ProgramRun) (rows : RoundRows) (p m q : J) → ObservedFrom steps old.collector p stopped.collector false m → HandsRoundOn stopped new rows →
      steps m (event.Round rows) q → ObservedFrom steps old.collector p new.collector true q
  round_on old stopped new rows p m q on h step =
      observed_round steps p m q old.collector stopped.collector new.collector rows on h.reported h.stops h.cycles step

module _ {J P : Type 0} (steps fails : J → Event → J → Type 0) (next : P → Option Command) (replies : P → Reply → P → Type 0) (words most : P → ℕ) (valid : P → Type 0)
    (old : ProgramRun) (before : List P) (stands : StandsBeforeStop next words most valid old before) where
  -- the run was given up before its script got longer
  given_up : (last : ProgramRun) (after : List P) (p q : J) → last.given.value ≡ old.given.value →
      ObservedRest steps fails (script_so_far next old before) old.collector p q → GaveSome next replies words most valid before after →
      IsRoundOrNone next replies words most valid last before after → ObservedSince steps fails next replies words most valid old before after p q
  given_up last after p q same part since replied = record {
    given = old.given.value;
    between = before;
    more = more_none next replies words most valid before old.given.value stands.0.count stands.0.asked.valid_are;
    limits = stands.0.limits;
    observed = part;
    since = since;
    last = last;
    last_given = same;
    replied = replied;
  }

  pub none_since : GaveSome next replies words most valid before before
  none_since = gave_none next replies words most valid before stands.0.asked.valid_are

  -- at the stop
  pub stop_gave_up : (p : J) → ObservedSince steps fails next replies words most valid old before before p p
  stop_gave_up p = given_up old before p p refl (each_further old.collector true stands.1 ([], refl, no_further old.collector)) none_since (inl refl)

  module _ (new : ProgramRun) (stop : Option StopRow) (none cycles : List CycleRow) (h : HandsRowsOn old new stop none cycles) (answer : StopEnd)
      (answered : StandsAfterStop next words most valid new before answer) where
    stopped : HasStopped (script_so_far next old before) new.collector
    stopped = subst (λ (s : Script). HasStopped s new.collector) (script_stays next old new before h.rest) (stopped_any _ new.collector answer answered.1)

    -- at the stop's event
    pub event_gave_up : (p q : J) → FailedStop fails p stop (map report_row cycles) q → ObservedSince steps fails next replies words most valid old before before p q
    event_gave_up p q failed = given_up old before p q refl (last_failed new.collector false stopped
        (failed_stop steps fails p q old.collector new.collector h.row stop none cycles h.none_is h.stop_is h.number h.rounds h.stops h.hands failed)) none_since (inl refl)

    -- in the round
    pub round_gave_up : (after : List P) (p q : J) → ObservedFrom steps old.collector p new.collector false q → GaveSome next replies words most valid before after →
        IsRoundOrNone next replies words most valid new before after → ObservedSince steps fails next replies words most valid old before after p q
    round_gave_up after p q on since replied =
        given_up new after p q (ap (λ (r : ProgramRun). r.given.value) h.rest) (each_further new.collector false stopped on) since replied

    -- no command was given at a stop
    pub stop_gave_none : GaveMore next replies words most valid before before old.given.value new.given.value
    stop_gave_none = subst (λ (r : ProgramRun). GaveMore next replies words most valid before before old.given.value r.given.value) (sym h.rest)
        (more_none next replies words most valid before old.given.value stands.0.count stands.0.asked.valid_are)

    pub config_stays : new.config ≡ old.config
    config_stays = ap (λ (r : ProgramRun). r.config) h.rest

    -- in the round the commands follow those before the stop
    pub round_gave_more : (after : List P) (given : List (List Done)) → GaveMore next replies words most valid before after new.given.value given →
        GaveMore next replies words most valid before after old.given.value given
    round_gave_more after given = subst (λ (r : ProgramRun). GaveMore next replies words most valid before after r.given.value given) h.rest

    -- at the round's event
    pub last_event_gave_up : (last : ProgramRun) (after : List P) (rows : RoundRows) (p m q : J) → last.config ≡ new.config →
        GaveMore next replies words most valid before after new.given.value last.given.value → StandsBeforeStop next words most valid last after →
        ObservedFrom steps old.collector p new.collector false m → HandsRoundOn new last rows → fails m (event.Round rows) q →
        ObservedSince steps fails next replies words most valid old before after p q
    last_event_gave_up last after rows p m q config more then on r failed = record {
      given = last.given.value;
      between = after;
      more = round_gave_more after last.given.value more;
      limits = subst (λ (x : Config). FitsRun (script_of next x last.given.value after)) (config ∙ config_stays) then.0.limits;
      observed = subst (λ (x : Config). ObservedRest steps fails (script_of next x last.given.value after) old.collector p q) (config ∙ config_stays)
          (last_failed last.collector true then.1 (failed_round steps fails p m q old.collector new.collector last.collector rows on r.reported r.stops r.cycles failed));
      since = gave_none next replies words most valid after then.0.asked.valid_are;
      last = last;
      last_given = refl;
      replied = inl refl;
    }

-- the most stops of a run
abbrev pub most_stops_of : Config → ℕ → ℕ
most_stops_of config count = most_commands + 2 * cycle_most (record {
  segments = config.segments;
  words = config.words;
  nursery = config.nursery;
  mutators = count;
}) + 1

-- stops and rounds, and more of them
goes_both : {P : Type 0} (next : P → Option Command) (replies : P → Reply → P → Type 0) (words most : P → ℕ) (valid : P → Type 0)
    (old mid : ProgramRun) (before between : List P) (new : ProgramRun) (after : List P) → IsContinued next replies words most valid old before mid between →
    IsContinued next replies words most valid mid between new after → IsContinued next replies words most valid old before new after
goes_both next replies words most valid old mid before between new after first stays = first
goes_both next replies words most valid old mid before between new after first (further part stopped last own there on stop round) =
    further part stopped new own after (goes_both next replies words most valid old mid before between part own first on) stop round

-- a stop and a round
pub one_further : {P : Type 0} (next : P → Option Command) (replies : P → Reply → P → Type 0) (words most : P → ℕ) (valid : P → Type 0)
    (old mid new : ProgramRun) (before after : List P) → HasDoneStop next before old mid → HasDoneRound next replies words most valid mid new before after →
    IsContinued next replies words most valid old before new after
one_further next replies words most valid old mid new before after stop round = further old mid new before after stays stop round

-- a run some stops and rounds further, whose observer was given their events
pub record HasAdvanced {J P : Type 0} (steps : J → Event → J → Type 0) (next : P → Option Command) (replies : P → Reply → P → Type 0) (words most : P → ℕ)
    (valid : P → Type 0) (old new : ProgramRun) (before after : List P) (p q : J) : Type 0 where
  pub counted : length old.given.value ≡ length before
  pub config : new.config ≡ old.config
  pub more : GaveMore next replies words most valid before after old.given.value new.given.value
  pub goes_on : IsContinued next replies words most valid old before new after
  pub stands : StandsBeforeStop next words most valid new after
  pub observed : ObservedFrom steps old.collector p new.collector true q

module _ {J P : Type 0} (steps fails : J → Event → J → Type 0) (next : P → Option Command) (replies : P → Reply → P → Type 0) (words most : P → ℕ) (valid : P → Type 0) where
  pub not_advanced : (run : ProgramRun) (programs : List P) (p : J) → StandsBeforeStop next words most valid run programs →
      HasAdvanced steps next replies words most valid run run programs programs p p
  not_advanced run programs p stands = record {
    counted = stands.0.count;
    config = refl;
    more = more_none next replies words most valid programs run.given.value stands.0.count stands.0.asked.valid_are;
    goes_on = stays;
    stands = stands;
    observed = ([], refl, no_further run.collector);
  }

  module _ (old mid : ProgramRun) (before between : List P) (p m : J) (h : HasAdvanced steps next replies words most valid old mid before between p m) where
    pub stops_left : length mid.collector.rows.stops + 1 ≤ most_stops_of old.config (length before)
    stops_left =
        let bound = stops_bound next words most valid mid.config mid.collector mid.given.value between h.stands.0 h.stands.1 in
        let same = ap (λ (x : Config). most_stops_of x (length between)) h.config in
        let many = ap (λ (n : ℕ). most_stops_of old.config n) h.more.gave.programs in
        omega (arith, bound, same, many)

    module _ (new : ProgramRun) (after : List P) (q : J) (config : new.config ≡ mid.config)
        (more : GaveMore next replies words most valid between after mid.given.value new.given.value) where
      pub all_more_given : GaveMore next replies words most valid before after old.given.value new.given.value
      all_more_given = more_both next replies words most valid before between after old.given.value mid.given.value new.given.value h.counted h.more more

      pub observed_further : (stop : Bool) → ObservedFrom steps mid.collector m new.collector stop q → ObservedFrom steps old.collector p new.collector stop q
      observed_further stop on = observed_both steps p m q old.collector mid.collector new.collector stop h.observed on

      pub goes_further : (end : Option End) → IsContinuedTo next replies words most valid mid between new after end → IsContinuedTo next replies words most valid old before new after end
      goes_further None on = goes_both next replies words most valid old mid before between new after h.goes_on on
      goes_further (Some end) on = (on.0, goes_both next replies words most valid old mid before between on.0 after h.goes_on on.1, on.2)

      pub more_stops : length mid.collector.rows.stops < length new.collector.rows.stops → length old.collector.rows.stops < length new.collector.rows.stops
      more_stops more =
          let so_far = ap (λ (l : List StopRow). length l) h.observed.2.stops in
          let all = length-append old.collector.rows.stops (stops_in h.observed.0) in
          omega (arith, more, so_far, all)

      pub more_rounds : (end : Option End) → IfNone end (length mid.collector.rows.rounds < length new.collector.rows.rounds) →
          IfNone end (length old.collector.rows.rounds < length new.collector.rows.rounds)
      more_rounds None more =
          let so_far = ap (λ (l : List RoundRows). length l) h.observed.2.rounds in
          let all = length-append old.collector.rows.rounds (rounds_in h.observed.0) in
          omega (arith, more, so_far, all)
      more_rounds (Some end) more = tt

      pub advanced_further : IsContinued next replies words most valid mid between new after → StandsBeforeStop next words most valid new after →
          ObservedFrom steps mid.collector m new.collector true q → HasAdvanced steps next replies words most valid old new before after p q
      advanced_further goes_on stands on = record {
        counted = h.counted;
        config = config ∙ h.config;
        more = all_more_given;
        goes_on = goes_further None goes_on;
        stands = stands;
        observed = observed_further true on;
      }

    -- the run was given up
    pub gave_up_further : (after : List P) (q : J) → ObservedSince steps fails next replies words most valid mid between after m q →
        ObservedSince steps fails next replies words most valid old before after p q
    gave_up_further after q since = since_later steps fails next replies words most valid old mid before between after p m q h.counted h.config h.more h.observed since

    pub gave_some_further : (after : List P) → GaveSome next replies words most valid between after → GaveSome next replies words most valid before after
    gave_some_further after gave = (
      joined h.more.done gave.0,
      gave_both next replies words most valid before between after h.more.done gave.0 h.more.gave gave.1,
    )
