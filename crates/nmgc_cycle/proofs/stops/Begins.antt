-- The beginning of a stop, whether the collector is new or did a round.
use Rattle.nmgc_cycle.proofs.Vocabulary.{ℕ, ◌≡◌, ◌+◌, ◌<◌, ◌≤◌, ◌⊎◌, List, [], ◌∷◌, ◌++◌, length, drop, slice_index_or, arith, refl, sym, ap, subst, ◌∙◌, inl, inr, append-nil, Option, Some, None, Contains, IsSome, drop-drop, length-map, Command, Row, World, IsWorld, node_of, new_world, Node, Con, Var, Arr, Thunk, Weak, Stack, Parts, contains_head, flat_contains, is_some_of, nothing_in, place_in, new_is_world, Header, nursery_place, Mutator, numbers_of, AllocState, StandsFor, first_cells, Place, ListsWeaks, header_of, Stopped, IsStopped, young_base, CycleRow, RoundRows, StopRow, Script, AreNurseries, IsEmptied, IsPacedAfterRound, HoldsInCycle, Matches, ListsFinalised, finalised_of, IsInCourse, IsStateInCourse, IsPlaceAtStop, registers_of, queues_of, noted, Run, Turn, IsRun, IsTurn, AreRowsOf, last_state, with_turn, ends_of, nurseries_of, recorded_in, young_weaks_in, program_of, IsAble, IsInCycle, AreSoundBlocks, IsSoundRound, LieKnown, Plan, State, Progress, idle, marking, sweeping, start, plan_of, layout_of, Cycle, answered_count, IsStop, runs_are, rounds_stay, round_left, left_is_determined, round_is_remembered, states_are_sound, rounds_are_sound, opening_worked, start_programs, a_run_takes_a_further_round, last_is_of_turn, one_more_turn, AreNamed, named_first, Collector, AreFew, CanStop, IsFresh, HasWorked, Sweeps, seen, seen_mutator, report_cycles, FitsRun, CanList, StandsStopped, places_of, segment_low, slice_get}
use Rattle.nmgc_run_laws.specs.Sound.{AreEarlier}
use Rattle.nmgc_world_spec.specs.declared.node.Kind.TheVariants as kind
use Rattle.nmgc_segment.specs.declared.state.State.TheVariants as stands
use Rattle.nmgc_cycle.proofs.{lengths.Few.fresh_few, lengths.Few.fresh_begun, lengths.Measures.answered_more, lists.MutatorLists.same_stopped, starts.NewStops.stopped_in, starts.NewStops.new_stopped, lists.Plans.is_runnable, lists.RootLists.same_finalised, lists.RootLists.seen_at, stops.StopNumbers.run_number, lists.Views.registers_seen, lists.Views.queues_seen, lists.Views.nurseries_seen, lists.Views.recorded_seen, lists.Views.young_seen}

-- a run whose rows were all reported except its last
pub record IsReportedBut (plan : Plan) (rounds : List RoundRows) (stops : List StopRow) (cycles : List CycleRow) (row : StopRow) (t : State) : Type 0 where
  pub run : Run
  pub is_run : IsRun plan run
  pub agrees : AreRowsOf run rounds (stops ++ row ∷ []) cycles
  pub last : last_state run ≡ t

-- the commands left in the programs are those that no round answered
pub record IsLeft (script : Script) (rounds : List RoundRows) (left : List (List Command)) : Type 0 where
  pub count : length left ≡ length script.threads
  pub each : (m : ℕ) → program_of left m ≡ drop (answered_count rounds m) (program_of script.threads m)

-- a state before its stop's promotion: sound except for nurseries, and only names of the world before are in blocks
pub record IsSoundBefore (plan : Plan) (began : World) (s : State) : Type 0 where
  pub world : IsWorld s.world
  pub able : IsAble plan s
  pub sound_blocks : AreSoundBlocks (layout_of plan) s.allocation
  pub known : LieKnown began s.allocation
  pub cycle : IsInCycle s.progress s.world s.allocation
  pub earlier : AreEarlier s

-- the world before, and the stop's first state: the collector's parts represent it, and its stop is the run's next
pub record Begins (script : Script) (c : Collector) : Type 0 where
  pub began : World
  pub state : State
  pub places : List Place
  pub stopped : StandsStopped (stopped_in began state places (seen c)) c
  pub can_list : CanList (stopped_in began state places (seen c)) c
  pub stands : StandsFor c.heap.segments (seen c).words state.allocation
  pub nurseries : AreNurseries (layout_of (plan_of script)) places state.world (nurseries_of (seen c))
  pub matches : Matches (seen c) state
  pub cycle : HoldsInCycle (λ (k : Cycle). IsPacedAfterRound script.config.quota k state (seen c)) state.progress state (seen c) places
  pub later : (k : Cycle) → state.progress ≡ marking k → k.from + 1 ≤ state.number
  pub sweeper : Sweeps state.progress state c
  pub named : AreNamed (layout_of (plan_of script)) c.heap.names state.allocation
  pub low : (p : Place) → Contains places p → p.at < nursery_place (layout_of (plan_of script)) 0 →
      IsPlaceAtStop (layout_of (plan_of script)) state.allocation p
  pub sound : IsSoundBefore (plan_of script) began state
  pub course : IsStateInCourse state
  pub number : state.number ≡ length c.rows.stops
  pub few : AreFew (state.world ≡ began) script c (length c.rows.stops + 1)
  pub begun : c.cycle.begun ≤ length c.rows.stops
  pub left : IsLeft script c.rows.rounds state.left
  pub goes_on : (t : State) (row : StopRow) (cycles : List CycleRow) → IsStop (plan_of script) began state t row cycles →
      IsReportedBut (plan_of script) c.rows.rounds c.rows.stops (report_cycles c ++ cycles) row t

-- the heap at a stop, by the mutators themselves
stands_of : (t : Stopped) (c : Collector) →
    IsStopped t c.heap.segments (seen c).words (nurseries_of (seen c)) (registers_of (ends_of (seen c))) (queues_of (ends_of (seen c)))
    (recorded_in (seen c)) (young_weaks_in (seen c)) → StandsStopped t c
stands_of t c h = same_stopped t c.heap.segments (seen c).words (seen c).words _ _ _ _ _ _ _ _ _ _ refl (nurseries_seen c) (registers_seen c)
    (queues_seen c) (recorded_seen c) (young_seen c) h

-- a node with the header of a weak pointer is a weak pointer
weak_of : (parts : Option Parts) (node : Node) → header_of (Weak parts) ≡ header_of node → (now : Option Parts) × (node ≡ Weak now)
weak_of parts (Con tag values) e = absurd (let bad : kind.Weak ≡ kind.Con = ap (λ (h : Header). h.kind) e in cc)
weak_of parts (Var v) e = absurd (let bad : kind.Weak ≡ kind.Var = ap (λ (h : Header). h.kind) e in cc)
weak_of parts (Arr values) e = absurd (let bad : kind.Weak ≡ kind.Arr = ap (λ (h : Header). h.kind) e in cc)
weak_of parts (Thunk free result) e = absurd (let bad : kind.Weak ≡ kind.Thunk = ap (λ (h : Header). h.kind) e in cc)
weak_of parts (Weak now) e = (now, refl)
weak_of parts (Stack size values) e = absurd (let bad : kind.Weak ≡ kind.Stack = ap (λ (h : Header). h.kind) e in cc)

-- a name is unknown or has a node
known_or_none : (o : Option Node) → (o ≡ None) ⊎ IsSome o
known_or_none None = inl refl
known_or_none (Some node) = inr refl

-- no mutator has finalised anything
none_finalised : (ms : List Mutator) → ((k : ℕ) (m : Mutator) → slice_get ms k ≡ Some m → IsEmptied (seen_mutator m)) → (at : ℕ) → Contains (finalised_of ms) at → ⊥
none_finalised ms empty at c =
    let m = flat_contains (λ (x : Mutator). numbers_of x.finalised.items) ms at c in
    let i = place_in ms m.0 m.1 in
    nothing_in at (subst (λ (l : List ℕ). Contains l at) (empty i.0 m.0 i.1).finalised m.2)

-- the list fitted the world at the round's beginning, and the round made none of these weak pointers
can_list_of : (t : Stopped) (c : Collector) → StandsStopped t c → ListsWeaks c.heap.segments.layout t.places t.began (places_of c.heap.weaks.list) →
    ListsFinalised (young_base c.heap.segments) t.places t.began t.world (finalised_of c.mutators.items) → CanList t c
can_list_of t c h listed reported =
    let past = h.round.past t.began (contains_head t.began t.later) in
    record {
      began = past.world;
      listed = listed;
      old = record {
        blocks = λ p there inside. elim (known_or_none (node_of t.began p.name)) [
          | inl none ↦ absurd (let high = (h.round.young p there).1 none in let low = segment_low c.heap.segments.layout inside.0 p.at inside.1 in
              omega (arith, high, low))
          | inr known ↦ known
        ];
        alive = λ weak parts alive old. h.round.parts weak parts old alive;
        weak = λ weak parts alive.
            let node = is_some_of (node_of t.world weak) (past.names weak (rw alive refl)) in
            let x = weak_of (Some parts) node.0 (past.headers weak (Weak (Some parts)) node.0 alive node.1) in
            (x.0, node.1 ∙ ap (λ (n : Node). Some n) x.1);
      };
      reported = reported;
    }

-- a new collector

new_begins : (script : Script) (c : Collector) → FitsRun script → IsFresh script c → Begins script c
new_begins script c limits f =
    let plan : Plan = plan_of script in
    let runnable = is_runnable script limits in
    let count : ℕ = length script.threads in
    let none : (c.rows.rounds ≡ []) × (c.rows.stops ≡ []) × (report_cycles c ≡ []) = f.new.nothing in
    let no_stops : length c.rows.stops ≡ 0 = ap (λ (stops : List StopRow). length stops) none.1 in
    let opening = opening_worked plan runnable in
    let able = start_programs plan runnable in
    let stopped : StandsStopped (stopped_in (new_world count) (start plan) f.new.heap.places (seen c)) c =
    stands_of (stopped_in (new_world count) (start plan) f.new.heap.places (seen c)) c
    (new_stopped plan (seen c) (new_is_world count runnable.some runnable.few) f.kept.sound f.new.heap f.new.at_rest) in
    record {
      began = new_world count;
      state = start plan;
      places = f.new.heap.places;
      stopped = stopped;
      can_list = can_list_of (stopped_in (new_world count) (start plan) f.new.heap.places (seen c)) c stopped (rw f.kept.layout f.new.heap.listed) (record {
        all = λ p parts there low alive gone. absurd (gone alive);
        low = λ at there. absurd (none_finalised c.mutators.items (λ k m e. f.new.at_rest.nothing k (seen_mutator m) (seen_at c.mutators.items k m e)) at there);
      });
      stands = f.new.heap.holds.stands;
      nurseries = f.new.at_rest.nurseries;
      matches = f.new.matches;
      cycle = f.new.settled;
      later = λ k e. absurd (let bad : idle ≡ marking k = e in cc);
      sweeper = tt;
      named = named_first (layout_of plan) c.heap.names script.config.segments;
      low = λ p there at. (f.new.heap.all p).0 there;
      sound = record {
        world = opening.world;
        able = record { programs = able.count; mutators = opening.mutators; registers = able.registers; serials = opening.made };
        sound_blocks = opening.sound_blocks;
        known = opening.old_known;
        cycle = tt;
        earlier = λ e there. absurd (nothing_in e there);
      };
      course = λ number there is.
          let bad : stands.Free ≡ stands.Sweeping = cc (first_cells script.config.segments number, is) in cc;
      number = sym no_stops;
      few = fresh_few _ script c f;
      begun = fresh_begun script c f;
      left = record { count = refl; each = λ m. sym (ap (λ (rounds : List RoundRows). drop (answered_count rounds m) (program_of script.threads m)) none.0) };
      goes_on = λ t row cycles stop. record {
        run = record { opening = record { state = t; row = row; cycles = cycles }; turns = [] };
        is_run = record { opening = stop; turns = tt };
        agrees = record {
          rounds_are = none.0;
          stops_are = ap (λ (stops : List StopRow). stops ++ row ∷ []) none.1;
          cycles_are = ap (λ (rows : List CycleRow). rows ++ cycles) none.2 ∙ sym (append-nil cycles);
        };
        last = refl;
      };
    }

-- a round comes after the stop at which a cycle that marks began

from_before : (p : Progress) (number begun : ℕ) (a : AllocState) (rows : List Row) → IsInCourse p number begun a → (k : Cycle) →
    noted p rows ≡ marking k → k.from + 1 ≤ number + 1
from_before idle number begun a rows h k e = absurd (let bad : idle ≡ marking k = e in cc)
from_before (marking c) number begun a rows h k e =
    let same : c.from ≡ k.from = cc in
    let before = h.0.from_before in
    omega (arith, same, before)
from_before (sweeping c closed) number begun a rows h k e = absurd (let bad : sweeping c closed ≡ marking k = e in cc)

-- a collector that did a round

module _ (script : Script) (c : Collector) (limits : FitsRun script) (h : HasWorked script c) where
  abbrev plan : Plan
  plan = plan_of script

  abbrev before : State
  before = last_state h.run

  abbrev rows : RoundRows
  rows = record { replies = h.replies }

  stopped : StandsStopped (stopped_in before.world h.worked h.after.places (seen c)) c
  stopped =
      let after = round_is_remembered plan h.run h.replies h.history h.worked (seen c) (is_runnable script limits) h.after h.kept.sound in
      let at : Stopped = stopped_in before.world h.worked h.after.places (seen c) in
      stands_of at c after

  can_list : CanList (stopped_in before.world h.worked h.after.places (seen c)) c
  can_list = can_list_of (stopped_in before.world h.worked h.after.places (seen c)) c stopped (rw h.kept.layout h.after.heap.listed) (rw h.kept.layout (subst (ListsFinalised (nursery_place (layout_of plan) 0) h.after.places before.world h.worked.world) (same_finalised c.mutators.items) h.after.reported))

  numbers : h.worked.number ≡ length c.rows.stops
  numbers =
      let n = run_number plan h.run h.after.before c.rows.stops (report_cycles c) h.after.is_run h.after.agrees in
      let more : h.worked.number ≡ before.number + 1 = ap (λ (x : State). x.number) h.after.round.rest in
      omega (arith, n.0, n.1, more)

  left : IsLeft script c.rows.rounds h.worked.left
  left = record {
    count = ap (λ (x : State). length x.left) h.after.round.rest ∙ length-map before.left _ ∙
        (states_are_sound plan h.run (is_runnable script limits) h.after.is_run).able.programs;
    each = λ m.
        let reported = left_is_determined plan h.run h.after.before c.rows.stops (report_cycles c) h.after.is_run h.after.agrees m in
        let count : ℕ = length (slice_index_or h.replies m []) in
        round_left plan.config before h.worked h.replies h.history m h.after.round
        ∙ ap (λ (program : List Command). drop count program) reported
        ∙ drop-drop count (answered_count h.after.before m) (program_of script.threads m)
        ∙ ap (λ (n : ℕ). drop n (program_of script.threads m)) (sym (ap (λ (r : List RoundRows). answered_count r m) h.after.rounds ∙
        answered_more h.after.before rows m));
  }

  sound : IsSoundBefore plan before.world h.worked
  sound =
      let r : IsSoundRound plan before h.history h.worked =
      rounds_are_sound plan before h.worked h.replies h.history (states_are_sound plan h.run (is_runnable script limits) h.after.is_run) h.after.round in
      record { world = r.world; able = r.able; sound_blocks = r.sound_blocks; known = r.known; cycle = r.cycle; earlier = r.earlier }

  later : (k : Cycle) → h.worked.progress ≡ marking k → k.from + 1 ≤ h.worked.number
  later k e =
      let rest = h.after.round.rest in
      let number : h.worked.number ≡ before.number + 1 = ap (λ (x : State). x.number) rest in
      let is : noted before.progress h.history ≡ marking k = sym (ap (λ (x : State). x.progress) rest) ∙ e in
      let from = from_before before.progress before.number before.begun before.allocation h.history (runs_are plan h.run h.after.is_run) k is in
      omega (arith, number, from)

  goes_on : (t : State) (row : StopRow) (cycles : List CycleRow) → IsStop plan before.world h.worked t row cycles →
      IsReportedBut plan c.rows.rounds c.rows.stops (report_cycles c ++ cycles) row t
  goes_on t row cycles stop =
      let turn : Turn = record { replies = rows; history = h.history; worked = h.worked; stop = record { state = t; row = row; cycles = cycles } } in
      let is : IsTurn plan before turn = record { goes_on = h.after.goes_on; round = h.after.round; stop = stop } in
      let reported : AreRowsOf (with_turn h.run turn) (h.after.before ++ rows ∷ []) (c.rows.stops ++ row ∷ []) (report_cycles c ++ cycles) =
      one_more_turn h.run turn h.after.before c.rows.stops (report_cycles c) h.after.agrees in
      record {
        run = with_turn h.run turn;
        is_run = a_run_takes_a_further_round plan h.run turn h.after.is_run is;
        agrees = subst (λ (r : List RoundRows). AreRowsOf (with_turn h.run turn) r (c.rows.stops ++ row ∷ []) (report_cycles c ++ cycles)) (sym h.after.rounds) reported;
        last = last_is_of_turn h.run turn;
      }

  pub worked_begins : Begins script c
  worked_begins = record {
    began = before.world;
    state = h.worked;
    places = h.after.places;
    stopped = stopped;
    can_list = can_list;
    stands = h.after.heap.holds.stands;
    nurseries = h.after.nurseries;
    matches = h.after.matches;
    cycle = h.after.cycle;
    later = later;
    sweeper = h.sweeper;
    named = h.named;
    low = λ p there at. elim (h.after.heap.sound p there) [
      | inl old ↦ old
      | inr born ↦ absurd (let from = born.nursery.from in omega (arith, from, at))
    ];
    sound = sound;
    course = rounds_stay plan.config before h.worked h.replies h.history h.after.round (runs_are plan h.run h.after.is_run);
    number = numbers;
    few = h.few.few;
    begun = h.few.begun;
    left = left;
    goes_on = goes_on;
  }

pub begins : (script : Script) (c : Collector) → FitsRun script → CanStop script c → Begins script c
begins script c limits (inl fresh) = new_begins script c limits fresh
begins script c limits (inr worked) = worked_begins script c limits worked

-- a stop after a round is the last stop of a run with that round
pub one_turn : (script : Script) (c : Collector) (limits : FitsRun script) (h : HasWorked script c) (t : State) (row : StopRow)
    (cycles : List CycleRow) (stop : IsStop (plan_of script) (begins script c limits (inr h)).began (begins script c limits (inr h)).state t row
    cycles) → (turn : Turn) × (turn.replies ≡ record { replies = h.replies }) × (turn.worked ≡ h.worked) × (turn.history ≡ h.history) ×
    (((begins script c limits (inr h)).goes_on t row cycles stop).run ≡ with_turn h.run turn)
unfolding begins worked_begins goes_on
one_turn script c limits h t row cycles stop = (
  record {
    replies = record { replies = h.replies };
    history = h.history;
    worked = h.worked;
    stop = record { state = t; row = row; cycles = cycles };
  },
  refl,
  refl,
  refl,
  refl,
)
