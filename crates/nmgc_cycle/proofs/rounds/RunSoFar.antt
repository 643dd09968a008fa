-- A run of programs, from stop to stop: the script so far, and the bound of its stops.
use Rattle.nmgc_cycle.proofs.Vocabulary.{ℕ, suc, ◌≡◌, ◌↔◌, ◌+◌, ◌*◌, ◌<◌, ◌≤◌, ◌++◌, ◌∙◌, List, [], ◌∷◌, map, length, slice_get, slice_get_within, slice_index, slice_index_or, Option, Some, refl, sym, ap, subst, arith, inl, append_assoc, append-nil, length-append, map-append, item, item_map, Contains, Fits, Command, Reply, Done, Config, Script, Layout, World, new_world, all_empty, ends_of, replicate, length-replicate, IsPlaceAtStop, ListsWeaks, HeapStandsFor, AreAtRest, plan_of, layout_of, RoundRows, answered_count, Collector, IsFresh, CanStop, FitsRun, All, All-nil, All-cons, sum_by, sum_by-cons, zero, DidRound, DidAsk, HaveTried, MayRun, MayBeAsked, IsRunSoFar, HasDoneRound, HasNoCommands, MayGoOnWith, ProgramRun, script_so_far, threads_of, script_of, all_replies, replies_to, most_commands, cycle_most, joined, no_done, nothing_given, seen}
use Rattle.nmgc_script.specs.Spelling.{IsOf, version_3}
use Rattle.nmgc_cycle.proofs.{lengths.Few.stop_fits, lengths.Measures.commands_most, rounds.SoFar.AreWithin, rounds.SoFar.asked_for, rounds.SoFar.continues_on, rounds.SoFar.first_within, rounds.SoFar.joined_at, rounds.SoFar.joined_count, rounds.SoFar.limits_on, rounds.SoFar.longer_on, rounds.SoFar.more_of, rounds.SoFar.next_within, rounds.SoFar.script_on, rounds.SoFar.threads_count, rounds.SoFar.within_limits}

-- a new collector is new for each script of this configuration with this number of programs
pub fresh_for : (s : Script) (version : ℕ) (threads : List (List Command)) (c : Collector) → length threads ≡ length s.threads → IsFresh s c →
    IsFresh (record { version = version; config = s.config; threads = threads }) c
fresh_for s version threads c count h =
    let own : Layout = layout_of (plan_of (record { version = version; config = s.config; threads = threads })) in
    let layout : own ≡ layout_of (plan_of s) =
    ap (λ (n : ℕ). record { segments = s.config.segments; words = s.config.words; nursery = s.config.nursery; mutators = n }) count in
    let world : new_world (length threads) ≡ new_world (length s.threads) = ap new_world count in
    let heap = h.new.heap in
    record {
      kept = record {
        layout = h.kept.layout ∙ sym layout;
        sound = h.kept.sound;
        lists = h.kept.lists;
        entries = h.kept.entries;
        has_words = h.kept.has_words;
        count = h.kept.count ∙ sym count;
        own = h.kept.own;
        inbox = h.kept.inbox ∙ sym count;
        positions_are = h.kept.positions_are ∙ sym count;
        positions = λ k lt. h.kept.positions k (omega (arith, lt, count));
        no_ends = h.kept.no_ends;
        room = (let r = h.kept.room in omega (arith, r, count));
        workers = (let w = h.kept.workers in omega (arith, w, count));
      };
      goes_on = h.goes_on;
      new = record {
        nothing = h.new.nothing;
        matches = record { phase = h.new.matches.phase; begun = h.new.matches.begun; collect = h.new.matches.collect; full = h.new.matches.full };
        heap = record {
          places = heap.places;
          all = λ p. subst (λ (l : Layout). Contains heap.places p ↔ IsPlaceAtStop l (all_empty s.config.segments) p) (sym layout) (heap.all p);
          holds = subst (λ (w : World). HeapStandsFor own [] heap.places w (all_empty s.config.segments) (seen c).words (seen c).segments (ends_of (seen c)))
              (sym world)
              (subst (λ (l : Layout). HeapStandsFor l [] heap.places (new_world (length s.threads)) (all_empty s.config.segments) (seen c).words
              (seen c).segments (ends_of (seen c))) (sym layout) heap.holds);
          listed = subst (λ (w : World). ListsWeaks own heap.places w (seen c).weaks) (sym world)
              (subst (λ (l : Layout). ListsWeaks l heap.places (new_world (length s.threads)) (seen c).weaks) (sym layout) heap.listed);
        };
        at_rest = subst (λ (w : World). AreAtRest own heap.places w (seen c)) (sym world)
            (subst (λ (l : Layout). AreAtRest l heap.places (new_world (length s.threads)) (seen c)) (sym layout) h.new.at_rest);
        settled = h.new.settled;
      };
    }

-- the replies of one more round
all_more : (rounds : List RoundRows) (rows : RoundRows) (k : ℕ) → all_replies (rounds ++ rows ∷ []) k ≡ all_replies rounds k ++ slice_index_or rows.replies k []
all_more [] rows k = append-nil (slice_index_or rows.replies k [])
all_more (r ∷ rounds) rows k = ap (λ (l : List Reply). slice_index_or r.replies k [] ++ l) (all_more rounds rows k)
    ∙ sym (append_assoc (slice_index_or r.replies k []) (all_replies rounds k) (slice_index_or rows.replies k []))

-- a script without commands fits a run
abbrev nothing : List Command
nothing = []

none_in_all : (n : ℕ) → sum_by length (replicate n nothing) ≡ 0
none_in_all zero = refl
none_in_all (suc n) =
    let all = sum_by-cons length nothing (replicate n nothing) in
    let rest = none_in_all n in
    omega (arith, all, rest)

no_commands : (F : List Command → Type 0) (n : ℕ) → F [] → All F (replicate n [])
no_commands F zero f = All-nil F
no_commands F (suc n) f = All-cons F [] (replicate n []) f (no_commands F n f)

pub empty_limits : {P : Type 0} (words most : P → ℕ) (valid : P → Type 0) (config : Config) (before : List P) → MayRun words most valid config before →
    (empty : Script) → HasNoCommands config (length before) empty → FitsRun empty
empty_limits words most valid config before may empty none =
    let count : length (replicate (length before) nothing) ≡ length before = length-replicate (length before) nothing in
    subst FitsRun (sym none) (record {
      fits = record {
        version = refl;
        config = may.config_fits;
        some_thread = (let s = may.some in omega (arith, s, count));
        threads = (let f = may.few in omega (arith, f, count));
        total = subst (λ (n : ℕ). config.segments * config.words + n * config.nursery ≤ version_3.heap_words) (sym count) may.total;
        commands = no_commands (All (Fits config.words)) (length before) (All-nil (Fits config.words));
        of_version = no_commands (All (IsOf version_3)) (length before) (All-nil (IsOf version_3));
      };
      few = (let none = none_in_all (length before) in omega (arith, none));
    })

module _ {P : Type 0} (next : P → Option Command) (steps : P → Reply → P → Type 0) (words most : P → ℕ) (valid : P → Type 0)
    (waits : (p : P) (c : Command) → valid p → next p ≡ Some c → Fits (words p) c × (0 < most p)) (config : Config) where
  -- as the run begins
  pub so_far_first : (programs : List P) → MayRun words most valid config programs → (empty : Script) (c : Collector) →
      HasNoCommands config (length programs) empty → IsFresh empty c →
      IsRunSoFar next words most valid config c (nothing_given programs) programs × CanStop (script_of next config (nothing_given programs) programs) c
  so_far_first programs may empty c none fresh =
      let given : List (List Done) = nothing_given programs in
      let within : AreWithin next steps words most valid waits config given programs = first_within next steps words most valid waits config programs may in
      let count = threads_count next steps given programs within.count in
      let same : length (threads_of next given programs) ≡ length empty.threads =
      count ∙ sym (ap (λ (s : Script). length s.threads) none ∙ length-replicate (length programs) nothing) in
      let nil : (k : ℕ) (g : List Done) → slice_get given k ≡ Some g → no_done ≡ g = λ k g e.
      let p = item programs k (let lt = slice_get_within given k g e in let size = within.count in omega (arith, lt, size)) in
      let there : slice_get given k ≡ Some no_done = item_map (λ (x : P). no_done) programs k p.0 p.1 in
      (let is : no_done ≡ g = cc (there, e) in is) in
      let here : (k : ℕ) (g : List Done) → slice_get given k ≡ Some g → slice_index c.positions.items k ≡ length g = λ k g e.
      let lt = slice_get_within given k g e in
      let size = within.count in
      fresh.kept.positions k (omega (arith, lt, size, count, same)) ∙ ap (λ (r : List RoundRows). answered_count r k) fresh.new.nothing.0 ∙
      ap (λ (l : List Done). length l) (nil k g e) in (
        record {
          count = within.count;
          limits = within_limits next steps words most valid waits config given programs within;
          asked = asked_for next steps words most valid waits config given programs within c.positions.items here;
          positions = here;
          replies = λ k g e. ap (λ (r : List RoundRows). all_replies r k) fresh.new.nothing.0 ∙ ap (λ (l : List Done). replies_to l) (nil k g e);
          short = within.short;
        },
        inl (subst (λ (x : Config). IsFresh (record { version = 3; config = x; threads = threads_of next given programs }) c)
            (ap (λ (s : Script). s.config) none) (fresh_for empty 3 (threads_of next given programs) c same fresh)),
      )

  -- a round later
  pub so_far_next : (c stopped new : Collector) (mid after : List P) (given : List (List Done)) → IsRunSoFar next words most valid config c given mid →
      stopped.positions.items ≡ c.positions.items → stopped.rows.rounds ≡ c.rows.rounds →
      (asked : DidAsk next steps words most valid (script_of next config given mid) stopped new mid after) →
      IsRunSoFar next words most valid config new (joined given asked.done) after × DidRound (script_of next config (joined given asked.done) after) stopped new ×
      HaveTried (script_of next config (joined given asked.done) after) stopped new
  so_far_next c stopped new mid after given h positions rounds asked =
      let all = joined given asked.done in
      let within : AreWithin next steps words most valid waits config all after =
      next_within next steps words most valid waits config c given mid h after asked.done asked.gave in
      let more = more_of next steps mid after asked.done in
      let longer = longer_on next steps words most valid waits config c given mid h stopped.positions.items positions after asked.done asked.gave in
      let on = continues_on next steps words most valid waits config c given mid h stopped.positions.items positions after asked.done asked.gave in
      let fits = limits_on next steps words most valid waits config c given mid h stopped.positions.items positions after asked.done asked.gave in
      let round : DidRound (script_of next config all after) stopped new × HaveTried (script_of next config all after) stopped new =
      subst (λ (s : Script). DidRound s stopped new × HaveTried s stopped new) (script_on next steps words most valid waits config c given mid h after asked.done asked.gave)
      (asked.did more longer on fits) in
      let parts : (k : ℕ) (gd : List Done) → slice_get all k ≡ Some gd → (g d : List Done) × (slice_get given k ≡ Some g) ×
      (slice_get asked.done k ≡ Some d) × (g ++ d ≡ gd) = λ k gd e.
      let lt = slice_get_within all k gd e in
      let first = h.count in
      let second = asked.gave.count in
      let many = joined_count given asked.done (second ∙ sym first) in
      let g = item given k (omega (arith, lt, many)) in
      let d = item asked.done k (omega (arith, lt, many, first, second)) in
      let there = joined_at given asked.done k g.0 d.0 g.1 d.1 in
      (g.0, d.0, g.1, d.1, (let is : g.0 ++ d.0 ≡ gd = cc (there, e) in is)) in
      let here : (k : ℕ) (gd : List Done) → slice_get all k ≡ Some gd → slice_index new.positions.items k ≡ length gd = λ k gd e.
      let x = parts k gd e in
      let one = ap (λ (l : List ℕ). slice_index l k) positions ∙ h.positions k x.0 x.2 in
      let two = asked.positions k x.1 x.3 in
      let long = length-append x.0 x.1 in
      let is = ap (λ (l : List Done). length l) x.4 in
      omega (arith, one, two, long, is) in (
        record {
          count = within.count;
          limits = within_limits next steps words most valid waits config all after within;
          asked = asked_for next steps words most valid waits config all after within new.positions.items here;
          positions = here;
          replies = λ k gd e.
              let x = parts k gd e in
              ap (λ (r : List RoundRows). all_replies r k) asked.rows_are
              ∙ all_more stopped.rows.rounds asked.rows k
              ∙ ap (λ (r : List RoundRows). all_replies r k ++ slice_index_or asked.rows.replies k []) rounds
              ∙ ap (λ (l : List Reply). l ++ slice_index_or asked.rows.replies k []) (h.replies k x.0 x.2)
              ∙ ap (λ (l : List Reply). map (λ (y : Done). y.1) x.0 ++ l) (asked.replies k x.1 x.3)
              ∙ sym (map-append (λ (y : Done). y.1) x.0 x.1) ∙ ap (λ (l : List Done). replies_to l) x.4;
          short = within.short;
        },
        round.0,
        round.1,
      )

-- a round that programs did, as a round of their run
pub done_round : {P : Type 0} (next : P → Option Command) (steps : P → Reply → P → Type 0) (words most : P → ℕ) (valid : P → Type 0) →
    ((p : P) (c : Command) → valid p → next p ≡ Some c → Fits (words p) c × (0 < most p)) → (run : ProgramRun) (new : Collector) (before after : List P) →
    MayGoOnWith next words most valid run before → DidAsk next steps words most valid (script_so_far next run before) run.collector new before after →
    (last : ProgramRun) × HasDoneRound next steps words most valid run last before after
done_round next steps words most valid waits run new before after far asked =
    let on = so_far_next next steps words most valid waits run.config run.collector run.collector new before after run.given.value far refl refl asked in (
      record run { collector = new; given = record run.given { value = joined run.given.value asked.done } },
      record { config = refl; more = record { done = asked.done; gave = asked.gave; joined_is = refl }; did = on.1; tried = on.2 },
    )

module _ {P : Type 0} (next : P → Option Command) (words most : P → ℕ) (valid : P → Type 0) (config : Config) where
  -- a stop leaves the commands given, and the replies
  pub so_far_stopped : (c new : Collector) (given : List (List Done)) (programs : List P) → IsRunSoFar next words most valid config c given programs →
      new.positions.items ≡ c.positions.items → new.rows.rounds ≡ c.rows.rounds → IsRunSoFar next words most valid config new given programs
  so_far_stopped c new given programs h positions rounds = record {
    count = h.count;
    limits = h.limits;
    asked = subst (λ (l : List ℕ). MayBeAsked words most valid (script_of next config given programs) l programs) (sym positions) h.asked;
    positions = λ k d e. ap (λ (l : List ℕ). slice_index l k) positions ∙ h.positions k d e;
    replies = λ k d e. ap (λ (r : List RoundRows). all_replies r k) rounds ∙ h.replies k d e;
    short = h.short;
  }

  -- no run has more stops
  pub stops_bound : (c : Collector) (given : List (List Done)) (programs : List P) → IsRunSoFar next words most valid config c given programs →
      CanStop (script_of next config given programs) c →
      length c.rows.stops + 1 ≤ most_commands + 2 * cycle_most (record {
        segments = config.segments;
        words = config.words;
        nursery = config.nursery;
        mutators = length programs;
      }) + 1
  stops_bound c given programs h can =
      let script : Script = script_of next config given programs in
      let fits = stop_fits script c h.limits can in
      let within = fits.within in
      let most = commands_most script h.limits [] in
      let count : length script.threads ≡ length programs = sym h.asked.count in
      let same = ap (λ (n : ℕ). cycle_most (record {
        segments = config.segments;
        words = config.words;
        nursery = config.nursery;
        mutators = n;
      })) count in
      omega (arith, within, most, same)
