-- A run is also a run of longer programs, if only programs with commands left are longer.
use Rattle.std.specs.Prelude.{◌≡◌, ◌+◌, ◌-◌, ◌<◌, ◌∷◌, ◌++◌, ◌⊎◌, ◌&&◌, ◌||◌, if◌then◌else◌}
use Rattle.nmgc_run_laws.specs.laws.Vocabulary.{ℕ, suc, List, [], length, map, drop, refl, sym, ap, subst, ◌∙◌, arith, Bool, true, false, inl, inr, append-nil, length-append, None, not, nat_lt, flat_map, Some, lt-ltb, length-drop, drop-append-le, Layout, words_made, Command, Reply, Row, replayed, World, new_world, Done, HeapFull, reserve_count, RoundRows, CycleRow, StopRow, Config, ClosesOrWaits, ClosesNow, IsRound, IsHistory, noted, Turn, IsTurn, AreTurns, state_after, slice, slice_of, rest_of, slices, is_next, ends_slice, has_left, some_asks, is_collect, is_full, Plan, State, Progress, idle, marking, sweeping, start, layout_of, reserve_of, free_count, is_idle, cycle_started, IsStop, EndsOrWaits, Finishes, DoesFullCycle, BeginsOrWaits, Proceeds, IsFullDue, Promotes, is_short, is_done, answer_of, with_all_retired, longer, MayGoOn, longer_plan, longer_state, longer_turn, RunsAreOfLonger, RowsAreOfLonger}
use Rattle.nmgc_run_laws.specs.laws.{Lefts.stop_left, Lefts.proceeding_left, Programs.slice_few}

-- One program: a slice depends on no command after the first one that it leaves

same_if : (b e : Bool) (c : Command) (x y : List Command) → (b ≡ true → e ≡ false → y ≡ x) → (if b then c ∷ (if e then [] else y) else []) ≡
    (if b then c ∷ (if e then [] else x) else [])
same_if true true c x y h = refl
same_if true false c x y h = ap (λ z. c ∷ z) (h refl refl)
same_if false e c x y h = refl

drop_if : (b e : Bool) (c : Command) (x l : List Command) → b ≡ true → e ≡ false →
    drop (length {A = Command} (if b then c ∷ (if e then [] else x) else [])) (c ∷ l) ≡ drop (length x) l
drop_if true true c x l p q = absurd (let bad : true ≡ false = q in cc)
drop_if true false c x l p q = refl
drop_if false e c x l p q = absurd (let bad : false ≡ true = p in cc)

slice_longer : (commands words : ℕ) (l m : List Command) → (m ≡ []) ⊎ (0 < length (drop (length (slice commands words l)) l)) →
    slice commands words (l ++ m) ≡ slice commands words l
slice_longer commands words [] m (inl none) = ap (slice commands words) none
slice_longer commands words [] m (inr some) = absurd (omega (arith, some))
slice_longer commands words (c ∷ l) m h =
    same_if (is_next commands words c) (ends_slice c) c (slice (commands - 1) (words - words_made c) l)
    (slice (commands - 1) (words - words_made c) (l ++ m)) (λ b e. slice_longer (commands - 1) (words - words_made c) l m (on b e h))
  where
    on : is_next commands words c ≡ true → ends_slice c ≡ false →
        (m ≡ []) ⊎ (0 < length (drop (length (slice commands words (c ∷ l))) (c ∷ l))) →
        (m ≡ []) ⊎ (0 < length (drop (length (slice (commands - 1) (words - words_made c) l)) l))
    on b e (inl none) = inl none
    on b e (inr some) = inr (subst (λ (z : List Command). 0 < length z)
        (drop_if (is_next commands words c) (ends_slice c) c (slice (commands - 1) (words - words_made c) l) l b e) some)

rest_longer : (config : Config) (l m : List Command) → (m ≡ []) ⊎ (0 < length (rest_of config l)) → rest_of config (l ++ m) ≡ rest_of config l ++ m
rest_longer config l m h =
    ap (λ (z : List Command). drop (length z) (l ++ m)) (slice_longer config.slice config.nursery l m h)
    ∙ drop-append-le (length (slice_of config l)) l m (slice_few config.slice config.nursery l)

-- All programs

module _ (config : Config) where
  -- programs that may go on after a round may go on before it
  before_round : (lefts more : List (List Command)) → MayGoOn (map (rest_of config) lefts) more → MayGoOn lefts more
  before_round [] more h = tt
  before_round (l ∷ lefts) [] h = tt
  before_round (l ∷ lefts) (m ∷ more) h = (own h.0, before_round lefts more h.1)
    where
      own : (m ≡ []) ⊎ (0 < length (rest_of config l)) → (m ≡ []) ⊎ (0 < length l)
      own (inl none) = inl none
      own (inr some) = inr (let d = length-drop (length (slice_of config l)) l in omega (arith, some, d))

  slices_longer : (lefts more : List (List Command)) → MayGoOn (map (rest_of config) lefts) more → slices config (longer lefts more) ≡ slices config lefts
  slices_longer [] more h = refl
  slices_longer (l ∷ lefts) [] h = refl
  slices_longer (l ∷ lefts) (m ∷ more) h =
      ap (λ (z : List Command). z ∷ slices config (longer lefts more)) (slice_longer config.slice config.nursery l m h.0)
      ∙ ap (λ (z : List (List Command)). slice_of config l ∷ z) (slices_longer lefts more h.1)

  rests_longer : (lefts more : List (List Command)) → MayGoOn (map (rest_of config) lefts) more →
      map (rest_of config) (longer lefts more) ≡ longer (map (rest_of config) lefts) more
  rests_longer [] more h = refl
  rests_longer (l ∷ lefts) [] h = refl
  rests_longer (l ∷ lefts) (m ∷ more) h =
      ap (λ (z : List Command). z ∷ map (rest_of config) (longer lefts more)) (rest_longer config l m h.0)
      ∙ ap (λ (z : List (List Command)). (rest_of config l ++ m) ∷ z) (rests_longer lefts more h.1)

some_in : (l m : List Command) → (m ≡ []) ⊎ (0 < length l) → nat_lt 0 (length (l ++ m)) ≡ nat_lt 0 (length l)
some_in l m (inl none) = ap (λ (z : List Command). nat_lt 0 (length (l ++ z))) none ∙ ap (λ (z : List Command). nat_lt 0 (length z)) (append-nil l)
some_in l m (inr some) = lt-ltb 0 (length (l ++ m)) (let e = length-append l m in omega (arith, some, e)) ∙ sym (lt-ltb 0 (length l) some)

left_longer : (lefts more : List (List Command)) → MayGoOn lefts more → has_left (longer lefts more) ≡ has_left lefts
left_longer [] more h = refl
left_longer (l ∷ lefts) [] h = refl
left_longer (l ∷ lefts) (m ∷ more) h =
    ap (λ (b : Bool). b || has_left (longer lefts more)) (some_in l m h.0) ∙ ap (λ (b : Bool). nat_lt 0 (length l) || b) (left_longer lefts more h.1)

pub count_longer : (programs more : List (List Command)) → length (longer programs more) ≡ length programs
count_longer [] more = refl
count_longer (p ∷ programs) [] = refl
count_longer (p ∷ programs) (m ∷ more) = ap suc (count_longer programs more)

-- the layout of a plan's heap for `n` mutators
abbrev layout_with : Plan → ℕ → Layout
layout_with plan n = record { segments = plan.config.segments; words = plan.config.words; nursery = plan.config.nursery; mutators = n }

-- Stops

module _ (more : List (List Command)) where
  abbrev f : State → State
  f s = longer_state more s

  closing : (quota : ℕ) (p : Progress) (s t : State) → ClosesOrWaits quota p s t → ClosesOrWaits quota p (f s) (f t)
  closing quota idle s t e = ap f e
  closing quota (marking c) s t (inl h) = inl (ap f h.0, h.1)
  closing quota (marking c) s t (inr h) = inr (record { dead = h.0.dead; lists = h.0.lists; rest = ap f h.0.rest }, h.1)
  closing quota (sweeping c closed) s t e = ap f e

  closing_now : (p : Progress) (s t : State) → ClosesNow p s t → ClosesNow p (f s) (f t)
  closing_now idle s t e = ap f e
  closing_now (marking c) s t h = record { dead = h.dead; lists = h.lists; rest = ap f h.rest }
  closing_now (sweeping c closed) s t e = ap f e

  ending : (p : Progress) (s t : State) (cycles : List CycleRow) → EndsOrWaits p s t cycles → EndsOrWaits p (f s) (f t) cycles
  ending idle s t cycles e = (ap f e.0, e.1)
  ending (marking c) s t cycles e = (ap f e.0, e.1)
  ending (sweeping c closed) s t cycles (inl h) =
      inl (h.0, record { row = h.1.row; census = h.1.census; cycles_are = h.1.cycles_are; rest = ap f h.1.rest })
  ending (sweeping c closed) s t cycles (inr h) = inr (h.0, ap f h.1, h.2)

  finishing : (s t : State) (cycles : List CycleRow) → Finishes s t cycles → Finishes (f s) (f t) cycles
  finishing s t cycles h = record {
    closed = f h.closed;
    closes = closing_now s.progress s h.closed h.closes;
    swept = f h.swept;
    sweeps = h.sweeps;
    others = ap f h.others;
    ends = ending h.swept.progress h.swept t cycles h.ends;
  }

  full_cycle : (s t : State) (cycles : List CycleRow) → DoesFullCycle s t cycles → DoesFullCycle (f s) (f t) cycles
  full_cycle s t cycles h = record {
    idled = f h.idled;
    before = h.before;
    finishes = finishing s h.idled h.before h.finishes;
    last = f h.last;
    own = h.own;
    again = finishing (cycle_started (with_all_retired h.idled)) h.last h.own h.again;
    cycles_are = h.cycles_are;
    rest = ap f h.rest;
  }

  beginning : (config : Config) (s t : State) → BeginsOrWaits config s t → BeginsOrWaits config (f s) (f t)
  beginning config s t (inl h) = inl (h.0, ap f h.1)
  beginning config s t (inr h) = inr (h.0, ap f h.1)

  module _ (plan : Plan) where
    pub layout_longer : layout_of (longer_plan more plan) ≡ layout_of plan
    layout_longer = ap (λ (n : ℕ). layout_with plan n) (count_longer plan.threads more)

    short_longer : (s : State) → MayGoOn s.left more → is_short (longer_plan more plan) (f s) ≡ is_short plan s
    short_longer s may =
        ap (λ (b : Bool). b && nat_lt (free_count s) (reserve_of (longer_plan more plan))) (left_longer s.left more may)
        ∙ ap (λ (n : ℕ). has_left s.left && nat_lt (free_count s) n) (ap (λ (l : Layout). reserve_count l) layout_longer)

    due_longer : (s : State) → MayGoOn s.left more → IsFullDue plan s → IsFullDue (longer_plan more plan) (f s)
    due_longer s may (inl asked) = inl asked
    due_longer s may (inr short) = inr (short_longer s may ∙ short)

    due_shorter : (s : State) → MayGoOn s.left more → IsFullDue (longer_plan more plan) (f s) → IsFullDue plan s
    due_shorter s may (inl asked) = inl asked
    due_shorter s may (inr short) = inr (sym (short_longer s may) ∙ short)

    proceeding : (s t : State) (cycles : List CycleRow) → MayGoOn s.left more → Proceeds plan s t cycles → Proceeds (longer_plan more plan) (f s) (f t) cycles
    proceeding s t cycles may (inl h) = inl (due_longer s may h.0, full_cycle s t cycles h.1, h.2)
    proceeding s t cycles may (inr h) = inr (λ due. h.0 (due_shorter s may due), beginning plan.config s t h.1, h.2)

    promoting : (began : World) (s t : State) (count : ℕ) → Promotes (layout_of plan) began s t count →
        Promotes (layout_of (longer_plan more plan)) began (f s) (f t) count
    promoting began s t count h = subst (λ (l : Layout). Promotes l began (f s) (f t) count) (sym layout_longer)
        (record { names = h.names; lists = h.lists; places = h.places; many = h.many; rest = ap f h.rest })

    stopping : (began : World) (s t : State) (row : StopRow) (cycles : List CycleRow) → MayGoOn t.left more → IsStop plan began s t row cycles →
        IsStop (longer_plan more plan) began (f s) (f t) row cycles
    stopping began s t row cycles may h = record {
      promoted = f h.promoted;
      count = h.count;
      promotes = promoting began s h.promoted h.count h.promotes;
      closed = f h.closed;
      closes = closing plan.config.quota h.promoted.progress h.promoted h.closed h.closes;
      ended = f h.ended;
      first = h.first;
      ends = ending h.closed.progress h.closed h.ended h.first h.ends;
      more = h.more;
      proceeds = proceeding h.ended t h.more (subst (λ (l : List (List Command)). MayGoOn l more) (proceeding_left plan h.ended t h.more h.proceeds) may)
          h.proceeds;
      cycles_are = h.cycles_are;
      shown = h.shown;
    }

    pub answering : (s : State) → MayGoOn s.left more → answer_of (longer_plan more plan) (f s) ≡ answer_of plan s
    answering s may =
        ap (λ (b : Bool). if b then Some (HeapFull (free_count s) (reserve_of (longer_plan more plan))) else (if is_done (f s) then Some Done else None))
        (short_longer s may)
        ∙ ap (λ (n : ℕ). if is_short plan s then Some (HeapFull (free_count s) n) else (if is_done (f s) then Some Done else None))
        (ap (λ (l : Layout). reserve_count l) layout_longer)
        ∙ ap (λ (b : Bool). if is_short plan s then Some (HeapFull (free_count s) (reserve_of plan)) else
        (if not b && is_idle s.progress then Some Done else None)) (left_longer s.left more may)

    -- Rounds

    rounding : (s t : State) (replies : List (List Reply)) (rows : List Row) → MayGoOn t.left more → IsRound plan.config s replies rows t →
        IsRound plan.config (f s) replies rows (f t)
    rounding s t replies rows may h =
        let rest : MayGoOn (map (rest_of plan.config) s.left) more =
        subst (λ (l : List (List Command)). MayGoOn l more) (ap (λ (x : State). x.left) h.rest) may in
        let same : slices plan.config (longer s.left more) ≡ slices plan.config s.left = slices_longer plan.config s.left more rest in
        record {
          history = subst (λ (cs : List (List Command)). IsHistory s.world cs replies rows) (sym same) h.history;
          swept = h.swept;
          rest =
              ap f h.rest
              ∙ ap (λ (l : List (List Command)). record (f t) {
                collect = s.collect || some_asks is_collect (slices plan.config s.left);
                full = s.full || some_asks is_full (slices plan.config s.left);
                left = l;
                number = s.number + 1;
                world = replayed s.world rows;
                allocation = t.allocation;
                progress = noted s.progress rows;
                begun = s.begun;
              })
              (sym (rests_longer plan.config s.left more rest))
              ∙ ap (λ (cs : List (List Command)). record (f s) {
                collect = s.collect || some_asks is_collect cs;
                full = s.full || some_asks is_full cs;
                left = map (rest_of plan.config) (longer s.left more);
                number = s.number + 1;
                world = replayed s.world rows;
                allocation = t.allocation;
                progress = noted s.progress rows;
              })
              (sym same);
        }

    before_turn : (s : State) (turn : Turn) → MayGoOn turn.stop.state.left more → IsTurn plan s turn → MayGoOn turn.worked.left more
    before_turn s turn may h = subst (λ (l : List (List Command)). MayGoOn l more)
        (stop_left plan s.world turn.worked turn.stop.state turn.stop.row turn.stop.cycles h.stop) may

    before : (s : State) (turn : Turn) → MayGoOn turn.stop.state.left more → IsTurn plan s turn → MayGoOn s.left more
    before s turn may h = before_round plan.config s.left more (subst (λ (l : List (List Command)). MayGoOn l more) (ap (λ (x : State). x.left) h.round.rest)
        (before_turn s turn may h))

    first_may : (s : State) (turns : List Turn) → AreTurns plan s turns → MayGoOn (state_after s turns).left more → MayGoOn s.left more
    first_may s [] are may = may
    first_may s (turn ∷ turns) are may = before s turn (first_may turn.stop.state turns are.1 may) are.0

    turning : (s : State) (turns : List Turn) → AreTurns plan s turns → MayGoOn (state_after s turns).left more →
        AreTurns (longer_plan more plan) (f s) (map (longer_turn more) turns)
    turning s [] are may = tt
    turning s (turn ∷ turns) are may =
        let next : MayGoOn turn.stop.state.left more = first_may turn.stop.state turns are.1 may in (
          record {
            goes_on = answering s (before s turn next are.0) ∙ are.0.goes_on;
            round = rounding s turn.worked turn.replies.replies turn.history (before_turn s turn next are.0) are.0.round;
            stop = stopping s.world turn.worked turn.stop.state turn.stop.row turn.stop.cycles next are.0.stop;
          },
          turning turn.stop.state turns are.1 may,
        )

  after_longer : (s : State) (turns : List Turn) → state_after (f s) (map (longer_turn more) turns) ≡ f (state_after s turns)
  after_longer s [] = refl
  after_longer s (turn ∷ turns) = after_longer turn.stop.state turns

  rounds_longer : (turns : List Turn) → map (λ (turn : Turn). turn.replies) (map (longer_turn more) turns) ≡ map (λ (turn : Turn). turn.replies) turns
  rounds_longer [] = refl
  rounds_longer (turn ∷ turns) = ap (λ (l : List RoundRows). turn.replies ∷ l) (rounds_longer turns)

  stops_longer : (turns : List Turn) → map (λ (turn : Turn). turn.stop.row) (map (longer_turn more) turns) ≡ map (λ (turn : Turn). turn.stop.row) turns
  stops_longer [] = refl
  stops_longer (turn ∷ turns) = ap (λ (l : List StopRow). turn.stop.row ∷ l) (stops_longer turns)

  cycles_longer : (turns : List Turn) → flat_map (λ (turn : Turn). turn.stop.cycles) (map (longer_turn more) turns) ≡
      flat_map (λ (turn : Turn). turn.stop.cycles) turns
  cycles_longer [] = refl
  cycles_longer (turn ∷ turns) = ap (λ (l : List CycleRow). turn.stop.cycles ++ l) (cycles_longer turns)

pub runs_are_of_longer : RunsAreOfLonger
runs_are_of_longer plan run more is may =
    let opened : MayGoOn run.opening.state.left more = first_may more plan run.opening.state run.turns is.turns may in
    let from : longer_state more (start plan) ≡ start (longer_plan more plan) =
    ap (λ (n : ℕ). record (longer_state more (start plan)) { world = new_world n }) (sym (count_longer plan.threads more)) in
    let world : new_world (length plan.threads) ≡ new_world (length (longer plan.threads more)) = ap new_world (sym (count_longer plan.threads more)) in (
      record {
        opening = subst (λ (s : State). IsStop (longer_plan more plan) (new_world (length (longer plan.threads more))) s
            (longer_state more run.opening.state) run.opening.row run.opening.cycles) from
            (subst (λ (w : World). IsStop (longer_plan more plan) w (longer_state more (start plan)) (longer_state more run.opening.state) run.opening.row
            run.opening.cycles) world
            (stopping more plan (new_world (length plan.threads)) (start plan) run.opening.state run.opening.row run.opening.cycles opened is.opening));
        turns = turning more plan run.opening.state run.turns is.turns may;
      },
      after_longer more run.opening.state run.turns,
    )

pub rows_are_of_longer : RowsAreOfLonger
rows_are_of_longer run more rounds stops cycles agrees = record {
  rounds_are = agrees.rounds_are ∙ sym (rounds_longer more run.turns);
  stops_are = agrees.stops_are ∙ ap (λ (l : List StopRow). run.opening.row ∷ l) (sym (stops_longer more run.turns));
  cycles_are = agrees.cycles_are ∙ ap (λ (l : List CycleRow). run.opening.cycles ++ l) (sym (cycles_longer more run.turns));
}
