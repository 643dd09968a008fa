-- A stopped collector, and the opening of its next round, belong to the run of a longer script too.
use Rattle.nmgc_cycle.proofs.Vocabulary.{ℕ, zero, suc, ◌≡◌, ◌⊎◌, ◌+◌, ◌-◌, ◌*◌, ◌<◌, ◌≤◌, ◌∙◌, List, [], ◌∷◌, ◌++◌, length, drop, slice_index, refl, sym, ap, subst, arith, inl, inr, append-nil, length-append, length-drop, drop-append-le, Command, Layout, Opening, Place, Script, Run, last_state, State, Progress, idle, marking, sweeping, plan_of, layout_of, program_of, IsAtStop, AreNamed, longer, MayGoOn, longer_plan, longer_state, longer_run, count_longer, layout_longer, runs_are_of_longer, stops_are_of_longer, answered_count, left_from, commands_left, cycle_most, heap_of, MayFollow, commands, one_cycle, no_cycle, AreFewAtStop, Collector, IsWellFormed, IsAfterStop, Sweeps, seen, FitsRun, left_at, OpensIn, OpensAt, MayBeLonger, longer_script}
use Rattle.nmgc_cycle.proofs.{lists.Plans.sound_state, rounds.Positions.left_is, rounds.Positions.position_within}

-- Programs

longer_at : (programs more : List (List Command)) (k : ℕ) → k < length programs → program_of (longer programs more) k ≡ program_of programs k ++ program_of more k
longer_at [] more k lt = absurd (omega (arith, lt))
longer_at (p ∷ programs) [] zero lt = sym (append-nil p)
longer_at (p ∷ programs) [] (suc k) lt = sym (append-nil (program_of programs k))
longer_at (p ∷ programs) (m ∷ more) zero lt = refl
longer_at (p ∷ programs) (m ∷ more) (suc k) lt = longer_at programs more k (omega (arith, lt))

-- programs may go on one by one
pub may_each : (lefts more : List (List Command)) → ((k : ℕ) → k < length lefts → (program_of more k ≡ []) ⊎ (0 < length (program_of lefts k))) →
    MayGoOn lefts more
may_each [] more h = tt
may_each (l ∷ lefts) [] h = tt
may_each (l ∷ lefts) (m ∷ more) h = (h 0 (omega arith), may_each lefts more (λ k lt. h (suc k) (omega (arith, lt))))

-- The bound of stops

-- the commands that the longer programs have more
added : List (List Command) → List (List Command) → ℕ
added [] more = 0
added (p ∷ programs) [] = 0
added (p ∷ programs) (m ∷ more) = length m + added programs more

left_more : (answered : ℕ → ℕ) (n : ℕ) (programs more : List (List Command)) →
    left_from answered n (longer programs more) ≤ left_from answered n programs + added programs more
unfolding added
left_more answered n [] more = omega arith
left_more answered n (p ∷ programs) [] = omega arith
left_more answered n (p ∷ programs) (m ∷ more) =
    let here = length-append p m in
    let rest = left_more answered (n + 1) programs more in
    omega (arith, here, rest)

all_more : (n : ℕ) (programs more : List (List Command)) → left_from (answered_count []) n (longer programs more) ≡ left_from (answered_count []) n programs + added programs more
unfolding added
all_more n [] more = omega arith
all_more n (p ∷ programs) [] = omega arith
all_more n (p ∷ programs) (m ∷ more) =
    let here = length-append p m in
    let rest = all_more (n + 1) programs more in
    omega (arith, here, rest)

-- if no commands are left, no program is longer
none_more : (answered : ℕ → ℕ) (n : ℕ) (programs more : List (List Command)) → left_from answered n programs ≡ 0 →
    ((k : ℕ) → k < length programs → (program_of more k ≡ []) ⊎ (0 < length (program_of programs k) - answered (n + k))) → added programs more ≡ 0
unfolding added
none_more answered n [] more none h = refl
none_more answered n (p ∷ programs) [] none h = refl
none_more answered n (p ∷ programs) (m ∷ more) none h =
    let rest : added programs more ≡ 0 = none_more answered (n + 1) programs more (omega (arith, none)) (λ k lt.
    subst (λ (i : ℕ). (program_of more k ≡ []) ⊎ (0 < length (program_of programs k) - answered i)) (omega arith) (h (suc k) (omega (arith, lt)))) in
    elim (h 0 (omega arith)) [
      | inl e ↦ let here : length m ≡ 0 = ap length e in omega (arith, here, rest)
      | inr lt ↦ let at : answered (n + 0) ≡ answered n = ap answered (omega arith) in absurd (omega (arith, lt, at, none))
    ]

few_on : (stops left all cycle after whole then more : ℕ) → stops + left + 2 * cycle ≤ all + 2 * cycle + 1 → after ≤ left + more → whole ≡ all + more →
    then ≡ cycle → stops + after + 2 * then ≤ whole + 2 * then + 1
few_on stops left all cycle after whole then more h a b c = omega (arith, h, a, b, c)

module _ (script : Script) (more : List (List Command)) (c : Collector) (run : Run) (limits : FitsRun script) (still : IsAfterStop script c run)
    (may : MayBeLonger script c.positions.items more) where
  abbrev then : Script
  then = longer_script more script

  may_go : MayGoOn (last_state run).left more
  may_go = may_each (last_state run).left more (λ k lt.
      let exists : k < length script.threads = let n = (sound_state script c run limits still).able.programs in omega (arith, lt, n) in
      subst (λ (l : List Command). (program_of more k ≡ []) ⊎ (0 < length l)) (sym (left_is script c run still k exists)) (may k exists))

  same_layout : layout_of (plan_of then) ≡ layout_of (plan_of script)
  same_layout = layout_longer more (plan_of script)

  count : length then.threads ≡ length script.threads
  count = count_longer script.threads more

  -- the rest of each program of the longer script
  pub left_longer : (k : ℕ) → k < length script.threads → left_at then c.positions.items k ≡ left_at script c.positions.items k ++ program_of more k
  left_longer k lt =
      ap (λ (l : List Command). drop (slice_index c.positions.items k) l) (longer_at script.threads more k lt)
      ∙ drop-append-le (slice_index c.positions.items k) (program_of script.threads k) (program_of more k) (position_within script c run still k lt)

  pub kept_longer : IsWellFormed then c
  kept_longer = record {
    layout = still.kept.layout ∙ sym same_layout;
    sound = still.kept.sound;
    lists = still.kept.lists;
    entries = still.kept.entries;
    has_words = still.kept.has_words;
    count = still.kept.count ∙ sym count;
    own = still.kept.own;
    inbox = still.kept.inbox ∙ sym count;
    positions_are = still.kept.positions_are ∙ sym count;
    positions = λ k lt. still.kept.positions k (omega (arith, lt, count));
    no_ends = still.kept.no_ends;
    room = (let r = still.kept.room in omega (arith, r, count));
    workers = (let w = still.kept.workers in omega (arith, w, count));
  }

  at_longer : (h : IsAtStop (longer_plan more (plan_of script)) (longer_run more run) (seen c)) × (h.heap.places ≡ still.at_stop.heap.places)
  at_longer = stops_are_of_longer (plan_of script) run more (seen c) still.at_stop may_go

  after : last_state (longer_run more run) ≡ longer_state more (last_state run)
  after = (runs_are_of_longer (plan_of script) run more still.at_stop.is_run may_go).1

  sweeps_longer : (p : Progress) (s : State) → Sweeps p s c → Sweeps p (longer_state more s) c
  sweeps_longer idle s h = h
  sweeps_longer (marking k) s h = h
  sweeps_longer (sweeping k closed) s h = h

  -- the number of commands left, of the longer script
  abbrev whole : ℕ
  whole = added script.threads more

  left_then : commands_left then.threads c.rows.rounds ≤ commands_left script.threads c.rows.rounds + whole
  unfolding commands_left
  left_then = left_more (answered_count c.rows.rounds) 0 script.threads more

  all_then : commands_left then.threads [] ≡ commands_left script.threads [] + whole
  unfolding commands_left
  all_then = all_more 0 script.threads more

  none_then : commands_left script.threads c.rows.rounds ≡ 0 → whole ≡ 0
  unfolding commands_left
  none_then none = none_more (answered_count c.rows.rounds) 0 script.threads more none (λ k lt.
      let at : slice_index c.positions.items k ≡ answered_count c.rows.rounds k = still.kept.positions k lt in
      let zero_first : 0 + k ≡ k = omega arith in
      let size : length (left_at script c.positions.items k) ≡ length (program_of script.threads k) - answered_count c.rows.rounds (0 + k) =
      length-drop (slice_index c.positions.items k) (program_of script.threads k)
      ∙ ap (λ n. length (program_of script.threads k) - n) (at ∙ ap (answered_count c.rows.rounds) (sym zero_first)) in
      elim (may k lt) [
        | inl e ↦ inl e
        | inr some ↦ inr (omega (arith, some, size))
      ])

  same_most : cycle_most (heap_of then) ≡ cycle_most (heap_of script)
  same_most = ap cycle_most same_layout

  follow_longer : (stops : ℕ) → MayFollow (Unit {0}) script c stops → MayFollow (Unit {0}) then c stops
  follow_longer stops (commands h) = commands (few_on stops (commands_left script.threads c.rows.rounds) (commands_left script.threads [])
      (cycle_most (heap_of script)) (commands_left then.threads c.rows.rounds) (commands_left then.threads []) (cycle_most (heap_of then)) whole h left_then
      all_then same_most)
  follow_longer stops (one_cycle none h) =
      let no = none_then none in
      one_cycle (omega (arith, left_then, none, no)) (omega (arith, h, all_then, no, same_most))
  follow_longer stops (no_cycle none nothing undue h) =
      let no = none_then none in
      no_cycle (omega (arith, left_then, none, no)) nothing (record { not_asked = undue.not_asked; not_filled = undue.not_filled })
      (omega (arith, h, all_then, no, same_most))

  few_longer : AreFewAtStop then c
  few_longer = record {
    few = record {
      follow = follow_longer (length c.rows.stops) still.few.few.follow;
      phase = (let most = still.few.few.phase in omega (arith, most, same_most));
    };
    begun = still.few.begun;
    more = still.few.more;
  }

  -- the collector is after the same stop of the longer script's run
  pub still_longer : IsAfterStop then c (longer_run more run)
  still_longer = record {
    kept = kept_longer;
    at_stop = at_longer.0;
    sweeper = subst (λ (s : State). Sweeps s.progress s c) (sym after) (sweeps_longer (last_state run).progress (last_state run) still.sweeper);
    named = subst (λ (s : State). AreNamed (layout_of (plan_of then)) c.heap.names s.allocation) (sym after)
        (subst (λ (l : Layout). AreNamed l c.heap.names (last_state run).allocation) (sym same_layout) still.named);
    few = few_longer;
  }

  in_longer : (p : Progress) (s : State) (places : List Place) (o : Opening) → OpensIn p s c places o → OpensIn p (longer_state more s) c places o
  in_longer idle s places o h = h
  in_longer (marking k) s places o h = (
    record {
      core = h.0.core;
      machine = h.0.machine;
      tied = h.0.tied;
      remembered = h.0.remembered;
      low = h.0.low;
      room = h.0.room;
      queue_room = h.0.queue_room;
      from_is = h.0.from_is;
      noted = h.0.noted;
      nothing_listed = h.0.nothing_listed;
    },
    h.1,
  )
  in_longer (sweeping k closed) s places o h = h

-- the opening of the next round is an opening for the longer script
pub opens_longer : (script : Script) (more : List (List Command)) (c : Collector) (o : Opening) → FitsRun script →
    MayBeLonger script c.positions.items more → OpensAt script c o → OpensAt (longer_script more script) c o
unfolding still_longer
opens_longer script more c o limits may (run, still, opens) =
    let places = (at_longer script more c run limits still may).1 in
    let in_then = in_longer script more c run limits still may (last_state run).progress (last_state run) still.at_stop.heap.places o opens in (
      longer_run more run,
      still_longer script more c run limits still may,
      subst (λ (l : List Place). OpensIn (last_state (longer_run more run)).progress (last_state (longer_run more run)) c l o) (sym places)
          (subst (λ (s : State). OpensIn s.progress s c still.at_stop.heap.places o) (sym (after script more c run limits still may)) in_then),
    )
