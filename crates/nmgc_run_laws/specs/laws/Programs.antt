-- The rest of the programs: each of its rounds can be replayed, and serials suffice.
use Rattle.std.specs.Prelude.{◌≡◌, ◌+◌, ◌-◌, ◌<◌, ◌≤◌, ◌^◌, ◌∷◌, if◌then◌else◌}
use Rattle.nmgc_run_laws.specs.laws.Vocabulary.{ℕ, List, [], length, drop, slice_index_or, arith, refl, sym, ap, subst, ◌∙◌, Bool, true, false, inl, inr, All, get_or-map, cases_lt, get_or_past, length-drop, length-map, All-nil, All-cons, All-head, All-tail, All-drop, HasRegisters, words_made, Command, Reply, World, serial_of, Row, replayed, rows_of, CanReplay, CycleRow, StopRow, Config, answered, IsRound, program_of, slice, slice_of, rest_of, is_next, ends_slice, State, Plan, IsStop}
use Rattle.nmgc_run_laws.specs.laws.{Lefts.slice_count, Lefts.round_left, Lefts.stop_left, Serials.IsGood, Serials.own_count, Serials.all_own, Serials.rows_can, Serials.rows_count, Serials.answered_has, Serials.answered_few, States.IsSoundHere, States.lefts}

-- the rest of the programs has only registers that exist
pub record HasPrograms (plan : Plan) (s : State) : Type 0 where
  pub count : length s.left ≡ length plan.threads
  pub registers : (m : ℕ) → All HasRegisters (program_of s.left m)

either_has : (P : Command → Type 0) (b : Bool) (program : List Command) → All P program → All P (if b then [] else program)
either_has P true program h = All-nil P
either_has P false program h = h

next_has : (P : Command → Type 0) (b : Bool) (c : Command) (rest : List Command) → P c → All P rest → All P (if b then c ∷ rest else [])
next_has P true c rest p h = All-cons P c rest p h
next_has P false c rest p h = All-nil P

slice_has : (P : Command → Type 0) (commands words : ℕ) (program : List Command) → All P program → All P (slice commands words program)
slice_has P commands words [] h = All-nil P
slice_has P commands words (c ∷ program) h =
    next_has P (is_next commands words c) c (if ends_slice c then [] else slice (commands - 1) (words - words_made c) program)
    (All-head P c program h) (either_has P (ends_slice c) (slice (commands - 1) (words - words_made c) program)
    (slice_has P (commands - 1) (words - words_made c) program (All-tail P c program h)))

pub either_few : (b : Bool) (program : List Command) (n : ℕ) → length program ≤ n → length {A = Command} (if b then [] else program) ≤ n
either_few true program n h = omega arith
either_few false program n h = h

pub next_few : (b : Bool) (c : Command) (rest : List Command) (n : ℕ) → length rest ≤ n → length {A = Command} (if b then c ∷ rest else []) ≤ n + 1
next_few true c rest n h = omega (arith, h)
next_few false c rest n h = omega arith

pub slice_few : (commands words : ℕ) (program : List Command) → length (slice commands words program) ≤ length program
slice_few commands words [] = omega arith
slice_few commands words (c ∷ program) =
    let few : length (slice commands words (c ∷ program)) ≤ length program + 1 =
    next_few (is_next commands words c) c (if ends_slice c then [] else slice (commands - 1) (words - words_made c) program) (length program)
    (either_few (ends_slice c) (slice (commands - 1) (words - words_made c) program) (length program)
    (slice_few (commands - 1) (words - words_made c) program)) in
    omega (arith, few)

-- each mutator's rows of a round are its slice
own_is : (config : Config) (s t : State) (replies : List (List Reply)) (rows : List Row) → IsRound config s replies rows t → (m : ℕ) →
    rows_of m rows ≡ answered m (slice_of config (program_of s.left m)) (slice_index_or replies m [])
own_is config s t replies rows round m = cc (round.history.order m, get_or-map (slice_of config) s.left m [])

-- a property of all commands that are left is a property of the rows, and of the commands left then
pub rows_have : (Q : Command → Type 0) (config : Config) (s t : State) (replies : List (List Reply)) (rows : List Row) →
    IsRound config s replies rows t → ((m : ℕ) → All Q (program_of s.left m)) → All (λ (row : Row). Q row.command) rows
rows_have Q config s t replies rows round h = all_own (λ (row : Row). Q row.command) rows (λ m.
    rw (own_is config s t replies rows round m) (answered_has Q (λ (row : Row).
    Q row.command) m (λ c r q.
    q) (slice_of config (program_of s.left m)) (slice_index_or replies m []) (slice_has Q config.slice config.nursery (program_of s.left m) (h m))))

pub left_has : (Q : Command → Type 0) (config : Config) (s t : State) (replies : List (List Reply)) (rows : List Row) →
    IsRound config s replies rows t → ((m : ℕ) → All Q (program_of s.left m)) → (m : ℕ) → All Q (program_of t.left m)
left_has Q config s t replies rows round h m = rw (round_left config s t replies rows m round) (All-drop Q (length (slice_index_or replies m [])) (program_of s.left m) (h m))

-- the rows of a round can be replayed, and leave serials for the rest of the programs
module _ (plan : Plan) (s t : State) (replies : List (List Reply)) (rows : List Row) (round : IsRound plan.config s replies rows t)
    (able : HasPrograms plan s) (h : IsSoundHere plan s) where
  own_good : (m : ℕ) → All (IsGood (length s.world.mutators)) (rows_of m rows)
  own_good m = elim (cases_lt m (length plan.threads)) [
    | inl lt ↦
        let there : m < length s.world.mutators = omega (arith, lt, h.mutators) in
        rw (own_is plan.config s t replies rows round m) (answered_has HasRegisters (IsGood (length s.world.mutators)) m (λ c r registers. (
          there,
          registers,
        )) (slice_of plan.config (program_of s.left m)) (slice_index_or replies m [])
        (slice_has HasRegisters plan.config.slice plan.config.nursery (program_of s.left m) (able.registers m)))
    | inr ge ↦
        let none : program_of s.left m ≡ [] = get_or_past s.left m [] (omega (arith, ge, able.count)) in
        let own : rows_of m rows ≡ [] = cc (own_is plan.config s t replies rows round m, none) in
        subst (λ (own : List Row). All (IsGood (length s.world.mutators)) own) (sym own) (All-nil (IsGood (length s.world.mutators)))
  ]

  own_few : (m : ℕ) → own_count m rows ≤ length (slice_of plan.config (program_of s.left m))
  own_few m =
      let few : length (answered m (slice_of plan.config (program_of s.left m)) (slice_index_or replies m [])) ≤ length
      (slice_of plan.config (program_of s.left m)) = answered_few m (slice_of plan.config (program_of s.left m)) (slice_index_or replies m []) in
      subst (λ (own : List Row). length own ≤ length (slice_of plan.config (program_of s.left m))) (sym (own_is plan.config s t replies rows round m)) few

  pub can_replay : CanReplay s.world rows
  can_replay = rows_can (2 ^ 32 - 1) s.world rows h.world (all_own (IsGood (length s.world.mutators)) rows own_good) (λ m.
      let own : own_count m rows ≤ length (slice_of plan.config (program_of s.left m)) = own_few m in
      let few : length (slice_of plan.config (program_of s.left m)) ≤ length (program_of s.left m) =
      slice_few plan.config.slice plan.config.nursery (program_of s.left m) in
      let made : serial_of s.world m + length (program_of s.left m) < 2 ^ 32 - 1 = h.made m in
      below (serial_of s.world m) (own_count m rows) (length (slice_of plan.config (program_of s.left m))) (length (program_of s.left m))
      (2 ^ 32 - 1) own few made) refl
    where
      below : (serial own slice left limit : ℕ) → own ≤ slice → slice ≤ left → serial + left < limit → serial + own ≤ limit - 1
      below serial own slice left limit a b c = omega (arith, a, b, c)

  -- a command makes at most one object
  pub serials_after : (m : ℕ) → serial_of (replayed s.world rows) m + lefts t m ≤ serial_of s.world m + length (program_of s.left m)
  serials_after m =
      let left : program_of t.left m ≡ drop (length (slice_index_or replies m [])) (program_of s.left m) = round_left plan.config s t replies rows m round in
      let count : lefts t m ≡ length (program_of s.left m) - length (slice_index_or replies m []) =
      ap (λ (program : List Command). length program) left ∙ length-drop (length (slice_index_or replies m [])) (program_of s.left m) in
      let made = rows_count s.world rows h.world can_replay m in
      let own = own_few m in
      let many = slice_count plan.config s t replies rows m round in
      let few = slice_few plan.config.slice plan.config.nursery (program_of s.left m) in
      omega (arith, count, made, own, many, few)

  pub made_after : (m : ℕ) → serial_of (replayed s.world rows) m + lefts t m < 2 ^ 32 - 1
  made_after m =
      let left : program_of t.left m ≡ drop (length (slice_index_or replies m [])) (program_of s.left m) = round_left plan.config s t replies rows m round in
      let count : lefts t m ≡ length (program_of s.left m) - length (slice_index_or replies m []) =
      ap (λ (program : List Command). length program) left ∙ length-drop (length (slice_index_or replies m [])) (program_of s.left m) in
      bound (serial_of (replayed s.world rows) m) (serial_of s.world m) (own_count m rows) (length (slice_index_or replies m []))
      (length (slice_of plan.config (program_of s.left m))) (length (program_of s.left m)) (lefts t m) (2 ^ 32 - 1)
      (rows_count s.world rows h.world can_replay m) (own_few m) (slice_count plan.config s t replies rows m round)
      (slice_few plan.config.slice plan.config.nursery (program_of s.left m)) count (h.made m)
    where
      bound : (new serial own replies slice left rest limit : ℕ) → new ≤ serial + own → own ≤ slice → replies ≡ slice → slice ≤ left →
          rest ≡ left - replies → serial + left < limit → new + rest < limit
      bound new serial own replies slice left rest limit a b c d e f = omega (arith, a, b, c, d, e, f)

  pub round_programs : HasPrograms plan t
  round_programs = record {
    count = ap (λ (x : State). length x.left) round.rest ∙ length-map s.left (rest_of plan.config) ∙ able.count;
    registers = left_has HasRegisters plan.config s t replies rows round able.registers;
  }

pub stop_programs : (plan : Plan) (began : World) (s t : State) (row : StopRow) (cycles : List CycleRow) → IsStop plan began s t row cycles →
    HasPrograms plan s → HasPrograms plan t
stop_programs plan began s t row cycles i able =
    let same : t.left ≡ s.left = stop_left plan began s t row cycles i in
    record {
      count = ap (λ (left : List (List Command)). length left) same ∙ able.count;
      registers = λ m. subst (λ (left : List (List Command)). All HasRegisters (program_of left m)) (sym same) (able.registers m);
    }
