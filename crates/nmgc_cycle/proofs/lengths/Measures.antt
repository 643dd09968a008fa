-- The number of commands left: while some are left, a round answers one.
use Rattle.nmgc_cycle.proofs.Vocabulary.{ℕ, zero, suc, ◌≡◌, ◌+◌, ◌-◌, ◌<◌, ◌≤◌, List, [], ◌∷◌, ◌++◌, length, drop, refl, sym, ap, subst, ◌∙◌, arith, Bool, true, slice_index_or, inl, inr, All, ◌&&◌, nat_lt, nat_le, if◌then◌else◌, le-leb, lt-ltb, cases_lt, length-drop, sum_by, sum_by-cons, All-drop, All-head, Fits, words_made, Row, Command, Reply, most_commands, RoundRows, Config, Script, IsRound, slice, slice_of, is_next, ends_slice, program_of, Plan, State, plan_of, answered_count, slice_count, scripts_have_good_plans, left_from, commands_left, FitsRun}

-- if more of each program were answered, no more are left
no_more : (old new : ℕ → ℕ) (m : ℕ) (programs : List (List Command)) → ((k : ℕ) → old k ≤ new k) → left_from new m programs ≤ left_from old m programs
no_more old new m [] more = omega arith
no_more old new m (program ∷ programs) more =
    let first = more m in
    let rest = no_more old new (m + 1) programs more in
    omega arith

-- if more were answered of a program with commands left, fewer are left
fewer : (old new : ℕ → ℕ) (m j k : ℕ) (programs : List (List Command)) → k ≡ m + j → ((n : ℕ) → old n ≤ new n) →
    old k < length (program_of programs j) → old k < new k → left_from new m programs < left_from old m programs
fewer old new m j k [] at more some rose = absurd (omega (arith, some))
fewer old new m zero k (program ∷ programs) at more some rose =
    let same : k ≡ m = omega arith in
    let some_here = subst (λ (n : ℕ). old n < length program) same some in
    let rose_here = subst (λ (n : ℕ). old n < new n) same rose in
    let rest = no_more old new (m + 1) programs more in
    omega arith
fewer old new m (suc j) k (program ∷ programs) at more some rose =
    let first = more m in
    let rest = fewer old new (m + 1) j k programs (omega arith) more some rose in
    omega arith

-- if some are left, some program has some left
some_left : (answered : ℕ → ℕ) (m : ℕ) (programs : List (List Command)) → 1 ≤ left_from answered m programs → (j : ℕ) × (k : ℕ) × (k ≡ m + j) ×
    (answered k < length (program_of programs j))
some_left answered m [] some = absurd (omega (arith, some))
some_left answered m (program ∷ programs) some = elim (cases_lt (answered m) (length program)) [
  | inl lt ↦ (0, m, omega arith, lt)
  | inr le ↦
      let rest = some_left answered (m + 1) programs (omega (arith, some, le)) in
      let at = rest.2 in
      (suc rest.0, rest.1, omega (arith, at), rest.3)
]

-- if none are left, no program has any
none_left : (answered : ℕ → ℕ) (m : ℕ) (programs : List (List Command)) → left_from answered m programs ≡ 0 → (j k : ℕ) → k ≡ m + j →
    length (program_of programs j) ≤ answered k
none_left answered m [] none j k at = omega arith
none_left answered m (program ∷ programs) none zero k at =
    let here : length program ≤ answered m = omega (arith, none) in
    subst (λ (n : ℕ). length program ≤ answered n) (let e : m ≡ k = omega arith in e) here
none_left answered m (program ∷ programs) none (suc j) k at = none_left answered (m + 1) programs (omega (arith, none)) j k (omega arith)

-- no more commands are left than there are
pub left_most : (answered : ℕ → ℕ) (m : ℕ) (programs : List (List Command)) → left_from answered m programs ≤ sum_by length programs
left_most answered m [] = omega arith
left_most answered m (program ∷ programs) =
    let rest = left_most answered (m + 1) programs in
    let all = sum_by-cons length program programs in
    omega (arith, rest, all)

-- a further round was answered
pub answered_more : (rounds : List RoundRows) (rows : RoundRows) (m : ℕ) →
    answered_count (rounds ++ rows ∷ []) m ≡ answered_count rounds m + length (slice_index_or rows.replies m [])
answered_more [] rows m = omega arith
answered_more (first ∷ rounds) rows m = let rest = answered_more rounds rows m in omega arith

-- a program with commands left has a slice, if its objects fit a nursery
has_slice : (config : Config) (program : List Command) → 1 ≤ config.slice → config.words ≤ config.nursery → All (Fits config.words) program →
    0 < length program → 0 < length (slice_of config program)
has_slice config [] some fit each left = absurd (omega arith)
has_slice config (c ∷ program) some fit each left =
    let size = (All-head (Fits config.words) c program each).size in
    let may : nat_lt 0 config.slice ≡ true = lt-ltb 0 config.slice some in
    let room : nat_le (words_made c) config.nursery ≡ true = le-leb (words_made c) config.nursery (omega arith) in
    let next : is_next config.slice config.nursery c ≡ true = ap (λ (b : Bool). b && nat_le (words_made c) config.nursery) may ∙ room in
    let rest = if ends_slice c then [] else slice (config.slice - 1) (config.nursery - words_made c) program in
    subst (λ (b : Bool). 0 < length (if b then c ∷ rest else [])) (sym next) (omega arith)

-- the rest of the programs, by the number of commands answered of each
abbrev pub AreLeft : Plan → State → (ℕ → ℕ) → Type 0
AreLeft plan s answered = (m : ℕ) → program_of s.left m ≡ drop (answered m) (program_of plan.threads m)

-- if none are left, every program is used up
pub nothing_left : (plan : Plan) (s : State) (answered : ℕ → ℕ) → AreLeft plan s answered → left_from answered 0 plan.threads ≡ 0 → (m : ℕ) →
    length (program_of s.left m) ≡ 0
nothing_left plan s answered left none m =
    let all : length (program_of plan.threads m) ≤ answered m = none_left answered 0 plan.threads none m m (omega arith) in
    let rest = length-drop (answered m) (program_of plan.threads m) in
    let same = ap (λ (commands : List Command). length commands) (left m) in
    omega (arith, all, rest, same)

-- if some are left, a round leaves fewer
pub round_falls : (script : Script) (s t : State) (replies : List (List Reply)) (rows : List Row) (answered : ℕ → ℕ) → FitsRun script →
    IsRound script.config s replies rows t → AreLeft (plan_of script) s answered → 1 ≤ left_from answered 0 script.threads →
    left_from (λ m. answered m + length (slice_index_or replies m [])) 0 script.threads < left_from answered 0 script.threads
round_falls script s t replies rows answered limits round left some =
    let one = some_left answered 0 script.threads some in
    let j : ℕ = one.0 in
    let at : one.1 ≡ j = (let e = one.2 in omega (arith, e)) in
    let has : answered j < length (program_of script.threads j) = subst (λ (k : ℕ). answered k < length (program_of script.threads j)) at one.3 in
    let dropped = length-drop (answered j) (program_of script.threads j) in
    let same = ap (λ (commands : List Command). length commands) (left j) in
    let own : All (Fits script.config.words) (program_of s.left j) =
    subst (All (Fits script.config.words)) (sym (left j))
    (All-drop (Fits script.config.words) (answered j) (program_of script.threads j) ((scripts_have_good_plans script limits.fits).fit j)) in
    let done = has_slice script.config (program_of s.left j) limits.fits.config.some_slice limits.fits.config.some_nursery own (omega (
      arith,
      has,
      dropped,
      same,
    )) in
    let count = slice_count script.config s t replies rows j round in
    let rose : answered j < answered j + length (slice_index_or replies j []) = omega (arith, done, count) in
    fewer answered (λ m. answered m + length (slice_index_or replies m [])) 0 j j script.threads (omega arith) (λ m. omega arith) has rose

-- after a further round no more are left than by that round's replies
pub left_then : (threads : List (List Command)) (rounds : List RoundRows) (rows : RoundRows) →
    commands_left threads (rounds ++ rows ∷ []) ≤ left_from (λ m. answered_count rounds m + length (slice_index_or rows.replies m [])) 0 threads
unfolding commands_left
left_then threads rounds rows =
    no_more (λ m. answered_count rounds m + length (slice_index_or rows.replies m [])) (answered_count (rounds ++ rows ∷ [])) 0 threads (λ m.
    let e = answered_more rounds rows m in omega (arith, e))

-- and no more than before it
pub left_less : (threads : List (List Command)) (rounds : List RoundRows) (rows : RoundRows) →
    commands_left threads (rounds ++ rows ∷ []) ≤ commands_left threads rounds
unfolding commands_left
left_less threads rounds rows =
    no_more (answered_count rounds) (answered_count (rounds ++ rows ∷ [])) 0 threads (λ m. let e = answered_more rounds rows m in omega (arith, e))

pub left_is : (threads : List (List Command)) (rounds : List RoundRows) → commands_left threads rounds ≡ left_from (answered_count rounds) 0 threads
unfolding commands_left
left_is threads rounds = refl

-- the most commands of a run
pub commands_most : (script : Script) → FitsRun script → (rounds : List RoundRows) → commands_left script.threads rounds ≤ most_commands
unfolding commands_left
commands_most script limits rounds =
    let left = left_most (answered_count rounds) 0 script.threads in
    let few = limits.few in
    omega (arith, left, few)
