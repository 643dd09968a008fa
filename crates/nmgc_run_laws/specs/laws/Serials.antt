-- The number of objects that rows make: a command makes one at most, and only for its own mutator. So rows with existing
-- mutators and registers can be replayed if serials suffice.
use Rattle.std.specs.Prelude.{◌≡◌, ◌≢◌, ◌+◌, ◌-◌, ◌<◌, ◌≤◌, ◌^◌, ◌∷◌}
use Rattle.nmgc_run_laws.specs.laws.Vocabulary.{ℕ, List, [], length, arith, refl, sym, subst, ◌∙◌, Bool, true, false, eqb, cond, inl, inr, All, cases_eq, eqb_tells, All-nil, All-cons, All-head, All-tail, Command, Reply, HasRegisters, World, IsWorld, serial_of, CanApply, step, Row, replayed, rows_of, step_grows, CanReplay, step_leaves_others, step_keeps_world, answered}

-- the mutator and the registers exist
abbrev pub IsGood : ℕ → Row → Type 0
IsGood count row = (row.mutator < count) × HasRegisters row.command

-- the number of a mutator's rows
abbrev pub own_count : ℕ → List Row → ℕ
own_count m rows = length (rows_of m rows)

-- a property of each mutator's own rows is a property of all rows
pub all_own : (P : Row → Type 0) (rows : List Row) → ((m : ℕ) → All P (rows_of m rows)) → All P rows
all_own P [] own = All-nil P
all_own P (row ∷ rows) own = All-cons P row rows head (all_own P rows (λ m. tail m (own m)))
  where
    head : P row
    head = elim (eqb_tells row.mutator row.mutator) [
      | inl p ↦ All-head P row (rows_of row.mutator rows)
          (let h : All P (cond (eqb row.mutator row.mutator) (row ∷ rows_of row.mutator rows) (rows_of row.mutator rows)) = own row.mutator in rw p.0 at h)
      | inr p ↦ absurd (p.1 refl)
    ]

    tail : (m : ℕ) → All P (cond (eqb row.mutator m) (row ∷ rows_of m rows) (rows_of m rows)) → All P (rows_of m rows)
    tail m h = by (eqb row.mutator m) h
      where
        by : (b : Bool) → All P (cond b (row ∷ rows_of m rows) (rows_of m rows)) → All P (rows_of m rows)
        by true h = All-tail P row (rows_of m rows) h
        by false h = h

own_here : (m : ℕ) (row : Row) (rows : List Row) → row.mutator ≡ m → own_count m (row ∷ rows) ≡ own_count m rows + 1
own_here m row rows e = elim (eqb_tells row.mutator m) [
  | inl p ↦ rw p.0 (omega arith)
  | inr p ↦ absurd (p.1 e)
]

own_other : (m : ℕ) (row : Row) (rows : List Row) → row.mutator ≢ m → own_count m (row ∷ rows) ≡ own_count m rows
own_other m row rows e = elim (eqb_tells row.mutator m) [
  | inl p ↦ absurd (e p.1)
  | inr p ↦ rw p.0 refl
]

-- a row adds no more objects to a mutator than it takes from the mutator's rows to come
step_count : (w : World) (row : Row) (rows : List Row) (m : ℕ) → IsWorld w → CanApply w row.mutator row.command →
    serial_of (step w row.mutator row.command).0 m + own_count m rows ≤ serial_of w m + own_count m (row ∷ rows)
step_count w row rows m is can = elim (cases_eq m row.mutator) [
  | inl e ↦
      let more : serial_of (step w row.mutator row.command).0 m ≤ serial_of w m + 1 =
      rw e (step_grows w row.mutator row.command can.mutator).by_one in
      omega (arith, more, own_here m row rows (sym e))
  | inr other ↦
      let same : serial_of (step w row.mutator row.command).0 m ≡ serial_of w m = (step_leaves_others w row.mutator row.command is can m other).made in
      omega (arith, same, own_other m row rows (λ e. other (sym e)))
]

-- good rows can be replayed if serials suffice
pub rows_can : (limit : ℕ) (w : World) (rows : List Row) → IsWorld w → All (IsGood (length w.mutators)) rows →
    ((m : ℕ) → serial_of w m + own_count m rows ≤ limit - 1) → limit ≡ 2 ^ 32 - 1 → CanReplay w rows
rows_can limit w [] world good few is = tt
rows_can limit w (row ∷ rows) world good few is =
    let g : IsGood (length w.mutators) row = All-head (IsGood (length w.mutators)) row rows good in
    let v : World = (step w row.mutator row.command).0 in
    let can : CanApply w row.mutator row.command = record {
      mutator = g.0;
      registers = g.1;
      serial = let here : own_count row.mutator (row ∷ rows) ≡ own_count row.mutator rows + 1 = own_here row.mutator row rows refl in
          let f : serial_of w row.mutator + own_count row.mutator (row ∷ rows) ≤ limit - 1 = few row.mutator in
          subst (λ (n : ℕ). serial_of w row.mutator < n) is (omega (arith, here, f));
    } in
    let count : length v.mutators ≡ length w.mutators = (step_grows w row.mutator row.command g.0).mutators in (
      can,
      rows_can limit v rows (step_keeps_world w row.mutator row.command world can) (rw count (All-tail (IsGood (length w.mutators)) row rows good))
          (λ m. let a : serial_of v m + own_count m rows ≤ serial_of w m + own_count m (row ∷ rows) = step_count w row rows m world can in
          let b : serial_of w m + own_count m (row ∷ rows) ≤ limit - 1 = few m in omega (arith, a, b)) is,
    )

-- rows make no more objects for a mutator than it has rows
pub rows_count : (w : World) (rows : List Row) → IsWorld w → CanReplay w rows → (m : ℕ) → serial_of (replayed w rows) m ≤ serial_of w m + own_count m rows
rows_count w [] is can m = omega arith
rows_count w (row ∷ rows) is can m =
    let v : World = (step w row.mutator row.command).0 in
    let a : serial_of (replayed v rows) m ≤ serial_of v m + own_count m rows =
    rows_count v rows (step_keeps_world w row.mutator row.command is can.0) can.1 m in
    let b : serial_of v m + own_count m rows ≤ serial_of w m + own_count m (row ∷ rows) = step_count w row rows m is can.0 in
    omega (arith, a, b)

pub rows_mutators : (w : World) (rows : List Row) → CanReplay w rows → length (replayed w rows).mutators ≡ length w.mutators
rows_mutators w [] can = refl
rows_mutators w (row ∷ rows) can = rows_mutators (step w row.mutator row.command).0 rows can.1 ∙ (step_grows w row.mutator row.command can.0.mutator).mutators

-- a property of a mutator's commands is a property of its rows
pub answered_has : (Q : Command → Type 0) (P : Row → Type 0) (m : ℕ) →
    ((c : Command) (r : Reply) → Q c → P (record { mutator = m; command = c; reply = r })) → (commands : List Command) (replies : List Reply) →
    All Q commands → All P (answered m commands replies)
answered_has Q P m each [] replies h = All-nil P
answered_has Q P m each (c ∷ commands) [] h = All-nil P
answered_has Q P m each (c ∷ commands) (r ∷ replies) h =
    All-cons P _ (answered m commands replies) (each c r (All-head Q c commands h)) (answered_has Q P m each commands replies (All-tail Q c commands h))

pub answered_few : (m : ℕ) (commands : List Command) (replies : List Reply) → length (answered m commands replies) ≤ length commands
answered_few m [] replies = omega arith
answered_few m (c ∷ commands) [] = omega arith
answered_few m (c ∷ commands) (r ∷ replies) = let rest : length (answered m commands replies) ≤ length commands = answered_few m commands replies in
    omega (arith, rest)
