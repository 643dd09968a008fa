-- A value that goes from mutator to mutator keeps a cycle and the marker beside it tied. Only a register changes, and a name
-- that no scan will find is owed.
use Rattle.std.proofs.Common.{◌≡◌, ◌≢◌, ◌<◌, ℕ, List, [], ◌∷◌, ◌++◌, length, get_or, set, refl, sym, ap, subst, ◌∙◌, arith, length-set, inl, inr, ◌⊎◌, Bool, true, false, Option, Some, None, if◌then◌else◌, ◌==◌}
use Rattle.std.specs.Prelude.{IsSome, Contains, All, slice_get}
use Rattle.std.proofs.{lemmas.List.get_or-set_same, lemmas.List.get_or-set_other, lemmas.List.Elements.All-set, lemmas.List.Elements.All-get_or, lemmas.List.Elements.All-append, lemmas.List.Elements.Contains-append_left, lemmas.List.Elements.Contains-append_right, lemmas.List.Elements.Contains-append_cases, lemmas.List.Elements.Contains-get_or, lemmas.Bool.cases_eq}
use Rattle.nmgc_limits.specs.declared.mutators.TheConstants.{REGISTERS, SHARED_MAKER}
use Rattle.nmgc_world_spec.specs.{declared.value.Name.Name, declared.value.Value.Value, declared.node.Node.Node, declared.mutator_state.MutatorState.MutatorState, declared.command.Operand.Operand, declared.command.Operand.TheVariants.Register, declared.command.Operand.TheVariants.Shared, World.World, World.state_of, World.node_of, World.serial_of, World.no_mutator, World.shared_name, World.value_of, World.value_for, World.with_register, Known.IsWorld, Known.IsOperand, Reach.root, Reach.further, laws.Orders.name_cases}
use Rattle.nmgc_world_spec.specs.declared.value.Value.TheVariants as value
use Rattle.nmgc_world_laws.specs.{Holds.Names, laws.Worlds.holding_keeps, laws.Worlds.operand_known}
use Rattle.nmgc_snapshot_laws.specs.{State.State, State.names_of, Facts.MayHold, Facts.IsSafe, Facts.Facts, Facts.owed, Facts.pushed, Facts.marked, laws.Listed.names_same, laws.Listed.names_other, laws.Lives.live_more}
use Rattle.nmgc_barrier_laws.specs.{declared.debt.Debt.Debt, Cycle.Owes, Barrier.names_in, Lax.IsShuffled, laws.Laxer.shuffled_facts, laws.Tied.listed_debt, laws.Tied.debt_listed, laws.Veil.hide_length, laws.Veil.shown_names, laws.HybridCommand.veiled, laws.HybridFacts.widened_facts, laws.HybridFacts.moved_facts, laws.HybridTied.IsTiedIn, laws.HybridTied.IsIn, laws.HybridTied.shown_in}
use Rattle.nmgc_barrier_laws.specs.Hybrid.{Hybrid, hidden, IsHandedBy, IsHandedOver, handed_over, after_handing}

-- names that join one list of several
module _ (lists : List (List Name)) (m : ℕ) (names : List Name) (place : m < length lists) where
  abbrev pub joined : List (List Name)
  joined = set lists m (names_of lists m ++ names)

  pub own_joined : (n : Name) → Contains names n → Contains (names_of joined m) n
  own_joined n k = rw (names_same lists m (names_of lists m ++ names) place) (Contains-append_right (names_of lists m) names n k)

  pub more_joined : (k : ℕ) (n : Name) → Contains (names_of lists k) n → Contains (names_of joined k) n
  more_joined k n c = elim (cases_eq k m) [
    | inl e ↦ rw (e, names_same lists m (names_of lists m ++ names) place) (Contains-append_left (names_of lists m) names n (rw e at c))
    | inr ne ↦ rw (names_other lists m k (names_of lists m ++ names) ne) c
  ]

  pub old_joined : (k : ℕ) (n : Name) → Contains (names_of joined k) n → Contains (names_of lists k) n ⊎ Contains names n
  old_joined k n c = elim (cases_eq k m) [
    | inl e ↦ elim (Contains-append_cases (names_of lists m) names n (rw (names_same lists m (names_of lists m ++ names) place) at
        (subst (λ (j : ℕ). Contains (names_of (set lists m (names_of lists m ++ names)) j) n) e c))) [
          | inl old ↦ inl (subst (λ (j : ℕ). Contains (names_of lists j) n) (sym e) old)
          | inr new ↦ inr new
        ]
    | inr ne ↦ inl (rw (names_other lists m k (names_of lists m ++ names) ne) at c)
  ]

-- names that a mutator owes besides, and that count as opened
module _ (s : State) (f : Facts s) (m : ℕ) (names : List Name) (place : m < length s.world.mutators) where
  pub in_owed : m < length s.owed
  in_owed = let e : length s.owed ≡ length s.world.mutators = f.base.owed_lists in omega (arith, place)

  in_pushed : m < length s.pushed
  in_pushed = let e : length s.pushed ≡ length s.world.mutators = f.base.pushed_lists in omega (arith, place)

  abbrev wide : State
  wide = record s { opened = s.opened ++ names; pushed = joined s.pushed m names in_pushed }

  abbrev pub owing : State
  owing = record s { opened = s.opened ++ names; owed = joined s.owed m names in_owed }

  wide_facts : Facts wide
  wide_facts = widened_facts s f names (joined s.pushed m names in_pushed) (length-set s.pushed m _)
      (more_joined s.pushed m names in_pushed) (old_joined s.pushed m names in_pushed)
      (λ n k there. pushed m (own_joined s.pushed m names in_pushed n k))

  name_may : (n : Name) → Contains names n → MayHold wide n
  name_may n k there = further n (Contains-append_right s.opened names n k) there

  owing_may : (k : ℕ) → All (MayHold wide) (names_of owing.owed k)
  owing_may k = elim (cases_eq k m) [
    | inl e ↦ subst (λ (j : ℕ). All (MayHold wide) (names_of owing.owed j)) (sym e)
        (rw (names_same s.owed m (names_of s.owed m ++ names) in_owed)
        (All-append (MayHold wide) (names_of s.owed m) names (wide_facts.base.owed m)
        (λ i d lt. name_may (get_or names i d) (Contains-get_or names i d lt))))
    | inr ne ↦ rw (names_other s.owed m k (names_of s.owed m ++ names) ne) (wide_facts.base.owed k)
  ]

  narrow_may : (k : ℕ) → All (MayHold wide) (names_of s.pushed k)
  narrow_may k i d lt = λ there. live_more s.snapshot s.opened names (get_or (names_of s.pushed k) i d) (f.base.pushed k i d lt there)

  safe_on : (n : Name) → IsSafe wide n → IsSafe owing n
  safe_on n (marked c) = marked c
  safe_on n (owed k c) = owed k (more_joined s.owed m names in_owed k n c)
  safe_on n (pushed k c) = elim (old_joined s.pushed m names in_pushed k n c) [
    | inl old ↦ pushed k old
    | inr new ↦ owed m (own_joined s.owed m names in_owed n new)
  ]

  shuffles : IsShuffled wide owing
  shuffles = record {
    rest = refl;
    queue = λ entry. (λ c. c, λ c. c);
    owed_lists = length-set s.owed m _;
    pushed_lists = sym (length-set s.pushed m _);
    owed = owing_may;
    pushed = narrow_may;
    safe = λ n known k. safe_on n k;
  }

  pub owing_facts : Facts owing
  owing_facts = shuffled_facts wide wide_facts owing shuffles

-- a register with another value
module _ (w : World) (n r : ℕ) (x : Value) (lt : n < length w.mutators) where
  abbrev put : World
  put = with_register w n r x

  abbrev held : MutatorState
  held = record (state_of w n) { registers = set (state_of w n).registers r x }

  pub same_state : state_of put n ≡ held
  same_state = get_or-set_same w.mutators n held no_mutator lt

  pub other_state : (k : ℕ) → k ≢ n → state_of put k ≡ state_of w k
  other_state k ne = get_or-set_other w.mutators n k held no_mutator ne

  pub put_nodes : (k : ℕ) → (state_of put k).nodes ≡ (state_of w k).nodes
  put_nodes k = elim (cases_eq k n) [
    | inl e ↦ subst (λ (j : ℕ). (state_of put j).nodes ≡ (state_of w j).nodes) (sym e) (ap (λ (q : MutatorState). q.nodes) same_state)
    | inr ne ↦ ap (λ (q : MutatorState). q.nodes) (other_state k ne)
  ]

  pub put_queue : (k : ℕ) → (state_of put k).queue ≡ (state_of w k).queue
  put_queue k = elim (cases_eq k n) [
    | inl e ↦ subst (λ (j : ℕ). (state_of put j).queue ≡ (state_of w j).queue) (sym e) (ap (λ (q : MutatorState). q.queue) same_state)
    | inr ne ↦ ap (λ (q : MutatorState). q.queue) (other_state k ne)
  ]

  pub put_node : (name : Name) → node_of put name ≡ node_of w name
  put_node name = ap (λ (nodes : List Node). if name.maker == SHARED_MAKER then (if name.serial == 0 then Some w.shared else None) else
      slice_get nodes name.serial) (put_nodes name.maker)

-- the value of an operand has a property that g and all values in registers have
operand_has : (P : Name → Type 0) (registers : List Value) (v : Operand) → P shared_name → IsOperand v → length registers ≡ REGISTERS →
    All (Names P) registers → Names P (value_of registers v)
operand_has P registers (Register q) own fits count all = All-get_or (Names P) registers q value.Nil (omega (arith, fits, count)) all
operand_has P registers Shared own fits count all = own

-- a value is handed over
module _ (h next : Hybrid) (s : State) (t : IsTiedIn h s) (line m : ℕ) (v : Operand) (n r : ℕ) (w : IsHandedOver h line m v n r next) where
  abbrev names : List Name
  names = names_in next.watch.debts

  abbrev pub after : State
  after = after_handing s m v n r names

  abbrev x : Value
  x = value_for s.world m v

  giver : m < length s.world.mutators
  giver = subst (λ (u : World). m < length u.mutators) (sym t.world) w.can.shows.mutator

  taker : n < length s.world.mutators
  taker = subst (λ (u : World). n < length u.mutators) (sym t.world) w.can.taker

  hidden_place : m < length (hidden (shown_in h) s.world).mutators
  hidden_place = subst (λ (k : ℕ). m < k) (sym (hide_length (shown_in h) s.world.mutators)) giver

  owed_place : m < length s.owed
  owed_place = let e : length s.owed ≡ length (hidden (shown_in h) s.world).mutators = t.facts.base.owed_lists in omega (arith, hidden_place)

  abbrev owes : State
  owes = record s { owed = set s.owed m (names_of s.owed m ++ names); opened = s.opened ++ names }

  owes_facts : Facts (veiled (shown_in h) owes)
  owes_facts = owing_facts (veiled (shown_in h) s) t.facts m names hidden_place

  owes_name : (target : Name) → Owes next.watch target → Contains names target
  owes_name target o = subst (λ (y : Name). Contains names y) o.2 (listed_debt next.watch.debts o.0 o.1)

  in_opened : (target : Name) → Contains names target → Contains owes.opened target
  in_opened target k = Contains-append_right s.opened names target k

  was_opened : (target : Name) → IsSome (node_of s.snapshot target) → Contains h.watch.remembered target → Contains owes.opened target
  was_opened target there k = Contains-append_left s.opened names target ((t.opened target there).1 (inr (inl k)))

  -- a name that is due was remembered, or is among the debts
  given_opened : (target : Name) → IsSome (node_of s.snapshot target) → IsHandedBy h m v n target → Contains owes.opened target
  given_opened target there d = elim (w.due target d) [
    | inl k ↦ was_opened target there k
    | inr o ↦ in_opened target (owes_name target (o.0, o.1, o.2))
  ]

  own_may : MayHold owes shared_name
  own_may there = root shared_name (inl refl)

  -- the names in a register that is shown may be held
  shown_may : (k : ℕ) → shown_in h k ≡ true → All (Names (MayHold owes)) (state_of s.world k).registers
  shown_may k is = shown_names (MayHold owes) (shown_in h) s.world k is (owes_facts.base.holds.registers k)

  unseen_may : shown_in h m ≡ false → shown_in h n ≡ true → (y : Value) → x ≡ y → Names (MayHold owes) y
  unseen_may unseen seen value.Nil e = tt
  unseen_may unseen seen (value.Number k) e = tt
  unseen_may unseen seen (value.Ref target) e = elim (name_cases target shared_name) [
    | inl g ↦ λ there. root target (inl g)
    | inr ne ↦ λ there. further target (given_opened target there (record {
      unscanned = unseen;
      scanned = seen;
      there = subst (λ (u : World). IsSome (node_of u target)) t.snapshot there;
      own = ne;
      is = subst (λ (u : World). value_for u m v ≡ value.Ref target) t.world e;
    })) there
  ]

  value_may : shown_in h n ≡ true → Names (MayHold owes) x
  value_may seen = by_flag (shown_in h m) refl
    where
      by_flag : (b : Bool) → shown_in h m ≡ b → Names (MayHold owes) x
      by_flag true is = operand_has (MayHold owes) (state_of s.world m).registers v own_may w.can.shows.registers (t.closed.registers m giver) (shown_may m is)
      by_flag false unseen = unseen_may unseen seen x refl

  hold : (k : ℕ) → shown_in h k ≡ true → All (Names (MayHold owes)) (state_of after.world k).registers
  hold k is = elim (cases_eq k n) [
    | inl e ↦
        let seen : shown_in h n ≡ true = subst (λ (j : ℕ). shown_in h j ≡ true) e is in
        subst (λ (j : ℕ). All (Names (MayHold owes)) (state_of after.world j).registers) (sym e)
        (subst (λ (q : MutatorState). All (Names (MayHold owes)) q.registers) (sym (same_state s.world n r x taker))
        (All-set (Names (MayHold owes)) (state_of s.world n).registers r x (value_may seen) (shown_may n seen)))
    | inr ne ↦ subst (λ (q : MutatorState). All (Names (MayHold owes)) q.registers) (sym (other_state s.world n r x taker k ne)) (shown_may k is)
  ]

  after_facts : Facts (veiled (shown_in h) after)
  after_facts = moved_facts owes (shown_in h) (shown_in h) after.world (put_node s.world n r x taker) (length-set s.world.mutators n _)
      (λ k. ap length (put_nodes s.world n r x taker k)) (put_queue s.world n r x taker) owes_facts hold

  next_remembered : next.watch.remembered ≡ h.watch.remembered
  next_remembered = ap (λ (y : Hybrid). y.watch.remembered) w.rest

  next_scanned : next.scanned ≡ h.scanned
  next_scanned = ap (λ (y : Hybrid). y.scanned) w.rest

  opened_on : (name : Name) → IsSome (node_of s.snapshot name) → Contains after.opened name → IsIn next.watch name
  opened_on name there k = elim (Contains-append_cases s.opened names name k) [
    | inl old ↦ elim ((t.opened name there).0 old) [
      | inl a ↦ inl ((w.opened name).1 (inl a))
      | inr (inl b) ↦ inr (inl (rw next_remembered b))
      | inr (inr o) ↦ inr (inr (o.0, w.old o.0 o.1, o.2))
    ]
    | inr new ↦ inr (inr (debt_listed next.watch.debts name new))
  ]

  opened_back : (name : Name) → IsSome (node_of s.snapshot name) → IsIn next.watch name → Contains after.opened name
  opened_back name there (inl a) = elim ((w.opened name).0 a) [
    | inl old ↦ Contains-append_left s.opened names name ((t.opened name there).1 (inl old))
    | inr d ↦ given_opened name there d
  ]
  opened_back name there (inr (inl k)) = was_opened name there (rw next_remembered at k)
  opened_back name there (inr (inr o)) = in_opened name (owes_name name o)

  pub handed_tied : IsTiedIn next after
  handed_tied = record {
    facts = subst (λ (l : List Bool). Facts (veiled (λ k. get_or l k false) after)) (sym next_scanned) after_facts;
    closed = holding_keeps s.world n r x t.closed taker (operand_known s.world m t.closed giver v w.can.shows.registers);
    is_open = t.is_open;
    world = subst (λ (u : World). handed_over s.world m v n r ≡ handed_over u m v n r) t.world refl ∙ sym (ap (λ (y : Hybrid). y.watch.world) w.rest);
    snapshot = t.snapshot ∙ sym (ap (λ (y : Hybrid). y.watch.snapshot) w.rest);
    finalised = t.finalised ∙ sym (ap (λ (y : Hybrid). y.watch.finalised) w.rest);
    opened = λ name there. (λ k. opened_on name there k, λ k. opened_back name there k);
    remembered = λ name k there. t.remembered name (rw next_remembered at k) there;
    only = λ k name c. elim (old_joined s.owed m names owed_place k name c) [
      | inl old ↦ let o : Owes h.watch name = t.only k name old in (o.0, w.old o.0 o.1, o.2)
      | inr new ↦ debt_listed next.watch.debts name new
    ];
  }
