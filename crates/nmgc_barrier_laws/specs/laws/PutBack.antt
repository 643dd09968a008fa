-- A value that is put back into a register keeps a cycle and the marker beside it tied. A scanned mutator may hold a former
-- value again, since the names opened, remembered or due only grow with commands.
use Rattle.std.proofs.Common.{◌≡◌, ◌<◌, ℕ, List, ◌++◌, length, get_or, refl, sym, ap, subst, ◌∙◌, arith, length-set, inl, inr, Bool, true, false}
use Rattle.std.specs.Prelude.{IsSome, Contains, All, ◌↔◌}
use Rattle.std.proofs.lemmas.{List.Elements.All-set, List.Elements.All-get_or, List.Elements.Contains-append_left, List.Elements.Contains-append_right, List.Elements.Contains-append_cases, Bool.cases_eq}
use Rattle.nmgc_limits.specs.declared.mutators.TheConstants.{REGISTERS}
use Rattle.nmgc_world_spec.specs.{declared.value.Name.Name, declared.value.Value.Value, declared.mutator_state.MutatorState.MutatorState, declared.command.Command.Command, declared.command.Reply.Reply, World.World, World.state_of, World.node_of, World.with_register, Known.IsWorld, Known.IsKnown, Reach.IsLive}
use Rattle.nmgc_world_spec.specs.declared.value.Value.TheVariants as value
use Rattle.nmgc_world_laws.specs.{Holds.Names, laws.Worlds.holding_keeps}
use Rattle.nmgc_snapshot_laws.specs.{State.State, Facts.MayHold, Facts.Facts}
use Rattle.nmgc_barrier_laws.specs.{declared.debt.Debt.Debt, Cycle.Cycle, Cycle.Owes, Barrier.names_in, laws.Tied.listed_debt, laws.Tied.debt_listed, laws.TiedPush.live_same, laws.Veil.shown_names, laws.HybridCommand.veiled, laws.HybridFacts.moved_facts, laws.HybridTied.IsTiedIn, laws.HybridTied.IsIn, laws.HybridTied.shown_in}
use Rattle.nmgc_barrier_laws.specs.laws.HandedOver.{same_state, other_state, put_nodes, put_queue, put_node}
use Rattle.nmgc_barrier_laws.specs.Hybrid.{Hybrid, is_scanned, names_kept, MayReturn, IsPutBack, IsWatchedIn, after_putting}

-- a name that was opened or remembered, or is due, is among the kept names, and the other way round
pub in_kept : (h : Cycle) (name : Name) → IsIn h name → Contains (names_kept h) name
in_kept h name (inl a) = Contains-append_left h.opened (h.remembered ++ names_in h.debts) name a
in_kept h name (inr (inl b)) =
    Contains-append_right h.opened (h.remembered ++ names_in h.debts) name (Contains-append_left h.remembered (names_in h.debts) name b)
in_kept h name (inr (inr o)) =
    Contains-append_right h.opened (h.remembered ++ names_in h.debts) name (Contains-append_right h.remembered (names_in h.debts) name
    (subst (λ (y : Name). Contains (names_in h.debts) y) o.2 (listed_debt h.debts o.0 o.1)))

pub kept_in : (h : Cycle) (name : Name) → Contains (names_kept h) name → IsIn h name
kept_in h name c = elim (Contains-append_cases h.opened (h.remembered ++ names_in h.debts) name c) [
  | inl a ↦ inl a
  | inr r ↦ elim (Contains-append_cases h.remembered (names_in h.debts) name r) [ inl b ↦ inr (inl b) | inr d ↦ inr (inr (debt_listed h.debts name d)) ]
]

-- a cycle and a state that are tied: a name may return exactly if it may be held
module _ (h : Hybrid) (s : State) (t : IsTiedIn h s) (name : Name) where
  pub may_hold : MayReturn h name → MayHold s name
  may_hold k there =
      live_same s.snapshot (names_kept h.watch) s.opened (λ n is c. (t.opened n is).1 (kept_in h.watch n c)) name
      (subst (λ (u : World). IsLive u (names_kept h.watch) name) (sym t.snapshot) (k (subst (λ (u : World). IsSome (node_of u name)) t.snapshot there)))

  pub may_return : MayHold s name → MayReturn h name
  may_return k there =
      subst (λ (u : World). IsLive u (names_kept h.watch) name) t.snapshot
      (live_same s.snapshot s.opened (names_kept h.watch) (λ n is c. in_kept h.watch n ((t.opened n is).0 c)) name
      (k (subst (λ (u : World). IsSome (node_of u name)) (sym t.snapshot) there)))

-- a value is put back
module _ (h next : Hybrid) (s : State) (t : IsTiedIn h s) (m r : ℕ) (v : Value) (w : IsPutBack h m r v next) where
  abbrev after : State
  after = after_putting s m r v

  place : m < length s.world.mutators
  place = subst (λ (u : World). m < length u.mutators) (sym t.world) w.mutator

  -- the names in a register that is shown may be held
  shown_may : (k : ℕ) → shown_in h k ≡ true → All (Names (MayHold s)) (state_of s.world k).registers
  shown_may k is = shown_names (MayHold s) (shown_in h) s.world k is (t.facts.base.holds.registers k)

  value_may : shown_in h m ≡ true → (y : Value) → v ≡ y → Names (MayHold s) y
  value_may seen value.Nil e = tt
  value_may seen (value.Number n) e = tt
  value_may seen (value.Ref name) e = may_hold h s t name (w.returns seen name e)

  hold : (k : ℕ) → shown_in h k ≡ true → All (Names (MayHold s)) (state_of after.world k).registers
  hold k is = elim (cases_eq k m) [
    | inl e ↦
        let seen : shown_in h m ≡ true = subst (λ (j : ℕ). shown_in h j ≡ true) e is in
        subst (λ (j : ℕ). All (Names (MayHold s)) (state_of after.world j).registers) (sym e)
        (subst (λ (q : MutatorState). All (Names (MayHold s)) q.registers) (sym (same_state s.world m r v place))
        (All-set (Names (MayHold s)) (state_of s.world m).registers r v (value_may seen v refl) (shown_may m seen)))
    | inr ne ↦ subst (λ (q : MutatorState). All (Names (MayHold s)) q.registers) (sym (other_state s.world m r v place k ne)) (shown_may k is)
  ]

  after_facts : Facts (veiled (shown_in h) after)
  after_facts = moved_facts s (shown_in h) (shown_in h) after.world (put_node s.world m r v place) (length-set s.world.mutators m _)
      (λ k. ap length (put_nodes s.world m r v place k)) (put_queue s.world m r v place) t.facts hold

  next_scanned : next.scanned ≡ h.scanned
  next_scanned = ap (λ (y : Hybrid). y.scanned) w.rest

  pub put_tied : IsTiedIn next after
  put_tied = record {
    facts = subst (λ (l : List Bool). Facts (veiled (λ k. get_or l k false) after)) (sym next_scanned) after_facts;
    closed = holding_keeps s.world m r v t.closed place (subst (λ (u : World). IsKnown u v) (sym t.world) w.known);
    is_open = t.is_open;
    world = ap (λ (u : World). with_register u m r v) t.world ∙ sym (ap (λ (y : Hybrid). y.watch.world) w.rest);
    snapshot = t.snapshot ∙ sym (ap (λ (y : Hybrid). y.watch.snapshot) w.rest);
    finalised = t.finalised ∙ sym (ap (λ (y : Hybrid). y.watch.finalised) w.rest);
    opened = λ name there. subst (λ (y : Hybrid). Contains s.opened name ↔ IsIn y.watch name) (sym w.rest) (t.opened name there);
    remembered = λ name k there. t.remembered name (subst (λ (y : Hybrid). Contains y.watch.remembered name) w.rest k) there;
    only = λ k name c. subst (λ (y : Hybrid). Owes y.watch name) (sym w.rest) (t.only k name c);
  }

-- a later state of a cycle, after commands: the same mutators are scanned, and nothing was paid
pub record IsOnward (h next : Hybrid) : Type 0 where
  pub snapshot : next.watch.snapshot ≡ h.watch.snapshot
  pub scanned : next.scanned ≡ h.scanned
  pub more : (name : Name) → IsIn h.watch name → IsIn next.watch name

pub onward_same : (h : Hybrid) → IsOnward h h
onward_same h = record { snapshot = refl; scanned = refl; more = λ name k. k }

pub onward_then : (h next last : Hybrid) → IsOnward h next → IsOnward next last → IsOnward h last
onward_then h next last a b = record {
  snapshot = b.snapshot ∙ a.snapshot;
  scanned = b.scanned ∙ a.scanned;
  more = λ name k. b.more name (a.more name k);
}

pub onward_command : (h next : Hybrid) (line m : ℕ) (c : Command) (answer : Reply) → IsWatchedIn h line m c answer next → IsOnward h next
onward_command h next line m c answer w = record {
  snapshot = ap (λ (y : Hybrid). y.watch.snapshot) w.rest;
  scanned = ap (λ (y : Hybrid). y.scanned) w.rest;
  more = λ name k. elim k [
    | inl a ↦ inl ((w.opened name).1 (inl a))
    | inr (inl b) ↦ inr (inl (subst (λ (y : Hybrid). Contains y.watch.remembered name) (sym w.rest) b))
    | inr (inr o) ↦ inr (inr (o.0, w.old o.0 o.1, o.2))
  ];
}

pub onward_put : (h next : Hybrid) (m r : ℕ) (v : Value) →
    next ≡ record h { watch = record h.watch { world = with_register h.watch.world m r v } } → IsOnward h next
onward_put h next m r v rest = record {
  snapshot = ap (λ (y : Hybrid). y.watch.snapshot) rest;
  scanned = ap (λ (y : Hybrid). y.scanned) rest;
  more = λ name k. subst (λ (y : Hybrid). IsIn y.watch name) (sym rest) k;
}

-- a name that may return may return later, too
pub return_later : (h next : Hybrid) (name : Name) → IsOnward h next → MayReturn h name → MayReturn next name
return_later h next name o k there =
    subst (λ (u : World). IsLive u (names_kept next.watch) name) (sym o.snapshot)
    (live_same h.watch.snapshot (names_kept h.watch) (names_kept next.watch) (λ n is c. in_kept next.watch n (o.more n (kept_in h.watch n c))) name
    (k (subst (λ (u : World). IsSome (node_of u name)) o.snapshot there)))

-- a name in a register of a scanned mutator may return
pub held_returns : (h : Hybrid) (s : State) → IsTiedIn h s → (m r : ℕ) → m < length h.watch.world.mutators → r < REGISTERS → is_scanned h m ≡ true →
    (name : Name) → get_or (state_of h.watch.world m).registers r value.Nil ≡ value.Ref name → MayReturn h name
held_returns h s t m r lt fits seen name is =
    let shown : All (Names (MayHold s)) (state_of s.world m).registers = shown_names (MayHold s) (shown_in h) s.world m seen (t.facts.base.holds.registers m) in
    let here : m < length s.world.mutators = subst (λ (u : World). m < length u.mutators) (sym t.world) lt in
    let count : length (state_of s.world m).registers ≡ REGISTERS = t.closed.registers m here in
    let item : Names (MayHold s) (get_or (state_of s.world m).registers r value.Nil) =
    All-get_or (Names (MayHold s)) (state_of s.world m).registers r value.Nil (omega (arith, fits, count)) shown in
    let same : get_or (state_of s.world m).registers r value.Nil ≡ value.Ref name =
    subst (λ (u : World). get_or (state_of u m).registers r value.Nil ≡ value.Ref name) (sym t.world) is in
    may_return h s t name (subst (Names (MayHold s)) same item)
