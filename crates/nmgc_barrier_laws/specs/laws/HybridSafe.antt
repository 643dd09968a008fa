-- Nothing is lost if all mutators are scanned and nothing is due: reachable names are live by the names opened and
-- remembered. And scans of all mutators at the mark give the roots of a cycle with one snapshot.
use Rattle.std.proofs.Common.{◌≡◌, ◌<◌, ℕ, List, [], ◌∷◌, ◌++◌, length, get_or, refl, sym, ap, subst, ◌∙◌, ◌≤◌, arith, Option, Some, None, Bool, true, false, inl, inr}
use Rattle.std.specs.Prelude.{IsSome, Contains, All, ◌↔◌}
use Rattle.std.proofs.{lemmas.List.get_or_past, lemmas.List.Elements.All-nil, lemmas.List.Elements.All-append, lemmas.List.Elements.All-contains, lemmas.List.Elements.Contains-append_left, lemmas.List.Elements.Contains-append_right, lemmas.List.Elements.Contains-append_cases, lemmas.Bool.cases_lt}
use Rattle.nmgc_limits.specs.declared.mutators.TheConstants.{REGISTERS}
use Rattle.nmgc_world_spec.specs.{declared.value.Name.Name, declared.value.Value.Value, declared.node.Parts.Parts, declared.node.Node.Node, declared.node.Node.TheVariants.Weak, declared.mutator_state.MutatorState.MutatorState}
use Rattle.nmgc_world_spec.specs.declared.value.Value.TheVariants as value
use Rattle.nmgc_world_spec.specs.{World.World, World.state_of, World.node_of, World.no_mutator, Known.IsWorld, Known.IsKnown, Known.IsNodeOf}
use Rattle.nmgc_world_spec.specs.Reach.{IsLive, IsRoot, IsAlive, IsPlain, IsKeptBy, IsKept, IsDead, RefersTo, strong_fields}
use Rattle.nmgc_world_spec.specs.Reach as reach
use Rattle.nmgc_lists.specs.laws.Items.{at_some, nothing_in, map_contains, contains_head}
use Rattle.nmgc_world_laws.specs.{Holds.Names, Holds.Fields, laws.HeldSteps.absent}
use Rattle.nmgc_snapshot_laws.specs.{State.State, State.opening, Facts.MayHold, Facts.AsThen, Facts.Facts, laws.Lives.root_there}
use Rattle.nmgc_barrier_laws.specs.{declared.debt.Debt.Debt, Barrier.names_in, Barrier.after_pushing, laws.TiedPush.live_same, laws.Veil.hide_length, laws.Veil.hidden_state, laws.Veil.hidden_node, laws.Veil.hidden_queue, laws.Veil.shown_names, laws.HybridCommand.veiled, laws.HybridTied.IsTiedIn, laws.HybridTied.shown_in, laws.HybridBeside.beside_tied, laws.PutBack.held_returns}
use Rattle.nmgc_barrier_laws.specs.Hybrid.{Hybrid, veil, hidden, bare, is_scanned, MayReturn, WatchesIn, BesideIn, AreScanned, held_names, opening_in, after_owing_in, after_handing, after_putting, after_scanning, HybridSafetyTheorem, ScansAtOnceAreRoots, SomeMarkerIsBesideIn}
use Rattle.nmgc_barrier_laws.specs.Hybrid as hybrid

-- the key of a weak pointer that is alive is in the map
key_there : (w : World) → IsWorld w → (weak key : Name) (parts : Parts) → IsAlive w weak parts → parts.key ≡ value.Ref key → IsSome (node_of w key)
key_there w h weak key parts alive e =
    let node : IsNodeOf w (Weak (Some parts)) = at_some (node_of w weak) (Weak (Some parts)) (IsNodeOf w) alive (h.nodes weak) in
    subst (IsKnown w) e (All-contains (IsKnown w) (parts.key ∷ parts.value ∷ parts.finaliser ∷ []) parts.key node.known
    (contains_head parts.key (parts.value ∷ parts.finaliser ∷ [])))

-- names that are live in the world may be held, if all names in registers may
module _ (shown : ℕ → Bool) (s : State) (f : Facts (veiled shown s)) (all : (k : ℕ) → All (Names (MayHold s)) (state_of s.world k).registers) where
  value_may : (v : Value) (name : Name) → v ≡ value.Ref name → Names (MayHold s) v → MayHold s name
  value_may v name e h = subst (Names (MayHold s)) e h

  root_may : (name : Name) → IsRoot s.world name → MayHold s name
  root_may name (inl g) = λ there. reach.root name (inl g)
  root_may name (inr (k, c)) = All-contains (Names (MayHold s)) ((state_of s.world k).registers ++ (state_of s.world k).queue) (value.Ref name)
      (All-append (Names (MayHold s)) (state_of s.world k).registers (state_of s.world k).queue (all k)
      (subst (All (Names (MayHold s))) (hidden_queue shown s.world k) (f.base.holds.queues k))) c

  -- the names that a weak pointer keeps: unchanged since the snapshot, or the weak pointer is new
  kept_may : (weak target : Name) (parts : Parts) → IsAlive s.world weak parts → IsKeptBy weak parts target →
      ((t : Name) → IsAlive s.snapshot weak parts → IsKeptBy weak parts t → IsLive s.snapshot s.opened t) → MayHold s target
  kept_may weak target parts a kept then = by_node (node_of s.snapshot weak) refl
    where
      a' : AsThen s.snapshot (MayHold s) weak parts
      a' = f.base.weaks weak parts (hidden_node shown s.world weak ∙ a)

      new_part : (gone : IsSome (node_of s.snapshot weak) → ⊥) → IsKeptBy weak parts target → MayHold s target
      new_part gone (inl e) = λ there. absurd (gone (subst (λ (n : Name). IsSome (node_of s.snapshot n)) e there))
      new_part gone (inr (inl e)) = value_may parts.value target e (a'.new gone).1
      new_part gone (inr (inr e)) = value_may parts.finaliser target e (a'.new gone).2

      by_node : (o : Option Node) → node_of s.snapshot weak ≡ o → MayHold s target
      by_node None e = new_part (λ there. absent (node_of s.snapshot weak) e there) kept
      by_node (Some node) e = λ there. then target (a'.old (subst (λ (o : Option Node). IsSome o) (sym e) refl)) kept

  pub live_may : (name : Name) → IsLive s.world [] name → MayHold s name
  live_may name (reach.root n r) = root_may n r
  live_may name (reach.further n c there) = absurd (nothing_in n c)
  live_may name (reach.field n target l r) =
      All-contains (Names (MayHold s)) (strong_fields r.0) (value.Ref target)
      (at_some (node_of (hidden shown s.world) n) r.0 (Fields (Names (MayHold s))) (hidden_node shown s.world n ∙ r.1)
      (f.base.holds.fields n (live_may n l))) r.2
  live_may name (reach.plain_key weak target parts alive plain kept) =
      kept_may weak target parts alive kept (λ t old k. reach.plain_key weak t parts old plain k)
  live_may name (reach.live_key weak target key parts alive is l kept) =
      kept_may weak target parts alive kept (λ t old k. reach.live_key weak t key parts old is
      (live_may key l (key_there s.snapshot f.base.snapshot weak key parts old is)) k)

-- the marker that takes and reads nothing
pub some_marker_in : SomeMarkerIsBesideIn
some_marker_in w is h hybrid.begun = (opening_in w, hybrid.start)
some_marker_in w is h hybrid.begun_at_once = (opening w, hybrid.start_at_once)
some_marker_in w is h (hybrid.handed before next line m v n r h' k) = let p : (s : State) × BesideIn w before s = some_marker_in w is before h' in
    (after_handing p.0 m v n r (names_in next.watch.debts), hybrid.give before next p.0 line m v n r p.1 k)
some_marker_in w is h (hybrid.put_back before next m r v h' k) = let p : (s : State) × BesideIn w before s = some_marker_in w is before h' in
    (after_putting p.0 m r v, hybrid.put before next p.0 m r v p.1 k)
some_marker_in w is h (hybrid.given before next line m c answer h' k) = let p : (s : State) × BesideIn w before s = some_marker_in w is before h' in
    (after_owing_in p.0 m c (names_in next.watch.debts), hybrid.command before next p.0 line m c answer p.1 k)
some_marker_in w is h (hybrid.scanned before next m h' k) =
    let p : (s : State) × BesideIn w before s = some_marker_in w is before h' in
    let t = beside_tied w is before p.0 p.1 in
    let place : m < length p.0.pushed = let a : length p.0.pushed ≡ length (hidden (shown_in before) p.0.world).mutators = t.facts.base.pushed_lists in
    let b : length (hidden (shown_in before) p.0.world).mutators ≡ length p.0.world.mutators = hide_length (shown_in before) p.0.world.mutators in
    let d : length p.0.world.mutators ≡ length before.watch.world.mutators = ap (λ (v : World). length v.mutators) t.world in
    let c : m < length before.watch.world.mutators = k.mutator in omega arith in
    (after_scanning p.0 m (held_names before.watch.world m), hybrid.hand before next p.0 m p.1 k place)
some_marker_in w is h (hybrid.pushed before next name h' k) =
    let p : (s : State) × BesideIn w before s = some_marker_in w is before h' in
    let t = beside_tied w is before p.0 p.1 in
    let place : 0 < length p.0.pushed = let a : length p.0.pushed ≡ length (hidden (shown_in before) p.0.world).mutators = t.facts.base.pushed_lists in
    let b : length (hidden (shown_in before) p.0.world).mutators ≡ length p.0.world.mutators = hide_length (shown_in before) p.0.world.mutators in
    let c : 1 ≤ length p.0.world.mutators = t.closed.some in omega arith in
    (after_pushing p.0 0 name next.watch.debts, hybrid.push before next p.0 0 name p.1 k place)
some_marker_in w is h (hybrid.taken before next name h' k) = let p : (s : State) × BesideIn w before s = some_marker_in w is before h' in
    (p.0, hybrid.take before next p.0 name p.1 k)

-- if all mutators are scanned, all names in registers may be held
shown_all : (h : Hybrid) (s : State) → IsTiedIn h s → AreScanned h → (k : ℕ) → All (Names (MayHold s)) (state_of s.world k).registers
shown_all h s t scanned k = elim (cases_lt k (length s.world.mutators)) [
  | inl lt ↦ shown_names (MayHold s) (shown_in h) s.world k (scanned k (subst (λ (v : World). k < length v.mutators) t.world lt))
      (t.facts.base.holds.registers k)
  | inr le ↦ subst (λ (m : MutatorState). All (Names (MayHold s)) m.registers) (sym (get_or_past s.world.mutators k no_mutator le)) (All-nil (Names (MayHold s)))
]

pub hybrid_safety : HybridSafetyTheorem
hybrid_safety w is h watches scanned none name live there =
    let p : (s : State) × BesideIn w h s = some_marker_in w is h watches in
    let s : State = p.0 in
    let t : IsTiedIn h s = beside_tied w is h s p.1 in
    let may : MayHold s name = live_may (shown_in h) s t.facts (λ k. shown_all h s t scanned k) name
    (subst (λ (v : World). IsLive v [] name) (sym t.world) live) in
    let l : IsLive s.snapshot s.opened name = may (subst (λ (v : World). IsSome (node_of v name)) (sym t.snapshot) there) in
    subst (λ (v : World). IsLive v (h.watch.opened ++ h.watch.remembered) name) t.snapshot
    (live_same s.snapshot s.opened (h.watch.opened ++ h.watch.remembered) (λ n k c. elim ((t.opened n k).0 c) [
      | inl o ↦ Contains-append_left h.watch.opened h.watch.remembered n o
      | inr (inl r) ↦ Contains-append_right h.watch.opened h.watch.remembered n r
      | inr (inr o) ↦ absurd (nothing_in o.0 (subst (λ (d : List Debt). Contains d o.0) none o.1))
    ]) name l)

-- a cycle in which all mutators are scanned at the mark
module _ (w : World) (held extra : List Name) (holds : (name : Name) → IsSome (node_of w name) →
    Contains held name ↔ ((m : ℕ) × Contains (state_of w m).registers (value.Ref name))) (is : IsWorld w) where
  abbrev B : World
  B = bare w

  node_back : (name : Name) → node_of B name ≡ node_of w name
  node_back name = hidden_node (λ k. false) w name

  blank : (state : MutatorState) (name : Name) → Contains (veil false state).registers (value.Ref name) → ⊥
  blank state name c =
      let p : (x : Value) × Contains state.registers x × (value.Ref name ≡ value.Nil) =
      map_contains (λ (v : Value). value.Nil) state.registers (value.Ref name) c in
      let bad : value.Ref name ≡ value.Nil = p.2 in absurd cc

  bare_root : (name : Name) → IsRoot B name → IsRoot w name
  bare_root name (inl g) = inl g
  bare_root name (inr (k, c)) = elim (Contains-append_cases (state_of B k).registers (state_of B k).queue (value.Ref name) c) [
    | inl r ↦ absurd (blank (state_of w k) name (subst (λ (s : MutatorState). Contains s.registers (value.Ref name)) (hidden_state (λ j. false) w k) r))
    | inr q ↦ inr (
      k,
      Contains-append_right (state_of w k).registers (state_of w k).queue (value.Ref name)
          (subst (λ (l : List Value). Contains l (value.Ref name)) (hidden_queue (λ j. false) w k) q),
    )
  ]

  bare_live : (name : Name) → IsLive B (held ++ extra) name → IsLive w extra name
  bare_live name (reach.root n r) = reach.root n (bare_root n r)
  bare_live name (reach.further n c there) =
      let here : IsSome (node_of w n) = subst (λ (o : Option Node). IsSome o) (node_back n) there in
      elim (Contains-append_cases held extra n c) [
        | inl a ↦ let p : (m : ℕ) × Contains (state_of w m).registers (value.Ref n) = (holds n here).0 a in
            reach.root n (inr (p.0, Contains-append_left (state_of w p.0).registers (state_of w p.0).queue (value.Ref n) p.1))
        | inr b ↦ reach.further n b here
      ]
  bare_live name (reach.field n target l r) = reach.field n target (bare_live n l) (r.0, sym (node_back n) ∙ r.1, r.2)
  bare_live name (reach.plain_key weak target parts alive plain kept) = reach.plain_key weak target parts (sym (node_back weak) ∙ alive) plain kept
  bare_live name (reach.live_key weak target key parts alive e l kept) =
      reach.live_key weak target key parts (sym (node_back weak) ∙ alive) e (bare_live key l) kept

  live_bare : (name : Name) → IsLive w extra name → IsLive B (held ++ extra) name
  live_bare name (reach.root n (inl g)) = reach.root n (inl g)
  live_bare name (reach.root n (inr (k, c))) = elim (Contains-append_cases (state_of w k).registers (state_of w k).queue (value.Ref n) c) [
    | inl r ↦ let here : IsSome (node_of w n) = root_there w is n (inr (k, c)) in
        reach.further n (Contains-append_left held extra n ((holds n here).1 (k, r))) (subst (λ (o : Option Node). IsSome o) (sym (node_back n)) here)
    | inr q ↦ reach.root n (inr (
      k,
      Contains-append_right (state_of B k).registers (state_of B k).queue (value.Ref n)
          (subst (λ (l : List Value). Contains l (value.Ref n)) (sym (hidden_queue (λ j. false) w k)) q),
    ))
  ]
  live_bare name (reach.further n c there) =
      reach.further n (Contains-append_right held extra n c) (subst (λ (o : Option Node). IsSome o) (sym (node_back n)) there)
  live_bare name (reach.field n target l r) = reach.field n target (live_bare n l) (r.0, node_back n ∙ r.1, r.2)
  live_bare name (reach.plain_key weak target parts alive plain kept) = reach.plain_key weak target parts (node_back weak ∙ alive) plain kept
  live_bare name (reach.live_key weak target key parts alive e l kept) =
      reach.live_key weak target key parts (node_back weak ∙ alive) e (live_bare key l) kept

  module _ (finalised : List Name) where
    abbrev bare_dead : (weak : Name) → IsDead B (held ++ extra) finalised weak → IsDead w extra finalised weak
    bare_dead weak d = record {
      parts = d.parts;
      alive = sym (node_back weak) ∙ d.alive;
      not_finalised = d.not_finalised;
      key = d.key;
      key_is = d.key_is;
      lost = λ l. d.lost (live_bare d.key l);
    }

    abbrev dead_bare : (weak : Name) → IsDead w extra finalised weak → IsDead B (held ++ extra) finalised weak
    dead_bare weak d = record {
      parts = d.parts;
      alive = node_back weak ∙ d.alive;
      not_finalised = d.not_finalised;
      key = d.key;
      key_is = d.key_is;
      lost = λ l. d.lost (bare_live d.key l);
    }

    bare_kept : (name : Name) → IsKept B (held ++ extra) finalised name → IsKept w extra finalised name
    bare_kept name (IsKept.live n l) = IsKept.live n (bare_live n l)
    bare_kept name (IsKept.finaliser weak target d e) = IsKept.finaliser weak target (bare_dead weak d) e
    bare_kept name (IsKept.field n target k r) = IsKept.field n target (bare_kept n k) (r.0, sym (node_back n) ∙ r.1, r.2)

    kept_bare : (name : Name) → IsKept w extra finalised name → IsKept B (held ++ extra) finalised name
    kept_bare name (IsKept.live n l) = IsKept.live n (live_bare n l)
    kept_bare name (IsKept.finaliser weak target d e) = IsKept.finaliser weak target (dead_bare weak d) e
    kept_bare name (IsKept.field n target k r) = IsKept.field n target (kept_bare n k) (r.0, node_back n ∙ r.1, r.2)

pub at_once : ScansAtOnceAreRoots
at_once w held extra finalised holds is name =
    (λ k. bare_kept w held extra holds is finalised name k, λ k. kept_bare w held extra holds is finalised name k)

-- a name in a register of a scanned mutator may return to it
pub held_may_return : (w : World) → IsWorld w → (h : Hybrid) → WatchesIn w h → (m r : ℕ) → m < length h.watch.world.mutators → r < REGISTERS →
    is_scanned h m ≡ true → (name : Name) → get_or (state_of h.watch.world m).registers r value.Nil ≡ value.Ref name → MayReturn h name
held_may_return w is h watches m r lt fits seen name held =
    let p : (s : State) × BesideIn w h s = some_marker_in w is h watches in
    held_returns h p.0 (beside_tied w is h p.0 p.1) m r lt fits seen name held
