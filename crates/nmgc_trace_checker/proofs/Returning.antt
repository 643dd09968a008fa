-- The registers that a line borrows get values back that their mutator may hold.
use Rattle.std.proofs.Common.{length-set}
use Rattle.nmgc_trace_checker.proofs.Vocabulary.{◌≡◌, ◌<◌, ◌∙◌, inl, inr, ℕ, Option, refl, sym, ap, subst, Bool, true, false, List, [], ◌∷◌, length, get_or, ltb, REGISTERS, World, IsWorld, step, Hybrid, WatchesIn, is_scanned, Watch, CanAct, AreDone}
use Rattle.std.specs.Prelude.{IsSome, if◌then◌else◌}
use Rattle.std.proofs.lemmas.{Bool.cases_lt, Bool.ltb-true, List.get_or_past}
use Rattle.nmgc_world_spec.specs.{declared.node.Node.Node, declared.value.Name.Name, declared.value.Value.Value, World.node_of, World.with_register, Known.AreKnown, Known.IsKnown}
use Rattle.nmgc_world_spec.specs.declared.value.Value.TheVariants as value
use Rattle.nmgc_world_laws.specs.laws.{Growth.step_grows, Worlds.holding_keeps}
use Rattle.nmgc_barrier_laws.specs.{Hybrid.IsPutBack, Hybrid.IsWatchedIn, Hybrid.MayReturn, laws.HandedOver.put_node, laws.HybridSafe.held_may_return, laws.PutBack.IsOnward, laws.PutBack.onward_command, laws.PutBack.onward_put, laws.PutBack.return_later}
use Rattle.nmgc_barrier_laws.specs.Hybrid as hybrid
use Rattle.nmgc_barrier_checker.specs.{declared.rows.Task.Task, Watching.mutators_of, Watching.put, Watching.put_back, Watching.registers_in, Watching.with_value}
use Rattle.nmgc_barrier_checker.specs.declared.watch.Watch.TheVariants as watch

-- a cycle that began with a closed world, whose world is closed
pub record Stood (h : Hybrid) : Type 0 where
  pub begins : World
  pub is : IsWorld begins
  pub watches : WatchesIn begins h
  pub world : IsWorld h.watch.world

abbrev pub Stands : Watch → Type 0
Stands (watch.Between w) = IsWorld w
Stands (watch.Marking h) = Stood h
Stands (watch.Ended left) = IsWorld left.world
Stands watch.Stopped = Unit {0}

-- a world has the mutator, and knows values
record Knows (w : World) (m : ℕ) (held : List Value) : Type 0 where
  mutator : m < length w.mutators
  known : AreKnown w held

-- more names in a world know the same values
grown : (w u : World) → ((n : Name) → IsSome (node_of w n) → IsSome (node_of u n)) → (v : Value) → IsKnown w v → IsKnown u v
grown w u names value.Nil k = tt
grown w u names (value.Number n) k = tt
grown w u names (value.Ref name) k = names name k

knows_more : (w u : World) (m : ℕ) (held : List Value) → length u.mutators ≡ length w.mutators →
    ((n : Name) → IsSome (node_of w n) → IsSome (node_of u n)) → Knows w m held → Knows u m held
knows_more w u m held count names k = record {
  mutator = subst (λ (n : ℕ). m < n) (sym count) k.mutator;
  known = λ i d lt. grown w u names (get_or held i d) (k.known i d lt);
}

-- one of the values is known; beyond the list it is nil
item_known : (w : World) (m : ℕ) (held : List Value) (r : ℕ) → Knows w m held → IsKnown w (get_or held r value.Nil)
item_known w m held r k = elim (cases_lt r (length held)) [
  | inl lt ↦ k.known r value.Nil lt
  | inr le ↦ subst (IsKnown w) (sym (get_or_past held r value.Nil le)) tt
]

-- a cycle has the mutator and knows the values. If the mutator is scanned, it may hold the values of registers again
record Holds (h : Hybrid) (m : ℕ) (held : List Value) : Type 0 where
  knows : Knows h.watch.world m held
  returns : is_scanned h m ≡ true → (r : ℕ) → r < REGISTERS → (name : Name) → get_or held r value.Nil ≡ value.Ref name → MayReturn h name

abbrev MayHave : List Value → ℕ → Watch → Type 0
MayHave held m (watch.Between w) = Knows w m held
MayHave held m (watch.Marking h) = Holds h m held
MayHave held m (watch.Ended left) = Knows left.world m held
MayHave held m watch.Stopped = Unit {0}

-- a mutator may have the values in its registers
has : (m : ℕ) (p : Watch) → m < mutators_of p → Stands p → MayHave (registers_in m p) m p
has m (watch.Between w) lt t = record { mutator = lt; known = t.known_registers m }
has m (watch.Marking h) lt t = record {
  knows = record { mutator = lt; known = t.world.known_registers m };
  returns = λ seen r fits name e. held_may_return t.begins t.is h t.watches m r lt fits seen name e;
}
has m (watch.Ended left) lt t = record { mutator = lt; known = t.known_registers m }
has m watch.Stopped lt t = tt

-- later states of a cycle
holds_later : (h next : Hybrid) (m : ℕ) (held : List Value) → IsOnward h next → length next.watch.world.mutators ≡ length h.watch.world.mutators →
    ((n : Name) → IsSome (node_of h.watch.world n) → IsSome (node_of next.watch.world n)) → Holds h m held → Holds next m held
holds_later h next m held o count names k = record {
  knows = knows_more h.watch.world next.watch.world m held count names k.knows;
  returns = λ seen r fits name e. return_later h next name o (k.returns (subst (λ (l : List Bool). get_or l m false ≡ true) o.scanned seen) r fits name e);
}

-- a mutator may have the same values after a task
has_after : (n m : ℕ) (k : Task) (held : List Value) (q after : Watch) → CanAct n m k q after → MayHave held m q → MayHave held m after
has_after n m k held (watch.Between w) after can h =
    subst (MayHave held m) (sym can.2) (subst (λ (u : World). Knows u m held) (sym can.1.2)
    (knows_more w (step w m k.command).0 m held (step_grows w m k.command h.mutator).mutators (step_grows w m k.command h.mutator).names h))
has_after n m k held (watch.Marking x) after can h =
    let next : Hybrid = can.0 in
    let w : IsWatchedIn x n m k.command (step x.watch.world m k.command).1 next = can.1 in
    let g = step_grows x.watch.world m k.command h.knows.mutator in
    subst (MayHave held m) (sym can.3) (holds_later x next m held (onward_command x next n m k.command (step x.watch.world m k.command).1 w)
    (ap (λ (y : Hybrid). length y.watch.world.mutators) w.rest ∙ g.mutators)
    (λ name there. subst (λ (y : Hybrid). IsSome (node_of y.watch.world name)) (sym w.rest) (g.names name there)) h)
has_after n m k held (watch.Ended left) after can h =
    subst (MayHave held m) (sym can.2) (subst (λ (u : World). Knows u m held) (sym can.1.2)
    (knows_more left.world (step left.world m k.command).0 m held (step_grows left.world m k.command h.mutator).mutators
    (step_grows left.world m k.command h.mutator).names h))
has_after n m k held watch.Stopped after can h = absurd can

has_later : (n m : ℕ) (ks : List Task) (held : List Value) (q after : Watch) → AreDone n m ks q after → MayHave held m q → MayHave held m after
has_later n m [] held q after d h = subst (MayHave held m) (sym d) h
has_later n m (k ∷ ks) held q after d h = has_later n m ks held d.0 after d.2 (has_after n m k held q d.0 d.1 h)

-- a value goes back into a register
abbrev placed : Bool → World → ℕ → ℕ → Value → World
placed b w m r v = if b then with_register w m r v else w

placed_world : (b : Bool) (w : World) (m r : ℕ) (v : Value) → IsWorld w → m < length w.mutators → IsKnown w v → IsWorld (placed b w m r v)
placed_world true w m r v is lt known = holding_keeps w m r v is lt known
placed_world false w m r v is lt known = is

placed_count : (b : Bool) (w : World) (m r : ℕ) (v : Value) → length (placed b w m r v).mutators ≡ length w.mutators
placed_count true w m r v = length-set w.mutators m _
placed_count false w m r v = refl

placed_names : (b : Bool) (w : World) (m r : ℕ) (v : Value) → m < length w.mutators → (n : Name) → IsSome (node_of w n) → IsSome (node_of (placed b w m r v) n)
placed_names true w m r v lt n k = subst (λ (o : Option Node). IsSome o) (sym (put_node w m r v lt n)) k
placed_names false w m r v lt n k = k

abbrev placing : Bool → Hybrid → ℕ → ℕ → Value → Hybrid
placing b h m r v = record h { watch = record h.watch { world = placed b h.watch.world m r v } }

placed_onward : (b : Bool) (h : Hybrid) (m r : ℕ) (v : Value) → IsOnward h (placing b h m r v)
placed_onward true h m r v = onward_put h (placing true h m r v) m r v refl
placed_onward false h m r v = record { snapshot = refl; scanned = refl; more = λ name k. k }

placed_watches : (b : Bool) (h : Hybrid) (m r : ℕ) (v : Value) (w : World) → WatchesIn w h → (b ≡ true → IsPutBack h m r v (placing true h m r v)) →
    WatchesIn w (placing b h m r v)
placed_watches true h m r v w watches put = hybrid.put_back h (placing true h m r v) m r v watches (put refl)
placed_watches false h m r v w watches put = watches

module _ (held : List Value) (m r : ℕ) where
  abbrev v : Value
  v = get_or held r value.Nil

  stands_put : (q : Watch) → Stands q → MayHave held m q → Stands (put m r v q)
  stands_put (watch.Between w) t h = placed_world (ltb r REGISTERS) w m r v t h.mutator (item_known w m held r h)
  stands_put (watch.Marking x) t h = record {
    begins = t.begins;
    is = t.is;
    watches = placed_watches (ltb r REGISTERS) x m r v t.begins t.watches (λ fits. record {
      mutator = h.knows.mutator;
      known = item_known x.watch.world m held r h.knows;
      returns = λ seen name e. h.returns seen r (ltb-true r REGISTERS fits) name e;
      rest = refl;
    });
    world = placed_world (ltb r REGISTERS) x.watch.world m r v t.world h.knows.mutator (item_known x.watch.world m held r h.knows);
  }
  stands_put (watch.Ended left) t h = placed_world (ltb r REGISTERS) left.world m r v t h.mutator (item_known left.world m held r h)
  stands_put watch.Stopped t h = tt

  has_put : (q : Watch) → MayHave held m q → MayHave held m (put m r v q)
  has_put (watch.Between w) h =
      knows_more w (with_value w m r v) m held (placed_count (ltb r REGISTERS) w m r v) (placed_names (ltb r REGISTERS) w m r v h.mutator) h
  has_put (watch.Marking x) h =
      holds_later x (placing (ltb r REGISTERS) x m r v) m held (placed_onward (ltb r REGISTERS) x m r v) (placed_count (ltb r REGISTERS) x.watch.world m r v)
      (placed_names (ltb r REGISTERS) x.watch.world m r v h.knows.mutator) h
  has_put (watch.Ended left) h =
      knows_more left.world (with_value left.world m r v) m held (placed_count (ltb r REGISTERS) left.world m r v)
      (placed_names (ltb r REGISTERS) left.world m r v h.mutator) h
  has_put watch.Stopped h = tt

-- all values go back
stands_back : (held : List Value) (m : ℕ) (rs : List ℕ) (q : Watch) → Stands q → MayHave held m q → Stands (put_back m held rs q)
stands_back held m [] q t h = t
stands_back held m (r ∷ rs) q t h = stands_back held m rs (put m r (get_or held r value.Nil) q) (stands_put held m r q t h) (has_put held m r q h)

pub after_back : (n m : ℕ) (borrowed : List ℕ) (ks : List Task) (p last next : Watch) → m < mutators_of p → AreDone n m ks p last →
    next ≡ put_back m (registers_in m p) borrowed last → Stands p → Stands last → Stands next
after_back n m borrowed ks p last next lt done e before t =
    subst Stands (sym e) (stands_back (registers_in m p) m borrowed last t (has_later n m ks (registers_in m p) p last done (has m p lt before)))
