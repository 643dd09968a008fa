-- After a closing with exactly the dead weak pointers, only kept names are held.
use Rattle.std.specs.Prelude.{◌≡◌, ◌⊎◌, ◌∷◌}
use Rattle.nmgc_world_laws.specs.laws.Vocabulary.{List, [], refl, sym, ap, subst, ◌∙◌, Option, Some, None, inl, inr, IsSome, IfSome, All, Contains, All-nil, All-weaker, All-push, All-contains, Contains-append_cases, Name, Value, Parts, Node, Weak, World, IsWorld, state_of, node_of, replayed, opened, finalised, IsLive, IsKept, IsAlive, IsPlain, IsRoot, Lists, closed, closed_by, strong_fields, contains_head, contains_tail, at_some, Names, OfParts, Fields, CoversReach, IsOfWeak, HoldsOnly, IsLiveOrNew, IsNotLost, IsSound, ClosesWell, Interval, IsDeadAfter}
use Rattle.nmgc_world_spec.specs.declared.value.Value.TheVariants as value
use Rattle.nmgc_world_laws.specs.laws.{Alive.WeaksOk, HeldSteps.alive_ok, HeldSteps.alive_has, HeldSteps.absent, HeldSteps.some_of, HeldSteps.value_names, HeldSteps.values_names, HeldSteps.name_has, LiveRows.AsThen, LiveRows.LiveHeld, LiveRows.live_after, LiveRows.world_after, Deaths.Dies, Deaths.dies_by, Deaths.dies_weaks, Deaths.closed_weaks, Deaths.closed_dead, Deaths.finalised_dead}

pub same_parts : (S : World) (d : Name) (a b : Parts) → IsAlive S d a → IsAlive S d b → a ≡ b
same_parts S d a b e f = let both : Some (Weak (Some a)) ≡ Some (Weak (Some b)) = sym e ∙ f in cc

-- no statement can be undecided: that it neither holds nor fails is impossible
undecided : {A : Type 0} → ((A ⊎ (A → ⊥)) → ⊥) → ⊥
undecided f = f (inr (λ a. f (inl a)))

module _ (i : Interval) (sound : IsSound i) where
  -- the name isn't lost
  abbrev Kept : Name → Type 0
  Kept n = IsNotLost i n

  live_kept : (v : Value) → Names (IsLiveOrNew i.snapshot (opened i.snapshot i.rows)) v → Names Kept v
  live_kept value.Nil h = tt
  live_kept (value.Number n) h = tt
  live_kept (value.Ref n) h = λ there lost. lost (IsKept.live n (h there))

  lives_kept : (vs : List Value) → All (Names (IsLiveOrNew i.snapshot (opened i.snapshot i.rows))) vs → All (Names Kept) vs
  lives_kept vs h = All-weaker (Names (IsLiveOrNew i.snapshot (opened i.snapshot i.rows))) (Names Kept) live_kept vs h

  -- a world during the closing
  record Closing (w : World) : Type 0 where
    world : IsWorld w
    holds : CoversReach Kept w
    alive : WeaksOk (AsThen i.snapshot (opened i.snapshot i.rows)) w
    there : (n : Name) → IsSome (node_of i.snapshot n) → IsSome (node_of w n)

  -- the world before the first death
  begins : Closing (replayed i.snapshot i.rows)
  begins =
      let w : World = replayed i.snapshot i.rows in
      let live : LiveHeld i.snapshot (opened i.snapshot i.rows) w = live_after i.snapshot i.rows sound.world sound.rows in
      record {
        world = world_after i.snapshot i.rows sound.world sound.rows;
        holds = record {
          registers = λ k. lives_kept (state_of w k).registers (live.holds.registers k);
          queues = λ k. lives_kept (state_of w k).queue (live.holds.queues k);
          fields = λ n kept. by_node w live n kept (node_of w n) refl;
        };
        alive = live.alive;
        there = live.there;
      }
    where
      from_live : (w : World) → LiveHeld i.snapshot (opened i.snapshot i.rows) w → (n : Name) (node : Node) → node_of w n ≡ Some node →
          IsLiveOrNew i.snapshot (opened i.snapshot i.rows) n → All (Names Kept) (strong_fields node)
      from_live w live n node e may =
          lives_kept (strong_fields node) (at_some (node_of w n) node (Fields (Names (IsLiveOrNew i.snapshot (opened i.snapshot i.rows)))) e
          (live.holds.fields n may))

      may_field : (w : World) → LiveHeld i.snapshot (opened i.snapshot i.rows) w → (n : Name) (node : Node) → node_of w n ≡ Some node →
          IsLive i.snapshot (opened i.snapshot i.rows) n → (target : Name) → Contains (strong_fields node) (value.Ref target) →
          IsLiveOrNew i.snapshot (opened i.snapshot i.rows) target
      may_field w live n node e is target held =
          All-contains (Names (IsLiveOrNew i.snapshot (opened i.snapshot i.rows))) (strong_fields node) (value.Ref target)
          (at_some (node_of w n) node (Fields (Names (IsLiveOrNew i.snapshot (opened i.snapshot i.rows)))) e (live.holds.fields n (λ there. is))) held

      by_old : (w : World) → LiveHeld i.snapshot (opened i.snapshot i.rows) w → (n : Name) → Kept n → (node : Node) → node_of w n ≡ Some node →
          (o : Option Node) → node_of i.snapshot n ≡ o → All (Names Kept) (strong_fields node)
      by_old w live n kept node e None old = from_live w live n node e (λ there. absurd (absent (node_of i.snapshot n) old there))
      by_old w live n kept node e (Some before) old = values_names Kept (strong_fields node) (λ target held there lost. undecided (λ d. elim d [
        | inl is ↦ lost (IsKept.live target (may_field w live n node e is target held there))
        | inr not ↦
            let in_snapshot : IsSome (node_of i.snapshot n) = some_of (node_of i.snapshot n) before old in
            let same : node_of i.snapshot n ≡ Some node = sym (live.others n in_snapshot not) ∙ e in
            kept in_snapshot (λ k. lost (IsKept.field n target k (node, same, held)))
      ]))

      by_node : (w : World) → LiveHeld i.snapshot (opened i.snapshot i.rows) w → (n : Name) → Kept n → (o : Option Node) → node_of w n ≡ o →
          IfSome o (Fields (Names Kept))
      by_node w live n kept None e = tt
      by_node w live n kept (Some node) e = by_old w live n kept node e (node_of i.snapshot n) refl

  -- a finaliser that joins a queue is kept
  finaliser_kept : (w : World) → Closing w → (d : Name) → IsDeadAfter i d → (parts : Parts) → IsAlive w d parts → Names Kept parts.finaliser
  finaliser_kept w h d dead parts alive =
      let there : IsSome (node_of i.snapshot d) = some_of (node_of i.snapshot d) (Weak (Some dead.parts)) dead.alive in
      let then : IsAlive i.snapshot d parts = (alive_has (AsThen i.snapshot (opened i.snapshot i.rows)) w h.alive d parts alive).0 there in
      let same : dead.parts ≡ parts = same_parts i.snapshot d dead.parts parts dead.alive then in
      value_names Kept parts.finaliser (λ n e old lost. lost (IsKept.finaliser d n dead (ap (λ (p : Parts). p.finaliser) same ∙ e)))

  -- a death keeps this
  death : (w v : World) (d : Name) → IsDeadAfter i d → Dies w v d → Closing w → Closing v
  death w v d dead dies h = record {
    world = dies.world;
    holds = record {
      registers = λ k. subst (λ (values : List Value). All (Names Kept) values) (sym (dies.registers k)) (h.holds.registers k);
      queues = λ k. elim (dies.queues k) [
        | inl same ↦ subst (λ (values : List Value). All (Names Kept) values) (sym same) (h.holds.queues k)
        | inr more ↦ elim more.2 [
          | inl same ↦ subst (λ (values : List Value). All (Names Kept) values) (sym same) (h.holds.queues k)
          | inr joined ↦ rw joined (All-push (Names Kept) (state_of w k).queue more.0.finaliser (h.holds.queues k)
              (finaliser_kept w h d dead more.0 more.1))
        ]
      ];
      fields = λ n kept. elim (dies.nodes n) [
        | inl same ↦ subst (λ (o : Option Node). IfSome o (Fields (Names Kept))) (sym same) (h.holds.fields n kept)
        | inr gone ↦ subst (λ (o : Option Node). IfSome o (Fields (Names Kept))) (sym gone.1) (All-nil (Names Kept))
      ];
    };
    alive = dies_weaks (AsThen i.snapshot (opened i.snapshot i.rows)) w v d dies h.alive;
    there = λ n old. elim (dies.nodes n) [
      | inl same ↦ subst (λ (o : Option Node). IsSome o) (sym same) (h.there n old)
      | inr gone ↦ subst (λ (o : Option Node). IsSome o) (sym gone.1) refl
    ];
  }

  deaths : (w : World) (dead : List Name) → ((n : Name) → Contains dead n → IsDeadAfter i n) → Closing w → Closing (closed w dead)
  deaths w [] all h = h
  deaths w (d ∷ dead) all h = deaths (closed_by w d (node_of w d)) dead (λ n k.
      all n (contains_tail d dead n k)) (death w (closed_by w d (node_of w d)) d (all d (contains_head d dead)) (dies_by w h.world d) h)

  -- after the last death: the key of each weak pointer that is alive is plain or live
  module _ (dead : List Name) (lists : Lists (IsDeadAfter i) dead) where
    abbrev last : World
    last = closed (replayed i.snapshot i.rows) dead

    ended : Closing last
    ended = deaths (replayed i.snapshot i.rows) dead lists.sound begins

    unfinalised : (n : Name) (parts : Parts) → IsAlive last n parts → Contains (finalised i.snapshot i.rows) n → ⊥
    unfinalised n parts alive = alive_has (λ k p. Contains (finalised i.snapshot i.rows) k →
        ⊥) last (closed_weaks (λ k p. Contains (finalised i.snapshot i.rows) k →
        ⊥) (replayed i.snapshot i.rows) dead begins.world (alive_ok (λ k p. Contains (finalised i.snapshot i.rows) k →
        ⊥) (replayed i.snapshot i.rows) (λ k p e. finalised_dead i.snapshot i.rows sound.world sound.rows k p e))) n parts alive

    -- a key that is plain or live in the snapshot, with the opened names
    abbrev IsLiveKey : Value → Type 0
    IsLiveKey v = IsPlain v ⊎ ((key : Name) × (v ≡ value.Ref key) × IsLive i.snapshot (opened i.snapshot i.rows) key)

    -- it can't be otherwise
    key_live : (n : Name) (parts : Parts) → IsAlive last n parts → IsAlive i.snapshot n parts → (IsLiveKey parts.key → ⊥) → ⊥
    key_live n parts alive then not_live = by_key parts.key refl
      where
        by_key : (v : Value) → parts.key ≡ v → ⊥
        by_key value.Nil e = not_live (inl (subst IsPlain (sym e) tt))
        by_key (value.Number k) e = not_live (inl (subst IsPlain (sym e) tt))
        by_key (value.Ref key) e = undecided (λ d. elim d [
          | inl is ↦ not_live (inr (key, e, is))
          | inr not ↦ closed_dead (replayed i.snapshot i.rows) dead begins.world n (lists.complete n (record {
            parts = parts;
            alive = then;
            not_finalised = unfinalised n parts alive;
            key = key;
            key_is = e;
            lost = not;
          })) parts alive
        ])

    part_kept : (weak name : Name) (parts : Parts) → IsAlive last weak parts → IsOfWeak weak parts name → Kept name
    part_kept weak name parts alive of = by_old (node_of i.snapshot weak) refl
      where
        as_then : (IsSome (node_of i.snapshot weak) → IsAlive i.snapshot weak parts) ×
            ((IsSome (node_of i.snapshot weak) → ⊥) → OfParts (IsLiveOrNew i.snapshot (opened i.snapshot i.rows)) parts)
        as_then = alive_has (AsThen i.snapshot (opened i.snapshot i.rows)) last ended.alive weak parts alive

        new_part : (IsSome (node_of i.snapshot weak) → ⊥) → IsOfWeak weak parts name → Kept name
        new_part gone (inl e) = λ old lost. absurd (gone (subst (λ (n : Name). IsSome (node_of i.snapshot n)) e old))
        new_part gone (inr (inl e)) = name_has Kept parts.key name e (live_kept parts.key (as_then.1 gone).0)
        new_part gone (inr (inr (inl e))) = name_has Kept parts.value name e (live_kept parts.value (as_then.1 gone).1)
        new_part gone (inr (inr (inr e))) = name_has Kept parts.finaliser name e (live_kept parts.finaliser (as_then.1 gone).2)

        old_part : IsAlive i.snapshot weak parts → IsLiveKey parts.key → IsOfWeak weak parts name → IsLive i.snapshot (opened i.snapshot i.rows) name
        old_part then (inl plain) (inl e) = IsLive.plain_key weak name parts then plain (inl e)
        old_part then (inl plain) (inr (inl e)) = absurd (subst IsPlain e plain)
        old_part then (inl plain) (inr (inr (inl e))) = IsLive.plain_key weak name parts then plain (inr (inl e))
        old_part then (inl plain) (inr (inr (inr e))) = IsLive.plain_key weak name parts then plain (inr (inr e))
        old_part then (inr k) (inl e) = IsLive.live_key weak name k.0 parts then k.1 k.2 (inl e)
        old_part then (inr k) (inr (inl e)) = let same : k.0 ≡ name = (let both : value.Ref k.0 ≡ value.Ref name = sym k.1 ∙ e in cc) in
            subst (IsLive i.snapshot (opened i.snapshot i.rows)) same k.2
        old_part then (inr k) (inr (inr (inl e))) = IsLive.live_key weak name k.0 parts then k.1 k.2 (inr (inl e))
        old_part then (inr k) (inr (inr (inr e))) = IsLive.live_key weak name k.0 parts then k.1 k.2 (inr (inr e))

        by_old : (o : Option Node) → node_of i.snapshot weak ≡ o → Kept name
        by_old None e = new_part (λ there. absent (node_of i.snapshot weak) e there) of
        by_old (Some node) e =
            let then : IsAlive i.snapshot weak parts = as_then.0 (some_of (node_of i.snapshot weak) node e) in
            λ old lost. key_live weak parts alive then (λ key. lost (IsKept.live name (old_part then key of)))

    held_last : HoldsOnly Kept last
    held_last = record {
      roots = root;
      fields = λ name target kept r.
          All-contains (Names Kept) (strong_fields r.0) (value.Ref target)
          (at_some (node_of last name) r.0 (Fields (Names Kept)) r.1 (ended.holds.fields name kept)) r.2;
      weaks = λ weak name parts alive of. part_kept weak name parts alive of;
    }
      where
        root : (n : Name) → IsRoot last n → Kept n
        root n (inl e) = λ old lost. lost (IsKept.live n (IsLive.root n (inl e)))
        root n (inr r) = elim (Contains-append_cases (state_of last r.0).registers (state_of last r.0).queue (value.Ref n) r.1) [
          | inl k ↦ All-contains (Names Kept) (state_of last r.0).registers (value.Ref n) (ended.holds.registers r.0) k
          | inr k ↦ All-contains (Names Kept) (state_of last r.0).queue (value.Ref n) (ended.holds.queues r.0) k
        ]

pub closes_well : ClosesWell
closes_well i dead sound lists = record {
  world = (ended i sound dead lists).world;
  names = (ended i sound dead lists).there;
  holds = held_last i sound dead lists;
}
