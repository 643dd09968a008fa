-- One weak pointer dies: every other node stays, and the world stays closed.
use Rattle.std.specs.Prelude.{◌≡◌, ◌≢◌, ◌<◌, ◌≤◌, ◌∷◌, ◌++◌}
use Rattle.nmgc_world_laws.specs.laws.Vocabulary.{ℕ, [], length, set, inl, inr, refl, sym, subst, ◌∙◌, arith, Some, None, length-set, slice_get, ne_eqb, eq-eqb, cases_eq, get_or-set_same, get_or-set_other, set-set, All-push, All-get_or, SHARED_MAKER, Name, Value, Nil, Number, Ref, Parts, Weak, MutatorState, World, state_of, node_of, no_mutator, IsKnown, IsWorld, with_state, with_nth, IsAliveWeak, queued, closed_by, same_name, slice_get-set_other}
use Rattle.nmgc_world_spec.specs.declared.change.Change.TheVariants as change
use Rattle.nmgc_world_laws.specs.laws.{Weaks.weak_maker, Worlds.not_shared, Worlds.nth_changed, Worlds.same_state, Worlds.values_keep, Worlds.still_known}

pub queued_nodes : (state : MutatorState) (v : Value) → (queued state v).nodes ≡ state.nodes
queued_nodes state Nil = refl
queued_nodes state (Number n) = refl
queued_nodes state (Ref name) = refl

-- a mutator's state after the death of one of its weak pointers
abbrev pub with_dead : MutatorState → ℕ → Value → MutatorState
with_dead state serial finaliser = queued (with_nth state serial (Weak None)) finaliser

-- one weak pointer of a mutator dies
module _ (w : World) (weak : Name) (parts : Parts) (lt : weak.maker < length w.mutators) (ne : weak.maker ≢ SHARED_MAKER) where
  pub closed_state : closed_by w weak (Some (Weak (Some parts))) ≡ with_state w weak.maker (with_dead (state_of w weak.maker) weak.serial parts.finaliser)
  closed_state =
      let m = weak.maker in
      let q : MutatorState = with_nth (state_of w m) weak.serial (Weak None) in
      let same : state_of (with_state w m q) m ≡ q = get_or-set_same w.mutators m q no_mutator lt in
      rw (ne_eqb m SHARED_MAKER ne, same, set-set w.mutators m q (queued q parts.finaliser)) refl

  closed_nodes : state_of (with_state w weak.maker (with_dead (state_of w weak.maker) weak.serial parts.finaliser)) weak.maker ≡
      with_dead (state_of w weak.maker) weak.serial parts.finaliser
  closed_nodes = get_or-set_same w.mutators weak.maker (with_dead (state_of w weak.maker) weak.serial parts.finaliser) no_mutator lt

  -- every other node stays
  pub closed_other : (n : Name) → n ≢ weak → node_of (closed_by w weak (Some (Weak (Some parts)))) n ≡ node_of w n
  closed_other n other =
      let m = weak.maker in
      let q : MutatorState = with_dead (state_of w m) weak.serial parts.finaliser in
      let P : World → Type 0 = λ u. node_of u n ≡ node_of w n in
      subst P (sym closed_state) (elim (cases_eq n.maker SHARED_MAKER) [
        | inl p ↦ rw (eq-eqb n.maker SHARED_MAKER p) refl
        | inr p ↦ rw (ne_eqb n.maker SHARED_MAKER p) (elim (cases_eq n.maker m) [
          | inl e ↦ rw (
            e,
            closed_nodes,
            queued_nodes (with_nth (state_of w m) weak.serial (Weak None)) parts.finaliser,
          )
              (slice_get-set_other (state_of w m).nodes weak.serial n.serial (Weak None) (λ f. other (same_name n weak e f)))
          | inr g ↦ rw (get_or-set_other w.mutators m n.maker q no_mutator g) refl
        ])
      ])

  pub closed_length : length (closed_by w weak (Some (Weak (Some parts)))).mutators ≡ length w.mutators
  closed_length = cc (closed_state, length-set w.mutators weak.maker (with_dead (state_of w weak.maker) weak.serial parts.finaliser))

-- the world after the death of one weak pointer is a world
module _ (w : World) (h : IsWorld w) (weak : Name) (alive : IsAliveWeak w weak) where
  lt : weak.maker < length w.mutators
  lt = weak_maker w h weak alive

  apart : weak.maker ≢ SHARED_MAKER
  apart = not_shared w weak.maker h lt

  q : MutatorState
  q = with_nth (state_of w weak.maker) weak.serial (Weak None)

  u : World
  u = with_state w weak.maker (with_nth (state_of w weak.maker) weak.serial (Weak None))

  there : slice_get (state_of w weak.maker).nodes weak.serial ≡ Some (Weak (Some alive.0))
  there = rw (ne_eqb weak.maker SHARED_MAKER apart) at alive.1

  killed : IsWorld (with_state w weak.maker (with_nth (state_of w weak.maker) weak.serial (Weak None)))
  killed = nth_changed w h weak change.Finalise (rw alive.1 refl) tt apart (Weak (Some alive.0)) there

  -- a known finaliser may join the queue
  queued_keeps : (v : World) → IsWorld v → (m : ℕ) → m < length v.mutators → (value : Value) → IsKnown v value →
      IsWorld (with_state v m (queued (state_of v m) value))
  queued_keeps v hv m below Nil known = same_state v hv m
  queued_keeps v hv m below (Number n) known = values_keep v hv m below (state_of v m).registers ((state_of v m).queue ++ Number n ∷
      []) (hv.registers m below) (hv.known_registers m) (All-push (IsKnown v) (state_of v m).queue (Number n) (hv.known_queue m) tt)
  queued_keeps v hv m below (Ref name) known = values_keep v hv m below (state_of v m).registers ((state_of v m).queue ++ Ref name ∷
      []) (hv.registers m below) (hv.known_registers m) (All-push (IsKnown v) (state_of v m).queue (Ref name) (hv.known_queue m) known)

  finaliser_known : IsKnown (with_state w weak.maker (with_nth (state_of w weak.maker) weak.serial (Weak None))) alive.0.finaliser
  finaliser_known =
      let is = rw alive.1 at (h.nodes weak) in
      let more : length (state_of w weak.maker).nodes ≤ length (set (state_of w weak.maker).nodes weak.serial (Weak None)) = omega (
        arith,
        length-set (state_of w weak.maker).nodes weak.serial (Weak None),
      ) in
      still_known w weak.maker (with_nth (state_of w weak.maker) weak.serial (Weak None)) lt more alive.0.finaliser
      (All-get_or (IsKnown w) (alive.0.key ∷ alive.0.value ∷ alive.0.finaliser ∷ []) 2 Nil (omega arith) is.known)

  pub dead_keeps : IsWorld (with_state w weak.maker (with_dead (state_of w weak.maker) weak.serial alive.0.finaliser))
  dead_keeps =
      let m = weak.maker in
      let s : MutatorState = with_nth (state_of w m) weak.serial (Weak None) in
      let v : World = with_state w m s in
      let same : state_of v m ≡ s = get_or-set_same w.mutators m s no_mutator lt in
      let both : with_state v m (queued (state_of v m) alive.0.finaliser) ≡ with_state w m (queued s alive.0.finaliser) = rw (
        same,
        set-set w.mutators m s (queued s alive.0.finaliser),
      ) refl in
      subst IsWorld both (queued_keeps v killed m (rw (length-set w.mutators m s) lt) alive.0.finaliser finaliser_known)
