-- The changes that any command may make, also on weak pointers. `deref` and `finalise` give and owe opened names and the weak
-- pointer itself, so all of these are in the set if all opened names are.
use Rattle.std.specs.Prelude.{◌≡◌, ◌≢◌, ◌<◌, ◌∷◌, ◌⊎◌}
use Rattle.nmgc_world_laws.specs.laws.Vocabulary.{ℕ, List, [], length, refl, sym, subst, Option, Some, None, inl, inr, IfSome, All, Contains, All-cons, All-nil, All-head, Contains-append_left, Contains-append_right, Contains-append_cases, Command, SHARED_MAKER, Name, Value, Parts, Node, Con, Var, Arr, Thunk, Weak, Stack, World, state_of, node_of, given, changed, value_read, shared_name, value_for, next_name, object_of, read_object, change_node, change_object, change_into, step, IsAlive, IsKeptBy, name_in, value_opened, opened_in, opened_by, finalised_in, finalised_by, contains_head, contains_tail, at_some, nothing_in, contains_one, one_is, contains_flat, owed_of, owed_in, owed_at, value_held, values_owed, names_among, owed_by, Names, Fields, CoversReach, strong_at, IsLater}
use Rattle.nmgc_world_spec.specs.declared.command.Command.TheVariants as command
use Rattle.nmgc_world_spec.specs.declared.change.Change.TheVariants as change
use Rattle.nmgc_world_spec.specs.declared.value.Value.TheVariants as value
use Rattle.nmgc_world_laws.specs.laws.{Barrier.same_later, Moves.RespectsBarrier, Moves.step_moves, Moves.born_moves, Moves.keeping_moves, Moves.made_moves, Moves.stays_put, Moves.then_same, Moves.operand_has}

-- `finalise` of a node: a weak pointer dies, and other kinds stay
finalised_stays : (name : Name) (maker : ℕ) (node : Node) (i : ℕ) (x : Value) → strong_at node i ≡ Some x →
    (strong_at (changed change.Finalise maker node).0 i ≡ Some x) ⊎ Contains (owed_in change.Finalise name node) x
finalised_stays name maker (Weak parts) i x h = absurd cc
finalised_stays name maker (Con tag values) i x h = inl h
finalised_stays name maker (Var v) i x h = inl h
finalised_stays name maker (Arr values) i x h = inl h
finalised_stays name maker (Thunk free result) i x h = inl h
finalised_stays name maker (Stack size values) i x h = inl h

finalised_later : (maker : ℕ) (node : Node) → IsLater node (changed change.Finalise maker node).0
finalised_later maker (Weak (Some parts)) = record { free = refl; result = λ h. h }
finalised_later maker (Weak None) = same_later _
finalised_later maker (Con tag values) = same_later _
finalised_later maker (Var v) = same_later _
finalised_later maker (Arr values) = same_later _
finalised_later maker (Thunk free result) = same_later _
finalised_later maker (Stack size values) = same_later _

module _ (P : Name → Type 0) where
  finalised_fields : (maker : ℕ) (node : Node) → Fields (Names P) node → Fields (Names P) (changed change.Finalise maker node).0
  finalised_fields maker (Weak (Some parts)) h = All-nil (Names P)
  finalised_fields maker (Weak None) h = h
  finalised_fields maker (Con tag values) h = h
  finalised_fields maker (Var v) h = h
  finalised_fields maker (Arr values) h = h
  finalised_fields maker (Thunk free result) h = h
  finalised_fields maker (Stack size values) h = h

  -- the same move, with more values owed that are in the set
  more_owed : (w v : World) (owed : List Value) → All (Names P) owed → RespectsBarrier P w v [] → RespectsBarrier P w v owed
  more_owed w v owed h r = record {
    mutators = r.mutators;
    holds = r.holds;
    owes = h;
    stays = λ name i x s. elim (r.stays name i x s) [ inl k ↦ inl k | inr k ↦ absurd (nothing_in x k) ];
    later = r.later;
    others = r.others;
  }

  pub of_value : (v : Value) → ((n : Name) → Contains (name_in v) n → P n) → Names P v
  of_value value.Nil h = tt
  of_value (value.Number n) h = tt
  of_value (value.Ref n) h = h n (contains_one n)

  -- the values that `deref` owes and gives
  deref_owes : (o : Option Node) → ((n : Name) → Contains (value_opened o) n → P n) → All (Names P) (value_held o)
  deref_owes (Some (Weak (Some parts))) h = All-cons (Names P) parts.value [] (of_value parts.value h) (All-nil (Names P))
  deref_owes (Some (Weak None)) h = All-nil (Names P)
  deref_owes (Some (Con tag values)) h = All-nil (Names P)
  deref_owes (Some (Var v)) h = All-nil (Names P)
  deref_owes (Some (Arr values)) h = All-nil (Names P)
  deref_owes (Some (Thunk free result)) h = All-nil (Names P)
  deref_owes (Some (Stack size values)) h = All-nil (Names P)
  deref_owes None h = All-nil (Names P)

  deref_gives : (o : Option Node) → All (Names P) (value_held o) → IfSome (given (read_object o value_read)) (Names P)
  deref_gives (Some (Weak (Some parts))) h = All-head (Names P) parts.value [] h
  deref_gives (Some (Weak None)) h = tt
  deref_gives (Some (Con tag values)) h = tt
  deref_gives (Some (Var v)) h = tt
  deref_gives (Some (Arr values)) h = tt
  deref_gives (Some (Thunk free result)) h = tt
  deref_gives (Some (Stack size values)) h = tt
  deref_gives None h = tt

  -- the values that `finalise` owes and gives
  finalise_owes : (w : World) (v : Value) → Names P v → ((n : Name) → Contains (opened_in (object_of w v)) n → P n) →
      All (Names P) (owed_of w v change.Finalise)
  finalise_owes w value.Nil p h = All-nil (Names P)
  finalise_owes w (value.Number n) p h = All-nil (Names P)
  finalise_owes w (value.Ref name) p h = by_node (node_of w name) h
    where
      by_node : (o : Option Node) → ((n : Name) → Contains (opened_in o) n → P n) → All (Names P) (owed_at change.Finalise name o)
      by_node (Some (Weak (Some parts))) k =
          All-cons (Names P) (value.Ref name) (parts.value ∷ parts.finaliser ∷ []) p
          (All-cons (Names P) parts.value (parts.finaliser ∷ []) (of_value parts.value (λ n c.
          k n (Contains-append_left (name_in parts.value) (name_in parts.finaliser) n c)))
          (All-cons (Names P) parts.finaliser [] (of_value parts.finaliser (λ n c.
          k n (Contains-append_right (name_in parts.value) (name_in parts.finaliser) n c))) (All-nil (Names P))))
      by_node (Some (Weak None)) k = All-nil (Names P)
      by_node (Some (Con tag values)) k = All-nil (Names P)
      by_node (Some (Var v)) k = All-nil (Names P)
      by_node (Some (Arr values)) k = All-nil (Names P)
      by_node (Some (Thunk free result)) k = All-nil (Names P)
      by_node (Some (Stack size values)) k = All-nil (Names P)
      by_node None k = All-nil (Names P)

  finalise_gives : (w : World) (v : Value) → ((n : Name) → Contains (opened_in (object_of w v)) n → P n) →
      IfSome (given (change_object w v change.Finalise).1) (Names P)
  finalise_gives w value.Nil h = tt
  finalise_gives w (value.Number n) h = tt
  finalise_gives w (value.Ref name) h = by_node (node_of w name) h
    where
      by_node : (o : Option Node) → ((n : Name) → Contains (opened_in o) n → P n) → IfSome (given (change_node w name o change.Finalise).1) (Names P)
      by_node (Some (Weak (Some parts))) k = of_value parts.finaliser (λ n c. k n (Contains-append_right (name_in parts.value) (name_in parts.finaliser) n c))
      by_node (Some (Weak None)) k = tt
      by_node (Some (Con tag values)) k = tt
      by_node (Some (Var v)) k = tt
      by_node (Some (Arr values)) k = tt
      by_node (Some (Thunk free result)) k = tt
      by_node (Some (Stack size values)) k = tt
      by_node None k = tt

  finalise_moves : (w : World) (v : Value) → Names P v → All (Names P) (owed_of w v change.Finalise) → CoversReach P w →
      RespectsBarrier P w (change_object w v change.Finalise).0 (owed_of w v change.Finalise)
  finalise_moves w value.Nil p owes h = stays_put P w h
  finalise_moves w (value.Number n) p owes h = stays_put P w h
  finalise_moves w (value.Ref name) p owes h = by_node (node_of w name) refl owes
    where
      by_node : (o : Option Node) → node_of w name ≡ o → All (Names P) (owed_at change.Finalise name o) →
          RespectsBarrier P w (change_node w name o change.Finalise).0 (owed_at change.Finalise name o)
      by_node None e k = stays_put P w h
      by_node (Some found) e k =
          made_moves P w name found (changed change.Finalise name.maker found).0 (owed_at change.Finalise name (Some found)) e
          (finalised_fields name.maker found (at_some (node_of w name) found (Fields (Names P)) e (h.fields name p)))
          k (finalised_stays name name.maker found) (finalised_later name.maker found) h p

  -- every command, if all names that it opens are in the set
  pub all_moves : (w : World) (m : ℕ) (c : Command) → m < length w.mutators → m ≢ SHARED_MAKER → P shared_name → P (next_name (state_of w m) m) →
      ((n : Name) → Contains (opened_by w m c) n → P n) → CoversReach P w → RespectsBarrier P w (step w m c).0 (values_owed w m c)
  all_moves w m (command.Weak dest key v finaliser) lt own g p o h = born_moves P w m dest _ lt own h p (All-nil (Names P))
  all_moves w m (command.Deref dest object) lt own g p o h =
      let owes : All (Names P) (value_held (object_of w (value_for w m object))) = deref_owes (object_of w (value_for w m object)) o in
      more_owed w _ _ owes (keeping_moves P w m dest _ lt h (deref_gives (object_of w (value_for w m object)) owes))
  all_moves w m (command.Finalise dest object) lt own g p o h =
      let v : Value = value_for w m object in
      let q : Names P v = operand_has P (state_of w m).registers object g (h.registers m) in
      let a : RespectsBarrier P w (change_object w v change.Finalise).0 (owed_of w v change.Finalise) = finalise_moves w v q (finalise_owes w v q o) h in
      then_same P w (change_object w v change.Finalise).0 (change_into m dest (change_object w v change.Finalise)).0 (owed_of w v change.Finalise) a
      (keeping_moves P (change_object w v change.Finalise).0 m dest (change_object w v change.Finalise).1 (rw a.mutators lt) a.holds (finalise_gives w v o))
  all_moves w m c lt own g p o h = step_moves P w m c tt lt own g p h

-- a name in one of the values is among their names
in_one : (values : List Value) (v : Value) (name : Name) → Contains values v → Contains (name_in v) name → Contains (names_among values) name
in_one values v name h k = contains_flat name_in values v name h k

-- a command owes each name that it opens
pub opened_owed : (w : World) (m : ℕ) (c : Command) (name : Name) → Contains (opened_by w m c) name → Contains (owed_by w m c) name
opened_owed w m (command.Deref dest object) name h = by_node (object_of w (value_for w m object)) h
  where
    by_node : (o : Option Node) → Contains (value_opened o) name → Contains (names_among (value_held o)) name
    by_node (Some (Weak (Some parts))) k = in_one (parts.value ∷ []) parts.value name (contains_one parts.value) k
    by_node (Some (Weak None)) k = absurd (nothing_in name k)
    by_node (Some (Con tag values)) k = absurd (nothing_in name k)
    by_node (Some (Var v)) k = absurd (nothing_in name k)
    by_node (Some (Arr values)) k = absurd (nothing_in name k)
    by_node (Some (Thunk free result)) k = absurd (nothing_in name k)
    by_node (Some (Stack size values)) k = absurd (nothing_in name k)
    by_node None k = absurd (nothing_in name k)
opened_owed w m (command.Finalise dest object) name h = by_value (value_for w m object) h
  where
    by_node : (at : Name) (o : Option Node) → Contains (opened_in o) name → Contains (names_among (owed_at change.Finalise at o)) name
    by_node at (Some (Weak (Some parts))) k = elim (Contains-append_cases (name_in parts.value) (name_in parts.finaliser) name k) [
      | inl a ↦ in_one (value.Ref at ∷ parts.value ∷ parts.finaliser ∷
          []) parts.value name (contains_tail (value.Ref at) (parts.value ∷ parts.finaliser ∷
          []) parts.value (contains_head parts.value (parts.finaliser ∷ []))) a
      | inr b ↦ in_one (value.Ref at ∷ parts.value ∷ parts.finaliser ∷
          []) parts.finaliser name (contains_tail (value.Ref at) (parts.value ∷ parts.finaliser ∷
          []) parts.finaliser (contains_tail parts.value (parts.finaliser ∷ []) parts.finaliser (contains_one parts.finaliser))) b
    ]
    by_node at (Some (Weak None)) k = absurd (nothing_in name k)
    by_node at (Some (Con tag values)) k = absurd (nothing_in name k)
    by_node at (Some (Var v)) k = absurd (nothing_in name k)
    by_node at (Some (Arr values)) k = absurd (nothing_in name k)
    by_node at (Some (Thunk free result)) k = absurd (nothing_in name k)
    by_node at (Some (Stack size values)) k = absurd (nothing_in name k)
    by_node at None k = absurd (nothing_in name k)

    by_value : (v : Value) → Contains (opened_in (object_of w v)) name → Contains (names_among (owed_of w v change.Finalise)) name
    by_value value.Nil k = absurd (nothing_in name k)
    by_value (value.Number n) k = absurd (nothing_in name k)
    by_value (value.Ref at) k = by_node at (node_of w at) k
opened_owed w m _ name h = absurd (nothing_in name h)

-- a weak pointer that a command finalises was alive, and all names that it kept are owed
abbrev pub Ends : World → Name → List Name → Type 0
Ends w weak owed = (parts : Parts) × IsAlive w weak parts × ((target : Name) → IsKeptBy weak parts target → Contains owed target)

pub finalised_owed : (w : World) (m : ℕ) (c : Command) (weak : Name) → Contains (finalised_by w m c) weak → Ends w weak (owed_by w m c)
finalised_owed w m (command.Finalise dest object) weak h = by_value (value_for w m object) h
  where
    kept_owed : (at : Name) (parts : Parts) (target : Name) → IsKeptBy at parts target →
        Contains (names_among (value.Ref at ∷ parts.value ∷ parts.finaliser ∷ [])) target
    kept_owed at parts target (inl e) = in_one (value.Ref at ∷ parts.value ∷ parts.finaliser ∷
        []) (value.Ref at) target (contains_head (value.Ref at) (parts.value ∷ parts.finaliser ∷ [])) (rw e (contains_one at))
    kept_owed at parts target (inr (inl e)) = in_one (value.Ref at ∷ parts.value ∷ parts.finaliser ∷
        []) parts.value target (contains_tail (value.Ref at) (parts.value ∷ parts.finaliser ∷
        []) parts.value (contains_head parts.value (parts.finaliser ∷ []))) (subst (λ (v : Value). Contains (name_in v) target) (sym e) (contains_one target))
    kept_owed at parts target (inr (inr e)) = in_one (value.Ref at ∷ parts.value ∷ parts.finaliser ∷
        []) parts.finaliser target (contains_tail (value.Ref at) (parts.value ∷ parts.finaliser ∷
        []) parts.finaliser (contains_tail parts.value (parts.finaliser ∷
        []) parts.finaliser (contains_one parts.finaliser))) (subst (λ (v : Value). Contains (name_in v) target) (sym e) (contains_one target))

    by_node : (at : Name) (o : Option Node) → node_of w at ≡ o → Contains (finalised_in (value.Ref at) o) weak →
        Ends w weak (names_among (owed_at change.Finalise at o))
    by_node at (Some (Weak (Some parts))) e k =
        let same : at ≡ weak = one_is at weak k in
        subst (λ (n : Name). Ends w n (names_among (value.Ref at ∷ parts.value ∷ parts.finaliser ∷ []))) same (parts, e, kept_owed at parts)
    by_node at (Some (Weak None)) e k = absurd (nothing_in weak k)
    by_node at (Some (Con tag values)) e k = absurd (nothing_in weak k)
    by_node at (Some (Var v)) e k = absurd (nothing_in weak k)
    by_node at (Some (Arr values)) e k = absurd (nothing_in weak k)
    by_node at (Some (Thunk free result)) e k = absurd (nothing_in weak k)
    by_node at (Some (Stack size values)) e k = absurd (nothing_in weak k)
    by_node at None e k = absurd (nothing_in weak k)

    by_value : (v : Value) → Contains (finalised_in v (object_of w v)) weak → Ends w weak (names_among (owed_of w v change.Finalise))
    by_value value.Nil k = absurd (nothing_in weak k)
    by_value (value.Number n) k = absurd (nothing_in weak k)
    by_value (value.Ref at) k = by_node at (node_of w at) refl k
finalised_owed w m _ weak h = absurd (nothing_in weak h)
