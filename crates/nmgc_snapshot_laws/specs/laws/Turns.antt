-- The effect of a command on the node of each name, if the registers hold only names with P. Nothing is asked of the node
-- before. So the lemmas cover every name, held or not, and say which names a step can put into its fields.
use Rattle.std.specs.Prelude.{◌≡◌, ◌≢◌, ◌<◌, ◌∷◌, ◌⊎◌}
use Rattle.nmgc_snapshot_laws.specs.laws.Vocabulary.{ℕ, List, [], drop, length, refl, sym, ap, subst, ◌∙◌, Option, Some, None, inl, inr, slice_get, All, Contains, All-cons, All-nil, All-replicate, All-contains, Contains-get_or, Operand, Command, Change, SHARED_MAKER, Name, Value, Parts, Node, Con, Var, Arr, Thunk, Weak, Stack, World, state_of, node_of, changed, shared_name, value_for, with_state, with_node, with_finaliser, holding, holding_given, keeping, born, object_of, change_node, change_object, step, RefersTo, IsAlive, strong_fields, finalised_in, finalised_by, Names, Fields, IsStrongChange, Writes, changed_fields, nothing_in, contains_one, operand_has, operands_have, nodes_kept, node_born, next_is_new, node_cases, change_count, keeping_kept}
use Rattle.nmgc_world_spec.specs.declared.command.Command.TheVariants as command
use Rattle.nmgc_world_spec.specs.declared.change.Change.TheVariants as change
use Rattle.nmgc_world_spec.specs.declared.value.Value.TheVariants as value

-- the node of a name, from one world to the next
data Turn (P : Name → Type 0) (w v : World) (dead : List Name) (name : Name) : Type 0 where
  kept : node_of v name ≡ node_of w name → Turn P w v dead name
  born_with : (made : Node) → node_of w name ≡ None → node_of v name ≡ Some made → Fields (Names P) made → Turn P w v dead name
  changed_by : (c : Change) (found : Node) → IsStrongChange c → Writes (Names P) c → node_of w name ≡ Some found →
      node_of v name ≡ Some (changed c name.maker found).0 → Turn P w v dead name
  died : (parts : Parts) → Contains dead name → node_of w name ≡ Some (Weak (Some parts)) → node_of v name ≡ Some (Weak None) → Turn P w v dead name

-- registers and queues are no nodes
pub register_kept : (w : World) (m register : ℕ) (v : Value) → m < length w.mutators → (name : Name) →
    node_of (with_state w m (holding (state_of w m) register v)) name ≡ node_of w name
register_kept w m register v lt name = nodes_kept w m (holding (state_of w m) register v) lt refl name

finaliser_kept : (w : World) (m register : ℕ) → m < length w.mutators → (name : Name) →
    node_of (with_state w m (with_finaliser (state_of w m) register)) name ≡ node_of w name
finaliser_kept w m register lt name = by_first (slice_get (state_of w m).queue 0)
  where
    by_first : (first : Option Value) → node_of (with_state w m (holding_given (record (state_of w m) {
      queue =
          drop 1 (state_of w m).queue;
    }) register first)) name ≡ node_of w name
    by_first None = nodes_kept w m (record (state_of w m) { queue = drop 1 (state_of w m).queue }) lt refl name
    by_first (Some v) = nodes_kept w m (holding (record (state_of w m) { queue = drop 1 (state_of w m).queue }) register v) lt refl name

module _ (P : Name → Type 0) (w : World) where
  -- a step that is followed by the same nodes
  then_kept : (u v : World) (dead : List Name) (name : Name) → Turn P w u dead name → node_of v name ≡ node_of u name → Turn P w v dead name
  then_kept u v dead name (kept e) same = kept (same ∙ e)
  then_kept u v dead name (born_with made none is f) same = born_with made none (same ∙ is) f
  then_kept u v dead name (changed_by c found s wr there is) same = changed_by c found s wr there (same ∙ is)
  then_kept u v dead name (died parts k there is) same = died parts k there (same ∙ is)

  born_turn : (m register : ℕ) (made : Node) → m < length w.mutators → m ≢ SHARED_MAKER → Fields (Names P) made → (name : Name) →
      Turn P w (born w m register made).0 [] name
  born_turn m register made lt own f name = elim (node_born w m register made lt own name) [
    | inl c ↦ born_with made (subst (λ (k : Name). node_of w k ≡ None) (sym c.0) (next_is_new w m own)) c.1 f
    | inr c ↦ kept c
  ]

  change_turn : (v : Value) (c : Change) → IsStrongChange c → Writes (Names P) c → (name : Name) → Turn P w (change_object w v c).0 [] name
  change_turn value.Nil c s wr name = kept refl
  change_turn (value.Number n) c s wr name = kept refl
  change_turn (value.Ref at) c s wr name = by_node (node_of w at) refl
    where
      by_node : (o : Option Node) → node_of w at ≡ o → Turn P w (change_node w at o c).0 [] name
      by_node None e = kept refl
      by_node (Some found) e =
          let made : Node = (changed c at.maker found).0 in
          elim (node_cases w at found made e name) [
            | inl p ↦ subst (Turn P w (with_node w at made) []) (sym p.0) (changed_by c found s wr e (subst (λ (k : Name).
                node_of (with_node w at made) k ≡ Some made) p.0 p.1))
            | inr p ↦ kept p.1
          ]

  finalise_turn : (v : Value) (name : Name) → Turn P w (change_object w v change.Finalise).0 (finalised_in v (object_of w v)) name
  finalise_turn value.Nil name = kept refl
  finalise_turn (value.Number n) name = kept refl
  finalise_turn (value.Ref at) name = by_node (node_of w at) refl
    where
      same_node : (found : Node) (dead : List Name) → node_of w at ≡ Some found → Turn P w (with_node w at found) dead name
      same_node found dead e = elim (node_cases w at found found e name) [
        | inl p ↦ kept (p.1 ∙ sym (subst (λ (k : Name). node_of w k ≡ Some found) (sym p.0) e))
        | inr p ↦ kept p.1
      ]

      by_node : (o : Option Node) → node_of w at ≡ o → Turn P w (change_node w at o change.Finalise).0 (finalised_in (value.Ref at) o) name
      by_node None e = kept refl
      by_node (Some (Weak (Some parts))) e = elim (node_cases w at (Weak (Some parts)) (Weak None) e name) [
        | inl p ↦ subst (Turn P w (with_node w at (Weak None)) (at ∷
            [])) (sym p.0) (died parts (contains_one at) e (subst (λ (k : Name). node_of (with_node w at (Weak None)) k ≡ Some (Weak None)) p.0 p.1))
        | inr p ↦ kept p.1
      ]
      by_node (Some (Weak None)) e = same_node (Weak None) [] e
      by_node (Some (Con tag values)) e = same_node (Con tag values) [] e
      by_node (Some (Var x)) e = same_node (Var x) [] e
      by_node (Some (Arr values)) e = same_node (Arr values) [] e
      by_node (Some (Thunk free result)) e = same_node (Thunk free result) [] e
      by_node (Some (Stack size values)) e = same_node (Stack size values) [] e

  -- a step puts only such names into fields
  module _ (v : World) (dead : List Name) (name : Name) where
    writes_more : (found : Node) (c : Change) → Writes (Names P) c → Writes (λ x. Contains (strong_fields found) x ⊎ Names P x) c
    writes_more found (change.Set index x) h = inr h
    writes_more found (change.Exchange index expected x) h = inr h
    writes_more found (change.Update x) h = inr h
    writes_more found (change.Push m x) h = inr h
    writes_more found (change.Pop m) h = tt
    writes_more found change.Finalise h = tt

    turn_adds : Turn P w v dead name → (target : Name) → RefersTo v name target → RefersTo w name target ⊎ P target
    turn_adds (kept e) target r = inl (r.0, sym e ∙ r.1, r.2)
    turn_adds (born_with made none is f) target r =
        let both : Some made ≡ Some r.0 = sym is ∙ r.1 in
        let same : made ≡ r.0 = cc in
        inr (All-contains (Names P) (strong_fields made) (value.Ref target) f (subst (λ (n : Node).
        Contains (strong_fields n) (value.Ref target)) (sym same) r.2))
    turn_adds (changed_by c found s wr there is) target r =
        let Q : Value → Type 0 = λ x. Contains (strong_fields found) x ⊎ Names P x in
        let made : Node = (changed c name.maker found).0 in
        let both : Some made ≡ Some r.0 = sym is ∙ r.1 in
        let same : made ≡ r.0 = cc in
        let old : All Q (strong_fields found) = λ k d lt. inl (Contains-get_or (strong_fields found) k d lt) in
        let new : All Q (strong_fields made) = changed_fields Q c name.maker found s (writes_more found c wr) old in
        elim (All-contains Q (strong_fields made) (value.Ref target) new (subst (λ (n : Node). Contains (strong_fields n) (value.Ref target)) (sym same) r.2)) [
          | inl k ↦ inl (found, there, k)
          | inr p ↦ inr p
        ]
    turn_adds (died parts k there is) target r =
        let both : Some (Weak None) ≡ Some r.0 = sym is ∙ r.1 in
        let same : Weak None ≡ r.0 = cc in
        absurd (nothing_in (value.Ref target) (subst (λ (n : Node). Contains (strong_fields n) (value.Ref target)) (sym same) r.2))

    weak_unchanged : (c : Change) (maker : ℕ) (parts : Option Parts) → IsStrongChange c → (changed c maker (Weak parts)).0 ≡ Weak parts
    weak_unchanged (change.Set index x) maker parts s = refl
    weak_unchanged (change.Exchange index expected x) maker parts s = refl
    weak_unchanged (change.Update x) maker parts s = refl
    weak_unchanged (change.Push m x) maker parts s = refl
    weak_unchanged (change.Pop m) maker parts s = refl
    weak_unchanged change.Finalise maker parts s = absurd s

    -- a weak pointer stays alive with its parts, unless this step finalised it
    turn_alive : Turn P w v dead name → (parts : Parts) → IsAlive w name parts → IsAlive v name parts ⊎ Contains dead name
    turn_alive (kept e) parts a = inl (e ∙ a)
    turn_alive (born_with made none is f) parts a = absurd cc
    turn_alive (changed_by c found s wr there is) parts a =
        let both : Some found ≡ Some (Weak (Some parts)) = sym there ∙ a in
        let same : found ≡ Weak (Some parts) = cc in
        inl (is ∙ ap (λ n. Some n) (subst (λ (n : Node). (changed c name.maker n).0 ≡
        Weak (Some parts)) (sym same) (weak_unchanged c name.maker (Some parts) s)))
    turn_alive (died other k there is) parts a = inr k

  -- every command
  module _ (m : ℕ) (lt : m < length w.mutators) (own : m ≢ SHARED_MAKER) (g : P shared_name) (held : All (Names P) (state_of w m).registers) where
    has : (o : Operand) → Names P (value_for w m o)
    has o = operand_has P (state_of w m).registers o g held

    step_turns : (c : Command) (name : Name) → Turn P w (step w m c).0 (finalised_by w m c) name
    step_turns (command.Num dest number) name = kept (register_kept w m dest _ lt name)
    step_turns (command.Nil dest) name = kept (register_kept w m dest _ lt name)
    step_turns (command.Mov dest v) name = kept (register_kept w m dest _ lt name)
    step_turns (command.Con dest tag fields) name = born_turn m dest _ lt own (operands_have P (state_of w m).registers fields g held) name
    step_turns (command.Var dest v) name = born_turn m dest _ lt own (All-cons (Names P) (value_for w m v) [] (has v) (All-nil (Names P))) name
    step_turns (command.Arr dest count v) name = born_turn m dest _ lt own (All-replicate (Names P) count (value_for w m v) (has v)) name
    step_turns (command.Rec dest fields) name = born_turn m dest _ lt own (operands_have P (state_of w m).registers fields g held) name
    step_turns (command.Thunk dest free) name = born_turn m dest _ lt own (operands_have P (state_of w m).registers free g held) name
    step_turns (command.Weak dest key v finaliser) name = born_turn m dest _ lt own (All-nil (Names P)) name
    step_turns (command.Stack dest size) name = born_turn m dest _ lt own (All-nil (Names P)) name
    step_turns (command.Get dest object index) name = kept (keeping_kept w m dest _ lt name)
    step_turns (command.Tag dest object) name = kept (keeping_kept w m dest _ lt name)
    step_turns (command.Set object index v) name = change_turn (value_for w m object) (change.Set index (value_for w m v)) tt (has v) name
    step_turns (command.Cas object index expected v) name =
        change_turn (value_for w m object) (change.Exchange index (value_for w m expected) (value_for w m v)) tt (has v) name
    step_turns (command.Update object v) name = change_turn (value_for w m object) (change.Update (value_for w m v)) tt (has v) name
    step_turns (command.Force dest object) name = kept (keeping_kept w m dest _ lt name)
    step_turns (command.Push object v) name = change_turn (value_for w m object) (change.Push m (value_for w m v)) tt (has v) name
    step_turns (command.Pop dest object) name =
        let u = change_object w (value_for w m object) (change.Pop m) in
        then_kept u.0 (keeping u.0 m dest u.1) [] name (change_turn (value_for w m object) (change.Pop m) tt tt name)
        (keeping_kept u.0 m dest u.1 (subst (λ (n : ℕ). m < n) (sym (change_count w (value_for w m object) (change.Pop m))) lt) name)
    step_turns (command.Deref dest object) name = kept (keeping_kept w m dest _ lt name)
    step_turns (command.Finalise dest object) name =
        let u = change_object w (value_for w m object) change.Finalise in
        then_kept u.0 (keeping u.0 m dest u.1) _ name (finalise_turn (value_for w m object) name) (keeping_kept u.0 m dest u.1 (subst (λ (n : ℕ).
        m < n) (sym (change_count w (value_for w m object) change.Finalise)) lt) name)
    step_turns (command.NextFin dest) name = kept (finaliser_kept w m dest lt name)
    step_turns _ name = kept refl

    -- the target of a field in the next world was its target before, or has P
    pub step_adds : (c : Command) (name target : Name) → RefersTo (step w m c).0 name target → RefersTo w name target ⊎ P target
    step_adds c name target r = turn_adds (step w m c).0 (finalised_by w m c) name (step_turns c name) target r

    -- a weak pointer stays alive with its parts, unless the command finalised it
    pub step_alive : (c : Command) (weak : Name) (parts : Parts) → IsAlive w weak parts → IsAlive (step w m c).0 weak parts ⊎ Contains (finalised_by w m c) weak
    step_alive c weak parts a = turn_alive (step w m c).0 (finalised_by w m c) weak (step_turns c weak) parts a
