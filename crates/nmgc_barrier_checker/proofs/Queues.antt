-- A command adds nothing to a finaliser queue.
use Rattle.nmgc_barrier_checker.proofs.Vocabulary.{◌≡◌, ◌≢◌, ◌<◌, ℕ, List, [], ◌∷◌, drop, length, refl, sym, ap, subst, ◌∙◌, Option, Some, None, inl, inr, Contains, cases_eq, eqb_tells, slice_get, SHARED_MAKER, Name, Value, Node, MutatorState, Change, Command, Reply, World, IsWorld, CanApply, state_of, node_of, changed, step, contains_tail}
use Rattle.nmgc_world_spec.specs.{World.with_state, World.with_node, World.keeping, World.change_object, World.change_into, World.value_for, Pieces.with_nth, Pieces.with_new, Pieces.holding, Pieces.holding_given, Pieces.with_finaliser, Pieces.change_node}
use Rattle.nmgc_world_spec.specs.declared.value.Value.TheVariants as value
use Rattle.nmgc_world_spec.specs.declared.command.Command.TheVariants as command
use Rattle.nmgc_world_spec.specs.declared.command.Reply.TheVariants as reply
use Rattle.nmgc_world_spec.specs.declared.change.Change.TheVariants as change
use Rattle.nmgc_world_laws.specs.laws.{NodeLaws.state_same, NodeLaws.state_other, NodeLaws.maker_there, WorldSteps.change_count, Keeps.step_leaves_others}

-- a mutator's queue has no value that it didn't have in another world
abbrev Fewer : World → World → ℕ → Type 0
Fewer w u m = (v : Value) → Contains (state_of u m).queue v → Contains (state_of w m).queue v

of_state : (w : World) (m : ℕ) (q : MutatorState) → m < length w.mutators → ((v : Value) → Contains q.queue v → Contains (state_of w m).queue v) →
    Fewer w (with_state w m q) m
of_state w m q lt f v h = f v (subst (λ (s : MutatorState). Contains s.queue v) (state_same w m q lt) h)

keeping_fewer : (w : World) (m dest : ℕ) (r : Reply) → m < length w.mutators → Fewer w (keeping w m dest r) m
keeping_fewer w m dest (reply.Given x) lt = of_state w m (holding (state_of w m) dest x) lt (λ v h. h)
keeping_fewer w m dest reply.Fine lt = λ v h. h
keeping_fewer w m dest reply.Yes lt = λ v h. h
keeping_fewer w m dest reply.No lt = λ v h. h
keeping_fewer w m dest reply.Updated lt = λ v h. h
keeping_fewer w m dest reply.Already lt = λ v h. h
keeping_fewer w m dest reply.NoPointer lt = λ v h. h
keeping_fewer w m dest reply.NoField lt = λ v h. h
keeping_fewer w m dest reply.WrongKind lt = λ v h. h
keeping_fewer w m dest reply.NotOwner lt = λ v h. h
keeping_fewer w m dest reply.Fixed lt = λ v h. h
keeping_fewer w m dest reply.Dead lt = λ v h. h
keeping_fewer w m dest reply.Nothing lt = λ v h. h
keeping_fewer w m dest reply.StackFull lt = λ v h. h
keeping_fewer w m dest reply.StackEmpty lt = λ v h. h

-- a change of an object leaves every queue
write_queue : (w : World) (name : Name) (found made : Node) → node_of w name ≡ Some found → (k : ℕ) →
    (state_of (with_node w name made) k).queue ≡ (state_of w k).queue
write_queue w name found made there k = elim (eqb_tells name.maker SHARED_MAKER) [ inl p ↦ rw p.0 refl | inr p ↦ rw p.0 (in_state p.1) ]
  where
    in_state : name.maker ≢ SHARED_MAKER →
        (state_of (with_state w name.maker (with_nth (state_of w name.maker) name.serial made)) k).queue ≡ (state_of w k).queue
    in_state own =
        let lt : name.maker < length w.mutators = maker_there w name found made there own in
        let q : MutatorState = with_nth (state_of w name.maker) name.serial made in
        elim (cases_eq k name.maker) [
          | inl e ↦ ap (λ (j : ℕ). (state_of (with_state w name.maker q) j).queue) e ∙
              (ap (λ (s : MutatorState). s.queue) (state_same w name.maker q lt) ∙ ap (λ (j : ℕ). (state_of w j).queue) (sym e))
          | inr other ↦ ap (λ (s : MutatorState). s.queue) (state_other w name.maker q lt k other)
        ]

change_fewer : (w : World) (m : ℕ) (v : Value) (c : Change) → Fewer w (change_object w v c).0 m
change_fewer w m value.Nil c x h = h
change_fewer w m (value.Number n) c x h = h
change_fewer w m (value.Ref name) c x h = by_node (node_of w name) refl h
  where
    by_node : (o : Option Node) → node_of w name ≡ o → Contains (state_of (change_node w name o c).0 m).queue x → Contains (state_of w m).queue x
    by_node None e k = k
    by_node (Some found) e k = subst (λ (l : List Value). Contains l x) (write_queue w name found (changed c name.maker found).0 e m) k

into_fewer : (w : World) (m dest : ℕ) (v : Value) (c : Change) → m < length w.mutators → Fewer w (change_into m dest (change_object w v c)).0 m
into_fewer w m dest v c lt x h = change_fewer w m v c x (keeping_fewer (change_object w v c).0 m dest (change_object w v c).1
    (subst (λ (n : ℕ). m < n) (sym (change_count w v c)) lt) x h)

dropped : (values : List Value) (v : Value) → Contains (drop 1 values) v → Contains values v
dropped [] v h = h
dropped (x ∷ xs) v h = contains_tail x xs v h

given_queue : (state : MutatorState) (dest : ℕ) (o : Option Value) → (holding_given state dest o).queue ≡ state.queue
given_queue state dest None = refl
given_queue state dest (Some v) = refl

finaliser_fewer : (w : World) (m dest : ℕ) → m < length w.mutators → Fewer w (with_state w m (with_finaliser (state_of w m) dest)) m
finaliser_fewer w m dest lt = of_state w m (with_finaliser (state_of w m) dest) lt (λ v h. dropped (state_of w m).queue v
    (subst (λ (l : List Value). Contains l v) (given_queue (record (state_of w m) { queue = drop 1 (state_of w m).queue }) dest
    (slice_get (state_of w m).queue 0)) h))

born_fewer : (w : World) (m dest : ℕ) (made : Node) → m < length w.mutators → Fewer w (with_state w m (with_new (state_of w m) m dest made)) m
born_fewer w m dest made lt = of_state w m (with_new (state_of w m) m dest made) lt (λ v h. h)

own_fewer : (w : World) (m : ℕ) (c : Command) → m < length w.mutators → Fewer w (step w m c).0 m
own_fewer w m (command.Num dest number) lt = of_state w m (holding (state_of w m) dest (value.Number number)) lt (λ v h. h)
own_fewer w m (command.Nil dest) lt = of_state w m (holding (state_of w m) dest value.Nil) lt (λ v h. h)
own_fewer w m (command.Mov dest x) lt = of_state w m (holding (state_of w m) dest (value_for w m x)) lt (λ v h. h)
own_fewer w m (command.Con dest tag fields) lt = born_fewer w m dest _ lt
own_fewer w m (command.Var dest x) lt = born_fewer w m dest _ lt
own_fewer w m (command.Arr dest count x) lt = born_fewer w m dest _ lt
own_fewer w m (command.Rec dest fields) lt = born_fewer w m dest _ lt
own_fewer w m (command.Thunk dest free) lt = born_fewer w m dest _ lt
own_fewer w m (command.Weak dest key x finaliser) lt = born_fewer w m dest _ lt
own_fewer w m (command.Stack dest size) lt = born_fewer w m dest _ lt
own_fewer w m (command.Get dest object index) lt = keeping_fewer w m dest _ lt
own_fewer w m (command.Tag dest object) lt = keeping_fewer w m dest _ lt
own_fewer w m (command.Set object index x) lt = change_fewer w m (value_for w m object) (change.Set index (value_for w m x))
own_fewer w m (command.Cas object index expected x) lt =
    change_fewer w m (value_for w m object) (change.Exchange index (value_for w m expected) (value_for w m x))
own_fewer w m (command.Update object x) lt = change_fewer w m (value_for w m object) (change.Update (value_for w m x))
own_fewer w m (command.Force dest object) lt = keeping_fewer w m dest _ lt
own_fewer w m (command.Push object x) lt = change_fewer w m (value_for w m object) (change.Push m (value_for w m x))
own_fewer w m (command.Pop dest object) lt = into_fewer w m dest (value_for w m object) (change.Pop m) lt
own_fewer w m (command.Deref dest object) lt = keeping_fewer w m dest _ lt
own_fewer w m (command.Finalise dest object) lt = into_fewer w m dest (value_for w m object) change.Finalise lt
own_fewer w m (command.NextFin dest) lt = finaliser_fewer w m dest lt
own_fewer w m (command.Show x) lt = λ v h. h
own_fewer w m (command.Same left right) lt = λ v h. h
own_fewer w m command.Yield lt = λ v h. h
own_fewer w m command.Collect lt = λ v h. h
own_fewer w m command.Full lt = λ v h. h

pub queue_fewer : (w : World) (m : ℕ) (c : Command) → IsWorld w → CanApply w m c → (k : ℕ) → Fewer w (step w m c).0 k
queue_fewer w m c is can k = elim (cases_eq k m) [
  | inl e ↦ subst (Fewer w (step w m c).0) (sym e) (own_fewer w m c can.mutator)
  | inr ne ↦ λ v h. subst (λ (l : List Value). Contains l v) (step_leaves_others w m c is can k ne).queue h
]
