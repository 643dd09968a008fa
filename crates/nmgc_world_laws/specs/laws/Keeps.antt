-- The nodes, and the state of other mutators, after every command.
use Rattle.std.proofs.{Common.◌≡◌, Common.◌≢◌, Common.◌<◌, Common.ℕ, Common.length, Common.refl, Common.sym, Common.ap, Common.subst, Common.◌∙◌, Common.length-set, Common.Option, Common.Some, Common.None, Common.inl, Common.inr, lemmas.Bool.cases_eq, lemmas.Bool.Decides.eqb_tells}
use Rattle.std.specs.Prelude.{IfSome, All}
use Rattle.nmgc_world_spec.specs.{declared.command.Command.Command, declared.change.Change.Change, declared.value.Name.Name, declared.value.Value.Value, declared.node.Node.Node, declared.mutator_state.MutatorState.MutatorState, World.World, World.state_of, World.node_of, World.held_by, World.changed, World.tag_read, World.with_state, World.with_node, World.next_name, World.step, Pieces.with_nth, Known.given}
use Rattle.nmgc_world_spec.specs.declared.command.Command.TheVariants as command
use Rattle.nmgc_limits.specs.declared.mutators.TheConstants.{SHARED_MAKER}
use Rattle.nmgc_lists.specs.laws.Items.{at_some}
use Rattle.nmgc_world_laws.specs.{Shape.made_by, Leaves.SameHands, Leaves.StepLeavesOthers, laws.Barrier.Writes, laws.Barrier.tag_read_has, laws.Steps.Hand, laws.Steps.Object, laws.Steps.Stepped, laws.Steps.AllHeld, laws.Steps.OfNumber, laws.Steps.step_is, laws.NodeLaws.state_same, laws.NodeLaws.state_other, laws.NodeLaws.nodes_kept, laws.NodeLaws.node_born, laws.NodeLaws.node_cases, laws.NodeLaws.as_many, laws.NodeLaws.maker_there}

-- a property that every value has
abbrev pub Any : Value → Type 0
Any v = Unit {0}

any_held : (w : World) → AllHeld Any w
any_held w = record {
  registers = λ k i d lt. tt;
  queues = λ k i d lt. tt;
  nodes = λ name. by_node (node_of w name);
  tags = λ name. tagged (node_of w name);
}
  where
    tagged : (o : Option Node) → IfSome o (λ (node : Node). IfSome (given (tag_read node)) Any)
    tagged None = tt
    tagged (Some node) = tag_read_has Any node (λ n. tt)

    by_node : (o : Option Node) → IfSome o (λ (node : Node). All Any (held_by node))
    by_node None = tt
    by_node (Some node) = λ i d lt. tt

any_number : (c : Command) → OfNumber Any c
any_number (command.Num dest n) = tt
any_number _ = tt

pub stepped : (w : World) (m : ℕ) (c : Command) → Stepped Any w m c (step w m c).0
stepped w m c = step_is Any w m c (any_held w) (record { nil = tt; shared = tt; number = any_number c })

module _ (Q : Value → Type 0) where
  -- a change of registers or queue changes no node
  pub hand_nodes : (w : World) (m : ℕ) (v : World) → m < length w.mutators → Hand Q w m v → (name : Name) → node_of v name ≡ node_of w name
  hand_nodes w m v lt (Hand.same e) name = ap (λ (u : World). node_of u name) e
  hand_nodes w m v lt (Hand.other registers queue e hr hq) name = ap (λ (u : World). node_of u name) e ∙
      nodes_kept w m (record { registers = registers; queue = queue; nodes = (state_of w m).nodes }) lt refl name

  pub object_count : (w : World) (m : ℕ) (c : Command) (v : World) → Object Q w m c v → length v.mutators ≡ length w.mutators
  object_count w m c v (Object.same e) = ap (λ (u : World). length u.mutators) e
  object_count w m c v (Object.birth register made is e) = ap (λ (u : World). length u.mutators) e ∙ length-set w.mutators m _
  object_count w m c v (Object.write name found ch there asks q e) = ap (λ (u : World). length u.mutators) e ∙
      as_many w name found (changed ch name.maker found).0 there

  -- the mutator still exists between the two halves of a step
  pub still_there : (w : World) (m : ℕ) (c : Command) (v : World) → m < length w.mutators → (s : Stepped Q w m c v) → m < length s.between.mutators
  still_there w m c v lt s = subst (λ (n : ℕ). m < n) (sym (object_count w m c s.between s.object)) lt

  -- a property of each name's node that a new node has and a change keeps
  module _ (F : Name → Node → Type 0) (w : World) (m : ℕ) (c : Command) (lt : m < length w.mutators) (own : m ≢ SHARED_MAKER)
      (makes : (made : Node) → made_by w m c ≡ Some made → F (next_name (state_of w m) m) made)
      (keeps : (name : Name) (found : Node) (change : Change) → node_of w name ≡ Some found → Writes Q change → F name found →
      F name (changed change name.maker found).0) where
    object_nodes : (v : World) → Object Q w m c v → ((name : Name) → IfSome (node_of w name) (F name)) → (name : Name) → IfSome (node_of v name) (F name)
    object_nodes v (Object.same e) h name = subst (λ (u : World). IfSome (node_of u name) (F name)) (sym e) (h name)
    object_nodes v (Object.birth register made is e) h name =
        subst (λ (u : World). IfSome (node_of u name) (F name)) (sym e) (elim (node_born w m register made lt own name) [
          | inl b ↦ subst (λ (o : Option Node). IfSome o (F name)) (sym b.1) (subst (λ (n : Name). F n made) (sym b.0) (makes made is))
          | inr b ↦ subst (λ (o : Option Node). IfSome o (F name)) (sym b) (h name)
        ])
    object_nodes v (Object.write at found ch there asks q e) h name =
        subst (λ (u : World). IfSome (node_of u name) (F name)) (sym e) (elim (node_cases w at found (changed ch at.maker found).0 there name) [
          | inl is ↦ subst (λ (o : Option Node). IfSome o (F name)) (sym is.1) (subst (λ (k : Name).
              F k (changed ch at.maker found).0) (sym is.0) (keeps at found ch there q (at_some (node_of w at) found (F at) there (h at))))
          | inr other ↦ subst (λ (o : Option Node). IfSome o (F name)) (sym other.1) (h name)
        ])

    pub stepped_nodes : (v : World) → Stepped Q w m c v → ((name : Name) → IfSome (node_of w name) (F name)) → (name : Name) → IfSome (node_of v name) (F name)
    stepped_nodes v s h name =
        subst (λ (o : Option Node).
        IfSome o (F name)) (sym (hand_nodes s.between m v (still_there w m c v lt s) s.hand name)) (object_nodes s.between s.object h name)

-- a mutator has the same in hand as itself
same_hands : (s : MutatorState) → SameHands s s
same_hands s = record { registers = refl; queue = refl; made = refl }

pub then_hands : (r s t : MutatorState) → SameHands r s → SameHands s t → SameHands r t
then_hands r s t a b = record { registers = b.registers ∙ a.registers; queue = b.queue ∙ a.queue; made = b.made ∙ a.made }

equal_hands : (s t : MutatorState) → t ≡ s → SameHands s t
equal_hands s t e = subst (λ (x : MutatorState). SameHands s x) (sym e) (same_hands s)

-- a change of an object changes no mutator's registers, queue or number of objects
write_hands : (w : World) (name : Name) (found made : Node) → node_of w name ≡ Some found → (k : ℕ) →
    SameHands (state_of w k) (state_of (with_node w name made) k)
write_hands w name found made there k = elim (eqb_tells name.maker SHARED_MAKER) [
  | inl p ↦ rw p.0 (same_hands (state_of w k))
  | inr p ↦ rw p.0 (in_state p.1)
]
  where
    in_state : name.maker ≢ SHARED_MAKER → SameHands (state_of w k) (state_of (with_state w name.maker (with_nth (state_of w name.maker) name.serial made)) k)
    in_state own =
        let lt : name.maker < length w.mutators = maker_there w name found made there own in
        let q : MutatorState = with_nth (state_of w name.maker) name.serial made in
        elim (cases_eq k name.maker) [
          | inl e ↦ subst (λ (j : ℕ). SameHands (state_of w j) (state_of (with_state w name.maker q) j)) (sym e) (subst (λ (s : MutatorState).
              SameHands (state_of w name.maker) s) (sym (state_same w name.maker q lt)) (record {
                registers = refl;
                queue = refl;
                made = length-set (state_of w name.maker).nodes name.serial made;
              }))
          | inr other ↦ equal_hands (state_of w k) (state_of (with_state w name.maker q) k) (state_other w name.maker q lt k other)
        ]

-- a command leaves the registers, the queue and the number of objects of all other mutators
module _ (Q : Value → Type 0) (k : ℕ) where
  hand_leaves : (w : World) (m : ℕ) (v : World) → m < length w.mutators → k ≢ m → Hand Q w m v → SameHands (state_of w k) (state_of v k)
  hand_leaves w m v lt other (Hand.same e) = equal_hands (state_of w k) (state_of v k) (ap (λ (u : World). state_of u k) e)
  hand_leaves w m v lt other (Hand.other registers queue e hr hq) = equal_hands (state_of w k) (state_of v k) (ap (λ (u : World). state_of u k) e ∙
      state_other w m _ lt k other)

  object_leaves : (w : World) (m : ℕ) (c : Command) (v : World) → m < length w.mutators → k ≢ m → Object Q w m c v → SameHands (state_of w k) (state_of v k)
  object_leaves w m c v lt other (Object.same e) = equal_hands (state_of w k) (state_of v k) (ap (λ (u : World). state_of u k) e)
  object_leaves w m c v lt other (Object.birth register made is e) = equal_hands (state_of w k) (state_of v k) (ap (λ (u : World). state_of u k) e ∙
      state_other w m _ lt k other)
  object_leaves w m c v lt other (Object.write name found ch there asks q e) =
      subst (λ (u : World). SameHands (state_of w k) (state_of u k)) (sym e) (write_hands w name found (changed ch name.maker found).0 there k)

  stepped_leaves : (w : World) (m : ℕ) (c : Command) (v : World) → m < length w.mutators → k ≢ m → Stepped Q w m c v → SameHands (state_of w k) (state_of v k)
  stepped_leaves w m c v lt other s =
      then_hands (state_of w k) (state_of s.between k) (state_of v k) (object_leaves w m c s.between lt other s.object)
      (hand_leaves s.between m v (still_there Q w m c v lt s) other s.hand)

pub step_leaves_others : StepLeavesOthers
step_leaves_others w m c is can k other = stepped_leaves Any k w m c (step w m c).0 can.mutator other (stepped w m c)
