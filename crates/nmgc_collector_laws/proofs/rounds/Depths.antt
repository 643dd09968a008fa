-- The depth of each own stack, as a hand lists it, along the commands of a round.
use Rattle.nmgc_collector_laws.proofs.Vocabulary.{◌≡◌, ◌≢◌, ◌⊎◌, ℕ, ◌+◌, ◌-◌, ◌/◌, ◌<◌, Bool, true, false, cond, eqb, ltb, List, [], ◌∷◌, ◌++◌, length, take, refl, sym, ap, subst, ◌∙◌, arith, Option, Some, None, inl, inr, eq-eqb, ne_eqb, lt-ltb, le-ltb, length-append, length-take, min, cases_lt, eqb_tells, none-some, same_Some, some_pair_parts, SHARED_MAKER, Name, Value, Node, Con, Var, Arr, Thunk, Weak, Stack, Change, Operand, Command, Reply, World, state_of, node_of, given, changed, stack_pushed, stack_popped, given_or, without_last, last_of, shared_name, value_for, with_node, with_register, world_holding, keeping, next_name, asked, born, change_node, change_object, step, kind_of, made_by, next_is_new, node_cases, node_born, nodes_kept, as_many, changed_shape, Stepped, Any, stepped, hand_nodes, still_there, Place, Means, ListMeans, Answer, plain, word, Hand, with_slots, taking, pushed, leaves, word_of, slots_at, Answers, slots_same, slots_other, SHARED_PLACE, empty_last, plain_is}
use Rattle.nmgc_world_laws.specs.laws.Steps.{Object}
use Rattle.nmgc_world_spec.specs.declared.value.Value.TheVariants as value
use Rattle.nmgc_world_spec.specs.declared.node.Kind.TheVariants as kind
use Rattle.nmgc_world_spec.specs.declared.change.Change.TheVariants as change
use Rattle.nmgc_world_spec.specs.declared.command.Command.TheVariants as command
use Rattle.nmgc_world_spec.specs.declared.command.Reply.TheVariants as reply
use Rattle.nmgc_collector_laws.proofs.rounds.RowRegisters.{IsPlain, operand_means, kept_none}

-- the hand lists the depth of the stack at an address
abbrev pub HasDepth : Hand → ℕ → List Value → Type 0
HasDepth h at values = (ws : List ℕ) × (slots_at h.stacks at ≡ Some ws) × (length ws ≡ length values)

-- the hand lists the depth of each stack that the mutator made
abbrev pub Depths : (Place → Type 0) → ℕ → World → Hand → Type 0
Depths P m w h = (p : Place) (size : ℕ) (values : List Value) → P p → p.name.maker ≡ m → node_of w p.name ≡ Some (Stack size values) → HasDepth h p.at values

-- a change isn't a push to an own stack, nor a pop off one
abbrev NotOwn : Change → ℕ → Type 0
NotOwn (change.Push m v) maker = maker ≢ m
NotOwn (change.Pop m) maker = maker ≢ m
NotOwn _ maker = Unit {0}

still_stack : (ch : Change) (maker size : ℕ) (values : List Value) → NotOwn ch maker → (changed ch maker (Stack size values)).0 ≡ Stack size values
still_stack (change.Set index v) maker size values n = refl
still_stack (change.Exchange index expected v) maker size values n = refl
still_stack (change.Update v) maker size values n = refl
still_stack (change.Push k v) maker size values n = ap (λ b. (cond {A = Node ×
    Reply} b (cond {A = Node × Reply} (ltb (length values) size) (Stack size (values ++ v ∷ []), reply.Fine) (
      Stack size values,
      reply.StackFull,
    )) (Stack size values, reply.NotOwner)).0) (ne_eqb maker k n)
still_stack (change.Pop k) maker size values n = ap (λ b. (cond {A = Node × Reply} b (
  Stack size (without_last values),
  given_or reply.StackEmpty (last_of values),
) (Stack size values, reply.NotOwner)).0) (ne_eqb maker k n)
still_stack change.Finalise maker size values n = refl

stack_kind : (n : Node) → kind_of n ≡ kind.Stack → (size : ℕ) × (values : List Value) × (n ≡ Stack size values)
stack_kind (Con tag values) e = absurd cc
stack_kind (Var v) e = absurd cc
stack_kind (Arr values) e = absurd cc
stack_kind (Thunk free result) e = absurd cc
stack_kind (Weak parts) e = absurd cc
stack_kind (Stack size values) e = (size, values, refl)

before_stack : (ch : Change) (maker : ℕ) (found : Node) (size : ℕ) (values : List Value) → NotOwn ch maker →
    (changed ch maker found).0 ≡ Stack size values → found ≡ Stack size values
before_stack ch maker found size values n e =
    let k : kind_of found ≡ kind.Stack = sym (changed_shape ch maker found).kind ∙ ap kind_of e in
    let t = stack_kind found k in
    t.2 ∙ sym (still_stack ch maker t.0 t.1 n) ∙ ap (λ (x : Node). (changed ch maker x).0) (sym t.2) ∙ e

-- a stack after a step was there before it, with the same values, unless the step made it, or was an own push or pop
stack_before : (w : World) (k : ℕ) (c : Command) → k < length w.mutators → k ≢ SHARED_MAKER → (name : Name) (size : ℕ) (values : List Value)
    → ((ch : Change) → asked w k c ≡ Some (value.Ref name, ch) → NotOwn ch name.maker)
    → (made_by w k c ≡ Some (Stack size values) → name ≡ next_name (state_of w k) k → ⊥)
    → node_of (step w k c).0 name ≡ Some (Stack size values) → node_of w name ≡ Some (Stack size values)
stack_before w k c lt own name size values asks makes e =
    let s : Stepped Any w k c (step w k c).0 = stepped w k c in
    by_object s.between s.object (sym (hand_nodes Any s.between k (step w k c).0 (still_there Any w k c (step w k c).0 lt s) s.hand name) ∙ e)
  where
    by_object : (v : World) → Object Any w k c v → node_of v name ≡ Some (Stack size values) → node_of w name ≡ Some (Stack size values)
    by_object v (Object.same is) there = ap (λ (u : World). node_of u name) (sym is) ∙ there
    by_object v (Object.birth register made makes_it is) there =
        let now : node_of (born w k register made).0 name ≡ Some (Stack size values) = ap (λ (u : World). node_of u name) (sym is) ∙ there in
        elim (node_born w k register made lt own name) [
          | inl b ↦ let both : Some made ≡ Some (Stack size values) = sym b.1 ∙ now in absurd (makes (makes_it ∙ both) b.0)
          | inr b ↦ sym b ∙ now
        ]
    by_object v (Object.write at found ch there_at asks_it q is) there =
        let now : node_of (with_node w at (changed ch at.maker found).0) name ≡ Some (Stack size values) =
        ap (λ (u : World). node_of u name) (sym is) ∙ there in
        elim (node_cases w at found (changed ch at.maker found).0 there_at name) [
          | inl b ↦
              let same : (changed ch at.maker found).0 ≡ Stack size values = same_Some _ _ (sym b.1 ∙ now) in
              let free : NotOwn ch at.maker = subst (λ (n : Name). NotOwn ch n.maker) b.0 (asks ch (asks_it ∙ ap (λ n. Some (value.Ref n, ch)) (sym b.0))) in
              ap (λ n. node_of w n) b.0 ∙ there_at ∙ ap (λ n. Some n) (before_stack ch at.maker found size values free same)
          | inr other ↦ sym other.1 ∙ now
        ]

-- a change that another mutator asks for is no own push or pop
asked_other : (w : World) (k : ℕ) (c : Command) (v : Value) (ch : Change) (maker : ℕ) → asked w k c ≡ Some (v, ch) → maker ≢ k → NotOwn ch maker
asked_other w k (command.Set object index x) v ch maker e ne = subst (λ c. NotOwn c maker) (some_pair_parts _ v _ ch e).1 tt
asked_other w k (command.Cas object index expected x) v ch maker e ne = subst (λ c. NotOwn c maker) (some_pair_parts _ v _ ch e).1 tt
asked_other w k (command.Update object x) v ch maker e ne = subst (λ c. NotOwn c maker) (some_pair_parts _ v _ ch e).1 tt
asked_other w k (command.Push object x) v ch maker e ne = subst (λ c. NotOwn c maker) (some_pair_parts _ v _ ch e).1 ne
asked_other w k (command.Pop dest object) v ch maker e ne = subst (λ c. NotOwn c maker) (some_pair_parts _ v _ ch e).1 ne
asked_other w k (command.Finalise dest object) v ch maker e ne = subst (λ c. NotOwn c maker) (some_pair_parts _ v _ ch e).1 tt
asked_other w k _ v ch maker e ne = absurd (none-some _ e)

-- a command that touches no stack
abbrev pub LeavesStacks : Command → Type 0
LeavesStacks (command.Stack dest size) = ⊥
LeavesStacks (command.Push object v) = ⊥
LeavesStacks (command.Pop dest object) = ⊥
LeavesStacks _ = Unit {0}

asked_none : (w : World) (k : ℕ) (c : Command) (v : Value) (ch : Change) (maker : ℕ) → LeavesStacks c → asked w k c ≡ Some (v, ch) → NotOwn ch maker
asked_none w k (command.Set object index x) v ch maker l e = subst (λ c. NotOwn c maker) (some_pair_parts _ v _ ch e).1 tt
asked_none w k (command.Cas object index expected x) v ch maker l e = subst (λ c. NotOwn c maker) (some_pair_parts _ v _ ch e).1 tt
asked_none w k (command.Update object x) v ch maker l e = subst (λ c. NotOwn c maker) (some_pair_parts _ v _ ch e).1 tt
asked_none w k (command.Finalise dest object) v ch maker l e = subst (λ c. NotOwn c maker) (some_pair_parts _ v _ ch e).1 tt
asked_none w k (command.Push object x) v ch maker l e = absurd l
asked_none w k (command.Pop dest object) v ch maker l e = absurd l
asked_none w k _ v ch maker l e = absurd (none-some _ e)

made_none : (w : World) (k : ℕ) (c : Command) (size : ℕ) (values : List Value) → LeavesStacks c → made_by w k c ≡ Some (Stack size values) → ⊥
made_none w k (command.Con dest tag fields) size values l e = let is : kind.Con ≡ kind.Stack = ap kind_of (same_Some _ (Stack size values) e) in cc
made_none w k (command.Var dest v) size values l e = let is : kind.Var ≡ kind.Stack = ap kind_of (same_Some _ (Stack size values) e) in cc
made_none w k (command.Arr dest count v) size values l e = let is : kind.Arr ≡ kind.Stack = ap kind_of (same_Some _ (Stack size values) e) in cc
made_none w k (command.Rec dest fields) size values l e = let is : kind.Arr ≡ kind.Stack = ap kind_of (same_Some _ (Stack size values) e) in cc
made_none w k (command.Thunk dest free) size values l e = let is : kind.Thunk ≡ kind.Stack = ap kind_of (same_Some _ (Stack size values) e) in cc
made_none w k (command.Weak dest key v finaliser) size values l e = let is : kind.Weak ≡ kind.Stack = ap kind_of (same_Some _ (Stack size values) e) in cc
made_none w k (command.Stack dest n) size values l e = l
made_none w k _ size values l e = none-some _ e

taking_stacks : (h : Hand) (dest : ℕ) (a : Answer) → (taking h dest a).stacks ≡ h.stacks
taking_stacks h dest (plain r) = refl
taking_stacks h dest (word w) = refl

same_stacks : (h : Hand) (c : Command) (a : Answer) → LeavesStacks c → (leaves h c a).stacks ≡ h.stacks
same_stacks h (command.Num dest n) a l = refl
same_stacks h (command.Nil dest) a l = refl
same_stacks h (command.Mov dest v) a l = refl
same_stacks h (command.Con dest tag fields) a l = taking_stacks (record h { serial = h.serial + 1 }) dest a
same_stacks h (command.Var dest v) a l = taking_stacks (record h { serial = h.serial + 1 }) dest a
same_stacks h (command.Arr dest count v) a l = taking_stacks (record h { serial = h.serial + 1 }) dest a
same_stacks h (command.Rec dest fields) a l = taking_stacks (record h { serial = h.serial + 1 }) dest a
same_stacks h (command.Thunk dest free) a l = taking_stacks (record h { serial = h.serial + 1 }) dest a
same_stacks h (command.Weak dest key v finaliser) a l = taking_stacks (record h { serial = h.serial + 1 }) dest a
same_stacks h (command.Stack dest size) a l = absurd l
same_stacks h (command.Get dest object index) a l = taking_stacks h dest a
same_stacks h (command.Tag dest object) a l = taking_stacks h dest a
same_stacks h (command.Set object index v) a l = refl
same_stacks h (command.Cas object index expected v) a l = refl
same_stacks h (command.Update object v) a l = refl
same_stacks h (command.Force dest object) a l = taking_stacks h dest a
same_stacks h (command.Push object v) a l = absurd l
same_stacks h (command.Pop dest object) a l = absurd l
same_stacks h (command.Deref dest object) a l = taking_stacks h dest a
same_stacks h (command.Finalise dest object) a l = taking_stacks h dest a
same_stacks h (command.NextFin dest) a l = taking_stacks _ dest a
same_stacks h (command.Show v) a l = refl
same_stacks h (command.Same left right) a l = refl
same_stacks h command.Yield a l = refl
same_stacks h command.Collect a l = refl
same_stacks h command.Full a l = refl

-- writing the same node again changes nothing
again : (w : World) (name : Name) (found made : Node) → node_of w name ≡ Some found → made ≡ found → (n : Name) →
    node_of (with_node w name made) n ≡ node_of w n
again w name found made there is n = elim (node_cases w name found made there n) [
  | inl b ↦ b.1 ∙ ap (λ (x : Node). Some x) is ∙ sym there ∙ ap (λ y. node_of w y) (sym b.0)
  | inr b ↦ b.1
]

-- a push that was done
pub record PushDone (w : World) (m : ℕ) (object x : Value) : Type 0 where
  pub name : Name
  pub refers : object ≡ value.Ref name
  pub size : ℕ
  pub values : List Value
  pub there : node_of w name ≡ Some (Stack size values)
  pub mine : name.maker ≡ m
  pub room : length values < size
  pub gives : (change_object w object (change.Push m x)).1 ≡ reply.Fine
  pub after : (change_object w object (change.Push m x)).0 ≡ with_node w name (Stack size (values ++ x ∷ []))

abbrev PushCases : World → ℕ → Value → Value → World × Reply → Type 0
PushCases w m object x r = PushDone w m object x ⊎ ((r.1 ≡ reply.Fine → ⊥) × ((n : Name) → node_of r.0 n ≡ node_of w n))

pub push_cases : (w : World) (m : ℕ) (object x : Value) → PushCases w m object x (change_object w object (change.Push m x))
push_cases w m value.Nil x = inr (λ e. cc, λ n. refl)
push_cases w m (value.Number k) x = inr (λ e. cc, λ n. refl)
push_cases w m (value.Ref name) x = by_node (node_of w name) refl
  where
    kept : (found : Node) → node_of w name ≡ Some found → (stack_pushed (eqb name.maker m) found x).0 ≡ found →
        ((stack_pushed (eqb name.maker m) found x).1 ≡ reply.Fine → ⊥) → PushCases w m (value.Ref name) x (change_node w name (Some found) (change.Push m x))
    kept found there same ne = inr (ne, λ n. again w name found (stack_pushed (eqb name.maker m) found x).0 there same n)

    by_node : (o : Option Node) → node_of w name ≡ o → PushCases w m (value.Ref name) x (change_node w name o (change.Push m x))
    by_node None there = inr (λ e. cc, λ n. refl)
    by_node (Some (Con tag values)) there = kept (Con tag values) there refl (λ e. cc)
    by_node (Some (Var v)) there = kept (Var v) there refl (λ e. cc)
    by_node (Some (Arr values)) there = kept (Arr values) there refl (λ e. cc)
    by_node (Some (Thunk free result)) there = kept (Thunk free result) there refl (λ e. cc)
    by_node (Some (Weak parts)) there = kept (Weak parts) there refl (λ e. cc)
    by_node (Some (Stack size values)) there =
        let made : Node = Stack size (values ++ x ∷ []) in
        let full : Node × Reply = (Stack size values, reply.StackFull) in
        let other : Node × Reply = (Stack size values, reply.NotOwner) in
        let F : Bool → Bool → Node × Reply = λ a b. cond {A = Node × Reply} a (cond {A = Node × Reply} b (made, reply.Fine) full) other in
        elim (eqb_tells name.maker m) [
          | inl t ↦ elim (cases_lt (length values) size) [
            | inl lt ↦
                let is : stack_pushed (eqb name.maker m) (Stack size values) x ≡ (made, reply.Fine) = cc (t.0, lt-ltb (length values) size lt) in
                inl (record {
                  name = name;
                  refers = refl;
                  size = size;
                  values = values;
                  there = there;
                  mine = t.1;
                  room = lt;
                  gives = ap (λ o. (change_node w name o (change.Push m x)).1) there ∙ ap (λ (y : Node × Reply). y.1) is;
                  after = ap (λ o. (change_node w name o (change.Push m x)).0) there ∙ ap (λ (y : Node × Reply). with_node w name y.0) is;
                })
            | inr le ↦
                let is : stack_pushed (eqb name.maker m) (Stack size values) x ≡ full = cc (t.0, le-ltb (length values) size le) in
                kept (Stack size values) there (ap (λ (y : Node × Reply). y.0) is) (λ e.
                let bad : reply.StackFull ≡ reply.Fine = sym (ap (λ (y : Node × Reply). y.1) is) ∙ e in cc)
          ]
          | inr t ↦
              let is : stack_pushed (eqb name.maker m) (Stack size values) x ≡ other = ap (λ a. F a (ltb (length values) size)) t.0 in
              kept (Stack size values) there (ap (λ (y : Node × Reply). y.0) is) (λ e.
              let bad : reply.NotOwner ≡ reply.Fine = sym (ap (λ (y : Node × Reply). y.1) is) ∙ e in cc)
        ]

-- a pop that was done
record PopDone (w : World) (m : ℕ) (object : Value) : Type 0 where
  name : Name
  refers : object ≡ value.Ref name
  size : ℕ
  values : List Value
  there : node_of w name ≡ Some (Stack size values)
  mine : name.maker ≡ m
  top : Value
  gives : (change_object w object (change.Pop m)).1 ≡ reply.Given top
  after : (change_object w object (change.Pop m)).0 ≡ with_node w name (Stack size (without_last values))

abbrev PopCases : World → ℕ → Value → World × Reply → Type 0
PopCases w m object r = PopDone w m object ⊎ ((given r.1 ≡ None) × ((n : Name) → node_of r.0 n ≡ node_of w n))

pop_kept : (w : World) (m : ℕ) (name : Name) (found : Node) → node_of w name ≡ Some found → (stack_popped (eqb name.maker m) found).0 ≡ found →
    given (stack_popped (eqb name.maker m) found).1 ≡ None → PopCases w m (value.Ref name) (change_node w name (Some found) (change.Pop m))
pop_kept w m name found there same none = inr (none, λ n. again w name found (stack_popped (eqb name.maker m) found).0 there same n)

abbrev popped_as : ℕ → List Value → Bool → Node × Reply
popped_as size values a = cond {A = Node × Reply} a (
  Stack size (without_last values),
  given_or reply.StackEmpty (last_of values),
) (Stack size values, reply.NotOwner)

pop_stack : (w : World) (m : ℕ) (name : Name) (size : ℕ) (values : List Value) → node_of w name ≡ Some (Stack size values) →
    PopCases w m (value.Ref name) (change_node w name (Some (Stack size values)) (change.Pop m))
pop_stack w m name size values there = elim (eqb_tells name.maker m) [ inl t ↦ by_last t.0 t.1 (last_of values) refl | inr t ↦ foreign t.0 ]
  where
    foreign : eqb name.maker m ≡ false → PopCases w m (value.Ref name) (change_node w name (Some (Stack size values)) (change.Pop m))
    foreign off = pop_kept w m name (Stack size values) there (ap (λ a. (popped_as size values a).0) off) (ap (λ a. given (popped_as size values a).1) off)

    by_last : eqb name.maker m ≡ true → name.maker ≡ m → (o : Option Value) → last_of values ≡ o →
        PopCases w m (value.Ref name) (change_node w name (Some (Stack size values)) (change.Pop m))
    by_last on mine None e = pop_kept w m name (Stack size values) there (cc (on, empty_last values e)) (cc (on, e))
    by_last on mine (Some top) e = inl (record {
      name = name;
      refers = refl;
      size = size;
      values = values;
      there = there;
      mine = mine;
      top = top;
      gives = ap (λ o. (change_node w name o (change.Pop m)).1) there ∙ ap (λ a. (popped_as size values a).1) on ∙ ap (λ o. given_or reply.StackEmpty o) e;
      after = ap (λ o. (change_node w name o (change.Pop m)).0) there ∙ ap (λ a. with_node w name (popped_as size values a).0) on;
    })

pop_cases : (w : World) (m : ℕ) (object : Value) → PopCases w m object (change_object w object (change.Pop m))
pop_cases w m value.Nil = inr (refl, λ n. refl)
pop_cases w m (value.Number k) = inr (refl, λ n. refl)
pop_cases w m (value.Ref name) = by_node (node_of w name) refl
  where
    by_node : (o : Option Node) → node_of w name ≡ o → PopCases w m (value.Ref name) (change_node w name o (change.Pop m))
    by_node None there = inr (refl, λ n. refl)
    by_node (Some (Con tag values)) there = pop_kept w m name (Con tag values) there refl refl
    by_node (Some (Var v)) there = pop_kept w m name (Var v) there refl refl
    by_node (Some (Arr values)) there = pop_kept w m name (Arr values) there refl refl
    by_node (Some (Thunk free result)) there = pop_kept w m name (Thunk free result) there refl refl
    by_node (Some (Weak parts)) there = pop_kept w m name (Weak parts) there refl refl
    by_node (Some (Stack size values)) there = pop_stack w m name size values there

-- the stacks of the hand if it wasn't done
pushed_not : (h : Hand) (object w : ℕ) (a : Answer) → (a ≡ plain reply.Fine → ⊥) → (pushed h object w a).stacks ≡ h.stacks
pushed_not h object w (word n) ne = refl
pushed_not h object w (plain reply.Fine) ne = absurd (ne refl)
pushed_not h object w (plain _) ne = refl

-- a register more or less changes no node
keeping_nodes : (u : World) (m dest : ℕ) (v : Value) → m < length u.mutators → (n : Name) → node_of (with_register u m dest v) n ≡ node_of u n
keeping_nodes u m dest v lt n = nodes_kept u m (world_holding (state_of u m) dest v) lt refl n

module _ (P : Place → Type 0) (one : (p q : Place) → P p → P q → (p.name ≡ q.name) ⊎ (p.at ≡ q.at) →
    p ≡ q) (m : ℕ) (w : World) (own : m ≢ SHARED_MAKER) (h : Hand) (d : Depths P m w h) where
  -- another mutator's command
  pub depths_other : (k : ℕ) (c : Command) → k < length w.mutators → k ≢ SHARED_MAKER → k ≢ m → Depths P m (step w k c).0 h
  depths_other k c lt theirs ne p size values here mine there = d p size values here mine
      (stack_before w k c lt theirs p.name size values (λ ch e.
      asked_other w k c (value.Ref p.name) ch p.name.maker e (λ same. ne (sym same ∙ mine))) (λ made is.
      ne (sym (ap (λ (n : Name). n.maker) is) ∙ mine)) there)

  module _ (lt : m < length w.mutators) (shared : P (record {
    at = SHARED_PLACE;
    name = shared_name;
  })) (means : ListMeans P h.registers (state_of w m).registers) where
    plain_left : (c : Command) (a : Answer) → LeavesStacks c → Depths P m (step w m c).0 (leaves h c a)
    plain_left c a l p size values here mine there =
        let r = d p size values here mine (stack_before w m c lt own p.name size values (λ ch e.
        asked_none w m c (value.Ref p.name) ch p.name.maker l e) (λ made is. made_none w m c size values l made) there) in
        (r.0, ap (λ k. slots_at k p.at) (same_stacks h c a l) ∙ r.1, r.2)

    -- one more stack
    stack_left : (dest n : ℕ) (a : Answer) → Answers P a (born w m dest (Stack n [])).1 → IsPlain a →
        Depths P m (born w m dest (Stack n [])).0 (leaves h (command.Stack dest n) a)
    stack_left dest n (plain x) e none p size values here mine there =
        let bad : given x ≡ Some (value.Ref (next_name (state_of w m) m)) = ap given e in absurd cc
    stack_left dest n (word wd) (v, e, k) none p size values here mine there =
        let next : Name = next_name (state_of w m) m in
        let is : v ≡ value.Ref next = cc in
        let t = subst (Means P wd) is k in
        let half : wd / 2 ≡ t.0 = let e = t.1 in omega arith in
        let q : Place = record { at = t.0; name = next } in
        elim (node_born w m dest (Stack n []) lt own p.name) [
          | inl b ↦
              let both : Some (Stack n []) ≡ Some (Stack size values) = sym b.1 ∙ there in
              let none : [] ≡ values = cc in
              let at : wd / 2 ≡ p.at = half ∙ sym (ap (λ (y : Place). y.at) (one p q here t.2 (inl b.0))) in
              ([], ap (λ t. cond t (Some []) (slots_at h.stacks p.at)) (eq-eqb (wd / 2) p.at at), ap (λ (l : List Value). length l) none)
          | inr b ↦
              let before : node_of w p.name ≡ Some (Stack size values) = sym b ∙ there in
              let r = d p size values here mine before in
              let apart : wd / 2 ≢ p.at = λ at.
              let new : p.name ≡ next = ap (λ (y : Place). y.name) (one p q here t.2 (inr (sym at ∙ half))) in
              none-some _ (sym (next_is_new w m own) ∙ ap (λ n. node_of w n) (sym new) ∙ before) in
              (r.0, ap (λ t. cond t (Some []) (slots_at h.stacks p.at)) (ne_eqb (wd / 2) p.at apart) ∙ r.1, r.2)
        ]

    -- the object that an operand refers to
    pointed : (object : Operand) (name : Name) → value_for w m object ≡ value.Ref name → Means P (word_of h.registers object) (value.Ref name)
    pointed object name is = subst (Means P (word_of h.registers object)) is (operand_means P shared h.registers (state_of w m).registers object means)

    -- a stack changes, and the hand with it
    changed_left : (object : Operand) (name : Name) (n : ℕ) (old new : List Value) (g : List ℕ → List ℕ) (u : World) →
        value_for w m object ≡ value.Ref name → name.maker ≡ m → node_of w name ≡ Some (Stack n old) → u ≡ with_node w name (Stack n new) →
        ((ws : List ℕ) → length ws ≡ length old → length (g ws) ≡ length new)
        → Depths P m u (record h { stacks = with_slots h.stacks (word_of h.registers object / 2) g })
    changed_left object name n old new g u is maker was after long p size values here mine there =
        let t = pointed object name is in
        let half : word_of h.registers object / 2 ≡ t.0 = let e = t.1 in omega arith in
        let q : Place = record { at = t.0; name = name } in
        let now : node_of (with_node w name (Stack n new)) p.name ≡ Some (Stack size values) = ap (λ (x : World). node_of x p.name) (sym after) ∙ there in
        elim (node_cases w name (Stack n old) (Stack n new) was p.name) [
          | inl b ↦
              let both : Some (Stack n new) ≡ Some (Stack size values) = sym b.1 ∙ now in
              let held : new ≡ values = cc in
              let at : word_of h.registers object / 2 ≡ p.at = half ∙ sym (ap (λ (y : Place). y.at) (one p q here t.2 (inl b.0))) in
              let r = d p n old here mine (ap (λ k. node_of w k) b.0 ∙ was) in (
                g r.0,
                ap (λ y. slots_at (with_slots h.stacks y g) p.at) at ∙ slots_same h.stacks p.at g r.0 r.1,
                cc (long r.0 r.2, held),
              )
          | inr b ↦
              let r = d p size values here mine (sym b.1 ∙ now) in
              let apart : p.at ≢ word_of h.registers object / 2 = λ at. b.0 (ap (λ (y : Place). y.name) (one p q here t.2 (inr (at ∙ half)))) in
              (r.0, slots_other h.stacks (word_of h.registers object / 2) p.at g apart ∙ r.1, r.2)
        ]

    push_left : (object v : Operand) (a : Answer) → Answers P a (step w m (command.Push object v)).1 →
        Depths P m (step w m (command.Push object v)).0 (leaves h (command.Push object v) a)
    push_left object v a e = elim (push_cases w m (value_for w m object) (value_for w m v)) [
      | inl f ↦
          let is : a ≡ plain reply.Fine = plain_is P a reply.Fine refl (subst (λ (r : Reply). Answers P a r) f.gives e) in
          rw is (changed_left object f.name f.size f.values (f.values ++ value_for w m v ∷ []) (λ ws. ws ++ word_of h.registers v ∷
          []) (step w m (command.Push object v)).0 f.refers f.mine f.there f.after
          (λ ws long. length-append ws (word_of h.registers v ∷ []) ∙ ap (λ k. k + 1) long ∙ sym (length-append f.values (value_for w m v ∷ []))))
      | inr f ↦ λ p size values here mine there.
          let r = d p size values here mine (sym (f.1 p.name) ∙ there) in
          let ne : a ≡ plain reply.Fine → ⊥ = λ is. f.0 (sym (subst (λ (b : Answer). Answers P b (step w m (command.Push object v)).1) is e)) in
          (r.0, ap (λ k. slots_at k p.at) (pushed_not h (word_of h.registers object) (word_of h.registers v) a ne) ∙ r.1, r.2)
    ]

    pop_left : (dest : ℕ) (object : Operand) (a : Answer) → Answers P a (step w m (command.Pop dest object)).1 → IsPlain a →
        Depths P m (step w m (command.Pop dest object)).0 (leaves h (command.Pop dest object) a)
    pop_left dest object (plain x) e none = elim (pop_cases w m (value_for w m object)) [
      | inl f ↦ absurd (let bad = sym (ap given (e ∙ f.gives)) ∙ none in let no_value : Some f.top ≡ None = bad in cc)
      | inr f ↦ λ p size values here mine there.
          let r : World × Reply = change_object w (value_for w m object) (change.Pop m) in
          d p size values here mine (sym (f.1 p.name) ∙ ap (λ (y : World). node_of y p.name) (sym (kept_none r.0 m dest r.1 f.0)) ∙ there)
    ]
    pop_left dest object (word wd) (v, e, k) none = elim (pop_cases w m (value_for w m object)) [
      | inl f ↦
          let r : World × Reply = change_object w (value_for w m object) (change.Pop m) in
          let exists : m < length r.0.mutators = subst (λ j. m < j) (sym (ap (λ (y : World). length y.mutators) f.after ∙
          as_many w f.name (Stack f.size f.values) (Stack f.size (without_last f.values)) f.there)) lt in
          let t = changed_left object f.name f.size f.values (without_last f.values) (λ ws. take (length ws - 1) ws) r.0 f.refers f.mine f.there f.after
          (λ ws long. length-take (length ws - 1) ws ∙ ap (λ j. min (j - 1) j) long ∙ sym (length-take (length f.values - 1) f.values)) in
          λ p size values here mine there. t p size values here mine (sym (keeping_nodes r.0 m dest f.top exists p.name) ∙
          ap (λ (y : Reply). node_of (keeping r.0 m dest y) p.name) (sym f.gives) ∙ there)
      | inr f ↦ absurd (let bad = ap given e ∙ f.0 in let some_ : Some v ≡ None = bad in cc)
    ]

    -- after every command the depths are the world's
    pub depths_left : (c : Command) (a : Answer) → Answers P a (step w m c).1 → IsPlain a → Depths P m (step w m c).0 (leaves h c a)
    depths_left (command.Stack dest n) a e p = stack_left dest n a e p
    depths_left (command.Push object v) a e p = push_left object v a e
    depths_left (command.Pop dest object) a e p = pop_left dest object a e p
    depths_left c a e p = plain_left c a tt
