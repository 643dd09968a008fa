-- A mutator's registers after a row mean its registers in the world after the command.
use Rattle.nmgc_collector_laws.proofs.Vocabulary.{◌≡◌, ℕ, zero, suc, ◌+◌, ◌*◌, ◌<◌, List, [], ◌∷◌, length, get_or, set, refl, sym, ap, subst, ◌∙◌, Option, Some, None, inl, inr, set_past, cases_lt, cases_eq, eqb_tells, SHARED_MAKER, Name, Value, Node, MutatorState, Change, Operand, Register, Shared, Command, Num, Mov, Get, Tag, Set, Cas, Update, Force, Push, Pop, Deref, Finalise, NextFin, Show, Same, Yield, Collect, Full, Reply, Given, Fine, Nothing, World, state_of, node_of, given, slice_get, drop, same_Some, given_or, changed, shared_name, value_of, value_for, with_state, with_register, with_nth, with_node, keeping, with_finaliser, holding_given, next_name, born, change_node, change_object, change_into, step, SHARED_PLACE, NIL_WORD, ZERO_WORD, state_same, state_other, Place, Means, ListMeans, Answer, plain, word, Hand, word_of, taking, bearing, stacking, pushed, popped, leaves, Answers, count_changed}
use Rattle.nmgc_world_spec.specs.declared.command.Command.TheVariants.{Nil, Con, Var, Arr, Rec, Thunk, Weak, Stack}
use Rattle.nmgc_world_spec.specs.declared.value.Value.TheVariants as value
use Rattle.nmgc_world_spec.specs.declared.change.Change.TheVariants as change

-- a plain answer gives no value
abbrev pub IsPlain : Answer → Type 0
IsPlain (plain r) = given r ≡ None
IsPlain (word w) = Unit {0}

-- one more stack changes no register
stacking_registers : (h : Hand) (a : Answer) → h.registers ≡ (stacking h a).registers
stacking_registers h (plain r) = refl
stacking_registers h (word w) = refl

pushed_registers : (h : Hand) (object w : ℕ) (a : Answer) → h.registers ≡ (pushed h object w a).registers
pushed_registers h object w (word n) = refl
pushed_registers h object w (plain Fine) = refl
pushed_registers h object w (plain _) = refl

-- a write into a node leaves all registers
registers_kept : (w : World) (name : Name) (made : Node) (k : ℕ) → (state_of (with_node w name made) k).registers ≡ (state_of w k).registers
registers_kept w name made k = elim (eqb_tells name.maker SHARED_MAKER) [
  | inl p ↦ rw p.0 refl
  | inr p ↦ rw p.0 in_state
]
  where
    in_state : (state_of (with_state w name.maker (with_nth (state_of w name.maker) name.serial made)) k).registers ≡ (state_of w k).registers
    in_state =
        let q : MutatorState = with_nth (state_of w name.maker) name.serial made in
        elim (cases_lt name.maker (length w.mutators)) [
          | inl lt ↦ elim (cases_eq k name.maker) [
            | inl e ↦ rw e (ap (λ (s : MutatorState). s.registers) (state_same w name.maker q lt))
            | inr ne ↦ ap (λ (s : MutatorState). s.registers) (state_other w name.maker q lt k ne)
          ]
          | inr le ↦ ap (λ (l : List MutatorState). (state_of (record w { mutators = l }) k).registers) (set_past w.mutators name.maker q le)
        ]

-- a change of an object leaves all registers
registers_changed : (w : World) (v : Value) (c : Change) (k : ℕ) → (state_of (change_object w v c).0 k).registers ≡ (state_of w k).registers
registers_changed w value.Nil c k = refl
registers_changed w (value.Number n) c k = refl
registers_changed w (value.Ref name) c k = by_node (node_of w name)
  where
    by_node : (o : Option Node) → (state_of (change_node w name o c).0 k).registers ≡ (state_of w k).registers
    by_node None = refl
    by_node (Some found) = registers_kept w name (changed c name.maker found).0 k

popped_registers : (h : Hand) (dest object : ℕ) (a : Answer) → (taking h dest a).registers ≡ (taking (popped h object a) dest a).registers
popped_registers h dest object (plain r) = refl
popped_registers h dest object (word w) = refl

-- a reply that gives no value leaves the world
pub kept_none : (w : World) (m dest : ℕ) (r : Reply) → given r ≡ None → keeping w m dest r ≡ w
kept_none w m dest (Given v) e = absurd cc
kept_none w m dest _ e = refl

module _ (P : Place → Type 0) where
  means_at : (ws : List ℕ) (vs : List Value) (r : ℕ) → ListMeans P ws vs → Means P (get_or ws r NIL_WORD) (get_or vs r value.Nil)
  means_at [] [] r h = refl
  means_at [] (v ∷ vs) r h = absurd h
  means_at (w ∷ ws) [] r h = absurd h
  means_at (w ∷ ws) (v ∷ vs) zero h = h.0
  means_at (w ∷ ws) (v ∷ vs) (suc r) h = means_at ws vs r h.1

  -- an operand's word means the operand's value
  pub operand_means : P (record { at = SHARED_PLACE; name = shared_name }) → (ws : List ℕ) (vs : List Value) (operand : Operand) →
      ListMeans P ws vs → Means P (word_of ws operand) (value_of vs operand)
  operand_means g ws vs (Register r) h = means_at ws vs r h
  operand_means g ws vs Shared h = (SHARED_PLACE, refl, g)

  list_set : (ws : List ℕ) (vs : List Value) (r w : ℕ) (v : Value) → ListMeans P ws vs → Means P w v → ListMeans P (set ws r w) (set vs r v)
  list_set [] [] r w v h m = tt
  list_set [] (y ∷ vs) r w v h m = absurd h
  list_set (x ∷ ws) [] r w v h m = absurd h
  list_set (x ∷ ws) (y ∷ vs) zero w v h m = (m, h.1)
  list_set (x ∷ ws) (y ∷ vs) (suc r) w v h m = (h.0, list_set ws vs r w v h.1 m)

  module _ (w : World) (m : ℕ) (lt : m < length w.mutators) (h : Hand) (means : ListMeans P h.registers (state_of w m).registers) where
    -- a register takes a word, and in the world its value
    held : (dest wd : ℕ) (v : Value) → Means P wd v → ListMeans P (set h.registers dest wd) (state_of (with_register w m dest v) m).registers
    held dest wd v k = rw (state_same w m _ lt) (list_set h.registers (state_of w m).registers dest wd v means k)

    -- a register takes the given value, if there is one
    taken : (dest : ℕ) (a : Answer) (r : Reply) → Answers P a r → IsPlain a →
        ListMeans P (taking h dest a).registers (state_of (keeping w m dest r) m).registers
    taken dest (plain x) r e none =
        subst (λ (u : World). ListMeans P h.registers (state_of u m).registers) (sym (kept_none w m dest r (ap given (sym e) ∙ none))) means
    taken dest (word wd) r (v, e, k) none = subst (λ (y : Reply).
        ListMeans P (set h.registers dest wd) (state_of (keeping w m dest y) m).registers) e (held dest wd v k)

    -- a register takes the name of a new object
    birth : (dest : ℕ) (made : Node) (a : Answer) → Answers P a (born w m dest made).1 → IsPlain a →
        ListMeans P (bearing h dest a).registers (state_of (born w m dest made).0 m).registers
    birth dest made (plain x) e none = let bad : given x ≡ Some (value.Ref (next_name (state_of w m) m)) = ap given e in absurd cc
    birth dest made (word wd) (v, e, k) none =
        let is : v ≡ value.Ref (next_name (state_of w m) m) = cc in
        rw (state_same w m _ lt) (list_set h.registers (state_of w m).registers dest wd (value.Ref (next_name (state_of w m) m)) means (subst (Means P wd) is k))

  module _ (w : World) (m : ℕ) (lt : m < length w.mutators) (h : Hand) (means : ListMeans P h.registers (state_of w m).registers) where
    -- a change gives its answer to a register
    changed_registers : (dest : ℕ) (object : Operand) (c : Change) (a : Answer) → Answers P a (change_object w (value_for w m object) c).1 →
        IsPlain a → ListMeans P (taking h dest a).registers (state_of (change_into m dest (change_object w (value_for w m object) c)).0 m).registers
    changed_registers dest object c a e p =
        let r : World × Reply = change_object w (value_for w m object) c in
        let exists : m < length r.0.mutators = subst (λ j. m < j) (sym (count_changed w (value_for w m object) c)) lt in
        taken r.0 m exists h (subst (λ (l : List Value). ListMeans P h.registers l) (sym (registers_changed w (value_for w m object) c m)) means) dest a r.1 e p

    -- the first of the queue goes into a register
    queued_registers : (dest : ℕ) (o : Option Value) (a : Answer) → Answers P a (given_or Nothing o) → IsPlain a →
        ListMeans P (taking (record h { queue = drop 1 h.queue }) dest a).registers (holding_given (record (state_of w m) {
          queue =
              drop 1 (state_of w m).queue;
        }) dest o).registers
    queued_registers dest None (plain x) e p = means
    queued_registers dest None (word wd) (v, e, k) p = absurd (let bad : Some v ≡ None = ap given e in cc)
    queued_registers dest (Some x) (plain r) e p = absurd (let bad : Some x ≡ None = sym (ap given e) ∙ p in cc)
    queued_registers dest (Some x) (word wd) (v, e, k) p =
        let is : Some v ≡ Some x = ap given e in
        list_set h.registers (state_of w m).registers dest wd x means (subst (Means P wd) (same_Some v x is) k)

    -- after every command the registers mean the world's
    pub registers_left : P (record { at = SHARED_PLACE; name = shared_name }) → (c : Command) (a : Answer) → Answers P a (step w m c).1 →
        IsPlain a → ListMeans P (leaves h c a).registers (state_of (step w m c).0 m).registers
    registers_left g (Num dest n) a e p = held w m lt h means dest (2 * n + ZERO_WORD) (value.Number n) refl
    registers_left g (Nil dest) a e p = held w m lt h means dest NIL_WORD value.Nil refl
    registers_left g (Mov dest v) a e p =
        held w m lt h means dest (word_of h.registers v) (value_for w m v) (operand_means g h.registers (state_of w m).registers v means)
    registers_left g (Con dest tag fields) a e p = birth w m lt h means dest _ a e p
    registers_left g (Var dest v) a e p = birth w m lt h means dest _ a e p
    registers_left g (Arr dest count v) a e p = birth w m lt h means dest _ a e p
    registers_left g (Rec dest fields) a e p = birth w m lt h means dest _ a e p
    registers_left g (Thunk dest free) a e p = birth w m lt h means dest _ a e p
    registers_left g (Weak dest key v finaliser) a e p = birth w m lt h means dest _ a e p
    registers_left g (Stack dest size) a e p = subst (λ (l : List ℕ).
        ListMeans P l (state_of (step w m (Stack dest size)).0 m).registers) (stacking_registers (bearing h dest a) a) (birth w m lt h means dest _ a e p)
    registers_left g (Get dest object index) a e p = taken w m lt h means dest a _ e p
    registers_left g (Tag dest object) a e p = taken w m lt h means dest a _ e p
    registers_left g (Set object index v) a e p = subst (λ (l : List Value).
        ListMeans P h.registers l) (sym (registers_changed w (value_for w m object) (change.Set index (value_for w m v)) m)) means
    registers_left g (Cas object index expected v) a e p = subst (λ (l : List Value).
        ListMeans P h.registers l) (sym (registers_changed w (value_for w m object) (change.Exchange index (value_for w m expected) (value_for w m v)) m)) means
    registers_left g (Update object v) a e p = subst (λ (l : List Value).
        ListMeans P h.registers l) (sym (registers_changed w (value_for w m object) (change.Update (value_for w m v)) m)) means
    registers_left g (Force dest object) a e p = taken w m lt h means dest a _ e p
    registers_left g (Push object v) a e p = subst (λ (l : List ℕ).
        ListMeans P l (state_of (step w m (Push object v)).0 m).registers) (pushed_registers h (word_of h.registers object) (word_of h.registers v) a)
        (subst (λ (l : List Value). ListMeans P h.registers l) (sym (registers_changed w (value_for w m object) (change.Push m (value_for w m v)) m)) means)
    registers_left g (Pop dest object) a e p = subst (λ (l : List ℕ).
        ListMeans P l (state_of (step w m (Pop dest object)).0 m).registers) (popped_registers h dest (word_of h.registers object) a)
        (changed_registers dest object (change.Pop m) a e p)
    registers_left g (Deref dest object) a e p = taken w m lt h means dest a _ e p
    registers_left g (Finalise dest object) a e p = changed_registers dest object change.Finalise a e p
    registers_left g (NextFin dest) a e p =
        let first : Option Value = slice_get (state_of w m).queue 0 in
        subst (λ (s : MutatorState).
        ListMeans P (leaves h (NextFin dest) a).registers s.registers) (sym (state_same w m (with_finaliser (state_of w m) dest) lt))
        (queued_registers dest first a e p)
    registers_left g (Show v) a e p = means
    registers_left g (Same left right) a e p = means
    registers_left g Yield a e p = means
    registers_left g Collect a e p = means
    registers_left g Full a e p = means
