-- The changes that keep a world closed.
use Rattle.std.specs.Prelude.{◌≡◌, ◌≢◌, ◌<◌, ◌≤◌, ◌+◌, ◌-◌, ◌^◌, ◌∷◌, ◌++◌}
use Rattle.nmgc_world_laws.specs.laws.Vocabulary.{inl, inr, zero, suc, ℕ, List, [], map, length, get_or, set, drop, refl, ap, ◌∙◌, arith, length-append, Option, Some, None, Bool, true, false, cond, eqb, IsSome, IfSome, slice_get, All, refill, get_or-set_same, get_or-set_other, get_or_past, set-get_or, take_all, drop_all, append-nil, All-cons, All-nil, All-set, All-weaker, All-drop, All-get_or, All-head, All-tail, slice_get_past, ne_eqb, eq-eqb, cases_lt, eqb_tells, Operand, Register, Shared, Reply, REGISTERS, SHARED_MAKER, Name, Value, Nil, Number, Ref, Node, Change, MutatorState, World, state_of, node_of, no_mutator, held_by, IsKnown, AreKnown, IsKnownReply, IsKnownChange, IsNodeOf, IsShared, IsWorld, given, IsOperand, changed, with_state, with_register, holding_given, with_new, with_nth, with_finaliser, next_name, value_of, object_of, read_object, item_has, is_some_get, get_is_some, slice_get-append_last, at_some, slice_get-set_same, slice_get-set_other, length-set}
use Rattle.nmgc_world_laws.specs.laws.Nodes.{changed_known, changed_reply, changed_shared}

if_some_weaker : {A : Type 0} (o : Option A) (P Q : A → Type 0) → ((x : A) → P x → Q x) → IfSome o P → IfSome o Q
if_some_weaker None P Q f h = h
if_some_weaker (Some x) P Q f h = f x h

-- the items of a list that was lent and given back whole
pub refill_whole : {A : Type 0} (xs ys : List A) → length ys ≡ length xs → refill (length xs) xs ys ≡ ys
refill_whole xs ys e = rw (drop_all (length ys) xs (omega arith), append-nil) (take_all (length xs) ys (omega arith))

slice_get-append : {A : Type 0} (xs : List A) (x : A) (i : ℕ) → i < length xs → slice_get (xs ++ x ∷ []) i ≡ slice_get xs i
slice_get-append [] x i lt = absurd (omega arith)
slice_get-append (y ∷ xs) x zero lt = refl
slice_get-append (y ∷ xs) x (suc i) lt = slice_get-append xs x i (omega arith)

slice_get-append_past : {A : Type 0} (xs : List A) (x : A) (i : ℕ) → length xs < i → slice_get (xs ++ x ∷ []) i ≡ None
slice_get-append_past xs x i lt = slice_get_past (xs ++ x ∷ []) i (omega (arith, length-append xs (x ∷ [])))

-- the condition of a world on each object of a mutator
abbrev AreNodes : World → List Node → Type 0
AreNodes w nodes = (s : ℕ) → IfSome (slice_get nodes s) (IsNodeOf w)

-- a mutator isn't the maker of the shared array
pub not_shared : (w : World) (m : ℕ) → IsWorld w → m < length w.mutators → m ≢ SHARED_MAKER
not_shared w m h lt e = omega (arith, h.few)

own_nodes : (w : World) (m : ℕ) → IsWorld w → m < length w.mutators → AreNodes w (state_of w m).nodes
own_nodes w m h lt s = rw (ne_eqb m SHARED_MAKER (not_shared w m h lt)) at (h.nodes (record { maker = m; serial = s }))

-- a world in which all known values of another are known
module _ (w w' : World) (known : (v : Value) → IsKnown w v → IsKnown w' v) where
  all_known : (values : List Value) → AreKnown w values → AreKnown w' values
  all_known values h = All-weaker (IsKnown w) (IsKnown w') known values h

  node_known : (node : Node) → IsNodeOf w node → IsNodeOf w' node
  node_known node h = record { known = all_known (held_by node) h.known; sized = h.sized }

  pub reply_known : (r : Reply) → IsKnownReply w r → IsKnownReply w' r
  reply_known r h = if_some_weaker (given r) (IsKnown w) (IsKnown w') known h

-- another state of a mutator, with no fewer objects
module _ (w : World) (m : ℕ) (q : MutatorState) (lt : m < length w.mutators) where
  same : state_of (with_state w m q) m ≡ q
  same = get_or-set_same w.mutators m q no_mutator lt

  other : (k : ℕ) → k ≢ m → state_of (with_state w m q) k ≡ state_of w k
  other k ne = get_or-set_other w.mutators m k q no_mutator ne

  module _ (more : length (state_of w m).nodes ≤ length q.nodes) where
    -- no name leaves the map
    pub still_there : (name : Name) → IsSome (node_of w name) → IsSome (node_of (with_state w m q) name)
    still_there name h = elim (eqb_tells name.maker SHARED_MAKER) [
      | inl p ↦ rw p.0 (rw p.0 at h)
      | inr p ↦ elim (eqb_tells name.maker m) [
        | inl e ↦
            let there : IsSome (slice_get (state_of w m).nodes name.serial) = rw (p.0, e.1) at h in
            let within : name.serial < length q.nodes = omega (arith, get_is_some (state_of w m).nodes name.serial there) in
            rw (p.0, e.1, same) (is_some_get q.nodes name.serial within)
        | inr n ↦ rw (p.0, other name.maker n.1) (rw p.0 at h)
      ]
    ]

    pub still_known : (v : Value) → IsKnown w v → IsKnown (with_state w m q) v
    still_known Nil h = tt
    still_known (Number n) h = tt
    still_known (Ref name) h = still_there name h

    -- a mutator's state may be replaced by a state with known values
    pub state_keeps : (h : IsWorld w) (regs : length q.registers ≡ REGISTERS) (few : length q.nodes < 2 ^ 32)
        (kr : AreKnown (with_state w m q) q.registers) (kq : AreKnown (with_state w m q) q.queue) (kn : AreNodes (with_state w m q) q.nodes)
        → IsWorld (with_state w m q)
    state_keeps h regs few kr kq kn = record {
      some = rw length-set h.some;
      few = rw length-set h.few;
      registers = λ k below. elim (eqb_tells k m) [
        | inl e ↦ rw (e.1, same) regs
        | inr n ↦ rw (other k n.1) (h.registers k (rw length-set at below))
      ];
      serials = λ k. elim (eqb_tells k m) [
        | inl e ↦ rw (e.1, same) few
        | inr n ↦ rw (other k n.1) (h.serials k)
      ];
      shared = h.shared;
      known_registers = λ k. elim (eqb_tells k m) [
        | inl e ↦ rw (e.1, same) kr
        | inr n ↦ rw (other k n.1) (all_known w (with_state w m q) still_known _ (h.known_registers k))
      ];
      known_queue = λ k. elim (eqb_tells k m) [
        | inl e ↦ rw (e.1, same) kq
        | inr n ↦ rw (other k n.1) (all_known w (with_state w m q) still_known _ (h.known_queue k))
      ];
      nodes = λ name. elim (eqb_tells name.maker SHARED_MAKER) [
        | inl p ↦ rw p.0 (if_some_weaker _ (IsNodeOf w) (IsNodeOf (with_state w m q)) (node_known w (with_state w m q) still_known) (rw p.0 at (h.nodes name)))
        | inr p ↦ elim (eqb_tells name.maker m) [
          | inl e ↦ rw (p.0, e.1, same) (kn name.serial)
          | inr n ↦ rw (p.0, other name.maker n.1) (if_some_weaker _ (IsNodeOf w) (IsNodeOf (with_state w m q))
              (node_known w (with_state w m q) still_known) (rw p.0 at (h.nodes name)))
        ]
      ];
    }

-- the same state except for its registers and its queue, whose values are known
module _ (w : World) (h : IsWorld w) (m : ℕ) (lt : m < length w.mutators) (registers queue : List Value) (regs : length registers ≡
    REGISTERS) (kr : AreKnown w registers) (kq : AreKnown w queue) where
  moved : MutatorState
  moved = record { registers = registers; queue = queue; nodes = (state_of w m).nodes }

  pub values_keep : IsWorld (with_state w m (record { registers = registers; queue = queue; nodes = (state_of w m).nodes }))
  values_keep =
      let q : MutatorState = record { registers = registers; queue = queue; nodes = (state_of w m).nodes } in
      let more : length (state_of w m).nodes ≤ length q.nodes = omega arith in
      let lifted = still_known w m q lt more in
      state_keeps w m q lt more h regs (h.serials m)
      (all_known w (with_state w m q) lifted registers kr)
      (all_known w (with_state w m q) lifted queue kq)
      (λ s. if_some_weaker _ (IsNodeOf w) (IsNodeOf (with_state w m q)) (node_known w (with_state w m q) lifted) (own_nodes w m h lt s))

-- a register may take a known value
pub holding_keeps : (w : World) (m register : ℕ) (v : Value) → IsWorld w → m < length w.mutators → IsKnown w v → IsWorld (with_register w m register v)
holding_keeps w m register v h lt known =
    values_keep w h m lt (set (state_of w m).registers register v) (state_of w m).queue (rw length-set (h.registers m lt))
    (All-set (IsKnown w) (state_of w m).registers register v known (h.known_registers m)) (h.known_queue m)

-- a finaliser may move from the queue into a register
pub finaliser_keeps : (w : World) (m register : ℕ) → IsWorld w → m < length w.mutators → IsWorld (with_state w m (with_finaliser (state_of w m) register))
finaliser_keeps w m register h lt = by_first (slice_get (state_of w m).queue 0) (item_has (IsKnown w) (state_of w m).queue 0 (h.known_queue m))
  where
    rest_known : AreKnown w (drop 1 (state_of w m).queue)
    rest_known = All-drop (IsKnown w) 1 (state_of w m).queue (h.known_queue m)

    by_first : (first : Option Value) → IfSome first (IsKnown w) →
        IsWorld (with_state w m (holding_given (record (state_of w m) { queue = drop 1 (state_of w m).queue }) register first))
    by_first None known = values_keep w h m lt (state_of w m).registers (drop 1 (state_of w m).queue) (h.registers m lt) (h.known_registers m) rest_known
    by_first (Some v) known =
        values_keep w h m lt (set (state_of w m).registers register v) (drop 1 (state_of w m).queue) (rw length-set (h.registers m lt))
        (All-set (IsKnown w) (state_of w m).registers register v known (h.known_registers m)) rest_known

-- a mutator may make a node whose values are known
pub born_keeps : (w : World) (m register : ℕ) (made : Node) → IsWorld w → m < length w.mutators → length (state_of w m).nodes < 2 ^ 32 - 1 →
    IsNodeOf w made → IsWorld (with_state w m (with_new (state_of w m) m register made))
born_keeps w m register made h lt few known =
    let p = state_of w m in
    let q = with_new p m register made in
    let count : length q.nodes ≡ length p.nodes + 1 = length-append p.nodes (made ∷ []) in
    let more : length p.nodes ≤ length q.nodes = omega arith in
    let lifted = still_known w m q lt more in
    let there : IsKnown (with_state w m q) (Ref (next_name p m)) = rw (
      ne_eqb m SHARED_MAKER (not_shared w m h lt),
      get_or-set_same w.mutators m q no_mutator lt,
      slice_get-append_last p.nodes made,
    ) refl in
    state_keeps w m q lt more h (rw length-set (h.registers m lt)) (omega arith)
    (All-set (IsKnown (with_state w m q)) p.registers register (Ref (next_name p m)) there
    (all_known w (with_state w m q) lifted p.registers (h.known_registers m)))
    (all_known w (with_state w m q) lifted p.queue (h.known_queue m))
    (λ s. elim (cases_lt s (length p.nodes)) [
      | inl old ↦ rw (slice_get-append p.nodes made s old) (if_some_weaker _ (IsNodeOf w) (IsNodeOf (with_state w m q))
          (node_known w (with_state w m q) lifted) (own_nodes w m h lt s))
      | inr le ↦ elim (eqb_tells s (length p.nodes)) [
        | inl e ↦ rw (e.1, slice_get-append_last p.nodes made) (node_known w (with_state w m q) lifted made known)
        | inr n ↦ rw (slice_get-append_past p.nodes made s (omega (arith, n.1))) tt
      ]
    ])

-- an operand's value is known
pub operand_known : (w : World) (m : ℕ) → IsWorld w → m < length w.mutators → (o : Operand) → IsOperand o → IsKnown w (value_of (state_of w m).registers o)
operand_known w m h lt (Register r) fits = All-get_or (IsKnown w) (state_of w m).registers r Nil (omega (arith, h.registers m lt)) (h.known_registers m)
operand_known w m h lt Shared fits = refl

pub operands_known : (w : World) (m : ℕ) → IsWorld w → m < length w.mutators → (os : List Operand) → All IsOperand os →
    AreKnown w (map (value_of (state_of w m).registers) os)
operands_known w m h lt [] fits = All-nil (IsKnown w)
operands_known w m h lt (o ∷ os) fits =
    All-cons (IsKnown w) _ _ (operand_known w m h lt o (All-head IsOperand o os fits)) (operands_known w m h lt os (All-tail IsOperand o os fits))

get_or_same : {A : Type 0} (xs : List A) (i : ℕ) (d e : A) → i < length xs → get_or xs i d ≡ get_or xs i e
get_or_same [] i d e lt = absurd (omega arith)
get_or_same (x ∷ xs) zero d e lt = refl
get_or_same (x ∷ xs) (suc i) d e lt = get_or_same xs i d e (omega arith)

-- a world whose mutators were lent, with one state replaced
module _ (w : World) (h : IsWorld w) (m : ℕ) (lt : m < length w.mutators) (ys : List MutatorState) (e : ys ≡ w.mutators) (d new : MutatorState) where
  pub lent : get_or ys m d ≡ state_of w m
  lent = rw e (get_or_same w.mutators m d no_mutator lt)

  pub replaced : (f : MutatorState → MutatorState) → new ≡ f (get_or ys m d) → IsWorld (with_state w m (f (state_of w m))) →
      IsWorld (record { shared = w.shared; mutators = refill (length w.mutators) w.mutators (set ys m new) })
  replaced f is k = rw (refill_whole w.mutators (set ys m new) (length-set ys m new ∙ ap length e), e, is ∙ ap f lent) k

-- if reads of a node that a world may have give a known value, so do reads of an object
pub read_known : (w : World) → IsWorld w → (v : Value) (read : Node → Reply) →
    ((node : Node) → AreKnown w (held_by node) → IsKnownReply w (read node)) → IsKnownReply w (read_object (object_of w v) read)
read_known w h Nil read known = tt
read_known w h (Number n) read known = tt
read_known w h (Ref name) read known = by_node (node_of w name) (h.nodes name)
  where
    by_node : (o : Option Node) → IfSome o (IsNodeOf w) → IsKnownReply w (read_object o read)
    by_node None is = tt
    by_node (Some node) is = known node is.known

-- g may be replaced by an array of known values
module _ (w : World) (made : Node) where
  shared_there : (name : Name) → IsSome (node_of w name) → IsSome (node_of (record w { shared = made }) name)
  shared_there name h = elim (eqb_tells name.maker SHARED_MAKER) [
    | inl p ↦ elim (eqb_tells name.serial 0) [
      | inl z ↦ rw (p.0, z.0) refl
      | inr z ↦ rw (p.0, z.0) (rw (p.0, z.0) at h)
    ]
    | inr p ↦ rw p.0 (rw p.0 at h)
  ]

  pub shared_known : (v : Value) → IsKnown w v → IsKnown (record w { shared = made }) v
  shared_known Nil h = tt
  shared_known (Number n) h = tt
  shared_known (Ref name) h = shared_there name h

  shared_keeps : IsWorld w → IsShared made → IsNodeOf w made → IsWorld (record w { shared = made })
  shared_keeps h is known =
      let w' : World = record w { shared = made } in
      record {
        some = h.some;
        few = h.few;
        registers = h.registers;
        serials = h.serials;
        shared = is;
        known_registers = λ m. all_known w w' shared_known _ (h.known_registers m);
        known_queue = λ m. all_known w w' shared_known _ (h.known_queue m);
        nodes = λ name. elim (eqb_tells name.maker SHARED_MAKER) [
          | inl p ↦ elim (eqb_tells name.serial 0) [
            | inl z ↦ rw (p.0, z.0) (node_known w w' shared_known made known)
            | inr z ↦ rw (p.0, z.0) tt
          ]
          | inr p ↦ rw p.0 (if_some_weaker _ (IsNodeOf w) (IsNodeOf w') (node_known w w' shared_known) (rw p.0 at (h.nodes name)))
        ];
      }

shared_node : {A : Type 0} (b c : Bool) (o : Option A) (x : A) → b ≡ true → IsSome (cond b (cond c (Some x) None) o) → cond b (cond c (Some x) None) o ≡ Some x
shared_node false c o x e h = absurd cc
shared_node true true o x e h = refl
shared_node true false o x e h = absurd cc

-- a change of g
module _ (w : World) (h : IsWorld w) (name : Name) (c : Change) (there : IsSome (node_of w name)) (known : IsKnownChange w c) (at : name.maker ≡
    SHARED_MAKER) where
  pub is_shared : node_of w name ≡ Some w.shared
  is_shared = shared_node (eqb name.maker SHARED_MAKER) (eqb name.serial 0) (slice_get (state_of w name.maker).nodes name.serial) w.shared
      (eq-eqb name.maker SHARED_MAKER at) there

  shared_is : IsNodeOf w w.shared
  shared_is = at_some (node_of w name) w.shared (IsNodeOf w) is_shared (h.nodes name)

  pub shared_changed : (maker : ℕ) → IsWorld (record w { shared = (changed c maker w.shared).0 })
  shared_changed maker =
      shared_keeps w (changed c maker w.shared).0 h (changed_shared c maker w.shared h.shared) (changed_known w c maker w.shared known shared_is)

  pub shared_reply : (maker : ℕ) → IsKnownReply (record w { shared = (changed c maker w.shared).0 }) (changed c maker w.shared).1
  shared_reply maker = reply_known w (record w {
    shared =
        (changed c maker w.shared).0;
  }) (shared_known w (changed c maker w.shared).0) (changed c maker w.shared).1
      (changed_reply w c maker w.shared shared_is.known)

-- a change of an object that a mutator made
module _ (w : World) (h : IsWorld w) (name : Name) (c : Change) (there : IsSome (node_of w name)) (known : IsKnownChange w c)
    (ne : name.maker ≢ SHARED_MAKER) where
  pub in_state : node_of w name ≡ slice_get (state_of w name.maker).nodes name.serial
  in_state = rw (ne_eqb name.maker SHARED_MAKER ne) refl

  pub within : name.serial < length (state_of w name.maker).nodes
  within = get_is_some (state_of w name.maker).nodes name.serial (rw in_state at there)

  pub maker_exists : name.maker < length w.mutators
  maker_exists = elim (cases_lt name.maker (length w.mutators)) [
    | inl lt ↦ lt
    | inr le ↦ let none : state_of w name.maker ≡ no_mutator = get_or_past w.mutators name.maker no_mutator le in
        let bad : name.serial < length (no_mutator).nodes = rw none at within in absurd (omega arith)
  ]

  module _ (old : Node) (is : slice_get (state_of w name.maker).nodes name.serial ≡ Some old) where
    old_is : IsNodeOf w old
    old_is = at_some _ old (IsNodeOf w) is (own_nodes w name.maker h maker_exists name.serial)

    nth_lifted : (v : Value) → IsKnown w v → IsKnown (with_state w name.maker (with_nth (state_of w name.maker) name.serial (changed c name.maker old).0)) v
    nth_lifted = still_known w name.maker (with_nth (state_of w name.maker) name.serial (changed c name.maker old).0) maker_exists (omega (
      arith,
      length-set (state_of w name.maker).nodes name.serial (changed c name.maker old).0,
    ))

    pub nth_changed : IsWorld (with_state w name.maker (with_nth (state_of w name.maker) name.serial (changed c name.maker old).0))
    nth_changed =
        let m = name.maker in
        let nodes = (state_of w m).nodes in
        let made = (changed c m old).0 in
        let q : MutatorState = with_nth (state_of w m) name.serial made in
        let count : length q.nodes ≡ length nodes = length-set nodes name.serial made in
        let more : length nodes ≤ length q.nodes = omega arith in
        let w' : World = with_state w m q in
        state_keeps w m q maker_exists more h (h.registers m maker_exists) (omega (arith, h.serials m))
        (all_known w w' nth_lifted _ (h.known_registers m))
        (all_known w w' nth_lifted _ (h.known_queue m))
        (λ s. elim (eqb_tells s name.serial) [
          | inl e ↦ rw (e.1, slice_get-set_same nodes name.serial made within) (node_known w w' nth_lifted made (changed_known w c m old known old_is))
          | inr n ↦ rw (slice_get-set_other nodes name.serial s made n.1)
              (if_some_weaker _ (IsNodeOf w) (IsNodeOf w') (node_known w w' nth_lifted) (own_nodes w m h maker_exists s))
        ])

    pub nth_reply : IsKnownReply (with_state w name.maker (with_nth (state_of w name.maker) name.serial (changed c name.maker old).0))
        (changed c name.maker old).1
    nth_reply = reply_known w _ nth_lifted (changed c name.maker old).1 (changed_reply w c name.maker old old_is.known)

-- a world stays a world if a mutator gets its own state
pub same_state : (w : World) (h : IsWorld w) (m : ℕ) → IsWorld (with_state w m (state_of w m))
same_state w h m = rw (set-get_or w.mutators m no_mutator) h
