-- The nodes, the registers and the queues of a world after each kind of change that a step makes.
use Rattle.std.proofs.{Common.◌≡◌, Common.◌≢◌, Common.◌<◌, Common.ℕ, Common.List, Common.[], Common.◌∷◌, Common.◌++◌, Common.zero, Common.suc, Common.length, Common.refl, Common.sym, Common.ap, Common.subst, Common.◌∙◌, Common.arith, Common.length-set, Common.Option, Common.Some, Common.None, Common.true, Common.cond, Common.eqb, Common.inl, Common.inr, Common.◌⊎◌, lemmas.List.get_or-set_same, lemmas.List.get_or-set_other, lemmas.List.get_or_past, lemmas.Option.slice_get_past, lemmas.Option.slice_get_within, lemmas.Bool.ne_eqb, lemmas.Bool.cases_lt, lemmas.Bool.cases_eq, lemmas.Bool.Decides.eqb_tells}
use Rattle.std.specs.Prelude.{slice_get}
use Rattle.nmgc_limits.specs.declared.mutators.TheConstants.{SHARED_MAKER}
use Rattle.nmgc_world_spec.specs.{declared.value.Name.Name, declared.node.Node.Node, declared.mutator_state.MutatorState.MutatorState, World.World, World.state_of, World.node_of, World.no_mutator, World.with_state, World.with_node, World.next_name, Pieces.with_new, Pieces.with_nth, laws.Orders.name_cases, laws.Orders.same_name}
use Rattle.nmgc_lists.specs.laws.Items.{slice_get-set_same, slice_get-set_other}

-- the world with another state of a mutator
module _ (w : World) (m : ℕ) (q : MutatorState) (lt : m < length w.mutators) where
  pub state_same : state_of (with_state w m q) m ≡ q
  state_same = get_or-set_same w.mutators m q no_mutator lt

  pub state_other : (k : ℕ) → k ≢ m → state_of (with_state w m q) k ≡ state_of w k
  state_other k ne = get_or-set_other w.mutators m k q no_mutator ne

  -- a property of the new state and of all old states is a property of each state
  pub each_state : (R : MutatorState → Type 0) → R q → ((k : ℕ) → R (state_of w k)) → (k : ℕ) → R (state_of (with_state w m q) k)
  each_state R new old k = elim (cases_eq k m) [
    | inl e ↦ subst (λ (j : ℕ). R (state_of (with_state w m q) j)) (sym e) (subst R (sym state_same) new)
    | inr ne ↦ subst R (sym (state_other k ne)) (old k)
  ]

  -- the nodes stay if the new state has the same nodes
  pub nodes_kept : q.nodes ≡ (state_of w m).nodes → (name : Name) → node_of (with_state w m q) name ≡ node_of w name
  nodes_kept same name = elim (cases_eq name.maker m) [
    | inl e ↦ let s : (state_of (with_state w m q) name.maker).nodes ≡ (state_of w name.maker).nodes = rw (e, state_same) same in
        ap (λ (l : List Node). cond (eqb name.maker SHARED_MAKER) (cond (eqb name.serial 0) (Some w.shared) None) (slice_get l name.serial)) s
    | inr ne ↦ ap (λ (s : MutatorState).
        cond (eqb name.maker SHARED_MAKER) (cond (eqb name.serial 0) (Some w.shared) None) (slice_get s.nodes name.serial)) (state_other name.maker ne)
  ]

  -- a name of another maker has the same node
  pub node_other : (name : Name) → name.maker ≢ m → node_of (with_state w m q) name ≡ node_of w name
  node_other name ne = ap (λ (s : MutatorState).
      cond (eqb name.maker SHARED_MAKER) (cond (eqb name.serial 0) (Some w.shared) None) (slice_get s.nodes name.serial)) (state_other name.maker ne)

  -- a name of the mutator has the node of the new state
  pub node_same : m ≢ SHARED_MAKER → (name : Name) → name.maker ≡ m → node_of (with_state w m q) name ≡ slice_get q.nodes name.serial
  node_same own name e = rw (e, ne_eqb m SHARED_MAKER own, state_same) refl

-- a name of a mutator has its node in the mutator's state
pub own_node : (w : World) (m : ℕ) → m ≢ SHARED_MAKER → (name : Name) → name.maker ≡ m → node_of w name ≡ slice_get (state_of w m).nodes name.serial
own_node w m own name e = rw (e, ne_eqb m SHARED_MAKER own) refl

-- the item at a position of a list with one more item is that item, or was there before
pub get-append_cases : {A : Type 0} (xs : List A) (x : A) (i : ℕ) → ((i ≡ length xs) × (slice_get (xs ++ x ∷ []) i ≡ Some x)) ⊎
    (slice_get (xs ++ x ∷ []) i ≡ slice_get xs i)
get-append_cases [] x zero = inl (refl, refl)
get-append_cases [] x (suc i) = inr refl
get-append_cases (y ∷ xs) x zero = inr refl
get-append_cases (y ∷ xs) x (suc i) = elim (get-append_cases xs x i) [
  | inl p ↦ inl (let e : i ≡ length xs = p.0 in omega arith, p.1)
  | inr e ↦ inr e
]

-- the next name has the new node, and all other names keep their nodes
pub node_born : (w : World) (m register : ℕ) (made : Node) → m < length w.mutators → m ≢ SHARED_MAKER → (name : Name) →
    ((name ≡ next_name (state_of w m) m) × (node_of (with_state w m (with_new (state_of w m) m register made)) name ≡ Some made))
    ⊎ (node_of (with_state w m (with_new (state_of w m) m register made)) name ≡ node_of w name)
node_born w m register made lt own name =
    let q : MutatorState = with_new (state_of w m) m register made in
    elim (cases_eq name.maker m) [
      | inl e ↦ elim (get-append_cases (state_of w m).nodes made name.serial) [
        | inl p ↦ inl (same_name name (next_name (state_of w m) m) e p.0, node_same w m q lt own name e ∙ p.1)
        | inr p ↦ inr (node_same w m q lt own name e ∙ p ∙ sym (own_node w m own name e))
      ]
      | inr ne ↦ inr (node_other w m q lt name ne)
    ]

-- the next name has no node yet
pub next_is_new : (w : World) (m : ℕ) → m ≢ SHARED_MAKER → node_of w (next_name (state_of w m) m) ≡ None
next_is_new w m own = own_node w m own (next_name (state_of w m) m) refl ∙ slice_get_past (state_of w m).nodes (length (state_of w m).nodes) (omega arith)

-- a name that has a node gets another node
module _ (w : World) (name : Name) (found made : Node) (there : node_of w name ≡ Some found) where
  -- g
  module _ (at : name.maker ≡ SHARED_MAKER) (test : eqb name.maker SHARED_MAKER ≡ true) where
    serial_is : name.serial ≡ 0
    serial_is =
        let h : cond {A = Option Node} (eqb name.serial 0) (Some w.shared) None ≡ Some found = rw test at there in
        elim (eqb_tells name.serial 0) [ inl z ↦ z.1 | inr z ↦ let h' : None ≡ Some found = rw z.0 at h in absurd cc ]

    shared_cases : (n : Name) → ((n ≡ name) × (node_of (record w { shared = made }) n ≡ Some made)) ⊎
        ((n ≡ name → ⊥) × (node_of (record w { shared = made }) n ≡ node_of w n))
    shared_cases n = elim (name_cases n name) [
      | inl e ↦ inl (e, rw (e, test, serial_is) refl)
      | inr ne ↦ inr (
        ne,
        elim (eqb_tells n.maker SHARED_MAKER) [
          | inl p ↦ elim (eqb_tells n.serial 0) [
            | inl z ↦ absurd (ne (same_name n name (p.1 ∙ sym at) (z.1 ∙ sym serial_is)))
            | inr z ↦ rw (p.0, z.0) refl
          ]
          | inr p ↦ rw p.0 refl
        ],
      )
    ]

  -- an object that a mutator made
  module _ (own : name.maker ≢ SHARED_MAKER) where
    place : slice_get (state_of w name.maker).nodes name.serial ≡ Some found
    place = sym (own_node w name.maker own name refl) ∙ there

    pub maker_there : name.maker < length w.mutators
    maker_there = elim (cases_lt name.maker (length w.mutators)) [
      | inl lt ↦ lt
      | inr le ↦
          let none : state_of w name.maker ≡ no_mutator = get_or_past w.mutators name.maker no_mutator le in
          let bad : slice_get (no_mutator).nodes name.serial ≡ Some found = rw none at place in
          absurd cc
    ]

    nth_cases : (n : Name) → ((n ≡ name) × (node_of (with_state w name.maker (with_nth (state_of w name.maker) name.serial made)) n ≡ Some made)) ⊎
        ((n ≡ name → ⊥) × (node_of (with_state w name.maker (with_nth (state_of w name.maker) name.serial made)) n ≡ node_of w n))
    nth_cases n =
        let m = name.maker in
        let nodes = (state_of w m).nodes in
        let q : MutatorState = with_nth (state_of w m) name.serial made in
        elim (cases_eq n.maker m) [
          | inl e ↦ elim (cases_eq n.serial name.serial) [
            | inl s ↦ inl (
              same_name n name e s,
              node_same w m q maker_there own n e ∙
                  (rw s (slice_get-set_same nodes name.serial made (slice_get_within nodes name.serial found place))),
            )
            | inr ne ↦ inr (
              λ x. ne (ap (λ (y : Name). y.serial) x),
              node_same w m q maker_there own n e ∙
                  slice_get-set_other nodes name.serial n.serial made ne ∙ sym (own_node w m own n e),
            )
          ]
          | inr ne ↦ inr (λ x. ne (ap (λ (y : Name). y.maker) x), node_other w m q maker_there n ne)
        ]

  -- the name has the new node, and all other names keep their nodes
  pub node_cases : (n : Name) → ((n ≡ name) × (node_of (with_node w name made) n ≡ Some made)) ⊎
      ((n ≡ name → ⊥) × (node_of (with_node w name made) n ≡ node_of w n))
  node_cases n = elim (eqb_tells name.maker SHARED_MAKER) [
    | inl p ↦ rw p.0 (shared_cases p.1 p.0 n)
    | inr p ↦ rw p.0 (nth_cases p.1 n)
  ]

  -- registers and queues stay
  pub states_kept : (R : MutatorState → Type 0) → ((s : MutatorState) (nodes : List Node) → R s → R (record s { nodes = nodes })) →
      ((k : ℕ) → R (state_of w k)) → (k : ℕ) → R (state_of (with_node w name made) k)
  states_kept R free h k = elim (eqb_tells name.maker SHARED_MAKER) [
    | inl p ↦ rw p.0 (h k)
    | inr p ↦ rw p.0 (each_state w name.maker (with_nth (state_of w name.maker) name.serial made) (maker_there p.1) R
        (free (state_of w name.maker) _ (h name.maker)) h k)
  ]

  -- the number of mutators stays
  pub as_many : length (with_node w name made).mutators ≡ length w.mutators
  as_many = elim (eqb_tells name.maker SHARED_MAKER) [
    | inl p ↦ rw p.0 refl
    | inr p ↦ rw p.0 (length-set w.mutators name.maker _)
  ]
