-- No command brings back a name that nothing held.
use Rattle.std.specs.Prelude.{◌≡◌, ◌≢◌}
use Rattle.nmgc_world_laws.specs.laws.Vocabulary.{ℕ, List, get_or, refl, sym, subst, Option, Some, None, inl, inr, IsSome, IfSome, All, Contains, All-contains, Contains-append_left, Contains-append_right, Contains-append_cases, Contains-get_or, Operand, Command, SHARED_MAKER, Name, Value, Parts, Node, Con, Var, Arr, Thunk, Weak, Stack, World, state_of, node_of, value_read, shared_name, value_for, object_of, read_object, step, name_in, value_opened, opened_in, opened_by, IsRoot, IsAlive, strong_fields, at_some, nothing_in, one_is, Names, OfParts, Fields, CoversReach, IsOfWeak, HoldsOnly, StepHoldsOnly}
use Rattle.nmgc_world_spec.specs.declared.command.Command.TheVariants as command
use Rattle.nmgc_world_spec.specs.declared.value.Value.TheVariants as value
use Rattle.nmgc_world_laws.specs.laws.{Worlds.not_shared, Moves.operand_has, WeakMoves.all_moves, Alive.AliveOk, Alive.WeaksOk, Alive.step_weaks}

-- a property of weak pointers that are alive, as a property of nodes
pub alive_ok : (R : Name → Parts → Type 0) (w : World) → ((n : Name) (parts : Parts) → IsAlive w n parts → R n parts) → WeaksOk R w
alive_ok R w h n = by_node (node_of w n) refl
  where
    by_node : (o : Option Node) → node_of w n ≡ o → IfSome o (AliveOk R n)
    by_node None e = tt
    by_node (Some (Con tag values)) e = tt
    by_node (Some (Var x)) e = tt
    by_node (Some (Arr values)) e = tt
    by_node (Some (Thunk free result)) e = tt
    by_node (Some (Weak None)) e = tt
    by_node (Some (Weak (Some parts))) e = h n parts e
    by_node (Some (Stack size values)) e = tt

pub alive_has : (R : Name → Parts → Type 0) (w : World) → WeaksOk R w → (n : Name) (parts : Parts) → IsAlive w n parts → R n parts
alive_has R w h n parts e = at_some (node_of w n) (Weak (Some parts)) (AliveOk R n) e (h n)

-- an option that is `None` has no item
pub absent : (o : Option Node) → o ≡ None → IsSome o → ⊥
absent None none some = cc
absent (Some x) none some = cc

pub some_of : (o : Option Node) (node : Node) → o ≡ Some node → IsSome o
some_of o node is = subst (λ (x : Option Node). IsSome x) (sym is) refl

module _ (P : Name → Type 0) where
  -- a weak pointer and its parts are in the set
  abbrev pub OfNames : Name → Parts → Type 0
  OfNames weak parts = P weak × OfParts P parts

  in_names : (v : Value) (n : Name) → Names P v → Contains (name_in v) n → P n
  in_names value.Nil n h c = absurd (nothing_in n c)
  in_names (value.Number k) n h c = absurd (nothing_in n c)
  in_names (value.Ref own) n h c = subst P (one_is own n c) h

  -- each name that a command opens is a part of a weak pointer that is alive
  pub opened_has : (w : World) (m : ℕ) (c : Command) → WeaksOk OfNames w → (n : Name) → Contains (opened_by w m c) n → P n
  opened_has w m (command.Deref dest object) h n c = by_value (value_for w m object) c
    where
      by_node : (name : Name) (o : Option Node) → IfSome o (AliveOk OfNames name) → Contains (value_opened o) n → P n
      by_node name None k d = absurd (nothing_in n d)
      by_node name (Some (Con tag values)) k d = absurd (nothing_in n d)
      by_node name (Some (Var x)) k d = absurd (nothing_in n d)
      by_node name (Some (Arr values)) k d = absurd (nothing_in n d)
      by_node name (Some (Thunk free result)) k d = absurd (nothing_in n d)
      by_node name (Some (Weak None)) k d = absurd (nothing_in n d)
      by_node name (Some (Weak (Some parts))) k d = in_names parts.value n k.1.1 d
      by_node name (Some (Stack size values)) k d = absurd (nothing_in n d)

      by_value : (v : Value) → Contains (value_opened (object_of w v)) n → P n
      by_value value.Nil d = absurd (nothing_in n d)
      by_value (value.Number k) d = absurd (nothing_in n d)
      by_value (value.Ref name) d = by_node name (node_of w name) (h name) d
  opened_has w m (command.Finalise dest object) h n c = by_value (value_for w m object) c
    where
      by_node : (name : Name) (o : Option Node) → IfSome o (AliveOk OfNames name) → Contains (opened_in o) n → P n
      by_node name None k d = absurd (nothing_in n d)
      by_node name (Some (Con tag values)) k d = absurd (nothing_in n d)
      by_node name (Some (Var x)) k d = absurd (nothing_in n d)
      by_node name (Some (Arr values)) k d = absurd (nothing_in n d)
      by_node name (Some (Thunk free result)) k d = absurd (nothing_in n d)
      by_node name (Some (Weak None)) k d = absurd (nothing_in n d)
      by_node name (Some (Weak (Some parts))) k d = elim (Contains-append_cases (name_in parts.value) (name_in parts.finaliser) n d) [
        | inl e ↦ in_names parts.value n k.1.1 e
        | inr e ↦ in_names parts.finaliser n k.1.2 e
      ]
      by_node name (Some (Stack size values)) k d = absurd (nothing_in n d)

      by_value : (v : Value) → Contains (opened_in (object_of w v)) n → P n
      by_value value.Nil d = absurd (nothing_in n d)
      by_value (value.Number k) d = absurd (nothing_in n d)
      by_value (value.Ref name) d = by_node name (node_of w name) (h name) d
  opened_has w m _ h n c = absurd (nothing_in n c)

  -- properties of values, from properties of names
  pub value_names : (v : Value) → ((n : Name) → v ≡ value.Ref n → P n) → Names P v
  value_names value.Nil h = tt
  value_names (value.Number n) h = tt
  value_names (value.Ref n) h = h n refl

  pub values_names : (vs : List Value) → ((n : Name) → Contains vs (value.Ref n) → P n) → All (Names P) vs
  values_names vs h i d lt = value_names (get_or vs i d) (λ n e. h n (let C : Value → Type 0 = Contains vs in subst C e (Contains-get_or vs i d lt)))

  pub name_has : (v : Value) (n : Name) → v ≡ value.Ref n → Names P v → P n
  name_has v n e h = subst (Names P) e h

  -- the two forms of "is held": for values and for names
  pub held : (w : World) → HoldsOnly P w → CoversReach P w
  held w h = record {
    registers = λ k. values_names (state_of w k).registers (λ n c.
        h.roots n (inr (k, Contains-append_left (state_of w k).registers (state_of w k).queue (value.Ref n) c)));
    queues = λ k. values_names (state_of w k).queue (λ n c. h.roots n (inr (
      k,
      Contains-append_right (state_of w k).registers (state_of w k).queue (value.Ref n) c,
    )));
    fields = λ name p. by_node name p (node_of w name) refl;
  }
    where
      by_node : (name : Name) → P name → (o : Option Node) → node_of w name ≡ o → IfSome o (Fields (Names P))
      by_node name p None e = tt
      by_node name p (Some node) e = values_names (strong_fields node) (λ n c. h.fields name n p (node, e, c))

  pub weaks_held : (w : World) → HoldsOnly P w → WeaksOk OfNames w
  weaks_held w h = alive_ok OfNames w (λ name parts e. (
    h.weaks name name parts e (inl refl),
    (
      value_names parts.key (λ n is. h.weaks name n parts e (inr (inl is))),
      value_names parts.value (λ n is. h.weaks name n parts e (inr (inr (inl is)))),
      value_names parts.finaliser (λ n is. h.weaks name n parts e (inr (inr (inr is)))),
    ),
  ))

  pub holds_only : (w : World) → P shared_name → CoversReach P w → WeaksOk OfNames w → HoldsOnly P w
  holds_only w g k h = record {
    roots = root;
    fields = λ name target p r.
        All-contains (Names P) (strong_fields r.0) (value.Ref target) (at_some (node_of w name) r.0 (Fields (Names P)) r.1 (k.fields name p)) r.2;
    weaks = λ weak name parts alive of. part weak name parts (alive_has OfNames w h weak parts alive) of;
  }
    where
      root : (n : Name) → IsRoot w n → P n
      root n (inl e) = subst P (sym e) g
      root n (inr r) = elim (Contains-append_cases (state_of w r.0).registers (state_of w r.0).queue (value.Ref n) r.1) [
        | inl c ↦ All-contains (Names P) (state_of w r.0).registers (value.Ref n) (k.registers r.0) c
        | inr c ↦ All-contains (Names P) (state_of w r.0).queue (value.Ref n) (k.queues r.0) c
      ]

      part : (weak name : Name) (parts : Parts) → OfNames weak parts → IsOfWeak weak parts name → P name
      part weak name parts ok (inl e) = subst P (sym e) ok.0
      part weak name parts ok (inr (inl e)) = name_has parts.key name e ok.1.0
      part weak name parts ok (inr (inr (inl e))) = name_has parts.value name e ok.1.1
      part weak name parts ok (inr (inr (inr e))) = name_has parts.finaliser name e ok.1.2

  of_operand : (w : World) (m : ℕ) (o : Operand) → P shared_name → CoversReach P w → Names P (value_for w m o)
  of_operand w m o g k = operand_has P (state_of w m).registers o g (k.registers m)

  pub step_holds_only : StepHoldsOnly P
  step_holds_only w m c is can next h =
      let own : m ≢ SHARED_MAKER = not_shared w m is can.mutator in
      let g : P shared_name = h.roots shared_name (inl refl) in
      let k : CoversReach P w = held w h in
      let ok : WeaksOk OfNames w = weaks_held w h in
      holds_only (step w m c).0 g
      (all_moves P w m c can.mutator own g next (opened_has w m c ok) k).holds
      (step_weaks OfNames w m c can.mutator own (λ key v finaliser. (next, (of_operand w m key g k, of_operand w m v g k, of_operand w m finaliser g k))) ok)
