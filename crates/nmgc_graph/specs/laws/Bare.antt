-- A world without the values in its registers is a world, with the same nodes and queues.
use Rattle.std.proofs.{Common.◌≡◌, Common.◌<◌, Common.◌≤◌, Common.ℕ, Common.List, Common.[], Common.◌∷◌, Common.zero, Common.suc, Common.length, Common.map, Common.replicate, Common.get_or, Common.sym, Common.refl, Common.ap, Common.subst, Common.◌∙◌, Common.Option, Common.Some, Common.None, Common.cond, Common.eqb, lemmas.List.length-map, lemmas.List.length-replicate, lemmas.List.Elements.All-replicate}
use Rattle.std.specs.Prelude.{IsSome, IfSome, slice_get, slice_index_or, ◌^◌}
use Rattle.nmgc_limits.specs.declared.mutators.TheConstants.{SHARED_MAKER, MAKERS}
use Rattle.nmgc_world_spec.specs.{declared.value.Name.Name, declared.value.Value.Value, declared.node.Node.Node, declared.mutator_state.MutatorState.MutatorState, World.World, World.state_of, World.node_of, World.no_mutator, World.held_by, Known.IsKnown, Known.AreKnown, Known.IsNodeOf, Known.IsWorld}
use Rattle.nmgc_world_spec.specs.declared.value.Value.TheVariants as value
use Rattle.nmgc_graph.specs.Bare.{cleared, without_registers}

get_bare : (states : List MutatorState) (m : ℕ) → slice_index_or (map cleared states) m no_mutator ≡ cleared (slice_index_or states m no_mutator)
get_bare [] m = refl
get_bare (state ∷ states) zero = refl
get_bare (state ∷ states) (suc m) = get_bare states m

pub bare_state : (w : World) (m : ℕ) → state_of (without_registers w) m ≡ cleared (state_of w m)
bare_state w m = get_bare w.mutators m

bare_nodes : (w : World) (m : ℕ) → (state_of (without_registers w) m).nodes ≡ (state_of w m).nodes
bare_nodes w m = ap (λ (s : MutatorState). s.nodes) (bare_state w m)

pub bare_node : (w : World) (name : Name) → node_of (without_registers w) name ≡ node_of w name
bare_node w name = ap (λ (nodes : List Node). cond (eqb name.maker SHARED_MAKER) (cond (eqb name.serial 0) (Some w.shared) None)
    (slice_get nodes name.serial)) (bare_nodes w name.maker)

module _ (w : World) (h : IsWorld w) where
  known_here : (v : Value) → IsKnown w v → IsKnown (without_registers w) v
  known_here value.Nil k = tt
  known_here (value.Number n) k = tt
  known_here (value.Ref name) k = subst (λ (o : Option Node). IsSome o) (sym (bare_node w name)) k

  all_known : (values : List Value) → AreKnown w values → AreKnown (without_registers w) values
  all_known values k i d lt = known_here (get_or values i d) (k i d lt)

  pub bare_world : IsWorld (without_registers w)
  bare_world = record {
    some = subst (λ (n : ℕ). 1 ≤ n) (sym (length-map w.mutators cleared)) h.some;
    few = subst (λ (n : ℕ). n ≤ MAKERS) (sym (length-map w.mutators cleared)) h.few;
    registers = λ m lt. ap (λ (s : MutatorState). length s.registers) (bare_state w m) ∙
        length-replicate (length (state_of w m).registers) value.Nil ∙ h.registers m (subst (λ (n : ℕ). m < n) (length-map w.mutators cleared) lt);
    serials = λ m. subst (λ (nodes : List Node). length nodes < 2 ^ 32) (sym (bare_nodes w m)) (h.serials m);
    shared = h.shared;
    known_registers = λ m. subst (λ (s : MutatorState). AreKnown (without_registers w) s.registers) (sym (bare_state w m))
        (All-replicate (IsKnown (without_registers w)) (length (state_of w m).registers) value.Nil tt);
    known_queue = λ m. subst (λ (s : MutatorState). AreKnown (without_registers w) s.queue) (sym (bare_state w m))
        (all_known (state_of w m).queue (h.known_queue m));
    nodes = λ name. subst (λ (o : Option Node). IfSome o (IsNodeOf (without_registers w))) (sym (bare_node w name)) (by_node (node_of w name) (h.nodes name));
  }
    where
      by_node : (o : Option Node) → IfSome o (IsNodeOf w) → IfSome o (IsNodeOf (without_registers w))
      by_node None k = tt
      by_node (Some node) k = record { known = all_known (held_by node) k.known; sized = k.sized }
