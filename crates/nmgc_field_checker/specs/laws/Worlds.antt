-- The heap of some objects is a world, and it stays one of objects after an object was made or written.
use Rattle.std.proofs.Common.{List, None, Option, Some, [], ap, arith, drop, inl, inr, length, refl, replicate, set, subst, suc, sym, take, zero, ℕ, ◌++◌, ◌+◌, ◌-◌, ◌<◌, ◌^◌, ◌∙◌, ◌∷◌, ◌≡◌, ◌≤◌}
use Rattle.std.proofs.lemmas.{Bool.Decides.eqb_tells, List.Elements.All-cons, List.Elements.All-head, List.Elements.All-nil, List.Elements.All-replicate, List.Elements.All-tail, List.length-map, List.length-replicate, Option.slice_get-map}
use Rattle.std.specs.Option.{option_map}
use Rattle.std.specs.Prelude.{All, IfSome, slice_get}
use Rattle.nmgc_limits.specs.declared.mutators.TheConstants.{REGISTERS, SHARED_MAKER, SHARED_SLOTS}
use Rattle.nmgc_lists.specs.laws.Items.{of_item}
use Rattle.nmgc_world_spec.specs.{declared.mutator_state.MutatorState.MutatorState, declared.node.Node.TheVariants.Arr, declared.value.Name.Name, declared.value.Value.Value, Known.AreKnown, Known.IsKnown, Known.IsNodeOf, Known.IsWorld, World.World, World.no_mutator, World.node_of, World.serial_of, World.state_of, World.with_node, World.with_state}
use Rattle.nmgc_world_spec.specs.declared.value.Value.TheVariants as value
use Rattle.nmgc_barrier_laws.specs.FieldCycle.{IsMade, IsWritten}
use Rattle.nmgc_field_checker.specs.Heaps.{IsBelow, IsHeap, IsHeapWorld, filled, maker_of, named, node_with, value_in, values_in, with_rest, world_of}
use Rattle.nmgc_field_checker.specs.laws.Heaps.{fields_at, fields_below, has_object, heap_more, heap_set, made_is, stored_over, written_after}

module _ (objects : List (List (Option ℕ))) (h : IsHeap objects) where
  known_value : (field : Option ℕ) → IsBelow (length objects) field → IsKnown (world_of objects) (value_in field)
  known_value None b = tt
  known_value (Some target) b = has_object objects target b

  known_values : (fields : List (Option ℕ)) → All (IsBelow (length objects)) fields → AreKnown (world_of objects) (values_in fields)
  known_values [] b = All-nil (IsKnown (world_of objects))
  known_values (field ∷ fields) b =
      All-cons (IsKnown (world_of objects)) (value_in field) (values_in fields)
      (known_value field (All-head (IsBelow (length objects)) field fields b))
      (known_values fields (All-tail (IsBelow (length objects)) field fields b))

  -- a property of the mutator that made the objects, and of an absent one, is a property of each state
  each_state : (R : MutatorState → Type 0) → R (maker_of objects) → R no_mutator → (m : ℕ) → R (state_of (world_of objects) m)
  each_state R own none zero = own
  each_state R own none (suc m) = none

  known_node : (i : ℕ) (o : Option (List (Option ℕ))) → slice_get objects i ≡ o → IfSome (option_map node_with o) (IsNodeOf (world_of objects))
  known_node i None e = tt
  known_node i (Some fields) e = record {
    known = known_values fields (of_item (All (IsBelow (length objects))) objects i fields h.closed e);
    sized = tt;
  }

  known_nodes : (name : Name) → IfSome (node_of (world_of objects) name) (IsNodeOf (world_of objects))
  known_nodes name = elim (eqb_tells name.maker SHARED_MAKER) [
    | inl p ↦ elim (eqb_tells name.serial 0) [
      | inl z ↦ rw (p.0, z.0) (record { known = All-replicate (IsKnown (world_of objects)) SHARED_SLOTS value.Nil tt; sized = tt })
      | inr z ↦ rw (p.0, z.0) tt
    ]
    | inr p ↦ rw p.0 (each_state (λ (s : MutatorState). IfSome (slice_get s.nodes name.serial) (IsNodeOf (world_of objects)))
        (rw (slice_get-map node_with objects name.serial) (known_node name.serial (slice_get objects name.serial) refl)) tt name.maker)
  ]

  pub heap_is_world : IsWorld (world_of objects)
  heap_is_world = record {
    some = omega arith;
    few = omega arith;
    registers = each_registers;
    serials = each_state (λ (s : MutatorState). length s.nodes < 2 ^ 32) (let few = h.few in omega (arith, length-map objects node_with, few)) (omega arith);
    shared = length-replicate SHARED_SLOTS value.Nil;
    known_registers = each_state (λ (s : MutatorState). All (IsKnown (world_of objects)) s.registers)
        (All-replicate (IsKnown (world_of objects)) REGISTERS value.Nil tt) (All-nil (IsKnown (world_of objects)));
    known_queue = each_state (λ (s : MutatorState). All (IsKnown (world_of objects)) s.queue) (All-nil (IsKnown (world_of objects)))
        (All-nil (IsKnown (world_of objects)));
    nodes = known_nodes;
  }
    where
      each_registers : (m : ℕ) → m < 1 → length (state_of (world_of objects) m).registers ≡ REGISTERS
      each_registers zero lt = length-replicate REGISTERS value.Nil
      each_registers (suc m) lt = absurd (omega arith)

-- a heap of objects is a world
pub world_is : (w : World) → IsHeapWorld w → IsWorld w
world_is w h = subst (λ (v : World). IsWorld v) (sym h.2) (heap_is_world h.0 h.1)

-- of known values, the first are known
first_known : (w : World) (fields : List (Option ℕ)) (rest : List Value) → AreKnown w (values_in fields ++ rest) → AreKnown w (values_in fields)
first_known w [] rest k = All-nil (IsKnown w)
first_known w (field ∷ fields) rest k =
    All-cons (IsKnown w) (value_in field) (values_in fields) (All-head (IsKnown w) (value_in field) (values_in fields ++ rest) k)
    (first_known w fields rest (All-tail (IsKnown w) (value_in field) (values_in fields ++ rest) k))

-- the world with one more object
abbrev with_made : List Value → World → World
with_made values w = with_state w 0 (record (state_of w 0) { nodes = (state_of w 0).nodes ++ Arr values ∷ [] })

-- the heap stays one of objects after an object was made
pub made_stays : (w after : World) (name : Name) (count : ℕ) (fields : List (Option ℕ)) → IsHeapWorld w → serial_of w 0 < 2 ^ 32 - 1 →
    IsMade w name (filled count fields) after → IsHeapWorld after
made_stays w after name count fields h room made =
    let objects = h.0 in
    let known : AreKnown (world_of objects) (values_in fields) =
    subst (λ (v : World). AreKnown v (values_in fields)) h.2 (first_known w fields (replicate (count - length fields) value.Nil) made.known) in
    let few : serial_of (world_of objects) 0 < 2 ^ 32 - 1 = subst (λ (v : World). serial_of v 0 < 2 ^ 32 - 1) h.2 room in
    let less : length objects < 2 ^ 32 - 1 = subst (λ (n : ℕ). n < 2 ^ 32 - 1) (length-map objects node_with) few in (
      objects ++ with_rest count fields ∷ [],
      heap_more objects count fields h.1 less known,
      made.after_is ∙ ap (with_made (filled count fields)) h.2 ∙ sym (made_is objects count fields known).after_is,
    )

-- the world after a store over these values
abbrev with_written : ℕ → ℕ → List Value → List Value → World → World
with_written object place values old w = with_node w (named object) (Arr (take place old ++ values ++ drop (place + length values) old))

-- the heap stays one of objects after a store
pub written_stays : (w after : World) (object place : ℕ) (fields : List (Option ℕ)) → IsHeapWorld w → IsWritten w (named object) place (values_in fields) after →
    IsHeapWorld after
written_stays w after object place fields h write =
    let objects = h.0 in
    let known : AreKnown (world_of objects) (values_in fields) = subst (λ (v : World). AreKnown v (values_in fields)) h.2 write.known in
    let at : node_of (world_of objects) (named object) ≡ Some (Arr write.old) = subst (λ (v : World). node_of v (named object) ≡ Some (Arr write.old)) h.2 write.node_is in
    let own = fields_at objects object (Arr write.old) at in
    let node : Arr write.old ≡ Arr (values_in own.0) = own.2 in
    let same : write.old ≡ values_in own.0 = cc in
    let there : slice_get objects object ≡ Some own.0 = own.1 in (
      set objects object (stored_over place own.0 fields),
      heap_set objects object place own.0 fields h.1 there known,
      write.after_is ∙ ap (with_written object place (values_in fields) write.old) h.2 ∙
          ap (λ (l : List Value). with_written object place (values_in fields) l (world_of objects)) same ∙
          sym (written_after objects object place own.0 fields),
    )
