-- Heaps as worlds: the node of an object has its fields, and a heap stays one after an object was made or written.
use Rattle.nmgc_barrier_laws.specs.{FieldCycle.IsMade, FieldCycle.IsWritten}
use Rattle.nmgc_field_checker.specs.{Fields.Refers, Heaps.AreFields, Heaps.AreFieldsIf, Heaps.Has, Heaps.IsBelow, Heaps.IsHeap, Heaps.filled, Heaps.named, Heaps.node_with, Heaps.value_in, Heaps.values_in, Heaps.with_rest, Heaps.world_of}
use Rattle.nmgc_limits.specs.declared.mutators.TheConstants.{REGISTERS, SHARED_SLOTS}
use Rattle.nmgc_lists.specs.laws.{Items.get_is_some, Items.is_some_get, Items.item_map, Items.of_item, Options.some_is}
use Rattle.nmgc_world_laws.specs.laws.{Worlds.refill_whole}
use Rattle.nmgc_world_spec.specs.{Known.AreKnown, Known.IsKnown, Reach.strong_at, World.World, World.node_of, World.serial_of, World.with_node, declared.mutator_state.MutatorState.MutatorState, declared.node.Node.Node, declared.node.Node.TheVariants.Arr, declared.value.Name.Name, declared.value.Value.Value, laws.Common.same_ref}
use Rattle.std.proofs.Common.{List, None, Option, Some, [], ap, arith, drop, inl, inr, length, length-append, length-drop, length-set, length-take, map, max, refl, replicate, set, subst, suc, sym, take, zero, ℕ, ◌++◌, ◌+◌, ◌-◌, ◌<◌, ◌^◌, ◌∙◌, ◌∷◌, ◌≡◌, ◌≤◌}
use Rattle.std.proofs.lemmas.{List.Elements.All-append, List.Elements.All-cons, List.Elements.All-drop, List.Elements.All-head, List.Elements.All-nil, List.Elements.All-push, List.Elements.All-replicate, List.Elements.All-set, List.Elements.All-tail, List.Elements.All-take, List.Elements.All-weaker, List.drop-map, List.drop-replicate, List.length-map, List.length-replicate, List.length_push, List.map-append, List.map-set, List.take-map, Option.slice_get-map}
use Rattle.std.specs.List.{refill}
use Rattle.std.specs.Option.{option_map}
use Rattle.std.specs.Prelude.{All, slice_get}
use Rattle.nmgc_world_spec.specs.declared.value.Value.TheVariants as value

-- a mapped option is made of an item
pub some_mapped : {A B : Type 0} (f : A → B) (o : Option A) (y : B) → option_map f o ≡ Some y → (x : A) × (o ≡ Some x) × (y ≡ f x)
some_mapped f None y e = absurd cc
some_mapped f (Some x) y e = (x, refl, sym (some_is (f x) y e))

-- a value determines its field
pub same_value : (a b : Option ℕ) → value_in a ≡ value_in b → a ≡ b
same_value None None e = refl
same_value None (Some y) e = absurd cc
same_value (Some x) None e = absurd cc
same_value (Some x) (Some y) e = ap (λ (n : Name). Some n.serial) (same_ref (named x) (named y) e)

-- fields with the same values are the same
same_values : (a b : List (Option ℕ)) → values_in a ≡ values_in b → a ≡ b
same_values [] [] e = refl
same_values [] (y ∷ b) e = absurd cc
same_values (x ∷ a) [] e = absurd cc
same_values (x ∷ a) (y ∷ b) e =
    let first : value_in x ≡ value_in y = cc in
    let rest : values_in a ≡ values_in b = cc in
    let p : x ≡ y = same_value x y first in
    let q : a ≡ b = same_values a b rest in
    cc

pub same_fields : (a b : List (Option ℕ)) → node_with a ≡ node_with b → a ≡ b
same_fields a b e = same_values a b (let v : values_in a ≡ values_in b = cc in v)

-- the node of an object, and the fields of a node
pub node_is : (objects : List (List (Option ℕ))) (k : ℕ) (fields : List (Option ℕ)) → slice_get objects k ≡ Some fields → AreFields (world_of objects) k fields
node_is objects k fields e = item_map node_with objects k fields e

pub fields_at : (objects : List (List (Option ℕ))) (k : ℕ) (node : Node) → node_of (world_of objects) (named k) ≡ Some node →
    (fields : List (Option ℕ)) × (slice_get objects k ≡ Some fields) × (node ≡ node_with fields)
fields_at objects k node e = some_mapped node_with (slice_get objects k) node (sym (slice_get-map node_with objects k) ∙ e)

-- a heap has the objects below its count
pub has_object : (objects : List (List (Option ℕ))) (k : ℕ) → k < length objects → Has (world_of objects) k
has_object objects k lt = is_some_get (map node_with objects) k (subst (λ (n : ℕ). k < n) (sym (length-map objects node_with)) lt)

pub object_has : (objects : List (List (Option ℕ))) (k : ℕ) → Has (world_of objects) k → k < length objects
object_has objects k h = subst (λ (n : ℕ). k < n) (length-map objects node_with) (get_is_some (map node_with objects) k h)

-- a field refers to an object exactly if the fields have it
pub field_refers : (w : World) (object place target : ℕ) (fields : List (Option ℕ)) → AreFieldsIf w object fields →
    slice_get fields place ≡ Some (Some target) → Refers w object place target
field_refers w object place target fields (inl are) e = record {
  node = node_with fields;
  node_is = are;
  field = item_map value_in fields place (Some target) e;
}
field_refers w object place target fields (inr none) e =
    let bad : None ≡ Some (Some target) = subst (λ (l : List (Option ℕ)). slice_get l place ≡ Some (Some target)) none.1 e in
    absurd cc

pub refers_field : (w : World) (object place target : ℕ) (fields : List (Option ℕ)) → AreFieldsIf w object fields → Refers w object place target →
    slice_get fields place ≡ Some (Some target)
refers_field w object place target fields (inl are) r =
    let same : r.node ≡ node_with fields = some_is r.node (node_with fields) (sym r.node_is ∙ are) in
    let e : slice_get (values_in fields) place ≡ Some (value.Ref (named target)) =
    subst (λ (n : Node). strong_at n place ≡ Some (value.Ref (named target))) same r.field in
    let p = some_mapped value_in (slice_get fields place) (value.Ref (named target)) (sym (slice_get-map value_in fields place) ∙ e) in
    p.1 ∙ ap (λ (o : Option ℕ). Some o) (same_value p.0 (Some target) (sym p.2))
refers_field w object place target fields (inr none) r =
    let bad : None ≡ Some r.node = sym none.0 ∙ r.node_is in
    absurd cc

-- the values of a new object's fields
nothing_more : (n : ℕ) → values_in (replicate n None) ≡ replicate n value.Nil
nothing_more zero = refl
nothing_more (suc n) = ap (λ (l : List Value). value.Nil ∷ l) (nothing_more n)

pub filled_is : (count : ℕ) (fields : List (Option ℕ)) → values_in (with_rest count fields) ≡ filled count fields
filled_is count fields = map-append value_in fields (replicate (count - length fields) None) ∙
    ap (λ (l : List Value). values_in fields ++ l) (nothing_more (count - length fields))

-- known values are fields that refer to objects of the heap
field_below : (objects : List (List (Option ℕ))) (field : Option ℕ) → IsKnown (world_of objects) (value_in field) → IsBelow (length objects) field
field_below objects None k = tt
field_below objects (Some target) k = object_has objects target k

pub fields_below : (objects : List (List (Option ℕ))) (fields : List (Option ℕ)) → AreKnown (world_of objects) (values_in fields) →
    All (IsBelow (length objects)) fields
fields_below objects [] k = All-nil (IsBelow (length objects))
fields_below objects (field ∷ fields) k =
    All-cons (IsBelow (length objects)) field fields
    (field_below objects field (All-head (IsKnown (world_of objects)) (value_in field) (values_in fields) k))
    (fields_below objects fields (All-tail (IsKnown (world_of objects)) (value_in field) (values_in fields) k))

below_more : (m n : ℕ) → m ≤ n → (field : Option ℕ) → IsBelow m field → IsBelow n field
below_more m n le None b = tt
below_more m n le (Some target) b = omega arith

pub all_below_more : (m n : ℕ) → m ≤ n → (fields : List (Option ℕ)) → All (IsBelow m) fields → All (IsBelow n) fields
all_below_more m n le fields b = All-weaker (IsBelow m) (IsBelow n) (below_more m n le) fields b

pub known_filled : (w : World) (count : ℕ) (fields : List (Option ℕ)) → AreKnown w (values_in fields) → AreKnown w (filled count fields)
known_filled w count fields k =
    All-append (IsKnown w) (values_in fields) (replicate (count - length fields) value.Nil) k
    (All-replicate (IsKnown w) (count - length fields) value.Nil tt)

pub below_filled : (n count : ℕ) (fields : List (Option ℕ)) → All (IsBelow n) fields → All (IsBelow n) (with_rest count fields)
below_filled n count fields b =
    All-append (IsBelow n) fields (replicate (count - length fields) None) b (All-replicate (IsBelow n) (count - length fields) None tt)

-- the world whose objects have these nodes
abbrev mutator_with : List Node → MutatorState
mutator_with nodes = record { registers = replicate REGISTERS value.Nil; queue = []; nodes = nodes }

abbrev world_with : List Node → World
world_with nodes = record { shared = Arr (replicate SHARED_SLOTS value.Nil); mutators = mutator_with nodes ∷ [] }

-- the heap with one more object
pub made_is : (objects : List (List (Option ℕ))) (count : ℕ) (fields : List (Option ℕ)) → AreKnown (world_of objects) (values_in fields) →
    IsMade (world_of objects) (named (serial_of (world_of objects) 0)) (filled count fields) (world_of (objects ++ with_rest count fields ∷ []))
made_is objects count fields known = record {
  known = known_filled (world_of objects) count fields known;
  name_is = refl;
  after_is = ap world_with (map-append node_with objects (with_rest count fields ∷ []) ∙
      ap (λ (v : List Value). map node_with objects ++ Arr v ∷ []) (filled_is count fields));
}

pub heap_more : (objects : List (List (Option ℕ))) (count : ℕ) (fields : List (Option ℕ)) → IsHeap objects → length objects < 2 ^ 32 - 1 →
    AreKnown (world_of objects) (values_in fields) → IsHeap (objects ++ with_rest count fields ∷ [])
heap_more objects count fields h room known =
    let n = length objects in
    let new : All (IsBelow n) (with_rest count fields) = below_filled n count fields (fields_below objects fields known) in
    record {
      few = omega (arith, length_push objects (with_rest count fields));
      closed = subst (λ (m : ℕ). All (All (IsBelow m)) (objects ++ with_rest count fields ∷ [])) (sym (length_push objects (with_rest count fields)))
          (All-push (All (IsBelow (n + 1))) objects (with_rest count fields)
          (All-weaker (All (IsBelow n)) (All (IsBelow (n + 1))) (all_below_more n (n + 1) (omega arith)) objects h.closed)
          (all_below_more n (n + 1) (omega arith) (with_rest count fields) new));
    }

-- an object's fields after a store
abbrev pub stored_over : ℕ → List (Option ℕ) → List (Option ℕ) → List (Option ℕ)
stored_over place old fields = take place old ++ fields ++ drop (place + length fields) old

values_over : (place : ℕ) (old fields : List (Option ℕ)) →
    values_in (stored_over place old fields) ≡ take place (values_in old) ++ values_in fields ++ drop (place + length (values_in fields)) (values_in old)
values_over place old fields =
    map-append value_in (take place old ++ fields) (drop (place + length fields) old) ∙
    ap (λ (l : List Value). l ++ values_in (drop (place + length fields) old)) (map-append value_in (take place old) fields) ∙
    ap (λ (l : List Value). l ++ values_in fields ++ values_in (drop (place + length fields) old)) (sym (take-map value_in place old)) ∙
    ap (λ (l : List Value). take place (values_in old) ++ values_in fields ++ l) (sym (drop-map value_in (place + length fields) old)) ∙
    ap (λ (n : ℕ). take place (values_in old) ++ values_in fields ++ drop (place + n) (values_in old)) (sym (length-map fields value_in))

-- the heap after a store, as the world with another node
pub written_after : (objects : List (List (Option ℕ))) (k place : ℕ) (old fields : List (Option ℕ)) →
    world_of (set objects k (stored_over place old fields)) ≡ with_node (world_of objects) (named k) (Arr (take place (values_in old) ++ values_in fields ++
    drop (place + length (values_in fields)) (values_in old)))
written_after objects k place old fields =
    ap world_with (map-set node_with objects k (stored_over place old fields) ∙
    ap (λ (v : List Value). set (map node_with objects) k (Arr v)) (values_over place old fields))

-- the heap after a store
pub written_is : (objects : List (List (Option ℕ))) (k place : ℕ) (old fields : List (Option ℕ)) → slice_get objects k ≡ Some old →
    place + length fields ≤ length old → AreKnown (world_of objects) (values_in fields) →
    IsWritten (world_of objects) (named k) place (values_in fields) (world_of (set objects k (stored_over place old fields)))
written_is objects k place old fields e fits known = record {
  known = known;
  old = values_in old;
  node_is = node_is objects k old e;
  fits = omega (arith, length-map fields value_in, length-map old value_in);
  after_is = written_after objects k place old fields;
}

pub heap_set : (objects : List (List (Option ℕ))) (k place : ℕ) (old fields : List (Option ℕ)) → IsHeap objects → slice_get objects k ≡ Some old →
    AreKnown (world_of objects) (values_in fields) → IsHeap (set objects k (stored_over place old fields))
heap_set objects k place old fields h e known =
    let n = length objects in
    let own : All (IsBelow n) old = of_item (All (IsBelow n)) objects k old h.closed e in
    let new : All (IsBelow n) (stored_over place old fields) =
    All-append (IsBelow n) (take place old ++ fields) (drop (place + length fields) old)
    (All-append (IsBelow n) (take place old) fields (All-take (IsBelow n) place old own) (fields_below objects fields known))
    (All-drop (IsBelow n) (place + length fields) old own) in
    record {
      few = omega (arith, length-set objects k (stored_over place old fields), h.few);
      closed = subst (λ (m : ℕ). All (All (IsBelow m)) (set objects k (stored_over place old fields)))
          (sym (length-set objects k (stored_over place old fields)))
          (All-set (All (IsBelow n)) objects k (stored_over place old fields) new h.closed);
    }

-- a new object's fields, written into fields without objects
pub new_is : (count size : ℕ) (fields made lent put : List (Option ℕ)) → made ≡ replicate size None → lent ≡ made → size ≡ max (length fields) count →
    put ≡ fields ++ drop (0 + length fields) lent → refill (length made) made put ≡ with_rest count fields
new_is count size fields made lent put made_of lent_is size_is put_is =
    let rest : drop (0 + length fields) lent ≡ replicate (count - length fields) None =
    ap (λ (l : List (Option ℕ)). drop (0 + length fields) l) (lent_is ∙ made_of) ∙ drop-replicate (0 + length fields) size None ∙
    ap (λ (n : ℕ). replicate n None) (let e : size - (0 + length fields) ≡ count - length fields = omega arith in e) in
    let whole : put ≡ with_rest count fields = put_is ∙ ap (λ (l : List (Option ℕ)). fields ++ l) rest in
    let long : length put ≡ length made =
    ap (λ (l : List (Option ℕ)). length l) whole ∙ length-append fields (replicate (count - length fields) None) ∙
    (let e : length fields + length (replicate {A = Option ℕ} (count - length fields) None) ≡ size =
    omega (arith, length-replicate {A = Option ℕ} (count - length fields) None) in e) ∙
    sym (ap (λ (l : List (Option ℕ)). length l) made_of ∙ length-replicate size None) in
    refill_whole made put long ∙ whole
