-- The fields that a store changes in a heap.
use Rattle.nmgc_field_checker.proofs.Vocabulary.{AreFields, Arr, Contains, HasStrongField, IsAlive, IsLost, IsStore, IsStored, List, Name, Node, None, Option, Parts, Refers, SHARED_MAKER, SHARED_SLOTS, Some, Value, Weak, World, [], ap, cases_eq, cond, eqb_tells, inl, inr, named, no_mutator, node_of, node_with, nothing_in, refl, replicate, same_name, slice_get, slice_get-map, some_is, state_of, strong_at, subst, suc, sym, value_in, values_in, world_of, zero, ℕ, ◌+◌, ◌∙◌, ◌≡◌, ◌≢◌, ◌⊎◌}
use Rattle.nmgc_field_checker.specs.laws.Heaps.{field_refers, fields_at, node_is, refers_field, same_value, some_mapped}
use Rattle.nmgc_world_spec.specs.declared.value.Value.TheVariants as value
use Rattle.nmgc_barrier_laws.specs.Stored as stored

-- an item of a list of equal items
pub in_replicate : {A : Type 0} (n i : ℕ) (x y : A) → slice_get (replicate n y) i ≡ Some x → y ≡ x
in_replicate zero i x y e = absurd cc
in_replicate (suc n) zero x y e = some_is y x e
in_replicate (suc n) (suc i) x y e = in_replicate n i x y e

-- the node of a name is an object's, or g's
node_cases : (objects : List (List (Option ℕ))) (m s : ℕ) (node : Node) → node_of (world_of objects) (record { maker = m; serial = s }) ≡ Some node →
    ((m ≡ 0) × (node_of (world_of objects) (named s) ≡ Some node)) ⊎ (node ≡ (world_of objects).shared)
node_cases objects zero s node e = inl (refl, e)
node_cases objects (suc m) s node e = elim (eqb_tells (suc m) SHARED_MAKER) [
  | inl p ↦ elim (eqb_tells s 0) [
    | inl z ↦ inr (sym (some_is (world_of objects).shared node (rw (p.0, z.0) at e)))
    | inr z ↦ let bad : None ≡ Some node = rw (p.0, z.0) at e in absurd cc
  ]
  | inr p ↦ let bad : None ≡ Some node = rw p.0 at e in absurd cc
]

-- a field of a heap that holds a reference is one of its objects' fields
pub record IsField (objects : List (List (Option ℕ))) (name : Name) (i : ℕ) (target : Name) : Type 0 where
  pub k : ℕ
  pub n : ℕ
  pub fields : List (Option ℕ)
  pub name_is : name ≡ named k
  pub target_is : target ≡ named n
  pub fields_are : slice_get objects k ≡ Some fields
  pub field_is : slice_get fields i ≡ Some (Some n)

target_of : (o : Option ℕ) (target : Name) → value.Ref target ≡ value_in o → (n : ℕ) × (o ≡ Some n) × (target ≡ named n)
target_of None target e = absurd cc
target_of (Some n) target e = (n, refl, (let same : target ≡ named n = cc in same))

strong_in : (objects : List (List (Option ℕ))) (name : Name) (i : ℕ) (target : Name) → HasStrongField (world_of objects) name i (value.Ref target) →
    IsField objects name i target
strong_in objects name i target r = elim (node_cases objects name.maker name.serial r.node r.node_is) [
  | inl p ↦
      let f = fields_at objects name.serial r.node p.1 in
      let e : slice_get (values_in f.0) i ≡ Some (value.Ref target) = subst (λ (x : Node). strong_at x i ≡ Some (value.Ref target)) f.2 r.field in
      let v = some_mapped value_in (slice_get f.0 i) (value.Ref target) (sym (slice_get-map value_in f.0 i) ∙ e) in
      let t = target_of v.0 target v.2 in
      record {
        k = name.serial;
        n = t.0;
        fields = f.0;
        name_is = same_name name (named name.serial) p.0 refl;
        target_is = t.2;
        fields_are = f.1;
        field_is = v.1 ∙ ap (λ (o : Option ℕ). Some o) t.1;
      }
  | inr g ↦
      let e : strong_at (world_of objects).shared i ≡ Some (value.Ref target) = subst (λ (x : Node). strong_at x i ≡ Some (value.Ref target)) g r.field in
      let bad : value.Nil ≡ value.Ref target = in_replicate SHARED_SLOTS i (value.Ref target) value.Nil e in
      absurd cc
]

-- a heap has no weak pointers, and queues no finalisers
no_weak : (objects : List (List (Option ℕ))) (weak : Name) (parts : Parts) → IsAlive (world_of objects) weak parts → ⊥
no_weak objects weak parts alive = elim (node_cases objects weak.maker weak.serial (Weak (Some parts)) alive) [
  | inl p ↦ let f = fields_at objects weak.serial (Weak (Some parts)) p.1 in let bad : Weak (Some parts) ≡ node_with f.0 = f.2 in cc
  | inr g ↦ cc
]

no_queue : (objects : List (List (Option ℕ))) (k : ℕ) (v : Value) → Contains (state_of (world_of objects) k).queue v → ⊥
no_queue objects zero v c = nothing_in v c
no_queue objects (suc k) v c = nothing_in v c

-- a store into the fields of an object, by the lists of objects before and after it
pub record IsListStore (objects : List (List (Option ℕ))) (object place : ℕ) (fields own new : List (Option ℕ)) (after : List (List (Option ℕ))) : Type 0 where
  pub others : (k : ℕ) → k ≢ object → slice_get after k ≡ slice_get objects k
  pub new_is : slice_get after object ≡ Some new
  pub own_is : (slice_get objects object ≡ Some own) ⊎ ((slice_get objects object ≡ None) × (own ≡ []))
  pub within : (at : ℕ) (field : Option ℕ) → slice_get fields at ≡ Some field → slice_get new (place + at) ≡ Some field
  pub came : (i n : ℕ) → slice_get new i ≡ Some (Some n) →
      (slice_get own i ≡ Some (Some n)) ⊎ ((at : ℕ) × (i ≡ place + at) × (slice_get fields at ≡ Some (Some n)))
  pub went : (i n : ℕ) → slice_get own i ≡ Some (Some n) →
      (slice_get new i ≡ Some (Some n)) ⊎ ((at : ℕ) × (field : Option ℕ) × (i ≡ place + at) × (slice_get fields at ≡ Some field) × (field ≢ Some n))

module _ (objects : List (List (Option ℕ))) (object place : ℕ) (fields own new : List (Option ℕ)) (after : List (List (Option ℕ)))
    (s : IsListStore objects object place fields own new after) where
  -- a field with these parts holds its reference
  holds : (heap : List (List (Option ℕ))) (name target : Name) (k i n : ℕ) (held : List (Option ℕ)) → name ≡ named k → target ≡ named n →
      slice_get heap k ≡ Some held → slice_get held i ≡ Some (Some n) → HasStrongField (world_of heap) name i (value.Ref target)
  holds heap name target k i n held name_is target_is held_is e =
      subst (λ (x : Name). HasStrongField (world_of heap) x i (value.Ref target)) (sym name_is)
      (subst (λ (x : Name). HasStrongField (world_of heap) (named k) i (value.Ref x)) (sym target_is)
      (field_refers (world_of heap) k i n held (inl (node_is heap k held held_is)) e))

  own_fields : (held : List (Option ℕ)) → slice_get objects object ≡ Some held → held ≡ own
  own_fields held e = elim s.own_is [
    | inl is ↦ some_is held own (sym e ∙ is)
    | inr none ↦ let bad : None ≡ Some held = sym none.0 ∙ e in absurd cc
  ]

  lost_is : (name : Name) (i : ℕ) (target : Name) → HasStrongField (world_of objects) name i (value.Ref target) →
      (HasStrongField (world_of after) name i (value.Ref target) → ⊥) → IsLost object place fields name i target
  lost_is name i target stood gone =
      let f = strong_in objects name i target stood in
      elim (cases_eq f.k object) [
        | inl e ↦
            let at_object : slice_get objects object ≡ Some f.fields = subst (λ (k : ℕ). slice_get objects k ≡ Some f.fields) e f.fields_are in
            let held : slice_get own i ≡ Some (Some f.n) =
            subst (λ (l : List (Option ℕ)). slice_get l i ≡ Some (Some f.n)) (own_fields f.fields at_object) f.field_is in
            let name_is : name ≡ named object = f.name_is ∙ ap named e in
            elim (s.went i f.n held) [
              | inl still ↦ absurd (gone (holds after name target object i f.n new name_is f.target_is s.new_is still))
              | inr w ↦ record {
                at = w.0;
                n = f.n;
                new = w.1;
                name_is = name_is;
                i_is = w.2;
                target_is = f.target_is;
                new_is = w.3;
                other = w.4;
              }
            ]
        | inr ne ↦ absurd (gone (holds after name target f.k i f.n f.fields f.name_is f.target_is (s.others f.k ne ∙ f.fields_are) f.field_is))
      ]

  came_field : (name : Name) (i : ℕ) (target : Name) → HasStrongField (world_of after) name i (value.Ref target) →
      (HasStrongField (world_of objects) name i (value.Ref target) → ⊥) →
      (at : ℕ) × (n : ℕ) × (target ≡ named n) × (slice_get fields at ≡ Some (Some n)) × (Refers (world_of objects) object (place + at) n → ⊥)
  came_field name i target now before =
      let f = strong_in after name i target now in
      elim (cases_eq f.k object) [
        | inl e ↦
            let at_object : slice_get after object ≡ Some f.fields = subst (λ (k : ℕ). slice_get after k ≡ Some f.fields) e f.fields_are in
            let same : f.fields ≡ new = some_is f.fields new (sym at_object ∙ s.new_is) in
            let held : slice_get new i ≡ Some (Some f.n) = subst (λ (l : List (Option ℕ)). slice_get l i ≡ Some (Some f.n)) same f.field_is in
            let name_is : name ≡ named object = f.name_is ∙ ap named e in
            elim (s.came i f.n held) [
              | inl was ↦ elim s.own_is [
                | inl is ↦ absurd (before (holds objects name target object i f.n own name_is f.target_is is was))
                | inr none ↦
                    let bad : None ≡ Some (Some f.n) = subst (λ (l : List (Option ℕ)). slice_get l i ≡ Some (Some f.n)) none.1 was in
                    absurd cc
              ]
              | inr w ↦ (
                w.0,
                f.n,
                f.target_is,
                w.2,
                λ r. before (subst (λ (x : Name). HasStrongField (world_of objects) x i (value.Ref target)) (sym name_is)
                    (subst (λ (x : Name). HasStrongField (world_of objects) (named object) i (value.Ref x)) (sym f.target_is)
                    (subst (λ (j : ℕ). Refers (world_of objects) object j f.n) (sym w.1) r))),
              )
            ]
        | inr ne ↦ absurd (before (holds objects name target f.k i f.n f.fields f.name_is f.target_is (sym (s.others f.k ne) ∙ f.fields_are) f.field_is))
      ]

  came_is : (target : Name) → IsStored (world_of objects) (world_of after) target →
      (at : ℕ) × (n : ℕ) × (target ≡ named n) × (slice_get fields at ≡ Some (Some n)) × (Refers (world_of objects) object (place + at) n → ⊥)
  came_is target (stored.field name i now before) = came_field name i target now before
  came_is target (stored.part weak parts alive dead c) = absurd (no_weak after weak parts alive)
  came_is target (stored.queue k c none) = absurd (no_queue after k (value.Ref target) c)

  pub store_is : IsStore (world_of objects) object place fields (world_of after)
  store_is = record {
    lost = lost_is;
    loses = λ at n field e other r.
        let now : slice_get new (place + at) ≡ Some (Some n) =
        refers_field (world_of after) object (place + at) n new (inl (node_is after object new s.new_is)) r in
        other (some_is field (Some n) (sym (s.within at field e) ∙ now));
    came = came_is;
    comes = λ at n e. field_refers (world_of after) object (place + at) n new (inl (node_is after object new s.new_is)) (s.within at (Some n) e);
  }
