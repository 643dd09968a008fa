-- A heap without gone objects, object by object.
use Rattle.nmgc_field_checker.proofs.Vocabulary.{All, All-cons, All-head, All-nil, All-push, All-tail, AreFields, AreFieldsIf, Bool, Contains, IsBelow, IsHeap, IsWithout, List, Node, None, Option, Some, World, [], ap, arith, cases_lt, cond, contains_cases, contains_head, contains_tail, eqb_tells, false, get-append_cases, has_number, inl, inr, item, left_field, left_fields, length, length-map, length_push, map, named, node_of, node_with, nothing_in, of_item, or_first, or_second, refl, slice_get, slice_get-append, slice_get-append_last, slice_get_within, some_is, subst, sym, true, values_in, world_of, ℕ, ◌++◌, ◌+◌, ◌<◌, ◌==◌, ◌^◌, ◌∙◌, ◌∷◌, ◌≡◌, ◌≤◌}
use Rattle.nmgc_field_checker.specs.laws.Heaps.{fields_at, node_is, same_fields}

-- a list has a number exactly if it contains it
pub has_contains : (numbers : List ℕ) (n : ℕ) → has_number numbers n ≡ true → Contains numbers n
has_contains [] n e = absurd cc
has_contains (k ∷ numbers) n e = elim (eqb_tells k n) [
  | inl p ↦ subst (λ (x : ℕ). Contains (k ∷ numbers) x) p.1 (contains_head k numbers)
  | inr p ↦ contains_tail k numbers n (has_contains numbers n (rw p.0 at e))
]

pub contains_has : (numbers : List ℕ) (n : ℕ) → Contains numbers n → has_number numbers n ≡ true
contains_has [] n c = absurd (nothing_in n c)
contains_has (k ∷ numbers) n c = elim (eqb_tells k n) [
  | inl p ↦ or_first (k == n) (has_number numbers n) p.0
  | inr p ↦ or_second (k == n) (has_number numbers n) (contains_has numbers n (elim (contains_cases k numbers n c) [
    | inl e ↦ absurd (p.1 e)
    | inr d ↦ d
  ]))
]

-- the fields of an object are those that its node has
pub fields_same : (w : World) (object : ℕ) (fields others : List (Option ℕ)) → AreFields w object fields → AreFieldsIf w object others → others ≡ fields
fields_same w object fields others are (inl also) = same_fields others fields (some_is (node_with others) (node_with fields) (sym also ∙ are))
fields_same w object fields others are (inr none) = let bad : None ≡ Some (node_with fields) = sym none.0 ∙ are in absurd cc

-- the fields that are left refer to no more objects
left_one : (gone : List ℕ) (n : ℕ) (field : Option ℕ) → IsBelow n field → IsBelow n (left_field gone field)
left_one gone n None b = tt
left_one gone n (Some target) b = left_if (has_number gone target) n target b
  where
    left_if : (t : Bool) (n target : ℕ) → target < n → IsBelow n (cond t None (Some target))
    left_if true n target b = tt
    left_if false n target b = b

left_all : (gone : List ℕ) (n : ℕ) (fields : List (Option ℕ)) → All (IsBelow n) fields → All (IsBelow n) (map (left_field gone) fields)
left_all gone n [] b = All-nil (IsBelow n)
left_all gone n (field ∷ fields) b =
    All-cons (IsBelow n) (left_field gone field) (map (left_field gone) fields) (left_one gone n field (All-head (IsBelow n) field fields b))
    (left_all gone n fields (All-tail (IsBelow n) field fields b))

pub left_below : (gone : List ℕ) (n object : ℕ) (fields : List (Option ℕ)) → All (IsBelow n) fields → All (IsBelow n) (left_fields gone object fields)
left_below gone n object fields b = left_if (has_number gone object)
  where
    left_if : (t : Bool) → All (IsBelow n) (cond t [] (map (left_field gone) fields))
    left_if true = All-nil (IsBelow n)
    left_if false = left_all gone n fields b

-- the fields that are left of an object that isn't gone
pub left_kept : (gone : List ℕ) (object : ℕ) (fields : List (Option ℕ)) → has_number gone object ≡ false →
    left_fields gone object fields ≡ map (left_field gone) fields
left_kept gone object fields absent = rw absent refl

-- the fields that are left of the first objects of a heap
pub record AreLeft (gone : List ℕ) (objects left : List (List (Option ℕ))) (count : ℕ) : Type 0 where
  pub count_is : length left ≡ count
  pub each : (k : ℕ) (fields : List (Option ℕ)) → k < count → slice_get objects k ≡ Some fields → slice_get left k ≡ Some (left_fields gone k fields)
  pub below : All (All (IsBelow (length objects))) left

pub left_none : (gone : List ℕ) (objects : List (List (Option ℕ))) → AreLeft gone objects [] 0
left_none gone objects = record {
  count_is = refl;
  each = λ k fields lt. absurd (omega arith);
  below = All-nil (All (IsBelow (length objects)));
}

pub left_more : (gone : List ℕ) (objects left : List (List (Option ℕ))) (count : ℕ) (fields new : List (Option ℕ)) → IsHeap objects →
    slice_get objects count ≡ Some fields → new ≡ left_fields gone count fields → AreLeft gone objects left count →
    AreLeft gone objects (left ++ new ∷ []) (count + 1)
left_more gone objects left count fields new h at is a =
    let was : length left ≡ count = a.count_is in
    record {
      count_is = omega (arith, length_push left new);
      each = λ k other lt e. elim (cases_lt k count) [
        | inl less ↦ slice_get-append left (new ∷ []) k (left_fields gone k other) (a.each k other less e)
        | inr le ↦
            let here : count ≡ k = omega arith in
            let same : fields ≡ other = some_is fields other (sym at ∙ subst (λ (i : ℕ). slice_get objects i ≡ Some other) (sym here) e) in
            let last : slice_get (left ++ new ∷ []) k ≡ Some new =
            subst (λ (i : ℕ). slice_get (left ++ new ∷ []) i ≡ Some new) (was ∙ here) (slice_get-append_last left new) in
            last ∙ ap (λ (l : List (Option ℕ)). Some l) is ∙
            ap (λ (l : List (Option ℕ)). Some (left_fields gone count l)) same ∙ ap (λ (i : ℕ). Some (left_fields gone i other)) here
      ];
      below = All-push (All (IsBelow (length objects))) left new a.below (subst (λ (l : List (Option ℕ)). All (IsBelow (length objects)) l) (sym is)
          (left_below gone (length objects) count fields (of_item (All (IsBelow (length objects))) objects count fields h.closed at)));
    }

pub left_heap : (gone : List ℕ) (objects left : List (List (Option ℕ))) (count : ℕ) → IsHeap objects → length objects ≡ count →
    AreLeft gone objects left count → IsHeap left
left_heap gone objects left count h all a =
    let same : length left ≡ count = a.count_is in
    let few : length objects < 2 ^ 32 = h.few in
    record {
      few = omega arith;
      closed = subst (λ (n : ℕ). All (All (IsBelow n)) left) (all ∙ sym same) a.below;
    }

pub left_without : (gone : List ℕ) (objects left : List (List (Option ℕ))) (count : ℕ) → IsHeap objects → length objects ≡ count →
    AreLeft gone objects left count → IsWithout gone (world_of objects) (world_of left)
left_without gone objects left count h all a = record {
  heap = (left, left_heap gone objects left count h all a, refl);
  count = length-map left node_with ∙ a.count_is ∙ sym all ∙ sym (length-map objects node_with);
  fields = λ object fields are.
      let r = fields_at objects object (node_with fields) are in
      let same : r.0 ≡ fields = same_fields r.0 fields (sym r.2) in
      let within : object < length objects = slice_get_within objects object r.0 r.1 in
      node_is left object (left_fields gone object fields) (subst (λ (l : List (Option ℕ)). slice_get left object ≡ Some (left_fields gone object l)) same
      (a.each object r.0 (omega arith) r.1));
}
