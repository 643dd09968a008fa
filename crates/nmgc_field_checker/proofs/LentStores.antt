-- A store through a loan of an object's fields.
use Rattle.nmgc_field_checker.proofs.Vocabulary.{AreKnown, HasCount, IsHeap, IsStore, IsWritten, List, Option, Some, ap, arith, drop, get_or_from_slice_get, length, length-append, length-drop, length-set, length-take, named, node_with, refill, refill_whole, set, slice_get, slice_index_or, slice_set, subst, sym, take, values_in, world_of, ℕ, ◌++◌, ◌+◌, ◌∙◌, ◌≡◌, ◌≤◌}
use Rattle.nmgc_field_checker.specs.laws.Heaps.{fields_at, heap_set, same_fields, stored_over, written_is}
use Rattle.nmgc_field_checker.proofs.HeapChanges.{store_of}

module _ (objects lent : List (List (Option ℕ))) (k place count : ℕ) (d inner fields put : List (Option ℕ)) (h : IsHeap objects)
    (lent_is : lent ≡ objects) (inner_is : inner ≡ slice_index_or lent k d) (put_is : put ≡ stored_over place inner fields)
    (known : AreKnown (world_of objects) (values_in fields)) (has : HasCount (world_of objects) k count) (fits : place + length fields ≤ count) where
  own : (own : List (Option ℕ)) × (slice_get objects k ≡ Some own) × (node_with has.fields ≡ node_with own)
  own = fields_at objects k (node_with has.fields) has.are_fields

  own_fits : place + length fields ≤ length own.0
  own_fits =
      let same : has.fields ≡ own.0 = same_fields has.fields own.0 own.2 in
      let long : count ≡ length has.fields = has.count_is in
      let e : length has.fields ≡ length own.0 = ap (λ (l : List (Option ℕ)). length l) same in
      omega arith

  over_length : length (stored_over place own.0 fields) ≡ length own.0
  over_length =
      let fit = own_fits in
      omega (
        arith,
        length-append (take place own.0 ++ fields) (drop (place + length fields) own.0),
        length-append (take place own.0) fields,
        length-take place own.0,
        length-drop (place + length fields) own.0,
      )

  written_objects : refill (length objects) objects (slice_set lent k (refill (length (slice_index_or lent k d)) (slice_index_or lent k d) put)) ≡
      set objects k (stored_over place own.0 fields)
  written_objects =
      let a : slice_index_or lent k d ≡ own.0 =
      ap (λ (l : List (List (Option ℕ))). slice_index_or l k d) lent_is ∙ get_or_from_slice_get objects k own.0 d own.1 in
      let b : put ≡ stored_over place own.0 fields = put_is ∙ ap (λ (l : List (Option ℕ)). stored_over place l fields) (inner_is ∙ a) in
      let c : refill (length (slice_index_or lent k d)) (slice_index_or lent k d) put ≡ put =
      refill_whole (slice_index_or lent k d) put
      (ap (λ (l : List (Option ℕ)). length l) b ∙ over_length ∙ sym (ap (λ (l : List (Option ℕ)). length l) a)) in
      refill_whole objects (slice_set lent k (refill (length (slice_index_or lent k d)) (slice_index_or lent k d) put))
      (length-set lent k (refill (length (slice_index_or lent k d)) (slice_index_or lent k d) put) ∙
      ap (λ (l : List (List (Option ℕ))). length l) lent_is) ∙
      ap (λ (l : List (List (Option ℕ))). slice_set l k (refill (length (slice_index_or lent k d)) (slice_index_or lent k d) put)) lent_is ∙
      ap (λ (v : List (Option ℕ)). set objects k v) (c ∙ b)

  pub heap_written :
      IsHeap (refill (length objects) objects (slice_set lent k (refill (length (slice_index_or lent k d)) (slice_index_or lent k d) put)))
  heap_written = subst IsHeap (sym written_objects) (heap_set objects k place own.0 fields h own.1 known)

  pub is_written : IsWritten (world_of objects) (named k) place (values_in fields)
      (world_of (refill (length objects) objects (slice_set lent k (refill (length (slice_index_or lent k d)) (slice_index_or lent k d) put))))
  is_written = subst (λ (l : List (List (Option ℕ))). IsWritten (world_of objects) (named k) place (values_in fields) (world_of l)) (sym written_objects)
      (written_is objects k place own.0 fields own.1 own_fits known)

  pub is_store : IsStore (world_of objects) k place fields
      (world_of (refill (length objects) objects (slice_set lent k (refill (length (slice_index_or lent k d)) (slice_index_or lent k d) put))))
  is_store = subst (λ (l : List (List (Option ℕ))). IsStore (world_of objects) k place fields (world_of l)) (sym written_objects)
      (store_of objects k place own.0 fields own.1 own_fits)
