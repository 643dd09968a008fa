-- Registers that aren't nil, one by one.
use Rattle.nmgc_image.proofs.Vocabulary.{ℕ, ◌≡◌, ◌≢◌, ◌<◌, ◌+◌, List, [], ◌∷◌, ◌++◌, length, take, get_or, arith, sym, subst, ◌∙◌, Some, inl, inr, Contains, slice_get, cases_eq, length-take-le, Contains-append_left, Contains-push, Contains-push_cases, slice_get_within, slice_get-get_or, same_Some, Value, contains_head, contains_tail, slice_get-take, Held, AreInOrder, ListsHeld}
use Rattle.nmgc_world_spec.specs.declared.value.Value.TheVariants as value

-- a register after all other registers
order_push : (held : List Held) (h : Held) → AreInOrder held → ((k : Held) → Contains held k → k.register < h.register) → AreInOrder (held ++ h ∷ [])
order_push [] h o b = tt
order_push (x ∷ []) h o b = (b x (contains_head x []), tt)
order_push (x ∷ y ∷ held) h o b = (o.0, order_push (y ∷ held) h o.1 (λ k c. b k (contains_tail x (y ∷ held) k c)))

module _ (registers : List Value) (i : ℕ) (d : Value) (lt : i < length registers) (held : List Held) (so_far : ListsHeld (take i registers) held) where
  longer : (k : ℕ) (v : Value) → slice_get (take i registers) k ≡ Some v → slice_get (take (i + 1) registers) k ≡ Some v
  longer k v e =
      let n = length-take-le i registers (omega (arith, lt)) in
      let within = slice_get_within (take i registers) k v e in
      slice_get-take (i + 1) registers k (omega (arith, n, within)) ∙ sym (slice_get-take i registers k (omega (arith, n, within))) ∙ e

  shorter : (k : ℕ) (v : Value) → k < i → slice_get (take (i + 1) registers) k ≡ Some v → slice_get (take i registers) k ≡ Some v
  shorter k v below e = slice_get-take i registers k below ∙ sym (slice_get-take (i + 1) registers k (omega (arith, below))) ∙ e

  here : slice_get (take (i + 1) registers) i ≡ Some (get_or registers i d)
  here = slice_get-take (i + 1) registers i (omega arith) ∙ slice_get-get_or registers i d lt

  above : (k : ℕ) (v : Value) → slice_get (take (i + 1) registers) k ≡ Some v → k < i + 1
  above k v e =
      let n = length-take-le (i + 1) registers (omega (arith, lt)) in
      let within = slice_get_within (take (i + 1) registers) k v e in
      omega (arith, n, within)

  -- nil is left out
  pub held_nil : get_or registers i d ≡ value.Nil → ListsHeld (take (i + 1) registers) held
  held_nil nil = record {
    ordered = so_far.ordered;
    sound = λ h c. let s = so_far.sound h c in (longer h.register h.value s.0, s.1);
    complete = λ k v e some. elim (cases_eq k i) [
      | inl same ↦
          let is : Some (get_or registers i d) ≡ Some v = sym here ∙ subst (λ (j : ℕ). slice_get (take (i + 1) registers) j ≡ Some v) same e in
          absurd (some (sym (same_Some (get_or registers i d) v is) ∙ nil))
      | inr other ↦
          let a = above k v e in
          so_far.complete k v (shorter k v (omega (arith, a, other)) e) some
    ];
  }

  -- a register that isn't nil is held
  pub held_more : get_or registers i d ≢ value.Nil → ListsHeld (take (i + 1) registers) (held ++ record { register = i; value = get_or registers i d } ∷ [])
  held_more some =
      let new : Held = record { register = i; value = get_or registers i d } in
      record {
        ordered = order_push held new so_far.ordered (λ k c.
            let within = slice_get_within (take i registers) k.register k.value (so_far.sound k c).0 in
            let n = length-take-le i registers (omega (arith, lt)) in
            omega (arith, within, n));
        sound = λ h c. elim (Contains-push_cases held new h c) [
          | inl old ↦ let s = so_far.sound h old in (longer h.register h.value s.0, s.1)
          | inr same ↦ subst (λ (x : Held). (slice_get (take (i + 1) registers) x.register ≡ Some x.value) × (x.value ≢ value.Nil)) same (here, some)
        ];
        complete = λ k v e some'. elim (cases_eq k i) [
          | inl same ↦
              let is : Some (get_or registers i d) ≡ Some v = sym here ∙ subst (λ (j : ℕ). slice_get (take (i + 1) registers) j ≡ Some v) same e in
              let v_is : get_or registers i d ≡ v = same_Some (get_or registers i d) v is in
              rw (← v_is) (subst (λ (j : ℕ). Contains (held ++ new ∷ []) (record { register = j; value = get_or registers i d })) (sym same) (Contains-push held new))
          | inr other ↦
              let a = above k v e in
              Contains-append_left held (new ∷ []) (record { register = k; value = v }) (so_far.complete k v (shorter k v (omega (arith, a, other)) e) some')
        ];
      }
