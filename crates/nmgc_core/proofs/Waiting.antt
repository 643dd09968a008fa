-- The weak pointers that wait for their keys: listing them, and listing the dying weak pointers among them.
use Rattle.nmgc_core.proofs.Vocabulary.{◌≡◌, List, refl, sym, ◌∙◌, Bool, true, false, not, filter, false≢true, not-true, not_from_false, false_from_ne_true, Name, Value, mark_of, IsAliveWeak, Lists, IsSetOf, parts_of, is_key_marked, contains_filter, filter_contains, in_order_filter, Finding, State, IsDying, IsWaitingWeak, IsFirstFound, is_hidden, parts_from_alive}
use Rattle.nmgc_world_spec.specs.declared.value.Value.TheVariants as value

-- the alive weak pointers that aren't in the set of finalised names are the waiting weak pointers
module _ (s : State) (ended : List (List Bool)) (set : IsSetOf s.snapshot s.finalised ended) where
  test_waits : (weak : Name) → IsAliveWeak s.snapshot weak → not (mark_of ended weak) ≡ true → IsWaitingWeak s weak
  test_waits weak a t = (
    a.0,
    record {
      alive = a.1;
      not_finalised = λ c. false≢true (sym (not-true (mark_of ended weak) t) ∙
          set.complete weak c (rw a.1 refl));
    },
  )

  waits_test : (weak : Name) → IsWaitingWeak s weak → not (mark_of ended weak) ≡ true
  waits_test weak w = not_from_false (mark_of ended weak) (false_from_ne_true (mark_of ended weak) (λ m. w.1.not_finalised (set.sound weak m)))

  pub waiting_listed : (alive : List Name) → Lists (IsAliveWeak s.snapshot) alive → Lists (IsWaitingWeak s) (filter (λ weak. not (mark_of ended weak)) alive)
  waiting_listed alive l = record {
    ordered = in_order_filter (λ weak. not (mark_of ended weak)) alive l.ordered;
    sound = λ weak c. let p = filter_contains (λ weak. not (mark_of ended weak)) alive weak c in test_waits weak (l.sound weak p.0) p.1;
    complete = λ weak w. contains_filter (λ weak. not (mark_of ended weak)) alive weak (l.complete weak (w.0, w.1.alive)) (waits_test weak w);
  }

-- an unmarked key is a reference to an unmarked name
hidden_key : (marks : List (List Bool)) (v : Value) → not (is_key_marked marks v) ≡ true → (key : Name) × (v ≡ value.Ref key) × (mark_of marks key ≡ false)
hidden_key marks value.Nil e = absurd (false≢true e)
hidden_key marks (value.Number n) e = absurd (false≢true e)
hidden_key marks (value.Ref key) e = (key, refl, not-true (mark_of marks key) e)

-- the waiting weak pointers with unmarked keys are the dying weak pointers
module _ (s : State) (f : Finding) (h : IsFirstFound s f) where
  hidden_dies : (weak : Name) → IsWaitingWeak s weak → is_hidden f.marks (parts_of s.snapshot weak) ≡ true → IsDying s weak
  hidden_dies weak w t =
      let k = hidden_key f.marks w.0.key (rw (parts_from_alive s.snapshot weak w.0 w.1.alive) at t) in
      record { parts = w.0; waiting = w.1; key = k.0; key_is = k.1; lost = λ first. false≢true (sym k.2 ∙ h.complete k.0 first) }

  dies_hidden : (weak : Name) (d : IsDying s weak) → is_hidden f.marks (parts_of s.snapshot weak) ≡ true
  dies_hidden weak d =
      let absent : mark_of f.marks d.key ≡ false = false_from_ne_true (mark_of f.marks d.key) (λ m. d.lost (h.sound d.key m)) in
      rw (parts_from_alive s.snapshot weak d.parts d.waiting.alive, d.key_is) (not_from_false (mark_of f.marks d.key) absent)

  pub dying_listed : (weaks : List Name) → Lists (IsWaitingWeak s) weaks →
      Lists (IsDying s) (filter (λ weak. is_hidden f.marks (parts_of s.snapshot weak)) weaks)
  dying_listed weaks l = record {
    ordered = in_order_filter (λ weak. is_hidden f.marks (parts_of s.snapshot weak)) weaks l.ordered;
    sound = λ weak c. let p = filter_contains (λ weak. is_hidden f.marks (parts_of s.snapshot weak)) weaks weak c in hidden_dies weak (l.sound weak p.0) p.1;
    complete = λ weak d. contains_filter (λ weak. is_hidden f.marks (parts_of s.snapshot weak)) weaks weak (l.complete weak (
      d.parts,
      d.waiting,
    )) (dies_hidden weak d);
  }
