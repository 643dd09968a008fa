-- Marking the finalisers of the dying weak pointers, and all that is reachable from them: exactly to `IsMarkedLast`.
use Rattle.nmgc_core.proofs.Vocabulary.{◌≡◌, ◌<◌, ◌+◌, ℕ, List, [], ◌∷◌, ◌++◌, length, get_or, take, sym, ap, subst, ◌∙◌, inl, inr, Option, Result, Ok, Err, Contains, OnOk, cases_Bool, flat_map-append, take_more, append-nil, NoMemory, Name, Value, Parts, World, IsMarked, mark_of, Lists, parts_of, finaliser_in, finalisers_of, Finding, State, IsRevived, IsRescued, IsDying, IsMarkedLast, Adds, IsSearch, IsReached, IsFollowed, IsFirstFound, IsLastFound, nothing_in, one_is, contains_one, contains_flat, flat_contains, parts_from_alive}
use Rattle.nmgc_world_spec.specs.declared.value.Value.TheVariants as value
use Rattle.nmgc_core.proofs.{Findings.then_adds, Reviving.adds_search, Reviving.was_unmarked}

-- the finalisers of one more weak pointer
finalisers_more : (w : World) (weaks : List Name) (weak : Name) → finalisers_of w (weaks ++ weak ∷ []) ≡ finalisers_of w weaks ++ finaliser_in (parts_of w weak)
finalisers_more w weaks weak = flat_map-append (λ (n : Name). finaliser_in (parts_of w n)) weaks (weak ∷ []) ∙
    ap (λ (l : List Value). finalisers_of w weaks ++ l) (append-nil (finaliser_in (parts_of w weak)))

-- the step of a loop that marks them
pub finalisers_step : (w : World) (old f t : Finding) (weaks : List Name) (i : ℕ) (d : Name) → i < length weaks →
    Adds w old f (finalisers_of w (take i weaks)) → Adds w f t (finaliser_in (parts_of w (get_or weaks i d))) →
    Adds w old t (finalisers_of w (take (i + 1) weaks))
finalisers_step w old f t weaks i d lt a b = rw (
  take_more weaks i d lt,
  finalisers_more w (take i weaks) (get_or weaks i d),
) (then_adds w old f t (finalisers_of w (take i weaks))
    (finaliser_in (parts_of w (get_or weaks i d))) a b)

module _ (s : State) (f : Finding) (h : IsFirstFound s f) (dead : List Name) (l : Lists (IsDying s) dead) (g : Finding)
    (a : Adds s.snapshot f g (finalisers_of s.snapshot dead)) where
  pub rescue_search : IsSearch s g
  rescue_search = adds_search s f g (finalisers_of s.snapshot dead) a h.search

  finaliser_is : (weak target : Name) (d : IsDying s weak) → Contains (finaliser_in (parts_of s.snapshot weak)) (value.Ref target) →
      d.parts.finaliser ≡ value.Ref target
  finaliser_is weak target d c = one_is d.parts.finaliser (value.Ref target) (subst (λ (o : Option Parts).
      Contains (finaliser_in o) (value.Ref target)) (parts_from_alive s.snapshot weak d.parts d.waiting.alive) c)

  begun_last : (n : Name) → IsMarked g.marks n → IsMarkedLast s n
  begun_last n m = elim (cases_Bool (mark_of f.marks n)) [
    | inl before ↦ inl (h.sound n before)
    | inr unmarked ↦ elim (a.fresh n m) [
      | inl before ↦ inl (h.sound n before)
      | inr fresh ↦
          let p = flat_contains (λ (x : Name). finaliser_in (parts_of s.snapshot x)) dead (value.Ref n) fresh.1 in
          let d = l.sound p.0 p.1 in
          inr (IsRescued.finaliser p.0 n d (finaliser_is p.0 n d p.2) (was_unmarked s f n h.search unmarked fresh.0))
    ]
  ]

  finaliser_hit : (weak target : Name) (d : IsDying s weak) → d.parts.finaliser ≡ value.Ref target → Contains (finalisers_of s.snapshot dead) (value.Ref target)
  finaliser_hit weak target d e =
      let c : Contains (finaliser_in (parts_of s.snapshot weak)) d.parts.finaliser =
      subst (λ (o : Option Parts).
      Contains (finaliser_in o) d.parts.finaliser) (sym (parts_from_alive s.snapshot weak d.parts d.waiting.alive)) (contains_one d.parts.finaliser) in
      contains_flat (λ (x : Name). finaliser_in (parts_of s.snapshot x)) dead weak (value.Ref target) (l.complete weak d) (subst (λ (v : Value).
      Contains (finaliser_in (parts_of s.snapshot weak)) v) e c)

  module _ (t : Finding) (k : IsFollowed s g t) (empty : t.work ≡ []) where
    reached_last : (n : Name) → IsReached s (IsMarked g.marks) n → IsMarkedLast s n
    reached_last n (IsReached.start _ m) = begun_last n m
    reached_last n (IsReached.field name _ r new refers u) = elim (reached_last name r) [
      | inl first ↦ elim first [
        | inl c ↦ absurd (new c)
        | inr v ↦ inl (inr (IsRevived.field name n v refers u))
      ]
      | inr v ↦ inr (IsRescued.field name n v refers u)
    ]

    rescued_new : (n : Name) → IsRescued s n → Contains s.marked n → ⊥
    rescued_new n (IsRescued.finaliser weak _ d is u) = u.unmarked
    rescued_new n (IsRescued.field name _ v refers u) = u.unmarked

    rescued_marked : (n : Name) → IsRescued s n → IsMarked t.marks n
    rescued_marked n (IsRescued.finaliser weak _ d is u) = k.kept n (a.hit n u.there (finaliser_hit weak n d is))
    rescued_marked n (IsRescued.field name _ v refers u) = elim (k.search.traced name n (rescued_marked name v) (rescued_new name v) refers u.there) [
      | inl c ↦ absurd (nothing_in name (rw empty at c))
      | inr m ↦ m
    ]

    last_marked : (n : Name) → IsMarkedLast s n → IsMarked t.marks n
    last_marked n (inl first) = k.kept n (a.kept n (h.complete n first))
    last_marked n (inr v) = rescued_marked n v

    last_found : IsLastFound s t
    last_found = record { places = k.search.places; sound = λ n m. reached_last n (k.sound n m); complete = last_marked }

  -- the same, if following may run out of memory
  pub last_answer : (t : Finding) (r : Result (Unit {0}) NoMemory) → OnOk r (IsFollowed s g t) → OnOk r (t.work ≡ []) → OnOk r (IsLastFound s t)
  last_answer t (Ok u) k empty = last_found t k empty
  last_answer t (Err e) k empty = tt
