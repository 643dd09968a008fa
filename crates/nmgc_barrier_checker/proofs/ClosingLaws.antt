-- Weak pointers at an end: dying, and alive until then; reported as dying; and living on, with the names that they keep.
use Rattle.nmgc_barrier_checker.proofs.Firsts.{stands_by}
use Rattle.nmgc_barrier_checker.proofs.Vocabulary.{◌≡◌, List, [], ◌∷◌, ◌++◌, get_or, refl, sym, subst, Option, Some, None, Bool, true, not, inl, inr, All, Contains, IsSome, filter, ◌↔◌, and_parts, and_from, Contains-get_or, Contains-append_left, Contains-append_right, Contains-append_cases, All-append, All-contains, Name, Value, Parts, Weak, World, node_of, IsKnown, IsNodeOf, IsWorld, IsMarked, mark_of, IsSetOf, parts_of, IsAlive, IsDead, IsKept, IsAliveWeak, Lists, contains_head, at_some, nothing_in, one_is, contains_one, contains_flat, flat_contains, contains_filter, filter_contains, name_among, Cycle, IsKeyLeft, AreKeysLeft, Needs, IsDeadAmong, dead_same, kept_same, Accounts, NameSet, IsCycle, is_outside, key_names, keys_then, IsOpenedWith, IsMissingIf, IsDeadIf, alive_parts, parts_alive, weak_there}
use Rattle.nmgc_world_spec.specs.declared.value.Value.TheVariants as value
use Rattle.nmgc_barrier_checker.proofs.{CycleLaws.seen, CycleLaws.not_both, CycleLaws.not_so, DueLaws.among_ref, ListedLaws.all_listed}

lists_alike : (P Q : Name → Type 0) (names : List Name) → ((n : Name) → P n → Q n) → ((n : Name) → Q n → P n) → Lists P names → Lists Q names
lists_alike P Q names pq qp l = record { ordered = l.ordered; sound = λ n c. pq n (l.sound n c); complete = λ n q. l.complete n (qp n q) }

key_there : (w : World) → IsWorld w → (weak : Name) (parts : Parts) (key : Name) → IsAlive w weak parts → parts.key ≡ value.Ref key → IsSome (node_of w key)
key_there w is weak parts key alive e =
    let node : IsNodeOf w (Weak (Some parts)) = at_some (node_of w weak) (Weak (Some parts)) (IsNodeOf w) alive (is.nodes weak) in
    All-contains (IsKnown w) (parts.key ∷ parts.value ∷ parts.finaliser ∷ []) (value.Ref key) node.known (subst (λ (v : Value).
    Contains (parts.key ∷ parts.value ∷ parts.finaliser ∷ []) v) e (contains_head parts.key (parts.value ∷ parts.finaliser ∷ [])))

-- the keys of weak pointers that live on, found by a test among weak pointers
module _ (h : Cycle) (dead weaks : List Name) (test : Name → Bool)
    (all : (weak : Name) (parts : Parts) → IsAlive h.snapshot weak parts → Contains weaks weak)
    (yes : (weak : Name) (parts : Parts) → IsAlive h.snapshot weak parts → test weak ≡ true → (Contains h.finalised weak → ⊥) × (Contains dead weak → ⊥))
    (no : (weak : Name) → (Contains h.finalised weak → ⊥) → (Contains dead weak → ⊥) → test weak ≡ true) where
  abbrev keys_found : List Name
  keys_found = keys_then h.snapshot (filter test weaks)

  key_sound : (key : Name) → Contains keys_found key → IsKeyLeft h dead key
  key_sound key c = by_weak (flat_contains (λ weak. key_names (parts_of h.snapshot weak)) (filter test weaks) key c)
    where
      by_parts : (weak : Name) (o : Option Parts) → parts_of h.snapshot weak ≡ o → test weak ≡ true → Contains (key_names o) key → IsKeyLeft h dead key
      by_parts weak None e t k = absurd (nothing_in key k)
      by_parts weak (Some parts) e t k =
          let alive : IsAlive h.snapshot weak parts = alive_parts h.snapshot weak parts e in
          let lives : (Contains h.finalised weak → ⊥) × (Contains dead weak → ⊥) = yes weak parts alive t in
          record {
            weak = weak;
            parts = parts;
            alive = alive;
            not_finalised = lives.0;
            lives = lives.1;
            key_is = one_is parts.key (value.Ref key) (among_ref (parts.key ∷ []) key k);
          }

      by_weak : ((weak : Name) × Contains (filter test weaks) weak × Contains (key_names (parts_of h.snapshot weak)) key) → IsKeyLeft h dead key
      by_weak (weak, c', k) = by_parts weak (parts_of h.snapshot weak) refl (filter_contains test weaks weak c').1 k

  key_complete : (key : Name) → IsKeyLeft h dead key → Contains keys_found key
  key_complete key k =
      contains_flat (λ weak. key_names (parts_of h.snapshot weak)) (filter test weaks) k.weak key
      (contains_filter test weaks k.weak (all k.weak k.parts k.alive) (no k.weak k.not_finalised k.lives))
      (rw (parts_alive h.snapshot k.weak k.parts k.alive) (name_among (k.parts.key ∷ []) key (subst (λ (v : Value). Contains (k.parts.key ∷ []) v) k.key_is (contains_one k.parts.key))))

  pub keys_are : AreKeysLeft h dead keys_found
  keys_are key = (key_sound key, key_complete key)

-- the same if the tests are sets
module _ (h : Cycle) (dead weaks : List Name) (dying ended : List (List Bool)) (l : Lists (IsAliveWeak h.snapshot) weaks)
    (d : IsSetOf h.snapshot dead dying) (f : IsSetOf h.snapshot h.finalised ended) where
  outside_yes : (weak : Name) (parts : Parts) → IsAlive h.snapshot weak parts → is_outside dying ended weak ≡ true →
      (Contains h.finalised weak → ⊥) × (Contains dead weak → ⊥)
  outside_yes weak parts alive t =
      let there : IsSome (node_of h.snapshot weak) = weak_there h.snapshot weak parts alive in
      let p : (not (mark_of dying weak) ≡ true) × (not (mark_of ended weak) ≡ true) = and_parts (not (mark_of dying weak)) (not (mark_of ended weak)) t in (
        λ c. not_both (mark_of ended weak) (f.complete weak c there) p.1,
        λ c. not_both (mark_of dying weak) (d.complete weak c there) p.0,
      )

  outside_no : (weak : Name) → (Contains h.finalised weak → ⊥) → (Contains dead weak → ⊥) → is_outside dying ended weak ≡ true
  outside_no weak fresh lives = and_from (not (mark_of dying weak)) (not (mark_of ended weak)) (not_so (mark_of dying weak) (λ m.
      lives (d.sound weak m))) (not_so (mark_of ended weak) (λ m. fresh (f.sound weak m)))

  pub found_with : (names : List Name) → names ≡ h.opened ++ keys_then h.snapshot (filter (is_outside dying ended) weaks) → IsOpenedWith h dead names
  found_with names e = (
    keys_then h.snapshot (filter (is_outside dying ended) weaks),
    keys_are h dead weaks (is_outside dying ended) (λ weak parts alive. l.complete weak (parts, alive)) outside_yes outside_no,
    e,
  )

-- they are in the map
pub keys_there : (h : Cycle) → IsWorld h.snapshot → (dead keys : List Name) → AreKeysLeft h dead keys → All (λ n. IsSome (node_of h.snapshot n)) keys
keys_there h is dead keys are i d lt =
    let k : IsKeyLeft h dead (get_or keys i d) = (are (get_or keys i d)).0 (Contains-get_or keys i d lt) in
    key_there h.snapshot is k.weak k.parts (get_or keys i d) k.alive k.key_is

pub opened_with_there : (h : Cycle) → IsWorld h.snapshot → All (λ n. IsSome (node_of h.snapshot n)) h.opened → (dead names : List Name) →
    IsOpenedWith h dead names → All (λ n. IsSome (node_of h.snapshot n)) names
opened_with_there h is opened dead names o = rw o.2 (All-append (λ n.
    IsSome (node_of h.snapshot n)) h.opened o.0 opened (keys_there h is dead o.0 o.1))

-- the list of the keys may be any list of them
module _ (h : Cycle) (dead names : List Name) (o : IsOpenedWith h dead names) where
  to_keys : (keys : List Name) → AreKeysLeft h dead keys → (n : Name) → Contains names n → Contains (h.opened ++ keys) n
  to_keys keys are n c = elim (Contains-append_cases h.opened o.0 n (subst (λ (l : List Name). Contains l n) o.2 c)) [
    | inl a ↦ Contains-append_left h.opened keys n a
    | inr b ↦ Contains-append_right h.opened keys n ((are n).1 ((o.1 n).0 b))
  ]

  of_keys : (keys : List Name) → AreKeysLeft h dead keys → (n : Name) → Contains (h.opened ++ keys) n → Contains names n
  of_keys keys are n c =
      let both : Contains (h.opened ++ o.0) n = elim (Contains-append_cases h.opened keys n c) [
        | inl a ↦ Contains-append_left h.opened o.0 n a
        | inr b ↦ Contains-append_right h.opened o.0 n ((o.1 n).1 ((are n).0 b))
      ] in subst (λ (l : List Name). Contains l n) (sym o.2) both

  pub dead_named : (weak : Name) → IsDead h.snapshot names h.finalised weak ↔ IsDeadAmong h dead weak
  dead_named weak = (
    λ d. (o.0, o.1, subst (λ (l : List Name). IsDead h.snapshot l h.finalised weak) o.2 d),
    λ t. dead_same h.snapshot (h.opened ++ t.0) names h.finalised (λ n there. to_keys t.0 t.1 n) weak t.2,
  )

  needs_named : (n : Name) → IsKept h.snapshot names h.finalised n ↔ Needs h dead n
  needs_named n = (
    λ k. (o.0, o.1, subst (λ (l : List Name). IsKept h.snapshot l h.finalised n) o.2 k),
    λ t. kept_same h.snapshot (h.opened ++ t.0) names h.finalised (λ x there. (of_keys t.0 t.1 x, to_keys t.0 t.1 x)) n t.2,
  )

  pub needs_listed : (needed : List Name) → Lists (IsKept h.snapshot names h.finalised) needed → Lists (Needs h dead) needed
  needs_listed needed l = lists_alike (IsKept h.snapshot names h.finalised) (Needs h dead) needed (λ n. (needs_named n).0) (λ n. (needs_named n).1) l

  -- whether the reported weak pointers are dead
  pub dead_if : (found : List Name) (other : Option Name) → Lists (IsDead h.snapshot names h.finalised) found → IsMissingIf found dead other →
      IsDeadIf h dead other
  dead_if found None l m = λ weak c. (dead_named weak).0 (l.sound weak (m weak c))
  dead_if found (Some weak) l m =
      stands_by (λ n. Contains found n → ⊥) (λ n. IsDeadAmong h dead n → ⊥) dead weak (λ n never d. never (l.complete n ((dead_named n).1 d)))
      (λ n never c. never ((dead_named n).0 (l.sound n c))) m

module _ (w s : World) (remembered opened taken : NameSet) (accounts : Accounts) (finalised : List Name)
    (k : IsCycle w s remembered accounts opened taken finalised) where
  -- opened and pushed names are in the snapshot
  pub opened_there : All (λ n. IsSome (node_of s n)) opened.names
  opened_there = all_listed s opened k.opened

  pub both_there : All (λ n. IsSome (node_of s n)) (opened.names ++ remembered.names)
  both_there = All-append (λ n. IsSome (node_of s n)) opened.names remembered.names (all_listed s opened k.opened) (all_listed s remembered k.remembered)

  -- each dying weak pointer is alive so far
  pub dying_alive : (extra dead : List Name) → Lists (IsDead s extra finalised) dead → All (IsAliveWeak w) dead
  dying_alive extra dead l i d lt =
      let x : IsDead s extra finalised (get_or dead i d) = l.sound (get_or dead i d) (Contains-get_or dead i d lt) in
      (x.parts, k.alive (get_or dead i d) x.parts x.alive x.not_finalised)

  abbrev here : Cycle
  here = seen w s remembered accounts opened taken finalised

  pub alive_named : (named dead : List Name) → ((weak : Name) → Contains named weak → IsDeadAmong here named weak) → Lists (Contains named) dead →
      All (IsAliveWeak w) dead
  alive_named named dead may l i d lt =
      let t : IsDeadAmong here named (get_or dead i d) = may (get_or dead i d) (l.sound (get_or dead i d) (Contains-get_or dead i d lt)) in
      let x : IsDead s (opened.names ++ t.0) finalised (get_or dead i d) = t.2 in
      (x.parts, k.alive (get_or dead i d) x.parts x.alive x.not_finalised)

-- the reported weak pointers, in the order of names
pub named_lists : (h : Cycle) (named dead : List Name) (marks : List (List Bool)) → IsSetOf h.snapshot named marks →
    ((weak : Name) → Contains named weak → IsDeadAmong h named weak) → Lists (IsMarked marks) dead → Lists (Contains named) dead
named_lists h named dead marks set may l = lists_alike (IsMarked marks) (Contains named) dead set.sound (λ n c.
    set.complete n c (weak_there h.snapshot n (may n c).2.parts (may n c).2.alive)) l
