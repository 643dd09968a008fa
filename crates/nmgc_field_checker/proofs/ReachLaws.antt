-- The objects that a cycle needs, and those that it keeps.
use Rattle.nmgc_field_checker.proofs.Vocabulary.{Accounts, AreFollowed, Contains, FieldCycle, Has, IsNamed, IsReached, IsReported, IsRootOrOpened, IsSome, Joins, KeepsName, List, Name, NeedsName, Objects, RefersTo, Running, Stored, World, inl, inr, named, no_objects, node_of, nothing_in, running_of, serial_of, subst, sym, ℕ, ◌<◌, ◌≡◌, ◌⊎◌, ◌↔◌}
use Rattle.nmgc_world_spec.specs.Reach as reach
use Rattle.nmgc_field_checker.proofs.{LineLaws.below_has, NoteLaws.from_named, NoteLaws.has_below, NoteLaws.to_named}

-- more names reach more
reached_more : (w : World) (P Q : Name → Type 0) → ((name : Name) → P name → IsReached w Q name) → (name : Name) → IsReached w P name → IsReached w Q name
reached_more w P Q more name (reach.start n p) = more n p
reached_more w P Q more name (reach.field n target r e) = reach.field n target (reached_more w P Q more n r) e

module _ (world snapshot : World) (unscanned : List ℕ) (roots remembered : Objects) (a : Accounts) (opened : Objects) (stores : Stored) where
  abbrev cycle : FieldCycle
  cycle = (running_of world snapshot unscanned roots remembered a opened stores).cycle

  -- an object of the snapshot has its name there
  there_named : (n : ℕ) (name : Name) → name ≡ named n → n < serial_of snapshot 0 → IsSome (node_of snapshot name)
  there_named n name e lt = subst (λ (x : Name). IsSome (node_of snapshot x)) (sym e) (below_has snapshot n lt)

  named_there : (n : ℕ) (name : Name) → name ≡ named n → IsSome (node_of snapshot name) → n < serial_of snapshot 0
  named_there n name e there = has_below snapshot n (subst (λ (x : Name). IsSome (node_of snapshot x)) e there)

  module _ (first second needed : Objects) (j : Joins (no_objects (serial_of snapshot 0)) roots.items first) (k : Joins first opened.items second)
      (f : AreFollowed snapshot second needed) where
    to_start : (name : Name) → IsNamed second.items name → IsRootOrOpened cycle name
    to_start name (n, c, e) = elim ((k.items n).0 c) [
      | inl was ↦ elim ((j.items n).0 was) [
        | inl none ↦ absurd (nothing_in n none)
        | inr p ↦ (there_named n name e p.1, inl (from_named roots.items name (n, p.0, e)))
      ]
      | inr p ↦ (there_named n name e (subst (λ (b : ℕ). n < b) j.bound p.1), inr (from_named opened.items name (n, p.0, e)))
    ]

    from_start : (name : Name) → IsRootOrOpened cycle name → IsNamed second.items name
    from_start name (there, inl r) =
        let x = to_named roots.items name r in
        (x.0, (k.items x.0).1 (inl ((j.items x.0).1 (inr (x.1, named_there x.0 name x.2 there)))), x.2)
    from_start name (there, inr o) =
        let x = to_named opened.items name o in
        (x.0, (k.items x.0).1 (inr (x.1, subst (λ (b : ℕ). x.0 < b) (sym j.bound) (named_there x.0 name x.2 there))), x.2)

    pub needed_is : (object : ℕ) → Contains needed.items object ↔ NeedsName cycle (named object)
    needed_is object = (
      λ c. reached_more snapshot (IsNamed second.items) (IsRootOrOpened cycle) (λ name s. reach.start name (to_start name s)) (named object)
          ((f.items object).0 c),
      λ r. (f.items object).1
          (reached_more snapshot (IsRootOrOpened cycle) (IsNamed second.items) (λ name s. reach.start name (from_start name s)) (named object) r),
    )

  -- each needed object is one of the snapshot
  module _ (needed first second kept : Objects) (is : (object : ℕ) → Contains needed.items object ↔ NeedsName cycle (named object))
      (below : (object : ℕ) → Contains needed.items object → object < serial_of snapshot 0)
      (j : Joins (no_objects (serial_of snapshot 0)) needed.items first) (k : Joins first remembered.items second) (f : AreFollowed snapshot second kept) where
    need_kept : (name : Name) → IsRootOrOpened cycle name → IsReported cycle name
    need_kept name (there, inl r) = (there, inl (inl r))
    need_kept name (there, inr o) = (there, inr o)

    to_kept : (name : Name) → IsNamed second.items name → KeepsName cycle name
    to_kept name (n, c, e) = elim ((k.items n).0 c) [
      | inl was ↦ elim ((j.items n).0 was) [
        | inl none ↦ absurd (nothing_in n none)
        | inr p ↦ subst (λ (x : Name). KeepsName cycle x) (sym e)
            (reached_more snapshot (IsRootOrOpened cycle) (IsReported cycle) (λ x s. reach.start x (need_kept x s)) (named n) ((is n).0 p.0))
      ]
      | inr p ↦ reach.start name (there_named n name e (subst (λ (b : ℕ). n < b) j.bound p.1), inl (inr (from_named remembered.items name (n, p.0, e))))
    ]

    -- a root or a handed object is needed
    needed_start : (name : Name) (n : ℕ) → name ≡ named n → IsRootOrOpened cycle name → IsNamed second.items name
    needed_start name n e s =
        let c = (is n).1 (reach.start (named n) (subst (λ (x : Name). IsRootOrOpened cycle x) e s)) in
        (n, (k.items n).1 (inl ((j.items n).1 (inr (c, below n c)))), e)

    from_kept : (name : Name) → IsReported cycle name → IsNamed second.items name
    from_kept name (there, inl (inl r)) = let x = to_named roots.items name r in needed_start name x.0 x.2 (there, inl r)
    from_kept name (there, inl (inr m)) =
        let x = to_named remembered.items name m in
        (x.0, (k.items x.0).1 (inr (x.1, subst (λ (b : ℕ). x.0 < b) (sym j.bound) (named_there x.0 name x.2 there))), x.2)
    from_kept name (there, inr o) = let x = to_named opened.items name o in needed_start name x.0 x.2 (there, inr o)

    pub kept_is : (object : ℕ) → Contains kept.items object ↔ KeepsName cycle (named object)
    kept_is object = (
      λ c. reached_more snapshot (IsNamed second.items) (IsReported cycle) to_kept (named object) ((f.items object).0 c),
      λ r. (f.items object).1
          (reached_more snapshot (IsReported cycle) (IsNamed second.items) (λ name s. reach.start name (from_kept name s)) (named object) r),
    )
