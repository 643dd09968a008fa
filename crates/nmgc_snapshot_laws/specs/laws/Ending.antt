-- At the closing the names marked first are the live names, exactly the dead weak pointers die, and the names marked in the
-- end are the kept names. The closing follows fields in the world as it is, and live names are names of the snapshot. If a
-- field was overwritten, its old target was marked. An unchanged field is followed.
use Rattle.std.specs.Prelude.{◌≡◌, ◌⊎◌}
use Rattle.nmgc_snapshot_laws.specs.laws.Vocabulary.{ℕ, List, [], length, refl, Bool, true, false, inl, inr, IsSome, Contains, get_or_past, cases_lt, Name, Parts, node_of, IsLive, IsAlive, IsKeptBy, IsDead, IsKept, Lists, RefersTo, State, names_of, is_listed, AreEmpty, IsWaiting, IsUnmarked, IsRevived, IsMarkedFirst, IsDying, IsRescued, IsMarkedLast, nothing_in, IsLiveIn, IsSafe, IsAhead, Facts, HasStrongField}
use Rattle.nmgc_world_spec.specs.declared.value.Value.TheVariants as value
use Rattle.nmgc_world_spec.specs.Reach as reach
use Rattle.nmgc_snapshot_laws.specs.Closing as closing
use Rattle.nmgc_snapshot_laws.specs.laws.{Listed.contains_listed, Listed.not_listed, Lives.stands, Lives.refers, Lives.target_there, Lives.part_there}
use Rattle.nmgc_snapshot_laws.specs.Facts as facts

pub none_of : (lists : List (List Name)) → AreEmpty lists → (m : ℕ) → names_of lists m ≡ []
none_of lists h m = elim (cases_lt m (length lists)) [ inl lt ↦ h m [] lt | inr le ↦ get_or_past lists m [] le ]

-- no name waits, is owed or is pushed
module _ (s : State) (f : Facts s) (queue : s.queue ≡ []) (owed : AreEmpty s.owed) (pushed : AreEmpty s.pushed) where
  pub safe_marked : (name : Name) → IsSafe s name → Contains s.marked name
  safe_marked name (facts.marked c) = c
  safe_marked name (facts.owed m c) = absurd (nothing_in name (rw (none_of s.owed owed m) at c))
  safe_marked name (facts.pushed m c) = absurd (nothing_in name (rw (none_of s.pushed pushed m) at c))

  pub none_ahead : (name : Name) (i : ℕ) → Contains s.marked name → IsAhead s name i → ⊥
  none_ahead name i h (facts.unmarked c) = c h
  none_ahead name i h (facts.queued entry c e le) = nothing_in entry (rw queue at c)

  -- a name of the snapshot is marked, or isn't
  unmarked_or : (R : Type 0) (name : Name) → IsSome (node_of s.snapshot name) → (Contains s.marked name → R) → (IsUnmarked s name → R) → R
  unmarked_or R name there found new = by_test (is_listed name s.marked) refl
    where
      by_test : (b : Bool) → is_listed name s.marked ≡ b → R
      by_test true e = found (contains_listed name s.marked e)
      by_test false e = new (record { there = there; unmarked = not_listed name s.marked e })

  -- the target of a field of the snapshot is marked, or the field is unchanged and its object isn't marked
  marked_or_stands : (name target : Name) → RefersTo s.snapshot name target → Contains s.marked target ⊎
      (RefersTo s.world name target × (Contains s.marked name → ⊥))
  marked_or_stands name target r =
      let p : (i : ℕ) × HasStrongField s.snapshot name i (value.Ref target) = stands s.snapshot name target r in
      elim (f.kept name p.0 target p.1) [
        | inl safe ↦ inl (safe_marked target safe)
        | inr ahead ↦ inr (refers s.world name target p.0 ahead.0, λ c. none_ahead name p.0 c ahead.1)
      ]

  first_from : (name : Name) → IsSome (node_of s.snapshot name) → (IsUnmarked s name → IsRevived s name) → IsMarkedFirst s name
  first_from name there h = unmarked_or (IsMarkedFirst s name) name there (λ c. inl c) (λ u. inr (h u))

  first_field : (name target : Name) → IsMarkedFirst s name → RefersTo s.snapshot name target → IsMarkedFirst s target
  first_field name target h r = elim (marked_or_stands name target r) [
    | inl c ↦ inl c
    | inr q ↦ elim h [
      | inl c ↦ absurd (q.1 c)
      | inr v ↦ first_from target (target_there s.snapshot f.base.snapshot name target r) (λ u. IsRevived.field name target v q.0 u)
    ]
  ]

  -- all that a weak pointer of the snapshot keeps was owed when it was finalised, or the weak pointer waits
  first_part : (weak target : Name) (parts : Parts) → IsAlive s.snapshot weak parts → IsKeptBy weak parts target →
      (IsWaiting s weak parts → IsUnmarked s target → IsRevived s target) → IsMarkedFirst s target
  first_part weak target parts alive kept h = by_test (is_listed weak s.finalised) refl
    where
      by_test : (b : Bool) → is_listed weak s.finalised ≡ b → IsMarkedFirst s target
      by_test true e = inl (safe_marked target (f.finalised weak target parts (contains_listed weak s.finalised e) alive kept))
      by_test false e = first_from target (part_there s.snapshot f.base.snapshot weak target parts alive kept) (h (record {
        alive = alive;
        not_finalised = not_listed weak s.finalised e;
      }))

  -- all live names are marked first
  pub live_first : (name : Name) → IsLiveIn s name → IsMarkedFirst s name
  live_first name (reach.root n r) = inl (f.roots n r)
  live_first name (reach.further n c there) = inl (safe_marked n (f.opened n c there))
  live_first name (reach.field n target l r) = first_field n target (live_first n l) r
  live_first name (reach.plain_key weak target parts alive plain kept) =
      first_part weak target parts alive kept (λ w u. IsRevived.plain_key weak target parts w plain kept u)
  live_first name (reach.live_key weak target key parts alive is l kept) = elim (live_first key l) [
    | inl c ↦ first_part weak target parts alive kept (λ w u. IsRevived.marked_key weak target key parts w is c kept u)
    | inr v ↦ first_part weak target parts alive kept (λ w u. IsRevived.revived_key weak target key parts w is v kept u)
  ]

  -- only live names are marked first, since the target of a live name's field was its target in the snapshot, or may be held
  revived_live : (name : Name) → IsRevived s name → IsLiveIn s name
  revived_live name (closing.plain_key weak target parts w plain kept u) = reach.plain_key weak target parts w.alive plain kept
  revived_live name (closing.marked_key weak target key parts w is c kept u) = reach.live_key weak target key parts w.alive is (f.base.live key c) kept
  revived_live name (closing.revived_key weak target key parts w is v kept u) = reach.live_key weak target key parts w.alive is (revived_live key v) kept
  revived_live name (closing.field n target v r u) = elim (f.base.fields n target r) [
    | inl may ↦ may u.there
    | inr old ↦ IsLive.field n target (revived_live n v) old
  ]

  pub first_live : (name : Name) → IsMarkedFirst s name → IsLiveIn s name
  first_live name (inl c) = f.base.live name c
  first_live name (inr v) = revived_live name v

  -- the weak pointers that die are the dead weak pointers
  abbrev pub dying_dead : (weak : Name) → IsDying s weak → IsDead s.snapshot s.opened s.finalised weak
  dying_dead weak d = record {
    parts = d.parts;
    alive = d.waiting.alive;
    not_finalised = d.waiting.not_finalised;
    key = d.key;
    key_is = d.key_is;
    lost = λ l. d.lost (live_first d.key l);
  }

  abbrev pub dead_dying : (weak : Name) → IsDead s.snapshot s.opened s.finalised weak → IsDying s weak
  dead_dying weak d = record {
    parts = d.parts;
    waiting = record { alive = d.alive; not_finalised = d.not_finalised };
    key = d.key;
    key_is = d.key_is;
    lost = λ c. d.lost (first_live d.key c);
  }

  pub dying_lists : (dead : List Name) → Lists (IsDying s) dead → Lists (IsDead s.snapshot s.opened s.finalised) dead
  dying_lists dead l = record {
    ordered = l.ordered;
    sound = λ name c. dying_dead name (l.sound name c);
    complete = λ name d. l.complete name (dead_dying name d);
  }

  -- the names marked in the end are the kept names
  rescued_kept : (name : Name) → IsRescued s name → IsKept s.snapshot s.opened s.finalised name
  rescued_kept name (closing.finaliser weak target d is u) = IsKept.finaliser weak target (dying_dead weak d) is
  rescued_kept name (closing.field n target v r u) = elim (f.base.fields n target r) [
    | inl may ↦ IsKept.live target (may u.there)
    | inr old ↦ IsKept.field n target (rescued_kept n v) old
  ]

  pub last_kept : (name : Name) → IsMarkedLast s name → IsKept s.snapshot s.opened s.finalised name
  last_kept name (inl h) = IsKept.live name (first_live name h)
  last_kept name (inr v) = rescued_kept name v

  last_from : (name : Name) → IsSome (node_of s.snapshot name) → (IsUnmarked s name → IsRescued s name) → IsMarkedLast s name
  last_from name there h = unmarked_or (IsMarkedLast s name) name there (λ c. inl (inl c)) (λ u. inr (h u))

  last_field : (name target : Name) → IsMarkedLast s name → RefersTo s.snapshot name target → IsMarkedLast s target
  last_field name target (inl h) r = inl (first_field name target h r)
  last_field name target (inr v) r = elim (marked_or_stands name target r) [
    | inl c ↦ inl (inl c)
    | inr q ↦ last_from target (target_there s.snapshot f.base.snapshot name target r) (λ u. IsRescued.field name target v q.0 u)
  ]

  pub kept_last : (name : Name) → IsKept s.snapshot s.opened s.finalised name → IsMarkedLast s name
  kept_last name (IsKept.live n l) = inl (live_first n l)
  kept_last name (IsKept.finaliser weak target d is) =
      last_from target (part_there s.snapshot f.base.snapshot weak target d.parts d.alive (inr (inr is))) (λ u.
      IsRescued.finaliser weak target (dead_dying weak d) is u)
  kept_last name (IsKept.field n target k r) = last_field n target (kept_last n k) r
