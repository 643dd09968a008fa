-- Marking a name keeps the facts.
use Rattle.std.specs.Prelude.{◌≡◌, ◌≤◌, ◌∷◌, ◌++◌, ◌⊎◌}
use Rattle.nmgc_snapshot_laws.specs.laws.Vocabulary.{ℕ, List, [], subst, arith, true, false, not, inl, inr, IsSome, Contains, is_some, Contains-append_left, Contains-push, Contains-push_cases, contains_cases, contains_head, contains_tail, cond_both, and_parts, and_cases, not-false, Name, Parts, node_of, IsRoot, IsAlive, IsKeptBy, Entry, Order, oldest_first, newest_first, joined, State, is_new, is_listed, with_mark, mark_name, entry_of, name_cases, HasStrongField, MayHold, IsLiveIn, IsSafe, IsAhead, Kept, Base, Facts, owed, pushed, queued, marked, unmarked}
use Rattle.nmgc_world_spec.specs.declared.value.Value.TheVariants as value
use Rattle.nmgc_snapshot_laws.specs.laws.Listed.{contains_listed}

-- the entries of a queue after another joined it: these and the other
pub joined_old : (order : Order) (queue : List Entry) (entry e : Entry) → Contains queue e → Contains (joined order queue entry) e
joined_old oldest_first queue entry e c = Contains-append_left queue (entry ∷ []) e c
joined_old newest_first queue entry e c = contains_tail entry queue e c

pub joined_new : (order : Order) (queue : List Entry) (entry : Entry) → Contains (joined order queue entry) entry
joined_new oldest_first queue entry = Contains-push queue entry
joined_new newest_first queue entry = contains_head entry queue

pub joined_cases : (order : Order) (queue : List Entry) (entry e : Entry) → Contains (joined order queue entry) e → Contains queue e ⊎ (entry ≡ e)
joined_cases oldest_first queue entry e c = Contains-push_cases queue entry e c
joined_cases newest_first queue entry e c = elim (contains_cases entry queue e c) [ inl same ↦ inr same | inr old ↦ inl old ]

-- a new name is marked, and any other is left
pub mark_cases : (R : State → Type 0) (s : State) (name : Name) → (is_new s name ≡ true → R (with_mark s name)) → (is_new s name ≡ false → R s) →
    R (mark_name s name)
mark_cases R s name new old = cond_both (is_new s name) (with_mark s name) s R new old

pub new_there : (s : State) (name : Name) → is_new s name ≡ true → IsSome (node_of s.snapshot name)
new_there s name e = (and_parts (is_some (node_of s.snapshot name)) (not (is_listed name s.marked)) e).0

-- a name of the snapshot is marked afterwards
pub marked_then : (s : State) (name : Name) → IsSome (node_of s.snapshot name) → Contains (mark_name s name).marked name
marked_then s name there = mark_cases (λ t. Contains t.marked name) s name (λ e. Contains-push s.marked name) (λ e.
    elim (and_cases (is_some (node_of s.snapshot name)) (not (is_listed name s.marked)) e) [
      | inl a ↦ absurd (let k : is_some (node_of s.snapshot name) ≡ true = there in cc)
      | inr b ↦ contains_listed name s.marked (not-false (is_listed name s.marked) b)
    ])

-- a marked name stays marked
pub still_marked : (s : State) (name other : Name) → Contains s.marked other → Contains (mark_name s name).marked other
still_marked s name other h = mark_cases (λ t. Contains t.marked other) s name (λ e. Contains-append_left s.marked (name ∷ []) other h) (λ e. h)

-- a field that is looked after stays so
pub ahead_then : (s : State) (name n : Name) (i : ℕ) → IsAhead s n i → IsAhead (with_mark s name) n i
ahead_then s name n i (queued entry h e le) = queued entry (joined_old s.order s.queue (entry_of name) entry h) e le
ahead_then s name n i (unmarked not) = elim (name_cases name n) [
  | inl e ↦ queued (entry_of name) (joined_new s.order s.queue (entry_of name)) e (omega arith)
  | inr ne ↦ unmarked (λ h. elim (Contains-push_cases s.marked name n h) [ inl old ↦ not old | inr e ↦ ne e ])
]

pub safe_then : (s : State) (name target : Name) → IsSafe s target → IsSafe (with_mark s name) target
safe_then s name target (marked h) = marked (Contains-append_left s.marked (name ∷ []) target h)
safe_then s name target (owed m h) = owed m h
safe_then s name target (pushed m h) = pushed m h

pub kept_then : (s : State) (name n : Name) (i : ℕ) (target : Name) → Kept s n i target → Kept (mark_name s name) n i target
kept_then s name n i target k = mark_cases (λ t. Kept t n i target) s name
    (λ e. elim k [ inl a ↦ inl (safe_then s name target a) | inr b ↦ inr (b.0, ahead_then s name n i b.1) ])
    (λ e. k)

-- marking a name that may be held
pub mark_base : (s : State) (name : Name) → Base s → MayHold s name → Base (mark_name s name)
mark_base s name b may = mark_cases Base s name (λ e. record {
  snapshot = b.snapshot;
  mutators = b.mutators;
  serials = b.serials;
  owed_lists = b.owed_lists;
  pushed_lists = b.pushed_lists;
  holds = b.holds;
  fields = b.fields;
  weaks = b.weaks;
  alive = b.alive;
  owed = b.owed;
  pushed = b.pushed;
  later = b.later;
  live = λ n h. elim (Contains-push_cases s.marked name n h) [
    | inl old ↦ b.live n old
    | inr same ↦ subst (IsLiveIn s) same (may (new_there s name e))
  ];
  queued = λ entry h. elim (joined_cases s.order s.queue (entry_of name) entry h) [
    | inl old ↦ Contains-append_left s.marked (name ∷ []) entry.name (b.queued entry old)
    | inr same ↦ subst (λ (x : Entry). Contains (s.marked ++ name ∷ []) x.name) same (Contains-push s.marked name)
  ];
  passed = λ entry h. elim (joined_cases s.order s.queue (entry_of name) entry h) [
    | inl old ↦ b.passed entry old
    | inr same ↦ inl (subst (λ (x : Entry). x.position ≤ 1) same (omega arith))
  ];
}) (λ e. b)

pub mark_facts : (s : State) (name : Name) → Facts s → MayHold s name → Facts (mark_name s name)
mark_facts s name f may = record {
  base = mark_base s name f.base may;
  roots = mark_cases (λ t. (n : Name) → IsRoot t.snapshot n →
      Contains t.marked n) s name (λ e n r. Contains-append_left s.marked (name ∷ []) n (f.roots n r)) (λ e n r. f.roots n r);
  kept = mark_cases (λ t. (n : Name) (i : ℕ) (target : Name) → HasStrongField t.snapshot n i (value.Ref target) → Kept t n i target) s name
      (λ e n i target h. elim (f.kept n i target h) [ inl a ↦ inl (safe_then s name target a) | inr b ↦ inr (b.0, ahead_then s name n i b.1) ])
      (λ e n i target h. f.kept n i target h);
  opened = mark_cases (λ t. (n : Name) → Contains t.opened n → IsSome (node_of t.snapshot n) →
      IsSafe t n) s name (λ e n c there. safe_then s name n (f.opened n c there)) (λ e n c there. f.opened n c there);
  ended = mark_cases (λ t. (weak : Name) → Contains t.finalised weak → IsSome (node_of t.snapshot weak) → IsSafe t weak) s name
      (λ e weak c there. safe_then s name weak (f.ended weak c there))
      (λ e weak c there. f.ended weak c there);
  finalised = mark_cases (λ t. (weak target : Name) (parts : Parts) → Contains t.finalised weak → IsAlive t.snapshot weak parts →
      IsKeptBy weak parts target → IsSafe t target) s name
      (λ e weak target parts c alive kept. safe_then s name target (f.finalised weak target parts c alive kept))
      (λ e weak target parts c alive kept. f.finalised weak target parts c alive kept);
}
