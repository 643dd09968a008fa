-- The facts that each line of a trace without registers keeps, and the names that it hands to the marker.
use Rattle.std.proofs.Common.{◌≡◌, ℕ, List, [], ◌∷◌, sym, ap, subst, inl, inr, ◌⊎◌}
use Rattle.std.specs.Prelude.{IsSome, Contains}
use Rattle.nmgc_world_spec.specs.{declared.value.Name.Name, World.World, World.node_of}
use Rattle.nmgc_world_spec.specs.declared.value.Value.TheVariants as value
use Rattle.nmgc_world_laws.specs.Holds.{HasStrongField}
use Rattle.nmgc_lists.specs.laws.Items.{nothing_in}
use Rattle.nmgc_barrier_laws.specs.{declared.debt.Debt.Debt, laws.Given.stands_or}
use Rattle.nmgc_barrier_laws.specs.FieldCycle.{FieldCycle, IsPaid, OwesName, IsDueBy, IsOldName, IsChanged, IsHanded, IsGone, IsScannedAt, IsPushedAt, ArePaid, AreJoined, IsLine}
use Rattle.nmgc_barrier_laws.specs.FieldCycle as field_cycle
use Rattle.nmgc_barrier_laws.specs.Stored as stored

-- a name is paid, or owed
abbrev pub IsAccounted : FieldCycle → Name → Type 0
IsAccounted h name = IsPaid h name ⊎ OwesName h name

-- the effect of a line on the snapshot, the lists and the fields, whichever line it is
pub record IsStep (h next : FieldCycle) (names : List Name) : Type 0 where
  pub snapshot : next.snapshot ≡ h.snapshot
  pub roots : (name : Name) → Contains h.roots name → Contains next.roots name
  pub remembered : (name : Name) → Contains h.remembered name → Contains next.remembered name
  pub opened : (name : Name) → Contains h.opened name → Contains next.opened name
  pub stored : (name : Name) → Contains h.stored name → Contains next.stored name
  pub new_roots : (name : Name) → Contains next.roots name → Contains h.roots name ⊎ Contains names name
  pub new_remembered : (name : Name) → Contains next.remembered name → Contains h.remembered name ⊎ Contains names name
  pub new_opened : (name : Name) → Contains next.opened name → Contains h.opened name ⊎ IsAccounted next name
  pub owes : (name : Name) → OwesName h name → OwesName next name ⊎ Contains names name
  pub stays : (name target : Name) (at : ℕ) → IsSome (node_of h.snapshot target) → HasStrongField h.snapshot name at (value.Ref target) →
      HasStrongField h.world name at (value.Ref target) → HasStrongField next.world name at (value.Ref target) ⊎ IsAccounted next target
  pub came : (name target : Name) (at : ℕ) → IsSome (node_of h.snapshot target) → HasStrongField next.world name at (value.Ref target) →
      HasStrongField h.world name at (value.Ref target) ⊎ Contains next.stored target
  pub told : (name : Name) → Contains names name → IsSome (node_of h.snapshot name) → IsPaid next name

-- a name is in a list after, if the list is the same
same_list : (names others : List Name) (name : Name) → names ≡ others → Contains others name → Contains names name
same_list names others name e c = subst (λ (l : List Name). Contains l name) (sym e) c

-- a line that changes the heap
module _ (h next : FieldCycle) (line m : ℕ) (after : World) (k : IsChanged h line m after next) where
  changed_world : next.world ≡ after
  changed_world = ap (λ (x : FieldCycle). x.world) k.rest

  changed_roots : next.roots ≡ h.roots
  changed_roots = ap (λ (x : FieldCycle). x.roots) k.rest

  changed_remembered : next.remembered ≡ h.remembered
  changed_remembered = ap (λ (x : FieldCycle). x.remembered) k.rest

  paid_after : (name : Name) → IsPaid h name → IsPaid next name
  paid_after name (inl r) = inl (same_list next.roots h.roots name changed_roots r)
  paid_after name (inr r) = inr (same_list next.remembered h.remembered name changed_remembered r)

  due_accounted : (name : Name) → IsDueBy h m after name → IsAccounted next name
  due_accounted name d = elim (k.debts.due name d) [ inl paid ↦ inl (paid_after name paid) | inr o ↦ inr (o.0, o.1, o.2) ]

  changed_stays : (name target : Name) (at : ℕ) → IsSome (node_of h.snapshot target) → HasStrongField h.snapshot name at (value.Ref target) →
      HasStrongField h.world name at (value.Ref target) → HasStrongField next.world name at (value.Ref target) ⊎ IsAccounted next target
  changed_stays name target at there then stood = elim (stands_or after name at target) [
    | inl now ↦ inl (subst (λ (v : World). HasStrongField v name at (value.Ref target)) (sym changed_world) now)
    | inr gone ↦ inr (due_accounted target (record {
      there = there;
      why = inl (record { name = name; place = at; then = then; stood = stood; gone = gone });
    }))
  ]

  changed_came : (name target : Name) (at : ℕ) → IsSome (node_of h.snapshot target) → HasStrongField next.world name at (value.Ref target) →
      HasStrongField h.world name at (value.Ref target) ⊎ Contains next.stored target
  changed_came name target at there now = elim (stands_or h.world name at target) [
    | inl stood ↦ inl stood
    | inr none ↦ inr ((k.stored target).1 (inr (record {
      there = there;
      stored = stored.field name at (subst (λ (v : World). HasStrongField v name at (value.Ref target)) changed_world now) none;
    })))
  ]

  changed_opened : (name : Name) → Contains next.opened name → Contains h.opened name ⊎ IsAccounted next name
  changed_opened name c = elim ((k.opened name).0 c) [
    | inl old ↦ inl old
    | inr out ↦ inr (due_accounted name (record { there = out.old.there; why = inr out }))
  ]

  pub changed_step : IsStep h next []
  changed_step = record {
    snapshot = ap (λ (x : FieldCycle). x.snapshot) k.rest;
    roots = λ name c. same_list next.roots h.roots name changed_roots c;
    remembered = λ name c. same_list next.remembered h.remembered name changed_remembered c;
    opened = λ name c. (k.opened name).1 (inl c);
    stored = λ name c. (k.stored name).1 (inl c);
    new_roots = λ name c. inl (same_list h.roots next.roots name (sym changed_roots) c);
    new_remembered = λ name c. inl (same_list h.remembered next.remembered name (sym changed_remembered) c);
    new_opened = changed_opened;
    owes = λ name o. inl (o.0, k.debts.old o.0 o.1, o.2);
    stays = changed_stays;
    came = changed_came;
    told = λ name c there. absurd (nothing_in name c);
  }

-- a line that leaves the heap as it is: only the debts, the lists and the mutators change
module _ (h next : FieldCycle) (names : List Name) (snapshot : next.snapshot ≡ h.snapshot) (world : next.world ≡ h.world)
    (roots : (name : Name) → Contains h.roots name → Contains next.roots name)
    (remembered : (name : Name) → Contains h.remembered name → Contains next.remembered name)
    (opened : (name : Name) → Contains h.opened name → Contains next.opened name)
    (stored_is : next.stored ≡ h.stored)
    (new_roots : (name : Name) → Contains next.roots name → Contains h.roots name ⊎ Contains names name)
    (new_remembered : (name : Name) → Contains next.remembered name → Contains h.remembered name ⊎ Contains names name)
    (new_opened : (name : Name) → Contains next.opened name → Contains h.opened name ⊎ IsAccounted next name)
    (owes : (name : Name) → OwesName h name → OwesName next name ⊎ Contains names name)
    (told : (name : Name) → Contains names name → IsSome (node_of h.snapshot name) → IsPaid next name) where
  pub quiet_step : IsStep h next names
  quiet_step = record {
    snapshot = snapshot;
    roots = roots;
    remembered = remembered;
    opened = opened;
    stored = λ name c. same_list next.stored h.stored name stored_is c;
    new_roots = new_roots;
    new_remembered = new_remembered;
    new_opened = new_opened;
    owes = owes;
    stays = λ name target at there then stood. inl (subst (λ (v : World). HasStrongField v name at (value.Ref target)) (sym world) stood);
    came = λ name target at there now. inl (subst (λ (v : World). HasStrongField v name at (value.Ref target)) world now);
    told = told;
  }

-- a line that hands a name out
module _ (h next : FieldCycle) (line m : ℕ) (name : Name) (k : IsHanded h line m name next) where
  handed_roots : next.roots ≡ h.roots
  handed_roots = ap (λ (x : FieldCycle). x.roots) k.rest

  handed_remembered : next.remembered ≡ h.remembered
  handed_remembered = ap (λ (x : FieldCycle). x.remembered) k.rest

  handed_accounted : (other : Name) → IsOldName h name other → IsAccounted next other
  handed_accounted other d = elim (k.debts.due other d) [
    | inl (inl r) ↦ inl (inl (same_list next.roots h.roots other handed_roots r))
    | inl (inr r) ↦ inl (inr (same_list next.remembered h.remembered other handed_remembered r))
    | inr o ↦ inr (o.0, o.1, o.2)
  ]

  handed_opened : (other : Name) → Contains next.opened other → Contains h.opened other ⊎ IsAccounted next other
  handed_opened other c = elim ((k.opened other).0 c) [ inl old ↦ inl old | inr own ↦ inr (handed_accounted other own) ]

  pub handed_step : IsStep h next []
  handed_step = quiet_step h next [] (ap (λ (x : FieldCycle). x.snapshot) k.rest) (ap (λ (x : FieldCycle). x.world) k.rest)
      (λ other c. same_list next.roots h.roots other handed_roots c)
      (λ other c. same_list next.remembered h.remembered other handed_remembered c)
      (λ other c. (k.opened other).1 (inl c))
      (ap (λ (x : FieldCycle). x.stored) k.rest)
      (λ other c. inl (same_list h.roots next.roots other (sym handed_roots) c))
      (λ other c. inl (same_list h.remembered next.remembered other (sym handed_remembered) c))
      handed_opened
      (λ other o. inl (o.0, k.debts.old o.0 o.1, o.2))
      (λ other c there. absurd (nothing_in other c))

-- a mutator ends
module _ (h next : FieldCycle) (m : ℕ) (k : IsGone h m next) where
  gone_debts : next.debts ≡ h.debts
  gone_debts = ap (λ (x : FieldCycle). x.debts) k.rest

  gone_roots : next.roots ≡ h.roots
  gone_roots = ap (λ (x : FieldCycle). x.roots) k.rest

  gone_remembered : next.remembered ≡ h.remembered
  gone_remembered = ap (λ (x : FieldCycle). x.remembered) k.rest

  gone_opened : next.opened ≡ h.opened
  gone_opened = ap (λ (x : FieldCycle). x.opened) k.rest

  pub gone_step : IsStep h next []
  gone_step = quiet_step h next [] (ap (λ (x : FieldCycle). x.snapshot) k.rest) (ap (λ (x : FieldCycle). x.world) k.rest)
      (λ name c. same_list next.roots h.roots name gone_roots c)
      (λ name c. same_list next.remembered h.remembered name gone_remembered c)
      (λ name c. same_list next.opened h.opened name gone_opened c)
      (ap (λ (x : FieldCycle). x.stored) k.rest)
      (λ name c. inl (same_list h.roots next.roots name (sym gone_roots) c))
      (λ name c. inl (same_list h.remembered next.remembered name (sym gone_remembered) c))
      (λ name c. inl (same_list h.opened next.opened name (sym gone_opened) c))
      (λ name o. inl (o.0, subst (λ (l : List Debt). Contains l o.0) (sym gone_debts) o.1, o.2))
      (λ name c there. absurd (nothing_in name c))

-- debts that are paid: each is left, or its name is among those that the collector now has
owes_after : (h next : FieldCycle) (names : List Name) → ArePaid names h.debts next.debts → (name : Name) → OwesName h name → OwesName next name ⊎ Contains names name
owes_after h next names paid name o = elim (paid.kept o.0 o.1) [
  | inl left ↦ inl (o.0, left, o.2)
  | inr own ↦ inr (subst (λ (n : Name). Contains names n) o.2 own)
]

-- the names that a list has after others joined it
joined_new : (h : FieldCycle) (names before after : List Name) → AreJoined h names before after → (name : Name) → Contains after name →
    Contains before name ⊎ Contains names name
joined_new h names before after j name c = elim ((j name).0 c) [ inl old ↦ inl old | inr own ↦ inr own.0 ]

-- a scan
module _ (h next : FieldCycle) (m : ℕ) (names : List Name) (k : IsScannedAt h m names next) where
  scanned_remembered : next.remembered ≡ h.remembered
  scanned_remembered = ap (λ (x : FieldCycle). x.remembered) k.rest

  scanned_opened : next.opened ≡ h.opened
  scanned_opened = ap (λ (x : FieldCycle). x.opened) k.rest

  pub scanned_step : IsStep h next names
  scanned_step = quiet_step h next names (ap (λ (x : FieldCycle). x.snapshot) k.rest) (ap (λ (x : FieldCycle). x.world) k.rest)
      (λ name c. (k.roots name).1 (inl c))
      (λ name c. same_list next.remembered h.remembered name scanned_remembered c)
      (λ name c. same_list next.opened h.opened name scanned_opened c)
      (ap (λ (x : FieldCycle). x.stored) k.rest)
      (joined_new h names h.roots next.roots k.roots)
      (λ name c. inl (same_list h.remembered next.remembered name (sym scanned_remembered) c))
      (λ name c. inl (same_list h.opened next.opened name (sym scanned_opened) c))
      (owes_after h next names k.debts)
      (λ name c there. inl ((k.roots name).1 (inr (c, there))))

-- a push
module _ (h next : FieldCycle) (pushed : Name) (k : IsPushedAt h pushed next) where
  pushed_roots : next.roots ≡ h.roots
  pushed_roots = ap (λ (x : FieldCycle). x.roots) k.rest

  pushed_opened : next.opened ≡ h.opened
  pushed_opened = ap (λ (x : FieldCycle). x.opened) k.rest

  pub pushed_step : IsStep h next (pushed ∷ [])
  pushed_step = quiet_step h next (pushed ∷ []) (ap (λ (x : FieldCycle). x.snapshot) k.rest) (ap (λ (x : FieldCycle). x.world) k.rest)
      (λ name c. same_list next.roots h.roots name pushed_roots c)
      (λ name c. (k.remembered name).1 (inl c))
      (λ name c. same_list next.opened h.opened name pushed_opened c)
      (ap (λ (x : FieldCycle). x.stored) k.rest)
      (λ name c. inl (same_list h.roots next.roots name (sym pushed_roots) c))
      (joined_new h (pushed ∷ []) h.remembered next.remembered k.remembered)
      (λ name c. inl (same_list h.opened next.opened name (sym pushed_opened) c))
      (owes_after h next (pushed ∷ []) k.debts)
      (λ name c there. inr ((k.remembered name).1 (inr (c, there))))

-- each line is such a step
pub line_steps : (h next : FieldCycle) (names : List Name) → IsLine h next names → IsStep h next names
line_steps h next names (field_cycle.changed line m after k) = changed_step h next line m after k
line_steps h next names (field_cycle.handed line m name k) = handed_step h next line m name k
line_steps h next names (field_cycle.gone m k) = gone_step h next m k
line_steps h next names (field_cycle.scanned m roots k) = scanned_step h next m roots k
line_steps h next names (field_cycle.pushed name k) = pushed_step h next name k
