-- A marker beside a trace without registers marks just the kept names. It marks no other name, since each field holds its
-- name of the mark, or a name that was stored. It leaves none out, since a field that lost its name made it due.
use Rattle.std.proofs.Common.{◌≡◌, ℕ, List, [], ◌∷◌, ◌++◌, refl, sym, subst, ◌∙◌, Option, inl, inr, ◌⊎◌}
use Rattle.std.specs.Prelude.{IsSome, Contains, ◌↔◌}
use Rattle.std.proofs.lemmas.List.Elements.{Contains-append_left, Contains-append_right, Contains-append_cases}
use Rattle.nmgc_world_spec.specs.{declared.value.Name.Name, declared.node.Node.Node, World.World, World.node_of, World.step, Known.IsWorld, Reach.IsReached}
use Rattle.nmgc_world_spec.specs.Reach as reach
use Rattle.nmgc_world_spec.specs.declared.value.Value.TheVariants as value
use Rattle.nmgc_world_laws.specs.Holds.{HasStrongField}
use Rattle.nmgc_lists.specs.laws.Items.{contains_cases, nothing_in}
use Rattle.nmgc_snapshot_laws.specs.laws.Lives.{target_there, refers, stands}
use Rattle.nmgc_barrier_laws.specs.{declared.debt.Debt.Debt, Hybrid.IsDueIn, laws.FieldFacts.IsAccounted, laws.FieldFacts.IsStep, laws.FieldFacts.line_steps}
use Rattle.nmgc_barrier_laws.specs.FieldCycle.{FieldCycle, FieldMarker, FieldPlace, read_place, waiting_too, IsPaid, IsDueBy, WatchesFields, BesideFields, HasReadAll, IsReported, KeepsName, IsFieldEnd, FieldTheorem, FieldSafetyTheorem, seen, CommandsAreChanges}
use Rattle.nmgc_barrier_laws.specs.FieldCycle as field_cycle

-- more roots reach more
reached_more : (v : World) (P Q : Name → Type 0) → ((name : Name) → P name → Q name) → (name : Name) → IsReached v P name → IsReached v Q name
reached_more v P Q more name (reach.start n p) = reach.start n (more n p)
reached_more v P Q more name (reach.field n target r e) = reach.field n target (reached_more v P Q more n r) e

-- a name that was reported, or that any mutator stored
abbrev IsCounted : FieldCycle → Name → Type 0
IsCounted h name = IsSome (node_of h.snapshot name) × (Contains h.stored name ⊎ (IsPaid h name ⊎ Contains h.opened name))

-- a name to which the snapshot leads from names that were reported or stored
abbrev IsCovered : FieldCycle → Name → Type 0
IsCovered h = IsReached h.snapshot (IsCounted h)

-- a step covers no less
module _ (h next : FieldCycle) (names : List Name) (k : IsStep h next names) where
  there_next : (name : Name) → IsSome (node_of h.snapshot name) → IsSome (node_of next.snapshot name)
  there_next name there = subst (λ (v : World). IsSome (node_of v name)) (sym k.snapshot) there

  there_before : (name : Name) → IsSome (node_of next.snapshot name) → IsSome (node_of h.snapshot name)
  there_before name there = subst (λ (v : World). IsSome (node_of v name)) k.snapshot there

  paid_next : (name : Name) → IsPaid h name → IsPaid next name
  paid_next name (inl r) = inl (k.roots name r)
  paid_next name (inr r) = inr (k.remembered name r)

  counted_next : (name : Name) → IsCounted h name → IsCounted next name
  counted_next name (there, c) = (
    there_next name there,
    elim c [
      | inl s ↦ inl (k.stored name s)
      | inr (inl p) ↦ inr (inl (paid_next name p))
      | inr (inr o) ↦ inr (inr (k.opened name o))
    ],
  )

  covered_next : (name : Name) → IsCovered h name → IsCovered next name
  covered_next name r = subst (λ (v : World). IsReached v (IsCounted next) name) (sym k.snapshot)
      (reached_more h.snapshot (IsCounted h) (IsCounted next) counted_next name r)

-- each field that refers to a name of the snapshot held it at the mark, or the name is covered
abbrev AreFieldsCovered : FieldCycle → Type 0
AreFieldsCovered h = (name target : Name) (at : ℕ) → IsSome (node_of h.snapshot target) → HasStrongField h.world name at (value.Ref target) →
    HasStrongField h.snapshot name at (value.Ref target) ⊎ IsCovered h target

step_fields : (h next : FieldCycle) (names : List Name) → IsStep h next names → AreFieldsCovered h → AreFieldsCovered next
step_fields h next names k f name target at there now = elim (k.came name target at (there_before h next names k target there) now) [
  | inl stood ↦ elim (f name target at (there_before h next names k target there) stood) [
    | inl then ↦ inl (subst (λ (v : World). HasStrongField v name at (value.Ref target)) (sym k.snapshot) then)
    | inr covered ↦ inr (covered_next h next names k target covered)
  ]
  | inr put ↦ inr (reach.start target (there, inl put))
]

watched_fields : (w : World) (mutators : List ℕ) (roots : List Name) (h : FieldCycle) → WatchesFields w mutators roots h → AreFieldsCovered h
watched_fields w mutators roots h field_cycle.begun = λ name target at there now. inl now
watched_fields w mutators roots h (field_cycle.followed before next names b k) =
    step_fields before next names (line_steps before next names k) (watched_fields w mutators roots before b)

-- the facts that a marker keeps beside the lines
record IsBeside (h : FieldCycle) (s : FieldMarker) : Type 0 where
  pub fields : AreFieldsCovered h
  pub waiting : (name : Name) → Contains s.waiting name → IsSome (node_of h.snapshot name) → IsCovered h name
  pub marked : (name : Name) → Contains s.marked name → IsSome (node_of h.snapshot name) × IsCovered h name
  pub paid : (name : Name) → IsPaid h name → Contains s.waiting name
  pub opened : (name : Name) → IsSome (node_of h.snapshot name) → Contains h.opened name → IsAccounted h name
  pub edges : (name target : Name) (at : ℕ) → HasStrongField h.snapshot name at (value.Ref target) → IsAccounted h target ⊎ (Contains s.waiting target ⊎
      (HasStrongField h.world name at (value.Ref target) × (Contains s.read (read_place name at) → Contains s.waiting target)))

-- a line beside a marker
module _ (h next : FieldCycle) (s : FieldMarker) (names : List Name) (k : IsStep h next names) (is : IsWorld h.snapshot) (b : IsBeside h s) where
  later : (name : Name) → Contains s.waiting name → Contains (names ++ s.waiting) name
  later name c = Contains-append_right names s.waiting name c

  here : (name : Name) → Contains names name → Contains (names ++ s.waiting) name
  here name c = Contains-append_left names s.waiting name c

  line_waiting : (name : Name) → Contains (names ++ s.waiting) name → IsSome (node_of next.snapshot name) → IsCovered next name
  line_waiting name c there = let was : IsSome (node_of h.snapshot name) = there_before h next names k name there in
      elim (Contains-append_cases names s.waiting name c) [
        | inl own ↦ reach.start name (there, inr (inl (k.told name own was)))
        | inr old ↦ covered_next h next names k name (b.waiting name old was)
      ]

  line_paid : (name : Name) → IsPaid next name → Contains (names ++ s.waiting) name
  line_paid name (inl r) = elim (k.new_roots name r) [ inl old ↦ later name (b.paid name (inl old)) | inr own ↦ here name own ]
  line_paid name (inr r) = elim (k.new_remembered name r) [ inl old ↦ later name (b.paid name (inr old)) | inr own ↦ here name own ]

  -- a name that was paid or owed still is, or the line hands it to the marker
  line_accounted : (name : Name) → IsAccounted h name → IsAccounted next name ⊎ Contains names name
  line_accounted name (inl p) = inl (inl (paid_next h next names k name p))
  line_accounted name (inr o) = elim (k.owes name o) [ inl still ↦ inl (inr still) | inr own ↦ inr own ]

  -- an opened name of the snapshot is paid or owed
  line_opened : (name : Name) → IsSome (node_of next.snapshot name) → Contains next.opened name → IsAccounted next name
  line_opened name there c = let was : IsSome (node_of h.snapshot name) = there_before h next names k name there in
      elim (k.new_opened name c) [
        | inl old ↦ elim (line_accounted name (b.opened name was old)) [ inl still ↦ still | inr own ↦ inl (k.told name own was) ]
        | inr now ↦ now
      ]

  line_edges : (name target : Name) (at : ℕ) → HasStrongField next.snapshot name at (value.Ref target) → IsAccounted next target ⊎
      (Contains (names ++ s.waiting) target ⊎ (HasStrongField next.world name at (value.Ref target) ×
      (Contains s.read (read_place name at) → Contains (names ++ s.waiting) target)))
  line_edges name target at e = elim (b.edges name target at then) [
    | inl a ↦ elim (line_accounted target a) [ inl still ↦ inl still | inr own ↦ inr (inl (here target own)) ]
    | inr (inl c) ↦ inr (inl (later target c))
    | inr (inr p) ↦ elim (k.stays name target at there then p.0) [
      | inl now ↦ inr (inr (now, λ r. later target (p.1 r)))
      | inr a ↦ inl a
    ]
  ]
    where
      then : HasStrongField h.snapshot name at (value.Ref target)
      then = subst (λ (v : World). HasStrongField v name at (value.Ref target)) k.snapshot e

      there : IsSome (node_of h.snapshot target)
      there = target_there h.snapshot is name target (refers h.snapshot name target at then)

  line_marked : (name : Name) → Contains s.marked name → IsSome (node_of next.snapshot name) × IsCovered next name
  line_marked name c = let p : IsSome (node_of h.snapshot name) × IsCovered h name = b.marked name c in
      (there_next h next names k name p.0, covered_next h next names k name p.1)

  line_beside : IsBeside next (waiting_too s names)
  line_beside = record {
    fields = step_fields h next names k b.fields;
    waiting = line_waiting;
    marked = line_marked;
    paid = line_paid;
    opened = line_opened;
    edges = line_edges;
  }

-- a name that waits is marked
mark_beside : (h : FieldCycle) (s : FieldMarker) (name : Name) → IsBeside h s → Contains s.waiting name → IsSome (node_of h.snapshot name) →
    IsBeside h (record s { marked = name ∷ s.marked })
mark_beside h s name b c there = record {
  fields = b.fields;
  waiting = b.waiting;
  marked = λ other m. by_place other (contains_cases name s.marked other m);
  paid = b.paid;
  opened = b.opened;
  edges = b.edges;
}
  where
    here : IsSome (node_of h.snapshot name) × IsCovered h name
    here = (there, b.waiting name c there)

    by_place : (other : Name) → (name ≡ other) ⊎ Contains s.marked other → IsSome (node_of h.snapshot other) × IsCovered h other
    by_place other (inl e) = subst (λ (n : Name). IsSome (node_of h.snapshot n) × IsCovered h n) e here
    by_place other (inr m) = b.marked other m

-- a place of a marked object is read
module _ (h : FieldCycle) (s : FieldMarker) (name : Name) (at : ℕ) (found : List Name) (b : IsBeside h s) (m : Contains s.marked name)
    (finds : (target : Name) → Contains found target ↔ HasStrongField h.world name at (value.Ref target)) where
  kept_waiting : (other : Name) → Contains s.waiting other → Contains (found ++ s.waiting) other
  kept_waiting other c = Contains-append_right found s.waiting other c

  read_waiting : (other : Name) → Contains (found ++ s.waiting) other → IsSome (node_of h.snapshot other) → IsCovered h other
  read_waiting other c there = elim (Contains-append_cases found s.waiting other c) [
    | inl own ↦ elim (b.fields name other at there ((finds other).0 own)) [
      | inl then ↦ reach.field name other (b.marked name m).1 (refers h.snapshot name other at then)
      | inr covered ↦ covered
    ]
    | inr old ↦ b.waiting other old there
  ]

  abbrev this_place : FieldPlace
  this_place = read_place name at

  -- the target of a field that stands is found, if this is the place
  found_here : (other target : Name) (i : ℕ) → this_place ≡ read_place other i → HasStrongField h.world other i (value.Ref target) →
      Contains (found ++ s.waiting) target
  found_here other target i e now = Contains-append_left found s.waiting target ((finds target).1
      (subst (λ (p : FieldPlace). HasStrongField h.world p.name p.at (value.Ref target)) (sym e) now))

  read_edges : (other target : Name) (i : ℕ) → HasStrongField h.snapshot other i (value.Ref target) → IsAccounted h target ⊎
      (Contains (found ++ s.waiting) target ⊎ (HasStrongField h.world other i (value.Ref target) ×
      (Contains (this_place ∷ s.read) (read_place other i) → Contains (found ++ s.waiting) target)))
  read_edges other target i e = elim (b.edges other target i e) [
    | inl a ↦ inl a
    | inr (inl c) ↦ inr (inl (kept_waiting target c))
    | inr (inr p) ↦ inr (inr (
      p.0,
      λ r. elim (contains_cases this_place s.read (read_place other i) r) [
        | inl same ↦ found_here other target i same p.0
        | inr old ↦ kept_waiting target (p.1 old)
      ],
    ))
  ]

  read_beside : IsBeside h (record s { waiting = found ++ s.waiting; read = this_place ∷ s.read })
  read_beside = record {
    fields = b.fields;
    waiting = read_waiting;
    marked = b.marked;
    paid = λ other p. kept_waiting other (b.paid other p);
    opened = b.opened;
    edges = read_edges;
  }

-- the snapshot beside a marker
beside_snapshot : (w : World) (mutators : List ℕ) (roots : List Name) (h : FieldCycle) (s : FieldMarker) → BesideFields w mutators roots h s → h.snapshot ≡ w
beside_snapshot w mutators roots h s field_cycle.start = refl
beside_snapshot w mutators roots h s (field_cycle.line before next t names b k) =
    (line_steps before next names k).snapshot ∙ beside_snapshot w mutators roots before t b
beside_snapshot w mutators roots h s (field_cycle.mark now t name b c there) = beside_snapshot w mutators roots now t b
beside_snapshot w mutators roots h s (field_cycle.read now t name at found b m finds) = beside_snapshot w mutators roots now t b

-- a marker keeps this beside any lines
beside_fields : (w : World) → IsWorld w → (mutators : List ℕ) (roots : List Name) (h : FieldCycle) (s : FieldMarker) → BesideFields w mutators roots h s → IsBeside h s
beside_fields w is mutators roots h s field_cycle.start = record {
  fields = λ name target at there now. inl now;
  waiting = λ name c there. reach.start name (there, inr (inl (inl c)));
  marked = λ name c. absurd (nothing_in name c);
  paid = λ name p. elim p [ inl r ↦ r | inr r ↦ absurd (nothing_in name r) ];
  opened = λ name there c. absurd (nothing_in name c);
  edges = λ name target at e. inr (inr (e, λ r. absurd (nothing_in (read_place name at) r)));
}
beside_fields w is mutators roots h s (field_cycle.line before next t names b k) =
    line_beside before next t names (line_steps before next names k) (subst (λ (v : World). IsWorld v) (sym (beside_snapshot w mutators roots before t b)) is)
    (beside_fields w is mutators roots before t b)
beside_fields w is mutators roots h s (field_cycle.mark now t name b c there) = mark_beside now t name (beside_fields w is mutators roots now t b) c there
beside_fields w is mutators roots h s (field_cycle.read now t name at found b m finds) = read_beside now t name at found (beside_fields w is mutators roots now t b) m finds

-- at an end, each covered name is kept
covered_kept : (h : FieldCycle) → IsFieldEnd h → (name : Name) → IsCovered h name → KeepsName h name
covered_kept h end name (reach.start n (there, c)) = elim c [ inl put ↦ end.held n put | inr given ↦ reach.start n (there, given) ]
covered_kept h end name (reach.field n target r e) = reach.field n target (covered_kept h end n r) e

-- an end without debts: each accounted name is paid
end_paid : (h : FieldCycle) → h.debts ≡ [] → (name : Name) → IsAccounted h name → IsPaid h name
end_paid h none name (inl p) = p
end_paid h none name (inr o) = absurd (nothing_in o.0 (subst (λ (l : List Debt). Contains l o.0) none o.1))

-- a kept name is marked
module _ (h : FieldCycle) (s : FieldMarker) (is : IsWorld h.snapshot) (b : IsBeside h s) (end : IsFieldEnd h) (done : HasReadAll h s) where
  reported_marked : (name : Name) → IsReported h name → Contains s.marked name
  reported_marked name (there, inl p) = done.marked name (b.paid name p) there
  reported_marked name (there, inr o) = done.marked name (b.paid name (end_paid h end.debts name (b.opened name there o))) there

  edge_waits : (name target : Name) (at : ℕ) → Contains s.marked name → HasStrongField h.snapshot name at (value.Ref target) → Contains s.waiting target
  edge_waits name target at m e = elim (b.edges name target at e) [
    | inl a ↦ b.paid target (end_paid h end.debts target a)
    | inr (inl c) ↦ c
    | inr (inr p) ↦ p.1 (done.read name target at m e)
  ]

  kept_marked : (name : Name) → KeepsName h name → Contains s.marked name
  kept_marked name (reach.start n t) = reported_marked n t
  kept_marked name (reach.field n target r e) = let p : (at : ℕ) × HasStrongField h.snapshot n at (value.Ref target) = stands h.snapshot n target e in
      done.marked target (edge_waits n target p.0 (kept_marked n r) p.1) (target_there h.snapshot is n target e)

pub field_theorem : FieldTheorem
field_theorem w is mutators roots h s b end done name =
    let world : IsWorld h.snapshot = subst (λ (v : World). IsWorld v) (sym (beside_snapshot w mutators roots h s b)) is in
    let t : IsBeside h s = beside_fields w is mutators roots h s b in
    (λ m. covered_kept h end name (t.marked name m).1, λ r. kept_marked h s world t end done name r)

-- the names that mutators reach at an end, if they hold only kept names and new names
module _ (h : FieldCycle) (f : AreFieldsCovered h) (end : IsFieldEnd h) (held : List Name)
    (holds : (name : Name) → Contains held name → IsSome (node_of h.snapshot name) → KeepsName h name) where
  reached_kept : (name : Name) → IsReached h.world (λ (root : Name). Contains held root) name → IsSome (node_of h.snapshot name) → KeepsName h name
  reached_kept name (reach.start n c) there = holds n c there
  reached_kept name (reach.field n target r e) there = let p : (at : ℕ) × HasStrongField h.world n at (value.Ref target) = stands h.world n target e in
      elim (f n target p.0 there p.1) [
        | inl then ↦ reach.field n target (reached_kept n r (field_there n target p.0 then)) (refers h.snapshot n target p.0 then)
        | inr covered ↦ covered_kept h end target covered
      ]
    where
      field_there : (a b : Name) (i : ℕ) → HasStrongField h.snapshot a i (value.Ref b) → IsSome (node_of h.snapshot a)
      field_there a b i x = subst (λ (o : Option Node). IsSome o) (sym x.node_is) refl

pub field_safety : FieldSafetyTheorem
field_safety w is mutators roots h watched end held holds name r there =
    reached_kept h (watched_fields w mutators roots h watched) end held holds name r there

-- a command without weak pointers makes the same names due, whether or not registers are known
pub commands_are_changes : CommandsAreChanges
commands_are_changes h m c unscanned same no_opened no_finalised target own = (forward, backward)
  where
    forward : IsDueIn h m c target → IsDueBy (seen h unscanned) m (step h.watch.world m c).0 target
    forward (inl d) = elim d.why [
      | inl broken ↦ record { there = d.there; why = inl broken }
      | inr (inl opened) ↦ absurd (nothing_in target (subst (λ (l : List Name). Contains l target) no_opened opened))
      | inr (inr ended) ↦ absurd (nothing_in ended.weak (subst (λ (l : List Name). Contains l ended.weak) no_finalised ended.ended))
    ]
    forward (inr out) = record {
      there = out.there;
      why = inr (record { unscanned = same.1 out.unscanned; old = record { there = out.there; stored = out.stored } });
    }

    backward : IsDueBy (seen h unscanned) m (step h.watch.world m c).0 target → IsDueIn h m c target
    backward d = elim d.why [
      | inl broken ↦ inl (record { there = d.there; own = own; why = inl broken })
      | inr out ↦ inr (record { unscanned = same.0 out.unscanned; there = d.there; own = own; stored = out.old.stored })
    ]
