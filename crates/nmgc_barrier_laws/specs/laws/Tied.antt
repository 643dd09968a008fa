-- The tie between a watch and the state of a marker. The remembered names are on their way to be marked, and the state owes
-- exactly the names that are due by the watch. Each event keeps the tie, so a watch that ends without debts has an exact end.
use Rattle.std.proofs.{Common.◌≡◌, Common.◌<◌, Common.ℕ, Common.List, Common.[], Common.◌∷◌, Common.◌++◌, Common.length, Common.get_or, Common.set, Common.refl, Common.sym, Common.ap, Common.subst, Common.◌∙◌, Common.arith, Common.inl, Common.inr, Common.◌⊎◌, Common.false, lemmas.List.Elements.Contains-append_left, lemmas.List.Elements.Contains-append_right, lemmas.List.Elements.Contains-append_cases, lemmas.List.Elements.Contains-get_or, lemmas.Bool.cases_eq}
use Rattle.std.specs.Prelude.{IsSome, Contains, All, ◌↔◌}
use Rattle.nmgc_world_spec.specs.{declared.value.Name.Name, declared.command.Command.Command, declared.command.Reply.Reply, World.World, World.node_of, World.step, Known.IsWorld, Reach.opened_by, Reach.finalised_by, Reach.owed_by}
use Rattle.nmgc_lists.specs.laws.Items.{contains_cases, contains_head, contains_tail, nothing_in}
use Rattle.nmgc_world_laws.specs.laws.WorldSteps.{step_keeps_world}
use Rattle.nmgc_snapshot_laws.specs.{State.State, State.names_of, Machine.after_command, Facts.MayHold, Facts.IsSafe, Facts.Facts, Facts.owed, Facts.pushed, Facts.marked, laws.Listed.names_same, laws.Listed.names_other, laws.Lives.live_more}
use Rattle.nmgc_barrier_laws.specs.{Due.IsDue, Barrier.names_in, Barrier.IsOnItsWay, Lax.after_owing, declared.debt.Debt.Debt, Cycle.Cycle, Cycle.Owes, Cycle.IsWatched, laws.Given.given_facts, laws.Given.owes_may, laws.Given.due_owed}

pub listed_debt : (debts : List Debt) (debt : Debt) → Contains debts debt → Contains (names_in debts) debt.name
listed_debt [] debt c = absurd (nothing_in debt c)
listed_debt (d ∷ debts) debt c = elim (contains_cases d debts debt c) [
  | inl e ↦ subst (λ (x : Debt). Contains (d.name ∷ names_in debts) x.name) e (contains_head d.name (names_in debts))
  | inr r ↦ contains_tail d.name (names_in debts) debt.name (listed_debt debts debt r)
]

pub debt_listed : (debts : List Debt) (name : Name) → Contains (names_in debts) name → (debt : Debt) × Contains debts debt × (debt.name ≡ name)
debt_listed [] name c = absurd (nothing_in name c)
debt_listed (d ∷ debts) name c = elim (contains_cases d.name (names_in debts) name c) [
  | inl e ↦ (d, contains_head d debts, e)
  | inr r ↦ let p : (debt : Debt) × Contains debts debt × (debt.name ≡ name) = debt_listed debts name r in (p.0, contains_tail d debts p.0 p.1, p.2)
]

pub all_names : (P : Name → Type 0) (names : List Name) → ((name : Name) → Contains names name → P name) → All P names
all_names P names h k d lt = h (get_or names k d) (Contains-get_or names k d lt)

pub record IsTied (h : Cycle) (s : State) : Type 0 where
  pub facts : Facts s
  pub closed : IsWorld s.world
  pub is_open : s.is_closed ≡ false
  pub world : s.world ≡ h.world
  pub snapshot : s.snapshot ≡ h.snapshot
  pub finalised : s.finalised ≡ h.finalised
  pub opened : (name : Name) → IsSome (node_of s.snapshot name) → Contains s.opened name ↔ (Contains h.opened name ⊎ Contains h.remembered name)
  pub remembered : (name : Name) → Contains h.remembered name → IsSome (node_of s.snapshot name) → IsOnItsWay s name
  pub only : (m : ℕ) (name : Name) → Contains (names_of s.owed m) name → Owes h name
  pub held : (debt : Debt) → Contains h.debts debt → MayHold s debt.name

-- a command that is watched
module _ (h next : Cycle) (s : State) (t : IsTied h s) (line m : ℕ) (c : Command) (answer : Reply) (w : IsWatched h line m c answer next) where
  abbrev names : List Name
  names = names_in next.debts

  lt : m < length s.world.mutators
  lt = subst (λ (v : World). m < length v.mutators) (sym t.world) w.can.mutator

  place : m < length s.owed
  place = let e : length s.owed ≡ length s.world.mutators = t.facts.base.owed_lists in let l = lt in omega arith

  due_here : (target : Name) → IsDue s.snapshot s.world m c target → IsDue h.snapshot h.world m c target
  due_here target d = subst (λ (v : World). IsDue v h.world m c target) t.snapshot (subst (λ (v : World). IsDue s.snapshot v m c target) t.world d)

  due_there : (target : Name) → IsDue h.snapshot h.world m c target → IsDue s.snapshot s.world m c target
  due_there target d = subst (λ (v : World). IsDue v s.world m c target) (sym t.snapshot) (subst (λ (v : World). IsDue h.snapshot v m c target) (sym t.world) d)

  owed_may : (name : Name) → Contains (owed_by s.world m c) name → MayHold (after_owing s m c names) name
  owed_may name k = Rattle.std.proofs.lemmas.List.Elements.All-contains (MayHold (after_command s m c)) (owed_by s.world m c) name
      (owes_may s t.facts t.closed m c lt) k

  debt_may : (debt : Debt) → Contains next.debts debt → MayHold (after_owing s m c names) debt.name
  debt_may debt k = elim (w.new debt k) [
    | inl old ↦ λ there. live_more s.snapshot s.opened (opened_by s.world m c) debt.name (t.held debt old there)
    | inr d ↦ owed_may debt.name (due_owed s t.facts t.closed m c lt debt.name (due_there debt.name d.2))
  ]

  names_may : All (MayHold (after_owing s m c names)) names
  names_may = all_names (MayHold (after_owing s m c names)) names (λ name k.
      let p : (debt : Debt) × Contains next.debts debt × (debt.name ≡ name) = debt_listed next.debts name k in
      subst (MayHold (after_owing s m c names)) p.2 (debt_may p.0 p.1))

  due_safe : (target : Name) → IsDue s.snapshot s.world m c target → IsSafe (after_owing s m c names) target
  due_safe target d = elim (w.due target (due_here target d)) [
    | inl r ↦ elim (t.remembered target r d.there) [ inl k ↦ marked k | inr k ↦ pushed k.0 k.1 ]
    | inr o ↦ owed m (rw (names_same s.owed m (names_of s.owed m ++
        names) place) (Contains-append_right (names_of s.owed m) names target (subst (λ (n : Name). Contains names n) o.2 (listed_debt next.debts o.0 o.1))))
  ]

  pub command_facts_on : Facts (after_owing s m c names)
  command_facts_on = given_facts s t.facts t.closed m c lt names names_may due_safe

  pub tied_command : IsTied next (after_owing s m c names)
  tied_command = record {
    facts = command_facts_on;
    closed = step_keeps_world s.world m c t.closed (subst (λ (v : World). Rattle.nmgc_world_spec.specs.Known.CanApply v m c) (sym t.world) w.can);
    is_open = t.is_open;
    world = subst (λ (v : World). (step s.world m c).0 ≡ (step v m c).0) t.world refl ∙ sym (ap (λ (x : Cycle). x.world) w.rest);
    snapshot = t.snapshot ∙ sym (ap (λ (x : Cycle). x.snapshot) w.rest);
    finalised = subst (λ (v : World). s.finalised ++ finalised_by s.world m c ≡ h.finalised ++
        finalised_by v m c) t.world (ap (λ (l : List Name). l ++ finalised_by s.world m c) t.finalised) ∙ sym (ap (λ (x : Cycle). x.finalised) w.rest);
    opened = λ name there. (
      λ k. elim (Contains-append_cases s.opened (opened_by s.world m c) name k) [
        | inl old ↦ elim ((t.opened name there).0 old) [ inl a ↦ inl ((w.opened name).1 (inl a)) | inr b ↦ inr (next_remembered name b) ]
        | inr new ↦ inl ((w.opened name).1 (inr (
          subst (λ (v : World). Contains (opened_by v m c) name) t.world new,
          subst (λ (v : World). IsSome (node_of v name)) t.snapshot there,
        )))
      ],
      λ k. elim k [
        | inl a ↦ elim ((w.opened name).0 a) [
          | inl old ↦ Contains-append_left s.opened (opened_by s.world m c) name ((t.opened name there).1 (inl old))
          | inr new ↦ Contains-append_right s.opened (opened_by s.world m c) name (subst (λ (v : World). Contains (opened_by v m c) name) (sym t.world) new.0)
        ]
        | inr b ↦ Contains-append_left s.opened (opened_by s.world m c) name ((t.opened name there).1 (inr (was_remembered name b)))
      ],
    );
    remembered = λ name r there. t.remembered name (was_remembered name r) there;
    only = λ k name c'. elim (cases_eq k m) [
      | inl e ↦ elim (Contains-append_cases (names_of s.owed m) names name (rw (names_same s.owed m (names_of s.owed m ++
          names) place) at (subst (λ (j : ℕ). Contains (names_of (set s.owed m (names_of s.owed m ++ names)) j) name) e c'))) [
            | inl old ↦ let o : Owes h name = t.only m name old in (o.0, w.old o.0 o.1, o.2)
            | inr new ↦ debt_listed next.debts name new
          ]
      | inr ne ↦ let o : Owes h name = t.only k name (rw (names_other s.owed m k (names_of s.owed m ++ names) ne) at c') in (o.0, w.old o.0 o.1, o.2)
    ];
    held = debt_may;
  }
    where
      next_remembered : (name : Name) → Contains h.remembered name → Contains next.remembered name
      next_remembered name k = subst (λ (l : List Name). Contains l name) (sym (ap (λ (x : Cycle). x.remembered) w.rest)) k

      was_remembered : (name : Name) → Contains next.remembered name → Contains h.remembered name
      was_remembered name k = subst (λ (l : List Name). Contains l name) (ap (λ (x : Cycle). x.remembered) w.rest) k
