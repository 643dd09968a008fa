-- The tie between a cycle with later roots and the state of a marker. With the registers of unscanned mutators hidden, the
-- state has the facts. The names that count as opened were opened or remembered, or are due.
use Rattle.std.proofs.Common.{◌≡◌, ◌<◌, ℕ, List, ◌++◌, zero, suc, length, get_or, set, replicate, refl, sym, ap, subst, ◌∙◌, arith, length-set, inl, inr, ◌⊎◌, Bool, true, false}
use Rattle.std.specs.Prelude.{IsSome, Contains, All, ◌↔◌}
use Rattle.std.proofs.{lemmas.List.get_or-set_other, lemmas.List.Elements.Contains-append_left, lemmas.List.Elements.Contains-append_right, lemmas.List.Elements.Contains-append_cases, lemmas.Bool.cases_eq}
use Rattle.nmgc_world_spec.specs.{declared.value.Name.Name, declared.command.Command.Command, declared.command.Reply.Reply, World.World, World.state_of, World.node_of, World.step, World.shared_name, Known.IsWorld, Known.CanApply, Reach.further, Reach.opened_by, Reach.finalised_by, Reach.name_in}
use Rattle.nmgc_world_spec.specs.declared.value.Value.TheVariants as value
use Rattle.nmgc_lists.specs.laws.Items.{contains_one, nothing_in, contains_flat}
use Rattle.nmgc_world_laws.specs.{Holds.Names, laws.WorldSteps.step_keeps_world}
use Rattle.nmgc_snapshot_laws.specs.{State.State, State.names_of, State.oldest_first, State.opening, State.unmarked, State.root_values, Machine.after_command, Facts.MayHold, Facts.IsSafe, Facts.Facts, Facts.owed, Facts.pushed, Facts.marked, laws.Listed.names_same, laws.Listed.names_other, laws.Listed.all_from_contains, laws.Lives.live_more, laws.Openings.opening_facts, laws.Openings.no_names}
use Rattle.nmgc_barrier_laws.specs.{declared.debt.Debt.Debt, Due.IsDue, Stored.IsStored, Cycle.Cycle, Cycle.Owes, Barrier.names_in, Barrier.IsOnItsWay, laws.Tied.listed_debt, laws.Tied.debt_listed, laws.Tied.all_names, laws.TiedPush.MarksOn, laws.TiedPush.opening_marks, laws.Veil.hidden_none, laws.HybridCommand.veiled, laws.HybridCommand.unseen_facts, laws.HybridCommands.seen_facts, laws.HybridCommands.due_may, laws.HybridFacts.hidden_world, laws.HybridFacts.widened_facts, laws.HybridFacts.shown_facts}
use Rattle.nmgc_barrier_laws.specs.Hybrid.{Hybrid, hidden, bare, is_scanned, beginning, scanned_at_once, IsHandedOut, IsDueIn, IsWatchedIn, held_names, IsScanned, opening_in, after_owing_in, after_scanning}

-- the mutators that are shown: those that are scanned
abbrev pub shown_in : Hybrid → ℕ → Bool
shown_in h k = is_scanned h k

-- a name that was opened or remembered, or is due
abbrev pub IsIn : Cycle → Name → Type 0
IsIn h name = Contains h.opened name ⊎ (Contains h.remembered name ⊎ Owes h name)

pub record IsTiedIn (h : Hybrid) (s : State) : Type 0 where
  pub facts : Facts (veiled (shown_in h) s)
  pub closed : IsWorld s.world
  pub is_open : s.is_closed ≡ false
  pub world : s.world ≡ h.watch.world
  pub snapshot : s.snapshot ≡ h.watch.snapshot
  pub finalised : s.finalised ≡ h.watch.finalised
  pub opened : (name : Name) → IsSome (node_of s.snapshot name) → Contains s.opened name ↔ IsIn h.watch name
  pub remembered : (name : Name) → Contains h.watch.remembered name → IsSome (node_of s.snapshot name) → IsOnItsWay s name
  pub only : (m : ℕ) (name : Name) → Contains (names_of s.owed m) name → Owes h.watch name

on_its_way : (s : State) (name : Name) → IsOnItsWay s name → IsSafe s name
on_its_way s name (inl c) = marked c
on_its_way s name (inr (m, c)) = pushed m c

-- a command that is watched
module _ (h next : Hybrid) (s : State) (t : IsTiedIn h s) (line m : ℕ) (c : Command) (answer : Reply) (w : IsWatchedIn h line m c answer next) where
  abbrev names : List Name
  names = names_in next.watch.debts

  abbrev pub after : State
  after = after_owing_in s m c names

  can : CanApply s.world m c
  can = subst (λ (v : World). CanApply v m c) (sym t.world) w.can

  place : m < length s.owed
  place = let e : length s.owed ≡ length (hidden (shown_in h) s.world).mutators = t.facts.base.owed_lists in
      let g : length (hidden (shown_in h) s.world).mutators ≡ length s.world.mutators =
      Rattle.nmgc_barrier_laws.specs.laws.Veil.hide_length (shown_in h) s.world.mutators in
      let l : m < length s.world.mutators = can.mutator in omega arith

  due_here : (target : Name) → IsDue s.snapshot s.world m c target → IsDue h.watch.snapshot h.watch.world m c target
  due_here target d = subst (λ (v : World). IsDue v h.watch.world m c target) t.snapshot (subst (λ (v : World). IsDue s.snapshot v m c target) t.world d)

  due_there : (target : Name) → IsDue h.watch.snapshot h.watch.world m c target → IsDue s.snapshot s.world m c target
  due_there target d = subst (λ (v : World). IsDue v s.world m c target) (sym t.snapshot) (subst (λ (v : World).
      IsDue h.watch.snapshot v m c target) (sym t.world) d)

  owes_name : (target : Name) → (o : Owes next.watch target) → Contains names target
  owes_name target o = subst (λ (n : Name). Contains names n) o.2 (listed_debt next.watch.debts o.0 o.1)

  in_owed : (target : Name) → Contains names target → Contains (names_of after.owed m) target
  in_owed target k = rw (names_same s.owed m (names_of s.owed m ++ names) place) (Contains-append_right (names_of s.owed m) names target k)

  in_opened : (target : Name) → Contains names target → Contains after.opened target
  in_opened target k = Contains-append_right s.opened (opened_by s.world m c ++ names) target (Contains-append_right (opened_by s.world m c) names target k)

  -- a name that is due was remembered, or is among the debts
  due_is : (target : Name) → IsDueIn h m c target → Contains h.watch.remembered target ⊎ Contains names target
  due_is target d = elim (w.due target d) [ inl r ↦ inl r | inr o ↦ inr (owes_name target (o.0, o.1, o.2)) ]

  due_safe : (target : Name) → IsDue s.snapshot s.world m c target → IsSafe after target
  due_safe target d = elim (due_is target (inl (due_here target d))) [
    | inl r ↦ elim (t.remembered target r d.there) [ inl k ↦ marked k | inr k ↦ pushed k.0 k.1 ]
    | inr k ↦ owed m (in_owed target k)
  ]

  was_opened : (target : Name) → IsSome (node_of s.snapshot target) → Contains h.watch.remembered target → Contains after.opened target
  was_opened target there r = Contains-append_left s.opened (opened_by s.world m c ++ names) target ((t.opened target there).1 (inr (inl r)))

  handed_opened : (target : Name) → IsSome (node_of s.snapshot target) → IsHandedOut h m c target → Contains after.opened target
  handed_opened target there d = elim (due_is target (inr d)) [ inl r ↦ was_opened target there r | inr k ↦ in_opened target k ]

  floats : shown_in h m ≡ false → (target : Name) → IsSome (node_of s.snapshot target) → (target ≡ shared_name → ⊥) →
      IsStored s.world (step s.world m c).0 target → MayHold after target
  floats unseen target there ne k = λ there'. further target (handed_opened target there (record {
    unscanned = unseen;
    there = subst (λ (v : World). IsSome (node_of v target)) t.snapshot there;
    own = ne;
    stored = subst (λ (v : World). IsStored v (step v m c).0 target) t.world k;
  })) there'

  debt_may : shown_in h m ≡ true → (debt : Debt) → Contains next.watch.debts debt → MayHold (after_command s m c) debt.name
  debt_may seen debt k = elim (w.new debt k) [
    | inl old ↦ λ there. live_more s.snapshot s.opened (opened_by s.world m c) debt.name
        (further debt.name ((t.opened debt.name there).1 (inr (inr (debt, old, refl)))) there)
    | inr d ↦ elim d.2 [
      | inl is ↦ due_may (shown_in h) s t.facts t.closed m c can seen debt.name (due_there debt.name is)
      | inr out ↦ let bad : true ≡ false = sym seen ∙ out.unscanned in absurd cc
    ]
  ]

  given : shown_in h m ≡ true → All (MayHold (after_command s m c)) names
  given seen = all_names (MayHold (after_command s m c)) names (λ name k.
      let p : (debt : Debt) × Contains next.watch.debts debt × (debt.name ≡ name) = debt_listed next.watch.debts name k in
      subst (MayHold (after_command s m c)) p.2 (debt_may seen p.0 p.1))

  after_facts : Facts (veiled (shown_in h) after)
  after_facts = by_flag (shown_in h m) refl
    where
      by_flag : (b : Bool) → shown_in h m ≡ b → Facts (veiled (shown_in h) after)
      by_flag true seen = seen_facts (shown_in h) s t.facts t.closed m c can seen names (given seen) due_safe
      by_flag false unseen = unseen_facts (shown_in h) s t.facts t.closed m c can unseen names due_safe (floats unseen)

  next_remembered : next.watch.remembered ≡ h.watch.remembered
  next_remembered = ap (λ (x : Hybrid). x.watch.remembered) w.rest

  next_scanned : next.scanned ≡ h.scanned
  next_scanned = ap (λ (x : Hybrid). x.scanned) w.rest

  opened_on : (name : Name) → IsSome (node_of s.snapshot name) → Contains after.opened name → IsIn next.watch name
  opened_on name there k = elim (Contains-append_cases s.opened (opened_by s.world m c ++ names) name k) [
    | inl old ↦ elim ((t.opened name there).0 old) [
      | inl a ↦ inl ((w.opened name).1 (inl a))
      | inr (inl b) ↦ inr (inl (rw next_remembered b))
      | inr (inr o) ↦ inr (inr (o.0, w.old o.0 o.1, o.2))
    ]
    | inr new ↦ elim (Contains-append_cases (opened_by s.world m c) names name new) [
      | inl by ↦ inl ((w.opened name).1 (inr (inl (
        subst (λ (v : World). Contains (opened_by v m c) name) t.world by,
        subst (λ (v : World). IsSome (node_of v name)) t.snapshot there,
      ))))
      | inr d ↦ inr (inr (debt_listed next.watch.debts name d))
    ]
  ]

  opened_back : (name : Name) → IsSome (node_of s.snapshot name) → IsIn next.watch name → Contains after.opened name
  opened_back name there (inl a) = elim ((w.opened name).0 a) [
    | inl old ↦ Contains-append_left s.opened (opened_by s.world m c ++ names) name ((t.opened name there).1 (inl old))
    | inr (inl by) ↦ Contains-append_right s.opened (opened_by s.world m c ++ names) name (Contains-append_left (opened_by s.world m c) names name
        (subst (λ (v : World). Contains (opened_by v m c) name) (sym t.world) by.0))
    | inr (inr out) ↦ handed_opened name there out
  ]
  opened_back name there (inr (inl r)) = was_opened name there (rw next_remembered at r)
  opened_back name there (inr (inr o)) = in_opened name (owes_name name o)

  pub command_tied : IsTiedIn next after
  command_tied = record {
    facts = subst (λ (l : List Bool). Facts (veiled (λ k. get_or l k false) after)) (sym next_scanned) after_facts;
    closed = step_keeps_world s.world m c t.closed can;
    is_open = t.is_open;
    world = subst (λ (v : World). (step s.world m c).0 ≡ (step v m c).0) t.world refl ∙ sym (ap (λ (x : Hybrid). x.watch.world) w.rest);
    snapshot = t.snapshot ∙ sym (ap (λ (x : Hybrid). x.watch.snapshot) w.rest);
    finalised = subst (λ (v : World). s.finalised ++ finalised_by s.world m c ≡ h.watch.finalised ++
        finalised_by v m c) t.world (ap (λ (l : List Name). l ++ finalised_by s.world m c) t.finalised) ∙ sym (ap (λ (x : Hybrid). x.watch.finalised) w.rest);
    opened = λ name there. (λ k. opened_on name there k, λ k. opened_back name there k);
    remembered = λ name r there. t.remembered name (rw next_remembered at r) there;
    only = λ k name c'. elim (cases_eq k m) [
      | inl e ↦ elim (Contains-append_cases (names_of s.owed m) names name (rw (names_same s.owed m (names_of s.owed m ++
          names) place) at (subst (λ (j : ℕ). Contains (names_of (set s.owed m (names_of s.owed m ++ names)) j) name) e c'))) [
            | inl old ↦ let o : Owes h.watch name = t.only m name old in (o.0, w.old o.0 o.1, o.2)
            | inr new ↦ debt_listed next.watch.debts name new
          ]
      | inr ne ↦ let o : Owes h.watch name = t.only k name (rw (names_other s.owed m k (names_of s.owed m ++ names) ne) at c') in (o.0, w.old o.0 o.1, o.2)
    ];
  }

-- a scan of a mutator's registers
module _ (h next : Hybrid) (s : State) (t : IsTiedIn h s) (m : ℕ) (w : IsScanned h m next) (place : m < length s.pushed) where
  abbrev held : List Name
  held = held_names h.watch.world m

  abbrev pub scanned : State
  scanned = after_scanning s m held

  own_pushed : (n : Name) → Contains held n → Contains (names_of scanned.pushed m) n
  own_pushed n k = rw (names_same s.pushed m (names_of s.pushed m ++ held) place) (Contains-append_right (names_of s.pushed m) held n k)

  more_pushed : (k : ℕ) (n : Name) → Contains (names_of s.pushed k) n → Contains (names_of scanned.pushed k) n
  more_pushed k n c = elim (cases_eq k m) [
    | inl e ↦ rw (e, names_same s.pushed m (names_of s.pushed m ++ held) place) (Contains-append_left (names_of s.pushed m) held n (rw e at c))
    | inr ne ↦ rw (names_other s.pushed m k (names_of s.pushed m ++ held) ne) c
  ]

  old_pushed : (k : ℕ) (n : Name) → Contains (names_of scanned.pushed k) n → Contains (names_of s.pushed k) n ⊎ Contains held n
  old_pushed k n c = elim (cases_eq k m) [
    | inl e ↦ elim (Contains-append_cases (names_of s.pushed m) held n (rw (names_same s.pushed m (names_of s.pushed m ++ held) place) at
        (subst (λ (j : ℕ). Contains (names_of (set s.pushed m (names_of s.pushed m ++ held)) j) n) e c))) [
          | inl old ↦ inl (subst (λ (j : ℕ). Contains (names_of s.pushed j) n) (sym e) old)
          | inr new ↦ inr new
        ]
    | inr ne ↦ inl (rw (names_other s.pushed m k (names_of s.pushed m ++ held) ne) at c)
  ]

  wide_facts : Facts (veiled (shown_in h) scanned)
  wide_facts = widened_facts (veiled (shown_in h) s) t.facts held (set s.pushed m (names_of s.pushed m ++ held)) (length-set s.pushed m _)
      more_pushed old_pushed (λ n k there. pushed m (own_pushed n k))

  held_may : (n : Name) → Contains held n → MayHold scanned n
  held_may n k there = further n (Contains-append_right s.opened held n k) there

  next_scanned' : next.scanned ≡ set h.scanned m true
  next_scanned' = ap (λ (x : Hybrid). x.scanned) w.rest

  -- the names in registers that are shown now may be held
  shown_hold : (k : ℕ) → get_or (set h.scanned m true) k false ≡ true → All (Names (MayHold scanned)) (state_of s.world k).registers
  shown_hold k is = elim (cases_eq k m) [
    | inl e ↦ all_from_contains (MayHold scanned) (state_of s.world k).registers (λ n c. held_may n
        (contains_flat name_in (state_of h.watch.world m).registers (value.Ref n) n (subst (λ (v : World). Contains (state_of v m).registers (value.Ref n))
        t.world (subst (λ (j : ℕ). Contains (state_of s.world j).registers (value.Ref n)) e c)) (contains_one n)))
    | inr ne ↦ Rattle.nmgc_barrier_laws.specs.laws.Veil.shown_names (MayHold scanned) (shown_in h) s.world k
        (sym (get_or-set_other h.scanned m k true false ne) ∙ is) (wide_facts.base.holds.registers k)
  ]

  scan_opened : next.watch.remembered ≡ h.watch.remembered
  scan_opened = ap (λ (x : Hybrid). x.watch.remembered) w.rest

  scan_debts : next.watch.debts ≡ h.watch.debts
  scan_debts = ap (λ (x : Hybrid). x.watch.debts) w.rest

  owes_on : (n : Name) → Owes h.watch n → Owes next.watch n
  owes_on n o = (o.0, subst (λ (l : List Debt). Contains l o.0) (sym scan_debts) o.1, o.2)

  owes_back : (n : Name) → Owes next.watch n → Owes h.watch n
  owes_back n o = (o.0, subst (λ (l : List Debt). Contains l o.0) scan_debts o.1, o.2)

  scan_on : (n : Name) → IsSome (node_of s.snapshot n) → Contains scanned.opened n → IsIn next.watch n
  scan_on n there k = elim (Contains-append_cases s.opened held n k) [
    | inl old ↦ elim ((t.opened n there).0 old) [
      | inl a ↦ inl ((w.opened n).1 (inl a))
      | inr (inl b) ↦ inr (inl (rw scan_opened b))
      | inr (inr o) ↦ inr (inr (owes_on n o))
    ]
    | inr new ↦ inl ((w.opened n).1 (inr (new, subst (λ (v : World). IsSome (node_of v n)) t.snapshot there)))
  ]

  scan_back : (n : Name) → IsSome (node_of s.snapshot n) → IsIn next.watch n → Contains scanned.opened n
  scan_back n there (inl a) = elim ((w.opened n).0 a) [
    | inl old ↦ Contains-append_left s.opened held n ((t.opened n there).1 (inl old))
    | inr new ↦ Contains-append_right s.opened held n new.0
  ]
  scan_back n there (inr (inl r)) = Contains-append_left s.opened held n ((t.opened n there).1 (inr (inl (rw scan_opened at r))))
  scan_back n there (inr (inr o)) = Contains-append_left s.opened held n ((t.opened n there).1 (inr (inr (owes_back n o))))

  pub scanned_tied : IsTiedIn next scanned
  scanned_tied = record {
    facts = subst (λ (l : List Bool). Facts (veiled (λ k. get_or l k false) scanned)) (sym next_scanned')
        (shown_facts scanned (shown_in h) (λ k. get_or (set h.scanned m true) k false) wide_facts shown_hold);
    closed = t.closed;
    is_open = t.is_open;
    world = t.world ∙ sym (ap (λ (x : Hybrid). x.watch.world) w.rest);
    snapshot = t.snapshot ∙ sym (ap (λ (x : Hybrid). x.watch.snapshot) w.rest);
    finalised = t.finalised ∙ sym (ap (λ (x : Hybrid). x.watch.finalised) w.rest);
    opened = λ n there. (λ k. scan_on n there k, λ k. scan_back n there k);
    remembered = λ n r there. elim (t.remembered n (rw scan_opened at r) there) [ inl c ↦ inl c | inr k ↦ inr (k.0, more_pushed k.0 n k.1) ];
    only = λ k n c. owes_on n (t.only k n c);
  }

all_false : (n j : ℕ) → get_or (replicate n false) j false ≡ false
all_false zero j = refl
all_false (suc n) zero = refl
all_false (suc n) (suc j) = all_false n j

-- the cycle begins
pub begin_tied : (w : World) → IsWorld w → IsTiedIn (beginning w) (opening_in w)
begin_tied w is =
    let k : MarksOn (unmarked oldest_first (bare w)) (opening (bare w)) = opening_marks (unmarked oldest_first (bare w)) (root_values (bare w)) in
    let f : Facts (record (opening (bare w)) { world = bare w }) =
    subst (λ (v : World). Facts (record (opening (bare w)) { world = v })) k.world (opening_facts oldest_first (bare w) (hidden_world (λ j. false) w is)) in
    record {
      facts = shown_facts (opening_in w) (λ j. false) (shown_in (beginning w)) f (λ j seen.
          let bad : true ≡ false = sym seen ∙ all_false (length w.mutators) j in absurd cc);
      closed = is;
      is_open = k.is_closed;
      world = refl;
      snapshot = k.snapshot;
      finalised = k.finalised;
      opened = λ n there. (
        λ c. absurd (nothing_in n (rw k.opened at c)),
        λ c. elim c [ inl a ↦ absurd (nothing_in n a) | inr (inl b) ↦ absurd (nothing_in n b) | inr (inr o) ↦ absurd (nothing_in o.0 o.1) ],
      );
      remembered = λ n r there. absurd (nothing_in n r);
      only = λ m n c. absurd (nothing_in n (subst (λ (l : List Name). Contains l n) (no_names (length (bare w).mutators) m) (rw k.owed at c)));
    }

-- the cycle begins with all mutators scanned
pub begin_at_once_tied : (w : World) → IsWorld w → IsTiedIn (scanned_at_once w) (opening w)
begin_at_once_tied w is =
    let k : MarksOn (unmarked oldest_first w) (opening w) = opening_marks (unmarked oldest_first w) (root_values w) in
    let f : Facts (opening w) = opening_facts oldest_first w is in
    let all : Facts (veiled (λ j. true) (opening w)) =
    subst (λ (v : World). Facts (record (opening w) { world = v })) (sym (hidden_none (opening w).world)) f in
    record {
      facts = shown_facts (opening w) (λ j. true) (shown_in (scanned_at_once w)) all (λ j seen. f.base.holds.registers j);
      closed = subst IsWorld (sym k.world) is;
      is_open = k.is_closed;
      world = k.world;
      snapshot = k.snapshot;
      finalised = k.finalised;
      opened = λ n there. (
        λ c. absurd (nothing_in n (rw k.opened at c)),
        λ c. elim c [ inl a ↦ absurd (nothing_in n a) | inr (inl b) ↦ absurd (nothing_in n b) | inr (inr o) ↦ absurd (nothing_in o.0 o.1) ],
      );
      remembered = λ n r there. absurd (nothing_in n r);
      only = λ m n c. absurd (nothing_in n (subst (λ (l : List Name). Contains l n) (no_names (length w.mutators) m) (rw k.owed at c)));
    }
