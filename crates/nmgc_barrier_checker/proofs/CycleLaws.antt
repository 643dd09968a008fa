-- The facts of a cycle that a command, a push and a take keep.
use Rattle.nmgc_barrier_checker.proofs.Vocabulary.{◌≡◌, ◌≢◌, ◌<◌, ℕ, List, [], ◌∷◌, ◌++◌, length, get_or, refl, sym, ap, subst, ◌∙◌, Option, Some, None, Bool, true, false, not, inl, inr, Bor, All, Contains, IsSome, is_some, is_none, option_copied, filter, ◌↔◌, and_cases, and_parts, not-false, Contains-append_left, Contains-append_right, SHARED_MAKER, Name, Value, Command, World, node_of, state_of, IsWorld, is_same_name, CanApply, step, shared_name, IsAlive, opened_by, finalised_by, mark_of, IsMarked, not_shared, Names, step_alive, tested_same, is_same_name-refl, Debt, Cycle, watching, IsPushed, IsTook, Accounts, NameSet, Field, stands_in, IsStanding, kept_then, targets, is_unpaid, unpaid, all_debts, AreAccounts, AreNew, IsOwing, IsListed, Joins, joined, IsCycle, IsTaken, IsUntakenIn, IsUntakenIf, IsUntakenName, is_untaken, and_from, copied_is_some, Contains-append_cases, filter_contains, contains_filter, replicate, map, MutatorState}
use Rattle.nmgc_world_spec.specs.declared.value.Value.TheVariants as value
use Rattle.nmgc_lists.specs.laws.Items.{nothing_in}
use Rattle.nmgc_world_spec.specs.Reach.{Counts}
use Rattle.std.proofs.lemmas.List.{length-map}
use Rattle.nmgc_graph.specs.{Bare.cleared, Bare.without_registers, laws.Bare.bare_node}
use Rattle.nmgc_snapshot_laws.specs.Machine.{is_pushed_in}
use Rattle.nmgc_barrier_laws.specs.Hybrid.{Hybrid, hide, bare, IsDueIn}
use Rattle.nmgc_barrier_checker.specs.{Dues.IsComing, Cycles.IsSnapshotOf, Cycles.with_scans}
use Rattle.nmgc_barrier_checker.proofs.{Filters.kept_in, Filters.in_kept, AccountLaws.StandsIn, AccountLaws.stands, AccountLaws.new_debts, DueLaws.found_due, DueLaws.due_found, DueLaws.is_owable_by, Handed.handed, Handed.found_handed, Handed.handed_found, ListedLaws.listed_there, ListedLaws.joined_is, ListedLaws.joined_names, ListedLaws.joined_keeps, ListedLaws.joined_marks, ListedLaws.joined_marked}

pub not_both : (b : Bool) → b ≡ true → not b ≡ true → ⊥
not_both true e f = cc
not_both false e f = cc

pub not_so : (b : Bool) → (b ≡ true → ⊥) → not b ≡ true
not_so true never = absurd (never refl)
not_so false never = refl

-- a cycle as contracts see it
abbrev pub seen : World → World → NameSet → Accounts → NameSet → NameSet → List Name → Cycle
seen w s remembered accounts opened taken finalised = record {
  world = w;
  snapshot = s;
  remembered = remembered.names;
  debts = unpaid remembered.set (all_debts accounts.debts);
  opened = opened.names;
  taken = taken.names;
  finalised = finalised;
}

-- at the beginning
pub new_seen : (w v s : World) (remembered opened taken : NameSet) (accounts : Accounts) (finalised : List Name) → v ≡ w →
    remembered.names ≡ [] → opened.names ≡ [] → taken.names ≡ [] → finalised ≡ [] → AreNew s accounts →
    seen v s remembered accounts opened taken finalised ≡ record (watching w) { snapshot = s }
new_seen w v s remembered opened taken accounts finalised a r o t f n = rw (a, r, o, t, f, new_debts s remembered.set accounts n) refl

new_accounts : (marks : List (List Bool)) (s : World) (a : Accounts) → AreNew s a → AreAccounts marks s a
new_accounts marks s a n = record {
  sets = n.sets ∙ sym n.count;
  places = λ m lt. n.places m (subst (λ (k : ℕ). m < k) n.count lt);
  own = λ m d c. absurd (nothing_in d (subst (λ (l : List Debt). Contains l d) (n.queues m) c));
  there = λ m d c. absurd (nothing_in d (subst (λ (l : List Debt). Contains l d) (n.queues m) c));
  newest = λ m d c. absurd (nothing_in d (subst (λ (l : List Debt). Contains l d) (n.queues m) c));
  owes = λ m name c. absurd (let bad : false ≡ true = sym (n.free m name) ∙ c in cc);
}

pub new_cycle : (w s : World) (remembered opened taken : NameSet) (accounts : Accounts) (finalised : List Name) → IsSnapshotOf w s → IsWorld w → IsWorld s →
    IsListed s remembered → IsListed s opened → IsListed s taken → AreNew s accounts → IsCycle w s remembered accounts opened taken finalised
new_cycle w s remembered opened taken accounts finalised h is_w is_s r o t n = record {
  remembered = r;
  opened = o;
  taken = t;
  accounts = new_accounts remembered.set s accounts n;
  count = n.count ∙ h.count;
  alive = λ weak parts a not. sym (h.nodes weak) ∙ a;
  snapshot = is_s;
  world = is_w;
}

-- the world without registers is a snapshot of the world
nils : (values : List Value) → replicate (length values) value.Nil ≡ map (λ (v : Value). value.Nil) values
nils [] = refl
nils (v ∷ values) = ap (λ (l : List Value). value.Nil ∷ l) (nils values)

bare_states : (states : List MutatorState) → map cleared states ≡ hide (λ k. false) states
bare_states [] = refl
bare_states (state ∷ states) = rw (nils state.registers, bare_states states) refl

pub is_bare : (w : World) → without_registers w ≡ bare w
is_bare w = ap (λ (states : List MutatorState). record w { mutators = states }) (bare_states w.mutators)

pub bare_snapshot : (w : World) → IsSnapshotOf w (without_registers w)
bare_snapshot w = record { count = length-map w.mutators cleared; nodes = bare_node w }

-- with other debts but the same unpaid debts
pub seen_same : (w s : World) (remembered : NameSet) (accounts accounts' : Accounts) (opened taken : NameSet) (finalised : List Name) →
    unpaid remembered.set (all_debts accounts'.debts) ≡ unpaid remembered.set (all_debts accounts.debts) →
    seen w s remembered accounts' opened taken finalised ≡ seen w s remembered accounts opened taken finalised
seen_same w s remembered accounts accounts' opened taken finalised e =
    ap (λ (l : List Debt). record {
      world = w;
      snapshot = s;
      remembered = remembered.names;
      debts = l;
      opened = opened.names;
      taken = taken.names;
      finalised = finalised;
    }) e

module _ (w s : World) (remembered : NameSet) (accounts : Accounts) (opened taken : NameSet) (finalised : List Name)
    (k : IsCycle w s remembered accounts opened taken finalised) where
  -- with other opened names, taken names or debts
  pub with_opened : (opened' : NameSet) → IsListed s opened' → IsCycle w s remembered accounts opened' taken finalised
  with_opened opened' o = record {
    remembered = k.remembered;
    opened = o;
    taken = k.taken;
    accounts = k.accounts;
    count = k.count;
    alive = k.alive;
    snapshot = k.snapshot;
    world = k.world;
  }

  pub with_taken : (taken' : NameSet) → IsListed s taken' → IsCycle w s remembered accounts opened taken' finalised
  with_taken taken' t = record {
    remembered = k.remembered;
    opened = k.opened;
    taken = t;
    accounts = k.accounts;
    count = k.count;
    alive = k.alive;
    snapshot = k.snapshot;
    world = k.world;
  }

  pub with_accounts : (accounts' : Accounts) → AreAccounts remembered.set s accounts' → length accounts'.debts ≡ length accounts.debts →
      IsCycle w s remembered accounts' opened taken finalised
  with_accounts accounts' a e = record {
    remembered = k.remembered;
    opened = k.opened;
    taken = k.taken;
    accounts = a;
    count = e ∙ k.count;
    alive = k.alive;
    snapshot = k.snapshot;
    world = k.world;
  }

  -- with more finalised names
  pub cycle_ended : (ends finalised' : List Name) → finalised' ≡ finalised ++ ends → IsCycle w s remembered accounts opened taken finalised'
  cycle_ended ends finalised' e = subst (IsCycle w s remembered accounts opened taken) (sym e) (record {
    remembered = k.remembered;
    opened = k.opened;
    taken = k.taken;
    accounts = k.accounts;
    count = k.count;
    alive = λ weak parts a not. k.alive weak parts a (λ c. not (Contains-append_left finalised ends weak c));
    snapshot = k.snapshot;
    world = k.world;
  })

  plain : (v : Value) → Names (λ n. Unit {0}) v
  plain value.Nil = tt
  plain (value.Number n) = tt
  plain (value.Ref n) = tt

  all_plain : (values : List Value) → All (Names (λ n. Unit {0})) values
  all_plain values i d lt = plain (get_or values i d)

  -- with the world after a command, and the names that it finalised
  pub cycle_stepped : (m : ℕ) (c : Command) (v : World) (finalised' : List Name) → m < length w.mutators → v ≡ (step w m c).0 → IsWorld v →
      length v.mutators ≡ length w.mutators → finalised' ≡ finalised ++ finalised_by w m c → IsCycle v s remembered accounts opened taken finalised'
  cycle_stepped m c v finalised' lt e is same g = subst (IsCycle v s remembered accounts opened taken) (sym g) (record {
    remembered = k.remembered;
    opened = k.opened;
    taken = k.taken;
    accounts = k.accounts;
    count = k.count ∙ sym same;
    alive = λ weak parts a not.
        elim (step_alive (λ n.
        Unit {0}) w m lt (not_shared w m k.world lt) tt (all_plain (state_of w m).registers) c weak parts (k.alive weak parts a (λ f.
        not (Contains-append_left finalised (finalised_by w m c) weak f)))) [
          | inl b ↦ subst (λ (u : World). IsAlive u weak parts) (sym e) b
          | inr d ↦ absurd (not (Contains-append_right finalised (finalised_by w m c) weak d))
        ];
    snapshot = k.snapshot;
    world = is;
  })

  -- after a push
  pub pushed_cycle : (name : Name) → IsCycle w s (joined s remembered name) accounts opened taken finalised
  pushed_cycle name = record {
    remembered = joined_is s remembered k.remembered name;
    opened = k.opened;
    taken = k.taken;
    accounts = record {
      sets = k.accounts.sets;
      places = k.accounts.places;
      own = k.accounts.own;
      there = k.accounts.there;
      newest = k.accounts.newest;
      owes = λ j n c. elim (k.accounts.owes j n c) [ inl m ↦ inl (joined_keeps s remembered k.remembered name n m) | inr o ↦ inr o ];
    };
    count = k.count;
    alive = k.alive;
    snapshot = k.snapshot;
    world = k.world;
  }

  abbrev all : List Debt
  all = all_debts accounts.debts

  pushed_debts : (name : Name) (d : Debt) → Contains (unpaid (joined s remembered name).set all) d ↔
      (Contains (unpaid remembered.set all) d × (d.name ≡ name → ⊥))
  pushed_debts name d = (
    λ c. let p : Contains all d × (is_unpaid (joined s remembered name).set d ≡ true) = in_kept (is_unpaid (joined s remembered name).set) all d c in
        let at : StandsIn (joined s remembered name).set accounts.debts d = stands (joined s remembered name).set accounts.debts d c in (
          kept_in (is_unpaid remembered.set) all d p.0 (not_so (mark_of remembered.set d.name) (λ m.
              not_both (mark_of (joined s remembered name).set d.name) (joined_keeps s remembered k.remembered name d.name m) p.1)),
          λ e.
              let there : IsSome (node_of s name) = rw e at (k.accounts.there at.m d at.there) in
              not_both (mark_of (joined s remembered name).set d.name) (rw e (joined_marked s remembered k.remembered name there)) p.1,
        ),
    λ c. let p : Contains all d × (is_unpaid remembered.set d ≡ true) = in_kept (is_unpaid remembered.set) all d c.0 in
        kept_in (is_unpaid (joined s remembered name).set) all d p.0 (not_so (mark_of (joined s remembered name).set d.name) (λ m.
        elim (joined_marks s remembered k.remembered name d.name m) [
          | inl old ↦ not_both (mark_of remembered.set d.name) old p.1
          | inr e ↦ c.1 e
        ])),
  )

  pub pushed_then : (name : Name) → IsSome (node_of w name) →
      IsPushed (seen w s remembered accounts opened taken finalised) name (seen w s (joined s remembered name) accounts opened taken finalised)
  pushed_then name known = record { there = known; rest = refl; remembered = joined_names s remembered k.remembered name; debts = pushed_debts name }

  -- after a take
  pub took_then : (name : Name) → IsMarked remembered.set name →
      IsTook (seen w s remembered accounts opened taken finalised) name (seen w s remembered accounts opened (joined s taken name) finalised)
  took_then name m =
      let pushed : Contains remembered.names name = (k.remembered.same name).0 m in
      let there : IsSome (node_of s name) = listed_there s remembered k.remembered name pushed in
      record {
        pushed = pushed;
        rest = refl;
        taken = λ n. (
          λ c. elim ((joined_names s taken k.taken name n).0 c) [ inl old ↦ inl old | inr p ↦ inr p.0 ],
          λ c. (joined_names s taken k.taken name n).1 (elim c [
            | inl old ↦ inl old
            | inr e ↦ inr (
              e,
              subst (λ (x : Name). IsSome (node_of s x)) (sym e) there,
            )
          ]),
        );
      }

  pub not_pushed : (name : Name) → mark_of remembered.set name ≡ false → Contains remembered.names name → ⊥
  not_pushed name free c = let m : mark_of remembered.set name ≡ true = (k.remembered.same name).1 c in let bad : true ≡ false = sym m ∙ free in cc

  -- a command: the names found due are owed from then on
  module _ (scans : List Bool) (line m : ℕ) (c : Command) (can : CanApply w m c) (fields : List Field) (coming : Option Field)
      (f : IsStanding s w m c fields) (comes : IsComing w m c coming) where
    own : m ≢ SHARED_MAKER
    own = not_shared w m k.world can.mutator

    abbrev before : Hybrid
    before = with_scans scans (seen w s remembered accounts opened taken finalised)

    abbrev found : List Name
    found = targets (filter (λ g. not (stands_in (step w m c).0 g)) fields) ++ (opened_by w m c ++ kept_then s (finalised_by w m c))

    abbrev given_out : List Name
    given_out = handed before m c k.world can coming comes

    due_of : (t : Name) → Contains (filter (is_pushed_in s) (found ++ given_out)) t → IsDueIn before m c t
    due_of t x =
        let p : Contains (found ++ given_out) t × (is_pushed_in s t ≡ true) = filter_contains (is_pushed_in s) (found ++ given_out) t x in
        elim (Contains-append_cases found given_out t p.0) [
          | inl a ↦ inl (found_due s w m c can.mutator own fields f t (contains_filter (is_pushed_in s) found t a p.1))
          | inr b ↦ inr (found_handed before m c k.world can coming comes t b)
        ]

    of_due : (t : Name) → IsDueIn before m c t → Contains (filter (is_pushed_in s) (found ++ given_out)) t
    of_due t (inl d) =
        let p : Contains found t × (is_pushed_in s t ≡ true) =
        filter_contains (is_pushed_in s) found t (due_found s w m c can.mutator own fields f t d) in
        contains_filter (is_pushed_in s) (found ++ given_out) t (Contains-append_left found given_out t p.0) p.1
    of_due t (inr d) = contains_filter (is_pushed_in s) (found ++ given_out) t
        (Contains-append_right found given_out t (handed_found before m c k.world can coming comes t d)) (is_owable_by s t d.there d.own)

    pub counts_due : (names : List Name) (count : ℕ) → names ≡ found ++ given_out → Counts (Contains (filter (is_pushed_in s) names)) count →
        Counts (IsDueIn before m c) count
    counts_due names count e k = (
      k.0,
      record {
        ordered = k.1.ordered;
        sound = λ n x. due_of n (subst (λ (l : List Name). Contains (filter (is_pushed_in s) l) n) e (k.1.sound n x));
        complete = λ n d. k.1.complete n (subst (λ (l : List Name). Contains (filter (is_pushed_in s) l) n) (sym e) (of_due n d));
      },
      k.2,
    )

    pub taken_then : (v : World) (accounts' : Accounts) (opened' opened'' : NameSet) (finalised' names : List Name) → v ≡ (step w m c).0 →
        Joins s opened.names (opened_by w m c) opened'.names → Joins s opened'.names given_out opened''.names → finalised' ≡ finalised ++ finalised_by w m c →
        names ≡ found ++ given_out → IsOwing s remembered.set line m names accounts accounts' →
        IsTaken line m c before (with_scans scans (seen v s remembered accounts' opened'' taken finalised'))
    taken_then v accounts' opened' opened'' finalised' names e j j' g n o' = record {
      can = can;
      says = refl;
      rest = rw (e, g) refl;
      opened = λ name. (
        λ x. elim ((j' name).0 x) [
          | inl old ↦ elim ((j name).0 old) [ inl was ↦ inl was | inr new ↦ inr (inl new) ]
          | inr p ↦ inr (inr (found_handed before m c k.world can coming comes name p.0))
        ],
        λ x. elim x [
          | inl was ↦ (j' name).1 (inl ((j name).1 (inl was)))
          | inr (inl new) ↦ (j' name).1 (inl ((j name).1 (inr new)))
          | inr (inr d) ↦ (j' name).1 (inr (handed_found before m c k.world can coming comes name d, d.there))
        ],
      );
      old = o.old;
      new = λ d x. elim (o.new d x) [
        | inl old ↦ inl old
        | inr p ↦ inr (
          p.0,
          p.1,
          due_of d.name p.2,
          λ r. not_both (mark_of remembered.set d.name) ((k.remembered.same d.name).1 r)
              (in_kept (is_unpaid remembered.set) (all_debts accounts'.debts) d x).1,
        )
      ];
      due = λ t d. elim (o.due t (of_due t d)) [ inl marked ↦ inl ((k.remembered.same t).0 marked) | inr p ↦ inr p ];
    }
      where
        o : IsOwing s remembered.set line m (found ++ given_out) accounts accounts'
        o = subst (λ (l : List Name). IsOwing s remembered.set line m l accounts accounts') n o'

pub not_none_there : {A : Type 0} (r : Option (Bor A)) (o : Option A) → option_copied r ≡ o → is_none r ≡ false → IsSome o
not_none_there None o e f = absurd cc
not_none_there (Some x) o e f = subst (λ (p : Option _). IsSome p) e refl

-- whether a name wasn't taken
pub untaken_if : (w s : World) (remembered : NameSet) (accounts : Accounts) (opened taken : NameSet) (finalised : List Name) →
    IsCycle w s remembered accounts opened taken finalised → (o : Option Name) → (taken.names ≡ [] → ⊥) → IsUntakenIn taken remembered.names o →
    IsUntakenIf (seen w s remembered accounts opened taken finalised) o
untaken_if w s remembered accounts opened taken finalised k None some h =
    inr (λ name c other. elim (and_cases (not (is_same_name name shared_name)) (not (mark_of taken.set name)) (h name c)) [
      | inl same ↦ absurd (other (tested_same name shared_name (not-false (is_same_name name shared_name) same)))
      | inr there ↦ (k.taken.same name).0 (not-false (mark_of taken.set name) there)
    ])
untaken_if w s remembered accounts opened taken finalised k (Some name) some h = (to name h.0, λ other u. h.1 other (of other u))
  where
    to : (n : Name) → Contains remembered.names n × (is_untaken taken n ≡ true) →
        IsUntakenName (seen w s remembered accounts opened taken finalised) n
    to n i =
        let p : (not (is_same_name n shared_name) ≡ true) × (not (mark_of taken.set n) ≡ true) =
        and_parts (not (is_same_name n shared_name)) (not (mark_of taken.set n)) i.1 in (
          some,
          i.0,
          λ same. not_both (is_same_name n shared_name) (subst (λ (x : Name). is_same_name x shared_name ≡ true) (sym same) (is_same_name-refl shared_name)) p.0,
          λ c. not_both (mark_of taken.set n) ((k.taken.same n).1 c) p.1,
        )

    of : (n : Name) → IsUntakenName (seen w s remembered accounts opened taken finalised) n → Contains remembered.names n × (is_untaken taken n ≡ true)
    of n u = (
      u.1,
      and_from (not (is_same_name n shared_name)) (not (mark_of taken.set n)) (not_so (is_same_name n shared_name) (λ t. u.2 (tested_same n shared_name t)))
          (not_so (mark_of taken.set n) (λ t. u.3 ((k.taken.same n).0 t))),
    )

-- a reference that isn't there
pub none_there : {A : Type 0} (r : Option (Bor A)) (o : Option A) → option_copied r ≡ o → is_some r ≡ false → IsSome o → ⊥
none_there r o e f there = let a : is_some r ≡ is_some o = copied_is_some r o e in let b : is_some o ≡ true = there in
    let bad : false ≡ true = sym f ∙ (a ∙ b) in absurd cc
