-- A value that is handed over: the names that are found due are exactly those that come due, and a cycle can take it.
use Rattle.nmgc_barrier_checker.proofs.Vocabulary.{◌≡◌, ◌≢◌, ◌<◌, ◌∙◌, ℕ, List, [], ◌∷◌, ◌++◌, length, map, refl, sym, ap, subst, arith, Bool, true, false, not, inl, inr, ◌⊎◌, Contains, IsSome, is_some, filter, cases_Bool, cases_lt, set, length-set, Contains-append_left, Contains-append_right, Contains-append_cases, REGISTERS, Show, Operand, Name, Value, Parts, World, node_of, IsWorld, IsAlive, IsKnown, shared_name, names_among, name_among, contains_filter, filter_contains, nothing_in, is_listed, listed_from, contains_listed, Debt, Cycle, Hybrid, is_scanned, IsHandedBy, IsHandedOver, CanHand, handed_over, debt_of, given_names, Hand, Hands, IsMadeDue, IsGivenOver, IsCycle, NameSet, Accounts}
use Rattle.nmgc_world_spec.specs.declared.value.Value.TheVariants as value
use Rattle.nmgc_world_spec.specs.{World.value_for, World.with_register, Reach.Counts}
use Rattle.nmgc_world_laws.specs.laws.Worlds.{holding_keeps}
use Rattle.nmgc_snapshot_laws.specs.Machine.{is_pushed_in}
use Rattle.nmgc_barrier_laws.specs.laws.HandedOver.{put_node}
use Rattle.nmgc_barrier_checker.specs.{Accounts.IsOwing, Accounts.is_unpaid, Accounts.all_debts, NameSet.Joins, Cycles.with_scans}
use Rattle.nmgc_barrier_checker.proofs.{CycleLaws.seen, CycleLaws.not_both, DueLaws.among_ref, DueLaws.owable_is, DueLaws.is_owable_by, Filters.mapped_in, Filters.in_mapped, Filters.in_kept, Watched.Cases, Watched.can_cases}

-- the name among one value
one_value : (v : Value) (t : Name) → Contains (names_among (v ∷ [])) t → v ≡ value.Ref t
one_value v t c = Rattle.nmgc_barrier_checker.proofs.Vocabulary.one_is v (value.Ref t) (among_ref (v ∷ []) t c)

value_one : (v : Value) (t : Name) → v ≡ value.Ref t → Contains (names_among (v ∷ [])) t
value_one v t e = name_among (v ∷ []) t (subst (λ (x : Value). Contains (v ∷ []) x) e (Rattle.nmgc_barrier_checker.proofs.Vocabulary.contains_one v))

module _ (h : Hybrid) (m : ℕ) (v : Operand) (n : ℕ) where
  abbrev x : Value
  x = value_for h.watch.world m v

  abbrev pub given : List Name
  given = given_names (is_scanned h m) (is_scanned h n) h.watch.snapshot x

  pub found_given : (t : Name) → Contains given t → IsHandedBy h m v n t
  found_given t = by_flags (is_scanned h m) (is_scanned h n) refl refl
    where
      by_flags : (a b : Bool) → is_scanned h m ≡ a → is_scanned h n ≡ b → Contains (given_names a b h.watch.snapshot x) t → IsHandedBy h m v n t
      by_flags true b e g d = absurd (nothing_in t d)
      by_flags false false e g d = absurd (nothing_in t d)
      by_flags false true e g d =
          let p : Contains (names_among (x ∷ [])) t × (is_pushed_in h.watch.snapshot t ≡ true) =
          filter_contains (is_pushed_in h.watch.snapshot) (names_among (x ∷ [])) t d in
          let q : IsSome (node_of h.watch.snapshot t) × (t ≢ shared_name) = owable_is h.watch.snapshot t p.1 in
          record { unscanned = e; scanned = g; there = q.0; own = q.1; is = one_value x t p.0 }

  pub given_found : (t : Name) → IsHandedBy h m v n t → Contains given t
  given_found t d = subst (λ (a : Bool). Contains (given_names a (is_scanned h n) h.watch.snapshot x) t) (sym d.unscanned)
      (subst (λ (b : Bool). Contains (given_names false b h.watch.snapshot x) t) (sym d.scanned)
      (contains_filter (is_pushed_in h.watch.snapshot) (names_among (x ∷ [])) t (value_one x t d.is) (is_owable_by h.watch.snapshot t d.there d.own)))

-- a value can be handed over or not
pub hand_cases : (w : World) (k : Hand) → Cases (Hands w k)
hand_cases w k = elim (can_cases w k.giver (Show k.value)) [
  | inl a ↦ elim (cases_lt k.taker (length w.mutators)) [
    | inl b ↦ elim (cases_lt k.dest REGISTERS) [
      | inl c ↦ inl (record { shows = a; taker = b; register = c })
      | inr le ↦ inr (λ can. let l : k.dest < REGISTERS = can.register in omega arith)
    ]
    | inr le ↦ inr (λ can. let l : k.taker < length w.mutators = can.taker in omega arith)
  ]
  | inr never ↦ inr (λ can. never can.shows)
]

-- a cycle takes a value that can be handed over
module _ (h : Hybrid) (line m : ℕ) (v : Operand) (n r : ℕ) (can : CanHand h.watch.world m v n r) where
  abbrev found : List Name
  found = given h m v n

  abbrev fresh : Name → Bool
  fresh t = not (is_listed t h.watch.remembered)

  abbrev more : List Debt
  more = map (debt_of line m) (filter fresh found)

  abbrev pub after : Hybrid
  after = record h {
    watch = record h.watch { world = handed_over h.watch.world m v n r; debts = h.watch.debts ++ more; opened = h.watch.opened ++ found };
  }

  unlisted : (t : Name) → fresh t ≡ true → Contains h.watch.remembered t → ⊥
  unlisted t e c = let l : is_listed t h.watch.remembered ≡ true = listed_from t h.watch.remembered c in
      let bad : not true ≡ true = subst (λ (b : Bool). not b ≡ true) l e in cc

  pub hands : IsHandedOver h line m v n r after
  hands = record {
    can = can;
    rest = refl;
    opened = λ t. (
      λ c. elim (Contains-append_cases h.watch.opened found t c) [ inl old ↦ inl old | inr new ↦ inr (found_given h m v n t new) ],
      λ c. elim c [
        | inl old ↦ Contains-append_left h.watch.opened found t old
        | inr d ↦ Contains-append_right h.watch.opened found t (given_found h m v n t d)
      ],
    );
    old = λ d c. Contains-append_left h.watch.debts more d c;
    new = λ d c. elim (Contains-append_cases h.watch.debts more d c) [
      | inl old ↦ inl old
      | inr new ↦ inr (by_name d (in_mapped (debt_of line m) (filter fresh found) d new))
    ];
    due = λ t d. elim (cases_Bool (is_listed t h.watch.remembered)) [
      | inl l ↦ inl (contains_listed t h.watch.remembered l)
      | inr f ↦ inr (
        debt_of line m t,
        Contains-append_right h.watch.debts more (debt_of line m t)
            (mapped_in (debt_of line m) (filter fresh found) t (contains_filter fresh found t (given_found h m v n t d) (ap not f))),
        refl,
        refl,
      )
    ];
  }
    where
      by_name : (d : Debt) → ((t : Name) × Contains (filter fresh found) t × (debt_of line m t ≡ d)) → (d.line ≡ line) × (d.mutator ≡ m) ×
          IsHandedBy h m v n d.name × (Contains h.watch.remembered d.name → ⊥)
      by_name d (t, c, e) =
          let p : Contains found t × (fresh t ≡ true) = filter_contains fresh found t c in (
            sym (ap (λ (y : Debt). y.line) e),
            sym (ap (λ (y : Debt). y.mutator) e),
            subst (λ (y : Debt). IsHandedBy h m v n y.name) e (found_given h m v n t p.0),
            subst (λ (y : Debt). Contains h.watch.remembered y.name → ⊥) e (unlisted t p.1),
          )

-- a cycle with another value in a register
pub held_cycle : (w s : World) (remembered : NameSet) (accounts : Accounts) (opened taken : NameSet) (finalised : List Name) →
    IsCycle w s remembered accounts opened taken finalised → (n r : ℕ) (v : Value) → n < length w.mutators → IsKnown w v →
    IsCycle (with_register w n r v) s remembered accounts opened taken finalised
held_cycle w s remembered accounts opened taken finalised k n r v lt known = record {
  remembered = k.remembered;
  opened = k.opened;
  taken = k.taken;
  accounts = k.accounts;
  count = k.count ∙ sym (length-set w.mutators n _);
  alive = λ weak parts a not. put_node w n r v lt weak ∙ k.alive weak parts a not;
  snapshot = k.snapshot;
  world = holding_keeps w n r v k.world lt known;
}

-- names are owed
pub owed_then : (w s : World) (remembered : NameSet) (accounts : Accounts) (opened taken : NameSet) (finalised : List Name) →
    IsCycle w s remembered accounts opened taken finalised → (line m : ℕ) (names : List Name) (accounts' : Accounts) (opened' : NameSet) →
    Joins s opened.names names opened'.names → IsOwing s remembered.set line m names accounts accounts' →
    IsMadeDue line m names (seen w s remembered accounts opened taken finalised) (seen w s remembered accounts' opened' taken finalised)
owed_then w s remembered accounts opened taken finalised k line m names accounts' opened' j o = record {
  rest = refl;
  opened = j;
  old = o.old;
  new = λ d c. elim (o.new d c) [
    | inl old ↦ inl old
    | inr p ↦ inr (
      p.0,
      p.1,
      p.2,
      λ r. not_both (Rattle.nmgc_graph.specs.Marks.mark_of remembered.set d.name) ((k.remembered.same d.name).1 r)
          (in_kept (is_unpaid remembered.set) (all_debts accounts'.debts) d c).1,
    )
  ];
  due = λ t d. elim (o.due t d) [ inl marked ↦ inl ((k.remembered.same t).0 marked) | inr p ↦ inr p ];
}

-- names are owed, and then the register gets its value
module _ (scans : List Bool) (line : ℕ) (k : Hand) (h mid : Cycle) (names : List Name) (can : Hands h.world k)
    (are : names ≡ given (with_scans scans h) k.giver k.value k.taker) (o : IsMadeDue line k.giver names h mid) where
  abbrev with_value : Cycle → Cycle
  with_value c = record c { world = with_register c.world k.taker k.dest (value_for h.world k.giver k.value) }

  in_given : (t : Name) → Contains (filter (is_pushed_in h.snapshot) names) t → IsHandedBy (with_scans scans h) k.giver k.value k.taker t
  in_given t c = found_given (with_scans scans h) k.giver k.value k.taker t (subst (λ (l : List Name). Contains l t) are
      (filter_contains (is_pushed_in h.snapshot) names t c).0)

  of_given : (t : Name) → IsHandedBy (with_scans scans h) k.giver k.value k.taker t → Contains names t
  of_given t d = subst (λ (l : List Name). Contains l t) (sym are) (given_found (with_scans scans h) k.giver k.value k.taker t d)

  there_given : (t : Name) → Contains names t → IsHandedBy (with_scans scans h) k.giver k.value k.taker t
  there_given t c = found_given (with_scans scans h) k.giver k.value k.taker t (subst (λ (l : List Name). Contains l t) are c)

  value_given : IsGivenOver line k (with_scans scans h) (with_scans scans (with_value mid))
  value_given = record {
    can = can;
    rest = ap (λ (c : Cycle). with_scans scans (with_value c)) o.rest;
    opened = λ t. (
      λ c. elim ((o.opened t).0 c) [ inl old ↦ inl old | inr p ↦ inr (there_given t p.0) ],
      λ c. (o.opened t).1 (elim c [ inl old ↦ inl old | inr d ↦ inr (of_given t d, d.there) ]),
    );
    old = o.old;
    new = λ d c. elim (o.new d c) [ inl old ↦ inl old | inr p ↦ inr (p.0, p.1, in_given d.name p.2, p.3) ];
    due = λ t d. o.due t (contains_filter (is_pushed_in h.snapshot) names t (of_given t d) (is_owable_by h.snapshot t d.there d.own));
  }

  pub given_then : (next : Cycle) → next ≡ record mid { world = with_register mid.world k.taker k.dest (value_for h.world k.giver k.value) } →
      IsGivenOver line k (with_scans scans h) (with_scans scans next)
  given_then next e = subst (λ (c : Cycle). IsGivenOver line k (with_scans scans h) (with_scans scans c)) (sym e) value_given

-- the number of names that come due by a value handed over
pub counts_given : (h : Hybrid) (m : ℕ) (v : Operand) (n : ℕ) (names : List Name) (count : ℕ) → names ≡ given h m v n →
    Counts (Contains (filter (is_pushed_in h.watch.snapshot) names)) count → Counts (IsHandedBy h m v n) count
counts_given h m v n names count are c = (
  c.0,
  record {
    ordered = c.1.ordered;
    sound = λ t k. found_given h m v n t (subst (λ (l : List Name). Contains l t) are
        (filter_contains (is_pushed_in h.watch.snapshot) names t (c.1.sound t k)).0);
    complete = λ t d. c.1.complete t (contains_filter (is_pushed_in h.watch.snapshot) names t
        (subst (λ (l : List Name). Contains l t) (sym are) (given_found h m v n t d)) (is_owable_by h.watch.snapshot t d.there d.own));
  },
  c.2,
)
