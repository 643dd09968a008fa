-- The debts after names came due, and after paid debts left a queue.
use Rattle.std.proofs.{Common.max, Common.leb, Common.◌≡◌, Common.◌≢◌, Common.◌<◌, Common.◌≤◌, Common.◌+◌, Common.ℕ, Common.List, Common.[], Common.◌∷◌, Common.◌++◌, Common.zero, Common.suc, Common.length, Common.set, Common.take, Common.get_or, Common.refl, Common.sym, Common.ap, Common.subst, Common.◌∙◌, Common.arith, Common.length-set, Common.replicate, Common.append-nil, Common.append_assoc, Common.Option, Common.Some, Common.None, Common.Bool, Common.true, Common.false, Common.not, Common.cond, Common.inl, Common.inr, Common.◌⊎◌, lemmas.Bool.cases_Bool, lemmas.Bool.cases_eq, lemmas.Bool.cases_lt, lemmas.Bool.le-leb, lemmas.Bool.and_cases, lemmas.Bool.and_parts, lemmas.Bool.not-false, lemmas.List.get_or-set_same, lemmas.List.get_or-set_other, lemmas.List.get_or_past, lemmas.List.take_more, lemmas.List.length-replicate, lemmas.Option.slice_get_within, lemmas.Option.slice_get-get_or, lemmas.Option.get_or_from_slice_get, lemmas.List.Elements.filter-append, lemmas.List.Elements.Contains-append_left, lemmas.List.Elements.Contains-append_right, lemmas.List.Elements.Contains-append_cases}
use Rattle.std.specs.Prelude.{All, Contains, IsSome, filter, slice_get, ◌&&◌}
use Rattle.nmgc_world_spec.specs.{declared.value.Name.Name, World.World, World.node_of, laws.Orders.name_cases}
use Rattle.nmgc_graph.specs.{Marks.HasPlace, Marks.HasPlaces, Marks.IsMarked, Marks.mark_of, Marks.with_mark, laws.Rows.kept_others, laws.Rows.places_kept, laws.Rows.makers_kept, laws.Rows.name_placed}
use Rattle.nmgc_lists.specs.{laws.Items.contains_head, laws.Items.nothing_in, laws.Items.one_is, laws.Items.contains_one, laws.Items.contains_at, laws.Items.place_of, laws.Items.contains_flat, laws.Items.flat_contains, laws.Truths.unmarked}
use Rattle.nmgc_barrier_laws.specs.declared.debt.Debt.{Debt}
use Rattle.nmgc_barrier_checker.specs.{declared.accounts.Accounts.Accounts, Accounts.is_unpaid, Accounts.unpaid, Accounts.queue_of, Accounts.set_of, Accounts.all_debts, Accounts.debt_of, Accounts.AreAccounts, Accounts.AreNew, Accounts.is_new, Accounts.owed_one, Accounts.IsOwing, Accounts.IsForgotten, Accounts.IsLeastIn}
use Rattle.nmgc_snapshot_laws.specs.Machine.{is_pushed_in}
use Rattle.nmgc_barrier_checker.specs.First.{IsEarlier, IsEarliest}
use Rattle.nmgc_barrier_checker.proofs.{Filters.kept_in, Filters.in_kept, Firsts.earlier_trans, Firsts.not_earlier_itself, DueLaws.owable_is}

-- the debts of a queue are among all debts, and each debt of all is in some queue
pub in_all : (queues : List (List Debt)) (m : ℕ) (debt : Debt) → Contains (queue_of queues m) debt → Contains (all_debts queues) debt
in_all queues m debt c = elim (cases_lt m (length queues)) [
  | inl lt ↦ contains_flat (λ (q : List Debt). q) queues (queue_of queues m) debt (contains_at queues m (queue_of queues m) (slice_get-get_or queues m [] lt)) c
  | inr le ↦ absurd (nothing_in debt (subst (λ (l : List Debt). Contains l debt) (get_or_past queues m [] le) c))
]

pub of_all : (queues : List (List Debt)) (debt : Debt) → Contains (all_debts queues) debt → (m : ℕ) × (m < length queues) × Contains (queue_of queues m) debt
of_all queues debt c =
    let p : (q : List Debt) × Contains queues q × Contains q debt = flat_contains (λ (q : List Debt). q) queues debt c in
    let i : (k : ℕ) × (slice_get queues k ≡ Some p.0) = place_of queues p.0 p.1 in
    (i.0, slice_get_within queues i.0 p.0 i.1, subst (λ (l : List Debt). Contains l debt) (sym (get_or_from_slice_get queues i.0 p.0 [] i.1)) p.2)

pub unpaid_all : (marks : List (List Bool)) (queues : List (List Debt)) (m : ℕ) (debt : Debt) → Contains (queue_of queues m) debt →
    is_unpaid marks debt ≡ true → Contains (unpaid marks (all_debts queues)) debt
unpaid_all marks queues m debt c free = kept_in (is_unpaid marks) (all_debts queues) debt (in_all queues m debt c) free

-- the queue that contains an unpaid debt
pub record StandsIn (marks : List (List Bool)) (queues : List (List Debt)) (debt : Debt) : Type 0 where
  pub m : ℕ
  pub within : m < length queues
  pub there : Contains (queue_of queues m) debt
  pub free : is_unpaid marks debt ≡ true

pub stands : (marks : List (List Bool)) (queues : List (List Debt)) (debt : Debt) → Contains (unpaid marks (all_debts queues)) debt → StandsIn marks queues debt
stands marks queues debt c =
    let p : Contains (all_debts queues) debt × (is_unpaid marks debt ≡ true) = in_kept (is_unpaid marks) (all_debts queues) debt c in
    let q : (m : ℕ) × (m < length queues) × Contains (queue_of queues m) debt = of_all queues debt p.0 in
    record { m = q.0; within = q.1; there = q.2; free = p.1 }

-- the accounts after names came due
pub record Owed (snapshot : World) (marks : List (List Bool)) (line m : ℕ) (names : List Name) (before after : Accounts) : Type 0 where
  pub accounts : AreAccounts marks snapshot after
  pub count : length after.debts ≡ length before.debts
  pub owing : IsOwing snapshot marks line m names before after

-- a debt is added, if it is new
module _ (snapshot : World) (marks : List (List Bool)) (a : Accounts) (d : Debt) (k : AreAccounts marks snapshot a) (lt : d.mutator < length a.debts) where
  abbrev after : Accounts
  after = record {
    debts = set a.debts d.mutator (queue_of a.debts d.mutator ++ d ∷ []);
    names = set a.names d.mutator (with_mark (set_of a.names d.mutator) d.name);
    newest = max a.newest d.line;
  }

  lt_set : d.mutator < length a.names
  lt_set = let e : length a.names ≡ length a.debts = k.sets in let l : d.mutator < length a.debts = lt in omega arith

  own_queue : queue_of after.debts d.mutator ≡ queue_of a.debts d.mutator ++ d ∷ []
  own_queue = get_or-set_same a.debts d.mutator (queue_of a.debts d.mutator ++ d ∷ []) [] lt

  other_queue : (j : ℕ) → j ≢ d.mutator → queue_of after.debts j ≡ queue_of a.debts j
  other_queue j ne = get_or-set_other a.debts d.mutator j (queue_of a.debts d.mutator ++ d ∷ []) [] ne

  own_set : set_of after.names d.mutator ≡ with_mark (set_of a.names d.mutator) d.name
  own_set = get_or-set_same a.names d.mutator (with_mark (set_of a.names d.mutator) d.name) [] lt_set

  other_set : (j : ℕ) → j ≢ d.mutator → set_of after.names j ≡ set_of a.names j
  other_set j ne = get_or-set_other a.names d.mutator j (with_mark (set_of a.names d.mutator) d.name) [] ne

  own_there : Contains (queue_of after.debts d.mutator) d
  own_there = subst (λ (l : List Debt). Contains l d) (sym own_queue) (Contains-append_right (queue_of a.debts d.mutator) (d ∷ []) d (contains_one d))

  queue_more : (j : ℕ) (debt : Debt) → Contains (queue_of a.debts j) debt → Contains (queue_of after.debts j) debt
  queue_more j debt c = elim (cases_eq j d.mutator) [
    | inl e ↦ subst (λ (i : ℕ). Contains (queue_of after.debts i) debt) (sym e) (subst (λ (l : List Debt).
        Contains l debt) (sym own_queue) (Contains-append_left (queue_of a.debts d.mutator) (d ∷
        []) debt (subst (λ (i : ℕ). Contains (queue_of a.debts i) debt) e c)))
    | inr ne ↦ subst (λ (l : List Debt). Contains l debt) (sym (other_queue j ne)) c
  ]

  queue_cases : (j : ℕ) (debt : Debt) → Contains (queue_of after.debts j) debt → Contains (queue_of a.debts j) debt ⊎ ((j ≡ d.mutator) × (d ≡ debt))
  queue_cases j debt c = elim (cases_eq j d.mutator) [
    | inl e ↦ elim (Contains-append_cases (queue_of a.debts d.mutator) (d ∷
        []) debt (subst (λ (l : List Debt). Contains l debt) own_queue (subst (λ (i : ℕ). Contains (queue_of after.debts i) debt) e c))) [
          | inl old ↦ inl (subst (λ (i : ℕ). Contains (queue_of a.debts i) debt) (sym e) old)
          | inr new ↦ inr (e, one_is d debt new)
        ]
    | inr ne ↦ inl (subst (λ (l : List Debt). Contains l debt) (other_queue j ne) c)
  ]

  owes_more : (j : ℕ) (n : Name) → IsMarked marks n ⊎ ((debt : Debt) × Contains (queue_of a.debts j) debt × (debt.name ≡ n)) → IsMarked marks n ⊎
      ((debt : Debt) × Contains (queue_of after.debts j) debt × (debt.name ≡ n))
  owes_more j n (inl x) = inl x
  owes_more j n (inr p) = inr (p.0, queue_more j p.0 p.1, p.2)

  -- the debt is new
  module _ (owable : is_pushed_in snapshot d.name ≡ true) (free : mark_of marks d.name ≡ false) where
    there : IsSome (node_of snapshot d.name)
    there = (owable_is snapshot d.name owable).0

    placed : HasPlace (set_of a.names d.mutator) d.name
    placed = name_placed snapshot (set_of a.names d.mutator) (k.places d.mutator lt) d.name there

    places_more : HasPlaces snapshot (with_mark (set_of a.names d.mutator) d.name)
    places_more = record {
      makers = makers_kept (set_of a.names d.mutator) d.name placed ∙ (k.places d.mutator lt).makers;
      counts = λ maker. places_kept (set_of a.names d.mutator) d.name placed maker ∙ (k.places d.mutator lt).counts maker;
    }

    new_accounts : AreAccounts marks snapshot after
    new_accounts = record {
      sets = length-set a.names d.mutator (with_mark (set_of a.names d.mutator) d.name) ∙
          (k.sets ∙ sym (length-set a.debts d.mutator (queue_of a.debts d.mutator ++ d ∷ [])));
      places = λ j ltj. elim (cases_eq j d.mutator) [
        | inl e ↦ subst (λ (i : ℕ). HasPlaces snapshot (set_of after.names i)) (sym e) (subst (HasPlaces snapshot) (sym own_set) places_more)
        | inr ne ↦ subst (HasPlaces snapshot) (sym (other_set j ne)) (k.places j (subst (λ (n : ℕ).
            j < n) (length-set a.debts d.mutator (queue_of a.debts d.mutator ++ d ∷ [])) ltj))
      ];
      own = λ j debt c. elim (queue_cases j debt c) [ inl old ↦ k.own j debt old | inr p ↦ sym (ap (λ (x : Debt). x.mutator) p.1) ∙ sym p.0 ];
      there = λ j debt c. elim (queue_cases j debt c) [
        | inl old ↦ k.there j debt old
        | inr p ↦
            subst (λ (x : Debt). IsSome (node_of snapshot x.name)) p.1 there
      ];
      newest = λ j debt c. elim (queue_cases j debt c) [
        | inl old ↦ let le : debt.line ≤ a.newest = k.newest j debt old in omega arith
        | inr p ↦ let same : d.line ≡ debt.line = ap (λ (x : Debt). x.line) p.1 in omega arith
      ];
      owes = λ j n c. elim (cases_eq j d.mutator) [
        | inl e ↦ elim (name_cases n d.name) [
          | inl same ↦ inr (d, subst (λ (i : ℕ). Contains (queue_of after.debts i) d) (sym e) own_there, sym same)
          | inr ne ↦
              let marked : mark_of (with_mark (set_of a.names d.mutator) d.name) n ≡ true =
              subst (λ (s : List (List Bool)). mark_of s n ≡ true) own_set (subst (λ (i : ℕ). mark_of (set_of after.names i) n ≡ true) e c) in
              let before : mark_of (set_of a.names d.mutator) n ≡ true = sym (kept_others (set_of a.names d.mutator) d.name placed n ne) ∙ marked in
              owes_more j n (k.owes j n (subst (λ (i : ℕ). mark_of (set_of a.names i) n ≡ true) (sym e) before))
        ]
        | inr ne ↦ owes_more j n (k.owes j n (subst (λ (s : List (List Bool)). mark_of s n ≡ true) (other_set j ne) c))
      ];
    }

    new_owing : IsOwing snapshot marks d.line d.mutator (d.name ∷ []) a after
    new_owing = record {
      old = λ debt c. let s : StandsIn marks a.debts debt = stands marks a.debts debt c in
          unpaid_all marks after.debts s.m debt (queue_more s.m debt s.there) s.free;
      new = λ debt c. let s : StandsIn marks after.debts debt = stands marks after.debts debt c in elim (queue_cases s.m debt s.there) [
        | inl old ↦ inl (unpaid_all marks a.debts s.m debt old s.free)
        | inr p ↦ inr (
          sym (ap (λ (x : Debt). x.line) p.1),
          sym (ap (λ (x : Debt). x.mutator) p.1),
          kept_in (is_pushed_in snapshot) (d.name ∷ []) debt.name (subst (λ (x : Debt).
              Contains (d.name ∷ []) x.name) p.1 (contains_one d.name)) (subst (λ (x : Debt). is_pushed_in snapshot x.name ≡ true) p.1 owable),
        )
      ];
      due = λ n c. inr (
        d,
        unpaid_all marks after.debts d.mutator d own_there (ap not free),
        one_is d.name n (in_kept (is_pushed_in snapshot) (d.name ∷ []) n c).0,
        refl,
      );
    }

  -- the debt isn't new
  old_due : is_new snapshot marks a d ≡ false → (n : Name) → Contains (filter (is_pushed_in snapshot) (d.name ∷ [])) n → IsMarked marks n ⊎
      ((debt : Debt) × Contains (unpaid marks (all_debts a.debts)) debt × (debt.name ≡ n) × (debt.mutator ≡ d.mutator))
  old_due h n c =
      let p : Contains (d.name ∷ []) n × (is_pushed_in snapshot n ≡ true) = in_kept (is_pushed_in snapshot) (d.name ∷ []) n c in
      let e : d.name ≡ n = one_is d.name n p.0 in
      elim (and_cases (is_pushed_in snapshot d.name) (not (mark_of marks d.name) && not (mark_of (set_of a.names d.mutator) d.name)) h) [
        | inl refused ↦ absurd (let yes : is_pushed_in snapshot d.name ≡ true = subst (λ (x : Name). is_pushed_in snapshot x ≡ true) (sym e) p.1 in
            let bad : true ≡ false = sym yes ∙ refused in cc)
        | inr rest ↦ elim (and_cases (not (mark_of marks d.name)) (not (mark_of (set_of a.names d.mutator) d.name)) rest) [
          | inl x ↦ inl (subst (IsMarked marks) e (not-false (mark_of marks d.name) x))
          | inr y ↦ elim (k.owes d.mutator d.name (not-false (mark_of (set_of a.names d.mutator) d.name) y)) [
            | inl x ↦ inl (subst (IsMarked marks) e x)
            | inr o ↦ elim (cases_Bool (mark_of marks n)) [
              | inl t ↦ inl t
              | inr f ↦ inr (
                o.0,
                unpaid_all marks a.debts d.mutator o.0 o.1 (ap not (subst (λ (x : Name). mark_of marks x ≡ false) (sym (o.2 ∙
                    e)) f)),
                o.2 ∙ e,
                k.own d.mutator o.0 o.1,
              )
            ]
          ]
        ]
      ]

  old_owing : is_new snapshot marks a d ≡ false → IsOwing snapshot marks d.line d.mutator (d.name ∷ []) a a
  old_owing h = record { old = λ debt c. c; new = λ debt c. inl c; due = old_due h }

  pub one_owed : Owed snapshot marks d.line d.mutator (d.name ∷ []) a (owed_one snapshot marks a d)
  one_owed = by_test (is_new snapshot marks a d) refl
    where
      by_test : (b : Bool) → is_new snapshot marks a d ≡ b → Owed snapshot marks d.line d.mutator (d.name ∷ []) a (cond b after a)
      by_test true e =
          let p : (is_pushed_in snapshot d.name ≡ true) × ((not (mark_of marks d.name) && not (mark_of (set_of a.names d.mutator) d.name)) ≡ true) =
          and_parts (is_pushed_in snapshot d.name) (not (mark_of marks d.name) && not (mark_of (set_of a.names d.mutator) d.name)) e in
          let q : (not (mark_of marks d.name) ≡ true) × (not (mark_of (set_of a.names d.mutator) d.name) ≡ true) =
          and_parts (not (mark_of marks d.name)) (not (mark_of (set_of a.names d.mutator) d.name)) p.1 in
          let free : mark_of marks d.name ≡ false = unmarked (mark_of marks d.name) q.0 in
          record { accounts = new_accounts p.0 free; count = length-set a.debts d.mutator (queue_of a.debts d.mutator ++ d ∷ []); owing = new_owing p.0 free }
      by_test false e = record { accounts = k; count = refl; owing = old_owing e }

-- names that came due, and one more name
pub owing_more : (snapshot : World) (marks : List (List Bool)) (line m : ℕ) (names : List Name) (name : Name) (a b c : Accounts) →
    IsOwing snapshot marks line m names a b → IsOwing snapshot marks line m (name ∷ []) b c → IsOwing snapshot marks line m (names ++ name ∷ []) a c
owing_more snapshot marks line m names name a b c f g = record {
  old = λ d h. g.old d (f.old d h);
  new = λ d h. elim (g.new d h) [
    | inl x ↦ elim (f.new d x) [
      | inl y ↦ inl y
      | inr p ↦ inr (p.0, p.1, left d.name p.2)
    ]
    | inr p ↦ inr (p.0, p.1, right d.name p.2)
  ];
  due = λ n h.
      let p : Contains (names ++ name ∷ []) n × (is_pushed_in snapshot n ≡ true) = in_kept (is_pushed_in snapshot) (names ++ name ∷ []) n h in
      elim (Contains-append_cases names (name ∷ []) n p.0) [
        | inl old ↦ elim (f.due n (kept_in (is_pushed_in snapshot) names n old p.1)) [
          | inl x ↦ inl x
          | inr o ↦ inr (o.0, g.old o.0 o.1, o.2, o.3)
        ]
        | inr new ↦ g.due n (kept_in (is_pushed_in snapshot) (name ∷ []) n new p.1)
      ];
}
  where
    left : (n : Name) → Contains (filter (is_pushed_in snapshot) names) n → Contains (filter (is_pushed_in snapshot) (names ++ name ∷ [])) n
    left n h = let p : Contains names n × (is_pushed_in snapshot n ≡ true) = in_kept (is_pushed_in snapshot) names n h in
        kept_in (is_pushed_in snapshot) (names ++ name ∷ []) n (Contains-append_left names (name ∷ []) n p.0) p.1

    right : (n : Name) → Contains (filter (is_pushed_in snapshot) (name ∷ [])) n → Contains (filter (is_pushed_in snapshot) (names ++ name ∷ [])) n
    right n h = let p : Contains (name ∷ []) n × (is_pushed_in snapshot n ≡ true) = in_kept (is_pushed_in snapshot) (name ∷ []) n h in
        kept_in (is_pushed_in snapshot) (names ++ name ∷ []) n (Contains-append_right names (name ∷ []) n p.0) p.1

-- the next of the names came due
pub owed_more : (snapshot : World) (marks : List (List Bool)) (line m : ℕ) (names : List Name) (i : ℕ) (blank : Name) (a b c : Accounts) →
    i < length names → m < length a.debts → Owed snapshot marks line m (take i names) a b →
    c ≡ owed_one snapshot marks b (debt_of line m (get_or names i blank)) → Owed snapshot marks line m (take (i + 1) names) a c
owed_more snapshot marks line m names i blank a b c lt there o e =
    let d : Debt = debt_of line m (get_or names i blank) in
    let one : Owed snapshot marks line m (d.name ∷ []) b (owed_one snapshot marks b d) =
    one_owed snapshot marks b d o.accounts (subst (λ (n : ℕ). m < n) (sym o.count) there) in
    let more : Owed snapshot marks line m (take i names ++ d.name ∷ []) a (owed_one snapshot marks b d) = record {
      accounts = one.accounts;
      count = one.count ∙ o.count;
      owing = owing_more snapshot marks line m (take i names) d.name a b (owed_one snapshot marks b d) o.owing one.owing;
    } in
    subst (λ (x : Accounts). Owed snapshot marks line m (take (i + 1) names) a x) (sym e) (subst (λ (l : List Name).
    Owed snapshot marks line m l a (owed_one snapshot marks b d)) (sym (take_more names i blank lt)) more)

-- a queue with the same unpaid debts
pub same_all : (marks : List (List Bool)) (queues : List (List Debt)) (m : ℕ) (q : List Debt) → m < length queues →
    unpaid marks q ≡ unpaid marks (queue_of queues m) → unpaid marks (all_debts (set queues m q)) ≡ unpaid marks (all_debts queues)
same_all marks [] m q lt e = absurd (let l : m < 0 = lt in omega arith)
same_all marks (x ∷ queues) zero q lt e =
    filter-append (is_unpaid marks) q (all_debts queues) ∙ (ap (λ (l : List Debt). l ++ unpaid marks (all_debts queues)) e ∙
    sym (filter-append (is_unpaid marks) x (all_debts queues)))
same_all marks (x ∷ queues) (suc m) q lt e =
    filter-append (is_unpaid marks) x (all_debts (set queues m q)) ∙
    (ap (λ (l : List Debt). unpaid marks x ++ l) (same_all marks queues m q (let l : suc m < suc (length queues) = lt in omega arith) e) ∙
    sym (filter-append (is_unpaid marks) x (all_debts queues)))

-- paid debts left a queue
module _ (marks : List (List Bool)) (m : ℕ) (a b : Accounts) (lt : m < length a.debts) (f : IsForgotten marks m a b) where
  pub forgotten_same : unpaid marks (all_debts b.debts) ≡ unpaid marks (all_debts a.debts)
  forgotten_same = ap (λ (l : List (List Debt)). unpaid marks (all_debts l)) f.debts ∙ same_all marks a.debts m f.queue lt f.same

  pub forgotten_count : length b.debts ≡ length a.debts
  forgotten_count = ap (λ (l : List (List Debt)). length l) f.debts ∙ length-set a.debts m f.queue

  pub forgotten_queue : queue_of b.debts m ≡ f.queue
  forgotten_queue = ap (λ (l : List (List Debt)). queue_of l m) f.debts ∙ get_or-set_same a.debts m f.queue [] lt

  forgotten_other : (j : ℕ) → j ≢ m → queue_of b.debts j ≡ queue_of a.debts j
  forgotten_other j ne = ap (λ (l : List (List Debt)). queue_of l j) f.debts ∙ get_or-set_other a.debts m j f.queue [] ne

  fewer : (j : ℕ) (debt : Debt) → Contains (queue_of b.debts j) debt → Contains (queue_of a.debts j) debt
  fewer j debt c = elim (cases_eq j m) [
    | inl e ↦ subst (λ (i : ℕ). Contains (queue_of a.debts i) debt) (sym e) (f.fewer debt (subst (λ (l : List Debt).
        Contains l debt) forgotten_queue (subst (λ (i : ℕ). Contains (queue_of b.debts i) debt) e c)))
    | inr ne ↦ subst (λ (l : List Debt). Contains l debt) (forgotten_other j ne) c
  ]

  still : (j : ℕ) (debt : Debt) → Contains (queue_of a.debts j) debt → is_unpaid marks debt ≡ true → Contains (queue_of b.debts j) debt
  still j debt c free = elim (cases_eq j m) [
    | inl e ↦
        let counts : Contains (unpaid marks (queue_of a.debts m)) debt =
        kept_in (is_unpaid marks) (queue_of a.debts m) debt (subst (λ (i : ℕ). Contains (queue_of a.debts i) debt) e c) free in
        let there : Contains f.queue debt = (in_kept (is_unpaid marks) f.queue debt (subst (λ (l : List Debt). Contains l debt) (sym f.same) counts)).0 in
        subst (λ (i : ℕ). Contains (queue_of b.debts i) debt) (sym e) (subst (λ (l : List Debt). Contains l debt) (sym forgotten_queue) there)
    | inr ne ↦ subst (λ (l : List Debt). Contains l debt) (sym (forgotten_other j ne)) c
  ]

  pub forgotten_accounts : (snapshot : World) → AreAccounts marks snapshot a → AreAccounts marks snapshot b
  forgotten_accounts snapshot k = record {
    sets = ap (λ (l : List (List (List Bool))). length l) f.names ∙ (k.sets ∙ sym forgotten_count);
    places = λ j ltj. subst (λ (l : List (List (List Bool))).
        HasPlaces snapshot (set_of l j)) (sym f.names) (k.places j (subst (λ (n : ℕ). j < n) forgotten_count ltj));
    own = λ j debt c. k.own j debt (fewer j debt c);
    there = λ j debt c. k.there j debt (fewer j debt c);
    newest = λ j debt c. subst (λ (n : ℕ). debt.line ≤ n) (sym f.newest) (k.newest j debt (fewer j debt c));
    owes = λ j n c. elim (k.owes j n (subst (λ (l : List (List (List Bool))). mark_of (set_of l j) n ≡ true) f.names c)) [
      | inl x ↦ inl x
      | inr o ↦ elim (cases_Bool (mark_of marks o.0.name)) [
        | inl t ↦ inl (subst (IsMarked marks) o.2 t)
        | inr free ↦ inr (o.0, still j o.0 o.1 (ap not free), o.2)
      ]
    ];
  }

-- no names came due
pub owing_none : (snapshot : World) (marks : List (List Bool)) (line m : ℕ) (a b : Accounts) →
    unpaid marks (all_debts b.debts) ≡ unpaid marks (all_debts a.debts) → IsOwing snapshot marks line m [] a b
owing_none snapshot marks line m a b e = record {
  old = λ d c. subst (λ (l : List Debt). Contains l d) (sym e) c;
  new = λ d c. inl (subst (λ (l : List Debt). Contains l d) e c);
  due = λ n c. absurd (nothing_in n c);
}

pub new_debts : (snapshot : World) (marks : List (List Bool)) (a : Accounts) → AreNew snapshot a → unpaid marks (all_debts a.debts) ≡ []
new_debts snapshot marks a n = none (unpaid marks (all_debts a.debts)) (λ d c. let s : StandsIn marks a.debts d = stands marks a.debts d c in
    nothing_in d (subst (λ (l : List Debt). Contains l d) (n.queues s.m) s.there))
  where
    none : (l : List Debt) → ((d : Debt) → Contains l d → ⊥) → l ≡ []
    none [] never = refl
    none (x ∷ xs) never = absurd (never x (contains_head x xs))

-- the first unpaid debt of a mutator
pub none_own : (snapshot : World) (marks : List (List Bool)) (m : ℕ) (a : Accounts) → AreAccounts marks snapshot a →
    unpaid marks (queue_of a.debts m) ≡ [] → (d : Debt) → Contains (unpaid marks (all_debts a.debts)) d → d.mutator ≢ m
none_own snapshot marks m a k none d c own =
    let s : StandsIn marks a.debts d = stands marks a.debts d c in
    let is : s.m ≡ m = sym (k.own s.m d s.there) ∙ own in
    nothing_in d (subst (λ (l : List Debt). Contains l d) none (kept_in (is_unpaid marks) (queue_of a.debts m) d (subst (λ (i : ℕ).
    Contains (queue_of a.debts i) d) is s.there) s.free))

pub some_own : (snapshot : World) (marks : List (List Bool)) (m : ℕ) (a : Accounts) → AreAccounts marks snapshot a → (d : Debt) →
    IsEarliest (Contains (unpaid marks (queue_of a.debts m))) d →
    IsEarliest (λ x. Contains (unpaid marks (all_debts a.debts)) x × (x.mutator ≡ m)) d
some_own snapshot marks m a k d e =
    let p : Contains (queue_of a.debts m) d × (is_unpaid marks d ≡ true) = in_kept (is_unpaid marks) (queue_of a.debts m) d e.0 in (
      (unpaid_all marks a.debts m d p.0 p.1, k.own m d p.0),
      λ other o.
          let s : StandsIn marks a.debts other = stands marks a.debts other o.0 in
          let is : s.m ≡ m = sym (k.own s.m other s.there) ∙ o.1 in
          e.1 other (kept_in (is_unpaid marks) (queue_of a.debts m) other (subst (λ (i : ℕ). Contains (queue_of a.debts i) other) is s.there) s.free),
    )

-- an item is the same, whatever the default for a missing item
pub item_is : {A : Type 0} (xs ys : List A) (i : ℕ) (d d' : A) → xs ≡ ys → i < length ys → get_or xs i d ≡ get_or ys i d'
item_is xs ys i d d' e lt = ap (λ (l : List _). get_or l i d) e ∙ sym (get_or_from_slice_get ys i (get_or ys i d) d' (slice_get-get_or ys i d lt))

-- no mutator owes anything yet
no_queue : (n m : ℕ) → queue_of (replicate n []) m ≡ []
no_queue zero m = refl
no_queue (suc n) zero = refl
no_queue (suc n) (suc m) = no_queue n m

pub new_are : (snapshot : World) (a : Accounts) (n : ℕ) → a.debts ≡ replicate n [] → n ≡ length snapshot.mutators →
    length a.names ≡ length snapshot.mutators → All (HasPlaces snapshot) a.names → All (λ set. (name : Name) → mark_of set name ≡ false) a.names →
    AreNew snapshot a
new_are snapshot a n e is sets places free = record {
  queues = λ m. ap (λ (l : List (List Debt)). queue_of l m) e ∙ no_queue n m;
  count = ap (λ (l : List (List Debt)). length l) e ∙ (length-replicate n [] ∙ is);
  sets = sets;
  places = λ m lt. places m [] (subst (λ (k : ℕ). m < k) (sym sets) lt);
  free = λ m name. elim (cases_lt m (length a.names)) [
    | inl lt ↦ free m [] lt name
    | inr le ↦ ap (λ (set : List (List Bool)). mark_of set name) (get_or_past a.names m [] le)
  ];
}

-- the earliest debt after one more debt
pub least_more : (xs : List Debt) (o : Option Debt) (d e : Debt) → IsLeastIn xs o →
    ((x : Debt) → o ≡ Some x → ((e ≡ x) × (IsEarlier d x → ⊥)) ⊎ ((e ≡ d) × IsEarlier d x)) → (o ≡ None → e ≡ d) → IsLeastIn (xs ++ d ∷ []) (Some e)
least_more xs None d e h some none = (
  subst (λ (x : Debt). Contains (xs ++ d ∷ []) x) (sym (none refl)) (Contains-append_right xs (d ∷ []) d (contains_one d)),
  λ other c before. elim (Contains-append_cases xs (d ∷ []) other c) [
    | inl old ↦ absurd (nothing_in other (subst (λ (l : List Debt). Contains l other) h old))
    | inr new ↦ not_earlier_itself d (subst (λ (x : Debt). IsEarlier x d) (sym (one_is d other new)) (subst (λ (x : Debt). IsEarlier other x) (none refl) before))
  ],
)
least_more xs (Some x) d e h some none = elim (some x refl) [
  | inl p ↦ (
    subst (λ (y : Debt). Contains (xs ++ d ∷ []) y) (sym p.0) (Contains-append_left xs (d ∷ []) x h.0),
    λ other c before. elim (Contains-append_cases xs (d ∷ []) other c) [
      | inl old ↦ h.1 other old (subst (λ (y : Debt). IsEarlier other y) p.0 before)
      | inr new ↦ p.1 (subst (λ (y : Debt). IsEarlier y x) (sym (one_is d other new)) (subst (λ (y : Debt). IsEarlier other y) p.0 before))
    ],
  )
  | inr p ↦ (
    subst (λ (y : Debt). Contains (xs ++ d ∷ []) y) (sym p.0) (Contains-append_right xs (d ∷ []) d (contains_one d)),
    λ other c before. elim (Contains-append_cases xs (d ∷ []) other c) [
      | inl old ↦ h.1 other old (earlier_trans other d x (subst (λ (y : Debt). IsEarlier other y) p.0 before) p.1)
      | inr new ↦ not_earlier_itself d (subst (λ (y : Debt). IsEarlier y d) (sym (one_is d other new)) (subst (λ (y : Debt). IsEarlier other y) p.0 before))
    ],
  )
]

-- and after a debt that may be paid
pub least_paid : (marks : List (List Bool)) (before : List Debt) (o : Option Debt) (d : Debt) → mark_of marks d.name ≡ true → IsLeastIn before o →
    IsLeastIn (before ++ unpaid marks (d ∷ [])) o
least_paid marks before o d e h = subst (λ (l : List Debt). IsLeastIn l o) (sym (ap (λ (b : Bool). before ++ cond (not b) (d ∷ []) []) e ∙ append-nil before)) h

pub least_unpaid : (marks : List (List Bool)) (before : List Debt) (o : Option Debt) (d e : Debt) → mark_of marks d.name ≡ false →
    IsLeastIn before o → ((x : Debt) → o ≡ Some x → ((e ≡ x) × (IsEarlier d x → ⊥)) ⊎ ((e ≡ d) × IsEarlier d x)) → (o ≡ None → e ≡ d) →
    IsLeastIn (before ++ unpaid marks (d ∷ [])) (Some e)
least_unpaid marks before o d e free h some none = subst (λ (l : List Debt).
    IsLeastIn l (Some e)) (sym (ap (λ (b : Bool). before ++ cond (not b) (d ∷ []) []) free)) (least_more before o d e h some none)

-- the unpaid debts among the first of a queue, and one more debt
pub least_step : (marks : List (List Bool)) (debts : List Debt) (i : ℕ) (blank : Debt) (before : List Debt) (o : Option Debt) → i < length debts →
    IsLeastIn ((before ++ unpaid marks (take i debts)) ++ unpaid marks (get_or debts i blank ∷ [])) o →
    IsLeastIn (before ++ unpaid marks (take (i + 1) debts)) o
least_step marks debts i blank before o lt h = subst (λ (l : List Debt).
    IsLeastIn l o) (append_assoc before (unpaid marks (take i debts)) (unpaid marks (get_or debts i blank ∷ [])) ∙
    ap (λ (l : List Debt). before ++ l) (sym (ap (unpaid marks) (take_more debts i blank lt) ∙
    filter-append (is_unpaid marks) (take i debts) (get_or debts i blank ∷ [])))) h

-- all debts of the first queues, and the debts of one more queue
pub least_queue : (marks : List (List Bool)) (queues : List (List Debt)) (i : ℕ) (blank : List Debt) (o : Option Debt) → i < length queues →
    IsLeastIn (unpaid marks (all_debts (take i queues)) ++ unpaid marks (get_or queues i blank)) o →
    IsLeastIn (unpaid marks (all_debts (take (i + 1) queues))) o
least_queue marks queues i blank o lt h = subst (λ (l : List Debt).
    IsLeastIn l o) (sym (ap (λ (l : List (List Debt)). unpaid marks (all_debts l)) (take_more queues i blank lt) ∙
    (ap (unpaid marks) (flat_one (take i queues) (get_or queues i blank)) ∙
    filter-append (is_unpaid marks) (all_debts (take i queues)) (get_or queues i blank)))) h
  where
    flat_one : (xs : List (List Debt)) (q : List Debt) → all_debts (xs ++ q ∷ []) ≡ all_debts xs ++ q
    flat_one [] q = append-nil q
    flat_one (x ∷ xs) q = ap (λ (l : List Debt). x ++ l) (flat_one xs q) ∙ sym (append_assoc x (all_debts xs) q)

-- a debt has no line above the newest
pub may_owe : (snapshot : World) (marks : List (List Bool)) (a : Accounts) (n : ℕ) (d : Debt) → AreAccounts marks snapshot a →
    Contains (unpaid marks (all_debts a.debts)) d → d.line ≡ n → leb n a.newest ≡ true
may_owe snapshot marks a n d k c e =
    let s : StandsIn marks a.debts d = stands marks a.debts d c in
    let le : d.line ≤ a.newest = k.newest s.m d s.there in
    le-leb n a.newest (omega (arith, le, e))
