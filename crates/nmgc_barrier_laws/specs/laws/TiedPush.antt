-- A push of any name keeps a watch and a state tied, and so does the marker; and the end is exact.
use Rattle.std.specs.Prelude.{◌≡◌, ◌<◌, ◌∷◌, ◌++◌, ◌↔◌}
use Rattle.nmgc_barrier_laws.specs.laws.Vocabulary.{ℕ, List, [], zero, suc, length, replicate, set, refl, sym, ap, subst, ◌∙◌, arith, length-set, inl, inr, Option, Some, None, IsSome, Contains, All, length-replicate, All-nil, All-cons, Contains-append_left, Contains-append_right, Contains-append_cases, cases_eq, Name, Value, World, node_of, IsWorld, IsLive, IsDead, IsKept, Lists, contains_head, nothing_in, contains_one, one_is, name_cases, Entry, State, names_of, mark_name, mark_read, mark_values, root_values, unmarked, oldest_first, opening, read_at, IsPossible, AreEmpty, after_scan, advanced, IsClosing, MayHold, IsSafe, Facts, owed, pushed, marked, names_same, names_other, live_more, mark_cases, mark_facts, scan_facts, closing_is_exact, IsExactClosing, IsShuffled, Debt, Cycle, Owes, IsPushed, IsTook, MarksName, watching, opening_facts, no_names, names_in, IsOnItsWay}
use Rattle.nmgc_world_spec.specs.declared.value.Value.TheVariants as value
use Rattle.nmgc_world_spec.specs.Reach as reach
use Rattle.nmgc_snapshot_laws.specs.declared.event.Event.TheVariants as event
use Rattle.nmgc_barrier_laws.specs.laws.{Floating.floated, Floating.floated_facts, Laxer.shuffled_facts, Tied.listed_debt, Tied.debt_listed, Tied.all_names, Tied.IsTied}

module _ (h next : Cycle) (s : State) (t : IsTied h s) (name : Name) (w : IsPushed h name next) (m : ℕ) (place : m < length s.pushed) where
  abbrev owing : List (List Name)
  owing = set (replicate (length s.owed) []) m (names_in next.debts)

  abbrev over : State
  over = floated s t.facts m place name

  abbrev pub after_push : State
  after_push = record over { owed = owing }

  there : m < length (replicate {A = List Name} (length s.owed) [])
  there = let a : length (replicate {A = List Name} (length s.owed) []) ≡ length s.owed = length-replicate (length s.owed) [] in
      let b : length s.owed ≡ length s.world.mutators = t.facts.base.owed_lists in
      let c : length s.pushed ≡ length s.world.mutators = t.facts.base.pushed_lists in let lt : m < length s.pushed = place in omega arith

  own_names : names_of owing m ≡ names_in next.debts
  own_names = names_same (replicate (length s.owed) []) m (names_in next.debts) there

  other_names : (k : ℕ) → (k ≡ m → ⊥) → names_of owing k ≡ []
  other_names k ne = names_other (replicate (length s.owed) []) m k (names_in next.debts) ne ∙ no_names (length s.owed) k

  own_pushed : Contains (names_of over.pushed m) name
  own_pushed = rw (names_same s.pushed m (names_of s.pushed m ++ name ∷ []) place) (Contains-append_right (names_of s.pushed m) (name ∷
      []) name (contains_one name))

  more_pushed : (k : ℕ) (n : Name) → Contains (names_of s.pushed k) n → Contains (names_of over.pushed k) n
  more_pushed k n c = elim (cases_eq k m) [
    | inl e ↦ rw (e, names_same s.pushed m (names_of s.pushed m ++ name ∷ []) place) (Contains-append_left (names_of s.pushed m) (name ∷ []) n (rw e at c))
    | inr ne ↦ rw (names_other s.pushed m k (names_of s.pushed m ++ name ∷ []) ne) c
  ]

  held_on : (debt : Debt) → Contains next.debts debt → MayHold over debt.name
  held_on debt c there' = live_more s.snapshot s.opened (name ∷ []) debt.name (t.held debt ((w.debts debt).0 c).0 there')

  debts_may : All (MayHold over) (names_in next.debts)
  debts_may = all_names (MayHold over) (names_in next.debts) (λ n k.
      let p : (debt : Debt) × Contains next.debts debt × (debt.name ≡ n) = debt_listed next.debts n k in subst (MayHold over) p.2 (held_on p.0 p.1))

  owing_may : (k : ℕ) → All (MayHold over) (names_of owing k)
  owing_may k = elim (cases_eq k m) [
    | inl e ↦ subst (λ (j : ℕ). All (MayHold over) (names_of owing j)) (sym e) (subst (All (MayHold over)) (sym own_names) debts_may)
    | inr ne ↦ subst (All (MayHold over)) (sym (other_names k ne)) (All-nil (MayHold over))
  ]

  safe_on : (n : Name) → IsSafe over n → IsSafe after_push n
  safe_on n (marked c) = marked c
  safe_on n (pushed k c) = pushed k c
  safe_on n (owed k c) = elim (name_cases n name) [
    | inl e ↦ pushed m (subst (λ (x : Name). Contains (names_of over.pushed m) x) (sym e) own_pushed)
    | inr ne ↦
        let o : Owes h n = t.only k n c in
        let stays : Contains next.debts o.0 = (w.debts o.0).1 (o.1, λ e. ne (sym o.2 ∙ e)) in
        owed m (subst (λ (l : List Name). Contains l n) (sym own_names) (subst (λ (x : Name).
        Contains (names_in next.debts) x) o.2 (listed_debt next.debts o.0 stays)))
  ]

  shuffles : IsShuffled over after_push
  shuffles = record {
    rest = refl;
    queue = λ entry. (λ c. c, λ c. c);
    owed_lists = length-set (replicate (length s.owed) []) m (names_in next.debts) ∙ length-replicate (length s.owed) [];
    pushed_lists = refl;
    owed = owing_may;
    pushed = (floated_facts s t.facts m place name).base.pushed;
    safe = λ n known k. safe_on n k;
  }

  is_opened : next.opened ≡ h.opened
  is_opened = ap (λ (x : Cycle). x.opened) w.rest

  pub tied_push : IsTied next after_push
  tied_push = record {
    facts = shuffled_facts over (floated_facts s t.facts m place name) after_push shuffles;
    closed = t.closed;
    is_open = t.is_open;
    world = t.world ∙ sym (ap (λ (x : Cycle). x.world) w.rest);
    snapshot = t.snapshot ∙ sym (ap (λ (x : Cycle). x.snapshot) w.rest);
    finalised = t.finalised ∙ sym (ap (λ (x : Cycle). x.finalised) w.rest);
    opened = λ n there'. (
      λ c. elim (Contains-append_cases s.opened (name ∷ []) n c) [
        | inl old ↦ elim ((t.opened n there').0 old) [ inl a ↦ inl (rw is_opened a) | inr b ↦ inr ((w.remembered n).1 (inl b)) ]
        | inr k ↦ inr ((w.remembered n).1 (inr (sym (one_is name n k), subst (λ (v : World). IsSome (node_of v n)) t.snapshot there')))
      ],
      λ c. elim c [
        | inl a ↦ Contains-append_left s.opened (name ∷ []) n ((t.opened n there').1 (inl (rw is_opened at a)))
        | inr b ↦ elim ((w.remembered n).0 b) [
          | inl old ↦ Contains-append_left s.opened (name ∷ []) n ((t.opened n there').1 (inr old))
          | inr k ↦ Contains-append_right s.opened (name ∷ []) n (subst (λ (x : Name). Contains (name ∷ []) x) (sym k.0) (contains_one name))
        ]
      ],
    );
    remembered = λ n r known. elim ((w.remembered n).0 r) [
      | inl old ↦ elim (t.remembered n old known) [ inl c ↦ inl c | inr k ↦ inr (k.0, more_pushed k.0 n k.1) ]
      | inr k ↦ inr (m, subst (λ (x : Name). Contains (names_of over.pushed m) x) (sym k.0) own_pushed)
    ];
    only = λ k n c. elim (cases_eq k m) [
      | inl e ↦ debt_listed next.debts n (subst (λ (l : List Name). Contains l n) own_names (subst (λ (j : ℕ). Contains (names_of owing j) n) e c))
      | inr ne ↦ absurd (nothing_in n (subst (λ (l : List Name). Contains l n) (other_names k ne) c))
    ];
    held = held_on;
  }

-- the marker's own steps: they mark more, and leave the owed and pushed names as they are
pub record MarksOn (s u : State) : Type 0 where
  pub world : u.world ≡ s.world
  pub snapshot : u.snapshot ≡ s.snapshot
  pub opened : u.opened ≡ s.opened
  pub finalised : u.finalised ≡ s.finalised
  pub is_closed : u.is_closed ≡ s.is_closed
  pub owed : u.owed ≡ s.owed
  pub pushed : u.pushed ≡ s.pushed
  pub marked : (n : Name) → Contains s.marked n → Contains u.marked n

pub marks_same : (s : State) → MarksOn s s
marks_same s = record { world = refl; snapshot = refl; opened = refl; finalised = refl; is_closed = refl; owed = refl; pushed = refl; marked = λ n c. c }

pub marks_name : (s : State) (name : Name) → MarksOn s (mark_name s name)
marks_name s name = mark_cases (MarksOn s) s name (λ e. record {
  world = refl;
  snapshot = refl;
  opened = refl;
  finalised = refl;
  is_closed = refl;
  owed = refl;
  pushed = refl;
  marked = λ n c. Contains-append_left s.marked (name ∷ []) n c;
}) (λ e. marks_same s)

marks_read : (s : State) (o : Option Value) → MarksOn s (mark_read s o)
marks_read s None = marks_same s
marks_read s (Some value.Nil) = marks_same s
marks_read s (Some (value.Number n)) = marks_same s
marks_read s (Some (value.Ref name)) = marks_name s name

marks_advanced : (s u : State) (entry : Entry) (rest : List Entry) → MarksOn (record s { queue = rest }) u → MarksOn s (advanced u entry)
marks_advanced s u entry rest k = record {
  world = k.world;
  snapshot = k.snapshot;
  opened = k.opened;
  finalised = k.finalised;
  is_closed = k.is_closed;
  owed = k.owed;
  pushed = k.pushed;
  marked = k.marked;
}

pub marks_scan : (s : State) (queue : List Entry) → MarksOn s (after_scan s queue)
marks_scan s [] = marks_same s
marks_scan s (entry ∷ rest) = marks_advanced s _ entry rest (marks_read (record s { queue = rest }) (read_at (node_of s.world entry.name) entry.position))

may_on : (s u : State) (name : Name) → u.snapshot ≡ s.snapshot → u.opened ≡ s.opened → MayHold s name → MayHold u name
may_on s u name e o h there = rw (e, o) (h (rw e at there))

tied_on : (h : Cycle) (s u : State) → IsTied h s → Facts u → MarksOn s u → IsTied h u
tied_on h s u t f k = record {
  facts = f;
  closed = subst IsWorld (sym k.world) t.closed;
  is_open = k.is_closed ∙ t.is_open;
  world = k.world ∙ t.world;
  snapshot = k.snapshot ∙ t.snapshot;
  finalised = k.finalised ∙ t.finalised;
  opened = λ n there. (λ c. (t.opened n (rw k.snapshot at there)).0 (rw k.opened at c), λ c. rw k.opened ((t.opened n (rw k.snapshot at there)).1 c));
  remembered = λ n r there. elim (t.remembered n r (rw k.snapshot at there)) [ inl c ↦ inl (k.marked n c) | inr p ↦ inr (p.0, rw k.pushed p.1) ];
  only = λ m n c. t.only m n (rw k.owed at c);
  held = λ debt c. may_on s u debt.name k.snapshot k.opened (t.held debt c);
}

pub tied_mark : (h : Cycle) (s : State) (name : Name) → IsTied h s → MayHold s name → IsTied h (mark_name s name)
tied_mark h s name t may = tied_on h s (mark_name s name) t (mark_facts s name t.facts may) (marks_name s name)

pub tied_scan : (h : Cycle) (s : State) → IsTied h s → IsTied h (after_scan s s.queue)
tied_scan h s t = tied_on h s (after_scan s s.queue) t (scan_facts s t.facts t.closed s.queue refl) (marks_scan s s.queue)

-- without debts nothing is owed
pub nothing_owed : (h : Cycle) (s : State) → IsTied h s → h.debts ≡ [] → (m : ℕ) → names_of s.owed m ≡ []
nothing_owed h s t none m = by_list (names_of s.owed m) refl
  where
    by_list : (l : List Name) → names_of s.owed m ≡ l → l ≡ []
    by_list [] e = refl
    by_list (x ∷ xs) e = let o : Owes h x = t.only m x (subst (λ (l : List Name). Contains l x) (sym e) (contains_head x xs)) in
        absurd (nothing_in o.0 (subst (λ (l : List Debt). Contains l o.0) none o.1))

-- two lists with the same names of a world keep the same names live
pub live_same : (w : World) (a b : List Name) → ((n : Name) → IsSome (node_of w n) → Contains a n → Contains b n) → (n : Name) → IsLive w a n → IsLive w b n
live_same w a b k n (reach.root n' r) = reach.root n' r
live_same w a b k n (reach.further n' c there) = reach.further n' (k n' there c) there
live_same w a b k n (reach.field m target l r) = reach.field m target (live_same w a b k m l) r
live_same w a b k n (reach.plain_key weak target parts alive plain kept) = reach.plain_key weak target parts alive plain kept
live_same w a b k n (reach.live_key weak target key parts alive is l kept) = reach.live_key weak target key parts alive is (live_same w a b k key l) kept

abbrev pub dead_same : (w : World) (a b fin : List Name) → ((n : Name) → IsSome (node_of w n) → Contains b n → Contains a n) → (weak : Name) →
    IsDead w a fin weak → IsDead w b fin weak
dead_same w a b fin k weak d = record {
  parts = d.parts;
  alive = d.alive;
  not_finalised = d.not_finalised;
  key = d.key;
  key_is = d.key_is;
  lost = λ l. d.lost (live_same w b a k d.key l);
}

pub kept_same : (w : World) (a b fin : List Name) → ((n : Name) → IsSome (node_of w n) → Contains a n ↔ Contains b n) → (n : Name) → IsKept w a fin n →
    IsKept w b fin n
kept_same w a b fin k n (IsKept.live n' l) = IsKept.live n' (live_same w a b (λ x there. (k x there).0) n' l)
kept_same w a b fin k n (IsKept.finaliser weak target d is) = IsKept.finaliser weak target (dead_same w a b fin (λ x there. (k x there).1) weak d) is
kept_same w a b fin k n (IsKept.field m target h r) = IsKept.field m target (kept_same w a b fin k m h) r

-- the names of the snapshot that count as opened are the opened and the remembered names
opened_both : (h : Cycle) (s : State) → IsTied h s → (n : Name) → IsSome (node_of s.snapshot n) → Contains s.opened n ↔ Contains (h.opened ++ h.remembered) n
opened_both h s t n there = (
  λ k. elim ((t.opened n there).0 k) [ inl o ↦ Contains-append_left h.opened h.remembered n o | inr r ↦ Contains-append_right h.opened h.remembered n r ],
  λ k. (t.opened n there).1 (Contains-append_cases h.opened h.remembered n k),
)

-- an end from a tied state marks exactly `MarksName`
pub tied_end : (h : Cycle) (s next : State) → IsTied h s → IsPossible s event.Close → IsClosing s next → (name : Name) → Contains next.marked name ↔
    MarksName h name
tied_end h s next t possible c name =
    let x : IsExactClosing s next c = closing_is_exact s next t.facts possible c in
    let a : (n : Name) → IsSome (node_of s.snapshot n) → Contains s.opened n ↔ Contains (h.opened ++ h.remembered) n = opened_both h s t in (
      λ k. subst (λ (v : World). IsKept v (h.opened ++ h.remembered) h.finalised name) t.snapshot (subst (λ (l : List Name).
          IsKept s.snapshot (h.opened ++ h.remembered) l name) t.finalised (kept_same s.snapshot s.opened (h.opened ++
          h.remembered) s.finalised a name ((x.kept name).0 k))),
      λ k. (x.kept name).1 (kept_same s.snapshot (h.opened ++ h.remembered) s.opened s.finalised (λ n there. (
        (a n there).1,
        (a n there).0,
      )) name (subst (λ (l : List Name). IsKept s.snapshot (h.opened ++
          h.remembered) l name) (sym t.finalised) (subst (λ (v : World). IsKept v (h.opened ++ h.remembered) h.finalised name) (sym t.snapshot) k))),
    )

-- the weak pointers that die in an end from a tied state are those dead by the opened and the remembered names
pub tied_dies : (h : Cycle) (s next : State) → IsTied h s → IsPossible s event.Close → (c : IsClosing s next) →
    Lists (IsDead h.snapshot (h.opened ++ h.remembered) h.finalised) c.dead
tied_dies h s next t possible c =
    let x : IsExactClosing s next c = closing_is_exact s next t.facts possible c in
    let a : (n : Name) → IsSome (node_of s.snapshot n) → Contains s.opened n ↔ Contains (h.opened ++ h.remembered) n = opened_both h s t in
    let both : Lists (IsDead s.snapshot (h.opened ++ h.remembered) s.finalised) c.dead = record {
      ordered = x.dead.ordered;
      sound = λ n k. dead_same s.snapshot s.opened (h.opened ++ h.remembered) s.finalised (λ m there. (a m there).1) n (x.dead.sound n k);
      complete = λ n d. x.dead.complete n (dead_same s.snapshot (h.opened ++ h.remembered) s.opened s.finalised (λ m there. (a m there).0) n d);
    } in
    subst (λ (v : World). Lists (IsDead v (h.opened ++ h.remembered) h.finalised) c.dead) t.snapshot (subst (λ (l : List Name).
    Lists (IsDead s.snapshot (h.opened ++ h.remembered) l) c.dead) t.finalised both)

-- waiting names in another order, or without pushed names that are marked
pub tied_order : (h : Cycle) (s next : State) → IsTied h s → IsShuffled s next → next.owed ≡ s.owed →
    ((n : Name) → IsSome (node_of s.snapshot n) → IsOnItsWay s n →
    IsOnItsWay (record s { queue = next.queue; owed = next.owed; pushed = next.pushed }) n) →
    IsTied h (record s { queue = next.queue; owed = next.owed; pushed = next.pushed })
tied_order h s next t k same way = record {
  facts = shuffled_facts s t.facts next k;
  closed = t.closed;
  is_open = t.is_open;
  world = t.world;
  snapshot = t.snapshot;
  finalised = t.finalised;
  opened = t.opened;
  remembered = λ n r there. way n there (t.remembered n r there);
  only = λ m n c. t.only m n (rw same at c);
  held = t.held;
}

-- marking begins
pub opening_marks : (s : State) (values : List Value) → MarksOn s (mark_values s values)
opening_marks s [] = marks_same s
opening_marks s (value.Nil ∷ values) = opening_marks s values
opening_marks s (value.Number n ∷ values) = opening_marks s values
opening_marks s (value.Ref name ∷ values) =
    let a : MarksOn s (mark_name s name) = marks_name s name in
    let b : MarksOn (mark_name s name) (mark_values (mark_name s name) values) = opening_marks (mark_name s name) values in
    record {
      world = b.world ∙ a.world;
      snapshot = b.snapshot ∙ a.snapshot;
      opened = b.opened ∙ a.opened;
      finalised = b.finalised ∙ a.finalised;
      is_closed = b.is_closed ∙ a.is_closed;
      owed = b.owed ∙ a.owed;
      pushed = b.pushed ∙ a.pushed;
      marked = λ n c. b.marked n (a.marked n c);
    }

pub tied_opening : (w : World) → IsWorld w → IsTied (watching w) (opening w)
tied_opening w h =
    let k : MarksOn (unmarked oldest_first w) (opening w) = opening_marks (unmarked oldest_first w) (root_values w) in
    record {
      facts = opening_facts oldest_first w h;
      closed = subst IsWorld (sym k.world) h;
      is_open = k.is_closed;
      world = k.world;
      snapshot = k.snapshot;
      finalised = k.finalised;
      opened = λ n there. (λ c. absurd (nothing_in n (rw k.opened at c)), λ c. elim c [ inl a ↦ absurd (nothing_in n a) | inr b ↦ absurd (nothing_in n b) ]);
      remembered = λ n r there. absurd (nothing_in n r);
      only = λ m n c. absurd (nothing_in n (subst (λ (l : List Name). Contains l n) (no_names (length w.mutators) m) (rw k.owed at c)));
      held = λ debt c. absurd (nothing_in debt c);
    }

-- a report of a name that the marker took
pub tied_took : (h next : Cycle) (s : State) → IsTied h s → (name : Name) → IsTook h name next → IsTied next s
tied_took h next s t name w = subst (λ (x : Cycle). IsTied x s) (sym w.rest) (record {
  facts = t.facts;
  closed = t.closed;
  is_open = t.is_open;
  world = t.world;
  snapshot = t.snapshot;
  finalised = t.finalised;
  opened = t.opened;
  remembered = t.remembered;
  only = t.only;
  held = t.held;
})

-- without debts, the end can happen once the marker has taken and read all
pub tied_possible : (h : Cycle) (s : State) → IsTied h s → h.debts ≡ [] → s.queue ≡ [] → AreEmpty s.pushed → IsPossible s event.Close
tied_possible h s t none empty all = (t.is_open, empty, nothing_listed s.owed (nothing_owed h s t none), all)
  where
    nothing_listed : (lists : List (List Name)) → ((m : ℕ) → names_of lists m ≡ []) → AreEmpty lists
    nothing_listed [] each = All-nil (λ (names : List Name). names ≡ [])
    nothing_listed (l ∷ ls) each = All-cons (λ (names : List Name). names ≡ []) l ls (each zero) (nothing_listed ls (λ m. each (suc m)))
