-- Each step of a cycle with later roots, and of the marker beside it, keeps the two tied, so an end is exact.
use Rattle.std.proofs.Common.{◌≡◌, ◌<◌, ℕ, List, [], ◌∷◌, ◌++◌, zero, suc, length, get_or, set, replicate, refl, sym, ap, subst, ◌∙◌, arith, length-set, inl, inr, Bool, true, false, Option, Some, None, if◌then◌else◌}
use Rattle.std.specs.Prelude.{IsSome, Contains, All, ◌↔◌}
use Rattle.std.proofs.{lemmas.List.length-replicate, lemmas.List.Elements.All-nil, lemmas.List.Elements.All-cons, lemmas.List.Elements.Contains-append_left, lemmas.List.Elements.Contains-append_right, lemmas.List.Elements.Contains-append_cases, lemmas.Bool.cases_eq}
use Rattle.nmgc_world_spec.specs.{declared.value.Name.Name, declared.value.Value.Value, declared.node.Parts.Parts, declared.node.Node.Node, World.World, World.node_of, Known.IsWorld, Reach.RefersTo, Reach.IsDead, Reach.IsKept, Reach.Lists, Reach.closed, laws.Orders.name_cases}
use Rattle.nmgc_world_spec.specs.declared.value.Value.TheVariants as value
use Rattle.nmgc_lists.specs.laws.Items.{contains_head, nothing_in, contains_one, one_is}
use Rattle.nmgc_snapshot_laws.specs.{declared.event.Entry.Entry, State.State, State.names_of, State.mark_name, State.mark_read, State.is_new, State.with_mark, Scan.read_at, Scan.moved_on, Machine.IsPossible, Machine.AreEmpty, Machine.after_scan, Machine.advanced, Run.IsExactClosing, Facts.MayHold, Facts.IsSafe, Facts.Facts, Facts.owed, Facts.pushed, Facts.marked, laws.Listed.names_same, laws.Listed.names_other, laws.Lives.live_more, laws.Marking.mark_facts, laws.Scans.scan_facts, laws.Runs.closing_is_exact}
use Rattle.nmgc_snapshot_laws.specs.declared.event.Event.TheVariants as event
use Rattle.nmgc_snapshot_laws.specs.Closing.{IsWaiting, IsUnmarked, IsRevived, IsMarkedFirst, IsDying, IsRescued, IsMarkedLast, IsClosing}
use Rattle.nmgc_snapshot_laws.specs.Closing as closing
use Rattle.nmgc_barrier_laws.specs.{declared.debt.Debt.Debt, Lax.IsShuffled, Cycle.Cycle, Cycle.Owes, Cycle.IsPushed, Barrier.names_in, Barrier.IsOnItsWay, Barrier.after_pushing, Barrier.IsSorted, Barrier.HasFinished, Barrier.EndsExactly, Hybrid.Hybrid, Hybrid.hidden, Hybrid.IsPushedIn, Hybrid.IsTookIn, Hybrid.BesideIn, Hybrid.HybridJointTheorem, laws.Floating.floated, laws.Floating.floated_facts, laws.Laxer.shuffled_facts, laws.Tied.listed_debt, laws.Tied.debt_listed, laws.Tied.all_names, laws.TiedPush.MarksOn, laws.TiedPush.marks_name, laws.TiedPush.marks_scan, laws.TiedPush.kept_same, laws.TiedPush.dead_same, laws.Veil.hidden_node, laws.HybridCommand.veiled, laws.HybridFacts.hidden_world, laws.HybridTied.IsTiedIn, laws.HybridTied.IsIn, laws.HybridTied.shown_in, laws.HybridTied.command_tied, laws.HybridTied.scanned_tied, laws.HybridTied.begin_tied, laws.HybridTied.begin_at_once_tied, laws.HandedOver.handed_tied, laws.PutBack.put_tied}
use Rattle.nmgc_barrier_laws.specs.Hybrid as hybrid

-- the marker's steps read no registers
veil_if : (shown : ℕ → Bool) (b : Bool) (x y : State) → (if b then veiled shown x else veiled shown y) ≡ veiled shown (if b then x else y)
veil_if shown true x y = refl
veil_if shown false x y = refl

mark_veiled : (shown : ℕ → Bool) (s : State) (name : Name) → mark_name (veiled shown s) name ≡ veiled shown (mark_name s name)
mark_veiled shown s name = veil_if shown (is_new s name) (with_mark s name) s

read_veiled : (shown : ℕ → Bool) (s : State) (o : Option Value) → mark_read (veiled shown s) o ≡ veiled shown (mark_read s o)
read_veiled shown s None = refl
read_veiled shown s (Some value.Nil) = refl
read_veiled shown s (Some (value.Number n)) = refl
read_veiled shown s (Some (value.Ref name)) = mark_veiled shown s name

advance_veiled : (shown : ℕ → Bool) (s : State) (entry : Entry) → advanced (veiled shown s) entry ≡ veiled shown (advanced s entry)
advance_veiled shown s entry =
    ap (λ (o : Option Node). record (veiled shown s) { queue = moved_on o entry ++ s.queue }) (hidden_node shown s.world entry.name)

scan_veiled : (shown : ℕ → Bool) (s : State) (queue : List Entry) → after_scan (veiled shown s) queue ≡ veiled shown (after_scan s queue)
scan_veiled shown s [] = refl
scan_veiled shown s (entry ∷ rest) =
    let at : ℕ = entry.position in
    let t : State = record s { queue = rest } in
    let a : mark_read (veiled shown t) (read_at (node_of (hidden shown s.world) entry.name) at) ≡
    veiled shown (mark_read t (read_at (node_of s.world entry.name) at)) =
    ap (λ (o : Option Node). mark_read (veiled shown t) (read_at o at)) (hidden_node shown s.world entry.name) ∙
    read_veiled shown t (read_at (node_of s.world entry.name) at) in
    ap (λ (u : State). advanced u entry) a ∙ advance_veiled shown (mark_read t (read_at (node_of s.world entry.name) at)) entry

tied_on : (h : Hybrid) (s u : State) → IsTiedIn h s → Facts (veiled (shown_in h) u) → MarksOn s u → IsTiedIn h u
tied_on h s u t f k = record {
  facts = f;
  closed = subst IsWorld (sym k.world) t.closed;
  is_open = k.is_closed ∙ t.is_open;
  world = k.world ∙ t.world;
  snapshot = k.snapshot ∙ t.snapshot;
  finalised = k.finalised ∙ t.finalised;
  opened = λ n there. (λ c. (t.opened n (rw k.snapshot at there)).0 (rw k.opened at c), λ c. rw k.opened ((t.opened n (rw k.snapshot at there)).1 c));
  remembered = λ n r there. elim (t.remembered n r (rw k.snapshot at there)) [ inl c ↦ inl (k.marked n c) | inr p ↦ inr (p.0, rw k.pushed p.1) ];
  only = λ m n c. t.only m n (rw k.owed at c);
}

mark_tied : (h : Hybrid) (s : State) (name : Name) → IsTiedIn h s → MayHold s name → IsTiedIn h (mark_name s name)
mark_tied h s name t may = tied_on h s (mark_name s name) t
    (subst Facts (mark_veiled (shown_in h) s name) (mark_facts (veiled (shown_in h) s) name t.facts may)) (marks_name s name)

scan_tied : (h : Hybrid) (s : State) → IsTiedIn h s → IsTiedIn h (after_scan s s.queue)
scan_tied h s t = tied_on h s (after_scan s s.queue) t
    (subst Facts (scan_veiled (shown_in h) s s.queue)
    (scan_facts (veiled (shown_in h) s) t.facts (hidden_world (shown_in h) s.world t.closed) s.queue refl)) (marks_scan s s.queue)

sort_tied : (h : Hybrid) (s next : State) → IsTiedIn h s → IsSorted s next → IsTiedIn h next
sort_tied h s next t k = subst (IsTiedIn h) (sym k.shuffled.rest) (record {
  facts = shuffled_facts (veiled (shown_in h) s) t.facts (veiled (shown_in h) next) (record {
    rest = ap (veiled (shown_in h)) k.shuffled.rest;
    queue = k.shuffled.queue;
    owed_lists = k.shuffled.owed_lists;
    pushed_lists = k.shuffled.pushed_lists;
    owed = k.shuffled.owed;
    pushed = k.shuffled.pushed;
    safe = λ n there o. to_veiled next n (k.shuffled.safe n there (of_veiled s n o));
  });
  closed = t.closed;
  is_open = t.is_open;
  world = t.world;
  snapshot = t.snapshot;
  finalised = t.finalised;
  opened = t.opened;
  remembered = λ n r there. subst (λ (u : State). IsOnItsWay u n) k.shuffled.rest (k.way n there (t.remembered n r there));
  only = λ m n c. t.only m n (rw k.owed at c);
})
  where
    to_veiled : (u : State) (n : Name) → IsSafe u n → IsSafe (veiled (shown_in h) u) n
    to_veiled u n (marked c) = marked c
    to_veiled u n (owed j c) = owed j c
    to_veiled u n (pushed j c) = pushed j c

    of_veiled : (u : State) (n : Name) → IsSafe (veiled (shown_in h) u) n → IsSafe u n
    of_veiled u n (marked c) = marked c
    of_veiled u n (owed j c) = owed j c
    of_veiled u n (pushed j c) = pushed j c

-- a push
module _ (h next : Hybrid) (s : State) (t : IsTiedIn h s) (name : Name) (w' : IsPushedIn h name next) (m : ℕ) (place : m < length s.pushed) where
  abbrev w : IsPushed h.watch name next.watch
  w = w'.push

  abbrev V : State
  V = veiled (shown_in h) s

  abbrev owing : List (List Name)
  owing = set (replicate (length s.owed) []) m (names_in next.watch.debts)

  abbrev up : State
  up = floated V t.facts m place name

  abbrev after_push : State
  after_push = record up { owed = owing }

  there : m < length (replicate {A = List Name} (length s.owed) [])
  there = let a : length (replicate {A = List Name} (length s.owed) []) ≡ length s.owed = length-replicate (length s.owed) [] in
      let b : length s.owed ≡ length V.world.mutators = t.facts.base.owed_lists in
      let c : length s.pushed ≡ length V.world.mutators = t.facts.base.pushed_lists in let lt : m < length s.pushed = place in omega arith

  own_names : names_of owing m ≡ names_in next.watch.debts
  own_names = names_same (replicate (length s.owed) []) m (names_in next.watch.debts) there

  other_names : (k : ℕ) → (k ≡ m → ⊥) → names_of owing k ≡ []
  other_names k ne = names_other (replicate (length s.owed) []) m k (names_in next.watch.debts) ne ∙
      Rattle.nmgc_snapshot_laws.specs.laws.Openings.no_names (length s.owed) k

  own_pushed : Contains (names_of up.pushed m) name
  own_pushed = rw (names_same s.pushed m (names_of s.pushed m ++ name ∷ []) place) (Contains-append_right (names_of s.pushed m) (name ∷
      []) name (contains_one name))

  more_pushed : (k : ℕ) (n : Name) → Contains (names_of s.pushed k) n → Contains (names_of up.pushed k) n
  more_pushed k n c = elim (cases_eq k m) [
    | inl e ↦ rw (e, names_same s.pushed m (names_of s.pushed m ++ name ∷ []) place) (Contains-append_left (names_of s.pushed m) (name ∷ []) n (rw e at c))
    | inr ne ↦ rw (names_other s.pushed m k (names_of s.pushed m ++ name ∷ []) ne) c
  ]

  -- a name that is still due floats
  held_on : (debt : Debt) → Contains next.watch.debts debt → MayHold up debt.name
  held_on debt c there' = live_more s.snapshot s.opened (name ∷ []) debt.name
      (Rattle.nmgc_world_spec.specs.Reach.further debt.name ((t.opened debt.name there').1 (inr (inr (debt, ((w.debts debt).0 c).0, refl)))) there')

  debts_may : All (MayHold up) (names_in next.watch.debts)
  debts_may = all_names (MayHold up) (names_in next.watch.debts) (λ n k.
      let p : (debt : Debt) × Contains next.watch.debts debt × (debt.name ≡ n) = debt_listed next.watch.debts n k in subst (MayHold up) p.2 (held_on p.0 p.1))

  owing_may : (k : ℕ) → All (MayHold up) (names_of owing k)
  owing_may k = elim (cases_eq k m) [
    | inl e ↦ subst (λ (j : ℕ). All (MayHold up) (names_of owing j)) (sym e) (subst (All (MayHold up)) (sym own_names) debts_may)
    | inr ne ↦ subst (All (MayHold up)) (sym (other_names k ne)) (All-nil (MayHold up))
  ]

  stays_due : (n : Name) → (n ≡ name → ⊥) → Owes h.watch n → Owes next.watch n
  stays_due n ne o = (o.0, (w.debts o.0).1 (o.1, λ e. ne (sym o.2 ∙ e)), o.2)

  safe_on : (n : Name) → IsSafe up n → IsSafe after_push n
  safe_on n (marked c) = marked c
  safe_on n (pushed k c) = pushed k c
  safe_on n (owed k c) = elim (name_cases n name) [
    | inl e ↦ pushed m (subst (λ (x : Name). Contains (names_of up.pushed m) x) (sym e) own_pushed)
    | inr ne ↦
        let o : Owes next.watch n = stays_due n ne (t.only k n c) in
        owed m (subst (λ (l : List Name). Contains l n) (sym own_names) (subst (λ (x : Name).
        Contains (names_in next.watch.debts) x) o.2 (listed_debt next.watch.debts o.0 o.1)))
  ]

  shuffles : IsShuffled up after_push
  shuffles = record {
    rest = refl;
    queue = λ entry. (λ c. c, λ c. c);
    owed_lists = length-set (replicate (length s.owed) []) m (names_in next.watch.debts) ∙ length-replicate (length s.owed) [];
    pushed_lists = refl;
    owed = owing_may;
    pushed = (floated_facts V t.facts m place name).base.pushed;
    safe = λ n known k. safe_on n k;
  }

  is_opened : next.watch.opened ≡ h.watch.opened
  is_opened = ap (λ (x : Cycle). x.opened) w.rest

  push_tied : IsTiedIn next (after_pushing s m name next.watch.debts)
  push_tied = record {
    facts = subst (λ (l : List Bool). Facts (veiled (λ k. get_or l k false) (after_pushing s m name next.watch.debts))) (sym w'.scanned)
        (shuffled_facts up (floated_facts V t.facts m place name) after_push shuffles);
    closed = t.closed;
    is_open = t.is_open;
    world = t.world ∙ sym (ap (λ (x : Cycle). x.world) w.rest);
    snapshot = t.snapshot ∙ sym (ap (λ (x : Cycle). x.snapshot) w.rest);
    finalised = t.finalised ∙ sym (ap (λ (x : Cycle). x.finalised) w.rest);
    opened = λ n there'. (
      λ c. elim (Contains-append_cases s.opened (name ∷ []) n c) [
        | inl old ↦ elim ((t.opened n there').0 old) [
          | inl a ↦ inl (rw is_opened a)
          | inr (inl b) ↦ inr (inl ((w.remembered n).1 (inl b)))
          | inr (inr o) ↦ elim (name_cases n name) [
            | inl e ↦ inr (inl ((w.remembered n).1 (inr (e, subst (λ (v : World). IsSome (node_of v n)) t.snapshot there'))))
            | inr ne ↦ inr (inr (stays_due n ne o))
          ]
        ]
        | inr k ↦ inr (inl ((w.remembered n).1 (inr (sym (one_is name n k), subst (λ (v : World). IsSome (node_of v n)) t.snapshot there'))))
      ],
      λ c. elim c [
        | inl a ↦ Contains-append_left s.opened (name ∷ []) n ((t.opened n there').1 (inl (rw is_opened at a)))
        | inr (inl b) ↦ elim ((w.remembered n).0 b) [
          | inl old ↦ Contains-append_left s.opened (name ∷ []) n ((t.opened n there').1 (inr (inl old)))
          | inr k ↦ Contains-append_right s.opened (name ∷ []) n (subst (λ (x : Name). Contains (name ∷ []) x) (sym k.0) (contains_one name))
        ]
        | inr (inr o) ↦ Contains-append_left s.opened (name ∷ []) n ((t.opened n there').1 (inr (inr (o.0, ((w.debts o.0).0 o.1).0, o.2))))
      ],
    );
    remembered = λ n r known. elim ((w.remembered n).0 r) [
      | inl old ↦ elim (t.remembered n old known) [ inl c ↦ inl c | inr k ↦ inr (k.0, more_pushed k.0 n k.1) ]
      | inr k ↦ inr (m, subst (λ (x : Name). Contains (names_of up.pushed m) x) (sym k.0) own_pushed)
    ];
    only = λ k n c. elim (cases_eq k m) [
      | inl e ↦ debt_listed next.watch.debts n (subst (λ (l : List Name). Contains l n) own_names (subst (λ (j : ℕ). Contains (names_of owing j) n) e c))
      | inr ne ↦ absurd (nothing_in n (subst (λ (l : List Name). Contains l n) (other_names k ne) c))
    ];
  }

take_tied : (h next : Hybrid) (s : State) → IsTiedIn h s → (name : Name) → IsTookIn h name next → IsTiedIn next s
take_tied h next s t name w = record {
  facts = subst (λ (l : List Bool). Facts (veiled (λ k. get_or l k false) s)) (sym w.scanned) t.facts;
  closed = t.closed;
  is_open = t.is_open;
  world = t.world ∙ sym (ap (λ (x : Cycle). x.world) w.took.rest);
  snapshot = t.snapshot ∙ sym (ap (λ (x : Cycle). x.snapshot) w.took.rest);
  finalised = t.finalised ∙ sym (ap (λ (x : Cycle). x.finalised) w.took.rest);
  opened = λ n there. subst (λ (x : Cycle). Contains s.opened n ↔ IsIn x n) (sym w.took.rest) (t.opened n there);
  remembered = λ n r there. t.remembered n (rw (ap (λ (x : Cycle). x.remembered) w.took.rest) at r) there;
  only = λ m n c. subst (λ (x : Cycle). Owes x n) (sym w.took.rest) (t.only m n c);
}

pub beside_tied : (w : World) → IsWorld w → (h : Hybrid) (s : State) → BesideIn w h s → IsTiedIn h s
beside_tied w is h s hybrid.start = begin_tied w is
beside_tied w is h s hybrid.start_at_once = begin_at_once_tied w is
beside_tied w is h s (hybrid.give before next t line m v n r b k) = handed_tied before next t (beside_tied w is before t b) line m v n r k
beside_tied w is h s (hybrid.put before next t m r v b k) = put_tied before next t (beside_tied w is before t b) m r v k
beside_tied w is h s (hybrid.command before next t line m c answer b k) = command_tied before next t (beside_tied w is before t b) line m c answer k
beside_tied w is h s (hybrid.hand before next t m b k place) = scanned_tied before next t (beside_tied w is before t b) m k place
beside_tied w is h s (hybrid.push before next t m name b k place) = push_tied before next t (beside_tied w is before t b) name k m place
beside_tied w is h s (hybrid.take before next t name b k) = take_tied before next t (beside_tied w is before t b) name k
beside_tied w is h s (hybrid.mark h' t name b may) = mark_tied h' t name (beside_tied w is h' t b) may
beside_tied w is h s (hybrid.scan h' t b) = scan_tied h' t (beside_tied w is h' t b)
beside_tied w is h s (hybrid.sort h' t next b k) = sort_tied h' t next (beside_tied w is h' t b) k

-- a closing follows objects and reads no registers
module _ (shown : ℕ → Bool) (s : State) where
  there_on : (name target : Name) → RefersTo s.world name target → RefersTo (hidden shown s.world) name target
  there_on name target r = (r.0, hidden_node shown s.world name ∙ r.1, r.2)

  there_back : (name target : Name) → RefersTo (hidden shown s.world) name target → RefersTo s.world name target
  there_back name target r = (r.0, sym (hidden_node shown s.world name) ∙ r.1, r.2)

  waits_on : (weak : Name) (parts : Parts) → IsWaiting s weak parts → IsWaiting (veiled shown s) weak parts
  waits_on weak parts k = record { alive = k.alive; not_finalised = k.not_finalised }

  waits_back : (weak : Name) (parts : Parts) → IsWaiting (veiled shown s) weak parts → IsWaiting s weak parts
  waits_back weak parts k = record { alive = k.alive; not_finalised = k.not_finalised }

  new_on : (name : Name) → IsUnmarked s name → IsUnmarked (veiled shown s) name
  new_on name k = record { there = k.there; unmarked = k.unmarked }

  new_back : (name : Name) → IsUnmarked (veiled shown s) name → IsUnmarked s name
  new_back name k = record { there = k.there; unmarked = k.unmarked }

  revived_on : (name : Name) → IsRevived s name → IsRevived (veiled shown s) name
  revived_on name (closing.plain_key weak target parts w plain kept u) =
      closing.plain_key weak target parts (waits_on weak parts w) plain kept (new_on target u)
  revived_on name (closing.marked_key weak target key parts w is c kept u) =
      closing.marked_key weak target key parts (waits_on weak parts w) is c kept (new_on target u)
  revived_on name (closing.revived_key weak target key parts w is v kept u) =
      closing.revived_key weak target key parts (waits_on weak parts w) is (revived_on key v) kept (new_on target u)
  revived_on name (closing.field n target v r u) = IsRevived.field n target (revived_on n v) (there_on n target r) (new_on target u)

  revived_back : (name : Name) → IsRevived (veiled shown s) name → IsRevived s name
  revived_back name (closing.plain_key weak target parts w plain kept u) =
      closing.plain_key weak target parts (waits_back weak parts w) plain kept (new_back target u)
  revived_back name (closing.marked_key weak target key parts w is c kept u) =
      closing.marked_key weak target key parts (waits_back weak parts w) is c kept (new_back target u)
  revived_back name (closing.revived_key weak target key parts w is v kept u) =
      closing.revived_key weak target key parts (waits_back weak parts w) is (revived_back key v) kept (new_back target u)
  revived_back name (closing.field n target v r u) = IsRevived.field n target (revived_back n v) (there_back n target r) (new_back target u)

  first_on : (name : Name) → IsMarkedFirst s name → IsMarkedFirst (veiled shown s) name
  first_on name (inl c) = inl c
  first_on name (inr v) = inr (revived_on name v)

  first_back : (name : Name) → IsMarkedFirst (veiled shown s) name → IsMarkedFirst s name
  first_back name (inl c) = inl c
  first_back name (inr v) = inr (revived_back name v)

  abbrev dying_on : (weak : Name) → IsDying s weak → IsDying (veiled shown s) weak
  dying_on weak d = record { parts = d.parts; waiting = waits_on weak d.parts d.waiting; key = d.key; key_is = d.key_is; lost = λ c. d.lost (first_back d.key c) }

  abbrev dying_back : (weak : Name) → IsDying (veiled shown s) weak → IsDying s weak
  dying_back weak d = record { parts = d.parts; waiting = waits_back weak d.parts d.waiting; key = d.key; key_is = d.key_is; lost = λ c. d.lost (first_on d.key c) }

  rescued_on : (name : Name) → IsRescued s name → IsRescued (veiled shown s) name
  rescued_on name (closing.finaliser weak target d is u) = IsRescued.finaliser weak target (dying_on weak d) is (new_on target u)
  rescued_on name (closing.field n target v r u) = IsRescued.field n target (rescued_on n v) (there_on n target r) (new_on target u)

  rescued_back : (name : Name) → IsRescued (veiled shown s) name → IsRescued s name
  rescued_back name (closing.finaliser weak target d is u) = IsRescued.finaliser weak target (dying_back weak d) is (new_back target u)
  rescued_back name (closing.field n target v r u) = IsRescued.field n target (rescued_back n v) (there_back n target r) (new_back target u)

  last_on : (name : Name) → IsMarkedLast s name → IsMarkedLast (veiled shown s) name
  last_on name (inl k) = inl (first_on name k)
  last_on name (inr v) = inr (rescued_on name v)

  last_back : (name : Name) → IsMarkedLast (veiled shown s) name → IsMarkedLast s name
  last_back name (inl k) = inl (first_back name k)
  last_back name (inr v) = inr (rescued_back name v)

  -- if a world closes, the world with hidden registers closes too
  abbrev closes_veiled : (next : State) (k : IsClosing s next) →
      IsClosing (veiled shown s) (record (veiled shown s) { world = closed (hidden shown s.world) k.dead; marked = next.marked; is_closed = true })
  closes_veiled next k = record {
    dead = k.dead;
    lists = record {
      ordered = k.lists.ordered;
      sound = λ n c. dying_on n (k.lists.sound n c);
      complete = λ n d. k.lists.complete n (dying_back n d);
    };
    marked = λ n. (λ c. last_on n ((k.marked n).0 c), λ l. (k.marked n).1 (last_back n l));
    rest = refl;
  }

-- an end without debts
module _ (h : Hybrid) (s : State) (t : IsTiedIn h s) (none : h.watch.debts ≡ []) (done : HasFinished s) where
  nothing_owed : (m : ℕ) → names_of s.owed m ≡ []
  nothing_owed m = by_list (names_of s.owed m) refl
    where
      by_list : (l : List Name) → names_of s.owed m ≡ l → l ≡ []
      by_list [] e = refl
      by_list (x ∷ xs) e = let o : Owes h.watch x = t.only m x (subst (λ (l : List Name). Contains l x) (sym e) (contains_head x xs)) in
          absurd (nothing_in o.0 (subst (λ (l : List Debt). Contains l o.0) none o.1))

  possible : IsPossible s event.Close
  possible = (t.is_open, done.queue, nothing_listed s.owed nothing_owed, done.pushed)
    where
      nothing_listed : (lists : List (List Name)) → ((m : ℕ) → names_of lists m ≡ []) → AreEmpty lists
      nothing_listed [] each = All-nil (λ (names : List Name). names ≡ [])
      nothing_listed (l ∷ ls) each = All-cons (λ (names : List Name). names ≡ []) l ls (each zero) (nothing_listed ls (λ m. each (suc m)))

  both : (n : Name) → IsSome (node_of s.snapshot n) → Contains s.opened n ↔ Contains (h.watch.opened ++ h.watch.remembered) n
  both n there = (
    λ k. elim ((t.opened n there).0 k) [
      | inl o ↦ Contains-append_left h.watch.opened h.watch.remembered n o
      | inr (inl r) ↦ Contains-append_right h.watch.opened h.watch.remembered n r
      | inr (inr o) ↦ absurd (nothing_in o.0 (subst (λ (l : List Debt). Contains l o.0) none o.1))
    ],
    λ k. elim (Contains-append_cases h.watch.opened h.watch.remembered n k) [
      | inl a ↦ (t.opened n there).1 (inl a)
      | inr b ↦ (t.opened n there).1 (inr (inl b))
    ],
  )

  exact : (next : State) (k : IsClosing s next) → IsExactClosing (veiled (shown_in h) s)
      (record (veiled (shown_in h) s) { world = closed (hidden (shown_in h) s.world) k.dead; marked = next.marked; is_closed = true })
      (closes_veiled (shown_in h) s next k)
  exact next k = closing_is_exact (veiled (shown_in h) s) _ t.facts possible (closes_veiled (shown_in h) s next k)

  pub ends_exactly : EndsExactly h.watch s
  ends_exactly = record {
    possible = possible;
    marks = λ next k name. (
      λ c. subst (λ (v : World). IsKept v (h.watch.opened ++ h.watch.remembered) h.watch.finalised name) t.snapshot (subst (λ (l : List Name).
          IsKept s.snapshot (h.watch.opened ++ h.watch.remembered) l name) t.finalised (kept_same s.snapshot s.opened (h.watch.opened ++
          h.watch.remembered) s.finalised both name (((exact next k).kept name).0 c))),
      λ c. ((exact next k).kept name).1 (kept_same s.snapshot (h.watch.opened ++ h.watch.remembered) s.opened s.finalised (λ n there. (
        (both n there).1,
        (both n there).0,
      )) name (subst (λ (l : List Name). IsKept s.snapshot (h.watch.opened ++ h.watch.remembered) l name) (sym t.finalised) (subst (λ (v : World).
          IsKept v (h.watch.opened ++ h.watch.remembered) h.watch.finalised name) (sym t.snapshot) c))),
    );
    dies = λ next k.
        let l : Lists (IsDead s.snapshot (h.watch.opened ++ h.watch.remembered) s.finalised) k.dead = record {
          ordered = (exact next k).dead.ordered;
          sound = λ n c. dead_same s.snapshot s.opened (h.watch.opened ++ h.watch.remembered) s.finalised (λ x there. (both x there).1) n
              ((exact next k).dead.sound n c);
          complete = λ n d. (exact next k).dead.complete n (dead_same s.snapshot (h.watch.opened ++ h.watch.remembered) s.opened s.finalised (λ x there.
              (both x there).0) n d);
        } in
        subst (λ (v : World). Lists (IsDead v (h.watch.opened ++ h.watch.remembered) h.watch.finalised) k.dead) t.snapshot (subst (λ (x : List Name).
        Lists (IsDead s.snapshot (h.watch.opened ++ h.watch.remembered) x) k.dead) t.finalised l);
    world = λ next k. subst (λ (v : World). next.world ≡ closed v k.dead) t.world (ap (λ (u : State). u.world) k.rest);
  }

pub hybrid_joint : HybridJointTheorem
hybrid_joint w is h watches none s b done = ends_exactly h s (beside_tied w is h s b) none done
