-- A cycle with one snapshot is a cycle with all mutators scanned at the mark, and so are the markers beside it.
use Rattle.std.proofs.Common.{◌≡◌, ◌<◌, ℕ, List, [], ◌∷◌, ◌++◌, length, get_or, replicate, refl, sym, ap, subst, ◌∙◌, inl, inr, Bool, true, false, Option, Some, None, if◌then◌else◌}
use Rattle.std.specs.Prelude.{IsSome, Contains, All}
use Rattle.std.proofs.lemmas.{List.get_or-replicate, List.Elements.Contains-append_left, List.Elements.Contains-append_right, List.Elements.Contains-append_cases}
use Rattle.nmgc_world_spec.specs.{declared.value.Name.Name, declared.value.Value.Value, declared.command.Command.Command, declared.command.Reply.Reply, World.World, World.node_of, Reach.opened_by}
use Rattle.nmgc_world_spec.specs.declared.value.Value.TheVariants as value
use Rattle.nmgc_world_laws.specs.laws.Growth.{step_grows}
use Rattle.nmgc_snapshot_laws.specs.{declared.event.Entry.Entry, State.State, State.names_of, State.mark_name, State.mark_read, State.is_new, State.with_mark, State.opening, Scan.read_at, Scan.moved_on, Machine.after_scan, Machine.advanced, Facts.MayHold, Facts.IsSafe, Facts.owed, Facts.pushed, Facts.marked}
use Rattle.nmgc_barrier_laws.specs.{declared.debt.Debt.Debt, Cycle.Cycle, Cycle.IsWatched, Cycle.IsPushed, Cycle.IsTook, Barrier.names_in, Barrier.Watches, Barrier.Beside, Barrier.IsSorted, laws.TiedPush.marks_name, laws.TiedPush.marks_scan, laws.TiedPush.live_same}
use Rattle.nmgc_barrier_laws.specs.Barrier as barrier
use Rattle.nmgc_barrier_laws.specs.Hybrid.{Hybrid, is_scanned, IsHandedOut, IsWatchedIn, IsPushedIn, IsTookIn, WatchesIn, BesideIn, all_scanned, OneSnapshotIsScannedAtOnce}
use Rattle.nmgc_barrier_laws.specs.Hybrid as hybrid

-- no mutator hands a name out, since each is scanned
all_seen : (h : Cycle) (m : ℕ) → m < length h.world.mutators → is_scanned (all_scanned h) m ≡ true
all_seen h m lt = get_or-replicate (length h.world.mutators) m true false lt

none_out : (h : Cycle) (m : ℕ) (c : Command) (name : Name) → m < length h.world.mutators → IsHandedOut (all_scanned h) m c name → ⊥
none_out h m c name lt d = let bad : true ≡ false = sym (all_seen h m lt) ∙ d.unscanned in cc

-- the cycles' steps
given_count : (h next : Cycle) (line m : ℕ) (c : Command) (answer : Reply) → IsWatched h line m c answer next →
    length next.world.mutators ≡ length h.world.mutators
given_count h next line m c answer k = ap (λ (x : Cycle). length x.world.mutators) k.rest ∙ (step_grows h.world m c k.can.mutator).mutators

watched_in : (h next : Cycle) (line m : ℕ) (c : Command) (answer : Reply) → IsWatched h line m c answer next →
    IsWatchedIn (all_scanned h) line m c answer (all_scanned next)
watched_in h next line m c answer k = record {
  can = k.can;
  says = k.says;
  rest = ap (λ (n : ℕ). record { watch = next; scanned = replicate n true }) (given_count h next line m c answer k) ∙
      ap (λ (x : Cycle). record { watch = x; scanned = replicate (length h.world.mutators) true }) k.rest;
  opened = λ name. (
    λ o. elim ((k.opened name).0 o) [ inl old ↦ inl old | inr new ↦ inr (inl new) ],
    λ o. elim o [
      | inl old ↦ (k.opened name).1 (inl old)
      | inr (inl new) ↦ (k.opened name).1 (inr new)
      | inr (inr d) ↦ absurd (none_out h m c name k.can.mutator d)
    ],
  );
  old = k.old;
  new = λ debt o. elim (k.new debt o) [ inl old ↦ inl old | inr d ↦ inr (d.0, d.1, inl d.2, d.3) ];
  due = λ name d. elim d [ inl is ↦ k.due name is | inr out ↦ absurd (none_out h m c name k.can.mutator out) ];
}

pushed_in : (h next : Cycle) (name : Name) → IsPushed h name next → IsPushedIn (all_scanned h) name (all_scanned next)
pushed_in h next name k = record { push = k; scanned = ap (λ (x : Cycle). replicate (length x.world.mutators) true) k.rest }

took_in : (h next : Cycle) (name : Name) → IsTook h name next → IsTookIn (all_scanned h) name (all_scanned next)
took_in h next name k = record { took = k; scanned = ap (λ (x : Cycle). replicate (length x.world.mutators) true) k.rest }

watches_in : (w : World) (h : Cycle) → Watches w h → WatchesIn w (all_scanned h)
watches_in w h barrier.begun = hybrid.begun_at_once
watches_in w h (barrier.given before next line m c answer b k) =
    hybrid.given (all_scanned before) (all_scanned next) line m c answer (watches_in w before b) (watched_in before next line m c answer k)
watches_in w h (barrier.pushed before next name b k) =
    hybrid.pushed (all_scanned before) (all_scanned next) name (watches_in w before b) (pushed_in before next name k)
watches_in w h (barrier.taken before next name b k) =
    hybrid.taken (all_scanned before) (all_scanned next) name (watches_in w before b) (took_in before next name k)

-- the marker's steps look at no opened names
abbrev wider : List Name → State → State
wider names s = record s { opened = names }

wider_if : (names : List Name) (b : Bool) (x y : State) → (if b then wider names x else wider names y) ≡ wider names (if b then x else y)
wider_if names true x y = refl
wider_if names false x y = refl

mark_wider : (names : List Name) (s : State) (name : Name) → mark_name (wider names s) name ≡ wider names (mark_name s name)
mark_wider names s name = wider_if names (is_new s name) (with_mark s name) s

read_wider : (names : List Name) (s : State) (o : Option Value) → mark_read (wider names s) o ≡ wider names (mark_read s o)
read_wider names s None = refl
read_wider names s (Some value.Nil) = refl
read_wider names s (Some (value.Number n)) = refl
read_wider names s (Some (value.Ref name)) = mark_wider names s name

scan_wider : (names : List Name) (s : State) (queue : List Entry) → after_scan (wider names s) queue ≡ wider names (after_scan s queue)
scan_wider names s [] = refl
scan_wider names s (entry ∷ rest) =
    ap (λ (u : State). advanced u entry) (read_wider names (record s { queue = rest }) (read_at (node_of s.world entry.name) entry.position))

-- more names count as opened, so more may be held
may_wider : (names : List Name) (s : State) → ((n : Name) → Contains s.opened n → Contains names n) → (n : Name) → MayHold s n → MayHold (wider names s) n
may_wider names s more n h there = live_same s.snapshot s.opened names (λ k is c. more k c) n (h there)

sorted_wider : (names : List Name) (s next : State) → ((n : Name) → Contains s.opened n → Contains names n) → IsSorted s next →
    IsSorted (wider names s) (wider names next)
sorted_wider names s next more k = record {
  shuffled = record {
    rest = ap (wider names) k.shuffled.rest;
    queue = k.shuffled.queue;
    owed_lists = k.shuffled.owed_lists;
    pushed_lists = k.shuffled.pushed_lists;
    owed = λ m. all_wider (names_of next.owed m) (k.shuffled.owed m);
    pushed = λ m. all_wider (names_of next.pushed m) (k.shuffled.pushed m);
    safe = λ n there o. to_wider next n (k.shuffled.safe n there (of_wider s n o));
  };
  owed = k.owed;
  way = k.way;
}
  where
    all_wider : (list : List Name) → All (MayHold s) list → All (MayHold (wider names s)) list
    all_wider list h i d lt = may_wider names s more (get_or list i d) (h i d lt)

    to_wider : (u : State) (n : Name) → IsSafe u n → IsSafe (wider names u) n
    to_wider u n (marked c) = marked c
    to_wider u n (owed j c) = owed j c
    to_wider u n (pushed j c) = pushed j c

    of_wider : (u : State) (n : Name) → IsSafe (wider names u) n → IsSafe u n
    of_wider u n (marked c) = marked c
    of_wider u n (owed j c) = owed j c
    of_wider u n (pushed j c) = pushed j c

-- the same marker, in which all names count as opened that did, and perhaps others
record IsWider (w : World) (h : Cycle) (s : State) : Type 0 where
  names : List Name
  more : (n : Name) → Contains s.opened n → Contains names n
  beside : BesideIn w (all_scanned h) (wider names s)

appended : (olds names some more : List Name) → ((n : Name) → Contains olds n → Contains names n) → (n : Name) → Contains (olds ++ some) n →
    Contains (names ++ (some ++ more)) n
appended olds names some more on n c = elim (Contains-append_cases olds some n c) [
  | inl old ↦ Contains-append_left names (some ++ more) n (on n old)
  | inr new ↦ Contains-append_right names (some ++ more) n (Contains-append_left some more n new)
]

joined : (olds names some : List Name) → ((n : Name) → Contains olds n → Contains names n) → (n : Name) → Contains (olds ++ some) n →
    Contains (names ++ some) n
joined olds names some on n c = elim (Contains-append_cases olds some n c) [
  | inl old ↦ Contains-append_left names some n (on n old)
  | inr new ↦ Contains-append_right names some n new
]

beside_in : (w : World) (h : Cycle) (s : State) → Beside w h s → IsWider w h s
beside_in w h s barrier.start = record { names = (opening w).opened; more = λ n c. c; beside = hybrid.start_at_once }
beside_in w h s (barrier.command before next t line m c answer b k) =
    let p : IsWider w before t = beside_in w before t b in
    record {
      names = p.names ++ (opened_by t.world m c ++ names_in next.debts);
      more = appended t.opened p.names (opened_by t.world m c) (names_in next.debts) p.more;
      beside = hybrid.command (all_scanned before) (all_scanned next) (wider p.names t) line m c answer p.beside (watched_in before next line m c answer k);
    }
beside_in w h s (barrier.push before next t m name b k place) =
    let p : IsWider w before t = beside_in w before t b in
    record {
      names = p.names ++ name ∷ [];
      more = joined t.opened p.names (name ∷ []) p.more;
      beside = hybrid.push (all_scanned before) (all_scanned next) (wider p.names t) m name p.beside (pushed_in before next name k) place;
    }
beside_in w h s (barrier.take before next t name b k) =
    let p : IsWider w before t = beside_in w before t b in
    record {
      names = p.names;
      more = p.more;
      beside = hybrid.take (all_scanned before) (all_scanned next) (wider p.names t) name p.beside (took_in before next name k);
    }
beside_in w h s (barrier.mark h' t name b may) =
    let p : IsWider w h' t = beside_in w h' t b in
    record {
      names = p.names;
      more = λ n c. p.more n (subst (λ (l : List Name). Contains l n) (marks_name t name).opened c);
      beside = subst (BesideIn w (all_scanned h')) (mark_wider p.names t name)
          (hybrid.mark (all_scanned h') (wider p.names t) name p.beside (may_wider p.names t p.more name may));
    }
beside_in w h s (barrier.scan h' t b) =
    let p : IsWider w h' t = beside_in w h' t b in
    record {
      names = p.names;
      more = λ n c. p.more n (subst (λ (l : List Name). Contains l n) (marks_scan t t.queue).opened c);
      beside = subst (BesideIn w (all_scanned h')) (scan_wider p.names t t.queue) (hybrid.scan (all_scanned h') (wider p.names t) p.beside);
    }
beside_in w h s (barrier.sort h' t next b k) =
    let p : IsWider w h' t = beside_in w h' t b in
    record {
      names = p.names;
      more = λ n c. p.more n (subst (λ (l : List Name). Contains l n) (ap (λ (u : State). u.opened) k.shuffled.rest) c);
      beside = hybrid.sort (all_scanned h') (wider p.names t) (wider p.names next) p.beside (sorted_wider p.names t next p.more k);
    }

pub one_snapshot : OneSnapshotIsScannedAtOnce
one_snapshot w h = (watches_in w h, λ s b. (let p : IsWider w h s = beside_in w h s b in (p.names, p.beside)))
