-- The set of marks of a core, and the queues of its mutators, as they change.
use Rattle.nmgc_core.proofs.Vocabulary.{◌≡◌, ◌<◌, ◌+◌, ℕ, zero, suc, List, [], ◌∷◌, ◌++◌, length, get_or, set, take, drop, cond, inl, inr, refl, sym, ap, subst, length-set, ◌∙◌, arith, Option, Some, None, Result, Ok, Err, Bool, true, false, not, All, Contains, slice_get, is_some, ◌&&◌, ◌||◌, IfOk, IfSome, IfNone, take_more, get_or-set_same, set-get_or, take-append-le, take_all, Name, World, node_of, state_of, IsWorld, is_same_name, Lists, IsAlive, Command, Reply, CanApply, step, Parts, finalised_by, step_grows, not_shared, Contains-append_left, Names, step_alive, Entry, NoMemory, Value, oldest_first, State, advanced, after_scan, read_at, is_listed, is_new, names_of, mark_name, mark_value, mark_values, mark_read, mark_cases, HasPlace, HasPlaces, IsMarked, mark_of, with_mark, added, kept_others, places_kept, makers_kept, name_placed, name_cases, IsCore, contains_listed, listed_from, tested_same, is_same_name-refl}
use Rattle.nmgc_world_spec.specs.declared.value.Value.TheVariants as value
use Rattle.nmgc_snapshot_laws.specs.State.{with_mark as with_name}

is_listed-push : (name : Name) (xs : List Name) (x : Name) → is_listed name (xs ++ x ∷ []) ≡ (is_listed name xs || is_same_name x name)
is_listed-push name [] x = by_test (is_same_name x name)
  where
    by_test : (b : Bool) → (b || false) ≡ b
    by_test true = refl
    by_test false = refl
is_listed-push name (y ∷ ys) x = by_test (is_same_name y name) (is_listed-push name ys x)
  where
    by_test : (b : Bool) → is_listed name (ys ++ x ∷ []) ≡ (is_listed name ys || is_same_name x name) →
        (b || is_listed name (ys ++ x ∷ [])) ≡ ((b || is_listed name ys) || is_same_name x name)
    by_test true e = refl
    by_test false e = e

listed_last : (name : Name) (xs : List Name) → is_listed name (xs ++ name ∷ []) ≡ true
listed_last name xs = is_listed-push name xs name ∙ by_test (is_listed name xs)
  where
    by_test : (b : Bool) → (b || is_same_name name name) ≡ true
    by_test true = refl
    by_test false = is_same_name-refl name

listed_other : (other name : Name) (xs : List Name) → (other ≡ name → ⊥) → is_listed other (xs ++ name ∷ []) ≡ is_listed other xs
listed_other other name xs ne = is_listed-push other xs name ∙ by_test (is_listed other xs) (is_same_name name other) refl
  where
    by_test : (b c : Bool) → is_same_name name other ≡ c → (b || c) ≡ b
    by_test true c e = refl
    by_test false true e = absurd (ne (sym (tested_same name other e)))
    by_test false false e = refl

not_empty : (xs : List Name) (x : Name) → xs ++ x ∷ [] ≡ [] → ⊥
not_empty [] x e = absurd cc
not_empty (y ∷ xs) x e = absurd cc

-- two lists are the same if they are the same with one more item each
snoc_front : (xs ys : List Name) (x y : Name) → xs ++ x ∷ [] ≡ ys ++ y ∷ [] → xs ≡ ys
snoc_front [] [] x y e = refl
snoc_front [] (z ∷ ys) x y e = let t : [] ≡ ys ++ y ∷ [] = cc in absurd (not_empty ys y (sym t))
snoc_front (z ∷ xs) [] x y e = let t : xs ++ x ∷ [] ≡ [] = cc in absurd (not_empty xs x t)
snoc_front (z ∷ xs) (w ∷ ys) x y e =
    let t : xs ++ x ∷ [] ≡ ys ++ y ∷ [] = cc in
    let h : z ≡ w = cc in
    rw (h, snoc_front xs ys x y t) refl

-- a set and a list with the same names still have the same names after one more name for both
pub set_more : (marks : List (List Bool)) (name : Name) (names : List Name) → HasPlace marks name →
    ((n : Name) → mark_of marks n ≡ is_listed n names) → (n : Name) → mark_of (with_mark marks name) n ≡ is_listed n (names ++ name ∷ [])
set_more marks name names place same n = elim (name_cases n name) [
  | inl e ↦ rw e (added marks name place ∙ sym (listed_last name names))
  | inr ne ↦ kept_others marks name place n ne ∙ same n ∙ sym (listed_other n name names ne)
]

-- and the set has the same positions
pub places_more : (w : World) (marks : List (List Bool)) (name : Name) → HasPlace marks name → HasPlaces w marks → HasPlaces w (with_mark marks name)
places_more w marks name place p = record {
  makers = makers_kept marks name place ∙ p.makers;
  counts = λ maker. places_kept marks name place maker ∙
      p.counts maker;
}

-- a new name has a position
pub new_placed : (marks : List (List Bool)) (s : State) (name : Name) → IsCore marks s → is_new s name ≡ true → HasPlace marks name
new_placed marks s name c new = name_placed s.snapshot marks c.places name (there (is_some (node_of s.snapshot name)) new)
  where
    there : (b : Bool) → (b && not (is_listed name s.marked)) ≡ true → b ≡ true
    there true h = refl
    there false h = absurd cc

-- the item that was pushed last is popped
pub taken_off : (r : Option Name) (xs ys zs : List Name) (x : Name) → zs ≡ xs ++ x ∷ [] → IfSome r (λ (y : Name). zs ≡ ys ++ y ∷ []) →
    IfNone r ((zs ≡ []) × (ys ≡ [])) → ys ≡ xs
taken_off (Some y) xs ys zs x e last none = snoc_front ys xs y x (sym last ∙ e)
taken_off None xs ys zs x e last none = absurd (not_empty xs x (sym e ∙ none.0))

-- a core after a name was marked
pub core_marked : (marks marks' : List (List Bool)) (s : State) (name : Name) (marked : List Name) (queue : List Entry) → IsCore marks s →
    is_new s name ≡ true → marks' ≡ with_mark marks name → marked ≡ s.marked ++ name ∷ [] → IsCore marks' (record s { marked = marked; queue = queue })
core_marked marks marks' s name marked queue c new e f =
    let place : HasPlace marks name = new_placed marks s name c new in
    rw (e, f) (record {
      places = places_more s.snapshot marks name place c.places;
      same = set_more marks name s.marked place c.same;
      owed = c.owed;
      pushed = c.pushed;
      alive = c.alive;
      snapshot = c.snapshot;
      world = c.world;
    })

-- the names of the set are the marked names
pub set_marked : (marks : List (List Bool)) (s : State) (names : List Name) → IsCore marks s → Lists (IsMarked marks) names → Lists (Contains s.marked) names
set_marked marks s names c l = record {
  ordered = l.ordered;
  sound = λ name h. contains_listed name s.marked (sym (c.same name) ∙ l.sound name h);
  complete = λ name h. l.complete name (c.same name ∙ listed_from name s.marked h);
}

set_twice : {A : Type 0} (xs : List A) (i : ℕ) (x y : A) → set (set xs i x) i y ≡ set xs i y
set_twice [] i x y = refl
set_twice (z ∷ xs) zero x y = refl
set_twice (z ∷ xs) (suc i) x y = ap (λ l. z ∷ l) (set_twice xs i x y)

-- names that were added are taken back
pub taken_back : (lists lists' : List (List Name)) (m : ℕ) (names : List Name) (count : ℕ) → m < length lists →
    lists' ≡ set lists m (names_of lists m ++ names) → count ≡ length (names_of lists m) → set lists' m (take count (names_of lists' m)) ≡ lists
taken_back lists lists' m names count lt e f =
    let back : take (length (names_of lists m)) (names_of lists m ++ names) ≡ names_of lists m =
    take-append-le (length (names_of lists m)) (names_of lists m) names (omega arith) ∙
    take_all (length (names_of lists m)) (names_of lists m) (omega arith) in
    rw (e, f, get_or-set_same lists m (names_of lists m ++ names) [] lt, back, set_twice) (set-get_or lists m [])

-- a name is marked while the first entry is queued, which leaves then: all is as if the entry had left before
scan_rest : (s : State) (entry : Entry) (rest : List Entry) → s.order ≡ oldest_first → s.queue ≡ entry ∷ rest → (o : Option Value) →
    (let t : State = record (mark_read s o) { queue = drop 1 (mark_read s o).queue } in t) ≡ mark_read (record s { queue = rest }) o
scan_rest s entry rest order first None = ap (λ (l : List Entry). let t : State = record s { queue = drop 1 l } in t) first
scan_rest s entry rest order first (Some value.Nil) = ap (λ (l : List Entry). let t : State = record s { queue = drop 1 l } in t) first
scan_rest s entry rest order first (Some (value.Number n)) = ap (λ (l : List Entry). let t : State = record s { queue = drop 1 l } in t) first
scan_rest s entry rest order first (Some (value.Ref name)) = by_test (is_new s name)
  where
    by_test : (b : Bool) → (let t : State = record (cond b (with_name s name) s) { queue = drop 1 (cond b (with_name s name) s).queue } in t) ≡
        cond b (with_name (record s { queue = rest }) name) (record s { queue = rest })
    by_test true = rw (order, first) refl
    by_test false = ap (λ (l : List Entry). let t : State = record s { queue = drop 1 l } in t) first

-- so it is a scan, oldest first
pub scan_is : (s t : State) (entry : Entry) → s.order ≡ oldest_first → slice_get s.queue 0 ≡ Some entry →
    t ≡ advanced (record (mark_read s (read_at (node_of s.world entry.name) entry.position)) {
      queue = drop 1 (mark_read s (read_at (node_of s.world entry.name) entry.position)).queue;
    }) entry → t ≡ after_scan s s.queue
scan_is s t entry order first is = by_queue s.queue refl first
  where
    by_queue : (queue : List Entry) → s.queue ≡ queue → slice_get queue 0 ≡ Some entry → t ≡ after_scan s queue
    by_queue [] e h = absurd cc
    by_queue (x ∷ rest) e h =
        let same : x ≡ entry = cc in
        rw same (is ∙ ap (λ (u : State). advanced u entry)
        (scan_rest s entry rest order (rw same at e) (read_at (node_of s.world entry.name) entry.position)))

pub some_first : {A : Type 0} (xs : List A) (x : A) → slice_get xs 0 ≡ Some x → 0 < length xs
some_first [] x h = absurd cc
some_first (y ∷ xs) x h = omega arith

first_append : {A : Type 0} (xs ys : List A) (x : A) → slice_get xs 0 ≡ Some x → slice_get (xs ++ ys) 0 ≡ Some x
first_append [] ys x h = absurd cc
first_append (y ∷ xs) ys x h = h

mark_first : (s : State) (name : Name) (entry : Entry) → s.order ≡ oldest_first → slice_get s.queue 0 ≡ Some entry → slice_get (mark_name s name).queue 0 ≡ Some entry
mark_first s name entry order h = mark_cases (λ t. slice_get t.queue 0 ≡ Some entry) s name (λ e. rw order (first_append s.queue _ entry h)) (λ e. h)

-- marking leaves the first entry
pub read_first : (s : State) (o : Option Value) (entry : Entry) → s.order ≡ oldest_first → slice_get s.queue 0 ≡ Some entry → slice_get (mark_read s o).queue 0 ≡ Some entry
read_first s None entry order h = h
read_first s (Some value.Nil) entry order h = h
read_first s (Some (value.Number n)) entry order h = h
read_first s (Some (value.Ref name)) entry order h = mark_first s name entry order h

-- and the pushed names
pub mark_pushed : (s : State) (name : Name) → (mark_name s name).pushed ≡ s.pushed
mark_pushed s name = mark_cases (λ t. t.pushed ≡ s.pushed) s name (λ e. refl) (λ e. refl)

pub names_listed : (r : Result (List Name) NoMemory) (marks : List (List Bool)) (s : State) → IsCore marks s → IfOk r (Lists (IsMarked marks)) →
    IfOk r (Lists (Contains s.marked))
names_listed (Ok names) marks s c l = set_marked marks s names c l
names_listed (Err e) marks s c l = tt

-- a command that needed more memory than there was leaves everything as it was
pub command_undone : (s : State) (world : World) (lists lists' : List (List Name)) (m : ℕ) (names : List Name) (count : ℕ) → m < length s.owed →
    world ≡ s.world → lists ≡ set s.owed m (names_of s.owed m ++ names) → count ≡ length (names_of s.owed m) →
    lists' ≡ set lists m (take count (names_of lists m)) → record s { world = world; owed = lists' } ≡ s
command_undone s world lists lists' m names count lt e f g h = let back : lists' ≡ s.owed = h ∙ taken_back s.owed lists m names count lt f g in
    rw (e, back) refl

-- names that were added at the end are taken back
pub front_taken : (old new last : List Name) (xs : List Name) (count : ℕ) → new ≡ old ++ xs → count ≡ length old → last ≡ take count new → last ≡ old
front_taken old new last xs count e f g = rw (g, e, f) (take-append-le (length old) old xs (omega arith) ∙ take_all (length old) old (omega arith))

-- a core with more finalised weak pointers
pub core_ended : (marks : List (List Bool)) (s : State) (ends : List Name) (now : List Name) → IsCore marks s → now ≡ s.finalised ++ ends →
    IsCore marks (record s { finalised = now })
core_ended marks s ends now c e = rw e (record {
  places = c.places;
  same = c.same;
  owed = c.owed;
  pushed = c.pushed;
  alive = λ running weak parts a not. c.alive running weak parts a (λ k. not (Contains-append_left s.finalised ends weak k));
  snapshot = c.snapshot;
  world = c.world;
})

-- and with the weak pointers that were finalised before
pub core_back : (marks marks' : List (List Bool)) (s t : State) (now back : List Name) → IsCore marks s → IsCore marks' t →
    t ≡ record s { finalised = now } → back ≡ s.finalised → IsCore marks' (record t { finalised = back })
core_back marks marks' s t now back k k' e f =
    let R : State → Type 0 = λ u. IsCore marks' u → IsCore marks' (record u { finalised = back }) in
    subst R (sym e) (λ c. rw f (record {
      places = c.places;
      same = c.same;
      owed = c.owed;
      pushed = c.pushed;
      alive = k.alive;
      snapshot = c.snapshot;
      world = c.world;
    })) k'

-- a core after a command of its world, if the finalised names contain the names that the command finalised
pub core_given : (marks : List (List Bool)) (s : State) (m : ℕ) (c : Command) (r : Reply) (world : World) (lists : List (List Name))
    (names : List Name) → IsCore marks s → CanApply s.world m c → step s.world m c ≡ (world, r) → IsWorld world →
    ((weak : Name) → Contains (finalised_by s.world m c) weak → Contains s.finalised weak) → lists ≡ set s.owed m (names_of s.owed m ++ names) →
    IsCore marks (record s { world = world; owed = lists })
core_given marks s m c r world lists names k can e is ended f =
    let w : world ≡ (step s.world m c).0 = ap (λ (p : World × Reply). p.0) (sym e) in
    let count : length world.mutators ≡ length s.world.mutators = rw w (step_grows s.world m c can.mutator).mutators in
    record {
      places = k.places;
      same = k.same;
      owed = rw f (length-set s.owed m (names_of s.owed m ++ names) ∙ k.owed ∙ sym count);
      pushed = k.pushed ∙ sym count;
      alive = λ running weak parts a not. still_alive weak parts w (k.alive running weak parts a not) not;
      snapshot = k.snapshot;
      world = is;
    }
  where
    plain : (v : Value) → Names (λ n. Unit {0}) v
    plain value.Nil = tt
    plain (value.Number n) = tt
    plain (value.Ref n) = tt

    all_plain : (values : List Value) → All (Names (λ n. Unit {0})) values
    all_plain values i d lt = plain (get_or values i d)

    still_alive : (weak : Name) (parts : Parts) → world ≡ (step s.world m c).0 → IsAlive s.world weak parts → (Contains s.finalised weak → ⊥) →
        IsAlive world weak parts
    still_alive weak parts w a not =
        elim (step_alive (λ n.
        Unit {0}) s.world m can.mutator (not_shared s.world m k.world can.mutator) tt (all_plain (state_of s.world m).registers) c weak parts a) [
          | inl b ↦ subst (λ (v : World). IsAlive v weak parts) (sym w) b
          | inr d ↦ absurd (not (ended weak d))
        ]

-- one more value
pub values_more : (s : State) (values : List Value) (v : Value) → mark_values s (values ++ v ∷ []) ≡ mark_value (mark_values s values) v
values_more s [] v = refl
values_more s (x ∷ values) v = values_more (mark_value s x) values v

-- the step of a loop that marks values
pub values_step : (s t u : State) (values : List Value) (i : ℕ) (d : Value) → i < length values → t ≡ mark_values s (take i values) →
    u ≡ mark_value t (get_or values i d) → u ≡ mark_values s (take (i + 1) values)
values_step s t u values i d lt e f = rw (take_more values i d lt, values_more s (take i values) (get_or values i d), ← e) f
