-- Beside each list of commands and pushes a finished marker is possible. It marks and drops each name as it is pushed. Then
-- it scans until nothing is queued. Each scan marks a new name of the snapshot, or leaves less to read in the queue.
use Rattle.std.specs.Prelude.{◌≡◌, ◌≢◌, ◌<◌, ◌≤◌, ◌+◌, ◌-◌, ◌∷◌, ◌++◌, ◌⊎◌, ◌&&◌}
use Rattle.nmgc_barrier_laws.specs.laws.Vocabulary.{ℕ, List, [], zero, suc, length, replicate, refl, sym, ap, subst, ◌∙◌, arith, Bool, true, false, not, cond, inl, inr, Option, Some, None, eqb, leb, IsSome, is_some, Contains, All, filter, length-replicate, get_or_past, All-nil, All-cons, Contains-append_left, Contains-append_right, Contains-push, cases_eq, cases_lt, false≢true, and_parts, and_from, and_right, or_parts, leb-false, not-true, not_from_true, not_from_false, false_from_ne_true, eqb_tells, SHARED_MAKER, Name, Value, Node, MutatorState, World, node_of, state_of, serial_of, no_mutator, IsWorld, shared_name, contains_cases, contains_head, contains_tail, get_is_some, nothing_in, contains_one, one_is, has_result, Entry, State, names_of, is_listed, is_new, with_mark, mark_name, mark_read, root_values, unmarked, oldest_first, opening, read_at, fields_of, is_last, moved_on, AreEmpty, after_scan, advanced, MayHold, IsSafe, owed, pushed, marked, contains_listed, listed_from, names_same, names_other, mark_cases, marked_then, Cycle, IsPushed, after_owing, Watches, Beside, IsSorted, HasFinished, SomeMarkerFinishes, names_in, after_pushing, no_names}
use Rattle.nmgc_world_spec.specs.declared.value.Value.TheVariants as value
use Rattle.nmgc_world_spec.specs.Reach as reach
use Rattle.nmgc_barrier_laws.specs.Barrier as barrier
use Rattle.nmgc_barrier_laws.specs.laws.{Tied.IsTied, TiedPush.MarksOn, TiedPush.marks_name, TiedPush.marks_scan, TiedPush.opening_marks, Beside.beside_tied}

-- THE NAMES OF A WORLD

abbrev named : ℕ → ℕ → Name
named maker serial = record { maker = maker; serial = serial }

abbrev names_below : ℕ → ℕ → List Name
names_below maker zero = []
names_below maker (suc n) = named maker n ∷ names_below maker n

below_has : (maker n serial : ℕ) → serial < n → Contains (names_below maker n) (named maker serial)
below_has maker zero serial lt = absurd (let l : serial < 0 = lt in omega arith)
below_has maker (suc n) serial lt = elim (cases_eq serial n) [
  | inl e ↦ subst (λ (k : ℕ). Contains (names_below maker (suc n)) (named maker k)) (sym e) (contains_head (named maker n) (names_below maker n))
  | inr ne ↦
      let differs : serial ≡ n → ⊥ = ne in
      let l : serial < suc n = lt in
      contains_tail (named maker n) (names_below maker n) (named maker serial) (below_has maker n serial (omega (arith, differs)))
]

abbrev names_of_makers : World → ℕ → List Name
names_of_makers w zero = shared_name ∷ []
names_of_makers w (suc k) = names_below k (serial_of w k) ++ names_of_makers w k

makers_have : (w : World) (k maker serial : ℕ) → maker < k → serial < serial_of w maker → Contains (names_of_makers w k) (named maker serial)
makers_have w zero maker serial lt below = absurd (let l : maker < 0 = lt in omega arith)
makers_have w (suc k) maker serial lt below = elim (cases_eq maker k) [
  | inl e ↦ Contains-append_left (names_below k (serial_of w k)) (names_of_makers w k) (named maker serial) (subst (λ (j : ℕ).
      Contains (names_below j (serial_of w j)) (named maker serial)) e (below_has maker (serial_of w maker) serial below))
  | inr ne ↦
      let differs : maker ≡ k → ⊥ = ne in
      let l : maker < suc k = lt in
      Contains-append_right (names_below k (serial_of w k)) (names_of_makers w k) (named maker serial)
      (makers_have w k maker serial (omega (arith, differs)) below)
]

shared_had : (w : World) (k : ℕ) → Contains (names_of_makers w k) shared_name
shared_had w zero = contains_one shared_name
shared_had w (suc k) = Contains-append_right (names_below k (serial_of w k)) (names_of_makers w k) shared_name (shared_had w k)

abbrev pub all_names : World → List Name
all_names w = names_of_makers w (length w.mutators)

pub all_have : (w : World) (n : Name) → IsSome (node_of w n) → Contains (all_names w) n
all_have w n there = elim (eqb_tells n.maker SHARED_MAKER) [
  | inl p ↦ elim (eqb_tells n.serial 0) [
    | inl z ↦ subst (λ (k : ℕ). Contains (all_names w) (named n.maker k)) (sym z.1) (subst (λ (k : ℕ).
        Contains (all_names w) (named k 0)) (sym p.1) (shared_had w (length w.mutators)))
    | inr z ↦ absurd (let bad = rw (p.0, z.0) at there in cc)
  ]
  | inr p ↦
      let lt : n.serial < serial_of w n.maker = get_is_some (state_of w n.maker).nodes n.serial (rw p.0 at there) in
      elim (cases_lt n.maker (length w.mutators)) [
        | inl below ↦ makers_have w (length w.mutators) n.maker n.serial below lt
        | inr le ↦
            let none : state_of w n.maker ≡ no_mutator = get_or_past w.mutators n.maker no_mutator le in
            let bad : n.serial < 0 = subst (λ (s : MutatorState). n.serial < length s.nodes) none lt in
            absurd (omega arith)
      ]
]

-- FEWER NAMES PASS A TEST

step_le : (x : Name) (fs gs : List Name) (a b : Bool) → (a ≡ true → b ≡ true) → length fs ≤ length gs →
    length (cond a (x ∷ fs) fs) ≤ length (cond b (x ∷ gs) gs)
step_le x fs gs true true k le = omega arith
step_le x fs gs true false k le = absurd (false≢true (k refl))
step_le x fs gs false true k le = omega arith
step_le x fs gs false false k le = le

step_here : (x : Name) (fs gs : List Name) (a b : Bool) → a ≡ false → b ≡ true → length fs ≤ length gs →
    length (cond a (x ∷ fs) fs) < length (cond b (x ∷ gs) gs)
step_here x fs gs true b e k le = absurd (false≢true (sym e))
step_here x fs gs false true e k le = omega arith
step_here x fs gs false false e k le = absurd (false≢true k)

step_lt : (x : Name) (fs gs : List Name) (a b : Bool) → (a ≡ true → b ≡ true) → length fs < length gs →
    length (cond a (x ∷ fs) fs) < length (cond b (x ∷ gs) gs)
step_lt x fs gs true true k lt = omega arith
step_lt x fs gs true false k lt = absurd (false≢true (k refl))
step_lt x fs gs false true k lt = omega arith
step_lt x fs gs false false k lt = lt

module _ (f g : Name → Bool) (k : (n : Name) → f n ≡ true → g n ≡ true) where
  filter_le : (xs : List Name) → length (filter f xs) ≤ length (filter g xs)
  filter_le [] = omega arith
  filter_le (x ∷ xs) = step_le x (filter f xs) (filter g xs) (f x) (g x) (k x) (filter_le xs)

  filter_less : (xs : List Name) (name : Name) → Contains xs name → f name ≡ false → g name ≡ true → length (filter f xs) < length (filter g xs)
  filter_less [] name c out within = absurd (nothing_in name c)
  filter_less (x ∷ xs) name c out within = elim (contains_cases x xs name c) [
    | inl e ↦ step_here x (filter f xs) (filter g xs) (f x) (g x) (subst (λ (n : Name). f n ≡ false) (sym e) out) (subst (λ (n : Name).
        g n ≡ true) (sym e) within) (filter_le xs)
    | inr r ↦ step_lt x (filter f xs) (filter g xs) (f x) (g x) (k x) (filter_less xs name r out within)
  ]

-- a marked name is no longer new, and no other name becomes new
still_new : (s : State) (name n : Name) → is_new (with_mark s name) n ≡ true → is_new s n ≡ true
still_new s name n e =
    let p : (is_some (node_of s.snapshot n) ≡ true) × (not (is_listed n (s.marked ++ name ∷ [])) ≡ true) =
    and_parts (is_some (node_of s.snapshot n)) (not (is_listed n (s.marked ++ name ∷ []))) e in
    let absent : is_listed n (s.marked ++ name ∷ []) ≡ false = not-true (is_listed n (s.marked ++ name ∷ [])) p.1 in
    and_from (is_some (node_of s.snapshot n)) (not (is_listed n s.marked)) p.0 (not_from_false (is_listed n s.marked)
    (false_from_ne_true (is_listed n s.marked) (λ t. false≢true (sym absent ∙ listed_from n (s.marked ++ name ∷
    []) (Contains-append_left s.marked (name ∷ []) n (contains_listed n s.marked t))))))

new_no_more : (s : State) (name : Name) → is_new (with_mark s name) name ≡ false
new_no_more s name = and_right (is_some (node_of s.snapshot name)) (not (is_listed name (s.marked ++ name ∷ []))) (not_from_true (is_listed name (s.marked ++
    name ∷ [])) (listed_from name (s.marked ++ name ∷ []) (Contains-push s.marked name)))

-- A SCAN

-- a bound above the number of positions that an entry has left to read
abbrev cost_of : Option Node → ℕ → ℕ
cost_of None position = 1
cost_of (Some node) position = suc (fields_of node + 1 - position)

abbrev costs : World → List Entry → ℕ
costs w [] = 0
costs w (e ∷ es) = cost_of (node_of w e.name) e.position + costs w es

moved_less : (w : World) (entry : Entry) (rest : List Entry) → costs w (moved_on (node_of w entry.name) entry ++ rest) <
    cost_of (node_of w entry.name) entry.position + costs w rest
moved_less w entry rest = by_node (node_of w entry.name) refl
  where
    by_last : (node : Node) → node_of w entry.name ≡ Some node → (b : Bool) → is_last node entry.position ≡ b →
        costs w (cond b [] ((record { name = entry.name; position = entry.position + 1 }) ∷ []) ++ rest) <
        suc (fields_of node + 1 - entry.position) + costs w rest
    by_last node e true is = let n : costs w rest < suc (fields_of node + 1 - entry.position) + costs w rest = omega arith in n
    by_last node e false is =
        let parts : (leb (fields_of node) entry.position ≡ false) × ((eqb entry.position 1 && has_result node) ≡ false) =
        or_parts (leb (fields_of node) entry.position) (eqb entry.position 1 && has_result node) is in
        let lt : entry.position < fields_of node = leb-false (fields_of node) entry.position parts.0 in
        let c : cost_of (node_of w entry.name) (entry.position + 1) ≡ suc (fields_of node + 1 - (entry.position + 1)) =
        ap (λ (o : Option Node). cost_of o (entry.position + 1)) e in
        let n : cost_of (node_of w entry.name) (entry.position + 1) + costs w rest < suc (fields_of node + 1 - entry.position) + costs w rest = omega arith in
        n

    by_node : (o : Option Node) → node_of w entry.name ≡ o → costs w (moved_on o entry ++ rest) < cost_of o entry.position + costs w rest
    by_node None e = let n : costs w rest < 1 + costs w rest = omega arith in n
    by_node (Some node) e = by_last node e (is_last node entry.position) refl

-- reading marks nothing or a new name
data Reads (s : State) : State → Type 0 where
  nothing : Reads s s
  fresh : (name : Name) → is_new s name ≡ true → Reads s (with_mark s name)

reads : (s : State) (o : Option Value) → Reads s (mark_read s o)
reads s None = nothing
reads s (Some value.Nil) = nothing
reads s (Some (value.Number n)) = nothing
reads s (Some (value.Ref name)) = mark_cases (Reads s) s name (λ e. fresh name e) (λ e. nothing)

module _ (all : List Name) where
  -- the number of unmarked names of the snapshot
  abbrev pub new_count : State → ℕ
  new_count s = length (filter (is_new s) all)

  abbrev Steps : State → State → Type 0
  Steps s t = (new_count t < new_count s) ⊎ ((new_count t ≡ new_count s) × (costs s.world t.queue < costs s.world s.queue))

  step_of : (s u : State) (entry : Entry) (rest : List Entry) → s.queue ≡ entry ∷ rest → ((n : Name) → IsSome (node_of s.snapshot n) → Contains all n) →
      Reads (record s { queue = rest }) u → Steps s (advanced u entry)
  step_of s u entry rest e within nothing = inr (
    refl,
    subst (λ (q : List Entry). costs s.world (moved_on (node_of s.world entry.name) entry ++ rest) < costs s.world q) (sym e)
        (moved_less s.world entry rest),
  )
  step_of s u entry rest e within (fresh name new) =
      let there : IsSome (node_of s.snapshot name) = (and_parts (is_some (node_of s.snapshot name)) (not (is_listed name s.marked)) new).0 in
      let less : new_count (with_mark s name) < new_count s =
      filter_less (is_new (with_mark s name)) (is_new s) (still_new s name) all name (within name there) (new_no_more s name) new in
      inl less

  scan_step : (s : State) (entry : Entry) (rest : List Entry) → s.queue ≡ entry ∷ rest → ((n : Name) → IsSome (node_of s.snapshot n) → Contains all n) →
      Steps s (after_scan s s.queue)
  scan_step s entry rest e within = subst (λ (q : List Entry). Steps s (after_scan s q)) (sym e)
      (step_of s _ entry rest e within (reads (record s { queue = rest }) (read_at (node_of s.world entry.name) entry.position)))

-- A MARKER THAT SCANS UNTIL NOTHING IS QUEUED

empty_lists : (lists : List (List Name)) → ((m : ℕ) → names_of lists m ≡ []) → AreEmpty lists
empty_lists [] each = All-nil (λ (names : List Name). names ≡ [])
empty_lists (l ∷ ls) each = All-cons (λ (names : List Name). names ≡ []) l ls (each zero) (empty_lists ls (λ m. each (suc m)))

-- a marker that has taken all pushed names
pub record IsReady (P : State → Type 0) (all : List Name) (s : State) : Type 0 where
  pub beside : P s
  pub empty : (m : ℕ) → names_of s.pushed m ≡ []
  pub within : (n : Name) → IsSome (node_of s.snapshot n) → Contains all n

-- a marker whose states have the property P, which a scan keeps
module _ (P : State → Type 0) (goes_on : (s : State) → P s → P (after_scan s s.queue)) (all : List Name) where
  abbrev pub Finishes : Type 0
  Finishes = (s : State) × P s × HasFinished s

  scanned : (s : State) → IsReady P all s → IsReady P all (after_scan s s.queue)
  scanned s r =
      let k : MarksOn s (after_scan s s.queue) = marks_scan s s.queue in
      record {
        beside = goes_on s r.beside;
        empty = λ m. subst (λ (l : List (List Name)). names_of l m ≡ []) (sym k.pushed) (r.empty m);
        within = λ n there. r.within n (subst (λ (v : World). IsSome (node_of v n)) k.snapshot there);
      }

  turn : (s : State) → IsReady P all s → ((t : State) → IsReady P all t → t.world ≡ s.world → Steps all s t → Finishes) → Finishes
  turn s r go = by_queue s.queue refl
    where
      by_queue : (queue : List Entry) → s.queue ≡ queue → Finishes
      by_queue [] e = (s, r.beside, record { queue = e; pushed = empty_lists s.pushed r.empty })
      by_queue (entry ∷ rest) e =
          let k : MarksOn s (after_scan s s.queue) = marks_scan s s.queue in
          go (after_scan s s.queue) (scanned s r) k.world (scan_step all s entry rest e r.within)

  run : (k : ℕ) → ((t : State) → IsReady P all t → new_count all t < k → Finishes) → (c : ℕ) (s : State) → IsReady P all s → new_count all s ≤ k →
      costs s.world s.queue ≤ c → Finishes
  run k again zero s r few low = turn s r (λ t rt same step. elim step [
    | inl less ↦ again t rt (omega arith)
    | inr p ↦ absurd (let lt : costs s.world t.queue < costs s.world s.queue = p.1 in omega arith)
  ])
  run k again (suc c) s r few low = turn s r (λ t rt same step. elim step [
    | inl less ↦ again t rt (omega arith)
    | inr p ↦
        let count : new_count all t ≡ new_count all s = p.0 in
        let lt : costs s.world t.queue < costs s.world s.queue = p.1 in
        let lower : costs s.world t.queue ≤ c = omega arith in
        run k again c t rt (omega arith) (subst (λ (v : World). costs v t.queue ≤ c) (sym same) lower)
  ])

  pub finishes : (k : ℕ) (s : State) → IsReady P all s → new_count all s ≤ k → Finishes
  finishes zero s r few = run zero (λ t rt lt. absurd (let l : new_count all t < 0 = lt in omega arith)) (costs s.world s.queue) s r few (omega arith)
  finishes (suc k) s r few = run (suc k) (λ t rt lt. finishes k t rt (omega arith)) (costs s.world s.queue) s r few (omega arith)

-- A MARKER THAT TAKES EACH NAME AS IT IS PUSHED

module _ (w : World) (is : IsWorld w) (h next : Cycle) (s : State) (name : Name) (b : Beside w h s) (k : IsPushed h name next)
    (place : 0 < length s.pushed) (empty : (m : ℕ) → names_of s.pushed m ≡ []) where
  abbrev over : State
  over = after_pushing s 0 name next.debts

  beside_over : Beside w next over
  beside_over = barrier.push h next s 0 name b k place

  may : MayHold over name
  may there = reach.further name (Contains-append_right s.opened (name ∷ []) name (contains_one name)) there

  abbrev holding : State
  holding = mark_name over name

  beside_holding : Beside w next holding
  beside_holding = barrier.mark next over name beside_over may

  keeps : MarksOn over holding
  keeps = marks_name over name

  own : names_of over.pushed 0 ≡ name ∷ []
  own = names_same s.pushed 0 (names_of s.pushed 0 ++ name ∷ []) place ∙ ap (λ (l : List Name). l ++ name ∷ []) (empty 0)

  others : (m : ℕ) → m ≢ 0 → names_of over.pushed m ≡ []
  others m ne = names_other s.pushed 0 m (names_of s.pushed 0 ++ name ∷ []) ne ∙ empty m

  -- the only waiting name is the pushed name, and it is marked
  is_marked : (n : Name) (m : ℕ) → Contains (names_of holding.pushed m) n → IsSome (node_of holding.snapshot n) → Contains holding.marked n
  is_marked n m c there =
      let before : Contains (names_of over.pushed m) n = subst (λ (l : List (List Name)). Contains (names_of l m) n) keeps.pushed c in
      elim (cases_eq m 0) [
        | inl e ↦
            let here : Contains (names_of over.pushed 0) n = subst (λ (j : ℕ). Contains (names_of over.pushed j) n) e before in
            let same : name ≡ n = one_is name n (subst (λ (l : List Name). Contains l n) own here) in
            let known : IsSome (node_of over.snapshot n) = subst (λ (v : World). IsSome (node_of v n)) keeps.snapshot there in
            subst (λ (x : Name). Contains holding.marked x) same (marked_then over name (subst (λ (x : Name).
            IsSome (node_of over.snapshot x)) (sym same) known))
        | inr ne ↦ absurd (nothing_in n (subst (λ (l : List Name). Contains l n) (others m ne) before))
      ]

  abbrev emptied : State
  emptied = record holding { pushed = replicate (length holding.pushed) [] }

  safe_on : (n : Name) → IsSome (node_of holding.snapshot n) → IsSafe holding n → IsSafe emptied n
  safe_on n there (marked c) = marked c
  safe_on n there (owed m c) = owed m c
  safe_on n there (pushed m c) = marked (is_marked n m c there)

  sorts : IsSorted holding emptied
  sorts =
      let t : IsTied next holding = beside_tied w is next holding beside_holding in
      record {
        shuffled = record {
          rest = refl;
          queue = λ entry. (λ c. c, λ c. c);
          owed_lists = refl;
          pushed_lists = length-replicate (length holding.pushed) [];
          owed = t.facts.base.owed;
          pushed = λ m. subst (All (MayHold holding)) (sym (no_names (length holding.pushed) m)) (All-nil (MayHold holding));
          safe = safe_on;
        };
        owed = refl;
        way = λ n there o. elim o [ inl c ↦ inl c | inr x ↦ inl (is_marked n x.0 x.1 there) ];
      }

  push_ready : (t : State) × Beside w next t × ((m : ℕ) → names_of t.pushed m ≡ [])
  push_ready = (emptied, barrier.sort next holding emptied beside_holding sorts, no_names (length holding.pushed))

some_ready : (w : World) → IsWorld w → (h : Cycle) → Watches w h → (s : State) × Beside w h s × ((m : ℕ) → names_of s.pushed m ≡ [])
some_ready w is h barrier.begun =
    let k : MarksOn (unmarked oldest_first w) (opening w) = opening_marks (unmarked oldest_first w) (root_values w) in
    (opening w, barrier.start, λ m. subst (λ (l : List (List Name)). names_of l m ≡ []) (sym k.pushed) (no_names (length w.mutators) m))
some_ready w is h (barrier.given before next line m c answer h' k) =
    let p : (s : State) × Beside w before s × ((j : ℕ) → names_of s.pushed j ≡ []) = some_ready w is before h' in
    (after_owing p.0 m c (names_in next.debts), barrier.command before next p.0 line m c answer p.1 k, p.2)
some_ready w is h (barrier.pushed before next name h' k) =
    let p : (s : State) × Beside w before s × ((j : ℕ) → names_of s.pushed j ≡ []) = some_ready w is before h' in
    let t : IsTied before p.0 = beside_tied w is before p.0 p.1 in
    let place : 0 < length p.0.pushed = let a : length p.0.pushed ≡ length p.0.world.mutators = t.facts.base.pushed_lists in
    let c : 1 ≤ length p.0.world.mutators = t.closed.some in omega arith in
    push_ready w is before next p.0 name p.1 k place p.2
some_ready w is h (barrier.taken before next name h' k) =
    let p : (s : State) × Beside w before s × ((j : ℕ) → names_of s.pushed j ≡ []) = some_ready w is before h' in
    (p.0, barrier.take before next p.0 name p.1 k, p.2)

pub some_finisher : SomeMarkerFinishes
some_finisher w is h watches =
    let p : (s : State) × Beside w h s × ((j : ℕ) → names_of s.pushed j ≡ []) = some_ready w is h watches in
    let all : List Name = all_names p.0.snapshot in
    finishes (Beside w h) (λ t b. barrier.scan h t b) all (new_count all p.0) p.0 (record { beside = p.1; empty = p.2; within = all_have p.0.snapshot }) (omega arith)
