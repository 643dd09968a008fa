-- The machine takes all pushed objects: mutator after mutator, and for each mutator one name after another.
use Rattle.nmgc_collector_laws.proofs.Vocabulary.{eqb, eq-eqb, eqb-true, ◌≡◌, ◌≢◌, ◌+◌, ◌<◌, ◌≤◌, ℕ, suc, Bool, true, false, not, ◌&&◌, cond, List, [], ◌∷◌, ◌++◌, length, set, refl, sym, ap, subst, ◌∙◌, arith, append-nil, length-set, inl, inr, Some, Contains, slice_get, is_some, filter, flat_map, cases_eq, and_cases, not-false, Contains-append_left, Name, World, IsWorld, node_of, is_same_name, shared_name, contains_head, contains_tail, contains_cases, nothing_in, Event, Facts, AreEmpty, after_take, is_pushed_in, Runs, State, names_of, is_listed, is_new, entry_of, mark_name, newest_first, opening_in, names_same, names_other, listed_from, tested_same, mark_cases, facts_kept, snapshot_theorem, Place, Marks, marks_of, name_at, with_name, Opening, AreAt, AreRemembered, IsCoreOf, Cycle, with_places, runs_then, marks_if, joined}
use Rattle.nmgc_snapshot_laws.specs.declared.event.Event.TheVariants as event
use Rattle.nmgc_collector_laws.proofs.cycles.Pushing.{all_empty}
use Rattle.nmgc_snapshot_laws.specs.laws.MarkedOnce.{marked_runs}

-- names are marked one after another, if they are in the snapshot and weren't marked
abbrev pub with_names : World → Marks → List Name → Marks
with_names snapshot m [] = m
with_names snapshot m (name ∷ names) = with_names snapshot (with_name snapshot m (Some name)) names

-- the machine took all pushed objects, and so has marked these names too
pub record HasTaken (c : Cycle) (w : World) (core : State) (names : List Name) (after : State) : Type 0 where
  pub machine : IsCoreOf c w after
  pub none_pushed : AreEmpty after.pushed
  pub marks : marks_of after ≡ with_names c.snapshot (marks_of core) names

-- marking a name changes only marks and queue
record OnlyMarks (s t : State) : Type 0 where
  world : t.world ≡ s.world
  snapshot : t.snapshot ≡ s.snapshot
  owed : t.owed ≡ s.owed
  is_closed : t.is_closed ≡ s.is_closed

named : (s : State) (name : Name) → OnlyMarks s (mark_name s name) × ((mark_name s name).pushed ≡ s.pushed)
named s name = mark_cases (λ (t : State). OnlyMarks s t × (t.pushed ≡ s.pushed)) s name (λ new.
    (record { world = refl; snapshot = refl; owed = refl; is_closed = refl }, refl)) (λ old.
    (record { world = refl; snapshot = refl; owed = refl; is_closed = refl }, refl))

marks_named : (s : State) (name : Name) → marks_of (mark_name s name) ≡ with_name s.snapshot (marks_of s) (Some name)
marks_named s name = marks_if (is_new s name) s name

-- marked names stay marked
still_if : (b : Bool) (m : Marks) (name other : Name) → Contains m.marked other →
    Contains (cond b (record m { marked = m.marked ++ name ∷ []; queue = joined m.order m.queue (entry_of name) }) m).marked other
still_if true m name other c = Contains-append_left m.marked (name ∷ []) other c
still_if false m name other c = c

still_named : (snapshot : World) (m : Marks) (name other : Name) → Contains m.marked other → Contains (with_name snapshot m (Some name)).marked other
still_named snapshot m name other c = still_if (is_some (node_of snapshot name) && not (is_listed name m.marked)) m name other c

still_marked : (snapshot : World) (m : Marks) (names : List Name) (other : Name) → Contains m.marked other → Contains (with_names snapshot m names).marked other
still_marked snapshot m [] other c = c
still_marked snapshot m (name ∷ names) other c = still_marked snapshot (with_name snapshot m (Some name)) names other (still_named snapshot m name other c)

-- more names after these
names_then : (snapshot : World) (m : Marks) (names more : List Name) →
    with_names snapshot m (names ++ more) ≡ with_names snapshot (with_names snapshot m names) more
names_then snapshot m [] more = refl
names_then snapshot m (name ∷ names) more = names_then snapshot (with_name snapshot m (Some name)) names more

-- a name that doesn't count marks nothing if g is marked
not_both : (there listed : Bool) → there ≡ false → (there && not listed) ≡ false
not_both true listed e = absurd cc
not_both false listed e = refl

listed_not : (there listed : Bool) → listed ≡ true → (there && not listed) ≡ false
listed_not true listed e = ap not e
listed_not false listed e = refl

uncounted : (snapshot : World) (m : Marks) (name : Name) → Contains m.marked shared_name → is_pushed_in snapshot name ≡ false →
    with_name snapshot m (Some name) ≡ m
uncounted snapshot m name shared none =
    let made : Marks = record m { marked = m.marked ++ name ∷ []; queue = joined m.order m.queue (entry_of name) } in
    let off : (is_some (node_of snapshot name) && not (is_listed name m.marked)) ≡ false =
    elim (and_cases (is_some (node_of snapshot name)) (not (is_same_name name shared_name)) none) [
      | inl gone ↦ not_both (is_some (node_of snapshot name)) (is_listed name m.marked) gone
      | inr same ↦ listed_not (is_some (node_of snapshot name)) (is_listed name m.marked) (listed_from name m.marked (rw (tested_same name shared_name (not-false (is_same_name name shared_name) same)) shared))
    ] in
    ap (λ (b : Bool). cond b made m) off

counted_first : (b : Bool) (snapshot : World) (m : Marks) (name : Name) (counted names : List Name) → is_pushed_in snapshot name ≡ b →
    Contains m.marked shared_name → ((k : Marks) → Contains k.marked shared_name → with_names snapshot k counted ≡ with_names snapshot k names) →
    with_names snapshot m (cond b (name ∷ counted) counted) ≡ with_names snapshot m (name ∷ names)
counted_first true snapshot m name counted names is shared rest = rest (with_name snapshot m (Some name)) (still_named snapshot m name shared_name shared)
counted_first false snapshot m name counted names is shared rest = cc (rest m shared, uncounted snapshot m name shared is)

-- names mark the same as the names among them that count
counted_same : (snapshot : World) (names : List Name) (m : Marks) → Contains m.marked shared_name →
    with_names snapshot m (filter (is_pushed_in snapshot) names) ≡ with_names snapshot m names
counted_same snapshot [] m shared = refl
counted_same snapshot (name ∷ names) m shared =
    counted_first (is_pushed_in snapshot name) snapshot m name (filter (is_pushed_in snapshot) names) names refl shared (counted_same snapshot names)

-- names of one mutator were taken
record HasTakenOwn (s t : State) (m : ℕ) (names : List Name) : Type 0 where
  events : List Event
  runs : Runs s events [] t
  only : OnlyMarks s t
  count : length t.pushed ≡ length s.pushed
  none : names_of t.pushed m ≡ []
  others : (k : ℕ) → k ≢ m → names_of t.pushed k ≡ names_of s.pushed k
  marks : marks_of t ≡ with_names s.snapshot (marks_of s) names

-- one take, and those after it
take_first : (s t : State) (m : ℕ) (name : Name) (rest : List Name) → s.is_closed ≡ false → names_of s.pushed m ≡ name ∷ rest →
    HasTakenOwn (after_take s m (name ∷ rest)) t m rest → HasTakenOwn s t m (name ∷ rest)
take_first s t m name rest running e h =
    let less : State = record s { pushed = set s.pushed m rest } in
    let next : State = after_take s m (name ∷ rest) in
    let n = named less name in
    record {
      events = event.Take m ∷ h.events;
      runs = (
        true,
        next,
        [],
        (
          (running, λ none. absurd (let bad : name ∷ rest ≡ [] = sym e ∙ none in cc)),
          ap (λ (l : List Name). after_take s m l) (sym e),
        ),
        refl,
        h.runs,
      );
      only = record {
        world = h.only.world ∙ n.0.world;
        snapshot = h.only.snapshot ∙ n.0.snapshot;
        owed = h.only.owed ∙ n.0.owed;
        is_closed = h.only.is_closed ∙ n.0.is_closed;
      };
      count = h.count ∙ ap (λ (l : List (List Name)). length l) n.1 ∙ length-set s.pushed m rest;
      none = h.none;
      others = λ k ne. h.others k ne ∙ ap (λ (l : List (List Name)). names_of l k) n.1 ∙ names_other s.pushed m k rest ne;
      marks = h.marks ∙ ap (λ (w : World). with_names w (marks_of next) rest) n.0.snapshot ∙
          ap (λ (k : Marks). with_names s.snapshot k rest) (marks_named less name);
    }

take_names : (s : State) (m : ℕ) (names : List Name) → s.is_closed ≡ false → m < length s.pushed → names_of s.pushed m ≡ names → (t : State) ×
    HasTakenOwn s t m names
take_names s m [] running lt e = (
  s,
  record {
    events = [];
    runs = (refl, refl);
    only = record { world = refl; snapshot = refl; owed = refl; is_closed = refl };
    count = refl;
    none = e;
    others = λ k ne. refl;
    marks = refl;
  },
)
take_names s m (name ∷ rest) running lt e =
    let n = named (record s { pushed = set s.pushed m rest }) name in
    let next : State = after_take s m (name ∷ rest) in
    let here : length next.pushed ≡ length s.pushed = ap (λ (l : List (List Name)). length l) n.1 ∙ length-set s.pushed m rest in
    let later = take_names next m rest (n.0.is_closed ∙ running) (omega arith) (cc (n.1, names_same s.pushed m rest lt)) in
    (later.0, take_first s later.0 m name rest running e later.1)

-- places of names, one list after another
at_both : (places : List Place) (ats more : List ℕ) (names others : List Name) → AreAt places ats names → AreAt places more others →
    AreAt places (ats ++ more) (names ++ others)
at_both places [] more [] others a b = b
at_both places [] more (name ∷ names) others a b = absurd a
at_both places (at ∷ ats) more [] others a b = absurd a
at_both places (at ∷ ats) more (name ∷ names) others a b = (a.0, at_both places ats more names others a.1 b)

module _ (c : Cycle) (places : List Place) where
  -- all mutators from `first` on were taken from, and their remembered entries are places of these names
  record HasTakenFrom (s t : State) (first : ℕ) (entries : List (List ℕ)) : Type 0 where
    names : List Name
    at : AreAt places (flat_map (λ (own : List ℕ). own) entries) names
    events : List Event
    runs : Runs s events [] t
    only : OnlyMarks s t
    count : length t.pushed ≡ length s.pushed
    none : (k : ℕ) → first ≤ k → k < first + length entries → names_of t.pushed k ≡ []
    others : (k : ℕ) → k < first → names_of t.pushed k ≡ names_of s.pushed k
    marks : marks_of t ≡ with_names c.snapshot (marks_of s) names

  -- taking from a mutator marks the same as the names at its places
  own_marks : (s u : State) (first : ℕ) (entry : List ℕ) → s.snapshot ≡ c.snapshot → Contains s.marked shared_name →
      (r : AreRemembered c places entry (names_of s.pushed first)) → HasTakenOwn s u first (names_of s.pushed first) →
      marks_of u ≡ with_names c.snapshot (marks_of s) r.names
  own_marks s u first entry snapshot shared r h =
      cc (h.marks, snapshot, r.counted, counted_same c.snapshot r.names (marks_of s) shared)

  -- one mutator, and those after it
  take_next : (s u t : State) (first : ℕ) (entry : List ℕ) (entries : List (List ℕ)) → s.snapshot ≡ c.snapshot → Contains s.marked shared_name →
      AreRemembered c places entry (names_of s.pushed first) → HasTakenOwn s u first (names_of s.pushed first) →
      HasTakenFrom u t (suc first) entries → HasTakenFrom s t first (entry ∷ entries)
  take_next s u t first entry entries snapshot shared r h g = record {
    names = r.names ++ g.names;
    at = at_both places entry (flat_map (λ (x : List ℕ). x) entries) r.names g.names r.at g.at;
    events = h.events ++ g.events;
    runs = runs_then s u t h.events g.events [] [] h.runs g.runs;
    only = record {
      world = g.only.world ∙ h.only.world;
      snapshot = g.only.snapshot ∙ h.only.snapshot;
      owed = g.only.owed ∙ h.only.owed;
      is_closed = g.only.is_closed ∙ h.only.is_closed;
    };
    count = g.count ∙ h.count;
    none = λ k from to. elim (cases_eq k first) [
      | inl is ↦ subst (λ (j : ℕ). names_of t.pushed j ≡ []) (sym is) (g.others first (omega arith) ∙ h.none)
      | inr ne ↦ g.none k (omega arith) (omega arith)
    ];
    others = λ k lt. g.others k (omega arith) ∙ h.others k (λ e. omega arith);
    marks = cc (g.marks, own_marks s u first entry snapshot shared r h, names_then c.snapshot (marks_of s) r.names g.names);
  }

  take_from : (s : State) (first : ℕ) (entries : List (List ℕ)) → s.snapshot ≡ c.snapshot → Contains s.marked shared_name → s.is_closed ≡ false →
      first + length entries ≤ length s.pushed → ((k : ℕ) (own : List ℕ) → slice_get entries k ≡ Some own →
      AreRemembered c places own (names_of s.pushed (first + k))) → (t : State) × HasTakenFrom s t first entries
  take_from s first [] snapshot shared running many own = (
    s,
    record {
      names = [];
      at = tt;
      events = [];
      runs = (refl, refl);
      only = record { world = refl; snapshot = refl; owed = refl; is_closed = refl };
      count = refl;
      none = λ k from to. absurd (omega arith);
      others = λ k lt. refl;
      marks = refl;
    },
  )
  take_from s first (entry ∷ entries) snapshot shared running many own =
      let at_first : first + 0 ≡ first = omega arith in
      let r : AreRemembered c places entry (names_of s.pushed first) =
      subst (λ (j : ℕ). AreRemembered c places entry (names_of s.pushed j)) at_first (own 0 entry refl) in
      let taken = take_names s first (names_of s.pushed first) running (omega arith) refl in
      let h : HasTakenOwn s taken.0 first (names_of s.pushed first) = taken.1 in
      let count = h.count in
      let still : Contains taken.0.marked shared_name = subst (λ (k : Marks).
      Contains k.marked shared_name) (sym (own_marks s taken.0 first entry snapshot shared r h))
      (still_marked c.snapshot (marks_of s) r.names shared_name shared) in
      let later = take_from taken.0 (suc first) entries (h.only.snapshot ∙ snapshot) still (h.only.is_closed ∙ running) (omega arith) (still_own taken.0 h) in
      (later.0, take_next s taken.0 later.0 first entry entries snapshot shared r h later.1)
    where
      still_own : (u : State) → HasTakenOwn s u first (names_of s.pushed first) → (k : ℕ) (x : List ℕ) → slice_get entries k ≡ Some x →
          AreRemembered c places x (names_of u.pushed (suc first + k))
      still_own u h k x e =
          let ne : first + suc k ≢ first = λ bad. omega arith in
          let place : first + suc k ≡ suc first + k = omega arith in
          subst (λ (j : ℕ). AreRemembered c places x (names_of u.pushed j)) place (subst (λ (l : List Name).
          AreRemembered c places x l) (sym (h.others (first + suc k) ne)) (own (suc k) x e))

-- the remembered entries, mutator after mutator, are places of names; taking the pushed names marks the same as these
pub machine_takes : (c : Cycle) (w : World) (core : State) (places : List Place) (entries : List (List ℕ)) → IsWorld c.snapshot →
    IsCoreOf c w core → length entries ≡ length core.pushed →
    ((k : ℕ) (own : List ℕ) → slice_get entries k ≡ Some own → AreRemembered c places own (names_of core.pushed k)) →
    (names : List Name) × (after : State) × AreAt places (flat_map (λ (own : List ℕ). own) entries) names × HasTaken c w core names after
machine_takes c w core places entries world m many own =
    let facts : Facts core = facts_kept newest_first c.snapshot world m.events c.rows core m.runs m.open_yet in
    let marking = (snapshot_theorem newest_first c.snapshot world m.events c.rows core m.runs).before m.open_yet in
    let all : (t : State) × HasTakenFrom c places core t 0 entries =
    take_from c places core 0 entries marking.snapshot (facts.roots shared_name (inl refl)) m.open_yet (omega arith) (λ k x e.
    let place : k ≡ 0 + k = omega arith in subst (λ (j : ℕ). AreRemembered c places x (names_of core.pushed j)) place (own k x e)) in
    let t : State = all.0 in
    let h : HasTakenFrom c places core t 0 entries = all.1 in
    let count = h.count in (
      h.names,
      t,
      h.at,
      record {
        machine = record {
          events = m.events ++ h.events;
          runs = rw (append-nil c.rows) at (runs_then (opening_in newest_first c.snapshot) core t m.events h.events c.rows [] m.runs h.runs);
          open_yet = h.only.is_closed ∙ m.open_yet;
          world_is = h.only.world ∙ m.world_is;
          nothing_owed = subst AreEmpty (sym h.only.owed) m.nothing_owed;
          handed = λ name owed there. marked_runs core h.events [] t h.runs (h.only.is_closed ∙ m.open_yet) name (m.handed name owed there);
        };
        none_pushed = all_empty t.pushed (λ k lt. h.none k (omega arith) (omega arith));
        marks = h.marks;
      },
    )

-- the name at a place

name_if : (b : Bool) (p : Place) (ps : List Place) (at : ℕ) (name : Name) → (b ≡ true → p.name ≡ name) → (b ≡ false → name_at ps at ≡ Some name) →
    cond b (Some p.name) (name_at ps at) ≡ Some name
name_if true p ps at name here later = ap (λ (n : Name). Some n) (here refl)
name_if false p ps at name here later = later refl

found_at : (all places : List Place) → ((p q : Place) → Contains all p → Contains all q → p.at ≡ q.at → p ≡ q) →
    ((p : Place) → Contains places p → Contains all p) → (at : ℕ) (name : Name) → Contains places (record { at = at; name = name }) →
    name_at places at ≡ Some name
found_at all [] one among at name c = absurd (nothing_in (record { at = at; name = name }) c)
found_at all (p ∷ places) one among at name c =
    name_if (eqb p.at at) p places at name
    (λ same. ap (λ (q : Place). q.name) (one p (record {
      at = at;
      name = name;
    }) (among p (contains_head p places)) (among (record { at = at; name = name }) c) (eqb-true p.at at same)))
    (λ other. elim (contains_cases p places (record { at = at; name = name }) c) [
      | inl is ↦ let same : eqb p.at at ≡ true = eq-eqb p.at at (ap (λ (q : Place). q.at) is) in let bad : true ≡ false = sym same ∙ other in absurd cc
      | inr later ↦ found_at all places one (λ q d. among q (contains_tail p places q d)) at name later
    ])

-- if no two places are the same, entries mark the same as their names
pub places_mark : (o : Opening) (m : Marks) (entries : List ℕ) (names : List Name) →
    ((p q : Place) → Contains o.places p → Contains o.places q → p.at ≡ q.at → p ≡ q) → AreAt o.places entries names →
    with_places o m entries ≡ with_names o.core.snapshot m names
places_mark o m [] [] one h = refl
places_mark o m [] (name ∷ names) one h = absurd h
places_mark o m (at ∷ ats) [] one h = absurd h
places_mark o m (at ∷ ats) (name ∷ names) one h =
    cc (found_at o.places o.places one (λ p c. c) at name h.0, places_mark o (with_name o.core.snapshot m (Some name)) ats names one h.1)
