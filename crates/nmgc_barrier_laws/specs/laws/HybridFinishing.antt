-- Beside each cycle with later roots a finished marker is possible. It marks and drops the pushed names, and scans until
-- nothing is queued.
use Rattle.std.proofs.Common.{◌≡◌, ℕ, List, [], ◌∷◌, length, replicate, refl, sym, subst, ◌∙◌, arith, inl, inr}
use Rattle.std.specs.{Prelude.IsSome, Prelude.Contains, Prelude.All, List.flat_map}
use Rattle.std.proofs.{lemmas.List.length-replicate, lemmas.List.get_or_past, lemmas.List.Elements.All-nil, lemmas.List.Elements.All-contains, lemmas.List.Elements.Contains-get_or, lemmas.Bool.cases_lt}
use Rattle.nmgc_world_spec.specs.{declared.value.Name.Name, World.World, World.node_of, Known.IsWorld}
use Rattle.nmgc_lists.specs.laws.Items.{contains_cases, contains_head, contains_tail, contains_flat, flat_contains, nothing_in, place_of}
use Rattle.nmgc_snapshot_laws.specs.{State.State, State.names_of, State.mark_name, Facts.MayHold, Facts.IsSafe, Facts.owed, Facts.pushed, Facts.marked, laws.Openings.no_names, laws.Marking.marked_then}
use Rattle.nmgc_barrier_laws.specs.{Barrier.IsSorted, Hybrid.Hybrid, Hybrid.WatchesIn, Hybrid.BesideIn, Hybrid.SomeMarkerFinishesIn, laws.TiedPush.MarksOn, laws.TiedPush.marks_same, laws.TiedPush.marks_name, laws.Finishing.finishes, laws.Finishing.all_names, laws.Finishing.all_have, laws.Finishing.new_count, laws.HybridTied.IsTiedIn, laws.HybridBeside.beside_tied, laws.HybridSafe.some_marker_in}
use Rattle.nmgc_barrier_laws.specs.Hybrid as hybrid

marks_then : (s t u : State) → MarksOn s t → MarksOn t u → MarksOn s u
marks_then s t u a b = record {
  world = b.world ∙ a.world;
  snapshot = b.snapshot ∙ a.snapshot;
  opened = b.opened ∙ a.opened;
  finalised = b.finalised ∙ a.finalised;
  is_closed = b.is_closed ∙ a.is_closed;
  owed = b.owed ∙ a.owed;
  pushed = b.pushed ∙ a.pushed;
  marked = λ n c. b.marked n (a.marked n c);
}

may_on : (s u : State) (name : Name) → MarksOn s u → MayHold s name → MayHold u name
may_on s u name k h there = rw (k.snapshot, k.opened) (h (rw k.snapshot at there))

-- all these names are marked in turn
record Marks (w : World) (h : Hybrid) (names : List Name) (s u : State) : Type 0 where
  beside : BesideIn w h u
  on : MarksOn s u
  each : (n : Name) → Contains names n → IsSome (node_of s.snapshot n) → Contains u.marked n

marks_all : (w : World) (h : Hybrid) (names : List Name) (s : State) → BesideIn w h s → ((n : Name) → Contains names n → MayHold s n) →
    (u : State) × Marks w h names s u
marks_all w h [] s b may = (s, record { beside = b; on = marks_same s; each = λ n c there. absurd (nothing_in n c) })
marks_all w h (name ∷ names) s b may =
    let t : State = mark_name s name in
    let k : MarksOn s t = marks_name s name in
    let p : (u : State) × Marks w h names t u = marks_all w h names t (hybrid.mark h s name b (may name (contains_head name names))) (λ n c.
    may_on s t n k (may n (contains_tail name names n c))) in (
      p.0,
      record {
        beside = p.1.beside;
        on = marks_then s t p.0 k p.1.on;
        each = λ n c there. elim (contains_cases name names n c) [
          | inl e ↦ p.1.on.marked n (subst (λ (x : Name). Contains t.marked x) e (marked_then s name (subst (λ (x : Name).
              IsSome (node_of s.snapshot x)) (sym e) there)))
          | inr r ↦ p.1.each n r (subst (λ (v : World). IsSome (node_of v n)) (sym k.snapshot) there)
        ];
      },
    )

-- the pushed names
abbrev waiting : State → List Name
waiting s = flat_map (λ (names : List Name). names) s.pushed

in_waiting : (s : State) (m : ℕ) (n : Name) → Contains (names_of s.pushed m) n → Contains (waiting s) n
in_waiting s m n c = elim (cases_lt m (length s.pushed)) [
  | inl lt ↦ contains_flat (λ (names : List Name). names) s.pushed (names_of s.pushed m) n (Contains-get_or s.pushed m [] lt) c
  | inr le ↦ absurd (nothing_in n (subst (λ (l : List Name). Contains l n) (get_or_past s.pushed m [] le) c))
]

module _ (w : World) (is : IsWorld w) (h : Hybrid) (s : State) (b : BesideIn w h s) where
  t : IsTiedIn h s
  t = beside_tied w is h s b

  waiting_may : (n : Name) → Contains (waiting s) n → MayHold s n
  waiting_may n c =
      let p : (names : List Name) × Contains s.pushed names × Contains names n = flat_contains (λ (names : List Name). names) s.pushed n c in
      let q = place_of s.pushed p.0 p.1 in
      All-contains (MayHold s) (names_of s.pushed q.0) n (t.facts.base.pushed q.0)
      (subst (λ (l : List Name). Contains l n) (sym (Rattle.std.proofs.lemmas.Option.get_or_from_slice_get s.pushed q.0 p.0 [] q.1)) p.2)

  all : (u : State) × Marks w h (waiting s) s u
  all = marks_all w h (waiting s) s b waiting_may

  abbrev emptied : State → State
  emptied u = record u { pushed = replicate (length u.pushed) [] }

  ready : (u : State) × BesideIn w h u × ((m : ℕ) → names_of u.pushed m ≡ [])
  ready = by_mark all
    where
      by_mark : (u : State) × Marks w h (waiting s) s u → (v : State) × BesideIn w h v × ((m : ℕ) → names_of v.pushed m ≡ [])
      by_mark (u, k) = (emptied u, hybrid.sort h u (emptied u) k.beside sorts, no_names (length u.pushed))
        where
          is_marked : (n : Name) (m : ℕ) → Contains (names_of u.pushed m) n → IsSome (node_of u.snapshot n) → Contains u.marked n
          is_marked n m c there = k.each n (in_waiting s m n (subst (λ (l : List (List Name)). Contains (names_of l m) n) k.on.pushed c))
              (subst (λ (v : World). IsSome (node_of v n)) k.on.snapshot there)

          safe_on : (n : Name) → IsSome (node_of u.snapshot n) → IsSafe u n → IsSafe (emptied u) n
          safe_on n there (marked c) = marked c
          safe_on n there (owed m c) = owed m c
          safe_on n there (pushed m c) = marked (is_marked n m c there)

          sorts : IsSorted u (emptied u)
          sorts =
              let tu : IsTiedIn h u = beside_tied w is h u k.beside in
              record {
                shuffled = record {
                  rest = refl;
                  queue = λ entry. (λ c. c, λ c. c);
                  owed_lists = refl;
                  pushed_lists = length-replicate (length u.pushed) [];
                  owed = tu.facts.base.owed;
                  pushed = λ m. subst (All (MayHold u)) (sym (no_names (length u.pushed) m)) (All-nil (MayHold u));
                  safe = safe_on;
                };
                owed = refl;
                way = λ n there o. elim o [ inl c ↦ inl c | inr x ↦ inl (is_marked n x.0 x.1 there) ];
              }

pub some_finisher_in : SomeMarkerFinishesIn
some_finisher_in w is h watches =
    let p : (s : State) × BesideIn w h s = some_marker_in w is h watches in
    let r : (u : State) × BesideIn w h u × ((m : ℕ) → names_of u.pushed m ≡ []) = ready w is h p.0 p.1 in
    let names : List Name = all_names r.0.snapshot in
    finishes (BesideIn w h) (λ t b. hybrid.scan h t b) names (new_count names r.0) r.0 (record { beside = r.1; empty = r.2; within = all_have r.0.snapshot })
    (omega arith)
