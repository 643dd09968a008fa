-- The effect of a lax run on the history.
use Rattle.std.specs.Prelude.{◌≡◌, ◌∷◌, ◌++◌, ◌↔◌, ◌⊎◌}
use Rattle.nmgc_barrier_laws.specs.laws.Vocabulary.{ℕ, List, [], refl, sym, subst, ◌∙◌, append-nil, inl, inr, Contains, All, Name, Command, Reply, World, IsWorld, step, Row, replayed, IsLegal, opened, finalised, opened_by, step_keeps_world, State, oldest_first, opening, unmarked, mark_name, root_values, after_scan, mark_facts, scan_facts, opening_facts, SameHistory, mark_history, scan_history, values_history, closing_is_exact, opened-push, replayed-push, legal_push, finalised-push, live_from, MayHold, IsSafe, Facts, after_owing, IsGiven, IsFloated, LaxKeepsFacts, LaxRow, LaxRuns, LaxTheorem, Contains-append_left, Contains-append_right, Contains-append_cases, nothing_in}
use Rattle.nmgc_barrier_laws.specs.Lax as lax
use Rattle.nmgc_barrier_laws.specs.laws.{Given.given_facts, Laxer.shuffled_facts, Floating.floated_facts}

-- the names that count as opened: opened by commands, or floated
abbrev Opens : World → List Row → List Name → List Name → Type 0
Opens w rows extra names = (name : Name) → Contains names name ↔ (Contains (opened w rows) name ⊎ Contains extra name)

record IsUnderWay (w : World) (rows : List Row) (extra : List Name) (s : State) : Type 0 where
  facts : Facts s
  world : IsWorld s.world
  legal : IsLegal w rows
  snapshot : s.snapshot ≡ w
  now : s.world ≡ replayed w rows
  opened_is : Opens w rows extra s.opened
  finalised_is : s.finalised ≡ finalised w rows

same_under_way : (w : World) (rows : List Row) (extra : List Name) (s t : State) → IsUnderWay w rows extra s → SameHistory s t → Facts t →
    IsUnderWay w rows extra t
same_under_way w rows extra s t u h f = record {
  facts = f;
  world = subst IsWorld (sym h.world) u.world;
  legal = u.legal;
  snapshot = h.snapshot ∙ u.snapshot;
  now = h.world ∙ u.now;
  opened_is = subst (Opens w rows extra) (sym h.opened) u.opened_is;
  finalised_is = h.finalised ∙ u.finalised_is;
}

-- a command keeps the facts
given_keeps : (s next : State) (f : Facts s) (w : IsWorld s.world) (m : ℕ) (c : Command) → IsGiven s m c next → Facts next
given_keeps s next f w m c g =
    subst Facts (sym g.next_is) (given_facts s f w m c g.can.mutator g.names
    (subst (λ (t : State). All (MayHold t) g.names) g.next_is g.held)
    (λ target d. subst (λ (t : State). IsSafe t target) g.next_is (g.due target d)))

world_of : (s t : State) → SameHistory s t → IsWorld s.world → IsWorld t.world
world_of s t h w = subst IsWorld (sym h.world) w

shuffled_history : (s next : State) → SameHistory s (record s { queue = next.queue; owed = next.owed; pushed = next.pushed })
shuffled_history s next = record { world = refl; snapshot = refl; opened = refl; finalised = refl; is_closed = refl }

pub lax_keeps_facts : LaxKeepsFacts
lax_keeps_facts s next f w (lax.given m c g) = (
  given_keeps s next f w m c g,
  subst (λ (t : State). IsWorld t.world) (sym g.next_is) (step_keeps_world s.world m c w g.can),
)
lax_keeps_facts s next f w (lax.shuffled h) = (subst Facts (sym h.rest) (shuffled_facts s f next h), subst (λ (t : State). IsWorld t.world) (sym h.rest) w)
lax_keeps_facts s next f w (lax.floated name h) = (
  subst Facts (sym h.next_is) (floated_facts s f h.m h.place name),
  subst (λ (t : State). IsWorld t.world) (sym h.next_is) w,
)
lax_keeps_facts s next f w (lax.marked name may e) = (
  subst Facts (sym e) (mark_facts s name f may),
  subst (λ (t : State). IsWorld t.world) (sym e) (world_of s (mark_name s name) (mark_history s name) w),
)
lax_keeps_facts s next f w (lax.scanned e) = (
  subst Facts (sym e) (scan_facts s f w s.queue refl),
  subst (λ (t : State). IsWorld t.world) (sym e) (world_of s (after_scan s s.queue) (scan_history s s.queue) w),
)

-- a step of a run under way that is no command and floats nothing
quiet_on : (w : World) (rows row : List Row) (extra one : List Name) (s t next : State) → IsUnderWay w rows extra s → row ≡ [] → one ≡ [] →
    next ≡ t → SameHistory s t → Facts t → IsUnderWay w (rows ++ row) (extra ++ one) next
quiet_on w rows row extra one s t next u none no_name e same f = rw (
  none,
  no_name,
  append-nil,
  append-nil,
) (subst (IsUnderWay w rows extra) (sym e) (same_under_way w rows extra s t u same f))

-- a command adds the names that it opens
opens_more : (w : World) (rows : List Row) (extra names new : List Name) (row : Row) → Opens w rows extra names →
    opened_by (replayed w rows) row.mutator row.command ≡ new → Opens w (rows ++ row ∷ []) extra (names ++ new)
opens_more w rows extra names new row h e name =
    let is : opened w (rows ++ row ∷ []) ≡ opened w rows ++ new = rw (opened-push w rows row, e) refl in (
      λ c. elim (Contains-append_cases names new name c) [
        | inl old ↦ elim ((h name).0 old) [ inl a ↦ inl (rw is (Contains-append_left (opened w rows) new name a)) | inr b ↦ inr b ]
        | inr k ↦ inl (rw is (Contains-append_right (opened w rows) new name k))
      ],
      λ c. elim c [
        | inl a ↦ elim (Contains-append_cases (opened w rows) new name (rw is at a)) [
          | inl old ↦
              Contains-append_left names new name ((h name).1 (inl old))
          | inr k ↦ Contains-append_right names new name k
        ]
        | inr b ↦ Contains-append_left names new name ((h name).1 (inr b))
      ],
    )

-- a command of a run under way
given_on : (w : World) (rows : List Row) (extra : List Name) (s next : State) (m : ℕ) (c : Command) (answer : Reply) → IsUnderWay w rows extra s →
    IsGiven s m c next → (step s.world m c).1 ≡ answer → IsUnderWay w (rows ++ (record { mutator = m; command = c; reply = answer }) ∷ []) extra next
given_on w rows extra s next m c answer u g says =
    let row : Row = record { mutator = m; command = c; reply = answer } in
    let t : State = after_owing s m c g.names in
    let f : Facts t = subst Facts g.next_is (given_keeps s next u.facts u.world m c g) in
    let now : replayed w rows ≡ s.world = sym u.now in
    let by : opened_by (replayed w rows) m c ≡ opened_by s.world m c = rw now refl in
    subst (IsUnderWay w (rows ++ row ∷ []) extra) (sym g.next_is) (record {
      facts = f;
      world = step_keeps_world s.world m c u.world g.can;
      legal = legal_push w rows row u.legal (subst (λ (v : World). (step v m c).1 ≡ answer) u.now says);
      snapshot = u.snapshot;
      now = subst (λ (v : World). (step s.world m c).0 ≡ (step v m c).0) u.now refl ∙ sym (replayed-push w rows row);
      opened_is = opens_more w rows extra s.opened (opened_by s.world m c) row u.opened_is by;
      finalised_is = rw (u.finalised_is, finalised-push w rows row, now) refl;
    })

-- a push of any name in a run under way
float_on : (w : World) (rows : List Row) (extra : List Name) (s next : State) (name : Name) → IsUnderWay w rows extra s → IsFloated s name next →
    IsUnderWay w rows (extra ++ name ∷ []) next
float_on w rows extra s next name u h =
    subst (IsUnderWay w rows (extra ++ name ∷ [])) (sym h.next_is) (record {
      facts = floated_facts s u.facts h.m h.place name;
      world = u.world;
      legal = u.legal;
      snapshot = u.snapshot;
      now = u.now;
      opened_is = λ n. (
        λ c. elim (Contains-append_cases s.opened (name ∷ []) n c) [
          | inl old ↦ elim ((u.opened_is n).0 old) [ inl a ↦ inl a | inr b ↦ inr (Contains-append_left extra (name ∷ []) n b) ]
          | inr k ↦ inr (Contains-append_right extra (name ∷ []) n k)
        ],
        λ c. elim c [
          | inl a ↦ Contains-append_left s.opened (name ∷ []) n ((u.opened_is n).1 (inl a))
          | inr b ↦ elim (Contains-append_cases extra (name ∷ []) n b) [
            | inl old ↦
                Contains-append_left s.opened (name ∷ []) n ((u.opened_is n).1 (inr old))
            | inr k ↦ Contains-append_right s.opened (name ∷ []) n k
          ]
        ],
      );
      finalised_is = u.finalised_is;
    })

row_on : (w : World) (rows row : List Row) (extra one : List Name) (s next : State) → IsUnderWay w rows extra s → LaxRow s next row one →
    IsUnderWay w (rows ++ row) (extra ++ one) next
row_on w rows row extra one s next u (lax.command m c answer g says e no_name) = rw (e, no_name, append-nil) (given_on w rows extra s next m c answer u g says)
row_on w rows row extra one s next u (lax.quiet h none no_name) =
    quiet_on w rows row extra one s (record s {
      queue = next.queue;
      owed = next.owed;
      pushed = next.pushed;
    }) next u none no_name h.rest (shuffled_history s next) (shuffled_facts s u.facts next h)
row_on w rows row extra one s next u (lax.float name h none e) = rw (none, e, append-nil) (float_on w rows extra s next name u h)
row_on w rows row extra one s next u (lax.mark name may e none no_name) =
    quiet_on w rows row extra one s (mark_name s name) next u none no_name e (mark_history s name) (mark_facts s name u.facts may)
row_on w rows row extra one s next u (lax.scan e none no_name) =
    quiet_on w rows row extra one s (after_scan s s.queue) next u none no_name e (scan_history s s.queue) (scan_facts s u.facts u.world s.queue refl)

opens : (w : World) → IsWorld w → IsUnderWay w [] [] (opening w)
opens w h =
    let start : SameHistory (unmarked oldest_first w) (opening w) = values_history (unmarked oldest_first w) (root_values w) in
    record {
      facts = opening_facts oldest_first w h;
      world = subst IsWorld (sym start.world) h;
      legal = tt;
      snapshot = start.snapshot;
      now = start.world;
      opened_is = λ name. (
        λ c. absurd (nothing_in name (rw start.opened at c)),
        λ c. elim c [ inl a ↦ absurd (nothing_in name a) | inr b ↦ absurd (nothing_in name b) ],
      );
      finalised_is = start.finalised;
    }

under_way : (w : World) → IsWorld w → (rows : List Row) (extra : List Name) (s : State) → LaxRuns (opening w) rows extra s → IsUnderWay w rows extra s
under_way w h rows extra s lax.start = opens w h
under_way w h rows extra s (lax.more before row names one mid next runs last) = row_on w before row names one mid s (under_way w h before names mid runs) last

-- the snapshot theorem, for the lax relation
pub lax_theorem : LaxTheorem
lax_theorem w h rows extra s runs =
    let u : IsUnderWay w rows extra s = under_way w h rows extra s runs in
    record {
      legal = u.legal;
      snapshot = u.snapshot;
      world = u.now;
      opened = u.opened_is;
      finalised = u.finalised_is;
      live = live_from w s u.facts u.snapshot;
      exact = λ next possible closing. closing_is_exact s next u.facts possible closing;
    }
