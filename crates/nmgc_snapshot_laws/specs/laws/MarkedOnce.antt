-- Each event of a run that isn't closed keeps an invariant: no name is marked twice, and g stays the first.
use Rattle.std.specs.Prelude.{◌≡◌, ◌++◌, ◌∷◌}
use Rattle.nmgc_snapshot_laws.specs.laws.Vocabulary.{ℕ, Bool, Contains, true, false, List, [], refl, sym, ap, subst, ◌∙◌, Option, Some, None, is_some, and_parts, not-true, Name, Value, Row, World, node_of, shared_name, nothing_in, Entry, Event, Passes, after_push, after_scan, after_take, Runs, read_at, Order, State, names_of, is_listed, mark_name, mark_read, mark_values, opening_in, root_values, AreDistinct, distinct_push, not}
use Rattle.nmgc_snapshot_laws.specs.{State.unmarked, laws.Listed.not_listed, laws.Marking.mark_cases, laws.Marking.still_marked}
use Rattle.nmgc_world_spec.specs.declared.value.Value.TheVariants as value
use Rattle.nmgc_snapshot_laws.specs.declared.event.Event.TheVariants as event

-- a closed machine stays closed
pub stays_closed : (s : State) (es : List Event) (rows : List Row) (t : State) → Runs s es rows t → s.is_closed ≡ true → t.is_closed ≡ true
stays_closed s [] rows t h on = ap (λ (x : State). x.is_closed) h.1 ∙ on
stays_closed s (e ∷ es) rows t (true, next, rest, first, is, later) on = absurd (let off : s.is_closed ≡ false = running e first in
    let bad : true ≡ false = sym on ∙ off in cc)
  where
    running : (e : Event) → Passes s e true next → s.is_closed ≡ false
    running (event.Command m c answer) p = p.0.0
    running (event.Push m) p = p.0.0
    running event.Scan p = p.0.0
    running (event.Take m) p = p.0.0
    running event.Close p = p.0.0
stays_closed s (e ∷ es) rows t (false, next, rest, first, is, later) on = stays_closed next es rest t later (ap (λ (x : State). x.is_closed) first.1 ∙ on)

-- a machine that ends open was open all along
pub open_before : (s : State) (es : List Event) (rows : List Row) (t : State) → Runs s es rows t → t.is_closed ≡ false → s.is_closed ≡ false
open_before s es rows t h running = by_test s.is_closed refl
  where
    by_test : (b : Bool) → s.is_closed ≡ b → s.is_closed ≡ false
    by_test true e = absurd (let bad : true ≡ false = sym (stays_closed s es rows t h e) ∙ running in cc)
    by_test false e = e

-- a marked name stays marked
marked_read : (s : State) (v : Option Value) (n : Name) → Contains s.marked n → Contains (mark_read s v).marked n
marked_read s None n c = c
marked_read s (Some value.Nil) n c = c
marked_read s (Some (value.Number k)) n c = c
marked_read s (Some (value.Ref name)) n c = still_marked s name n c

pub marked_scan : (s : State) (queue : List Entry) (n : Name) → Contains s.marked n → Contains (after_scan s queue).marked n
marked_scan s [] n c = c
marked_scan s (entry ∷ rest) n c = marked_read (record s { queue = rest }) (read_at (node_of s.world entry.name) entry.position) n c

marked_push : (s : State) (m : ℕ) (names : List Name) (n : Name) → Contains s.marked n → Contains (after_push s m names).marked n
marked_push s m [] n c = c
marked_push s m (name ∷ rest) n c = c

marked_take : (s : State) (m : ℕ) (names : List Name) (n : Name) → Contains s.marked n → Contains (after_take s m names).marked n
marked_take s m [] n c = c
marked_take s m (name ∷ rest) n c = still_marked _ name n c

pub marked_runs : (s : State) (es : List Event) (rows : List Row) (t : State) → Runs s es rows t → t.is_closed ≡ false → (n : Name) →
    Contains s.marked n → Contains t.marked n
marked_runs s [] rows t h running n c = subst (λ (x : State). Contains x.marked n) (sym h.1) c
marked_runs s (e ∷ es) rows t (false, next, rest, first, is, later) running n c =
    marked_runs next es rest t later running n (subst (λ (x : State). Contains x.marked n) (sym first.1) c)
marked_runs s (event.Command m k answer ∷ es) rows t (true, next, rest, first, is, later) running n c =
    marked_runs next es rest t later running n (subst (λ (x : State). Contains x.marked n) (sym first.1) c)
marked_runs s (event.Push m ∷ es) rows t (true, next, rest, first, is, later) running n c =
    marked_runs next es rest t later running n (subst (λ (x : State). Contains x.marked n) (sym first.1) (marked_push s m (names_of s.owed m) n c))
marked_runs s (event.Scan ∷ es) rows t (true, next, rest, first, is, later) running n c =
    marked_runs next es rest t later running n (subst (λ (x : State). Contains x.marked n) (sym first.1) (marked_scan s s.queue n c))
marked_runs s (event.Take m ∷ es) rows t (true, next, rest, first, is, later) running n c =
    marked_runs next es rest t later running n (subst (λ (x : State). Contains x.marked n) (sym first.1) (marked_take s m (names_of s.pushed m) n c))
marked_runs s (event.Close ∷ es) rows t (true, next, rest, first, is, later) running n c =
    let on : next.is_closed ≡ true = ap (λ (x : State). x.is_closed) first.1.rest in
    absurd (let bad : true ≡ false = sym on ∙ open_before next es rest t later running in cc)

-- g is the first marked name, and no name is marked twice
pub record IsOnce (s : State) : Type 0 where
  pub others : List Name
  pub marked_are : s.marked ≡ shared_name ∷ others
  pub once : AreDistinct s.marked

once_name : (s : State) (name : Name) → IsOnce s → IsOnce (mark_name s name)
once_name s name h = mark_cases IsOnce s name
    (λ new. record {
      others = h.others ++ name ∷ [];
      marked_are = ap (λ (l : List Name). l ++ name ∷ []) h.marked_are;
      once = distinct_push s.marked name h.once (not_listed name s.marked
          (not-true (is_listed name s.marked) (and_parts (is_some (node_of s.snapshot name)) (not (is_listed name s.marked)) new).1));
    })
    (λ old. h)

once_values : (s : State) (values : List Value) → IsOnce s → IsOnce (mark_values s values)
once_values s [] h = h
once_values s (value.Nil ∷ values) h = once_values s values h
once_values s (value.Number n ∷ values) h = once_values s values h
once_values s (value.Ref name ∷ values) h = once_values (mark_name s name) values (once_name s name h)

once_read : (s : State) (v : Option Value) → IsOnce s → IsOnce (mark_read s v)
once_read s None h = h
once_read s (Some value.Nil) h = h
once_read s (Some (value.Number n)) h = h
once_read s (Some (value.Ref name)) h = once_name s name h

-- other parts of the state don't matter
once_same : (s t : State) → t.marked ≡ s.marked → IsOnce s → IsOnce t
once_same s t e h = record { others = h.others; marked_are = e ∙ h.marked_are; once = subst AreDistinct (sym e) h.once }

once_scan : (s : State) (queue : List Entry) → IsOnce s → IsOnce (after_scan s queue)
once_scan s [] h = h
once_scan s (entry ∷ rest) h = once_same _ _ refl
    (once_read (record s { queue = rest }) (read_at (node_of s.world entry.name) entry.position) (once_same s _ refl h))

once_push : (s : State) (m : ℕ) (names : List Name) → IsOnce s → IsOnce (after_push s m names)
once_push s m [] h = h
once_push s m (name ∷ rest) h = once_same s (after_push s m (name ∷ rest)) refl h

once_take : (s : State) (m : ℕ) (names : List Name) → IsOnce s → IsOnce (after_take s m names)
once_take s m [] h = h
once_take s m (name ∷ rest) h = once_name _ name (once_same s _ refl h)

pub once_runs : (s : State) (es : List Event) (rows : List Row) (t : State) → Runs s es rows t → t.is_closed ≡ false → IsOnce s → IsOnce t
once_runs s [] rows t h running once = subst IsOnce (sym h.1) once
once_runs s (e ∷ es) rows t (false, next, rest, first, is, later) running once = once_runs next es rest t later running (subst IsOnce (sym first.1) once)
once_runs s (event.Command m c answer ∷ es) rows t (true, next, rest, first, is, later) running once =
    once_runs next es rest t later running (subst IsOnce (sym first.1) (once_same s _ refl once))
once_runs s (event.Push m ∷ es) rows t (true, next, rest, first, is, later) running once =
    once_runs next es rest t later running (subst IsOnce (sym first.1) (once_push s m (names_of s.owed m) once))
once_runs s (event.Scan ∷ es) rows t (true, next, rest, first, is, later) running once =
    once_runs next es rest t later running (subst IsOnce (sym first.1) (once_scan s s.queue once))
once_runs s (event.Take m ∷ es) rows t (true, next, rest, first, is, later) running once =
    once_runs next es rest t later running (subst IsOnce (sym first.1) (once_take s m (names_of s.pushed m) once))
once_runs s (event.Close ∷ es) rows t (true, next, rest, first, is, later) running once =
    let on : next.is_closed ≡ true = ap (λ (x : State). x.is_closed) first.1.rest in
    absurd (let bad : true ≡ false = sym (stays_closed next es rest t later on) ∙ running in cc)

pub once_opening : (order : Order) (w : World) → IsOnce (opening_in order w)
once_opening order w = once_values (unmarked order w) (root_values w) (record { others = []; marked_are = refl; once = (nothing_in shared_name, tt) })
