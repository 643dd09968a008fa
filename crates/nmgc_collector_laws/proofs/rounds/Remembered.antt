-- The mutators recorded in a round all that a promotion needs.
use Rattle.nmgc_collector_laws.proofs.Vocabulary.{◌≡◌, ◌≢◌, ◌⊎◌, ◌+◌, ◌<◌, ◌≤◌, ℕ, List, [], ◌∷◌, ◌++◌, length, map, refl, sym, ap, subst, ◌∙◌, arith, Option, Some, None, inl, inr, slice_get, IsSome, Contains, same_Some, slice_get_within, All-contains, Contains-append_left, SHARED_MAKER, Name, Ref, Node, Stack, Weak, Parts, World, state_of, node_of, held_by, IsKnown, IsNodeOf, step, Row, replayed, IsLegalHistory, start, IsAlive, step_grows, contains_head, contains_tail, is_some_of, at_some, contains_at, index_of, contains_flat, flat_contains, nursery_place, Layout, FIRST_PLACE, HEADER_WORDS, HasStrongField, CanReplay, field_at_place, absent, some_of, world_holds, old_weaks_stay, old_weaks_are_finalised, Slot, holds, unspecified, slots_of, IsTracked, Place, ListMeans, LiesWell, root_wide, wide_tracked, list_in, Remembers, done_by, rows_in, Opening, Seen, Object, place_of, earlier, IsPlace, now, AllAnswer, CanOpen, IsFinished, places_then, Mutator, numbers, all_recorded, all_weaks, all_finalised, Done, HaveWorked, recorded_of, weaks_of, finalised_of, RoundIsRemembered, RoundListsFinalised, EventsAreHistory, can_replay, place_cases, is_place, in_place, Worker, worker_at, opened_below, OwnSlots, list_long, weak_maker, cases_lt}
use Rattle.nmgc_round.specs.{View.hand_of, Objects.IsIn}
use Rattle.nmgc_collector_laws.proofs.{rounds.Depths.Depths, rounds.Along.Along, rounds.Along.all_plain, rounds.Along.along, rounds.Recorded.IsFieldOf, rounds.Recorded.since_itself, rounds.Recorded.recorded_is, rounds.Puts.IsPut, rounds.Puts.rows_put, rounds.Noted.AreApart, rounds.Noted.recorded_then, rounds.Slots.known_slot, rounds.Slots.held_at, rounds.Finalised.finalised_low, rounds.Finalised.finalised_then, rounds.Weaks.IsMade, rounds.Weaks.IsNewWeak, rounds.Weaks.rows_made, rounds.Weaks.weak_then, rounds.Weaks.weak_is}

-- the mutator of a command of a history is there as it begins
maker_there : (w : World) (before : List Row) (row : Row) (after : List Row) → CanReplay w (before ++ row ∷ after) → row.mutator < length w.mutators
maker_there w [] row after can = can.0.mutator
maker_there w (first ∷ before) row after can =
    rw (step_grows w first.mutator first.command can.0.mutator).mutators at (maker_there (step w first.mutator first.command).0 before row after can.1)

-- an object other than g lies above g's words
above_shared : (layout : Layout) (p : Place) (size : ℕ) → p.name.maker ≢ SHARED_MAKER → 1 ≤ size → LiesWell layout p size → FIRST_PLACE ≤ p.at
above_shared layout p size own more (inl g) = absurd (own g.0)
above_shared layout p size own more (inr (_, inl s)) = let h = (s.1 p.at (omega arith) (omega arith)).from in omega arith
above_shared layout p size own more (inr (_, inr n)) = let h = (n.1 p.at (omega arith) (omega arith)).from in omega arith

-- the law of `nmgc_round` on the stacks that an opening lists
abbrev pub StacksAreListed : Type 0
StacksAreListed = (o : Opening) (words : List ℕ) → CanOpen o words → (m : ℕ) → m < o.layout.mutators → OwnSlots o [] o.core.world m (hand_of o.hands m)

module _ (history : EventsAreHistory) (listed : StacksAreListed) (o : Opening) (before words : List ℕ) (v : Seen) (mutators : List Mutator)
    (done : List (List Done)) (can : CanOpen o before) (h : IsFinished o words v) (work : HaveWorked o v.parts mutators done) where
  abbrev B : World
  B = o.core.world

  abbrev W : World
  W = (now o h.events).world

  abbrev P : Place → Type 0
  P = IsIn o h.born

  abbrev base : ℕ
  base = nursery_place o.layout 0

  abbrev places : List Place
  places = places_then o h.born

  abbrev rows : List Row
  rows = rows_in h.events

  takes : CanReplay B rows
  takes = can_replay o.core h.events h.legal

  legal : IsLegalHistory B rows
  legal = (history o.core h.events h.legal).0

  then : W ≡ replayed B rows
  then = (history o.core h.events h.legal).1

  -- a mutator with its part, and its work
  abbrev IsThere : ℕ → Type 0
  IsThere k = Worker o v.parts mutators done k

  there : (k : ℕ) → k < o.layout.mutators → IsThere k
  there k lt = worker_at o v.parts mutators done work k lt

  -- the values of its registers as the round began
  first_means : (k : ℕ) → k < o.layout.mutators → ListMeans P (hand_of o.hands k).registers (state_of B k).registers
  first_means k lt = list_in (Contains o.places) P (hand_of o.hands k).registers (state_of B k).registers
      (λ n at c here.
      let tracked : IsTracked B (earlier o) n =
      wide_tracked B (earlier o) n (root_wide B k n (Contains-append_left (state_of B k).registers (state_of B k).queue (Ref n) c)) in
      let node = is_some_of (node_of B n) (can.represents.named (record { at = at; name = n }) here).known in
      (node.0, inl (record { there = here; tracked = tracked; node = node.1 })))
      (can.hands k lt).registers

  -- the depths of its stacks then
  first_depths : (k : ℕ) → k < o.layout.mutators → Depths P k B (hand_of o.hands k)
  first_depths k lt p size values (node, inl old) maker there =
      let t = listed o before can k lt (record { at = p.at; name = p.name; node = node }) size values (inl old) maker there in
      (t.0, t.1, list_long (IsIn o []) t.0 values t.2)
  first_depths k lt p size values (node, inr new) maker there =
      absurd (let none : Some (Stack size values) ≡ None = sym there ∙ (h.new (record { at = p.at; name = p.name; node = node }) new).unknown in cc)

  one : (p q : Place) → P p → P q → (p.name ≡ q.name) ⊎ (p.at ≡ q.at) → p ≡ q
  one p q hp hq e = h.stands.one p q (is_place o h.born p hp) (is_place o h.born q hq) e

  not_g : (k : ℕ) → k < o.layout.mutators → k ≢ SHARED_MAKER
  not_g k lt = let few = can.is.layout.mutators.1 in λ e. omega arith

  follows : (k : ℕ) (lt : k < o.layout.mutators) (t : IsThere k) → Along P k B (hand_of o.hands k) t.part.rows rows
  follows k lt t =
      let says : AllAnswer P t.part.rows (done_by k h.events) =
      subst (λ j. AllAnswer P t.part.rows (done_by j h.events)) t.number (h.parts k t.part t.part_there).0.rows in
      along P k one (not_g k lt) h.shared o.core h.events can.world h.legal (hand_of o.hands k) t.part.rows says
      (all_plain t.part.fixed t.part.rows t.own t.worked.replied) (first_means k lt) (first_depths k lt)

  -- its recorded addresses
  recorded_are : (k : ℕ) (t : IsThere k) → numbers t.mutator.recorded.items ≡ all_recorded o.layout (hand_of o.hands k) t.part.rows
  recorded_are k t = t.worked.recorded ∙ ap (λ l. all_recorded l (hand_of o.hands t.part.number) t.part.rows) t.worked.layout ∙
      ap (λ j. all_recorded o.layout (hand_of o.hands j) t.part.rows) t.number

  -- new objects lie in the nurseries, and their names are new
  born_high : (x : Object) → Contains h.born x → base ≤ x.at
  born_high x c = let from = (h.new x c).from in omega arith

  old_place : (p : Place) → Contains places p → p.at < base → Contains o.places p
  old_place p c low = elim (place_cases o h.born p c) [
    | inl old ↦ old
    | inr new ↦ absurd (let high = born_high new.0 new.1 in let e = ap (λ (q : Place). q.at) new.2 in omega arith)
  ]

  young_name : (q : Place) → Contains places q → base ≤ q.at → node_of B q.name ≡ None
  young_name q c high = elim (place_cases o h.born q c) [
    | inl old ↦ absurd (let low = opened_below o before can q old in omega arith)
    | inr new ↦ ap (λ (p : Place). node_of B p.name) new.2 ∙ (h.new new.0 new.1).unknown
  ]

  in_old : (p : Place) → P p → p.at < base → Contains o.places p × IsSome (node_of B p.name)
  in_old p (node, inl old) low = (old.there, some_of (node_of B p.name) node old.node)
  in_old p (node, inr new) low = absurd (let high = born_high (record { at = p.at; name = p.name; node = node }) new in omega arith)

  in_use : (p : Place) → Contains places p → IsPlace o h.born p
  in_use p c = elim (place_cases o h.born p c) [ inl old ↦ inl old | inr new ↦ inr (new.0, new.1, sym new.2) ]

  -- a name has one place
  one_place : (p : Place) → Contains places p → (at : ℕ) → P (record { at = at; name = p.name }) → at ≡ p.at
  one_place p c at here = ap (λ (q : Place). q.at) (h.stands.one (record {
    at = at;
    name = p.name;
  }) p (is_place o h.born (record { at = at; name = p.name }) here) (in_use p c) (inl refl))

  -- a recorded address belongs to a mutator that is there
  maker_recorded : (at : ℕ) → Contains (recorded_of mutators) at → (k : ℕ) × (lt : k < o.layout.mutators) ×
      Contains (all_recorded o.layout (hand_of o.hands k) (there k lt).part.rows) at
  maker_recorded at c =
      let found = flat_contains (λ (m : Mutator). numbers m.recorded.items) mutators at c in
      let index = index_of mutators found.0 found.1 in
      let lt : index.0 < o.layout.mutators = (let a = slice_get_within mutators index.0 found.0 index.1 in let b = work.mutators_are in omega arith) in
      (index.0, lt, of (there index.0 lt) found.0 index.1 found.2)
    where
      of : {k : ℕ} (t : IsThere k) (m : Mutator) → slice_get mutators k ≡ Some m → Contains (numbers m.recorded.items) at →
          Contains (all_recorded o.layout (hand_of o.hands k) t.part.rows) at
      of {k} t m e c =
          let same : numbers m.recorded.items ≡ numbers t.mutator.recorded.items =
          ap (λ (x : Mutator). numbers x.recorded.items) (same_Some m t.mutator (sym e ∙ t.mutator_there)) in
          subst (λ (l : List ℕ). Contains l at) (same ∙ recorded_are k t) c

  -- recorded addresses are specified fields of tracked objects in segments
  recorded_known : (at : ℕ) → Contains (recorded_of mutators) at → (p : Place) × (node : Node) × (i : ℕ) × (slot : Slot) × Contains places p ×
      IsTracked W (B ∷ earlier o) p.name × (node_of W p.name ≡ Some node) × (slice_get (slots_of node) i ≡ Some slot) × (slot ≢ unspecified) ×
      (at ≡ p.at + HEADER_WORDS + i) × (p.at < base)
  recorded_known at c =
      let (k, lt, its) = maker_recorded at c in
      let f : IsFieldOf P o.layout B (replayed B rows) at =
      recorded_is P o.layout B k h.shared B rows (hand_of o.hands k) (there k lt).part.rows (since_itself B) can.world takes legal
      (follows k lt (there k lt)) at its in
      let old = in_old f.place f.there f.low in
      let slot = known_slot f.node f.index f.field in (
        f.place,
        f.node,
        f.index,
        slot.0,
        Contains-append_left o.places (map place_of h.born) f.place old.0,
        start f.place.name (B, contains_tail W (B ∷ earlier o) B (contains_head B (earlier o)), f.wide old.1),
        ap (λ (w : World). node_of w f.place.name) then ∙ f.node_is,
        slot.1,
        slot.2,
        f.at_is,
        f.low,
      )

  -- an older object and a new object
  apart : (p q : Place) → Contains places p → p.at < base → p.name.maker ≢ SHARED_MAKER → Contains places q → base ≤ q.at → AreApart P o.layout p q
  apart p q c low own d high = record {
    above = above_shared o.layout p HEADER_WORDS own (omega arith) (can.represents.named p (old_place p c low)).lies;
    low = low;
    high = high;
    one_old = one_place p c;
    one_young = one_place q d;
  }

  -- a reference that a row put there is recorded
  put_recorded : (p q : Place) (i : ℕ) → AreApart P o.layout p q → IsPut B rows p.name i (Ref q.name) →
      Contains (recorded_of mutators) (p.at + HEADER_WORDS + i)
  put_recorded p q i a put =
      let k : ℕ = put.row.mutator in
      let lt : k < o.layout.mutators = (let e = can.is.mutators in
      let l = maker_there B put.before put.row put.after (subst (CanReplay B) put.rows_are takes) in omega arith) in
      let t : IsThere k = there k lt in
      contains_flat (λ (m : Mutator). numbers m.recorded.items) mutators t.mutator (p.at + HEADER_WORDS + i) (contains_at mutators k t.mutator t.mutator_there)
      (rw (recorded_are k t) (recorded_then P o.layout p q a k h.shared i B put.before put.row put.after (hand_of o.hands k) t.part.rows refl
      (subst (IsLegalHistory B) put.rows_are legal)
      (subst (λ (l : List Row). Along P k B (hand_of o.hands k) t.part.rows l) put.rows_are (follows k lt t)) put.puts))

  -- an object held by an older object then was there too
  strong_known : (p : Place) (i : ℕ) (target : Name) → HasStrongField B p.name i (Ref target) → IsSome (node_of B target)
  strong_known p i target s = (world_holds B can.world).fields p.name target (some_of (node_of B p.name) s.node s.node_is) (
    s.node,
    s.node_is,
    field_at_place s.node i (Ref target) s.field,
  )

  part_known : (name target : Name) (parts : Parts) → IsAlive B name parts → Contains (held_by (Weak (Some parts))) (Ref target) → IsSome (node_of B target)
  part_known name target parts alive c =
      All-contains (IsKnown B) (held_by (Weak (Some parts))) (Ref target)
      (at_some (node_of B name) (Weak (Some parts)) (IsNodeOf B) alive (can.world.nodes name)).known c

  -- each reference from an older object to a new object is recorded
  young_recorded : (p q : Place) (node : Node) (i : ℕ) → Contains places p → p.at < base → p.name.maker ≢ SHARED_MAKER →
      node_of W p.name ≡ Some node → slice_get (slots_of node) i ≡ Some (holds (Ref q.name)) → Contains places q → base ≤ q.at →
      Contains (recorded_of mutators) (p.at + HEADER_WORDS + i)
  young_recorded p q node i c low own is slot d high =
      let old : IsSome (node_of B p.name) = (can.represents.named p (old_place p c low)).known in
      let new : IsSome (node_of B q.name) → ⊥ = absent (node_of B q.name) (young_name q d high) in
      let after : node_of (replayed B rows) p.name ≡ Some node = ap (λ (w : World). node_of w p.name) (sym then) ∙ is in
      elim (held_at node i (Ref q.name) slot) [
        | inl strong ↦ elim (rows_put B rows can.world takes p.name i (Ref q.name) old (record { node = node; node_is = after; field = strong })) [
          | inl was ↦ absurd (new (strong_known p i q.name was))
          | inr put ↦ put_recorded p q i (apart p q c low own d high) put
        ]
        | inr weak ↦
            let alive : IsAlive (replayed B rows) p.name weak.0 = after ∙ ap (λ (n : Node). Some n) weak.1 in
            absurd (new (part_known p.name q.name weak.0 (old_weaks_stay B rows can.world takes p.name weak.0 old alive) weak.2))
      ]

  -- its noted weak pointers
  weaks_are : (k : ℕ) (t : IsThere k) → numbers t.mutator.young_weaks.items ≡ all_weaks t.part.rows
  weaks_are k t = t.worked.weaks

  maker_noted : (at : ℕ) → Contains (weaks_of mutators) at → (k : ℕ) × (lt : k < o.layout.mutators) × Contains (all_weaks (there k lt).part.rows) at
  maker_noted at c =
      let found = flat_contains (λ (m : Mutator). numbers m.young_weaks.items) mutators at c in
      let index = index_of mutators found.0 found.1 in
      let lt : index.0 < o.layout.mutators = (let a = slice_get_within mutators index.0 found.0 index.1 in let b = work.mutators_are in omega arith) in
      (index.0, lt, of (there index.0 lt) found.0 index.1 found.2)
    where
      of : {k : ℕ} (t : IsThere k) (m : Mutator) → slice_get mutators k ≡ Some m → Contains (numbers m.young_weaks.items) at →
          Contains (all_weaks t.part.rows) at
      of {k} t m e c =
          let same : numbers m.young_weaks.items ≡ numbers t.mutator.young_weaks.items =
          ap (λ (x : Mutator). numbers x.young_weaks.items) (same_Some m t.mutator (sym e ∙ t.mutator_there)) in
          subst (λ (l : List ℕ). Contains l at) (same ∙ weaks_are k t) c

  -- noted addresses are new weak pointers
  weak_known : (at : ℕ) → Contains (weaks_of mutators) at → (name : Name) × (parts : Option Parts) ×
      Contains places (record { at = at; name = name }) × (base ≤ at) × (node_of W name ≡ Some (Weak parts))
  weak_known at c =
      let (k, lt, its) = maker_noted at c in
      let t : IsNewWeak P B (replayed B rows) at =
      weak_is P B k B rows (hand_of o.hands k) (there k lt).part.rows (since_itself B) can.world takes legal (follows k lt (there k lt)) at its in
      let high : base ≤ at = elim (cases_lt at base) [
        | inl low ↦ absurd (absent (node_of B t.name) t.new (in_old (record { at = at; name = t.name }) t.there low).1)
        | inr le ↦ le
      ] in
      (t.name, t.parts, in_place o h.born (record { at = at; name = t.name }) t.there, high, ap (λ (w : World). node_of w t.name) then ∙ t.node_is)

  -- each new weak pointer that is alive is noted
  young_noted : (p : Place) (parts : Parts) → Contains places p → base ≤ p.at → IsAlive W p.name parts → Contains (weaks_of mutators) p.at
  young_noted p parts c high alive =
      let after : node_of (replayed B rows) p.name ≡ Some (Weak (Some parts)) = ap (λ (w : World). node_of w p.name) (sym then) ∙ alive in
      let made : IsMade B rows p.name = rows_made B rows can.world takes p.name (Weak (Some parts)) (young_name p c high) after refl in
      let k : ℕ = made.row.mutator in
      let lt : k < o.layout.mutators = (let e = can.is.mutators in
      let l = maker_there B made.before made.row made.after (subst (CanReplay B) made.rows_are takes) in omega arith) in
      let t : IsThere k = there k lt in
      contains_flat (λ (m : Mutator). numbers m.young_weaks.items) mutators t.mutator p.at (contains_at mutators k t.mutator t.mutator_there)
      (rw (weaks_are k t) (weak_then P p (one_place p c) k B made.before made.row made.after (hand_of o.hands k) t.part.rows refl (subst (IsLegalHistory B) made.rows_are legal)
      (subst (λ (l : List Row). Along P k B (hand_of o.hands k) t.part.rows l) made.rows_are (follows k lt t)) made.made))

  -- its finalised weak pointers
  finalised_are : (k : ℕ) (t : IsThere k) → numbers t.mutator.finalised.items ≡ all_finalised o.layout (hand_of o.hands k) t.part.rows
  finalised_are k t = t.worked.finalised ∙ ap (λ l. all_finalised l (hand_of o.hands t.part.number) t.part.rows) t.worked.layout ∙
      ap (λ j. all_finalised o.layout (hand_of o.hands j) t.part.rows) t.number

  -- an old weak pointer that is dead by now is reported by the mutator that finalised it
  dead_named : (p : Place) (parts : Parts) → Contains places p → p.at < base → IsAlive B p.name parts → (IsAlive W p.name parts → ⊥) →
      Contains (finalised_of mutators) p.at
  dead_named p parts c low alive gone =
      let fin = old_weaks_are_finalised B rows can.world takes p.name parts alive (λ still.
      gone (ap (λ (w : World). node_of w p.name) then ∙ still)) in
      let k : ℕ = fin.row.mutator in
      let lt : k < o.layout.mutators = (let e = can.is.mutators in
      let l = maker_there B fin.before fin.row fin.after (subst (CanReplay B) fin.rows_are takes) in omega arith) in
      let t : IsThere k = there k lt in
      let own : p.name.maker ≢ SHARED_MAKER = λ e. let within = weak_maker B can.world p.name (parts, alive) in
      let few = can.world.few in absurd (omega (arith, e, within, few)) in
      contains_flat (λ (m : Mutator). numbers m.finalised.items) mutators t.mutator p.at (contains_at mutators k t.mutator t.mutator_there)
      (rw (finalised_are k t) (finalised_then P o.layout p (one_place p c)
      (above_shared o.layout p HEADER_WORDS own (omega arith) (can.represents.named p (old_place p c low)).lies) low k h.shared fin.dest fin.object fin.parts
      B fin.before fin.row fin.after (hand_of o.hands k) t.part.rows refl (subst (IsLegalHistory B) fin.rows_are legal)
      (subst (λ (l : List Row). Along P k B (hand_of o.hands k) t.part.rows l) fin.rows_are (follows k lt t)) fin.command fin.refers fin.alive))

  -- every reported address lies in a segment
  known_low : (at : ℕ) → Contains (finalised_of mutators) at → at < base
  known_low at c =
      let found = flat_contains (λ (m : Mutator). numbers m.finalised.items) mutators at c in
      let index = index_of mutators found.0 found.1 in
      let lt : index.0 < o.layout.mutators = (let a = slice_get_within mutators index.0 found.0 index.1 in let b = work.mutators_are in omega arith) in
      of (there index.0 lt) found.0 index.1 found.2
    where
      of : {k : ℕ} (t : IsThere k) (m : Mutator) → slice_get mutators k ≡ Some m → Contains (numbers m.finalised.items) at → at < base
      of {k} t m e d =
          let same : numbers m.finalised.items ≡ numbers t.mutator.finalised.items =
          ap (λ (x : Mutator). numbers x.finalised.items) (same_Some m t.mutator (sym e ∙ t.mutator_there)) in
          finalised_low o.layout (hand_of o.hands k) t.part.rows at (subst (λ (l : List ℕ). Contains l at) (same ∙ finalised_are k t) d)

  remembers : Remembers base (B ∷ earlier o) places W (recorded_of mutators) (weaks_of mutators)
  remembers = record {
    fields = recorded_known;
    all_fields = λ p q node i c low own tracked is slot d high. young_recorded p q node i c low own is slot d high;
    weak_places = weak_known;
    all_weaks = young_noted;
  }

pub round_is_remembered : EventsAreHistory → StacksAreListed → RoundIsRemembered
round_is_remembered history listed o before words v mutators done can h work = remembers history listed o before words v mutators done can h work

pub finalised_are_listed : EventsAreHistory → StacksAreListed → RoundListsFinalised
finalised_are_listed history listed o before words v mutators done can h work = record {
  all = dead_named history listed o before words v mutators done can h work;
  low = known_low history listed o before words v mutators done can h work;
}
