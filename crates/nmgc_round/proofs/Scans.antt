-- The scan load: the marking machine reads the value that the word represents, and the fold of the scans follows it.
use Rattle.nmgc_round.proofs.Vocabulary.{◌≡◌, ◌≢◌, ◌⊎◌, inl, inr, ℕ, zero, suc, ◌+◌, ◌*◌, ◌/◌, ◌%◌, ◌<◌, ◌≤◌, Bool, true, false, not, ◌&&◌, ◌||◌, cond, drop, eqb, leb, List, [], ◌∷◌, ◌++◌, length, get_or, set, refl, sym, ap, subst, ◌∙◌, arith, slice_index, Option, Some, None, is_some, ne_eqb, eq-eqb, leb-false, Contains, IsSome, slice_get, slice_get-get_or, slice_get_past, cases_lt, and_parts, eqb_tells, Contains-append_cases, joined_cases, some, get_elem?, Name, Value, Node, Con, Var, Arr, Thunk, Weak, Stack, Kind, World, node_of, is_some_of, contains_head, contains_tail, one_is, Header, HEADER_WORDS, FIRST_PLACE, header_word, IsHeader, word_total, IsSafe, FindsEntry, Opening, Seen, Marks, marks_of, marks_after, name_at, name_meant, name_read, with_name, is_thunk, is_last_word, entry_past, rest_of, after_word, offset_of, Object, place_of, free_of, IsLater, IsObject, IsIn, now, IsRead, IsQueued, Keeps, AddsScan, CanScan, scanned_by, first_of, Entry, State, joined, is_new, is_listed, with_mark, mark_read, entry_of, fields_of, read_at, field_at, is_last, moved_on, advanced, after_scan, has_result, header_of, size_of, slots_of, Place, Means, HasSlots, AllMean, HasFields, KeepsFree, fields_of_slots, free_of_slots, lies_above, lies_within, marks_if, some_at, found_at}
use Rattle.nmgc_world_spec.specs.declared.value.Value.TheVariants as value
use Rattle.nmgc_world_spec.specs.declared.node.Kind.TheVariants as kind
use Rattle.nmgc_round.proofs.{Standing.later_of, Lists.pointer_means, Runs.same_snapshot, Runs.rest_read, Keeping.scan_law}

-- the word at an address represents the value that was read: an unset field is 0
pub record IsReadAt (P : Place → Type 0) (words : List ℕ) (j : ℕ) (v : Option Value) : Type 0 where
  pub means : IsRead P (slice_index words j) v
  pub unset : v ≡ None → slice_index words j ≡ 0

module _ (P : Place → Type 0) (words : List ℕ) where
  one_read : (j : ℕ) (v : Value) → Means P (slice_index words j) v → IsReadAt P words j (Some v)
  one_read j v m = record { means = m; unset = λ e. absurd cc }

  item_read : (from i : ℕ) (values : List Value) → i < length values → AllMean P words from values → IsReadAt P words (from + i) (slice_get values i)
  item_read from i values lt h = let e : slice_get values i ≡ Some (get_or values i value.Nil) = slice_get-get_or values i value.Nil lt in
      rw e (one_read (from + i) (get_or values i value.Nil) (h i (get_or values i value.Nil) e))

  -- an item of a stack, or an unset slot
  slot_read : (from i size : ℕ) (values : List Value) → i < size → AllMean P words from values →
      ((k : ℕ) → length values ≤ k → k < size → slice_index words (from + k) ≡ 0) → IsReadAt P words (from + i) (slice_get values i)
  slot_read from i size values lt h u = elim (cases_lt i (length values)) [
    | inl in_ ↦ item_read from i values in_ h
    | inr le ↦ rw (slice_get_past values i le) (record { means = tt; unset = λ e. u i le lt })
  ]

  kept_free : (from i : ℕ) (free : List Value) (b : Node) → free_of b ≡ free → has_result b ≡ false → (header_of b).kind ≡ kind.Thunk →
      i < length free → KeepsFree P words from b → IsReadAt P words (from + 1 + i) (slice_get free i)
  kept_free from i free (Thunk old None) e none k lt h = rw e at (item_read (from + 1) i old (rw e lt) h)
  kept_free from i free (Thunk old (Some r)) e none k lt h = absurd (let bad : true ≡ false = none in cc)
  kept_free from i free (Con tag values) e none k lt h = absurd cc
  kept_free from i free (Var v) e none k lt h = absurd cc
  kept_free from i free (Arr values) e none k lt h = absurd cc
  kept_free from i free (Weak parts) e none k lt h = absurd cc
  kept_free from i free (Stack size values) e none k lt h = absurd cc

  -- a scanned field; b is the node in the snapshot
  field_read_at : (from i : ℕ) (n b : Node) → IsLater b n → i < fields_of n → (1 ≤ i → has_result b ≡ false) → HasFields P words from n →
      KeepsFree P words from b → IsReadAt P words (from + i) (field_at n i)
  field_read_at from i (Con tag values) b l lt passed h k = item_read from i values lt h
  field_read_at from zero (Var v) b l lt passed h k = let z : from ≡ from + 0 = omega arith in rw z at (one_read from v h)
  field_read_at from (suc i) (Var v) b l lt passed h k = absurd (omega arith)
  field_read_at from i (Arr values) b l lt passed h k = item_read from i values lt h
  field_read_at from zero (Thunk free None) b l lt passed h k = let z : from ≡ from + 0 = omega arith in
      rw (← z) (record { means = tt; unset = λ e. h.0 })
  field_read_at from zero (Thunk free (Some r)) b l lt passed h k = let z : from ≡ from + 0 = omega arith in
      rw z at (one_read from r h)
  field_read_at from (suc i) (Thunk free None) b l lt passed h k = let z : from + 1 + i ≡ from + suc i = omega arith in
      rw z at (item_read (from + 1) i free (omega arith) h.1)
  field_read_at from (suc i) (Thunk free (Some r)) b l lt passed h k =
      let z : from + 1 + i ≡ from + suc i = omega arith in
      rw z at (kept_free from i free b (sym l.free) (passed (omega arith)) (ap (λ (r : Header).
      r.kind) (sym l.header)) (omega arith) k)
  field_read_at from i (Weak parts) b l lt passed h k = absurd (omega arith)
  field_read_at from i (Stack size values) b l lt passed h k = slot_read from i size values lt h.0 h.1

-- the header determines the number of scanned fields
abbrev scanned_of : Kind → ℕ → ℕ
scanned_of kind.Con n = n
scanned_of kind.Var n = n
scanned_of kind.Arr n = n
scanned_of kind.Thunk n = n
scanned_of kind.Weak n = 0
scanned_of kind.Stack n = n

by_header : (n : Node) → fields_of n ≡ scanned_of (header_of n).kind (header_of n).fields
by_header (Con tag values) = refl
by_header (Var v) = refl
by_header (Arr values) = refl
by_header (Thunk free result) = refl
by_header (Weak parts) = refl
by_header (Stack size values) = refl

pub same_fields : (b n : Node) → IsLater b n → fields_of n ≡ fields_of b
same_fields b n l = cc (by_header n, l.header, by_header b)

-- the header determines whether it is a thunk
abbrev thunk_kind : Kind → Bool
thunk_kind kind.Thunk = true
thunk_kind _ = false

thunk_header : (n : Node) → is_thunk n ≡ thunk_kind (header_of n).kind
thunk_header (Con tag values) = refl
thunk_header (Var v) = refl
thunk_header (Arr values) = refl
thunk_header (Thunk free result) = refl
thunk_header (Weak parts) = refl
thunk_header (Stack size values) = refl

same_thunk : (b n : Node) → IsLater b n → is_thunk b ≡ is_thunk n
same_thunk b n l = cc (thunk_header b, l.header, thunk_header n)

-- a word that represents a value isn't 0
pub means_some : (P : Place → Type 0) → ((p : Place) → P p → 1 ≤ p.at) → (w : ℕ) (v : Value) → Means P w v → w ≢ 0
means_some P least w value.Nil m e = omega arith
means_some P least w (value.Number n) m e = omega arith
means_some P least w (value.Ref name) m e = let a = m.1 in let l = least (record { at = m.0; name = name }) m.2 in omega arith

-- at position 1, a result is set exactly if the word isn't 0
result_word : (P : Place → Type 0) → ((p : Place) → P p → 1 ≤ p.at) → (words : List ℕ) (j : ℕ) (n : Node) → IsReadAt P words j (field_at n 0) →
    has_result n ≡ (is_thunk n && not (eqb (slice_index words j) 0))
result_word P least words j (Con tag values) r = refl
result_word P least words j (Var v) r = refl
result_word P least words j (Arr values) r = refl
result_word P least words j (Thunk free None) r = ap (λ (b : Bool). not b) (sym (eq-eqb (slice_index words j) 0 (r.unset refl)))
result_word P least words j (Thunk free (Some v)) r = ap (λ (b : Bool).
    not b) (sym (ne_eqb (slice_index words j) 0 (means_some P least (slice_index words j) v r.means)))
result_word P least words j (Weak parts) r = refl
result_word P least words j (Stack size values) r = refl

or_parts : (a b : Bool) → (a || b) ≡ false → (a ≡ false) × (b ≡ false)
or_parts false false e = (refl, refl)
or_parts false true e = absurd cc
or_parts true b e = absurd cc

-- the word determines the last position
last_same : (position w : ℕ) (b n : Node) → IsLater b n → (position ≡ 1 → has_result n ≡ (is_thunk n && not (eqb w 0))) →
    is_last n position ≡ is_last_word b position w
last_same position w b n l f = elim (eqb_tells position 1) [
  | inl e ↦ cc (same_fields b n l, f e.1, same_thunk b n l)
  | inr e ↦ cc (same_fields b n l, e.0)
]

-- the name that was read, if one was
abbrev ref_of : Option Value → Option Name
ref_of None = None
ref_of (Some value.Nil) = None
ref_of (Some (value.Number n)) = None
ref_of (Some (value.Ref name)) = Some name

mark_is : (s : State) (v : Option Value) → marks_of (mark_read s v) ≡ with_name s.snapshot (marks_of s) (ref_of v)
mark_is s None = refl
mark_is s (Some value.Nil) = refl
mark_is s (Some (value.Number n)) = refl
mark_is s (Some (value.Ref name)) = marks_if (is_new s name) s name

-- the queue after a value was read: the same entries, and the name's if it is new
read_queued : (s : State) (v : Option Value) (e : Entry) → Contains (mark_read s v).queue e → Contains s.queue e
    ⊎ ((name : Name) × (ref_of v ≡ Some name) × IsSome (node_of s.snapshot name) × (e ≡ entry_of name))
read_queued s None e c = inl c
read_queued s (Some value.Nil) e c = inl c
read_queued s (Some (value.Number n)) e c = inl c
read_queued s (Some (value.Ref name)) e c = by_test (is_new s name) refl c
  where
    by_test : (b : Bool) → is_new s name ≡ b → Contains (cond b (with_mark s name) s).queue e → Contains s.queue e
        ⊎ ((n : Name) × (Some name ≡ Some n) × IsSome (node_of s.snapshot n) × (e ≡ entry_of n))
    by_test true new d = elim (joined_cases s.order s.queue (entry_of name) e d) [
      | inl old ↦ inl old
      | inr same ↦ inr (name, refl, (and_parts (is_some (node_of s.snapshot name)) (not (is_listed name s.marked)) new).0, sym same)
    ]
    by_test false old d = inl d

module _ (o : Opening) (words : List ℕ) (views : List Seen) (h : Keeps o words views) where
  abbrev P : Place → Type 0
  P = IsIn o h.born

  abbrev S0 : World
  S0 = o.core.snapshot

  least : (p : Place) → P p → 1 ≤ p.at
  least p q = let x : Object = record { at = p.at; name = p.name; node = q.0 } in
      lies_above o.layout (place_of x) (size_of q.0) (omega arith) (h.stands.apart x q.1).lies

  not_there : (m : Marks) (name : Name) → node_of S0 name ≡ None → with_name S0 m (Some name) ≡ m
  not_there m name e = ap (λ (y : Option Node). cond (is_some y && not (is_listed name m.marked)) (record m {
    marked = m.marked ++ name ∷ [];
    queue = joined m.order m.queue (entry_of name);
  }) m) e

  -- a pointer counts as the name that it represents, if that is a name of the snapshot
  pointer_name : (m : Marks) (at : ℕ) (name : Name) → P (record { at = at; name = name }) → with_name S0 m (name_at o.places at) ≡ with_name S0 m (Some name)
  pointer_name m at name (node, inl old) =
      let r = some_at o.places at name old.there in
      let same = h.stands.one (record { at = at; name = r.0 }) (record { at = at; name = name }) (inl r.2) (inl old.there) (inr refl) in
      ap (λ (y : Option Name). with_name S0 m y) (r.1 ∙ ap (λ (p : Place). Some p.name) same)
  pointer_name m at name (node, inr c) = by_found (name_at o.places at) refl
    where
      none : with_name S0 m (Some name) ≡ m
      none = not_there m name (h.new (record { at = at; name = name; node = node }) c).no_snapshot

      by_found : (y : Option Name) → name_at o.places at ≡ y → with_name S0 m y ≡ with_name S0 m (Some name)
      by_found None e = sym none
      by_found (Some n) e =
          let same = h.stands.one (record { at = at; name = n }) (record {
            at = at;
            name = name;
          }) (inl (found_at o.places at n e)) (inr (record { at = at; name = name; node = node }, c, refl)) (inr refl) in
          ap (λ (p : Place). with_name S0 m (Some p.name)) same

  -- a word counts as the value that it represents
  word_name : (m : Marks) (w : ℕ) (v : Option Value) → IsRead P w v → (v ≡ None → w ≡ 0) → with_name S0 m (name_meant o.places w) ≡ with_name S0 m (ref_of v)
  word_name m w None means unset = ap (λ k. with_name S0 m (name_meant o.places k)) (unset refl)
  word_name m w (Some value.Nil) means unset = ap (λ k. with_name S0 m (name_meant o.places k)) means
  word_name m w (Some (value.Number n)) means unset =
      let a : eqb w 0 ≡ false = ne_eqb w 0 (λ e. omega arith) in
      let b : eqb (w % 2) 0 ≡ false = ne_eqb (w % 2) 0 (λ e. omega arith) in
      rw (a, b) refl
  word_name m w (Some (value.Ref name)) means unset =
      let at : ℕ = means.0 in
      let is : w ≡ 2 * at = means.1 in
      let l = least (record { at = at; name = name }) means.2 in
      let a : eqb w 0 ≡ false = ne_eqb w 0 (λ e. omega arith) in
      let b : eqb (w % 2) 0 ≡ true = eq-eqb (w % 2) 0 (omega arith) in
      let c : w / 2 ≡ at = omega arith in
      rw (a, b, c) (pointer_name m at name means.2)

  -- the object of a pointer that was read is within the words
  read_safe : (w : ℕ) (x : Option Value) → IsRead P w x → (x ≡ None → w ≡ 0) → IsSafe o w
  read_safe w None m unset at e = let z = unset refl in let l : FIRST_PLACE ≤ word_total o.layout = omega arith in omega arith
  read_safe w (Some x) m unset at e =
      let q = pointer_means P at x (rw e at m) in
      let y : Object = record { at = at; name = q.0; node = q.2.0 } in
      let l = lies_within o.layout (place_of y) (size_of y.node) (omega arith) (h.stands.apart y q.2.1).lies in
      omega arith

  -- the scan of the first entry, which is the object at this address
  module _ (id : ℕ) (v : Seen) (here : get_elem? views id ≡ some v) (at offset : ℕ) (can : CanScan v at offset) where
    abbrev S : State
    S = now o h.events

    abbrev w : ℕ
    w = slice_index words (at + offset)

    is : v.opening ≡ o
    is = (h.agrees id v here).opening (inr can.collects)

    folded_is : marks_of S ≡ marks_after v.opening v.scans
    folded_is = cc (((h.agrees id v here).scans can.collects).2, is)

    queue_is : S.queue ≡ can.entry ∷ can.rest
    queue_is = cc (folded_is, can.first)

    -- the facts about the object that is scanned
    record Target : Type 0 where
      queued : IsQueued o can.entry
      node : Node
      there : node_of S.world can.entry.name ≡ Some node
      later : IsLater queued.node node
      fields : HasFields P words (at + HEADER_WORDS) node
      kept : KeepsFree P words (at + HEADER_WORDS) queued.node
      header : slice_index words at ≡ header_word (header_of queued.node)
      valid : IsHeader (header_of queued.node)
      room : at + size_of queued.node ≤ word_total o.layout

    target : Target
    target =
        let q : IsQueued o can.entry = h.queued can.entry (rw queue_is (contains_head can.entry can.rest)) in
        let x : Object = q.object in
        let x_at : x.at ≡ at = ap (λ (p : Place). p.at) (h.stands.one (place_of x) (record {
          at = at;
          name = can.entry.name;
        }) (inl q.here.there) (inl (rw is at can.there)) (inl q.name)) in
        let st = h.stands.objects x (inl q.here) in
        let node_there : node_of S0 x.name ≡ Some q.node = cc (q.name, q.there) in
        let k = st.kept q.node (inr (record {
          marking = q.marking;
          wide = h.is.wide q.marking x q.here (rw node_there refl);
          there = node_there;
        })) in
        record {
          queued = q;
          node = st.node;
          there = cc (q.name, st.there);
          later = later_of x.node st.node st.later q.node k.0;
          fields = fields_of_slots P words (at + HEADER_WORDS) st.node (subst (λ a. HasSlots P words (a + HEADER_WORDS) (slots_of st.node)) x_at st.fields);
          kept = free_of_slots P words (at + HEADER_WORDS) q.node (rw x_at at k.1);
          header = cc (x_at, st.header, k.0.header);
          valid = subst IsHeader k.0.header (h.stands.apart x (inl q.here)).valid;
          room =
              let l = lies_within o.layout (place_of x) (size_of x.node) (omega arith) (h.stands.apart x (inl q.here)).lies in
              let fields = ap (λ (y : Header). y.fields) k.0.header in
              omega arith;
        }

    -- the value read at a position, and the facts that the word shows about it
    record IsScanned (t : Target) (position : ℕ) : Type 0 where
      means : IsRead P w (read_at (Some t.node) position)
      unset : read_at (Some t.node) position ≡ None → 1 ≤ position → w ≡ 0
      name : (m : Marks) → with_name S0 m (name_read o.places position w) ≡ with_name S0 m (ref_of (read_at (Some t.node) position))
      result : position ≡ 1 → has_result t.node ≡ (is_thunk t.node && not (eqb w 0))

    by_position : (t : Target) (position : ℕ) → can.entry.position ≡ position → IsScanned t position
    by_position t zero e = record { means = tt; unset = λ a le. absurd (omega arith); name = λ m. refl; result = λ one. absurd (omega arith) }
    by_position t (suc i) e =
        let within : can.entry.position ≤ fields_of t.queued.node = t.queued.within in
        let same : fields_of t.node ≡ fields_of t.queued.node = same_fields t.queued.node t.node t.later in
        let r : IsReadAt P words (at + HEADER_WORDS + i) (field_at t.node i) =
        field_read_at P words (at + HEADER_WORDS) i t.node t.queued.node t.later (omega arith) (λ le. t.queued.passed (omega arith)) t.fields t.kept in
        let place : at + offset ≡ at + HEADER_WORDS + i = let q : offset ≡ HEADER_WORDS + i = can.position ∙ ap offset_of e in omega arith in
        let r' : IsReadAt P words (at + offset) (field_at t.node i) = rw place r in
        record {
          means = r'.means;
          unset = λ a le. r'.unset a;
          name = λ m. word_name m w (field_at t.node i) r'.means r'.unset;
          result = λ one. let z : i ≡ 0 = omega arith in result_word P least words (at + offset) t.node (rw z at r');
        }

    pub scan_finds : FindsEntry o can.entry w
    scan_finds =
        let t = target in
        record {
          header = λ first.
              let z : at + offset ≡ at = let e = can.position ∙ ap offset_of first in omega arith in
              record {
                node = t.queued.node;
                there = t.queued.there;
                valid = t.valid;
                word_is = cc (z, t.header);
                room = λ a c.
                    let same = h.stands.one (record { at = a; name = can.entry.name }) (record {
                      at = at;
                      name = can.entry.name;
                    }) (inl c) (inl (rw is at can.there)) (inl refl) in
                    let here = ap (λ (p : Place). p.at) same in
                    let room = t.room in
                    omega arith;
              };
          safe = λ some_. let r = by_position t can.entry.position refl in
              read_safe w (read_at (Some t.node) can.entry.position) r.means (λ e. r.unset e some_);
        }

    snapshot_is : S.snapshot ≡ S0
    snapshot_is = same_snapshot o.core h.events

    -- a name that was read is queued well
    name_queued : (t : Target) (position : ℕ) → IsScanned t position → (name : Name) → ref_of (read_at (Some t.node) position) ≡ Some name →
        IsSome (node_of S0 name) → IsQueued o (entry_of name)
    name_queued t position r name e some_ = by_value (read_at (Some t.node) position) r.means e
      where
        by_object : (x : Object) → IsObject o h.born x → x.name ≡ name → IsQueued o (entry_of name)
        by_object x (inl old) same =
            let n : (y : Node) × (node_of S0 name ≡ Some y) = is_some_of (node_of S0 name) some_ in
            record {
              marking = t.queued.marking;
              object = x;
              here = old;
              name = same;
              node = n.0;
              there = n.1;
              within = omega arith;
              passed = λ le. absurd (omega arith);
            }
        by_object x (inr c) same =
            let none : node_of S0 name ≡ None = cc (same, (h.new x c).no_snapshot) in
            let bad : IsSome {T = Node} None = rw none at some_ in
            absurd cc

        by_value : (v : Option Value) → IsRead P w v → ref_of v ≡ Some name → IsQueued o (entry_of name)
        by_value None m e = absurd cc
        by_value (Some value.Nil) m e = absurd cc
        by_value (Some (value.Number n)) m e = absurd cc
        by_value (Some (value.Ref n)) m e = let same : n ≡ name = cc in by_object (record { at = m.0; name = n; node = m.2.0 }) m.2.1 same

    -- the entry that moved on is queued well
    next_queued : (t : Target) (e : Entry) → Contains (moved_on (Some t.node) can.entry) e → IsQueued o e
    next_queued t e c = by_last (is_last t.node can.entry.position) refl c
      where
        more : is_last t.node can.entry.position ≡ false → IsQueued o (record { name = can.entry.name; position = can.entry.position + 1 })
        more not_last =
            let parts = or_parts (leb (fields_of t.node) can.entry.position) (eqb can.entry.position 1 && has_result t.node) not_last in
            let lt : can.entry.position < fields_of t.node = leb-false (fields_of t.node) can.entry.position parts.0 in
            let same : fields_of t.node ≡ fields_of t.queued.node = same_fields t.queued.node t.node t.later in
            record {
              marking = t.queued.marking;
              object = t.queued.object;
              here = t.queued.here;
              name = t.queued.name;
              node = t.queued.node;
              there = t.queued.there;
              within = omega arith;
              passed = λ le. elim (eqb_tells can.entry.position 1) [
                | inl one ↦
                    let none : has_result t.node ≡ false = cc (one.0, parts.1) in
                    by_result (has_result t.queued.node) refl none
                | inr two ↦ t.queued.passed (let ne = two.1 in omega arith)
              ];
            }
          where
            by_result : (b : Bool) → has_result t.queued.node ≡ b → has_result t.node ≡ false → has_result t.queued.node ≡ false
            by_result false e none = e
            by_result true e none = let bad : true ≡ false = sym (t.later.result e) ∙ none in absurd cc

        by_last : (b : Bool) → is_last t.node can.entry.position ≡ b →
            Contains (cond b [] ((record { name = can.entry.name; position = can.entry.position + 1 }) ∷ [])) e → IsQueued o e
        by_last true q c = absurd (let lt = c.1 in omega arith)
        by_last false q c = subst (IsQueued o) (one_is (record { name = can.entry.name; position = can.entry.position + 1 }) e c) (more q)

    pub scan_keeps : AddsScan o words views h can.entry words (set views id (scanned_by v w))
    scan_keeps =
        let t = target in
        let entry : Entry = can.entry in
        let r = by_position t entry.position refl in
        let x : Option Value = read_at (Some t.node) entry.position in
        let read_is : read_at (node_of S.world entry.name) entry.position ≡ x = ap (λ (y : Option Node). read_at y entry.position) t.there in
        let rest : State = record S { queue = can.rest } in
        let M : Marks = with_name S0 (marks_of rest) (ref_of x) in
        let T : State = mark_read rest x in
        let marked : marks_of T ≡ M = cc (mark_is rest x, snapshot_is) in
        let world : T.world ≡ S.world = (rest_read rest x).world in
        let T_node : node_of T.world entry.name ≡ Some t.node = cc (world, t.there) in
        let scans : after_scan S S.queue ≡ advanced T entry = cc (queue_is, read_is) in
        let moved : moved_on (node_of T.world entry.name) entry ≡ entry_past (node_of S0 entry.name) entry w =
        cc (T_node, last_same entry.position w t.queued.node t.node t.later r.result, t.queued.there) in
        let rest_is : rest_of (marks_of S) ≡ marks_of rest =
        ap (λ (l : List Entry). let n : Marks = record (marks_of S) { queue = drop 1 l } in n) queue_is in
        let marks : marks_of (after_scan S S.queue) ≡ after_word o (marks_of S) (record { entry = entry; word = w }) =
        ap (λ (s : State). marks_of s) scans ∙ (λ i. record (marked i) { queue = moved i ++ (marked i).queue })
        ∙ sym (ap (λ (m : Marks). let n : Marks = record m { queue = entry_past (node_of S0 entry.name) entry w ++ m.queue } in n)
        (ap (λ (m : Marks). with_name S0 m (name_read o.places entry.position w)) rest_is ∙ r.name (marks_of rest))) in
        let after_queue : (after_scan S S.queue).queue ≡ moved_on (Some t.node) entry ++ T.queue = cc (scans, T_node) in
        let each : (e : Entry) → Contains (after_scan S S.queue).queue e → IsQueued o e =
        λ e c. elim (Contains-append_cases (moved_on (Some t.node) entry) T.queue e (rw after_queue at c)) [
          | inl d ↦ next_queued t e d
          | inr d ↦ elim (read_queued rest x e d) [
            | inl old ↦ h.queued e (rw queue_is (contains_tail entry can.rest e old))
            | inr new ↦ subst (IsQueued o) (sym new.3) (name_queued t entry.position r new.0 new.1 (rw snapshot_is at new.2))
          ]
        ] in
        rw (ap (λ (l : List Entry). first_of l) can.first) (scan_law o words views h id v here entry can.rest w x can.collects queue_is read_is r.means r.unset marks each)
