-- The effect of a scan on a collector's view.
use Rattle.nmgc_mark.proofs.Vocabulary.{ne_eqb, eq-eqb, le-leb, leb-true, ◌≡◌, inl, inr, ◌↔◌, ℕ, suc, ◌+◌, ◌<◌, ◌≤◌, Bool, true, false, not, ◌&&◌, ◌||◌, cond, eqb, leb, List, [], ◌∷◌, ◌++◌, refl, sym, ap, subst, ◌∙◌, arith, Option, Some, None, drop, Contains, eqb_tells, Name, Node, Con, Var, Arr, Thunk, Weak, Stack, node_of, Header, header_word, IsHeader, word_total, Entry, fields_of, Segments, IsMarkedAt, header_of, size_of, Opening, Seen, Marks, marks_of, name_read, with_name, entry_past, is_last_word, is_thunk, offset_of, CanScan, first_of, scanned_by, FindsEntry, MarkerSeen, AreQueued, IsTied, IsScanning, entry_now, marks_seen, rest_of, with_first, fields_scanned, has_results, is_result, folded_more, or_true}

-- its word is the next word that the view scans
pub can_scan : (v : Seen) (s : Segments) (marker : MarkerSeen) (at position offset : ℕ) → IsScanning v s marker at position →
    offset ≡ offset_of position → CanScan v at offset
can_scan v s marker at position offset h e = record {
  collects = h.collects;
  entry = entry_now v;
  rest = (rest_of (marks_seen v)).queue;
  first = ap (λ (m : Marks). m.queue) h.first;
  there = h.there;
  position = e ∙ ap offset_of (sym h.stands);
}

-- the offset of a field among the words of its object
pub field_offset : (field : ℕ) → 2 + field ≡ offset_of (field + 1)
field_offset field = let z : field + 1 ≡ suc field = omega arith in sym (ap offset_of z)

-- the node of a name in the snapshot, by its header
pub record IsNode (o : Opening) (name : Name) (header : Header) : Type 0 where
  pub node : Node
  pub there : node_of o.core.snapshot name ≡ Some node
  pub is : header_of node ≡ header
  pub room : (at : ℕ) → Contains o.places (record { at = at; name = name }) → at + size_of node ≤ word_total o.layout

-- the header of the entry's object has the word that was read
pub header_there : (v : Seen) (s : Segments) (marker : MarkerSeen) (at w : ℕ) → IsScanning v s marker at 0 → FindsEntry v.opening (entry_now v) w →
    (header : Header) × IsHeader header × (header_word header ≡ w)
header_there v s marker at w h t = let n = t.header h.stands in (header_of n.node, n.valid, sym n.word_is)

pub node_known : (v : Seen) (s : Segments) (marker : MarkerSeen) (at w : ℕ) (header : Header) → IsScanning v s marker at 0 →
    FindsEntry v.opening (entry_now v) w → ((other : Header) → IsHeader other → header_word other ≡ w → header ≡ other) →
    IsNode v.opening (entry_now v).name header
node_known v s marker at w header h t is =
    let n = t.header h.stands in
    record { node = n.node; there = n.there; is = sym (is (header_of n.node) n.valid (sym n.word_is)); room = n.room }

fields_by : (node : Node) → fields_of node ≡ fields_scanned (header_of node).kind (header_of node).fields
fields_by (Con tag values) = refl
fields_by (Var v) = refl
fields_by (Arr values) = refl
fields_by (Thunk free result) = refl
fields_by (Weak parts) = refl
fields_by (Stack size values) = refl

pub thunk_by : (node : Node) → is_thunk node ≡ has_results (header_of node).kind
thunk_by (Con tag values) = refl
thunk_by (Var v) = refl
thunk_by (Arr values) = refl
thunk_by (Thunk free result) = refl
thunk_by (Weak parts) = refl
thunk_by (Stack size values) = refl

module _ (v : Seen) (w : ℕ) where
  abbrev o : Opening
  o = v.opening

  abbrev e : Entry
  e = entry_now v

  abbrev t : Marks
  t = with_name o.core.snapshot (rest_of (marks_seen v)) (name_read o.places e.position w)

  after_node : (node : Node) → node_of o.core.snapshot e.name ≡ Some node →
      marks_seen (scanned_by v w) ≡ record t {
        queue = cond (is_last_word node e.position w) [] ((record { name = e.name; position = e.position + 1 }) ∷ []) ++ t.queue;
      }
  after_node node there = folded_more o (marks_of o.core) v.scans (record { entry = e; word = w })
      ∙ ap (λ (y : Option Node). let n : Marks = record t { queue = entry_past y e w ++ t.queue } in n) there

  pub after_more : (node : Node) → node_of o.core.snapshot e.name ≡ Some node → is_last_word node e.position w ≡ false →
      marks_seen (scanned_by v w) ≡ with_first (record { name = e.name; position = e.position + 1 }) t
  after_more node there more = cc (after_node node there, more)

  pub after_last : (node : Node) → node_of o.core.snapshot e.name ≡ Some node → is_last_word node e.position w ≡ true → marks_seen (scanned_by v w) ≡ t
  after_last node there last = after_node node there ∙ ap (λ (b : Bool).
      let n : Marks = record t { queue = cond b [] ((record { name = e.name; position = e.position + 1 }) ∷ []) ++ t.queue } in n) last

-- the next position of the same object
pub goes_on : (v : Seen) (w at : ℕ) (s new : Segments) (before later : MarkerSeen) (position : ℕ) (h : IsScanning v s before at position)
    (node : Node) → node_of v.opening.core.snapshot (entry_now v).name ≡ Some node → is_last_word node position w ≡ false
    → IsTied v.opening (with_name v.opening.core.snapshot (rest_of (marks_seen v)) (name_read v.opening.places position w)) new later
    → IsScanning (scanned_by v w) new later at (position + 1) × ((entry_now (scanned_by v w)).name ≡ (entry_now v).name)
goes_on v w at s new before later position h node there more tied =
    let is = after_more v w node there (subst (λ p. is_last_word node p w ≡ false) (sym h.stands) more) in
    let entry : entry_now (scanned_by v w) ≡ record { name = (entry_now v).name; position = (entry_now v).position + 1 } =
    ap (λ (m : Marks). first_of m.queue) is in
    let rest : rest_of (marks_seen (scanned_by v w)) ≡
    with_name v.opening.core.snapshot (rest_of (marks_seen v)) (name_read v.opening.places (entry_now v).position w) = ap rest_of is in (
      record {
        collects = h.collects;
        first = is ∙ sym (λ i. with_first (entry i) (rest i));
        there = subst (λ n. Contains v.opening.places (record { at = at; name = n })) (sym (ap (λ (k : Entry). k.name) entry)) h.there;
        stands = ap (λ (k : Entry). k.position) entry ∙ ap (λ n. n + 1) h.stands;
        tied = rw (rest ∙
            ap (λ p. with_name v.opening.core.snapshot (rest_of (marks_seen v)) (name_read v.opening.places p w)) h.stands) tied;
      },
      ap (λ (k : Entry). k.name) entry,
    )

-- the object is done
pub ends : (v : Seen) (w at : ℕ) (s new : Segments) (before later : MarkerSeen) (position : ℕ) (h : IsScanning v s before at position)
    (node : Node) → node_of v.opening.core.snapshot (entry_now v).name ≡ Some node → is_last_word node position w ≡ true
    → IsTied v.opening (with_name v.opening.core.snapshot (rest_of (marks_seen v)) (name_read v.opening.places position w)) new later
    → IsTied v.opening (marks_seen (scanned_by v w)) new later
ends v w at s new before later position h node there last tied =
    let is = after_last v w node there (subst (λ p. is_last_word node p w ≡ true) (sym h.stands) last) in
    rw (is ∙
    ap (λ p. with_name v.opening.core.snapshot (rest_of (marks_seen v)) (name_read v.opening.places p w)) h.stands) tied

-- the same marker, except for its queue and the number of passes of the gate
abbrev pub IsTaken : MarkerSeen → MarkerSeen → Type 0
IsTaken old new = new ≡ record old { queue = new.queue; turns = new.turns }

-- the first address of the queue is scanned next
pub begins : (v : Seen) (s : Segments) (before later : MarkerSeen) (at : ℕ) → v.collects ≡ true → IsTied v.opening (marks_seen v) s before →
    before.queue ≡ at ∷ later.queue → IsTaken before later → IsScanning v s later at 0
begins v s before later at collects h e same = by_queue before.queue (marks_seen v).queue e refl h.queue
  where
    by_queue : (ats : List ℕ) (entries : List Entry) → ats ≡ at ∷ later.queue → (marks_seen v).queue ≡ entries →
        AreQueued v.opening.places ats entries → IsScanning v s later at 0
    by_queue [] [] e q a = absurd cc
    by_queue [] (x ∷ xs) e q a = absurd a
    by_queue (b ∷ ats) [] e q a = absurd a
    by_queue (b ∷ ats) (x ∷ xs) e q a =
        let entry : entry_now v ≡ x = ap first_of q in
        let b_is : b ≡ at = cc in
        let ats_are : ats ≡ later.queue = cc in
        let epoch_is : later.epoch ≡ before.epoch = ap (λ (k : MarkerSeen). k.epoch) same in
        let marked_is : later.marked ≡ before.marked = ap (λ (k : MarkerSeen). k.marked) same in
        record {
          collects = collects;
          first = (λ i. record (marks_seen v) { queue = (q ∙ sym (λ j. entry j ∷ drop 1 (q j))) i });
          there = rw (ap (λ (k : Entry). k.name) entry) (rw b_is at a.0.0);
          stands = ap (λ (k : Entry). k.position) entry ∙ a.0.1;
          tied = record {
            snapshot = h.snapshot;
            shared = h.shared;
            marks = λ p c g. subst (λ n. IsMarkedAt s n p.at ↔ Contains (marks_seen v).marked p.name) (sym epoch_is) (h.marks p c g);
            order = h.order;
            queue = rw (ap (drop 1) q) (rw ats_are at a.1);
            count = ap (λ n. n + 1) marked_is ∙ h.count;
          };
        }

-- whether a field was the last
same_one : (field : ℕ) → eqb (field + 1) 1 ≡ eqb field 0
same_one field = elim (eqb_tells field 0) [
  | inl z ↦ eq-eqb (field + 1) 1 (let k = z.1 in omega arith) ∙
      sym z.0
  | inr n ↦ ne_eqb (field + 1) 1 (λ k. n.1 (omega arith)) ∙ sym n.0
]

same_test : (node : Node) (field w : ℕ) → (eqb (field + 1) 1 && (is_thunk node && not (eqb w 0))) ≡ is_result (header_of node).kind field w
same_test node field w = (λ i. same_one field i && (thunk_by node i && not (eqb w 0)))

pub not_last : (node : Node) (fields field w : ℕ) → fields_of node ≡ fields → field + 1 < fields → is_result (header_of node).kind field w ≡ false →
    is_last_word node (field + 1) w ≡ false
not_last node fields field w e lt no_result = by (leb (fields_of node) (field + 1)) refl
  where
    by : (x : Bool) → leb (fields_of node) (field + 1) ≡ x → (x || (eqb (field + 1) 1 && (is_thunk node && not (eqb w 0)))) ≡ false
    by false k = same_test node field w ∙ no_result
    by true k = absurd (let l = leb-true (fields_of node) (field + 1) k in omega arith)

-- whether the header was the last
pub header_more : (node : Node) (fields w : ℕ) → fields_of node ≡ fields → 0 < fields → is_last_word node 0 w ≡ false
header_more node fields w e lt = by (leb (fields_of node) 0) refl
  where
    by : (x : Bool) → leb (fields_of node) 0 ≡ x → (x || (eqb 0 1 && (is_thunk node && not (eqb w 0)))) ≡ false
    by false k = refl
    by true k = absurd (let l = leb-true (fields_of node) 0 k in omega arith)

pub field_last : (node : Node) (fields position w : ℕ) → fields_of node ≡ fields → fields ≤ position → is_last_word node position w ≡ true
field_last node fields position w e le =
    ap (λ (b : Bool). b || (eqb position 1 && (is_thunk node && not (eqb w 0)))) (le-leb (fields_of node) position (omega arith))

pub result_last : (node : Node) (field w : ℕ) → is_result (header_of node).kind field w ≡ true → is_last_word node (field + 1) w ≡ true
result_last node field w e = or_true (leb (fields_of node) (field + 1)) (eqb (field + 1) 1 && (is_thunk node && not (eqb w 0))) (same_test node field w ∙ e)

pub fields_are : (node : Node) (header : Header) (fields : ℕ) → header_of node ≡ header → fields ≡ fields_scanned header.kind header.fields →
    fields_of node ≡ fields
fields_are node header fields e f = fields_by node ∙ ap (λ (h : Header). fields_scanned h.kind h.fields) e ∙ sym f
