-- A collector that scans alone: each load is the machine's next scan, by the law of scans.
use Rattle.nmgc_mark.proofs.Vocabulary.{◌≡◌, inl, inr, ℕ, ◌+◌, ◌<◌, ◌≤◌, ◌^◌, List, [], ◌∷◌, ◌++◌, length, set, refl, sym, ap, subst, ◌∙◌, arith, Some, None, Option, Contains, slice_index, IsSome, some, get_elem?, Name, Value, Node, node_of, contains_head, Header, word_total, header_word, IsHeader, Entry, State, mark_value, mark_read, read_at, moved_on, after_scan, Segments, size_of, Place, Happening, did, scanned, replay, Opening, Seen, Scan, whole, Marks, marks_of, marks_after, offset_of, Object, place_of, IsIn, Keeps, now, AllRead, IsRead, AddsScan, CanScan, first_of, scanned_by, CanOpen, FindsEntry, FindsNode, FindsScan, IsSafe, MarkerSeen, AreScans, IsAlone, WordsShow, HasFinished, IsTied, AreQueued, entry_now, marks_seen, lies_within}
use Rattle.nmgc_world_spec.specs.declared.value.Value.TheVariants as value
use Rattle.nmgc_mark.proofs.OneMark.{mark_is}

-- the laws of rounds about a scan and an opening
abbrev pub ScanLaw : Type 0
ScanLaw = (o : Opening) (words : List ℕ) (views : List Seen) (id : ℕ) (v : Seen) (at offset : ℕ) (k : Keeps o words views) →
    get_elem? views id ≡ some v → (can : CanScan v at offset) →
    AddsScan o words views k can.entry words (set views id (scanned_by v (slice_index words (at + offset))))

abbrev pub OpenLaw : Type 0
OpenLaw = (o : Opening) (words : List ℕ) → CanOpen o words → (k : Keeps o words (whole o ∷ [])) × (k.events ≡ [])

-- the value that the last of the scans read
last_read : (P : Place → Type 0) (ss : List Scan) (s : Scan) (xs : List (Entry × Option Value)) → AllRead P (ss ++ s ∷ []) xs → (x : Option Value) ×
    IsRead P s.word x × (x ≡ None → 1 ≤ s.entry.position → s.word ≡ 0)
last_read P [] s [] a = absurd a
last_read P [] s (x ∷ xs) a = (x.1, a.0.1, a.0.2)
last_read P (r ∷ ss) s [] a = absurd a
last_read P (r ∷ ss) s (x ∷ xs) a = last_read P ss s xs a.1

more_scans : (es : List Happening) (entry : Entry) (v : Option Value) → AreScans es → AreScans (es ++ scanned entry v ∷ [])
more_scans [] entry v h = tt
more_scans (did m c r ∷ es) entry v h = absurd h
more_scans (scanned e x ∷ es) entry v h = more_scans es entry v h

-- the next scan of a view, by the name of its own first entry
abbrev own : (v : Seen) (at offset : ℕ) → CanScan v at offset → CanScan v at offset
own v at offset can =
    let same : can.entry ≡ entry_now v = sym (ap first_of can.first) in
    record {
      collects = can.collects;
      entry = entry_now v;
      rest = can.rest;
      first = can.first ∙ ap (λ (e : Entry). e ∷ can.rest) same;
      there = subst (λ (e : Entry). Contains v.opening.places (record { at = at; name = e.name })) same can.there;
      position = can.position ∙ ap (λ (e : Entry). offset_of e.position) same;
    }

module _ (o : Opening) (words : List ℕ) (v : Seen) (a : IsAlone o words v) (at offset : ℕ) (can : CanScan v at offset) (law : ScanLaw) where
  added : AddsScan o words (v ∷ []) a.keeps (entry_now v) words (scanned_by v (slice_index words (at + offset)) ∷ [])
  added = law o words (v ∷ []) 0 v at offset a.keeps refl (own v at offset can)

  pub alone_then : IsAlone o words (scanned_by v (slice_index words (at + offset)))
  alone_then = record {
    opening = a.opening;
    collects = a.collects;
    keeps = added.1;
    scans = subst AreScans (sym added.2) (more_scans a.keeps.events (entry_now v) added.0 a.scans);
  }

  queue_is : (now o a.keeps.events).queue ≡ entry_now v ∷ can.rest
  queue_is =
      ap (λ (x : Marks). x.queue) ((a.keeps.agrees 0 v refl).scans a.collects).2
      ∙ ap (λ (y : Opening). (marks_after y v.scans).queue) (sym a.opening)
      ∙ (own v at offset can).first

  there_is : Contains o.places (record { at = at; name = (entry_now v).name })
  there_is = subst (λ (y : Opening). Contains y.places (record { at = at; name = (entry_now v).name })) a.opening (own v at offset can).there

  node_known : (entry_now v).position ≡ 0 → FindsNode o (entry_now v).name (slice_index words (at + offset))
  node_known first =
      let q = a.keeps.queued (entry_now v) (rw queue_is (contains_head (entry_now v) can.rest)) in
      let x : Object = q.object in
      let same = a.keeps.stands.one (place_of q.object) (record { at = at; name = (entry_now v).name }) (inl q.here.there) (inl there_is) (inl q.name) in
      let x_at : q.object.at ≡ at = ap (λ (p : Place). p.at) same in
      let st = a.keeps.stands.objects q.object (inl q.here) in
      let known : node_of o.core.snapshot q.object.name ≡ Some q.node = ap (λ (n : Name). node_of o.core.snapshot n) q.name ∙ q.there in
      let wide = a.keeps.is.wide q.marking q.object q.here (subst (λ (y : Option Node). IsSome y) (sym known) refl) in
      let later = (st.kept q.node (inr (record { marking = q.marking; wide = wide; there = known }))).0 in
      let apart = a.keeps.stands.apart q.object (inl q.here) in
      let z : at + offset ≡ at = let f = (own v at offset can).position ∙ ap offset_of first in omega arith in
      record {
        node = q.node;
        there = q.there;
        valid = subst IsHeader later.header apart.valid;
        word_is = ap (λ i. slice_index words i) (z ∙ sym x_at) ∙ st.header ∙ ap header_word later.header;
        room = λ b c.
            let one = a.keeps.stands.one (record { at = b; name = (entry_now v).name }) (place_of q.object) (inl c) (inl q.here.there) (inl (sym q.name)) in
            let b_at : b ≡ q.object.at = ap (λ (p : Place). p.at) one in
            let fields = ap (λ (y : Header). y.fields) later.header in
            let within = lies_within o.layout (place_of q.object) (size_of q.object.node) (omega arith) apart.lies in
            omega arith;
      }

  pointer_safe : (P : Place → Type 0) → ((p : Place) → P p → p.at + 2 ≤ word_total o.layout) → (x : Option Value) →
      IsRead P (slice_index words (at + offset)) x → (x ≡ None → slice_index words (at + offset) ≡ 0) → IsSafe o (slice_index words (at + offset))
  pointer_safe P low None r unset b is = let z = unset refl in omega arith
  pointer_safe P low (Some value.Nil) r unset b is = absurd (omega arith)
  pointer_safe P low (Some (value.Number n)) r unset b is = absurd (omega arith)
  pointer_safe P low (Some (value.Ref name)) r unset b is =
      let l = low (record { at = r.0; name = name }) r.2 in
      let f = r.1 in
      omega arith

  field_safe : 1 ≤ (entry_now v).position → IsSafe o (slice_index words (at + offset))
  field_safe some_ =
      let n = added.1 in
      let reads = ((added.1.agrees 0 (scanned_by v (slice_index words (at + offset))) refl).scans a.collects).1 in
      let last = last_read (IsIn o added.1.born) v.scans (record { entry = entry_now v; word = slice_index words (at + offset) }) _ reads in
      pointer_safe (IsIn o added.1.born)
      (λ p q. let x : Object = record { at = p.at; name = p.name; node = q.0 } in
      let l = lies_within o.layout (place_of x) (size_of q.0) (omega arith) (added.1.stands.apart x q.1).lies in omega arith)
      last.0 last.1 (λ none. last.2 none some_)

  pub alone_finds : FindsEntry o (entry_now v) (slice_index words (at + offset))
  alone_finds = record { header = λ first. node_known first; safe = λ some_. field_safe some_ }

-- the same for a word that was loaded
pub scan_alone : ScanLaw → (first old new : List ℕ) (v : Seen) (at offset w : ℕ) → WordsShow first old v → CanScan v at offset → new ≡ old →
    w ≡ slice_index old (at + offset) → WordsShow first new (scanned_by v w) × FindsScan v w
scan_alone law first old new v at offset w shows can same is =
    let next : IsAlone v.opening old (scanned_by v w) =
    subst (λ x. IsAlone v.opening old (scanned_by v x)) (sym is) (alone_then v.opening old v shows.1 at offset can law) in (
      (same ∙ shows.0, subst (λ (l : List ℕ). IsAlone v.opening l (scanned_by v w)) (sym same) next),
      subst (λ x. FindsEntry v.opening (entry_now v) x) (sym is) (alone_finds v.opening old v shows.1 at offset can law),
    )

-- every word is among the words of the layout
pub alone_total : (o : Opening) (words : List ℕ) (v : Seen) → IsAlone o words v → (length words ≡ word_total v.opening.layout) ×
    (word_total v.opening.layout < 2 ^ 32)
alone_total o words v a =
    let l = a.keeps.is.layout in
    let heap = l.heap in
    let t = a.keeps.stands.total in (
      t ∙ ap (λ (y : Opening). word_total y.layout) (sym a.opening),
      subst (λ (y : Opening). word_total y.layout < 2 ^ 32) (sym a.opening) (omega arith),
    )

-- a collector alone at its beginning
pub alone_opens : OpenLaw → (o : Opening) (words : List ℕ) → CanOpen o words → IsAlone o words (whole o)
alone_opens law o words can = let k = law o words can in record { opening = refl; collects = refl; keeps = k.0; scans = subst AreScans (sym k.1) tt }

-- a scan changes only marks and queue
value_rest : (s : State) (v : Value) → mark_value s v ≡ record s { marked = (mark_value s v).marked; queue = (mark_value s v).queue }
value_rest s value.Nil = refl
value_rest s (value.Number n) = refl
value_rest s (value.Ref name) = (mark_is s name).rest

read_rest : (s : State) (x : Option Value) → mark_read s x ≡ record s { marked = (mark_read s x).marked; queue = (mark_read s x).queue }
read_rest s None = refl
read_rest s (Some v) = value_rest s v

scan_rest : (s : State) (queue : List Entry) → after_scan s queue ≡ record s { marked = (after_scan s queue).marked; queue = (after_scan s queue).queue }
scan_rest s [] = refl
scan_rest s (entry ∷ rest) =
    let from : State = record s { queue = rest } in
    let t : State = mark_read from (read_at (node_of s.world entry.name) entry.position) in
    ap (λ (x : State). let u : State = record x { queue = moved_on (node_of t.world entry.name) entry ++ t.queue } in u)
    (read_rest from (read_at (node_of s.world entry.name) entry.position))

-- so do scans
pub scans_rest : (s : State) (es : List Happening) → AreScans es → replay s es ≡ record s { marked = (replay s es).marked; queue = (replay s es).queue }
scans_rest s [] h = refl
scans_rest s (did m c r ∷ es) h = absurd h
scans_rest s (scanned entry v ∷ es) h =
    let one = scan_rest s s.queue in
    scans_rest (after_scan s s.queue) es h ∙ ap (λ (x : State).
    let u : State = record x { marked = (replay (after_scan s s.queue) es).marked; queue = (replay (after_scan s s.queue) es).queue } in u) one

none_queued : (places : List Place) (ats : List ℕ) (entries : List Entry) → ats ≡ [] → AreQueued places ats entries → entries ≡ []
none_queued places [] [] e q = refl
none_queued places (x ∷ ats) entries e q = absurd cc
none_queued places [] (x ∷ entries) e q = absurd q

-- the queue is empty, and all that the machine would scan was scanned
pub alone_ends : (o : Opening) (words : List ℕ) (v : Seen) (s : Segments) (m : MarkerSeen) → IsAlone o words v → IsTied o (marks_seen v) s m →
    m.queue ≡ [] → HasFinished o s m
alone_ends o words v s m a h empty =
    let is_known = ((a.keeps.agrees 0 v refl).scans a.collects).2 in
    let same : marks_of (now o a.keeps.events) ≡ marks_seen v = is_known ∙ ap (λ (y : Opening). marks_after y v.scans) (sym a.opening) in
    let none : (marks_seen v).queue ≡ [] = none_queued o.places m.queue (marks_seen v).queue empty h.queue in
    let queue : (now o a.keeps.events).queue ≡ [] = ap (λ (k : Marks). k.queue) same ∙ none in
    record {
      events = a.keeps.events;
      scans = a.scans;
      legal = a.keeps.legal;
      rest = cc (scans_rest o.core a.keeps.events a.scans, queue);
      tied = subst (λ (k : Marks). IsTied o k s m) (sym same) h;
    }

-- the opening of a view is the opening of the collector alone
pub alone_shows : (o : Opening) (first words : List ℕ) (v : Seen) → words ≡ first → IsAlone o first v → WordsShow words words v
alone_shows o first words v same a =
    (refl, subst (λ (y : Opening). IsAlone y words v) (sym a.opening) (subst (λ (l : List ℕ). IsAlone o l v) (sym same) a))

pub shows_alone : (o : Opening) (first old new : List ℕ) (from v : Seen) → old ≡ first → IsAlone o first from → v.opening ≡ from.opening →
    WordsShow old new v → IsAlone o first v
shows_alone o first old new from v same a later shows =
    subst (λ (y : Opening). IsAlone y first v) (later ∙ a.opening) (subst (λ (l : List ℕ). IsAlone v.opening l v) (shows.0 ∙ same) shows.1)
