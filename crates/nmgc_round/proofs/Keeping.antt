-- The laws of the rule: the changes that keep it, with at most one event more.
use Rattle.nmgc_round.proofs.Vocabulary.{◌≡◌, ◌≢◌, ◌⊎◌, ◌<◌, ◌≤◌, ℕ, Bool, true, false, List, [], ◌∷◌, ◌++◌, zero, suc, length, set, refl, sym, ap, subst, ◌∙◌, length-set, Option, Some, None, inl, inr, ⊎_elim, Contains, some, some-injective, some-ne-none, get_elem?, at_set, Name, Value, Node, Stack, Command, Reply, World, node_of, step, owed_by, step_grows, Entry, State, names_of, IsPossible, after_command, after_scan, read_at, names_same, names_other, Place, ListMeans, header_of, Happening, did, scanned, after, IsLegal, done_by, scans_in, Answer, FixedWord, UnbornWord, Opening, Part, Scan, Seen, hand_of, hand_now, leaves, doing, scanning, OwnSlots, Object, IsLater, IsObject, IsIn, RepresentsInRound, marks_of, after_word, now, Answers, Owes, IsHand, Fits, Rests, IsActive, Agrees, IsNew, AreKnown, IsQueued, IsRead, Keeps, Stays, AddsCommand, AddsScan, IsMutator, leave_more, folded_more}
use Rattle.nmgc_snapshot_laws.specs.declared.event.Event.TheVariants as event
use Rattle.nmgc_round.proofs.{Standing.later_of, Owners.stack_of, Lists.answer_push, Lists.read_push, Lists.answers_more, Lists.reads_more, Lists.owed_more, Fields.list_more, Logs.replay_more, Logs.legal_more, Logs.scans_more, Logs.scans_same, Logs.done_scan, Logs.done_more, Logs.done_other, Runs.rest_scan, Runs.still_open, Frames.step_other}

pub only_one : {A : Type 0} (R : A → Type 0) (x : A) → R x → (k : ℕ) (y : A) → get_elem? (x ∷ []) k ≡ some y → R y
only_one R x h zero y e = subst R (some-injective x y e) h
only_one R x h (suc k) y e = absurd (some-ne-none y (sym e))

-- a mutator's seat has a part
pub acts : (v : Seen) (p : Part) → IsMutator v p → IsActive v
acts v p is = inl (0, p, ap (λ l. get_elem? l 0) is.alone)

-- more objects
module _ (o : Opening) (born more : List Object) (grow : (x : Object) → IsObject o born x → IsObject o more x) where
  pub grown : (p : Place) → IsIn o born p → IsIn o more p
  grown p h = (h.0, grow (record { at = p.at; name = p.name; node = h.0 }) h.1)

  pub owes_more : (b : Bool) (ws : List ℕ) (ns : List Name) → Owes b (IsIn o born) ws ns → Owes b (IsIn o more) ws ns
  owes_more true ws ns h = owed_more (IsIn o born) (IsIn o more) grown ws ns h
  owes_more false ws ns h = h

  -- a part of another mutator
  pub fits_other : (s : State) (done : List (Command × Reply)) (m : ℕ) (c : Command) (q : Part) → m < length s.world.mutators → q.number ≢ m
      → ((name : Name) (size : ℕ) (values : List Value) → name.maker ≢ m → node_of s.world name ≡ Some (Stack size values) →
      node_of (step s.world m c).0 name ≡ Some (Stack size values))
      → OwnSlots o more (step s.world m c).0 q.number (hand_now o q)
      → Fits o born s done q → Fits o more (after_command s m c) done q
  fits_other s done m c q lt ne stacks own f =
      let same = step_other m q.number ne s.world c lt in
      let count = (step_grows s.world m c lt).mutators in record {
        exists = rw count f.exists;
        owing = rw (length-set s.owed m (names_of s.owed m ++ owed_by s.world m c)) f.owing;
        rows = answers_more (IsIn o born) (IsIn o more) grown q.rows done f.rows;
        hand = record {
          registers = rw same.registers (list_more (IsIn o born) (IsIn o more) grown _ _ f.hand.registers);
          queue = rw same.queue (list_more (IsIn o born) (IsIn o more) grown _ _ f.hand.queue);
          serial = f.hand.serial ∙ sym same.serial;
        };
        found = rw (names_other s.owed m q.number (names_of s.owed m ++
            owed_by s.world m c) ne) (owes_more true q.found _ f.found);
        owed = rw (names_other s.owed m q.number (names_of s.owed m ++
            owed_by s.world m c) ne) (owes_more o.marking q.owed _ f.owed);
        own = own;
      }

  -- the part of the mutator that did the command
  pub fits_mine : (s : State) (done : List (Command ×
      Reply)) (p : Part) (used : ℕ) (unborn : List UnbornWord) (fixed : List FixedWord) (found : List ℕ) (c : Command) (r : Reply) (a : Answer) (owed : List ℕ)
      → Answers (IsIn o more) a r → IsHand o more (step s.world p.number c).0 p.number (leaves (hand_now o p) c a)
      → Owes o.marking (IsIn o more) (p.owed ++ owed) (names_of s.owed p.number ++ owed_by s.world p.number c)
      → Owes true (IsIn o more) found (names_of s.owed p.number ++ owed_by s.world p.number c)
      → OwnSlots o more (step s.world p.number c).0 p.number (leaves (hand_now o p) c a)
      → Fits o born s done p → Fits o more (after_command s p.number c) (done ++ (c, r) ∷
      []) (doing (record p { used = used; unborn = unborn; fixed = fixed; found = found }) c a owed)
  fits_mine s done p used unborn fixed found c r a owed says hand owes finds own f =
      let count = (step_grows s.world p.number c f.exists).mutators in record {
        exists = rw count f.exists;
        owing = rw (length-set s.owed p.number (names_of s.owed p.number ++ owed_by s.world p.number c)) f.owing;
        rows = answer_push (IsIn o more) p.rows done c a r (answers_more (IsIn o born) (IsIn o more) grown p.rows done f.rows) says;
        hand = rw (leave_more (hand_of o.hands p.number) p.rows (record {
          command = c;
          answer = a;
        })) hand;
        found = rw (names_same s.owed p.number (names_of s.owed p.number ++
            owed_by s.world p.number c) f.owing) finds;
        owed = rw (names_same s.owed p.number (names_of s.owed p.number ++ owed_by s.world p.number c) f.owing) owes;
        own = rw (leave_more (hand_of o.hands p.number) p.rows (record {
          command = c;
          answer = a;
        })) own;
      }

module _ (o : Opening) (words : List ℕ) (views : List Seen) (h : Keeps o words views) (id : ℕ) (v : Seen) (here : get_elem? views id ≡ some v) where
  now_more : (e : Happening) → now o (h.events ++ e ∷ []) ≡ after (now o h.events) e
  now_more e = replay_more o.core h.events e

  -- one view changes, and the other views agree
  change : (new : List ℕ) (es : List Happening) (more : List Object) (w : Seen) → ((x : Object) → IsObject o h.born x → IsObject o more x) →
      ((x : Object) → Contains more x → IsNew o x)
      → IsLegal o.core es → RepresentsInRound o more (now o es).world new → AreKnown o more (now o es).world
      → ((entry : Entry) → Contains (now o es).queue entry → IsQueued o entry)
      → Agrees o more new es h.owner h.scanner id w
      → ((j : ℕ) (u : Seen) → j ≢ id → get_elem? views j ≡ some u → Agrees o more new es h.owner h.scanner j u)
      → (n : Keeps o new (set views id w)) × (n.events ≡ es)
  change new es more w grow news legal st known queued mine others = (
    record {
      is = h.is;
      placed = h.placed;
      events = es;
      born = more;
      owner = h.owner;
      scanner = h.scanner;
      legal = legal;
      stands = st;
      shared = grown o h.born more grow _ h.shared;
      new = news;
      known = known;
      queued = queued;
      agrees = λ j u at. ⊎_elim
          (λ (t : (j ≡ id) × (w ≡ u)).
          rw t.0 (subst (Agrees o more new es h.owner h.scanner id) t.1 mine))
          (λ (t : (j ≢ id) × (get_elem? views j ≡ some u)). others j u t.0 t.1)
          (at_set views id j w u at);
    },
    refl,
  )

  -- the nodes after a command
  known_more : (more : List Object) → ((x : Object) → IsObject o h.born x → IsObject o more x) → (u : World) →
      ((n : Name) (node : Node) → node_of u n ≡ Some node → ((before : Node) × (node_of (now o h.events).world n ≡ Some before) ×
      IsLater before node) ⊎ ((x : Object) × Contains more x × (x.name ≡ n))) → AreKnown o more u
  known_more more grow u names n node e = elim (names n node e) [
    | inl t ↦ elim (h.known n t.0 t.1) [
      | inl k ↦ inl (k.0, k.1, later_of t.0 node t.2 k.0 k.2)
      | inr k ↦ elim (grow k.0 (inr k.1)) [
        | inl old ↦ inl (absurd (let none : node_of o.core.world k.0.name ≡ None = (h.new k.0 k.1).unknown in
            let some_ : node_of o.core.world k.0.name ≡ Some k.0.node = old.node in let bad : None ≡ Some k.0.node = sym none ∙ some_ in cc))
        | inr c ↦ inr (k.0, c, k.2)
      ]
    ]
    | inr t ↦ inr t
  ]

  -- the views of other seats after a command
  module _ (m : ℕ) (c : Command) (r : Reply) (lt : m < length (now o h.events).world.mutators) (more : List Object) (grow : (x : Object) →
      IsObject o h.born x → IsObject o more x)
      (stacks : (name : Name) (size : ℕ) (values : List Value) → name.maker ≢ m → node_of (now o h.events).world name ≡ Some (Stack size values) →
      node_of (step (now o h.events).world m c).0 name ≡ Some (Stack size values))
      (only : (x : Object) → Contains more x → Contains h.born x ⊎
      (x.name.maker ≡ m)) (new : List ℕ) (st : RepresentsInRound o more (step (now o h.events).world m c).0 new) where
    -- an object that isn't this mutator's was there before
    there_before : (x : Object) → x.name.maker ≢ m → IsObject o more x → IsObject o h.born x
    there_before x ne (inl old) = inl old
    there_before x ne (inr b) = elim (only x b) [ inl c ↦ inr c | inr mine ↦ absurd (ne mine) ]

    -- the own stacks of another mutator stay
    other_own : (q : Part) → q.number ≢ m → OwnSlots o h.born (now o h.events).world q.number (hand_now o q) →
        OwnSlots o more (step (now o h.events).world m c).0 q.number (hand_now o q)
    other_own q ne own x size values hx mine e =
        let apart : x.name.maker ≢ m = λ same. ne (sym mine ∙ same) in
        let hx' = there_before x apart hx in
        let before = h.stands.objects x hx' in
        let after_ = st.objects x hx in
        let is : Some after_.node ≡ Some (Stack size values) = sym after_.there ∙ e in
        let is_stack : after_.node ≡ Stack size values = cc in
        let t = stack_of before.node size values (before.later.header ∙ sym after_.later.header ∙ ap header_of is_stack) in
        let was : node_of (now o h.events).world x.name ≡ Some (Stack size t.0) = cc (before.there, t.1) in
        let still : Some (Stack size t.0) ≡ Some (Stack size values) = sym (stacks x.name size t.0 apart was) ∙ e in
        let same : t.0 ≡ values = cc in
        let r = own x size t.0 hx' mine was in
        (r.0, r.1, list_more (IsIn o h.born) (IsIn o more) (grown o h.born more grow) r.0 values (subst (λ l. ListMeans (IsIn o h.born) r.0 l) same r.2))

    other_fits : (q : Part) → q.number ≢ m → Fits o h.born (now o h.events) (done_by q.number h.events) q →
        Fits o more (now o (h.events ++ did m c r ∷ [])) (done_by q.number (h.events ++ did m c r ∷ [])) q
    other_fits q ne f =
        rw (now_more (did m c r)) (rw (done_other q.number m h.events c r (λ e. ne (sym e))) (fits_other o h.born more grow (now o h.events) (done_by q.number h.events) m c q lt ne stacks (other_own q ne f.own) f))

  -- one more command: every step that is the position of a command is an instance
  pub command_law : (new : List ℕ) (more : List Object) (p : Part) (used : ℕ) (unborn : List UnbornWord) (fixed : List FixedWord) (found : List ℕ)
      (c : Command) (r : Reply) (a : Answer) (owed : List ℕ)
      → IsMutator v p → ((x : Object) → IsObject o h.born x → IsObject o more x) → ((x : Object) → Contains more x → IsNew o x)
      → IsPossible (now o h.events) (event.Command p.number c r)
      → Answers (IsIn o more) a r
      → IsHand o more (step (now o h.events).world p.number c).0 p.number (leaves (hand_now o p) c a)
      → Owes o.marking (IsIn o more) (p.owed ++ owed) (names_of (now o h.events).owed p.number ++ owed_by (now o h.events).world p.number c)
      → Owes true (IsIn o more) found (names_of (now o h.events).owed p.number ++ owed_by (now o h.events).world p.number c)
      → ((name : Name) (size : ℕ) (values : List Value) → name.maker ≢ p.number → node_of (now o h.events).world name ≡ Some (Stack size values) →
      node_of (step (now o h.events).world p.number c).0 name ≡ Some (Stack size values))
      → ((n : Name) (node : Node) → node_of (step (now o h.events).world p.number c).0 n ≡ Some node →
      ((before : Node) × (node_of (now o h.events).world n ≡ Some before) × IsLater before node) ⊎ ((x : Object) × Contains more x × (x.name ≡ n)))
      → RepresentsInRound o more (step (now o h.events).world p.number c).0 new
      → Rests o more new (doing (record p { used = used; unborn = unborn; fixed = fixed; found = found }) c a owed)
      → ((q : Part) → q.number ≢ p.number → Rests o h.born words q → Rests o more new q)
      → ((x : Object) → Contains more x → Contains h.born x ⊎ (x.name.maker ≡ p.number))
      → OwnSlots o more (step (now o h.events).world p.number c).0 p.number (leaves (hand_now o p) c a)
      → AddsCommand o words views h p.number c new (set views id (record v {
        parts =
            doing (record p { used = used; unborn = unborn; fixed = fixed; found = found }) c a owed ∷ [];
      }))
  command_law new more p used unborn fixed found c r a owed is grow news can says hand owes finds stacks names st rests rest only own =
      let m : ℕ = p.number in
      let e : Happening = did m c r in
      let s : State = now o h.events in
      let g = h.agrees id v here in
      let mine = g.parts 0 p (ap (λ l. get_elem? l 0) is.alone) in
      let p' : Part = doing (record p { used = used; unborn = unborn; fixed = fixed; found = found }) c a owed in
      let fits : Fits o more (now o (h.events ++ e ∷ [])) (done_by m (h.events ++ e ∷ [])) p' =
      rw (now_more e) (rw (done_more m h.events c r) (fits_mine o h.born more grow s (done_by m h.events) p used unborn fixed found c r a owed says hand owes finds own mine.1)) in
      let n = change new (h.events ++ e ∷ []) more (record v { parts = p' ∷ [] }) grow news (legal_more o.core h.events e h.legal (can, tt))
      (rw (now_more e) st)
      (rw (now_more e) (known_more more grow (step s.world m c).0 names))
      (λ entry q. h.queued entry (rw (now_more e) at q))
      (record {
        shares = g.shares;
        opening = λ _. g.opening (acts v p is);
        parts = only_one (λ (q : Part). (h.owner q.number ≡ id) ×
            Fits o more (now o (h.events ++ e ∷ [])) (done_by q.number (h.events ++ e ∷ [])) q × Rests o more new q) p' (mine.0, fits, rests);
        scans = λ yes. let no = is.no_collector in absurd cc;
      })
      (λ j u ne at. let f = h.agrees j u at in record {
        shares = f.shares;
        opening = f.opening;
        parts = λ k q at'.
            let t = f.parts k q at' in
            let apart : q.number ≢ m = λ same. ne (sym t.0 ∙ ap h.owner same ∙ mine.0) in
            (t.0, other_fits m c r mine.1.exists more grow stacks only new st q apart t.1, rest q apart t.2);
        scans = λ yes. let t = f.scans yes in (
          t.0,
          rw (scans_same h.events m c r) (reads_more (IsIn o h.born) (IsIn o more) (grown o h.born more grow) u.scans (scans_in h.events) t.1),
          cc (now_more e, t.2),
        );
      }) in
      (r, n.0, n.1)

  -- no event: one part has other facts about the words
  pub store_law : (new : List ℕ) (p : Part) (used : ℕ) (unborn : List UnbornWord) (fixed : List FixedWord) → IsMutator v p
      → RepresentsInRound o h.born (now o h.events).world new → Rests o h.born new (record p { used = used; unborn = unborn; fixed = fixed }) →
      ((q : Part) → q.number ≢ p.number → Rests o h.born words q → Rests o h.born new q)
      → Stays o words views h new (set views id (record v { parts = record p { used = used; unborn = unborn; fixed = fixed } ∷ [] }))
  store_law new p used unborn fixed is st rests rest =
      let g = h.agrees id v here in
      let mine = g.parts 0 p (ap (λ l. get_elem? l 0) is.alone) in
      let p' : Part = record p { used = used; unborn = unborn; fixed = fixed } in
      let f = mine.1 in
      let fits : Fits o h.born (now o h.events) (done_by p.number h.events) p' = record {
        exists = f.exists;
        owing = f.owing;
        rows = f.rows;
        hand = f.hand;
        found = f.found;
        owed = f.owed;
        own = f.own;
      } in
      change new h.events h.born (record v { parts = p' ∷ [] }) (λ x y. y) h.new h.legal st h.known h.queued
      (record {
        shares = g.shares;
        opening = λ _. g.opening (acts v p is);
        parts = only_one (λ (q : Part). (h.owner q.number ≡ id) × Fits o h.born (now o h.events) (done_by q.number h.events) q ×
            Rests o h.born new q) p' (mine.0, fits, rests);
        scans = λ yes. let no = is.no_collector in absurd cc;
      })
      (λ j u ne at. let t = h.agrees j u at in record {
        shares = t.shares;
        opening = t.opening;
        parts = λ k q at'.
            let w = t.parts k q at' in
            (w.0, w.1, rest q (λ same. ne (sym w.0 ∙ ap h.owner same ∙ mine.0)) w.2);
        scans = t.scans;
      })

  -- no event, and no other word
  pub same_law : (w : Seen) → Agrees o h.born words h.events h.owner h.scanner id w → Stays o words views h words (set views id w)
  same_law w mine = change words h.events h.born w (λ x y. y) h.new h.legal h.stands h.known h.queued mine (λ j u ne at. h.agrees j u at)

  -- a scan doesn't matter to a part
  fits_rest : (s t : State) (done : List (Command × Reply)) (q : Part) → t.world ≡ s.world → t.owed ≡ s.owed → Fits o h.born s done q → Fits o h.born t done q
  fits_rest s t done q world owed f = record {
    exists = rw world f.exists;
    owing = rw owed f.owing;
    rows = f.rows;
    hand = rw world f.hand;
    found = rw owed f.found;
    owed = rw owed f.owed;
    own = rw world f.own;
  }

  -- one more scan
  pub scan_law : (entry : Entry) (rest : List Entry) (w : ℕ) (x : Option Value) → v.collects ≡ true → (now o h.events).queue ≡ entry ∷ rest
      → read_at (node_of (now o h.events).world entry.name) entry.position ≡ x → IsRead (IsIn o h.born) w x → (x ≡ None → 1 ≤ entry.position → w ≡ 0)
      → marks_of (after_scan (now o h.events) (now o h.events).queue) ≡ after_word o (marks_of (now o h.events)) (record { entry = entry; word = w })
      → ((e : Entry) → Contains (after_scan (now o h.events) (now o h.events).queue).queue e → IsQueued o e)
      → AddsScan o words views h entry words (set views id (scanning v (record { entry = entry; word = w })))
  scan_law entry rest w x collects queue reads means unset marks queued =
      let e : Happening = scanned entry x in
      let s : State = now o h.events in
      let t : State = after_scan s s.queue in
      let g = h.agrees id v here in
      let mine = g.scans collects in
      let one : Scan = record { entry = entry; word = w } in
      let kept = rest_scan s s.queue in
      let full : s.queue ≡ [] → ⊥ = λ no. let bad : entry ∷ rest ≡ [] = sym queue ∙ no in cc in
      let fits : (q : Part) → Fits o h.born s (done_by q.number h.events) q →
      Fits o h.born (now o (h.events ++ e ∷ [])) (done_by q.number (h.events ++ e ∷ [])) q =
      λ q f. rw (now_more e) (rw (done_scan q.number h.events entry x) (fits_rest s t (done_by q.number h.events) q kept.world kept.owed f)) in
      let n = change words (h.events ++ e ∷ []) h.born (scanning v one) (λ y hy.
      hy) h.new (legal_more o.core h.events e h.legal ((still_open o.core h.events h.is.not_closed, full), ((rest, queue), reads)))
      (rw (now_more e) (rw kept.world h.stands))
      (rw (now_more e) (rw kept.world h.known))
      (λ k c. queued k (rw (now_more e) at c))
      (record {
        shares = g.shares;
        opening = g.opening;
        parts = λ k q at. let f = g.parts k q at in (f.0, fits q f.1, f.2);
        scans = λ yes. (
          mine.0,
          rw (scans_more h.events entry x) (read_push (IsIn o h.born) v.scans (scans_in h.events) one x mine.1 means unset),
          cc (now_more e, marks, mine.2, folded_more o (marks_of o.core) v.scans one),
        );
      })
      (λ j u ne at. let f = h.agrees j u at in record {
        shares = f.shares;
        opening = f.opening;
        parts = λ k q at'. let r = f.parts k q at' in (r.0, fits q r.1, r.2);
        scans = λ yes. absurd (ne (sym (f.scans yes).0 ∙ mine.0));
      }) in
      (x, n.0, n.1)
