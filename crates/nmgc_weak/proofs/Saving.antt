-- The finalisers of the dying are marked, with all reachable from them: then the machine has closed, except for the words.
use Rattle.nmgc_weak.proofs.Vocabulary.{◌≡◌, ◌<◌, ◌+◌, ℕ, Bool, true, cond, List, [], ◌∷◌, ◌++◌, length, refl, sym, ap, subst, ◌∙◌, append_assoc, ◌≤◌, arith, Option, Some, None, inl, inr, Contains, IsSome, slice_get, slice_index, cases_lt, Contains-append_left, Contains-push_cases, Name, Value, Weak, Parts, node_of, IsAlive, IsKept, IsDead, Lists, RefersTo, closed, contains_head, contains_tail, contains_cases, get_is_some, contains_at, weak_maker, not_shared, InSegment, IsWaiting, Facts, State, entry_of, with_mark, mark_name, joined_cases, part_there, Segments, Place, Means, Marks, marks_of, name_meant, with_name, IsQueued, now, Opening, MarkerSeen, IsReady, HasFinished, IsTied, AreQueued, OldWeak, CanResolve, IsLost, CanRescue, HasRescued, place_at, places_of, names_of, finaliser_place, one_parts, of_place}
use Rattle.nmgc_lists.specs.laws.Items.{place_of}
use Rattle.nmgc_snapshot_laws.specs.declared.event.Entry.{Entry}
use Rattle.nmgc_world_spec.specs.declared.value.Value.TheVariants as value
use Rattle.nmgc_weak.proofs.{Parts.ref_in, Parts.meant, Parts.has_parts, Parts.of_weak_tracked, Parts.may_queue, Stages.remade, Stages.done_marks, Stages.name_cases, Stages.push_once, Stages.marked_there, Stages.marked_still, Stages.Stage, Stages.stage_mark, Stages.stage_ready, Stages.stage_begins, Stages.IsDone, Stages.stage_done, Opens.opened_facts, Clean.scans_clean, Clean.clean_from, Closing.live_marked, Closing.field_marked, Closing.lost_dead, Closing.dead_lost, Closing.closes}

-- lists of weak pointers by their names
pub name_of_place : (list : List OldWeak) (name : Name) → Contains (names_of list) name → (p : Place) × Contains (places_of list) p × (p.name ≡ name)
name_of_place [] name c = absurd (omega (arith, c.1))
name_of_place (w ∷ ws) name c = elim (contains_cases w.weak (names_of ws) name c) [
  | inl e ↦ (place_at w, contains_head (place_at w) (places_of ws), e)
  | inr d ↦ let r = name_of_place ws name d in (r.0, contains_tail (place_at w) (places_of ws) r.0 r.1, r.2)
]

pub place_has_name : (list : List OldWeak) (p : Place) → Contains (places_of list) p → Contains (names_of list) p.name
place_has_name [] p c = absurd (omega (arith, c.1))
place_has_name (w ∷ ws) p c = elim (contains_cases (place_at w) (places_of ws) p c) [
  | inl e ↦ subst (λ (q : Place). Contains (names_of (w ∷ ws)) q.name) e (contains_head w.weak (names_of ws))
  | inr d ↦ contains_tail w.weak (names_of ws) p.name (place_has_name ws p d)
]

pub has_place : (list : List OldWeak) (w : OldWeak) → Contains list w → Contains (places_of list) (place_at w)
has_place [] w c = absurd (omega (arith, c.1))
has_place (x ∷ xs) w c = elim (contains_cases x xs w c) [
  | inl e ↦ subst (λ (y : OldWeak). Contains (places_of (x ∷ xs)) (place_at y)) e (contains_head (place_at x) (places_of xs))
  | inr d ↦ contains_tail (place_at x) (places_of xs) (place_at w) (has_place xs w d)
]

-- a weak pointer that waits is in the list, since it has its address
pub listed_place : (o : Opening) (words : List ℕ) (s : Segments) (marker : MarkerSeen) (weaks : List Place) → CanResolve o words s marker weaks →
    (weak : Name) (parts : Parts) → IsWaiting o.core weak parts → (p : Place) × Contains weaks p × (p.name ≡ weak)
listed_place o words s marker weaks h weak parts waiting =
    let alive : IsAlive o.core.world weak parts = h.facts.base.alive weak parts waiting.alive waiting.not_finalised in
    let opens = h.ready.opens in
    let placed = opens.represents.tracked weak (Weak (Some parts)) (of_weak_tracked o weak weak parts alive (inl refl)) alive in
    let p : Place = record { at = placed.at; name = weak } in
    let named = opens.represents.named p placed.there in
    let maker = weak_maker o.core.world opens.world weak (parts, alive) in
    let in_segment : (segment : ℕ) × InSegment o.layout segment placed.at = elim named.lies [
      | inl g ↦ absurd (not_shared o.core.world weak.maker opens.world maker g.0)
      | inr other ↦ elim other.1 [
        | inl segment ↦ (segment.0, segment.1 placed.at (omega arith) (omega arith))
        | inr nursery ↦
            let lies = nursery.1 placed.at (omega arith) (omega arith) in
            let from = lies.from in
            let before = lies.before in
            elim (opens.is.in_segments p placed.there weak.maker lies.exists) [
              | inl low ↦ absurd (omega arith)
              | inr high ↦ absurd (omega arith)
            ]
      ]
    ] in
    (p, h.listed.complete p (placed.there, (parts, alive), in_segment), refl)

-- no position of a waiting name was read
fresh : (places : List Place) (ats : List ℕ) (entries : List Entry) → AreQueued places ats entries → (entry : Entry) → Contains entries entry →
    entry.position ≤ 1
fresh places [] [] q entry c = absurd (omega (arith, c.1))
fresh places (at ∷ ats) (e ∷ es) q entry c = elim (contains_cases e es entry c) [
  | inl same ↦ subst (λ (x : Entry). x.position ≤ 1) same (let z = q.0.1 in omega arith)
  | inr d ↦ fresh places ats es q.1 entry d
]
fresh places [] (e ∷ es) q entry c = absurd q
fresh places (at ∷ ats) [] q entry c = absurd q

module _ (o : Opening) (words : List ℕ) (s0 : Segments) (marker0 : MarkerSeen) (weaks : List Place) (dying : List OldWeak)
    (h : CanRescue o words s0 marker0 weaks dying) where
  abbrev f : Facts o.core
  f = h.can.facts

  abbrev empty : o.core.queue ≡ []
  empty = h.can.can_close.1

  -- the state so far: all marked names are kept, and the finalisers of the first `count` are marked
  pub record IsSaving (s : Segments) (marker : MarkerSeen) (count : ℕ) : Type 0 where
    pub opened : List Name
    pub m : Marks
    pub stage : Stage o opened m s marker
    pub sound : (name : Name) → Contains m.marked name → IsKept o.core.snapshot o.core.opened o.core.finalised name
    pub saved : (j : ℕ) (w : OldWeak) → j < count → slice_get dying j ≡ Some w → (parts : Parts) → IsAlive o.core.world w.weak parts →
        (target : Name) → parts.finaliser ≡ value.Ref target → Contains m.marked target

  pub saving_begins : IsSaving s0 marker0 0
  saving_begins = record {
    opened = o.core.opened;
    m = marks_of o.core;
    stage = stage_begins o words s0 marker0 weaks h.can;
    sound = λ name c. IsKept.live name (f.base.live name c);
    saved = λ j w lt e parts alive target is. absurd (omega arith);
  }

  -- the weak pointer is lost, and dead
  dead_of : (w : OldWeak) → Contains dying w → IsDead o.core.snapshot o.core.opened o.core.finalised w.weak
  dead_of w c = lost_dead o.core f empty h.can.can_close.2 h.can.can_close.3 h.saturated w.weak (h.lost.sound (place_at w) (has_place dying w c)).1

  -- its finaliser is opened and marked
  open_stage : (s t : Segments) (k l : MarkerSeen) (opened : List Name) (m : Marks) (target : Name) → Stage o opened m s k →
      IsSome (node_of o.core.snapshot target) → IsQueued o (entry_of target) → IsTied o (with_name o.core.snapshot m (Some target)) t l →
      Stage o (opened ++ target ∷ []) (with_name o.core.snapshot m (Some target)) t l
  open_stage s t k l opened m target st there may tied =
      let core : State = (remade o (opened ++ target ∷ []) m).core in
      let facts : Facts (mark_name core target) = opened_facts (remade o opened m).core st.facts target there in
      name_cases (λ x. IsTied o x t l → Stage o (opened ++ target ∷ []) x t l) o.core.snapshot m target
      (λ e g. record {
        more = st.more ++ target ∷ [];
        marked = ap (λ (x : List Name). x ++ target ∷ []) st.marked ∙ append_assoc o.core.marked st.more (target ∷ []);
        tied = g;
        facts = subst Facts (ap (λ (b : Bool). cond b (with_mark core target) core) e) facts;
        once = push_once o.core.snapshot m target st.once e;
        queued = λ entry c. elim (joined_cases m.order m.queue (entry_of target) entry c) [
          | inl old ↦ st.queued entry old
          | inr same ↦ subst (IsQueued o) same may
        ];
      })
      (λ e g. record {
        more = st.more;
        marked = st.marked;
        tied = g;
        facts = subst Facts (ap (λ (b : Bool). cond b (with_mark core target) core) e) facts;
        once = st.once;
        queued = st.queued;
      })
      tied

  saved_more : (m x : Marks) (count : ℕ) (w : OldWeak) → ((name : Name) → Contains m.marked name → Contains x.marked name) →
      slice_get dying count ≡ Some w → ((parts : Parts) → IsAlive o.core.world w.weak parts → (target : Name) → parts.finaliser ≡ value.Ref target →
      Contains x.marked target)
      → ((j : ℕ) (v : OldWeak) → j < count → slice_get dying j ≡ Some v → (parts : Parts) → IsAlive o.core.world v.weak parts → (target : Name) →
      parts.finaliser ≡ value.Ref target → Contains m.marked target)
      → (j : ℕ) (v : OldWeak) → j < count + 1 → slice_get dying j ≡ Some v → (parts : Parts) → IsAlive o.core.world v.weak parts → (target : Name) →
      parts.finaliser ≡ value.Ref target → Contains x.marked target
  saved_more m x count w keeps is this before j v lt e parts alive target fin = elim (cases_lt j count) [
    | inl less ↦ keeps target (before j v less e parts alive target fin)
    | inr same ↦
        let at : j ≡ count = omega arith in
        let both : Some v ≡ Some w = sym e ∙ ap (λ (i : ℕ). slice_get dying i) at ∙ is in
        let eq : v ≡ w = cc in
        this parts (subst (λ (y : OldWeak). IsAlive o.core.world y.weak parts) eq alive) target fin
  ]

  pub saving_more : (s t : Segments) (k l : MarkerSeen) (count : ℕ) (w : OldWeak) (word : ℕ) → IsSaving s k count → slice_get dying count ≡ Some w →
      word ≡ slice_index words (finaliser_place w.at.0) → ((m : Marks) → IsTied o m s k →
      IsTied o (with_name o.core.snapshot m (name_meant o.places word)) t l) → IsSaving t l (count + 1)
  saving_more s t k l count w word b is word_is mark =
      let c : Contains dying w = contains_at dying count w is in
      let dead = dead_of w c in
      let alive : IsAlive o.core.world w.weak dead.parts = f.base.alive w.weak dead.parts dead.alive dead.not_finalised in
      let listed = (h.can.listed.sound (place_at w) (h.lost.sound (place_at w) (has_place dying w c)).0).0 in
      let means : Means (Contains o.places) word dead.parts.finaliser =
      rw word_is (has_parts o words w.at.0 w.weak dead.parts h.can.ready.opens listed alive).finaliser in
      let tied = rw (meant o word dead.parts.finaliser h.can.ready.tied.snapshot.apart means) at (mark b.m b.stage.tied) in
      by_value dead alive dead.parts.finaliser refl tied
    where
      only : (dead : IsDead o.core.snapshot o.core.opened o.core.finalised w.weak) → IsAlive o.core.world w.weak dead.parts → (parts : Parts) →
          IsAlive o.core.world w.weak parts → dead.parts ≡ parts
      only dead alive parts a = one_parts o.core.world w.weak dead.parts parts alive a

      plain : (dead : IsDead o.core.snapshot o.core.opened o.core.finalised w.weak) → IsAlive o.core.world w.weak dead.parts →
          ((target : Name) → dead.parts.finaliser ≡ value.Ref target → ⊥) → IsTied o b.m t l → IsSaving t l (count + 1)
      plain dead alive none tied = record {
        opened = b.opened;
        m = b.m;
        stage = stage_mark o b.opened b.m s t k l None b.stage tt tied;
        sound = b.sound;
        saved = saved_more b.m b.m count w (λ name c. c) is (λ parts a target e.
            absurd (none target (cc (only dead alive parts a, e)))) b.saved;
      }

      by_value : (dead : IsDead o.core.snapshot o.core.opened o.core.finalised w.weak) → IsAlive o.core.world w.weak dead.parts → (v : Value) →
          dead.parts.finaliser ≡ v → IsTied o (with_name o.core.snapshot b.m (ref_in v)) t l → IsSaving t l (count + 1)
      by_value dead alive value.Nil e tied = plain dead alive (λ target x. let bad : value.Nil ≡ value.Ref target = sym e ∙ x in cc) tied
      by_value dead alive (value.Number n) e tied = plain dead alive (λ target x. let bad : value.Number n ≡ value.Ref target = sym e ∙ x in cc) tied
      by_value dead alive (value.Ref target) e tied =
          let there : IsSome (node_of o.core.snapshot target) = part_there o.core.snapshot f.base.snapshot w.weak target dead.parts dead.alive (inr (inr e)) in
          let may : IsQueued o (entry_of target) =
          may_queue o words target h.can.marking h.can.ready.opens h.can.earlier_are
          (of_weak_tracked o w.weak target dead.parts alive (inr (inr (inr e)))) there in
          let x : Marks = with_name o.core.snapshot b.m (Some target) in
          record {
            opened = b.opened ++ target ∷ [];
            m = with_name o.core.snapshot b.m (Some target);
            stage = open_stage s t k l b.opened b.m target b.stage there may tied;
            sound = name_cases (λ y. (name : Name) → Contains y.marked name →
                IsKept o.core.snapshot o.core.opened o.core.finalised name) o.core.snapshot b.m target
                (λ _ name c. elim (Contains-push_cases b.m.marked target name c) [
                  | inl old ↦ b.sound name old
                  | inr same ↦ subst (λ (n : Name). IsKept o.core.snapshot o.core.opened o.core.finalised n) same (IsKept.finaliser w.weak target dead e)
                ])
                (λ _. b.sound);
            saved = saved_more b.m (with_name o.core.snapshot b.m (Some target)) count w (λ name c. marked_still o.core.snapshot b.m (Some target) name c) is
                (λ parts a other fin.
                let eq : value.Ref target ≡ value.Ref other = sym e ∙ ap (λ (p : Parts). p.finaliser) (only dead alive parts a) ∙ fin in
                let same : target ≡ other = cc in
                subst (λ (n : Name). Contains (with_name o.core.snapshot b.m (Some target)).marked n) same (marked_there o.core.snapshot b.m target there))
                b.saved;
          }

  -- the fact that strong fields of the world hand on
  hands_on : (name target : Name) → IsKept o.core.snapshot o.core.opened o.core.finalised name → RefersTo o.core.world name target →
      IsSome (node_of o.core.snapshot target) → IsKept o.core.snapshot o.core.opened o.core.finalised target
  hands_on name target k r there = elim (f.base.fields name target r) [
    | inl may ↦ IsKept.live target (may there)
    | inr old ↦ IsKept.field name target k old
  ]

  dead_lists : Lists (IsDead o.core.snapshot o.core.opened o.core.finalised) (names_of dying)
  dead_lists =
      let cc_ = h.can.can_close in
      record {
        ordered = h.lost.ordered;
        sound = λ name c. let p = name_of_place dying name c in
            rw p.2 at (lost_dead o.core f empty cc_.2 cc_.3 h.saturated p.0.name (h.lost.sound p.0 p.1).1);
        complete = λ name d. listed_dead name d;
      }
    where
      listed_dead : (name : Name) → IsDead o.core.snapshot o.core.opened o.core.finalised name → Contains (names_of dying) name
      listed_dead name d =
          let lost : IsLost o.core name = dead_lost o.core f empty h.can.can_close.2 h.can.can_close.3 h.saturated name d in
          let p = listed_place o words s0 marker0 weaks h.can name lost.parts lost.waiting in
          let c = h.lost.complete p.0 p.1 (subst (IsLost o.core) (sym p.2) lost) in
          subst (λ (n : Name). Contains (names_of dying) n) p.2 (place_has_name dying p.0 c)

  pub saving_done : (s t : Segments) (k l : MarkerSeen) → IsSaving s k (length dying) → ((p : Opening) → IsReady p words s k → HasFinished p t l) →
      HasRescued o t l dying
  saving_done s t k l b fin =
      let ready = stage_ready o b.opened b.m words s k h.can.marking h.can.ready.opens b.stage in
      let x : HasFinished (remade o b.opened b.m) t l = fin (remade o b.opened b.m) ready in
      let end : State = now (remade o b.opened b.m) x.events in
      let done = stage_done o b.opened b.m s t k l h.can.ready.opens.world b.stage x in
      let clean = clean_from (λ name.
      IsKept o.core.snapshot o.core.opened o.core.finalised name) o.core.world o.core.snapshot hands_on (remade o b.opened b.m).core refl refl
      b.sound (queued_clean b) in
      let ends = scans_clean (λ name.
      IsKept o.core.snapshot o.core.opened o.core.finalised name) o.core.world o.core.snapshot hands_on (remade o b.opened b.m).core x.events
      x.scans clean in
      let sound : (name : Name) → Contains end.marked name → IsKept o.core.snapshot o.core.opened o.core.finalised name = λ name c. ends.marked name c in
      let closing = closes o.core f empty h.can.can_close.2 h.can.can_close.3 (names_of dying) end.marked dead_lists (λ name. (
        sound name,
        all_kept b end.marked done name,
      )) in
      record {
        next = record o.core { world = closed o.core.world (names_of dying); marked = end.marked; is_closed = true };
        closing = closing.0;
        dead = closing.1;
        once = done.stage.once;
        tied = subst (λ (k : Marks). IsTied o k t l) (λ i. record { marked = end.marked; queue = sym empty i; order = sym h.can.ready.tied.order i }) done.stage.tied;
      }
    where
      queued_clean : (b : IsSaving s k (length dying)) → (entry : Entry) → Contains b.m.queue entry →
          IsKept o.core.snapshot o.core.opened o.core.finalised entry.name × (entry.position ≤ 1)
      queued_clean b entry c = (b.sound entry.name (b.stage.facts.base.queued entry c), fresh o.places k.queue b.m.queue b.stage.tied.queue entry c)

      all_kept : (b : IsSaving s k (length dying)) (marked : List Name) → IsDone o b.opened b.m t l marked → (name : Name) →
          IsKept o.core.snapshot o.core.opened o.core.finalised name → Contains marked name
      all_kept b marked done name (IsKept.live n live) =
          let c : Contains o.core.marked n = live_marked o.core f empty h.can.can_close.2 h.can.can_close.3 h.saturated n live in
          subst (λ (x : List Name). Contains x n) (sym done.stage.marked) (Contains-append_left o.core.marked done.stage.more n c)
      all_kept b marked done name (IsKept.finaliser weak target dead e) =
          let c = dead_lists.complete weak dead in
          let p = name_of_place dying weak c in
          let w = of_place dying p.0 p.1 in
          let j = place_of dying w.0 w.1 in
          let lt : j.0 < length dying = get_is_some dying j.0 (subst (λ (x : Option OldWeak). IsSome x) (sym j.1) refl) in
          let alive : IsAlive o.core.world weak dead.parts = f.base.alive weak dead.parts dead.alive dead.not_finalised in
          let same : w.0.weak ≡ weak = ap (λ (q : Place). q.name) w.2 ∙ p.2 in
          done.kept target (b.saved j.0 w.0 lt j.1 dead.parts (subst (λ (n : Name). IsAlive o.core.world n dead.parts) (sym same) alive) target e)
      all_kept b marked done name (IsKept.field n target kept r) =
          field_marked (remade o b.opened (done_marks marked)).core done.stage.facts refl h.can.can_close.2 h.can.can_close.3 n target
          (all_kept b marked done n kept) r
