-- A state of the marking machine at a stop with more marks: the facts on the way from a state that could close to the next.
use Rattle.nmgc_weak.proofs.Vocabulary.{◌≡◌, ℕ, Bool, true, false, cond, List, [], ◌∷◌, ◌++◌, refl, sym, ap, subst, ◌∙◌, append-nil, append_assoc, arith, Option, Some, None, inl, inr, Contains, IsSome, is_some, not, ◌&&◌, cond_both, and_parts, not-true, Contains-append_left, Contains-push, Name, IsLive, World, IsWorld, node_of, Facts, State, is_listed, newest_first, joined_queue, with_mark, entry_of, mark_facts, joined_cases, contains_listed, not_listed, Segments, Place, Marks, marks_of, with_name, Object, IsOld, IsOpening, IsQueued, now, CanOpen, HandStands, Opening, Hand, AreDistinct, MarkerSeen, distinct_push, IsReady, HasFinished, IsTied, CanResolve, GoesTo}
use Rattle.nmgc_snapshot_laws.specs.declared.event.Entry.{Entry}
use Rattle.nmgc_weak.proofs.Scans.{MarksMore, scans_mark, scans_facts}

-- the opening with other opened names and other marks
abbrev pub remade : Opening → List Name → Marks → Opening
remade o opened m = record o { core = record o.core { marked = m.marked; queue = m.queue; order = m.order; opened = opened } }

-- with other marks alone
abbrev pub with_marks : Opening → Marks → Opening
with_marks o m = remade o o.core.opened m

-- it is still an opening
old_still : (o : Opening) (opened : List Name) (m : Marks) (x : Object) → IsOld o x → IsOld (remade o opened m) x
old_still o opened m x h = record { there = h.there; tracked = h.tracked; node = h.node }

old_back : (o : Opening) (opened : List Name) (m : Marks) (x : Object) → IsOld (remade o opened m) x → IsOld o x
old_back o opened m x h = record { there = h.there; tracked = h.tracked; node = h.node }

queued_still : (o : Opening) (opened : List Name) (m : Marks) (entry : Entry) → IsQueued o entry → IsQueued (remade o opened m) entry
queued_still o opened m entry h = record {
  marking = h.marking;
  object = h.object;
  here = old_still o opened m h.object h.here;
  name = h.name;
  node = h.node;
  there = h.there;
  within = h.within;
  passed = h.passed;
}

opening_still : (o : Opening) (opened : List Name) (m : Marks) → IsOpening o → IsOpening (remade o opened m)
opening_still o opened m h = record {
  layout = h.layout;
  not_closed = h.not_closed;
  mutators = h.mutators;
  owed = h.owed;
  snapshot = h.snapshot;
  wide = λ marking x old there. h.wide marking x (old_back o opened m x old) there;
  in_segments = h.in_segments;
}

hand_still : (o : Opening) (opened : List Name) (m : Marks) (k : ℕ) (h : Hand) → HandStands o k h → HandStands (remade o opened m) k h
hand_still o opened m k h s = record { registers = s.registers; queue = s.queue; serial = s.serial; stacks = s.stacks }

open_still : (o : Opening) (opened : List Name) (m : Marks) (words : List ℕ) → o.marking ≡ true → CanOpen o words →
    ((entry : Entry) → Contains m.queue entry → IsQueued o entry) → CanOpen (remade o opened m) words
open_still o opened m words marking h q = record {
  is = opening_still o opened m h.is;
  world = h.world;
  unmarked_is = λ no_. absurd (let e : true ≡ false = sym marking ∙ no_ in cc);
  represents = h.represents;
  count = h.count;
  hands = λ k lt. hand_still o opened m k _ (h.hands k lt);
  older = λ x before s e. h.older x before (record { marking = s.marking; wide = s.wide; there = s.there }) e;
  owed = h.owed;
  queued = λ entry c. queued_still o opened m entry (q entry c);
}

-- a marker tied to marks stays tied, whatever names the opening has marked
pub retied : (o : Opening) (opened : List Name) (k m : Marks) (s : Segments) (marker : MarkerSeen) → IsTied o m s marker → IsTied (remade o opened k) m s marker
retied o opened k m s marker h = record {
  snapshot = record { layout = h.snapshot.layout; apart = h.snapshot.apart; sound = h.snapshot.sound; complete = h.snapshot.complete };
  shared = h.shared;
  marks = h.marks;
  order = h.order;
  queue = h.queue;
  count = h.count;
}

pub tied_back : (o : Opening) (opened : List Name) (k m : Marks) (s : Segments) (marker : MarkerSeen) → IsTied (remade o opened k) m s marker →
    IsTied o m s marker
tied_back o opened k m s marker h = record {
  snapshot = record { layout = h.snapshot.layout; apart = h.snapshot.apart; sound = h.snapshot.sound; complete = h.snapshot.complete };
  shared = h.shared;
  marks = h.marks;
  order = h.order;
  queue = h.queue;
  count = h.count;
}

-- the marks so far
pub record Stage (o : Opening) (opened : List Name) (m : Marks) (s : Segments) (marker : MarkerSeen) : Type 0 where
  pub more : List Name
  pub marked : m.marked ≡ o.core.marked ++ more
  pub tied : IsTied o m s marker
  pub facts : Facts (remade o opened m).core
  pub once : AreDistinct m.marked
  pub queued : (entry : Entry) → Contains m.queue entry → IsQueued o entry

-- a name that may be marked: it is live or new, and it has its object if it is in the snapshot
abbrev pub CanMark : Opening → List Name → Option Name → Type 0
CanMark o opened None = Unit {0}
CanMark o opened (Some name) = (IsSome (node_of o.core.snapshot name) → IsLive o.core.snapshot opened name) ×
    (IsSome (node_of o.core.snapshot name) → IsQueued o (entry_of name))

abbrev pub more_marks : Marks → Name → Marks
more_marks m name = record m { marked = m.marked ++ name ∷ []; queue = joined_queue m.order m.queue (entry_of name) }

pub name_cases : (R : Marks → Type 0) (snapshot : World) (m : Marks) (name : Name) →
    ((is_some (node_of snapshot name) && not (is_listed name m.marked)) ≡ true → R (more_marks m name)) →
    ((is_some (node_of snapshot name) && not (is_listed name m.marked)) ≡ false → R m) → R (with_name snapshot m (Some name))
name_cases R snapshot m name new old = cond_both (is_some (node_of snapshot name) && not (is_listed name m.marked)) (more_marks m name) m R new old

pub push_once : (snapshot : World) (m : Marks) (name : Name) → AreDistinct m.marked →
    (is_some (node_of snapshot name) && not (is_listed name m.marked)) ≡ true → AreDistinct (m.marked ++ name ∷ [])
push_once snapshot m name o e =
    distinct_push m.marked name o (not_listed name m.marked (not-true (is_listed name m.marked)
    (and_parts (is_some (node_of snapshot name)) (not (is_listed name m.marked)) e).1))

-- a name is marked
stage_name : (o : Opening) (opened : List Name) (m : Marks) (s t : Segments) (marker later : MarkerSeen) (name : Name) → Stage o opened m s marker →
    CanMark o opened (Some name) → IsTied o (with_name o.core.snapshot m (Some name)) t later → Stage o opened (with_name o.core.snapshot m (Some name)) t later
stage_name o opened m s t marker later name h can tied =
    name_cases (λ k. IsTied o k t later → Stage o opened k t later) o.core.snapshot m name
    (λ e g. record {
      more = h.more ++ name ∷ [];
      marked = ap (λ (l : List Name). l ++ name ∷ []) h.marked ∙ append_assoc o.core.marked h.more (name ∷ []);
      tied = g;
      facts =
          let core = (remade o opened m).core in
          subst Facts (ap (λ (b : Bool). cond b (with_mark core name) core) e) (mark_facts core name h.facts can.0);
      once = push_once o.core.snapshot m name h.once e;
      queued = λ entry c. elim (joined_cases m.order m.queue (entry_of name) entry c) [
        | inl old ↦ h.queued entry old
        | inr same ↦ subst (IsQueued o) same (can.1 (and_parts (is_some (node_of o.core.snapshot name)) (not (is_listed name m.marked)) e).0)
      ];
    })
    (λ e g. record { more = h.more; marked = h.marked; tied = g; facts = h.facts; once = h.once; queued = h.queued })
    tied

pub stage_mark : (o : Opening) (opened : List Name) (m : Marks) (s t : Segments) (marker later : MarkerSeen) (name : Option Name) →
    Stage o opened m s marker → CanMark o opened name → IsTied o (with_name o.core.snapshot m name) t later →
    Stage o opened (with_name o.core.snapshot m name) t later
stage_mark o opened m s t marker later None h can tied = record {
  more = h.more;
  marked = h.marked;
  tied = tied;
  facts = h.facts;
  once = h.once;
  queued = h.queued;
}
stage_mark o opened m s t marker later (Some name) h can tied = stage_name o opened m s t marker later name h can tied

-- a name of the snapshot is marked then, and marked names stay marked
pub marked_there : (snapshot : World) (m : Marks) (name : Name) → IsSome (node_of snapshot name) → Contains (with_name snapshot m (Some name)).marked name
marked_there snapshot m name there = name_cases (λ k. Contains k.marked name) snapshot m name
    (λ e. Contains-push m.marked name)
    (λ e. contains_listed name m.marked (let k : is_some (node_of snapshot name) ≡ true = there in grind (arith, k, e)))

pub marked_still : (snapshot : World) (m : Marks) (name : Option Name) (other : Name) → Contains m.marked other →
    Contains (with_name snapshot m name).marked other
marked_still snapshot m None other c = c
marked_still snapshot m (Some name) other c = name_cases (λ k. Contains k.marked other) snapshot m name (λ e.
    Contains-append_left m.marked (name ∷ []) other c) (λ e. c)

-- the marker is ready to scan
pub stage_ready : (o : Opening) (opened : List Name) (m : Marks) (words : List ℕ) (s : Segments) (marker : MarkerSeen) → o.marking ≡ true →
    CanOpen o words → Stage o opened m s marker → IsReady (remade o opened m) words s marker
stage_ready o opened m words s marker marking opens h = record {
  opens = open_still o opened m words marking opens h.queued;
  tied = retied o opened m m s marker h.tied;
}

-- the stage at the beginning
pub stage_begins : (o : Opening) (words : List ℕ) (s : Segments) (marker : MarkerSeen) (weaks : List Place) → CanResolve o words s marker weaks →
    Stage o o.core.opened (marks_of o.core) s marker
stage_begins o words s marker weaks h = record {
  more = [];
  marked = sym (append-nil o.core.marked);
  tied = h.ready.tied;
  facts = h.facts;
  once = h.once;
  queued = λ entry c. absurd (let e = h.can_close.1 in let d : Contains [] entry = rw e at c in omega (arith, d.1));
}

-- the marks once all was scanned
abbrev pub done_marks : List Name → Marks
done_marks marked = record { marked = marked; queue = []; order = newest_first }

-- all that was queued is scanned
pub record IsDone (o : Opening) (opened : List Name) (m : Marks) (s : Segments) (marker : MarkerSeen) (marked : List Name) : Type 0 where
  pub stage : Stage o opened (done_marks marked) s marker
  pub kept : (name : Name) → Contains m.marked name → Contains marked name

pub stage_done : (o : Opening) (opened : List Name) (m : Marks) (s t : Segments) (marker later : MarkerSeen) → IsWorld o.core.world →
    Stage o opened m s marker → (f : HasFinished (remade o opened m) t later) → IsDone o opened m t later (now (remade o opened m) f.events).marked
stage_done o opened m s t marker later world h f =
    let end : State = now (remade o opened m) f.events in
    let mm : MarksMore (remade o opened m).core end = scans_mark (remade o opened m).core f.events f.scans in
    let facts : Facts end = scans_facts (remade o opened m).core f.events f.scans h.facts world in
    let marks : marks_of end ≡ done_marks end.marked = λ i. record { marked = end.marked; queue = (f.rest i).queue; order = f.tied.order i } in
    record {
      stage = record {
        more = h.more ++ mm.more;
        marked = mm.marked ∙ ap (λ (l : List Name). l ++ mm.more) h.marked ∙ append_assoc o.core.marked h.more mm.more;
        tied = subst (λ (k : Marks). IsTied o k t later) marks (tied_back o opened m (marks_of end) t later f.tied);
        facts = subst Facts (f.rest ∙ (λ i. record (remade o opened m).core { marked = end.marked; queue = []; order = h.tied.order i })) facts;
        once = mm.once h.once;
        queued = λ entry c. absurd (omega (arith, c.1));
      };
      kept = λ name c. subst (λ (l : List Name). Contains l name) (sym mm.marked) (Contains-append_left m.marked mm.more name c);
    }

-- and the state may close again
pub done_goes : (o : Opening) (words : List ℕ) (s t : Segments) (marker later : MarkerSeen) (weaks : List Place) (marked : List Name) →
    CanResolve o words s marker weaks → Stage o o.core.opened (done_marks marked) t later → GoesTo o (with_marks o (done_marks marked)) words t later weaks
done_goes o words s t marker later weaks marked can h =
    let c = can.can_close in
    record {
      later = record {
        more = h.more;
        marked = h.marked;
        rest = λ i. record o { core = record o.core { marked = marked; queue = sym c.1 i; order = sym can.ready.tied.order i } };
      };
      can = record {
        ready = stage_ready o o.core.opened (done_marks marked) words t later can.marking can.ready.opens h;
        marking = can.marking;
        facts = h.facts;
        once = h.once;
        gone = can.gone;
        can_close = (c.0, refl, c.2, c.3);
        earlier_are = can.earlier_are;
        listed = can.listed;
      };
    }
