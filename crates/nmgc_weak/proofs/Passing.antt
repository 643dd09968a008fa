-- A pass over the list, and that nothing is left to keep after a pass that marks nothing.
use Rattle.nmgc_weak.proofs.Vocabulary.{◌≡◌, ◌+◌, ◌<◌, ℕ, zero, suc, List, [], ◌∷◌, ◌++◌, length, take, get_or, refl, sym, ap, subst, ◌∙◌, append-nil, append_assoc, length-append, arith, inl, inr, ◌⊎◌, Contains, IsSome, slice_index, Contains-append_left, Contains-push_cases, Name, Value, Parts, node_of, IsAlive, IsKeptBy, contains_head, one_is, IsWaiting, IsEpoch, Segments, IsSnapshotAt, Place, Opening, MarkerSeen, HasRoomToMark, HasMarked, marked_none, OldWeak, CanResolve, IsKeyMarked, IsKeyMarkedWord, IsLostAt, IsLost, MarksOn, GoesTo, GoesOn, CanKeep, HasKept, HasPassed, HasRevived, place_of, places_of, names_of, key_place, one_parts}
use Rattle.nmgc_world_spec.specs.declared.value.Value.TheVariants as value
use Rattle.nmgc_weak.proofs.{Showing.snapshot_is, Showing.snapshot_back, Showing.lost_is, Showing.shown_is, Counting.marked_sum, Saving.listed_place, Saving.place_has_name}

-- the same opening with more marks
abbrev marking : Opening → List Name → Opening
marking o marked = record o { core = record o.core { marked = marked } }

same_marks : (o : Opening) → MarksOn o o
same_marks o = record { more = []; marked = sym (append-nil o.core.marked); rest = refl }

pub then_marks : (o p q : Opening) → MarksOn o p → MarksOn p q → MarksOn o q
then_marks o p q a b = record {
  more = a.more ++ b.more;
  marked = b.marked ∙ ap (λ (l : List Name). l ++ b.more) a.marked ∙ append_assoc o.core.marked a.more b.more;
  rest = b.rest ∙ ap (λ (x : Opening). let y : Opening = record x { core = record x.core { marked = q.core.marked } } in y) a.rest;
}

pub still_marked : (o p : Opening) → MarksOn o p → (name : Name) → Contains o.core.marked name → Contains p.core.marked name
still_marked o p m name c = subst (λ (l : List Name). Contains l name) (sym m.marked) (Contains-append_left o.core.marked m.more name c)

still_shown : (o p : Opening) → MarksOn o p → (v : Value) → IsKeyMarked o.core.marked v → IsKeyMarked p.core.marked v
still_shown o p m value.Nil h = tt
still_shown o p m (value.Number n) h = tt
still_shown o p m (value.Ref name) h = still_marked o p m name h

-- the same weak pointers wait and are alive there
pub waiting_on : (o p : Opening) → MarksOn o p → (weak : Name) (parts : Parts) → IsWaiting o.core weak parts → IsWaiting p.core weak parts
waiting_on o p m weak parts h =
    let back : o.core.snapshot ≡ p.core.snapshot = sym (ap (λ (x : Opening). x.core.snapshot) m.rest) in
    let fin : o.core.finalised ≡ p.core.finalised = sym (ap (λ (x : Opening). x.core.finalised) m.rest) in
    record {
      alive = subst (λ w. IsAlive w weak parts) back h.alive;
      not_finalised = λ c. h.not_finalised (subst (λ (l : List Name). Contains l weak) (sym fin) c);
    }

pub waiting_back : (o p : Opening) → MarksOn o p → (weak : Name) (parts : Parts) → IsWaiting p.core weak parts → IsWaiting o.core weak parts
waiting_back o p m weak parts h =
    let back : p.core.snapshot ≡ o.core.snapshot = ap (λ (x : Opening). x.core.snapshot) m.rest in
    let fin : p.core.finalised ≡ o.core.finalised = ap (λ (x : Opening). x.core.finalised) m.rest in
    record {
      alive = subst (λ w. IsAlive w weak parts) back h.alive;
      not_finalised = λ c. h.not_finalised (subst (λ (l : List Name). Contains l weak) (sym fin) c);
    }

pub then_goes : (o p q : Opening) (words : List ℕ) (s t : Segments) (k l : MarkerSeen) (weaks : List Place) → GoesTo o p words s k weaks →
    GoesTo p q words t l weaks → GoesTo o q words t l weaks
then_goes o p q words s t k l weaks a b = record { later = then_marks o p q a.later b.later; can = b.can }

pub stays : (o : Opening) (words : List ℕ) (s : Segments) (k : MarkerSeen) (weaks : List Place) → CanResolve o words s k weaks → GoesTo o o words s k weaks
stays o words s k weaks h = record { later = same_marks o; can = h }

-- a weak pointer of the snapshot whose key word shows a marked key
pub can_keep : (o : Opening) (words : List ℕ) (s : Segments) (k : MarkerSeen) (weaks : List Place) (weak : OldWeak) → CanResolve o words s k weaks →
    Contains weaks (place_of weak) → IsEpoch k.epoch → IsSnapshotAt s weak.at.0 →
    IsKeyMarkedWord s k.epoch (slice_index words (key_place weak.at.0)) → CanKeep o words s k weaks weak.at.0 weak.weak
can_keep o words s k weaks weak h c epoch snap shown = record {
  can = h;
  listed = c;
  known = (snapshot_is o words s k weaks h epoch weak.at.0 weak.weak c).0 snap;
  key_marked = λ parts alive. shown_is o words s k weaks h epoch weak.at.0 weak.weak c snap shown parts alive;
}

-- it has kept its parts
pub one_kept : (o : Opening) (words : List ℕ) (t : Segments) (l : MarkerSeen) (weaks : List Place) (weak : Name) (s : Segments) (k : MarkerSeen) →
    CanResolve o words s k weaks → HasKept o words t l weaks weak → HasPassed o words t l weaks (weak ∷ [])
one_kept o words t l weaks weak s k can h = record {
  next = h.next;
  goes = h.goes;
  kept = λ name target parts c waiting shown kept.
      let same : weak ≡ name = one_is weak name c in
      let w : IsWaiting o.core weak parts = subst (λ (n : Name). IsWaiting o.core n parts) (sym same) waiting in
      h.kept target parts (can.facts.base.alive weak parts w.alive w.not_finalised) (subst (λ (n : Name). IsKeptBy n parts target) (sym same) kept);
}

-- a weak pointer that isn't in the snapshot, or is lost, keeps nothing
pub none_kept : (o : Opening) (words : List ℕ) (s : Segments) (k : MarkerSeen) (weaks : List Place) (weak : OldWeak) →
    CanResolve o words s k weaks → Contains weaks (place_of weak) →
    (IsEpoch k.epoch × IsLostAt s k.epoch weak.at.0 (slice_index words (key_place weak.at.0))) ⊎ (IsSnapshotAt s weak.at.0 → ⊥) →
    HasPassed o words s k weaks (weak.weak ∷ [])
none_kept o words s k weaks weak h c why = record {
  next = o;
  goes = stays o words s k weaks h;
  kept = λ name target parts d waiting shown kept.
      let same : weak.weak ≡ name = one_is weak.weak name d in
      let w : IsWaiting o.core weak.weak parts = subst (λ (n : Name). IsWaiting o.core n parts) (sym same) waiting in
      absurd (none parts w shown);
}
  where
    there : (parts : Parts) → IsWaiting o.core weak.weak parts → IsSome (node_of o.core.snapshot weak.weak)
    there parts w = subst (λ x. IsSome x) (sym w.alive) refl

    snap_of : (parts : Parts) → IsWaiting o.core weak.weak parts → IsSnapshotAt s weak.at.0
    snap_of parts w = snapshot_back o words s k weaks h weak.at.0 weak.weak c (there parts w)

    none : (parts : Parts) → IsWaiting o.core weak.weak parts → IsKeyMarked o.core.marked parts.key → ⊥
    none parts w shown = elim why [
      | inl lost ↦
          let l : IsLost o.core weak.weak = (lost_is o words s k weaks h lost.0 weak.at.0 weak.weak c).0 lost.1 in
          let a : IsAlive o.core.snapshot weak.weak l.parts = l.waiting.alive in
          let same : l.parts ≡ parts = one_parts o.core.snapshot weak.weak l.parts parts a w.alive in
          l.lost (subst (λ (p : Parts). IsKeyMarked o.core.marked p.key) (sym same) shown)
      | inr out ↦ out (snap_of parts w)
    ]

-- two steps of a pass
pub pass_more : (o : Opening) (words : List ℕ) (s t : Segments) (k l : MarkerSeen) (weaks : List Place) (passed : List Name) (weak : Name) →
    (p : HasPassed o words s k weaks passed) → HasPassed p.next words t l weaks (weak ∷ []) → HasPassed o words t l weaks (passed ++ weak ∷ [])
pass_more o words s t k l weaks passed weak p q = record {
  next = q.next;
  goes = then_goes o p.next q.next words s t k l weaks p.goes q.goes;
  kept = λ name target parts c waiting shown kept. elim (Contains-push_cases passed weak name c) [
    | inl old ↦ still_marked p.next q.next q.goes.later target (p.kept name target parts old waiting shown kept)
    | inr same ↦ q.kept name target parts (subst (λ (n : Name).
        Contains (weak ∷ []) n) same (contains_head weak [])) (waiting_on o p.next p.goes.later name parts waiting)
        (still_shown o p.next p.goes.later parts.key shown) kept
  ];
}

pub pass_none : (o : Opening) (words : List ℕ) (s : Segments) (k : MarkerSeen) (weaks : List Place) → CanResolve o words s k weaks →
    HasPassed o words s k weaks []
pass_none o words s k weaks h = record {
  next = o;
  goes = stays o words s k weaks h;
  kept = λ name target parts c waiting shown kept. absurd (omega (arith, c.1));
}

-- the names with the next one
pub names_more : (list : List OldWeak) (i : ℕ) (d : OldWeak) → i < length list →
    names_of (take (i + 1) list) ≡ names_of (take i list) ++ (get_or list i d).weak ∷ []
names_more [] i d lt = absurd (omega arith)
names_more (x ∷ xs) zero d lt = refl
names_more (x ∷ xs) (suc i) d lt =
    let z : suc i + 1 ≡ suc (i + 1) = omega arith in
    ap (λ n. names_of (take n (x ∷ xs))) z ∙ ap (λ (l : List Name). x.weak ∷ l) (names_more xs i d (omega arith))

-- a pass that marked nothing
no_more : {A : Type 0} (xs ys : List A) → length (xs ++ ys) ≡ length xs → ys ≡ []
no_more xs [] e = refl
no_more xs (y ∷ ys) e = let l = length-append xs (y ∷ ys) in absurd (omega arith)

pub saturated : (o : Opening) (words : List ℕ) (s t : Segments) (k l : MarkerSeen) (list : List OldWeak) → CanResolve o words s k (places_of list) →
    l.marked ≡ k.marked → HasPassed o words t l (places_of list) (names_of list) → HasRevived o words t l (places_of list)
saturated o words s t k l list h count p =
    let n : Opening = p.next in
    let a = h.ready.tied.count in
    let b = p.goes.can.ready.tied.count in
    let same_length : length n.core.marked ≡ length o.core.marked = omega arith in
    let nothing : p.goes.later.more ≡ [] = no_more o.core.marked p.goes.later.more (sym (ap length p.goes.later.marked) ∙ same_length) in
    let same : n.core.marked ≡ o.core.marked = p.goes.later.marked ∙ ap (λ (m : List Name). o.core.marked ++ m) nothing ∙ append-nil o.core.marked in
    record {
      next = n;
      goes = p.goes;
      saturated = λ weak target parts waiting shown kept.
          let before : IsWaiting o.core weak parts = waiting_back o n p.goes.later weak parts waiting in
          let place = listed_place o words s k (places_of list) h weak parts before in
          let c : Contains (names_of list) weak = subst (λ (x : Name). Contains (names_of list) x) place.2 (place_has_name list place.0 place.1) in
          p.kept weak target parts c before (subst (λ (m : List Name). IsKeyMarked m parts.key) same shown) kept;
    }

-- from a round of passes to the next
pub revived_then : (o p : Opening) (words : List ℕ) (s t : Segments) (k l : MarkerSeen) (weaks : List Place) → GoesTo o p words s k weaks →
    HasRevived p words t l weaks → HasRevived o words t l weaks
revived_then o p words s t k l weaks a b = record { next = b.next; goes = then_goes o p b.next words s t k l weaks a b.goes; saturated = b.saturated }

-- a step that leaves each state is a step on, and so are two steps
pub goes_nowhere : (words : List ℕ) (s : Segments) (k : MarkerSeen) (weaks : List Place) → GoesOn words s s k k weaks
goes_nowhere words s k weaks = λ o h. (o, stays o words s k weaks h)

pub goes_then : (words : List ℕ) (s t u : Segments) (k l m : MarkerSeen) (weaks : List Place) → GoesOn words s t k l weaks →
    GoesOn words t u l m weaks → GoesOn words s u k m weaks
goes_then words s t u k l m weaks a b = λ o h.
    let p = a o h in
    let q = b p.0 p.1.can in
    (q.0, then_goes o p.0 q.0 words t u l m weaks p.1 q.1)

-- some that have kept their parts
pub passed_on : (words : List ℕ) (s t : Segments) (k l : MarkerSeen) (weaks : List Place) (names : List Name) →
    ((o : Opening) → CanResolve o words s k weaks → HasPassed o words t l weaks names) → GoesOn words s t k l weaks
passed_on words s t k l weaks names p = λ o h. let q = p o h in (q.next, q.goes)

-- the effect of steps that keep more: the words are the first words, and each state that could be resolved still can
pub record HasGone (first now : List ℕ) (s t : Segments) (k l : MarkerSeen) (weaks : List Place) : Type 0 where
  pub words : now ≡ first
  pub marked : (count : ℕ) × HasMarked s t k l count
  pub turns : l.turns ≡ k.turns
  pub goes : GoesOn first s t k l weaks

pub gone_none : (first now : List ℕ) (s : Segments) (k : MarkerSeen) (weaks : List Place) → now ≡ first → HasRoomToMark s k →
    HasGone first now s s k k weaks
gone_none first now s k weaks same room = record {
  words = same;
  marked = (0, marked_none s k room);
  turns = refl;
  goes = goes_nowhere first s k weaks;
}

pub gone_more : (first now new : List ℕ) (s t u : Segments) (k l m : MarkerSeen) (weaks : List Place) → HasGone first now s t k l weaks → new ≡ now →
    (count : ℕ) × HasMarked t u l m count → m.turns ≡ l.turns → GoesOn now t u l m weaks → HasGone first new s u k m weaks
gone_more first now new s t u k l m weaks h same marked turns goes = record {
  words = same ∙ h.words;
  marked = marked_sum s t u k l m h.marked marked;
  turns = turns ∙ h.turns;
  goes = goes_then first s t u k l m weaks h.goes (subst (λ (w : List ℕ). GoesOn w t u l m weaks) h.words goes);
}

-- so the next step may be done
pub gone_can : (first now : List ℕ) (s t : Segments) (k l : MarkerSeen) (weaks : List Place) → HasGone first now s t k l weaks →
    (o : Opening) × CanResolve o first s k weaks → (p : Opening) × CanResolve p now t l weaks
gone_can first now s t k l weaks h can =
    let p = h.goes can.0 can.1 in
    (p.0, subst (λ (w : List ℕ). CanResolve p.0 w t l weaks) (sym h.words) p.1.can)

-- and steps that end with nothing left have revived all
pub gone_revived : (first now : List ℕ) (s t u : Segments) (k l m : MarkerSeen) (weaks : List Place) → HasGone first now s t k l weaks →
    ((p : Opening) → CanResolve p now t l weaks → HasRevived p now u m weaks) → (o : Opening) → CanResolve o first s k weaks → HasRevived o first u m weaks
gone_revived first now s t u k l m weaks h all o can =
    let p = h.goes o can in
    let then = subst (λ (w : List ℕ). CanResolve p.0 w t l weaks) (sym h.words) p.1.can in
    revived_then o p.0 first t u l m weaks p.1 (subst (λ (w : List ℕ). HasRevived p.0 w u m weaks) h.words (all p.0 then))
