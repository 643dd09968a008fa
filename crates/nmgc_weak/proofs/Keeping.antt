-- A weak pointer whose key is marked keeps its parts: they are marked, and the state may close as before.
use Rattle.nmgc_weak.proofs.Vocabulary.{◌≡◌, ℕ, List, refl, sym, ap, subst, ◌∙◌, Option, Some, inl, inr, Contains, IsSome, slice_index, Name, Value, Parts, node_of, IsAlive, IsKeptBy, IsLive, IsPlain, plain_key, live_key, Facts, State, part_there, Segments, Place, Means, Marks, marks_of, name_at, name_meant, with_name, now, Opening, MarkerSeen, IsReady, HasFinished, IsTied, AreApart, IsKeyMarked, CanKeep, HasKept, value_place, finaliser_place, one_parts, of_weak}
use Rattle.nmgc_world_spec.specs.declared.value.Value.TheVariants as value
use Rattle.nmgc_weak.proofs.{Parts.ref_in, Parts.named_at, Parts.meant, Parts.HasParts, Parts.has_parts, Parts.of_weak_tracked, Parts.may_queue, Stages.with_marks, Stages.done_marks, Stages.Stage, Stages.CanMark, Stages.stage_mark, Stages.marked_there, Stages.marked_still, Stages.stage_ready, Stages.stage_begins, Stages.stage_done, Stages.done_goes}

-- if the key of a weak pointer of the snapshot is marked, all that it keeps is live
kept_live : (s : State) → Facts s → (weak target : Name) (parts : Parts) → IsAlive s.snapshot weak parts → (key : Value) → parts.key ≡ key →
    IsKeyMarked s.marked key → IsKeptBy weak parts target → IsLive s.snapshot s.opened target
kept_live s f weak target parts alive value.Nil e shown kept = plain_key weak target parts alive (subst IsPlain (sym e) tt) kept
kept_live s f weak target parts alive (value.Number n) e shown kept = plain_key weak target parts alive (subst IsPlain (sym e) tt) kept
kept_live s f weak target parts alive (value.Ref key) e shown kept = live_key weak target key parts alive e (f.base.live key shown) kept

module _ (o : Opening) (words : List ℕ) (s : Segments) (marker : MarkerSeen) (weaks : List Place) (at : ℕ) (weak : Name)
    (h : CanKeep o words s marker weaks at weak) where
  abbrev listed : Contains o.places (record { at = at; name = weak })
  listed = (h.can.listed.sound (record { at = at; name = weak }) h.listed).0

  abbrev parts : Parts
  parts = (h.can.listed.sound (record { at = at; name = weak }) h.listed).1.0

  abbrev alive : IsAlive o.core.world weak parts
  alive = (h.can.listed.sound (record { at = at; name = weak }) h.listed).1.1

  abbrev apart : AreApart o.layout o.places
  apart = h.can.ready.tied.snapshot.apart

  -- each of the three may be marked
  can_mark : (target : Name) → IsKeptBy weak parts target → CanMark o o.core.opened (Some target)
  can_mark target kept = (
    λ there. kept_live o.core h.can.facts weak target parts ((h.can.facts.base.weaks weak parts alive).old h.known) parts.key refl
        (h.key_marked parts alive) kept,
    λ there. may_queue o words target h.can.marking h.can.ready.opens h.can.earlier_are
        (of_weak_tracked o weak target parts alive (of_weak weak target parts kept)) there,
  )

  value_marks : (v : Value) → ((target : Name) → v ≡ value.Ref target → IsKeptBy weak parts target) → CanMark o o.core.opened (ref_in v)
  value_marks value.Nil k = tt
  value_marks (value.Number n) k = tt
  value_marks (value.Ref target) k = can_mark target (k target refl)

  word_marks : (w : ℕ) (v : Value) → Means (Contains o.places) w v → ((target : Name) → v ≡ value.Ref target → IsKeptBy weak parts target) →
      CanMark o o.core.opened (name_meant o.places w)
  word_marks w v means k = subst (CanMark o o.core.opened) (sym (meant o w v apart means)) (value_marks v k)

  pub word_parts : HasParts o words at parts
  word_parts = has_parts o words at weak parts h.can.ready.opens listed alive

  -- the marks for the weak pointer, its value and its finaliser
  abbrev pub first : Marks
  first = with_name o.core.snapshot (marks_of o.core) (name_at o.places at)

  abbrev pub second : Marks
  second = with_name o.core.snapshot first (name_meant o.places (slice_index words (value_place at)))

  abbrev pub third : Marks
  third = with_name o.core.snapshot second (name_meant o.places (slice_index words (finaliser_place at)))

  -- they are marked in order
  pub three : (s1 s2 s3 : Segments) (k1 k2 k3 : MarkerSeen) →
      ((m : Marks) → IsTied o m s marker → IsTied o (with_name o.core.snapshot m (name_at o.places at)) s1 k1) →
      ((m : Marks) → IsTied o m s1 k1 → IsTied o (with_name o.core.snapshot m (name_meant o.places (slice_index words (value_place at)))) s2 k2) →
      ((m : Marks) → IsTied o m s2 k2 →
      IsTied o (with_name o.core.snapshot m (name_meant o.places (slice_index words (finaliser_place at)))) s3 k3) → Stage o o.core.opened third s3 k3
  three s1 s2 s3 k1 k2 k3 t1 t2 t3 =
      let st0 : Stage o o.core.opened (marks_of o.core) s marker = stage_begins o words s marker weaks h.can in
      let st1 : Stage o o.core.opened first s1 k1 =
      stage_mark o o.core.opened (marks_of o.core) s s1 marker k1 (name_at o.places at) st0
      (subst (CanMark o o.core.opened) (sym (named_at o at weak apart listed)) (can_mark weak (inl refl))) (t1 (marks_of o.core) st0.tied) in
      let st2 : Stage o o.core.opened second s2 k2 =
      stage_mark o o.core.opened first s1 s2 k1 k2 (name_meant o.places (slice_index words (value_place at))) st1
      (word_marks (slice_index words (value_place at)) parts.value word_parts.value (λ target e. inr (inl e))) (t2 first st1.tied) in
      stage_mark o o.core.opened second s2 s3 k2 k3 (name_meant o.places (slice_index words (finaliser_place at))) st2
      (word_marks (slice_index words (finaliser_place at)) parts.finaliser word_parts.finaliser (λ target e. inr (inr e))) (t3 second st2.tied)

  -- the names of the three are names of the snapshot
  in_snapshot : (target : Name) → IsKeptBy weak parts target → IsSome (node_of o.core.snapshot target)
  in_snapshot target kept = part_there o.core.snapshot h.can.facts.base.snapshot weak target parts ((h.can.facts.base.weaks weak parts alive).old h.known) kept

  -- so each is marked
  one_marked : (m : Marks) (name : Option Name) (target : Name) → name ≡ Some target → IsSome (node_of o.core.snapshot target) →
      Contains (with_name o.core.snapshot m name).marked target
  one_marked m name target e there = rw e (marked_there o.core.snapshot m target there)

  third_has : (target : Name) → IsKeptBy weak parts target → Contains third.marked target
  third_has target (inl e) =
      let there : IsSome (node_of o.core.snapshot weak) = h.known in
      let c : Contains first.marked weak = one_marked (marks_of o.core) (name_at o.places at) weak (named_at o at weak apart listed) there in
      let d : Contains third.marked weak =
      marked_still o.core.snapshot second (name_meant o.places (slice_index words (finaliser_place at))) weak
      (marked_still o.core.snapshot first (name_meant o.places (slice_index words (value_place at))) weak c) in
      subst (λ (n : Name). Contains third.marked n) (sym e) d
  third_has target (inr (inl e)) =
      let c : Contains second.marked target =
      one_marked first (name_meant o.places (slice_index words (value_place at))) target
      (meant o (slice_index words (value_place at)) parts.value apart word_parts.value ∙ ap ref_in e) (in_snapshot target (inr (inl e))) in
      marked_still o.core.snapshot second (name_meant o.places (slice_index words (finaliser_place at))) target c
  third_has target (inr (inr e)) =
      one_marked second (name_meant o.places (slice_index words (finaliser_place at))) target
      (meant o (slice_index words (finaliser_place at)) parts.finaliser apart word_parts.finaliser ∙ ap ref_in e) (in_snapshot target (inr (inr e)))

  -- and all that is reachable from them once the marker has finished
  pub kept : (s3 s4 : Segments) (k3 k4 : MarkerSeen) → Stage o o.core.opened third s3 k3 →
      ((p : Opening) → IsReady p words s3 k3 → HasFinished p s4 k4) → HasKept o words s4 k4 weaks weak
  kept s3 s4 k3 k4 st fin =
      let ready = stage_ready o o.core.opened third words s3 k3 h.can.marking h.can.ready.opens st in
      let f : HasFinished (with_marks o third) s4 k4 = fin (with_marks o third) ready in
      let done = stage_done o o.core.opened third s3 s4 k3 k4 h.can.ready.opens.world st f in
      record {
        next = with_marks o (done_marks (now (with_marks o third) f.events).marked);
        goes = done_goes o words s s4 marker k4 weaks (now (with_marks o third) f.events).marked h.can done.stage;
        kept = λ target p a k.
            let same : parts ≡ p = one_parts o.core.world weak parts p alive a in
            done.kept target (third_has target (subst (λ (q : Parts). IsKeptBy weak q target) (sym same) k));
      }
