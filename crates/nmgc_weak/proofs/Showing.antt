-- The key word of a weak pointer shows whether it is kept, and so which of the list are lost.
use Rattle.nmgc_weak.proofs.Vocabulary.{◌≡◌, ◌↔◌, ◌*◌, ◌/◌, ℕ, refl, sym, ap, subst, ◌∙◌, arith, List, inl, inr, ◌⊎◌, Contains, IsSome, slice_index, Name, Value, SHARED_MAKER, Parts, node_of, IsAlive, IsReached, shared_name, same_name, SHARED_PLACE, HEADER_WORDS, IsEpoch, IsWaiting, Segments, IsSnapshotAt, IsMarkedAt, Place, Means, LiesWell, Opening, MarkerSeen, CanResolve, IsKeyMarked, IsKeyMarkedWord, IsLostAt, IsLost, key_place, one_parts, wide_known}
use Rattle.nmgc_world_spec.specs.declared.value.Value.TheVariants as value
use Rattle.nmgc_weak.proofs.Parts.{has_parts}

-- a marked block is in the snapshot
marked_is : (s : Segments) (epoch at : ℕ) → IsEpoch epoch → IsMarkedAt s epoch at → IsSnapshotAt s at
marked_is s epoch at e h = (h.0, h.1, h.2, inr (λ z. let m = h.3 in omega arith))

-- only g lies at its address
at_one : (o : Opening) (at : ℕ) (name : Name) → LiesWell o.layout (record { at = at; name = name }) HEADER_WORDS →
    (name.maker ≡ SHARED_MAKER → at ≡ SHARED_PLACE) × (at ≡ SHARED_PLACE → name.maker ≡ SHARED_MAKER)
at_one o at name (inl g) = (λ e. g.1, λ e. g.0)
at_one o at name (inr (ne, inl segment)) = (λ e. absurd (ne e), λ e. let l = segment.1 at (omega arith) (omega arith) in let f = l.from in absurd (omega arith))
at_one o at name (inr (ne, inr nursery)) = (λ e. absurd (ne e), λ e. let l = nursery.1 at (omega arith) (omega arith) in let f = l.from in absurd (omega arith))

-- a listed weak pointer of the snapshot has its block in the snapshot
pub snapshot_back : (o : Opening) (words : List ℕ) (s : Segments) (marker : MarkerSeen) (weaks : List Place) → CanResolve o words s marker weaks →
    (at : ℕ) (weak : Name) → Contains weaks (record { at = at; name = weak }) → IsSome (node_of o.core.snapshot weak) → IsSnapshotAt s at
snapshot_back o words s marker weaks h at weak c there =
    let p : Place = record { at = at; name = weak } in
    let l = h.listed.sound p c in
    let tied = h.ready.tied in
    let named = h.ready.opens.represents.named p l.0 in
    let g = at_one o at weak named.lies in
    elim (tied.snapshot.complete p l.0 there) [
      | inl shared ↦
          let one : at ≡ SHARED_PLACE = g.0 (ap (λ (n : Name). n.maker) shared) in
          let from = l.2.1.from in
          absurd (omega arith)
      | inr snap ↦ snap
    ]

module _ (o : Opening) (words : List ℕ) (s : Segments) (marker : MarkerSeen) (weaks : List Place) (h : CanResolve o words s marker weaks)
    (epoch : IsEpoch marker.epoch) where
  name_shown : (at : ℕ) (name : Name) → Contains o.places (record { at = at; name = name }) → IsSome (node_of o.core.snapshot name) →
      ((at ≡ SHARED_PLACE) ⊎ IsMarkedAt s marker.epoch at) ↔ Contains o.core.marked name
  name_shown at name c there =
      let tied = h.ready.tied in
      let p : Place = record { at = at; name = name } in
      let named = h.ready.opens.represents.named p c in
      let g = at_one o at name named.lies in (
        λ shown. elim shown [
          | inl one ↦
              let maker : name.maker ≡ SHARED_MAKER = g.1 one in
              let is : name ≡ shared_name = same_name name shared_name maker (named.valid.2 maker) in
              subst (λ (n : Name). Contains o.core.marked n) (sym is) tied.shared
          | inr marked ↦ (tied.marks p c (marked_is s marker.epoch at epoch marked)).0 marked
        ],
        λ marked. elim (tied.snapshot.complete p c there) [
          | inl shared ↦ inl (g.0 (ap (λ (n : Name). n.maker) shared))
          | inr snap ↦ inr ((tied.marks p c snap).1 marked)
        ],
      )

  -- the word of a key is marked exactly if the key is
  pub word_shown : (w : ℕ) (v : Value) → Means (Contains o.places) w v →
      ((name : Name) → v ≡ value.Ref name → IsSome (node_of o.core.snapshot name)) → IsKeyMarkedWord s marker.epoch w ↔ IsKeyMarked o.core.marked v
  word_shown w value.Nil means there = (λ x. tt, λ x. inl (λ e. omega arith))
  word_shown w (value.Number n) means there = (λ x. tt, λ x. inl (λ e. omega arith))
  word_shown w (value.Ref name) means there =
      let at : ℕ = means.0 in
      let is : w ≡ 2 * at = means.1 in
      let half : w / 2 ≡ at = omega arith in
      let n = name_shown at name means.2 (there name refl) in (
        λ x. elim x [
          | inl odd ↦ absurd (odd (omega arith))
          | inr y ↦ elim y [
            | inl one ↦ n.0 (inl (sym half ∙ one))
            | inr marked ↦ n.0 (inr (subst (λ (i : ℕ). IsMarkedAt s marker.epoch i) half marked))
          ]
        ],
        λ x. elim (n.1 x) [
          | inl one ↦ inr (inl (half ∙ one))
          | inr marked ↦ inr (inr (subst (λ (i : ℕ). IsMarkedAt s marker.epoch i) (sym half) marked))
        ],
      )

  -- a listed weak pointer is in the snapshot exactly if its block is
  pub snapshot_is : (at : ℕ) (weak : Name) → Contains weaks (record { at = at; name = weak }) → IsSnapshotAt s at ↔ IsSome (node_of o.core.snapshot weak)
  snapshot_is at weak c =
      let p : Place = record { at = at; name = weak } in
      let l = h.listed.sound p c in
      let tied = h.ready.tied in
      let named = h.ready.opens.represents.named p l.0 in
      let g = at_one o at weak named.lies in (
        λ snap.
            let k = tied.snapshot.sound at snap in
            let same = tied.snapshot.apart.one (record { at = at; name = k.0 }) p k.1 l.0 (inr refl) in
            subst (λ (q : Place). IsSome (node_of o.core.snapshot q.name)) same k.2,
        λ there. snapshot_back o words s marker weaks h at weak c there,
      )

  -- a listed weak pointer of the snapshot waits
  pub waits : (at : ℕ) (weak : Name) (parts : Parts) → Contains weaks (record { at = at; name = weak }) → IsSome (node_of o.core.snapshot weak) →
      IsAlive o.core.world weak parts → IsWaiting o.core weak parts
  waits at weak parts c there alive = record { alive = (h.facts.base.weaks weak parts alive).old there; not_finalised = λ f. h.gone weak parts f alive }

  -- a key of the snapshot refers to a name of the snapshot
  key_known : (weak : Name) (parts : Parts) → IsAlive o.core.snapshot weak parts → (name : Name) → parts.key ≡ value.Ref name →
      IsSome (node_of o.core.snapshot name)
  key_known weak parts alive name e = wide_known o.core.snapshot h.facts.base.snapshot name (IsReached.start name (inr (weak, parts, alive, inr (inl e))))

  -- the tests of the words find the lost weak pointers
  pub lost_is : (at : ℕ) (weak : Name) → Contains weaks (record { at = at; name = weak }) →
      IsLostAt s marker.epoch at (slice_index words (key_place at)) ↔ IsLost o.core weak
  lost_is at weak c =
      let l = h.listed.sound (record { at = at; name = weak }) c in
      let parts : Parts = l.1.0 in
      let snap = snapshot_is at weak c in
      let means = (has_parts o words at weak parts h.ready.opens l.0 l.1.1).key in (
        λ lost.
            let there = snap.0 lost.0 in
            let w : IsWaiting o.core weak parts = waits at weak parts c there l.1.1 in
            record {
              parts = parts;
              waiting = w;
              lost = λ shown.
                  lost.1 ((word_shown (slice_index words (key_place at)) parts.key means (key_known weak parts w.alive)).1 shown);
            },
        λ lost.
            let alive = h.facts.base.alive weak lost.parts lost.waiting.alive lost.waiting.not_finalised in
            let same : lost.parts ≡ parts = one_parts o.core.world weak lost.parts parts alive l.1.1 in
            let there : IsSome (node_of o.core.snapshot weak) = subst (λ o. IsSome o) (sym lost.waiting.alive) refl in (
              snap.1 there,
              λ shown. lost.lost (rw same ((word_shown (slice_index words (key_place at)) parts.key means
                  (key_known weak parts (subst (λ (p : Parts). IsAlive o.core.snapshot weak p) same lost.waiting.alive))).0 shown)),
            ),
      )

  -- a weak pointer of the snapshot has a marked key if its key word shows it
  pub shown_is : (at : ℕ) (weak : Name) → Contains weaks (record { at = at; name = weak }) → IsSnapshotAt s at →
      IsKeyMarkedWord s marker.epoch (slice_index words (key_place at)) → (parts : Parts) → IsAlive o.core.world weak parts →
      IsKeyMarked o.core.marked parts.key
  shown_is at weak c snap shown parts alive =
      let l = h.listed.sound (record { at = at; name = weak }) c in
      let there = (snapshot_is at weak c).0 snap in
      let w : IsWaiting o.core weak parts = waits at weak parts c there alive in
      let means = (has_parts o words at weak parts h.ready.opens l.0 alive).key in
      (word_shown (slice_index words (key_place at)) parts.key means (key_known weak parts w.alive)).0 shown
