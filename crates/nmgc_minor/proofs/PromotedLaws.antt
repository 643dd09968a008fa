-- The objects found in the words are exactly the objects of the promotion rule.
use Rattle.nmgc_minor.proofs.Vocabulary.{◌≡◌, ◌≢◌, ◌<◌, ◌≤◌, ◌+◌, ◌*◌, ◌⊎◌, ℕ, zero, suc, List, [], ◌∷◌, inl, inr, refl, sym, ap, subst, ◌∙◌, arith, Option, Some, None, Contains, slice_get, IsSome, All-contains, Contains-append_left, Contains-append_right, Name, Value, Parts, Node, Weak, World, node_of, state_of, IsKnown, IsNodeOf, IsShared, IsWorld, shared_name, IsReached, RefersTo, IsRoot, IsAlive, contains_head, at_some, is_some_of, contains_read, header_word, IsHeader, nursery_place, Header, Layout, SHARED_PLACE, WEAK_FIELDS, HEADER_WORDS, IsOfWeak, Slot, holds, unset, unspecified, slots_of, IsTracked, Place, Means, Fills, Represents, NoNode, StillSpoken, slot_held, IsFirstPromoted, IsPromoted, IsRoundOf, stands, field_in, Inputs, HasInputs, IsStart, IsFound, slice_index}
use Rattle.nmgc_stop_spec.specs.Cycle.{IsYoung}
use Rattle.nmgc_world_spec.specs.declared.value.Value.TheVariants as value
use Rattle.nmgc_minor.proofs.FoundLaws.{node_at, root_tracked, shared_tracked, weak_alive, weak_tracked, shared_in, followed, root_found}

known_or : {A : Type 0} (o : Option A) → IsSome o ⊎ (o ≡ None)
known_or None = inr refl
known_or (Some x) = inl refl

not_both : {A : Type 0} (o : Option A) → IsSome o → o ≡ None → ⊥
not_both None h e = absurd cc
not_both (Some x) h e = absurd cc

-- tracked, and reachable from the start of the search for promoted objects
abbrev IsMet : World → List World → World → Name → Type 0
IsMet began later w n = IsTracked w (began ∷ later) n × IsReached w (IsFirstPromoted began w) n

-- a part of a weak pointer, in its slot
part_slot : (weak : Name) (parts : Parts) (i : ℕ) → i < WEAK_FIELDS → (v : Value) × (slice_get (slots_of (Weak (Some parts))) i ≡ Some (holds v)) ×
    ((n : Name) → v ≡ value.Ref n → IsOfWeak weak parts n)
part_slot weak parts zero l = (parts.key, refl, λ n e. inr (inl e))
part_slot weak parts (suc zero) l = (parts.value, refl, λ n e. inr (inr (inl e)))
part_slot weak parts (suc (suc zero)) l = (parts.finaliser, refl, λ n e. inr (inr (inr e)))
part_slot weak parts (suc (suc (suc i))) l = absurd (omega arith)

not_weak : (node : Node) (parts : Parts) → IsShared node → node ≡ Weak (Some parts) → ⊥
not_weak node parts h e = let k : IsShared (Weak (Some parts)) = subst (λ (x : Node). IsShared x) e h in k

module _ (layout : Layout) (base : ℕ) (later : List World) (began : World) (places : List Place) (w : World) (words : List ℕ) (inputs : Inputs)
    (serials : List ℕ)
    (differ : (a b : Header) → IsHeader a → IsHeader b → header_word a ≡ header_word b → a ≡ b)
    (world : IsWorld w)
    (spoken : StillSpoken base later (began ∷ later) places w)
    (emptied : base ≡ nursery_place layout 0)
    (r : Represents layout (began ∷ later) NoNode places w words)
    (m : HasInputs base (began ∷ later) places w inputs)
    (round : IsRoundOf base (record { world = w; began = began; later = later; places = places; serials = serials })) where
  -- a name in a nursery was made in the round, and any other name was there before
  none_before : (p : Place) → Contains places p → base ≤ p.at → node_of began p.name ≡ None
  none_before p c l = (round.young p c).0 l

  known_before : (p : Place) → Contains places p → p.at < base → IsSome (node_of began p.name)
  known_before p c l = elim (known_or (node_of began p.name)) [
    | inl s ↦ s
    | inr none ↦ let up = (round.young p c).1 none in absurd (omega (arith, up, l))
  ]

  -- a word that points into a nursery
  pointed : (T : Name → Type 0) (word at : ℕ) → word ≡ 2 * at → base ≤ at → (v : Value) → Means (Contains places) word v →
      ((n : Name) → v ≡ value.Ref n → Contains places (record { at = at; name = n }) → T n) → (n : Name) × Contains places (record { at = at; name = n }) × T n
  pointed T word at e l value.Nil f t = absurd (omega (arith, e, f))
  pointed T word at e l (value.Number n) f t = absurd (omega (arith, e, f))
  pointed T word at e l (value.Ref n) f t =
      let s : f.0 ≡ at = omega (arith, f.1, e) in
      let d : Contains places (record { at = at; name = n }) = subst (λ (k : ℕ). Contains places (record { at = k; name = n })) s f.2 in
      (n, d, t n refl d)

  root_met : (n : Name) → IsRoot w n → IsMet began later w n
  root_met n h = (root_tracked layout base later (began ∷ later) places w words inputs differ world spoken emptied r m n h, IsReached.start n (inl h))

  -- an older weak pointer has no part in a nursery
  part_is_old : (name n : Name) (parts : Parts) (at : ℕ) → IsSome (node_of began name) → IsAlive w name parts →
      Contains (parts.key ∷ parts.value ∷ parts.finaliser ∷ []) (value.Ref n) → Contains places (record { at = at; name = n }) → base ≤ at → ⊥
  part_is_old name n parts at old alive c d l =
      let before = round.parts name parts old alive in
      let past = round.past began (contains_head began later) in
      let of = at_some (node_of began name) (Weak (Some parts)) (IsNodeOf began) before (past.world.nodes name) in
      let known : IsSome (node_of began n) = All-contains (IsKnown began) (parts.key ∷ parts.value ∷ parts.finaliser ∷ []) (value.Ref n) of.known c in
      not_both (node_of began n) known (none_before (record { at = at; name = n }) d l)

  -- the nursery object to which a field of an older object points
  slot_met : (name : Name) (node : Node) (word at : ℕ) (slot : Slot) → word ≡ 2 * at → base ≤ at → IsSome (node_of began name) →
      IsTracked w (began ∷ later) name → node_of w name ≡ Some node → Contains (slots_of node) slot → slot ≢ unspecified →
      Fills (Contains places) word slot → (n : Name) × Contains places (record { at = at; name = n }) × IsMet began later w n
  slot_met name node word at (holds v) e l old t is c is_known f = pointed (IsMet began later w) word at e l v f (λ n s d.
      elim (slot_held node (value.Ref n) (rw s at c)) [
        | inl strong ↦
            let refers : RefersTo w name n = (node, is, strong) in
            (IsReached.field name n t refers, IsReached.start n (inr (inl (name, old, refers))))
        | inr p ↦ absurd (part_is_old name n p.0 at old (is ∙ ap Some p.1) p.2 d l)
      ])
  slot_met name node word at unset e l old t is c is_known f = absurd (omega (arith, e, f, l, emptied))
  slot_met name node word at unspecified e l old t is c is_known f = absurd (is_known refl)

  started_met : (at : ℕ) → base ≤ at → IsStart inputs words (2 * at) → (n : Name) × Contains places (record { at = at; name = n }) × IsMet began later w n
  started_met at l (IsStart.register c) =
      let h = m.held (2 * at) c in
      pointed (IsMet began later w) (2 * at) at refl l h.1 h.3 (λ n s d.
      root_met n (inr (
        h.0,
        Contains-append_left (state_of w h.0).registers (state_of w h.0).queue (value.Ref n) (rw s at h.2),
      )))
  started_met at l (IsStart.queued queue c k) =
      let h = m.waiting queue (2 * at) c k in
      pointed (IsMet began later w) (2 * at) at refl l h.1 h.3 (λ n s d.
      root_met n (inr (
        h.0,
        Contains-append_right (state_of w h.0).registers (state_of w h.0).queue (value.Ref n) (rw s at h.2),
      )))
  started_met at l (IsStart.shared i lt e) =
      let t = shared_tracked layout base later (began ∷ later) places w words inputs differ world spoken emptied r m in
      let p = r.tracked shared_name w.shared t refl in
      let g : p.at ≡ SHARED_PLACE = elim p.object.lies [ inl g ↦ g.1 | inr o ↦ absurd (o.0 refl) ] in
      let s = shared_in w.shared i world.shared lt in
      let f = subst (λ (k : ℕ). Means (Contains places) (slice_index words (k + HEADER_WORDS + i)) s.0) g (p.fields i (holds s.0) s.1) in
      let in' = contains_read (slots_of w.shared) i (holds s.0) s.1 in
      pointed (IsMet began later w) (slice_index words (SHARED_PLACE + HEADER_WORDS + i)) at e l s.0 f (λ n v d.
      elim (slot_held w.shared (value.Ref n) (subst (λ (x : Value). Contains (slots_of w.shared) (holds x)) v in')) [
        | inl strong ↦ let refers : RefersTo w shared_name n = (w.shared, refl, strong) in
            (IsReached.field shared_name n t refers, IsReached.field shared_name n (IsReached.start shared_name (inl (inl refl))) refers)
        | inr p ↦ absurd (not_weak w.shared p.0 world.shared p.1)
      ])
  started_met at l (IsStart.recorded from c e) =
      let h = m.left.fields from c in
      let p = h.0 in
      let o = stands layout (began ∷ later) NoNode places w words differ world r p.name h.1 p.at h.5 h.6 h.4 in
      let f = o.fields h.2 h.3 h.7 in
      slot_met p.name h.1 (slice_index words from) at h.3 e l (known_before p h.4 h.10) h.5 h.6 (contains_read (slots_of h.1) h.2 h.3 h.7) h.8
      (subst (λ (k : ℕ). Fills (Contains places) (slice_index words k) h.3) (sym h.9) f)
  started_met at l (IsStart.weak from c alive e) =
      let h = weak_alive layout base later (began ∷ later) places w words inputs differ world spoken emptied r m from c alive in
      let s : from ≡ at = omega (arith, e) in
      let there : Contains places (record { at = at; name = h.0 }) = subst (λ (k : ℕ). Contains places (record { at = k; name = h.0 })) s h.2 in
      let young : IsYoung began w h.0 = (none_before (record { at = at; name = h.0 }) there l, (r.named (record { at = at; name = h.0 }) there).known) in
      let t = weak_tracked layout base later (began ∷ later) places w words inputs differ world spoken emptied r m h.0 h.1 h.3 in
      (h.0, there, (t, IsReached.start h.0 (inr (inr (h.0, h.1, young, h.3, inl refl)))))
  started_met at l (IsStart.part from i c alive lt e) =
      let h = weak_alive layout base later (began ∷ later) places w words inputs differ world spoken emptied r m from c alive in
      let low = (m.left.weak_places from c).3 in
      let young : IsYoung began w h.0 = (none_before (record { at = from; name = h.0 }) h.2 low, (r.named (record { at = from; name = h.0 }) h.2).known) in
      let t = weak_tracked layout base later (began ∷ later) places w words inputs differ world spoken emptied r m h.0 h.1 h.3 in
      let o = stands layout (began ∷ later) NoNode places w words differ world r h.0 (Weak (Some h.1)) from t h.3 h.2 in
      let s = part_slot h.0 h.1 i lt in
      pointed (IsMet began later w) (slice_index words (from + HEADER_WORDS + i)) at e l s.0 (o.fields i (holds s.0) s.1) (λ n v d.
      let of = s.2 n v in (
        IsReached.start n (w, contains_head w (began ∷ later), IsReached.start n (inr (h.0, h.1, h.3, of))),
        IsReached.start n (inr (inr (h.0, h.1, young, h.3, of))),
      ))

  found_met : (at : ℕ) → IsFound base words (IsStart inputs words) at → (n : Name) × Contains places (record { at = at; name = n }) × IsMet began later w n
  found_met at (IsFound.start _ l s) = started_met at l s
  found_met at (IsFound.field from _ found l h) =
      let f = found_met from found in
      let node = node_at layout base later (began ∷ later) places w words inputs differ world spoken emptied r m f.0 from f.1 in
      let to = field_in layout (began ∷ later) NoNode places w words differ world r f.0 node.0 from at f.2.0 node.1 f.1 (omega (arith, l, emptied)) h in
      (to.0, to.1, (IsReached.field f.0 to.0 f.2.0 to.2, IsReached.field f.0 to.0 f.2.1 to.2))

  found_young : (at : ℕ) → IsFound base words (IsStart inputs words) at → base ≤ at
  found_young at (IsFound.start _ l s) = l
  found_young at (IsFound.field from _ f l h) = l

  -- a found object is promoted
  pub found_promoted : (at : ℕ) → IsFound base words (IsStart inputs words) at → (n : Name) × Contains places (record { at = at; name = n }) ×
      IsPromoted began w n
  found_promoted at f =
      let h = found_met at f in
      let l = found_young at f in
      (h.0, h.1, ((none_before (record { at = at; name = h.0 }) h.1 l, (r.named (record { at = at; name = h.0 }) h.1).known), h.2.1))

  -- a new name that an older object holds
  held_found : (holder n : Name) → IsSome (node_of began holder) → node_of began n ≡ None → RefersTo w holder n → IsTracked w (began ∷ later) n ×
      ((to : ℕ) → Contains places (record { at = to; name = n }) → base ≤ to → IsFound base words (IsStart inputs words) to)
  held_found holder n old none refers =
      let t = round.changed holder n old none refers in
      let p = r.tracked holder refers.0 t refers.1 in (
        IsReached.field holder n t refers,
        λ to d l. followed layout base later (began ∷
            later) places w words inputs differ world spoken emptied r m holder n p.at to t p.there (λ up.
            absurd (not_both (node_of began holder) old (none_before (record { at = p.at; name = holder }) p.there up))) refers d l,
      )

  met_found : (n : Name) → IsReached w (IsFirstPromoted began w) n → node_of began n ≡ None → IsTracked w (began ∷ later) n ×
      ((to : ℕ) → Contains places (record { at = to; name = n }) → base ≤ to → IsFound base words (IsStart inputs words) to)
  met_found n (IsReached.start _ (inl root)) none = (
    root_tracked layout base later (began ∷ later) places w words inputs differ world spoken emptied r m n root,
    λ to d l. root_found layout base later (began ∷ later) places w words inputs differ world spoken emptied r m n to (inl root) d l,
  )
  met_found n (IsReached.start _ (inr (inl h))) none = held_found h.0 n h.1 none h.2
  met_found n (IsReached.start _ (inr (inr h))) none = (
    IsReached.start n (w, contains_head w (began ∷ later), IsReached.start n (inr (h.0, h.1, h.3, h.4))),
    λ to d l. root_found layout base later (began ∷ later) places w words inputs differ world spoken emptied r m n to (inr (h.0, h.1, h.3, h.4)) d l,
  )
  met_found n (IsReached.field name _ h refers) none = elim (known_or (node_of began name)) [
    | inl old ↦ held_found name n old none refers
    | inr new ↦
        let a = met_found name h new in
        let p = r.tracked name refers.0 a.0 refers.1 in (
          IsReached.field name n a.0 refers,
          λ to d l. followed layout base later (began ∷
              later) places w words inputs differ world spoken emptied r m name n p.at to a.0 p.there (λ up. a.1 p.at p.there up) refers d l,
        )
  ]

  -- a promoted object has an address, and is found there
  pub promoted_found : (n : Name) → IsPromoted began w n → (at : ℕ) × Contains places (record { at = at; name = n }) ×
      IsFound base words (IsStart inputs words) at
  promoted_found n p =
      let a = met_found n p.1 p.0.0 in
      let node = is_some_of (node_of w n) p.0.1 in
      let q = r.tracked n node.0 a.0 node.1 in
      let low : base ≤ q.at = (round.young (record { at = q.at; name = n }) q.there).1 p.0.0 in
      (q.at, q.there, a.1 q.at q.there low)
