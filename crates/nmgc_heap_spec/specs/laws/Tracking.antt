-- The tracked names if there are fewer worlds, or a world changes.
use Rattle.nmgc_heap_spec.specs.{laws.Vocabulary.◌≡◌, laws.Vocabulary.List, laws.Vocabulary.[], laws.Vocabulary.◌∷◌, laws.Vocabulary.inl, laws.Vocabulary.inr, laws.Vocabulary.sym, laws.Vocabulary.subst, laws.Vocabulary.Some, laws.Vocabulary.Contains, laws.Vocabulary.Name, laws.Vocabulary.Ref, laws.Vocabulary.Node, laws.Vocabulary.Weak, laws.Vocabulary.World, laws.Vocabulary.node_of, laws.Vocabulary.RefersTo, laws.Vocabulary.IsReached, laws.Vocabulary.start, laws.Vocabulary.field, laws.Vocabulary.contains_head, laws.Vocabulary.contains_tail, laws.Vocabulary.contains_cases, laws.Vocabulary.no_more, laws.Vocabulary.IsWide, laws.Vocabulary.IsWideRoot, laws.Vocabulary.IsOfWeak, laws.Vocabulary.holds, laws.Vocabulary.slots_of, laws.Vocabulary.free_slots, laws.Vocabulary.IsTracked, laws.Vocabulary.IsWideIn, laws.Slots.slot_held, laws.Slots.free_held}

-- more first names reach more
pub reached_more : (w : World) (P Q : Name → Type 0) → ((n : Name) → P n → Q n) → (name : Name) → IsReached w P name → IsReached w Q name
reached_more w P Q more name (start n p) = start n (more n p)
reached_more w P Q more name (field n target r to) = field n target (reached_more w P Q more n r) to

-- reached names have each property that the first names have and strong fields keep
pub reached_in : (w : World) (P Q : Name → Type 0) → ((n : Name) → P n → Q n) → ((n target : Name) → Q n → RefersTo w n target → Q target) →
    (name : Name) → IsReached w P name → Q name
reached_in w P Q first next name (start n p) = first n p
reached_in w P Q first next name (field n target r to) = next n target (reached_in w P Q first next n r) to

-- with fewer earlier worlds, fewer names are tracked; the world itself as an earlier world adds none
pub tracked_more : (w : World) (later earlier : List World) → ((e : World) → Contains later e → Contains (w ∷ earlier) e) → (name : Name) →
    IsTracked w later name → IsTracked w earlier name
tracked_more w later earlier more name t =
    reached_more w (IsWideIn (w ∷ later)) (IsWideIn (w ∷ earlier))
    (λ n i. (
      i.0,
      elim (contains_cases w later i.0 i.1) [
        | inl e ↦ subst (λ (x : World). Contains (w ∷ earlier) x) e (contains_head w earlier)
        | inr c ↦ more i.0 c
      ],
      i.2,
    ))
    name t

-- tracked names have each property of the wide roots and of each earlier world's wide reach, if strong fields keep it
pub tracked_in : (w : World) (earlier : List World) (Q : Name → Type 0) → ((n : Name) → IsWideRoot w n → Q n) →
    ((e : World) (n : Name) → Contains earlier e → IsWide e n → Q n) → ((n target : Name) → Q n → RefersTo w n target → Q target) → (name : Name) →
    IsTracked w earlier name → Q name
tracked_in w earlier Q root past next name t =
    reached_in w (IsWideIn (w ∷ earlier)) Q
    (λ n i. elim (contains_cases w earlier i.0 i.1) [
      | inl e ↦ reached_in w (IsWideRoot w) Q root next n (subst (λ (x : World). IsWide x n) (sym e) i.2)
      | inr c ↦ past i.0 n c i.2
    ])
    next name t

-- a name that a slot of a tracked name refers to is tracked
pub slot_tracked : (w : World) (earlier : List World) (name : Name) (node : Node) (n : Name) → IsTracked w earlier name →
    node_of w name ≡ Some node → Contains (slots_of node) (holds (Ref n)) → IsTracked w earlier n
slot_tracked w earlier name node n t e c = elim (slot_held node (Ref n) c) [
  | inl s ↦ field name n t (node, e, s)
  | inr p ↦
      let alive : node_of w name ≡ Some (Weak (Some p.0)) = cc in
      let of : IsOfWeak name p.0 n = elim (contains_cases p.0.key (p.0.value ∷ p.0.finaliser ∷ []) (Ref n) p.2) [
        | inl a ↦ inr (inl a)
        | inr d ↦ elim (contains_cases p.0.value (p.0.finaliser ∷ []) (Ref n) d) [
          | inl a ↦ inr (inr (inl a))
          | inr f ↦ elim (contains_cases p.0.finaliser [] (Ref n) f) [ inl a ↦ inr (inr (inr a)) | inr g ↦ absurd (no_more (Ref n) g) ]
        ]
      ] in
      let wide : IsWideRoot w n = inr (name, p.0, alive, of) in
      start n (w, contains_head w earlier, start n wide)
]

-- the free variables of a name in an earlier world's wide reach refer to tracked names
pub free_tracked : (w e : World) (earlier : List World) (name : Name) (before : Node) (n : Name) → Contains earlier e → IsWide e name →
    node_of e name ≡ Some before → Contains (free_slots before) (holds (Ref n)) → IsTracked w earlier n
free_tracked w e earlier name before n c wide was held = start n (
  e,
  contains_tail w earlier e c,
  field name n wide (before, was, free_held before (Ref n) held),
)
