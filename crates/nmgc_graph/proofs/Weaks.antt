-- Passing over the weak pointers: the names that a pass marks, and that they are live.
use Rattle.nmgc_graph.proofs.Vocabulary.{◌≡◌, List, [], ◌∷◌, ◌++◌, inl, inr, refl, sym, ap, subst, ◌∙◌, arith, Bool, true, ◌⊎◌, Option, Some, None, Contains, All, IsSome, IfSome, option_and_then, cases_Bool, All-cons, All-tail, Name, Value, Nil, Number, Ref, Parts, Node, Con, Var, Arr, Thunk, Weak, Stack, Search, World, node_of, AreKnown, IsNodeOf, IsWorld, parts_held, IsMarked, IsPlaced, HasPlaces, IsAlive, IsAliveWeak, IsKeptBy, IsLive, with_weak, with_weaks, parts_in, parts_of, is_key_marked, AreRevived, name_in, key_of, contains_head, contains_tail, contains_cases, name_placed, parts_from_alive, parts_alive, alive_from_parts}
use Rattle.nmgc_graph.proofs.{Searches.same_ref, Searches.Marks, Searches.no_marks, Searches.then_marks, Searches.values_mark, Searches.are_placed, Follows.places_stay}

-- a weak pointer that is alive waits for the name that its key refers to
pub key_from_alive : (w : World) (weak name : Name) (parts : Parts) → IsAlive w weak parts → parts.key ≡ Ref name → key_of w weak ≡ Some name
key_from_alive w weak name parts alive e =
    ap (λ (o : Option Parts). option_and_then (λ (p : Parts). name_in p.key) o) (parts_from_alive w weak parts alive) ∙ ap name_in e

-- the values in a weak pointer that is alive are known
pub parts_known : (w : World) (o : Option Node) → IfSome o (IsNodeOf w) → (parts : Parts) → option_and_then parts_in o ≡ Some parts →
    AreKnown w (parts_held (Some parts))
parts_known w None is parts e = absurd cc
parts_known w (Some node) is parts e =
    let there : Some node ≡ Some (Weak (Some parts)) = parts_alive (Some node) parts e in
    let same : node ≡ Weak (Some parts) = cc in
    (rw same at is).known

-- the values that mark a weak pointer and its parts
abbrev pub weak_values : Name → Parts → List Value
weak_values weak parts = Ref weak ∷ parts.value ∷ parts.finaliser ∷ []

weak_hits : (weak target : Name) (parts : Parts) → IsKeptBy weak parts target → Contains (weak_values weak parts) (Ref target)
weak_hits weak target parts (inl e) = rw e (contains_head (Ref weak) (parts.value ∷ parts.finaliser ∷ []))
weak_hits weak target parts (inr (inl e)) =
    let P : Value → Type 0 = Contains (weak_values weak parts) in
    subst P e (contains_tail (Ref weak) (parts.value ∷ parts.finaliser ∷ []) parts.value (contains_head parts.value (parts.finaliser ∷ [])))
weak_hits weak target parts (inr (inr e)) =
    let P : Value → Type 0 = Contains (weak_values weak parts) in
    subst P e (contains_tail (Ref weak) (parts.value ∷ parts.finaliser ∷
    []) parts.finaliser (contains_tail parts.value (parts.finaliser ∷ []) parts.finaliser (contains_head parts.finaliser [])))

hits_weak : (weak target : Name) (parts : Parts) → Contains (weak_values weak parts) (Ref target) → IsKeptBy weak parts target
hits_weak weak target parts c = elim (contains_cases (Ref weak) (parts.value ∷ parts.finaliser ∷ []) (Ref target) c) [
  | inl e ↦ inl (sym (same_ref weak target e))
  | inr d ↦ elim (contains_cases parts.value (parts.finaliser ∷ []) (Ref target) d) [
    | inl e ↦ inr (inl e)
    | inr f ↦ elim (contains_cases parts.finaliser [] (Ref target) f) [
      | inl e ↦ inr (inr e)
      | inr none ↦ absurd (omega (arith, none.1))
    ]
  ]
]

-- the key of a weak pointer lets it live
pub shown_live : (w : World) (extra : List Name) (marks : List (List Bool)) (weak target : Name) (parts : Parts) (key : Value) → parts.key ≡ key →
    ((n : Name) → IsMarked marks n → IsLive w extra n) → IsAlive w weak parts → is_key_marked marks key ≡ true → IsKeptBy weak parts target →
    IsLive w extra target
shown_live w extra marks weak target parts Nil is sound alive shown kept = IsLive.plain_key weak target parts alive (rw is tt) kept
shown_live w extra marks weak target parts (Number n) is sound alive shown kept = IsLive.plain_key weak target parts alive (rw is tt) kept
shown_live w extra marks weak target parts (Ref key) is sound alive shown kept = IsLive.live_key weak target key parts alive is (sound key shown) kept

module _ (w : World) (h : IsWorld w) where
  module _ (s : Search) (places : HasPlaces w s.marks) (weak : Name) where
    pub weak_placed : (parts : Parts) → parts_of w weak ≡ Some parts → All (IsPlaced s.marks) (weak_values weak parts)
    weak_placed parts e =
        let alive = alive_from_parts w weak parts e in
        let there : IsSome (node_of w weak) = rw alive refl in
        All-cons (IsPlaced s.marks) (Ref weak) (parts.value ∷ parts.finaliser ∷ []) (name_placed w s.marks places weak there)
        (All-tail (IsPlaced s.marks) parts.key (parts.value ∷ parts.finaliser ∷
        []) (are_placed w s.marks places (parts_held (Some parts)) (parts_known w (node_of w weak) (h.nodes weak) parts e)))

    -- a weak pointer marks the names that it keeps, if its key is marked
    step : (o : Option Parts) → parts_of w weak ≡ o → (values : List Value) × Marks s (with_weak s weak o) values ×
        ((n : Name) → Contains values (Ref n) → (parts : Parts) × IsAlive w weak parts × (is_key_marked s.marks parts.key ≡ true) × IsKeptBy weak parts n)
    step None e = ([], no_marks s, λ n c. absurd (omega (arith, c.1)))
    step (Some parts) e = elim (cases_Bool (is_key_marked s.marks parts.key)) [
      | inl shown ↦ rw shown (
        weak_values weak parts,
        values_mark (weak_values weak parts) s (weak_placed parts e),
        λ n c. (parts, alive_from_parts w weak parts e, shown, hits_weak weak n parts c),
      )
      | inr fails ↦ rw fails ([], no_marks s, λ n c. absurd (omega (arith, c.1)))
    ]

    pub weak_marks : (values : List Value) × Marks s (with_weak s weak (parts_of w weak)) values
    weak_marks = let t = step (parts_of w weak) refl in (t.0, t.1)

    pub weak_sound : (extra : List Name) → ((n : Name) → IsMarked s.marks n → IsLive w extra n) → (n : Name) →
        IsMarked (with_weak s weak (parts_of w weak)).marks n → IsLive w extra n
    weak_sound extra sound n m =
        let t = step (parts_of w weak) refl in
        elim (t.1.fresh n m) [
          | inl old ↦ sound n old
          | inr new ↦ let p = t.2 n new.0 in shown_live w extra s.marks weak n p.0 p.0.key refl sound p.1 p.2 p.3
        ]

    pub weak_done : (parts : Parts) (target : Name) → IsAlive w weak parts → is_key_marked s.marks parts.key ≡ true → IsKeptBy weak parts target →
        IsMarked (with_weak s weak (parts_of w weak)).marks target
    weak_done parts target alive shown kept =
        let e = parts_from_alive w weak parts alive in
        rw (e, shown) ((values_mark (weak_values weak parts) s (weak_placed parts e)).hit target (weak_hits weak target parts kept))

  pub weaks_mark : (weaks : List Name) (s : Search) → HasPlaces w s.marks → (values : List Value) × Marks s (with_weaks w s weaks) values
  weaks_mark [] s places = ([], no_marks s)
  weaks_mark (weak ∷ weaks) s places =
      let one = weak_marks s places weak in
      let t = with_weak s weak (parts_of w weak) in
      let rest = weaks_mark weaks t (places_stay w s t one.0 one.1 places) in
      (one.0 ++ rest.0, then_marks s t (with_weaks w t weaks) one.0 rest.0 one.1 rest.1)

  pub weaks_sound : (extra : List Name) (weaks : List Name) (s : Search) → HasPlaces w s.marks →
      ((n : Name) → IsMarked s.marks n → IsLive w extra n) → (n : Name) → IsMarked (with_weaks w s weaks).marks n → IsLive w extra n
  weaks_sound extra [] s places sound = sound
  weaks_sound extra (weak ∷ weaks) s places sound =
      let one = weak_marks s places weak in
      let t = with_weak s weak (parts_of w weak) in
      weaks_sound extra weaks t (places_stay w s t one.0 one.1 places) (weak_sound s places weak extra sound)

  -- a key that is marked in the end was marked at the start, or waits
  pub key_cases : (s t : Search) (values : List Value) → Marks s t values → (key : Value) → is_key_marked t.marks key ≡ true →
      (is_key_marked s.marks key ≡ true) ⊎ ((name : Name) × (key ≡ Ref name) × Contains t.work name)
  key_cases s t values m Nil shown = inl refl
  key_cases s t values m (Number n) shown = inl refl
  key_cases s t values m (Ref name) shown = elim (m.fresh name shown) [
    | inl old ↦ inl old
    | inr new ↦ inr (name, refl, new.1)
  ]

  -- a key that was marked at the start is marked in the end
  key_stays : (s t : Search) (values : List Value) → Marks s t values → (key : Value) → is_key_marked s.marks key ≡ true → is_key_marked t.marks key ≡ true
  key_stays s t values m Nil shown = refl
  key_stays s t values m (Number n) shown = refl
  key_stays s t values m (Ref name) shown = m.kept name shown

  -- a weak pointer whose key was marked at the start has marked its parts
  pub weaks_begun : (weaks : List Name) (s : Search) → HasPlaces w s.marks → (weak target : Name) (parts : Parts) → Contains weaks weak →
      IsAlive w weak parts → is_key_marked s.marks parts.key ≡ true → IsKeptBy weak parts target → IsMarked (with_weaks w s weaks).marks target
  weaks_begun [] s places weak target parts c alive shown kept = absurd (omega (arith, c.1))
  weaks_begun (x ∷ xs) s places weak target parts c alive shown kept =
      let one = weak_marks s places x in
      let t = with_weak s x (parts_of w x) in
      let placed = places_stay w s t one.0 one.1 places in
      elim (contains_cases x xs weak c) [
        | inl e ↦ (weaks_mark xs t placed).1.kept target (weak_done s places x parts target (rw e alive) shown (rw e kept))
        | inr d ↦ weaks_begun xs t placed weak target parts d alive (key_stays s t one.0 one.1 parts.key shown) kept
      ]

  pub weaks_done : (weaks : List Name) (s : Search) → HasPlaces w s.marks → (weak target : Name) (parts : Parts) → Contains weaks weak →
      IsAlive w weak parts → is_key_marked (with_weaks w s weaks).marks parts.key ≡ true → IsKeptBy weak parts target →
      ((key : Name) × (parts.key ≡ Ref key) × Contains (with_weaks w s weaks).work key) ⊎ IsMarked (with_weaks w s weaks).marks target
  weaks_done [] s places weak target parts c alive shown kept = absurd (omega (arith, c.1))
  weaks_done (x ∷ xs) s places weak target parts c alive shown kept =
      let one = weak_marks s places x in
      let t = with_weak s x (parts_of w x) in
      let placed = places_stay w s t one.0 one.1 places in
      let rest = weaks_mark xs t placed in
      elim (contains_cases x xs weak c) [
        | inl e ↦
            let both = then_marks s t (with_weaks w t xs) one.0 rest.0 one.1 rest.1 in
            elim (key_cases s (with_weaks w s (x ∷ xs)) (one.0 ++ rest.0) both parts.key shown) [
              | inl begun ↦ inr (rest.1.kept target (weak_done s places x parts target (rw e alive) begun (rw e kept)))
              | inr waits ↦ inl waits
            ]
        | inr d ↦ weaks_done xs t placed weak target parts d alive shown kept
      ]

  -- after a pass over all weak pointers that are alive, each with a marked key has marked its parts, unless the key waits
  pub revived : (weaks : List Name) (s : Search) → HasPlaces w s.marks → ((weak : Name) → IsAliveWeak w weak → Contains weaks weak) →
      AreRevived w (with_weaks w s weaks)
  revived weaks s places all weak target parts alive shown kept = weaks_done weaks s places weak target parts (all weak (parts, alive)) alive shown kept

pub in_node_known : (w : World) (node : Node) → IsNodeOf w node → IfSome (parts_in node) (λ parts. AreKnown w (parts_held (Some parts)))
in_node_known w (Con tag values) is = tt
in_node_known w (Var v) is = tt
in_node_known w (Arr values) is = tt
in_node_known w (Thunk free result) is = tt
in_node_known w (Stack size values) is = tt
in_node_known w (Weak None) is = tt
in_node_known w (Weak (Some parts)) is = is.known
