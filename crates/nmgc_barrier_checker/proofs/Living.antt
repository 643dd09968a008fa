-- It can be decided whether a name of a world is live, dead or kept, so such names can be listed.
use Rattle.nmgc_barrier_checker.proofs.Vocabulary.{◌≡◌, ℕ, List, [], ◌∷◌, ◌++◌, length, refl, sym, ap, subst, ◌∙◌, Bool, true, false, not, cond, inl, inr, Option, Some, None, Contains, IsSome, slice_get, flat_map, ◌&&◌, ◌||◌, cases_Bool, cases_lt, false≢true, and_parts, and_from, or_cases, get_or_past, slice_get-get_or, get_or_from_slice_get, Contains-append_left, Contains-append_right, Contains-append_cases, Name, Value, Parts, Node, MutatorState, World, node_of, state_of, no_mutator, IsWorld, shared_name, parts_of, strong_fields, RefersTo, IsAlive, IsPlain, IsKeptBy, IsLive, IsDead, IsKept, Lists, contains_head, contains_tail, contains_cases, nothing_in, one_is, contains_at, place_of, contains_flat, flat_contains, names_among, is_listed, contains_listed, not_listed, listed_from, name_among, target_there, part_there, live_there, kept_of, alive_parts, parts_alive, or_left, or_right, not_true, alive_there}
use Rattle.nmgc_world_spec.specs.declared.value.Value.TheVariants as value
use Rattle.nmgc_world_spec.specs.Reach as reach
use Rattle.nmgc_barrier_checker.proofs.{DueLaws.among_ref, DueLaws.kept_is, DueLaws.is_kept, Deciding.some_of, Deciding.some_in, Deciding.in_some, Deciding.Decided, Deciding.all_names, Deciding.listed, Deciding.Settled, Deciding.settled}

-- the targets of a node's strong fields, if there is a node
abbrev refs_in : Option Node → List Name
refs_in None = []
refs_in (Some node) = names_among (strong_fields node)

-- the names that a name's strong fields refer to
abbrev refs : World → Name → List Name
refs w name = refs_in (node_of w name)

-- the values that the mutators hold
abbrev held : World → List Value
held w = flat_map (λ (s : MutatorState). s.registers ++ s.queue) w.mutators

-- a key that is plain, or whose name passes the test
abbrev key_passes : (Name → Bool) → Value → Bool
key_passes test value.Nil = true
key_passes test (value.Number n) = true
key_passes test (value.Ref name) = test name

-- the names that a weak pointer keeps if its key passes
abbrev kept_if : (Name → Bool) → Name → Option Parts → List Name
kept_if test weak None = []
kept_if test weak (Some parts) = cond (key_passes test parts.key) (kept_of weak (Some parts)) []

kept_if_in : (test : Name → Bool) (weak : Name) (parts : Parts) (t : Name) → key_passes test parts.key ≡ true → IsKeptBy weak parts t →
    Contains (kept_if test weak (Some parts)) t
kept_if_in test weak parts t e k = rw e (is_kept weak parts t k)

in_kept_if : (test : Name → Bool) (weak : Name) (parts : Parts) (t : Name) → Contains (kept_if test weak (Some parts)) t →
    (key_passes test parts.key ≡ true) × IsKeptBy weak parts t
in_kept_if test weak parts t c = elim (cases_Bool (key_passes test parts.key)) [
  | inl e ↦ (e, kept_is weak parts t (rw e at c))
  | inr f ↦ absurd (nothing_in t (rw f at c))
]

refs_refer : (w : World) (m n : Name) → Contains (refs w m) n → RefersTo w m n
refs_refer w m n c = by_node (node_of w m) refl c
  where
    by_node : (o : Option Node) → node_of w m ≡ o → Contains (refs_in o) n → RefersTo w m n
    by_node None e d = absurd (nothing_in n d)
    by_node (Some node) e d = (node, e, among_ref (strong_fields node) n d)

refer_refs : (w : World) (m n : Name) → RefersTo w m n → Contains (refs w m) n
refer_refs w m n r = subst (λ (o : Option Node). Contains (refs_in o) n) (sym r.1) (name_among (strong_fields r.0) n r.2)

-- a name that a mutator holds is a root
held_root : (w : World) (n : Name) → Contains (names_among (held w)) n → (m : ℕ) × Contains ((state_of w m).registers ++ (state_of w m).queue) (value.Ref n)
held_root w n c =
    let p : (s : MutatorState) × Contains w.mutators s × Contains (s.registers ++ s.queue) (value.Ref n) =
    flat_contains (λ (s : MutatorState). s.registers ++ s.queue) w.mutators (value.Ref n) (among_ref (held w) n c) in
    let i : (k : ℕ) × (slice_get w.mutators k ≡ Some p.0) = place_of w.mutators p.0 p.1 in
    (i.0, subst (λ (s : MutatorState). Contains (s.registers ++ s.queue) (value.Ref n)) (sym (get_or_from_slice_get w.mutators i.0 p.0 no_mutator i.1)) p.2)

root_held : (w : World) (n : Name) (m : ℕ) → Contains ((state_of w m).registers ++ (state_of w m).queue) (value.Ref n) → Contains (names_among (held w)) n
root_held w n m c = elim (cases_lt m (length w.mutators)) [
  | inl lt ↦ name_among (held w) n (contains_flat (λ (s : MutatorState). s.registers ++
      s.queue) w.mutators (state_of w m) (value.Ref n) (contains_at w.mutators m (state_of w m) (slice_get-get_or w.mutators m no_mutator lt)) c)
  | inr le ↦ absurd (nothing_in (value.Ref n) (rw (get_or_past w.mutators m no_mutator le) at c))
]

module _ (w : World) (is : IsWorld w) (extra : List Name) where
  abbrev all : List Name
  all = (all_names w).0

  complete : (n : Name) → IsSome (node_of w n) → Contains all n
  complete n there = (all_names w).1.complete n there

  -- a name of the world that isn't free
  abbrev known : List Name → Name → Bool
  known free n = is_listed n all && not (is_listed n free)

  known_from : (free : List Name) (n : Name) → IsSome (node_of w n) → is_listed n free ≡ false → known free n ≡ true
  known_from free n there e = and_from (is_listed n all) (not (is_listed n free)) (listed_from n all (complete n there)) (ap not e)

  abbrev starts : List Name
  starts = shared_name ∷ (names_among (held w) ++ extra)

  abbrev by_field : List Name → Name → Bool
  by_field free n = some_of (λ m. known free m && is_listed n (refs w m)) all

  abbrev by_weak : List Name → Name → Bool
  by_weak free n = some_of (λ weak. is_listed n (kept_if (known free) weak (parts_of w weak))) all

  abbrev live_rule : List Name → Name → Bool
  live_rule free n = is_listed n starts || (by_field free n || by_weak free n)

  -- each rule is a rule of the definition
  module _ (free : List Name) (outside : (n : Name) → Contains all n → is_listed n free ≡ false → IsLive w extra n) where
    known_live : (n : Name) → known free n ≡ true → IsLive w extra n
    known_live n e = let p : (is_listed n all ≡ true) × (not (is_listed n free) ≡ true) = and_parts (is_listed n all) (not (is_listed n free)) e in
        outside n (contains_listed n all p.0) (not_true (is_listed n free) p.1)

    start_live : (n : Name) → Contains all n → Contains starts n → IsLive w extra n
    start_live n there c = elim (contains_cases shared_name (names_among (held w) ++ extra) n c) [
      | inl same ↦ reach.root n (inl (sym same))
      | inr d ↦ elim (Contains-append_cases (names_among (held w)) extra n d) [
        | inl h ↦ reach.root n (inr (held_root w n h))
        | inr x ↦ reach.further n x ((all_names w).1.sound n there)
      ]
    ]

    field_live : (n : Name) → by_field free n ≡ true → IsLive w extra n
    field_live n e =
        let f : (m : Name) × Contains all m × ((known free m && is_listed n (refs w m)) ≡ true) = some_in (λ m. known free m && is_listed n (refs w m)) all e in
        let p : (known free f.0 ≡ true) × (is_listed n (refs w f.0) ≡ true) = and_parts (known free f.0) (is_listed n (refs w f.0)) f.2 in
        reach.field f.0 n (known_live f.0 p.0) (refs_refer w f.0 n (contains_listed n (refs w f.0) p.1))

    weak_live : (n : Name) → by_weak free n ≡ true → IsLive w extra n
    weak_live n e =
        let f : (weak : Name) × Contains all weak × (is_listed n (kept_if (known free) weak (parts_of w weak)) ≡ true) =
        some_in (λ weak. is_listed n (kept_if (known free) weak (parts_of w weak))) all e in
        by_parts f.0 (parts_of w f.0) refl (contains_listed n (kept_if (known free) f.0 (parts_of w f.0)) f.2)
      where
        by_key : (weak : Name) (parts : Parts) → IsAlive w weak parts → IsKeptBy weak parts n → (v : Value) → parts.key ≡ v →
            key_passes (known free) v ≡ true → IsLive w extra n
        by_key weak parts alive kept value.Nil e t = reach.plain_key weak n parts alive (subst IsPlain (sym e) tt) kept
        by_key weak parts alive kept (value.Number k) e t = reach.plain_key weak n parts alive (subst IsPlain (sym e) tt) kept
        by_key weak parts alive kept (value.Ref key) e t = reach.live_key weak n key parts alive e (known_live key t) kept

        by_parts : (weak : Name) (o : Option Parts) → parts_of w weak ≡ o → Contains (kept_if (known free) weak o) n → IsLive w extra n
        by_parts weak None e c = absurd (nothing_in n c)
        by_parts weak (Some parts) e c =
            let p : (key_passes (known free) parts.key ≡ true) × IsKeptBy weak parts n = in_kept_if (known free) weak parts n c in
            by_key weak parts (alive_parts w weak parts e) p.1 parts.key refl p.0

    live_sound : (n : Name) → Contains all n → live_rule free n ≡ true → IsLive w extra n
    live_sound n there e = elim (or_cases (is_listed n starts) (by_field free n || by_weak free n) e) [
      | inl s ↦ start_live n there (contains_listed n starts s)
      | inr r ↦ elim (or_cases (by_field free n) (by_weak free n) r) [ inl f ↦ field_live n f | inr k ↦ weak_live n k ]
    ]

  abbrev live_set : Settled all live_rule (IsLive w extra)
  live_set = settled all live_rule (IsLive w extra) live_sound

  fires : (n : Name) → live_rule live_set.free n ≡ true → is_listed n live_set.free ≡ false
  fires n e = elim (cases_Bool (is_listed n live_set.free)) [
    | inl t ↦ absurd (false≢true (sym (live_set.inside n (contains_listed n live_set.free t)) ∙ e))
    | inr f ↦ f
  ]

  field_fires : (m target : Name) → IsSome (node_of w m) → is_listed m live_set.free ≡ false → RefersTo w m target → is_listed target live_set.free ≡ false
  field_fires m target there out r =
      fires target (or_right (is_listed target starts) (by_field live_set.free target || by_weak live_set.free target)
      (or_left (by_field live_set.free target) (by_weak live_set.free target)
      (in_some (λ x. known live_set.free x && is_listed target (refs w x)) all m (complete m there)
      (and_from (known live_set.free m) (is_listed target (refs w m)) (known_from live_set.free m there out)
      (listed_from target (refs w m) (refer_refs w m target r))))))

  weak_fires : (weak target : Name) (parts : Parts) → IsAlive w weak parts → key_passes (known live_set.free) parts.key ≡ true →
      IsKeptBy weak parts target → is_listed target live_set.free ≡ false
  weak_fires weak target parts alive e kept =
      let there : Contains (kept_if (known live_set.free) weak (parts_of w weak)) target =
      rw (parts_alive w weak parts alive) (kept_if_in (known live_set.free) weak parts target e kept) in
      fires target (or_right (is_listed target starts) (by_field live_set.free target || by_weak live_set.free target)
      (or_right (by_field live_set.free target) (by_weak live_set.free target)
      (in_some (λ x. is_listed target (kept_if (known live_set.free) x (parts_of w x))) all weak (complete weak (alive_there w weak parts alive))
      (listed_from target (kept_if (known live_set.free) weak (parts_of w weak)) there))))

  start_fires : (n : Name) → Contains starts n → is_listed n live_set.free ≡ false
  start_fires n c = fires n (or_left (is_listed n starts) (by_field live_set.free n || by_weak live_set.free n) (listed_from n starts c))

  plain_passes : (v : Value) → IsPlain v → key_passes (known live_set.free) v ≡ true
  plain_passes value.Nil p = refl
  plain_passes (value.Number n) p = refl
  plain_passes (value.Ref n) p = absurd p

  live_out : (n : Name) → IsLive w extra n → is_listed n live_set.free ≡ false
  live_out n (reach.root n' (inl g)) = start_fires n' (rw g (contains_head shared_name (names_among (held w) ++ extra)))
  live_out n (reach.root n' (inr h)) = start_fires n' (contains_tail shared_name (names_among (held w) ++
      extra) n' (Contains-append_left (names_among (held w)) extra n' (root_held w n' h.0 h.1)))
  live_out n (reach.further n' c there) = start_fires n' (contains_tail shared_name (names_among (held w) ++
      extra) n' (Contains-append_right (names_among (held w)) extra n' c))
  live_out n (reach.field m target l r) = field_fires m target (live_there w extra is m l) (live_out m l) r
  live_out n (reach.plain_key weak target parts alive plain kept) = weak_fires weak target parts alive (plain_passes parts.key plain) kept
  live_out n (reach.live_key weak target key parts alive e l kept) =
      weak_fires weak target parts alive (rw e (known_from live_set.free key (live_there w extra is key l) (live_out key l))) kept

  pub live_decided : Decided (IsLive w extra)
  live_decided = record {
    test = known live_set.free;
    yes = λ n e. let p : (is_listed n all ≡ true) × (not (is_listed n live_set.free) ≡ true) = and_parts (is_listed n all) (not (is_listed n live_set.free)) e in
        live_set.outside n (contains_listed n all p.0) (not_true (is_listed n live_set.free) p.1);
    no = λ n l. known_from live_set.free n (live_there w extra is n l) (live_out n l);
  }

  -- dead weak pointers
  module _ (finalised : List Name) where
    abbrev key_lost : Value → Bool
    key_lost value.Nil = false
    key_lost (value.Number n) = false
    key_lost (value.Ref name) = not (live_decided.test name)

    abbrev dead_test : Name → Option Parts → Bool
    dead_test weak None = false
    dead_test weak (Some parts) = not (is_listed weak finalised) && key_lost parts.key

    dead_yes : (weak : Name) (o : Option Parts) → parts_of w weak ≡ o → dead_test weak o ≡ true → IsDead w extra finalised weak
    dead_yes weak None e t = absurd (false≢true t)
    dead_yes weak (Some parts) e t =
        let p : (not (is_listed weak finalised) ≡ true) × (key_lost parts.key ≡ true) =
        and_parts (not (is_listed weak finalised)) (key_lost parts.key) t in by_key parts.key refl p.1 p.0
      where
        by_key : (v : Value) → parts.key ≡ v → key_lost v ≡ true → not (is_listed weak finalised) ≡ true → IsDead w extra finalised weak
        by_key value.Nil k lost fresh = absurd (false≢true lost)
        by_key (value.Number n) k lost fresh = absurd (false≢true lost)
        by_key (value.Ref key) k lost fresh = record {
          parts = parts;
          alive = alive_parts w weak parts e;
          not_finalised = not_listed weak finalised (not_true (is_listed weak finalised) fresh);
          key = key;
          key_is = k;
          lost = λ l. false≢true (sym (not_true (live_decided.test key) lost) ∙ live_decided.no key l);
        }

    listed_not : (n : Name) (xs : List Name) → (Contains xs n → ⊥) → is_listed n xs ≡ false
    listed_not n xs never = elim (cases_Bool (is_listed n xs)) [ inl t ↦ absurd (never (contains_listed n xs t)) | inr f ↦ f ]

    live_not : (n : Name) → (IsLive w extra n → ⊥) → live_decided.test n ≡ false
    live_not n never = elim (cases_Bool (live_decided.test n)) [ inl t ↦ absurd (never (live_decided.yes n t)) | inr f ↦ f ]

    dead_no : (weak : Name) → IsDead w extra finalised weak → dead_test weak (parts_of w weak) ≡ true
    dead_no weak d = rw (parts_alive w weak d.parts d.alive) (and_from (not (is_listed weak finalised)) (key_lost d.parts.key) (ap not (listed_not weak finalised d.not_finalised)) (rw d.key_is (ap not (live_not d.key d.lost))))

    pub dead_decided : Decided (IsDead w extra finalised)
    dead_decided = record { test = λ weak. dead_test weak (parts_of w weak); yes = λ weak t. dead_yes weak (parts_of w weak) refl t; no = dead_no }

    pub dead_listed : (names : List Name) × Lists (IsDead w extra finalised) names
    dead_listed = listed w (IsDead w extra finalised) dead_decided (λ weak d. alive_there w weak d.parts d.alive)

    -- kept names
    abbrev finaliser_names : Option Parts → List Name
    finaliser_names None = []
    finaliser_names (Some parts) = names_among (parts.finaliser ∷ [])

    abbrev by_dead : Name → Bool
    by_dead n = some_of (λ weak. dead_decided.test weak && is_listed n (finaliser_names (parts_of w weak))) all

    abbrev kept_rule : List Name → Name → Bool
    kept_rule free n = live_decided.test n || (by_dead n || by_field free n)

    module _ (free : List Name) (outside : (n : Name) → Contains all n → is_listed n free ≡ false → IsKept w extra finalised n) where
      dead_kept : (n : Name) → by_dead n ≡ true → IsKept w extra finalised n
      dead_kept n e =
          let f : (weak : Name) × Contains all weak × ((dead_decided.test weak && is_listed n (finaliser_names (parts_of w weak))) ≡ true) =
          some_in (λ weak. dead_decided.test weak && is_listed n (finaliser_names (parts_of w weak))) all e in
          let p : (dead_decided.test f.0 ≡ true) × (is_listed n (finaliser_names (parts_of w f.0)) ≡ true) =
          and_parts (dead_decided.test f.0) (is_listed n (finaliser_names (parts_of w f.0))) f.2 in
          let d : IsDead w extra finalised f.0 = dead_decided.yes f.0 p.0 in
          let c : Contains (names_among (d.parts.finaliser ∷ [])) n =
          rw (parts_alive w f.0 d.parts d.alive) at (contains_listed n (finaliser_names (parts_of w f.0)) p.1) in
          IsKept.finaliser f.0 n d (one_is d.parts.finaliser (value.Ref n) (among_ref (d.parts.finaliser ∷ []) n c))

      field_kept : (n : Name) → by_field free n ≡ true → IsKept w extra finalised n
      field_kept n e =
          let f : (m : Name) × Contains all m × ((known free m && is_listed n (refs w m)) ≡ true) =
          some_in (λ m. known free m && is_listed n (refs w m)) all e in
          let p : (known free f.0 ≡ true) × (is_listed n (refs w f.0) ≡ true) = and_parts (known free f.0) (is_listed n (refs w f.0)) f.2 in
          let q : (is_listed f.0 all ≡ true) × (not (is_listed f.0 free) ≡ true) = and_parts (is_listed f.0 all) (not (is_listed f.0 free)) p.0 in
          IsKept.field f.0 n (outside f.0 f.1 (not_true (is_listed f.0 free) q.1)) (refs_refer w f.0 n (contains_listed n (refs w f.0) p.1))

      kept_sound : (n : Name) → Contains all n → kept_rule free n ≡ true → IsKept w extra finalised n
      kept_sound n there e = elim (or_cases (live_decided.test n) (by_dead n || by_field free n) e) [
        | inl l ↦ IsKept.live n (live_decided.yes n l)
        | inr r ↦ elim (or_cases (by_dead n) (by_field free n) r) [ inl d ↦ dead_kept n d | inr f ↦ field_kept n f ]
      ]

    abbrev kept_set : Settled all kept_rule (IsKept w extra finalised)
    kept_set = settled all kept_rule (IsKept w extra finalised) kept_sound

    kept_fires : (n : Name) → kept_rule kept_set.free n ≡ true → is_listed n kept_set.free ≡ false
    kept_fires n e = elim (cases_Bool (is_listed n kept_set.free)) [
      | inl t ↦ absurd (false≢true (sym (kept_set.inside n (contains_listed n kept_set.free t)) ∙ e))
      | inr f ↦ f
    ]

    kept_there : (n : Name) → IsKept w extra finalised n → IsSome (node_of w n)
    kept_there n (IsKept.live n' l) = live_there w extra is n' l
    kept_there n (IsKept.finaliser weak target d e) = part_there w is weak target d.parts d.alive (inr (inr e))
    kept_there n (IsKept.field m target h r) = target_there w is m target r

    kept_out : (n : Name) → IsKept w extra finalised n → is_listed n kept_set.free ≡ false
    kept_out n (IsKept.live n' l) = kept_fires n' (or_left (live_decided.test n') (by_dead n' || by_field kept_set.free n') (live_decided.no n' l))
    kept_out n (IsKept.finaliser weak target d e) =
        let there : Contains (finaliser_names (parts_of w weak)) target =
        rw (parts_alive w weak d.parts d.alive) (name_among (d.parts.finaliser ∷
        []) target (subst (λ (v : Value). Contains (d.parts.finaliser ∷ []) v) e (contains_head d.parts.finaliser []))) in
        kept_fires target (or_right (live_decided.test target) (by_dead target || by_field kept_set.free target)
        (or_left (by_dead target) (by_field kept_set.free target)
        (in_some (λ x. dead_decided.test x && is_listed target (finaliser_names (parts_of w x))) all weak
        (complete weak (alive_there w weak d.parts d.alive))
        (and_from (dead_decided.test weak) (is_listed target (finaliser_names (parts_of w weak))) (dead_decided.no weak d)
        (listed_from target (finaliser_names (parts_of w weak)) there)))))
    kept_out n (IsKept.field m target h r) =
        kept_fires target (or_right (live_decided.test target) (by_dead target || by_field kept_set.free target)
        (or_right (by_dead target) (by_field kept_set.free target)
        (in_some (λ x. known kept_set.free x && is_listed target (refs w x)) all m (complete m (kept_there m h))
        (and_from (known kept_set.free m) (is_listed target (refs w m)) (known_from kept_set.free m (kept_there m h) (kept_out m h))
        (listed_from target (refs w m) (refer_refs w m target r))))))

    pub kept_listed : (names : List Name) × Lists (IsKept w extra finalised) names
    kept_listed = listed w (IsKept w extra finalised) (record {
      test = known kept_set.free;
      yes = λ n e. let p : (is_listed n all ≡ true) × (not (is_listed n kept_set.free) ≡ true) = and_parts (is_listed n all) (not (is_listed n kept_set.free)) e in
          kept_set.outside n (contains_listed n all p.0) (not_true (is_listed n kept_set.free) p.1);
      no = λ n k. known_from kept_set.free n (kept_there n k) (kept_out n k);
    }) kept_there
