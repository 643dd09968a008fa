-- Passing over the weak pointers in the closing, until exactly the names of `IsMarkedFirst` are marked.
use Rattle.nmgc_core.proofs.Vocabulary.{◌≡◌, ◌<◌, ◌+◌, ℕ, List, [], ◌∷◌, ◌++◌, length, get_or, take, refl, sym, ap, subst, ◌∙◌, arith, Bool, true, false, eqb, inl, inr, ◌⊎◌, Option, Some, All, Contains, IsSome, cases_Bool, false≢true, eqb-true, eq-eqb, take_more, Contains-push_cases, Contains-get_or, Name, Value, Parts, World, node_of, IsMarked, mark_of, IsAlive, IsKeptBy, IsPlain, Lists, IsSetOf, parts_of, is_key_marked, contains_head, contains_tail, contains_cases, nothing_in, Finding, State, IsWaiting, IsUnmarked, IsRevived, IsMarkedFirst, Adds, IsSearch, IsReached, IsFollowed, IsWaitingWeak, values_kept, IsReviving, AreRevived, IsPass, IsFirstFound, parts_from_alive, same_ref}
use Rattle.nmgc_world_spec.specs.declared.value.Value.TheVariants as value

-- marking keeps the invariant of the search
pub adds_search : (s : State) (f t : Finding) (values : List Value) → Adds s.snapshot f t values → IsSearch s f → IsSearch s t
adds_search s f t values a h = record {
  places = a.places;
  begun = λ n c. a.kept n (h.begun n c);
  waiting = λ n c. elim (a.waiting n c) [
    | inl d ↦ let w = h.waiting n d in (a.kept n w.0, w.1)
    | inr m ↦ (m.0, λ k. m.1 (h.begun n k))
  ];
  traced = λ n target m new r there. elim (a.fresh n m) [
    | inl before ↦ elim (h.traced n target before new r there) [
      | inl c ↦ inl (a.waits n c)
      | inr k ↦ inr (a.kept target k)
    ]
    | inr fresh ↦ inl fresh.2
  ];
}

-- a name of the snapshot that the search hasn't marked was not marked before the closing
pub was_unmarked : (s : State) (f : Finding) (n : Name) → IsSearch s f → mark_of f.marks n ≡ false → IsSome (node_of s.snapshot n) → IsUnmarked s n
was_unmarked s f n h e there = record { there = there; unmarked = λ c. false≢true (sym e ∙ h.begun n c) }

-- the search that begins with the marked names
pub begins : (s : State) (f : Finding) → ((n : Name) → Contains s.marked n → IsSome (node_of s.snapshot n)) → IsSetOf s.snapshot s.marked f.marks →
    f.work ≡ [] → IsReviving s f
begins s f there set empty = record {
  search = record {
    places = set.places;
    begun = λ n c. set.complete n c (there n c);
    waiting = λ n c. absurd (nothing_in n (rw empty at c));
    traced = λ n target m new r known. absurd (new (set.sound n m));
  };
  sound = λ n m. inl (set.sound n m);
}

-- a target that a weak pointer keeps is among the values that it marks
weak_hits : (weak target : Name) (parts : Parts) → IsKeptBy weak parts target →
    Contains (value.Ref weak ∷ parts.value ∷ parts.finaliser ∷ []) (value.Ref target)
weak_hits weak target parts (inl e) = rw e (contains_head (value.Ref weak) (parts.value ∷ parts.finaliser ∷ []))
weak_hits weak target parts (inr (inl e)) =
    subst (λ (v : Value). Contains (value.Ref weak ∷ parts.value ∷ parts.finaliser ∷ []) v) e (contains_tail (value.Ref weak) (parts.value ∷
    parts.finaliser ∷ []) parts.value (contains_head parts.value (parts.finaliser ∷ [])))
weak_hits weak target parts (inr (inr e)) =
    subst (λ (v : Value). Contains (value.Ref weak ∷ parts.value ∷ parts.finaliser ∷ []) v) e (contains_tail (value.Ref weak) (parts.value ∷
    parts.finaliser ∷ []) parts.finaliser (contains_tail parts.value (parts.finaliser ∷ []) parts.finaliser (contains_head parts.finaliser [])))

hits_weak : (weak target : Name) (parts : Parts) → Contains (value.Ref weak ∷ parts.value ∷ parts.finaliser ∷ []) (value.Ref target) →
    IsKeptBy weak parts target
hits_weak weak target parts c = elim (contains_cases (value.Ref weak) (parts.value ∷ parts.finaliser ∷ []) (value.Ref target) c) [
  | inl e ↦ inl (sym (same_ref weak target e))
  | inr d ↦ elim (contains_cases parts.value (parts.finaliser ∷ []) (value.Ref target) d) [
    | inl e ↦ inr (inl e)
    | inr g ↦ elim (contains_cases parts.finaliser [] (value.Ref target) g) [
      | inl e ↦ inr (inr e)
      | inr none ↦ absurd (nothing_in (value.Ref target) none)
    ]
  ]
]

kept_hits : (marks : List (List Bool)) (weak target : Name) (parts : Parts) → is_key_marked marks parts.key ≡ true → IsKeptBy weak parts target →
    Contains (values_kept marks weak (Some parts)) (value.Ref target)
kept_hits marks weak target parts shown kept = rw shown (weak_hits weak target parts kept)

hits_kept : (marks : List (List Bool)) (weak target : Name) (parts : Parts) → Contains (values_kept marks weak (Some parts)) (value.Ref target) →
    (is_key_marked marks parts.key ≡ true) × IsKeptBy weak parts target
hits_kept marks weak target parts c = elim (cases_Bool (is_key_marked marks parts.key)) [
  | inl shown ↦ (shown, hits_weak weak target parts (rw shown at c))
  | inr hidden ↦ absurd (nothing_in (value.Ref target) (rw hidden at c))
]

-- a key that is marked at the end was marked at the start, or waits
key_cases : (snapshot : World) (f t : Finding) (values : List Value) → Adds snapshot f t values → (key : Value) → is_key_marked t.marks key ≡ true →
    (is_key_marked f.marks key ≡ true) ⊎ ((name : Name) × (key ≡ value.Ref name) × Contains t.work name)
key_cases snapshot f t values a value.Nil shown = inl refl
key_cases snapshot f t values a (value.Number n) shown = inl refl
key_cases snapshot f t values a (value.Ref name) shown = elim (a.fresh name shown) [
  | inl old ↦ inl old
  | inr new ↦ inr (name, refl, new.2)
]

-- a marked key revives the targets that its weak pointer keeps
key_revives : (s : State) (f : Finding) → IsReviving s f → (weak target : Name) (parts : Parts) → IsWaiting s weak parts → (key : Value) →
    parts.key ≡ key → is_key_marked f.marks key ≡ true → IsKeptBy weak parts target → IsUnmarked s target → IsRevived s target
key_revives s f h weak target parts w value.Nil is shown kept u = IsRevived.plain_key weak target parts w (rw is tt) kept u
key_revives s f h weak target parts w (value.Number n) is shown kept u = IsRevived.plain_key weak target parts w (rw is tt) kept u
key_revives s f h weak target parts w (value.Ref key) is shown kept u = elim (h.sound key shown) [
  | inl c ↦ IsRevived.marked_key weak target key parts w is c kept u
  | inr v ↦ IsRevived.revived_key weak target key parts w is v kept u
]

-- no weak pointer so far
pub pass_none : (s : State) (f : Finding) → IsReviving s f → IsPass s [] f f
pass_none s f h = record { reviving = h; revived = λ weak target parts c alive shown kept there. absurd (nothing_in weak c); count = refl }

-- one more weak pointer
module _ (s : State) (done : List Name) (old f t : Finding) (weak : Name) (p : IsPass s done old f) (w : IsWaitingWeak s weak)
    (a : Adds s.snapshot f t (values_kept f.marks weak (parts_of s.snapshot weak))) where
  now_sound : (n : Name) → IsMarked t.marks n → IsMarkedFirst s n
  now_sound n m = elim (cases_Bool (mark_of f.marks n)) [
    | inl before ↦ p.reviving.sound n before
    | inr unmarked ↦ elim (a.fresh n m) [
      | inl before ↦ p.reviving.sound n before
      | inr fresh ↦
          let c : Contains (values_kept f.marks weak (Some w.0)) (value.Ref n) =
          subst (λ (o : Option Parts). Contains (values_kept f.marks weak o) (value.Ref n)) (parts_from_alive s.snapshot weak w.0 w.1.alive) fresh.1 in
          let k = hits_kept f.marks weak n w.0 c in
          inr (key_revives s f p.reviving weak n w.0 w.1 w.0.key refl k.0 k.1 (was_unmarked s f n p.reviving.search unmarked fresh.0))
    ]
  ]

  now_hit : (other target : Name) (parts : Parts) → weak ≡ other → IsAlive s.snapshot other parts → is_key_marked f.marks parts.key ≡ true →
      IsKeptBy other parts target → IsSome (node_of s.snapshot target) → IsMarked t.marks target
  now_hit other target parts e alive shown kept there =
      let c : Contains (values_kept f.marks other (parts_of s.snapshot other)) (value.Ref target) =
      subst (λ (o : Option Parts).
      Contains (values_kept f.marks other o) (value.Ref target)) (sym (parts_from_alive s.snapshot other parts alive))
      (kept_hits f.marks other target parts shown kept) in
      a.hit target there (subst (λ (n : Name). Contains (values_kept f.marks n (parts_of s.snapshot n)) (value.Ref target)) (sym e) c)

  now_revived : AreRevived s (done ++ weak ∷ []) t
  now_revived other target parts c alive shown kept there =
      elim (key_cases s.snapshot f t (values_kept f.marks weak (parts_of s.snapshot weak)) a parts.key shown) [
        | inl begun ↦ elim (Contains-push_cases done weak other c) [
          | inl d ↦ elim (p.revived other target parts d alive begun kept there) [
            | inl x ↦ inl (x.0, x.1, a.waits x.0 x.2)
            | inr m ↦ inr (a.kept target m)
          ]
          | inr e ↦ inr (now_hit other target parts e alive begun kept there)
        ]
        | inr x ↦ inl x
      ]

  pub pass_more : IsPass s (done ++ weak ∷ []) old t
  pass_more = record {
    reviving = record { search = adds_search s f t (values_kept f.marks weak (parts_of s.snapshot weak)) a p.reviving.search; sound = now_sound };
    revived = now_revived;
    count = a.count ∙ p.count;
  }

-- the step of a loop over the weak pointers
pub pass_step : (s : State) (old f t : Finding) (weaks : List Name) (i : ℕ) (d : Name) → i < length weaks → All (IsWaitingWeak s) weaks →
    IsPass s (take i weaks) old f → Adds s.snapshot f t (values_kept f.marks (get_or weaks i d) (parts_of s.snapshot (get_or weaks i d))) →
    IsPass s (take (i + 1) weaks) old t
pass_step s old f t weaks i d lt waiting p a = rw (take_more weaks i d lt) (pass_more s (take i weaks) old f t (get_or weaks i d) p (waiting i d lt) a)

-- all listed weak pointers wait
pub listed_wait : (s : State) (weaks : List Name) → Lists (IsWaitingWeak s) weaks → All (IsWaitingWeak s) weaks
listed_wait s weaks l = λ k d lt. l.sound (get_or weaks k d) (Contains-get_or weaks k d lt)

-- following fields marks only names of `IsMarkedFirst`
module _ (s : State) (f t : Finding) (h : IsReviving s f) (k : IsFollowed s f t) where
  reached_first : (n : Name) → IsReached s (IsMarked f.marks) n → IsMarkedFirst s n
  reached_first n (IsReached.start _ m) = h.sound n m
  reached_first n (IsReached.field name _ r new refers u) = elim (reached_first name r) [
    | inl c ↦ absurd (new c)
    | inr v ↦ inr (IsRevived.field name n v refers u)
  ]

  pub first_followed : IsReviving s t
  first_followed = record { search = k.search; sound = λ n m. reached_first n (k.sound n m) }

-- if nothing waits after a pass, all names of `IsMarkedFirst` are marked
module _ (s : State) (weaks : List Name) (l : Lists (IsWaitingWeak s) weaks) (f : Finding) (h : IsReviving s f) (r : AreRevived s weaks f)
    (empty : f.work ≡ []) where
  none_waits : (n : Name) → Contains f.work n → ⊥
  none_waits n c = nothing_in n (rw empty at c)

  plain_shown : (v : Value) → IsPlain v → is_key_marked f.marks v ≡ true
  plain_shown value.Nil p = refl
  plain_shown (value.Number n) p = refl
  plain_shown (value.Ref name) p = absurd p

  by_key : (weak target : Name) (parts : Parts) → IsWaiting s weak parts → is_key_marked f.marks parts.key ≡ true → IsKeptBy weak parts target →
      IsUnmarked s target → IsMarked f.marks target
  by_key weak target parts w shown kept u = elim (r weak target parts (l.complete weak (parts, w)) w.alive shown kept u.there) [
    | inl x ↦ absurd (none_waits x.0 x.2)
    | inr m ↦ m
  ]

  revived_new : (n : Name) → IsRevived s n → Contains s.marked n → ⊥
  revived_new n (IsRevived.plain_key weak _ parts w plain kept u) = u.unmarked
  revived_new n (IsRevived.marked_key weak _ key parts w is c kept u) = u.unmarked
  revived_new n (IsRevived.revived_key weak _ key parts w is v kept u) = u.unmarked
  revived_new n (IsRevived.field name _ v refers u) = u.unmarked

  revived_marked : (n : Name) → IsRevived s n → IsMarked f.marks n
  revived_marked n (IsRevived.plain_key weak _ parts w plain kept u) = by_key weak n parts w (plain_shown parts.key plain) kept u
  revived_marked n (IsRevived.marked_key weak _ key parts w is c kept u) = by_key weak n parts w (rw is (h.search.begun key c)) kept u
  revived_marked n (IsRevived.revived_key weak _ key parts w is v kept u) = by_key weak n parts w (rw is (revived_marked key v)) kept u
  revived_marked n (IsRevived.field name _ v refers u) = elim (h.search.traced name n (revived_marked name v) (revived_new name v) refers u.there) [
    | inl c ↦ absurd (none_waits name c)
    | inr m ↦ m
  ]

  first_marked : (n : Name) → IsMarkedFirst s n → IsMarked f.marks n
  first_marked n (inl c) = h.search.begun n c
  first_marked n (inr v) = revived_marked n v

  pub first_found : IsFirstFound s f
  first_found = record { search = h.search; empty = empty; sound = h.sound; complete = first_marked }

-- the worklist is empty or not
pub empty_list : {A : Type 0} (xs ys : List A) → ys ≡ xs → true ≡ eqb (length ys) 0 → xs ≡ []
empty_list [] ys e t = refl
empty_list (x ∷ xs) ys e t = absurd (let none = eqb-true (length ys) 0 (sym t) in let same = ap length e in omega arith)

pub some_list : {A : Type 0} (xs ys : List A) → ys ≡ xs → false ≡ eqb (length ys) 0 → 0 < length xs
some_list [] ys e t = absurd (false≢true (t ∙ eq-eqb (length ys) 0 (ap length e)))
some_list (x ∷ xs) ys e t = omega arith
