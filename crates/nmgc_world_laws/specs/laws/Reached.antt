-- All reachable names are among the names that are held.
use Rattle.std.specs.Prelude.{◌≡◌, ◌⊎◌, ◌∷◌}
use Rattle.nmgc_world_laws.specs.laws.Vocabulary.{ℕ, List, [], Option, Some, None, refl, sym, subst, ◌∙◌, inl, inr, IsSome, Contains, All-contains, Contains-append_left, Contains-append_right, Contains-append_cases, Name, Value, Ref, Parts, Node, Weak, World, IsWorld, IsKnown, AreKnown, IsNodeOf, node_of, state_of, next_name, step, Row, replayed, IsReached, IsRoot, IsAlive, RefersTo, Lists, closed, closed_by, strong_fields, contains_head, contains_tail, contains_cases, at_some, nothing_in, name_cases, IsOfWeak, IsWide, HoldsOnly, CountsNew, CanReplay, ClosingHoldsOnly, StepAddsOne, ClosingAddsNone, StaysUnreached, IsNotLost, NothingReachableIsFreed, Stretch, continued, CanContinue, NeverComesBack, NothingReachableIsEverFreed, ReachableIsKept, ReachableIsEverKept, Interval, IsKeptAfter}
use Rattle.nmgc_world_laws.specs.laws.{Growth.step_grows, Nodes.fields_known, Worlds.not_shared, NodeLaws.next_is_new, WorldSteps.step_keeps_world, HeldSteps.absent, HeldSteps.some_of, HeldSteps.step_holds_only, LiveRows.world_after, LiveRows.replayed_names, Deaths.Dies, Deaths.dies_by, Deaths.closed_world, Deaths.closed_names, Closes.closes_well}

-- a set that has all held names has the whole wide reach
pub wide_is_held : (P : Name → Type 0) (w : World) → HoldsOnly P w → (name : Name) → IsWide w name → P name
wide_is_held P w h name (IsReached.start _ (inl root)) = h.roots name root
wide_is_held P w h name (IsReached.start _ (inr weak)) = h.weaks weak.0 name weak.1 weak.2 weak.3
wide_is_held P w h name (IsReached.field from _ reached refers) = h.fields from name (wide_is_held P w h from reached) refers

-- the wide reach has all held names
pub wide_holds : (w : World) → HoldsOnly (IsWide w) w
wide_holds w = record {
  roots = λ n root. IsReached.start n (inl root);
  fields = λ from n reached refers. IsReached.field from n reached refers;
  weaks = λ weak n parts alive of. IsReached.start n (inr (weak, parts, alive, of));
}

-- a name that refers to another has a node
pub from_there : (w : World) (name target : Name) → RefersTo w name target → IsSome (node_of w name)
from_there w name target r = some_of (node_of w name) r.0 r.1

-- a name has P if it is in the world; each name outside the world counts too
abbrev pub OfOld : (Name → Type 0) → World → Name → Type 0
OfOld P w name = IsSome (node_of w name) → P name

-- the wide reach with all new names has all held names
pub wide_or_new_holds : (w : World) → HoldsOnly (OfOld (IsWide w) w) w
wide_or_new_holds w = record {
  roots = λ n root there. IsReached.start n (inl root);
  fields = λ from n p refers there. IsReached.field from n (p (from_there w from n refers)) refers;
  weaks = λ weak n parts alive of there. IsReached.start n (inr (weak, parts, alive, of));
}

-- rows: each name held after them was held before, or is new
pub rows_hold : (P : Name → Type 0) (w : World) (rows : List Row) → IsWorld w → CountsNew P w → HoldsOnly P w → CanReplay w rows → HoldsOnly P (replayed w rows)
rows_hold P w [] is new h can = h
rows_hold P w (row ∷ rows) is new h can =
    let own = not_shared w row.mutator is can.0.mutator in
    let next : P (next_name (state_of w row.mutator) row.mutator) =
    new (next_name (state_of w row.mutator) row.mutator) (λ there.
    absent (node_of w (next_name (state_of w row.mutator) row.mutator)) (next_is_new w row.mutator own) there) in
    rows_hold P (step w row.mutator row.command).0 rows
    (step_keeps_world w row.mutator row.command is can.0)
    (λ name gone. new name (λ there. gone ((step_grows w row.mutator row.command can.0.mutator).names name there)))
    (step_holds_only P w row.mutator row.command is can.0 next h)
    can.1

-- a death brings nothing back
death_holds : (P : Name → Type 0) (w v : World) (d : Name) → Dies w v d → HoldsOnly P w → HoldsOnly P v
death_holds P w v d dies h = record {
  roots = root;
  fields = λ from n p refers. elim (dies.nodes from) [
    | inl same ↦ h.fields from n p (refers.0, sym same ∙ refers.1, refers.2)
    | inr gone ↦ absurd (let node : Weak None ≡ refers.0 = (let both : Some (Weak None) ≡ Some refers.0 = sym gone.1 ∙ refers.1 in cc) in
        nothing_in (Ref n) (subst (λ (x : Node). Contains (strong_fields x) (Ref n)) (sym node) refers.2))
  ];
  weaks = λ weak n parts alive of. elim (dies.nodes weak) [
    | inl same ↦ h.weaks weak n parts (sym same ∙ alive) of
    | inr gone ↦ absurd (let both : Some (Weak None) ≡ Some (Weak (Some parts)) = sym gone.1 ∙ alive in cc)
  ];
}
  where
    in_queue : (k : ℕ) (n : Name) → Contains (state_of w k).queue (Ref n) → P n
    in_queue k n c = h.roots n (inr (k, Contains-append_right (state_of w k).registers (state_of w k).queue (Ref n) c))

    same_queue : (k : ℕ) (n : Name) → (state_of v k).queue ≡ (state_of w k).queue → Contains (state_of v k).queue (Ref n) → P n
    same_queue k n e c = in_queue k n (subst (λ (l : List Value). Contains l (Ref n)) e c)

    root : (n : Name) → IsRoot v n → P n
    root n (inl e) = h.roots n (inl e)
    root n (inr r) = elim (Contains-append_cases (state_of v r.0).registers (state_of v r.0).queue (Ref n) r.1) [
      | inl c ↦ h.roots n (inr (
        r.0,
        Contains-append_left (state_of w r.0).registers (state_of w r.0).queue (Ref n) (rw (dies.registers r.0) at c),
      ))
      | inr c ↦ elim (dies.queues r.0) [
        | inl same ↦ same_queue r.0 n same c
        | inr more ↦ elim more.2 [
          | inl same ↦ same_queue r.0 n same c
          | inr joined ↦ elim (Contains-append_cases (state_of w r.0).queue (more.0.finaliser ∷
              []) (Ref n) (rw joined at c)) [
                | inl old ↦ in_queue r.0 n old
                | inr last ↦ elim (contains_cases more.0.finaliser [] (Ref n) last) [
                  | inl is ↦ h.weaks d n more.0 more.1 (inr (inr (inr is)))
                  | inr none ↦ absurd (nothing_in (Ref n) none)
                ]
              ]
        ]
      ]
    ]

pub closed_holds : (P : Name → Type 0) → ClosingHoldsOnly P
closed_holds P w [] is h = h
closed_holds P w (d ∷ dead) is h = let dies = dies_by w is d in
    closed_holds P (closed_by w d (node_of w d)) dead dies.world (death_holds P w (closed_by w d (node_of w d)) d dies h)

-- the wide reach after a command, after a closing, and after rows
pub step_adds_one : StepAddsOne
step_adds_one w m c is can name wide =
    let P : Name → Type 0 = λ n. IsWide w n ⊎ (n ≡ next_name (state_of w m) m) in
    wide_is_held P (step w m c).0 (step_holds_only P w m c is can (inr refl) begun) name wide
  where
    none_next : (target : Name) → RefersTo w (next_name (state_of w m) m) target → ⊥
    none_next target r = absent (node_of w (next_name (state_of w m) m)) (next_is_new w m (not_shared w m is can.mutator))
        (from_there w (next_name (state_of w m) m) target r)

    begun : HoldsOnly (λ n. IsWide w n ⊎ (n ≡ next_name (state_of w m) m)) w
    begun = record {
      roots = λ n root. inl (IsReached.start n (inl root));
      fields = λ from n p refers. elim p [
        | inl reached ↦ inl (IsReached.field from n reached refers)
        | inr e ↦ absurd (none_next n (subst (λ (k : Name). RefersTo w k n) e refers))
      ];
      weaks = λ weak n parts alive of. inl (IsReached.start n (inr (weak, parts, alive, of)));
    }

pub closing_adds_none : ClosingAddsNone
closing_adds_none w weaks is name wide = wide_is_held (IsWide w) (closed w weaks) (closed_holds (IsWide w) w weaks is (wide_holds w)) name wide

pub stays_unreached : StaysUnreached
stays_unreached w rows is can name there wide =
    wide_is_held (OfOld (IsWide w) w) (replayed w rows) (rows_hold (OfOld (IsWide w) w) w rows is (λ n gone there.
    absurd (gone there)) (wide_or_new_holds w) can) name wide there

pub nothing_reachable_is_freed : NothingReachableIsFreed
nothing_reachable_is_freed i dead since sound lists more name wide =
    let w : World = closed (replayed i.snapshot i.rows) dead in
    let well = closes_well i dead sound lists in
    wide_is_held (IsNotLost i) (replayed w since)
    (rows_hold (IsNotLost i) w since well.world (λ n gone old. absurd (gone (well.names n old))) well.holds more)
    name wide

-- stretches of commands, each with its closing
pub continued_hold : (P : Name → Type 0) (w : World) (later : List Stretch) → IsWorld w → CountsNew P w → HoldsOnly P w → CanContinue w later →
    HoldsOnly P (continued w later)
continued_hold P w [] is new h can = h
continued_hold P w (stretch ∷ later) is new h can =
    let u : World = replayed w stretch.rows in
    let world : IsWorld u = world_after w stretch.rows is can.0 in
    continued_hold P (closed u stretch.closing) later
    (closed_world u stretch.closing world)
    (λ name gone. new name (λ there. gone (closed_names u stretch.closing world name (replayed_names w stretch.rows can.0 name there))))
    (closed_holds P u stretch.closing world (rows_hold P w stretch.rows is new h can.0))
    can.1

pub never_comes_back : NeverComesBack
never_comes_back w later is can name there wide =
    wide_is_held (OfOld (IsWide w) w) (continued w later) (continued_hold (OfOld (IsWide w) w) w later is (λ n gone there.
    absurd (gone there)) (wide_or_new_holds w) can) name wide there

pub nothing_reachable_is_ever_freed : NothingReachableIsEverFreed
nothing_reachable_is_ever_freed i dead later sound lists can name wide =
    let w : World = closed (replayed i.snapshot i.rows) dead in
    let well = closes_well i dead sound lists in
    wide_is_held (IsNotLost i) (continued w later)
    (continued_hold (IsNotLost i) w later well.world (λ n gone old. absurd (gone (well.names n old))) well.holds can)
    name wide

-- a name is listed or not
pub listed_cases : (names : List Name) (name : Name) → Contains names name ⊎ (Contains names name → ⊥)
listed_cases [] name = inr (nothing_in name)
listed_cases (x ∷ xs) name = elim (name_cases x name) [
  | inl e ↦ let P : Name → Type 0 = Contains (x ∷ xs) in inl (subst P e (contains_head x xs))
  | inr other ↦ elim (listed_cases xs name) [
    | inl c ↦ inl (contains_tail x xs name c)
    | inr none ↦ inr (λ c. elim (contains_cases x xs name c) [ inl e ↦ other e | inr d ↦ none d ])
  ]
]

-- so a list of exactly the kept names has each name that isn't lost
not_lost_listed : (i : Interval) (kept : List Name) → Lists (IsKeptAfter i) kept → (name : Name) → IsSome (node_of i.snapshot name) →
    IsNotLost i name → Contains kept name
not_lost_listed i kept lists name there not_lost = elim (listed_cases kept name) [
  | inl c ↦ c
  | inr none ↦ absurd (not_lost there (λ k. none (lists.complete name k)))
]

pub reachable_is_kept : ReachableIsKept
reachable_is_kept i dead kept since sound lists all more name there wide =
    not_lost_listed i kept all name there (nothing_reachable_is_freed i dead since sound lists more name wide)

pub reachable_is_ever_kept : ReachableIsEverKept
reachable_is_ever_kept i dead kept later sound lists all can name there wide =
    not_lost_listed i kept all name there (nothing_reachable_is_ever_freed i dead later sound lists can name wide)

-- each name that a world holds is one of its own names

pub world_holds : (w : World) → IsWorld w → HoldsOnly (λ n. IsSome (node_of w n)) w
world_holds w is = record {
  roots = root;
  fields = λ from n there refers.
      All-contains (IsKnown w) (strong_fields refers.0) (Ref n)
      (fields_known w refers.0 (at_some (node_of w from) refers.0 (IsNodeOf w) refers.1 (is.nodes from)).known) refers.2;
  weaks = λ weak n parts alive of. part weak n parts alive (at_some (node_of w weak) (Weak (Some parts)) (IsNodeOf w) alive (is.nodes weak)).known of;
}
  where
    root : (n : Name) → IsRoot w n → IsSome (node_of w n)
    root n (inl e) = subst (λ (x : Name). IsSome (node_of w x)) (sym e) refl
    root n (inr r) = elim (Contains-append_cases (state_of w r.0).registers (state_of w r.0).queue (Ref n) r.1) [
      | inl c ↦ All-contains (IsKnown w) (state_of w r.0).registers (Ref n) (is.known_registers r.0) c
      | inr c ↦ All-contains (IsKnown w) (state_of w r.0).queue (Ref n) (is.known_queue r.0) c
    ]

    part : (weak n : Name) (parts : Parts) → IsAlive w weak parts → AreKnown w (parts.key ∷ parts.value ∷ parts.finaliser ∷ []) →
        IsOfWeak weak parts n → IsSome (node_of w n)
    part weak n parts alive known (inl e) = rw e (let Q : Option Node → Type 0 = λ o. IsSome o in
        subst Q (sym alive) refl)
    part weak n parts alive known (inr (inl e)) = All-contains (IsKnown w) (parts.key ∷ parts.value ∷ parts.finaliser ∷
        []) (Ref n) known (subst (λ (x : Value). Contains (parts.key ∷ parts.value ∷ parts.finaliser ∷
        []) x) e (contains_head parts.key (parts.value ∷ parts.finaliser ∷ [])))
    part weak n parts alive known (inr (inr (inl e))) = All-contains (IsKnown w) (parts.key ∷ parts.value ∷ parts.finaliser ∷
        []) (Ref n) known (subst (λ (x : Value). Contains (parts.key ∷ parts.value ∷ parts.finaliser ∷
        []) x) e (contains_tail parts.key (parts.value ∷ parts.finaliser ∷ []) parts.value (contains_head parts.value (parts.finaliser ∷ []))))
    part weak n parts alive known (inr (inr (inr e))) = All-contains (IsKnown w) (parts.key ∷ parts.value ∷ parts.finaliser ∷
        []) (Ref n) known (subst (λ (x : Value). Contains (parts.key ∷ parts.value ∷ parts.finaliser ∷
        []) x) e (contains_tail parts.key (parts.value ∷ parts.finaliser ∷
        []) parts.finaliser (contains_tail parts.value (parts.finaliser ∷ []) parts.finaliser (contains_head parts.finaliser []))))

pub wide_known : (w : World) → IsWorld w → (n : Name) → IsWide w n → IsSome (node_of w n)
wide_known w is n wide = wide_is_held (λ m. IsSome (node_of w m)) w (world_holds w is) n wide
