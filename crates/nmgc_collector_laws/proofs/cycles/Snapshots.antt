-- A machine reached from its snapshot: the names that it still uses, and the later nodes of the snapshot's names.
use Rattle.nmgc_collector_laws.proofs.Vocabulary.{◌≡◌, List, [], ◌∷◌, refl, sym, ap, subst, ◌∙◌, inl, inr, Option, Some, None, IsSome, All, Contains, All-contains, Contains-append_cases, Node, Con, Var, Arr, Thunk, Weak, Stack, Parts, Name, Value, World, IsWorld, node_of, state_of, next_name, step, Row, opened, opened_by, IsLive, IsReached, root, further, plain_key, live_key, step_grows, contains_head, nothing_in, one_is, not_shared, free_if, CanReplay, CountsNew, HoldsOnly, IsSound, IsWide, absent, opened_has, step_holds_only, weaks_held, next_is_new, OfOld, rows_hold, wide_or_new_holds, step_keeps_world, Entry, Facts, State, live_there, facts_kept, snapshot_theorem, AreEarlier, IsEarlier, IsTracked, held_tracked, past_tracked, free_of, IsLater, interval_of, Cycle, IsCoreOf, IsUnread, rows_keep_headers, IsMachineAtRest, of_kept, newest_first}
use Rattle.nmgc_snapshot_laws.specs.Run.{IsMarking}

-- live names are in the wide reach, if the opened names are
live_wide : (S : World) (X : List Name) → ((n : Name) → Contains X n → IsSome (node_of S n) → IsWide S n) → (n : Name) → IsLive S X n → IsWide S n
live_wide S X opens n (root _ r) = IsReached.start n (inl r)
live_wide S X opens n (further _ c there) = opens n c there
live_wide S X opens n (IsLive.field from _ l refers) = IsReached.field from n (live_wide S X opens from l) refers
live_wide S X opens n (plain_key weak _ parts alive plain kept) = IsReached.start n (inr (weak, parts, alive, of_kept weak n parts kept))
live_wide S X opens n (live_key weak _ key parts alive is l kept) = IsReached.start n (inr (weak, parts, alive, of_kept weak n parts kept))

-- rows open only names that were held
opened_held : (P : Name → Type 0) (w : World) (rows : List Row) → IsWorld w → CountsNew P w → HoldsOnly P w → CanReplay w rows → (n : Name) →
    Contains (opened w rows) n → P n
opened_held P w [] is new h can n c = absurd (nothing_in n c)
opened_held P w (row ∷ rows) is new h can n c =
    let v : World = (step w row.mutator row.command).0 in
    let own = not_shared w row.mutator is can.0.mutator in
    let name : Name = next_name (state_of w row.mutator) row.mutator in
    let next : P name = new name (λ there. absent (node_of w name) (next_is_new w row.mutator own) there) in
    elim (Contains-append_cases (opened_by w row.mutator row.command) (opened v rows) n c) [
      | inl first ↦ opened_has P w row.mutator row.command (weaks_held P w h) n first
      | inr later ↦ opened_held P v rows (step_keeps_world w row.mutator row.command is can.0) (λ k gone.
          new k (λ there. gone ((step_grows w row.mutator row.command can.0.mutator).names k there)))
          (step_holds_only P w row.mutator row.command is can.0 next h) can.1 n later
    ]

-- free variables by either name
abbrev listed : Option (List Value) → List Value
listed None = []
listed (Some values) = values

pub record IsReachedBy (S : World) (rows : List Row) (core : State) : Type 0 where
  pub world : IsWorld S
  pub can : CanReplay S rows
  pub facts : Facts core
  pub marking : IsMarking S rows core

pub reached_core : (c : Cycle) (w : World) (core : State) → IsSound (interval_of c) → IsCoreOf c w core → IsReachedBy c.snapshot c.rows core
reached_core c w core sound m = record {
  world = sound.world;
  can = sound.rows;
  facts = facts_kept newest_first c.snapshot sound.world m.events c.rows core m.runs m.open_yet;
  marking = (snapshot_theorem newest_first c.snapshot sound.world m.events c.rows core m.runs).before m.open_yet;
}

pub reached_by : (c : Cycle) (w : World) (core : State) → IsMachineAtRest c w core → IsReachedBy c.snapshot c.rows core
reached_by c w core h = reached_core c w core h.sound h.machine

module _ (S : World) (rows : List Row) (core : State) (h : IsReachedBy S rows core) where
  abbrev Old : Name → Type 0
  Old n = OfOld (IsWide S) S n

  new_counts : CountsNew Old S
  new_counts n gone there = absurd (gone there)

  -- a name of the snapshot that is held was in its wide reach
  holds : HoldsOnly Old core.world
  holds = subst (λ (w : World). HoldsOnly Old w) (sym h.marking.world) (rows_hold Old S rows h.world new_counts (wide_or_new_holds S) h.can)

  opened_wide : (n : Name) → Contains core.opened n → IsSome (node_of S n) → IsWide S n
  opened_wide n c = opened_held Old S rows h.world new_counts (wide_or_new_holds S) h.can n (subst (λ (l : List Name). Contains l n) h.marking.opened c)

  -- a tracked name of the snapshot was in its wide reach
  pub tracked_wide : (n : Name) → IsTracked core.world (core.snapshot ∷ []) n → IsSome (node_of core.snapshot n) → IsWide core.snapshot n
  tracked_wide n t there =
      let same = h.marking.snapshot in
      rw same (held_tracked core.world (core.snapshot ∷ []) Old (λ e k in_ wide known. rw (sym (one_is core.snapshot e in_) ∙
      same) at wide) holds n t (subst (λ (x : World). IsSome (node_of x n)) same there))

  -- marked names were in it
  pub marked_wide : (n : Name) → Contains core.marked n → IsWide S n
  marked_wide n c = live_wide S core.opened opened_wide n (h.marking.live n c)

  pub marked_there : (n : Name) → Contains core.marked n → IsSome (node_of S n)
  marked_there n c = live_there S core.opened h.world n (h.marking.live n c)

  pub marked_tracked : (n : Name) → Contains core.marked n → IsTracked core.world (core.snapshot ∷ []) n
  marked_tracked n c = past_tracked core.world (core.snapshot ∷
      []) core.snapshot n (contains_head core.snapshot []) (rw h.marking.snapshot (marked_wide n c))

  -- entries that wait are marked
  pub queued_marked : (entry : Entry) → Contains core.queue entry → Contains core.marked entry.name
  queued_marked entry c = h.facts.base.queued entry c

  -- the snapshot is an earlier world
  pub snapshot_earlier : IsEarlier core.snapshot core.world
  snapshot_earlier = subst (λ (y : World × World). IsEarlier y.0 y.1) (λ i. (
    sym h.marking.snapshot i,
    sym h.marking.world i,
  )) (rows_keep_headers S rows h.world h.can)

  pub are_earlier : AreEarlier (core.snapshot ∷ []) core.world
  are_earlier e c = subst (λ (x : World). IsEarlier x core.world) (one_is core.snapshot e c) snapshot_earlier

  -- a node of the world is a later node of the snapshot's name
  pub node_later : (name : Name) (before now : Node) → node_of core.snapshot name ≡ Some before → node_of core.world name ≡ Some now → IsLater before now
  node_later name before now was is =
      let there = h.facts.base.later name before was in
      let both : Some there.node ≡ Some now = sym there.node_is ∙ is in
      let same : there.node ≡ now = cc in
      rw (← same) (record {
        header = sym (snapshot_earlier.headers name before there.node was there.node_is);
        free = free_same before there.node there.later.free;
        result = there.later.result;
        alive = λ parts weak. alive_then parts (there.node_is ∙ ap (λ (x : Node). Some x) weak);
      })
    where
      free_same : (a b : Node) → free_if b ≡ free_if a → free_of b ≡ free_of a
      free_same a b e = sym (listed_free b) ∙ ap listed e ∙ listed_free a
        where
          listed_free : (node : Node) → listed (free_if node) ≡ free_of node
          listed_free (Con tag values) = refl
          listed_free (Var v) = refl
          listed_free (Arr values) = refl
          listed_free (Thunk free result) = refl
          listed_free (Weak parts) = refl
          listed_free (Stack size values) = refl

      alive_then : (parts : Parts) → node_of core.world name ≡ Some (Weak (Some parts)) → before ≡ Weak (Some parts)
      alive_then parts alive = let then = (h.facts.base.weaks name parts alive).old (subst (λ (o : Option Node). IsSome o) (sym was) refl) in
          let both : Some before ≡ Some (Weak (Some parts)) = sym was ∙ then in cc

-- nothing was read yet of the objects that wait
pub fresh_at : (queue : List Entry) → All IsUnread queue → (entry : Entry) → Contains queue entry → entry.position ≡ 0
fresh_at queue fresh entry c = All-contains IsUnread queue entry fresh c
