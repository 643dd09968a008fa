-- The names held after rows from a snapshot: live in it, or new.
use Rattle.std.specs.Prelude.{◌≡◌, ◌≢◌, ◌∷◌}
use Rattle.nmgc_world_laws.specs.laws.Vocabulary.{ℕ, List, [], refl, ◌∙◌, Option, Some, None, inl, inr, IsSome, IfSome, Contains, Contains-append_left, Contains-append_right, Operand, Command, SHARED_MAKER, Name, Parts, Node, World, IsWorld, state_of, node_of, CanApply, shared_name, value_for, next_name, step, Row, replayed, opened, opened_by, IsLive, IsAlive, strong_fields, Names, OfParts, Fields, CoversReach, CanReplay, IsLiveOrNew, RowsHoldLive, RowsKeepWorld}
use Rattle.nmgc_world_spec.specs.declared.value.Value.TheVariants as value
use Rattle.nmgc_world_laws.specs.laws.{Growth.step_grows, Worlds.not_shared, NodeLaws.next_is_new, Moves.operand_has, WeakMoves.all_moves, WorldSteps.step_keeps_world, Alive.WeaksOk, Alive.step_weaks, HeldSteps.alive_ok, HeldSteps.absent, HeldSteps.some_of, HeldSteps.values_names}

-- a snapshot, and names that were opened since
module _ (S : World) (X : List Name) where
  abbrev May : Name → Type 0
  May name = IsLiveOrNew S X name

  -- a weak pointer that is alive: if it is the snapshot's, it is as it was there; the parts of a new one may be held
  abbrev pub AsThen : Name → Parts → Type 0
  AsThen weak parts = (IsSome (node_of S weak) → IsAlive S weak parts) × ((IsSome (node_of S weak) → ⊥) → OfParts (IsLiveOrNew S X) parts)

  -- a later world: only live or new names are held, and names that aren't live have their old nodes
  pub record LiveHeld (w : World) : Type 0 where
    pub holds : CoversReach (IsLiveOrNew S X) w
    pub alive : WeaksOk AsThen w
    pub others : (name : Name) → IsSome (node_of S name) → (IsLive S X name → ⊥) → node_of w name ≡ node_of S name
    pub there : (name : Name) → IsSome (node_of S name) → IsSome (node_of w name)

  g_live : May shared_name
  g_live there = IsLive.root shared_name (inl refl)

  next_absent : (w : World) (m : ℕ) → LiveHeld w → m ≢ SHARED_MAKER → IsSome (node_of S (next_name (state_of w m) m)) → ⊥
  next_absent w m h own there = absent (node_of w (next_name (state_of w m) m)) (next_is_new w m own) (h.there (next_name (state_of w m) m) there)

  -- a step keeps all held names live or new
  step_live : (w : World) (m : ℕ) (c : Command) → IsWorld w → CanApply w m c → ((n : Name) → Contains (opened_by w m c) n → Contains X n) →
      LiveHeld w → LiveHeld (step w m c).0
  step_live w m c is can o h =
      let own : m ≢ SHARED_MAKER = not_shared w m is can.mutator in
      let next : May (next_name (state_of w m) m) = λ there. absurd (next_absent w m h own there) in
      let left = all_moves May w m c can.mutator own g_live next (λ n k there. IsLive.further n (o n k) there) h.holds in
      let has : (v : Operand) → Names May (value_for w m v) = λ v. operand_has May (state_of w m).registers v g_live (h.holds.registers m) in
      record {
        holds = left.holds;
        alive = step_weaks AsThen w m c can.mutator own (λ key v finaliser. (
          λ there. absurd (next_absent w m h own there),
          λ gone. (has key, has v, has finaliser),
        )) h.alive;
        others = λ name there dead. left.others name (λ may. dead (may there)) (h.there name there) ∙ h.others name there dead;
        there = λ name there. (step_grows w m c can.mutator).names name (h.there name there);
      }

  rows_live : (w : World) (rows : List Row) → IsWorld w → CanReplay w rows → ((n : Name) → Contains (opened w rows) n → Contains X n) → LiveHeld w →
      LiveHeld (replayed w rows)
  rows_live w [] is can o h = h
  rows_live w (row ∷ rows) is can o h =
      let v : World = (step w row.mutator row.command).0 in
      rows_live v rows (step_keeps_world w row.mutator row.command is can.0) can.1
      (λ n c. o n (Contains-append_right (opened_by w row.mutator row.command) (opened v rows) n c))
      (step_live w row.mutator row.command is can.0 (λ n c. o n (Contains-append_left (opened_by w row.mutator row.command) (opened v rows) n c)) h)

  -- this holds of the snapshot itself
  snapshot_live : LiveHeld S
  snapshot_live = record {
    holds = record {
      registers = λ k. values_names May (state_of S k).registers (λ n c there.
          IsLive.root n (inr (k, Contains-append_left (state_of S k).registers (state_of S k).queue (value.Ref n) c)));
      queues = λ k. values_names May (state_of S k).queue (λ n c there.
          IsLive.root n (inr (k, Contains-append_right (state_of S k).registers (state_of S k).queue (value.Ref n) c)));
      fields = λ name may. fields name may (node_of S name) refl;
    };
    alive = alive_ok AsThen S (λ name parts e. (λ there. e, λ gone. absurd (gone (some_of (node_of S name) _ e))));
    others = λ name there dead. refl;
    there = λ name there. there;
  }
    where
      fields : (name : Name) → May name → (o : Option Node) → node_of S name ≡ o → IfSome o (Fields (Names May))
      fields name may None e = tt
      fields name may (Some node) e = values_names May (strong_fields node) (λ n c there.
          IsLive.field name n (may (some_of (node_of S name) node e)) (node, e, c))

-- rows that begin with the snapshot, with all names that they open
pub live_after : (S : World) (rows : List Row) → IsWorld S → CanReplay S rows → LiveHeld S (opened S rows) (replayed S rows)
live_after S rows is can = rows_live S (opened S rows) S rows is can (λ n c. c) (snapshot_live S (opened S rows))

pub rows_hold_live : RowsHoldLive
rows_hold_live w rows is can = let h : LiveHeld w (opened w rows) (replayed w rows) = live_after w rows is can in (h.holds, h.others)

-- rows leave a world
pub world_after : RowsKeepWorld
world_after w [] is can = is
world_after w (row ∷ rows) is can = world_after (step w row.mutator row.command).0 rows (step_keeps_world w row.mutator row.command is can.0) can.1

-- rows leave each name in the map
pub replayed_names : (w : World) (rows : List Row) → CanReplay w rows → (n : Name) → IsSome (node_of w n) → IsSome (node_of (replayed w rows) n)
replayed_names w [] can n there = there
replayed_names w (row ∷ rows) can n there =
    replayed_names (step w row.mutator row.command).0 rows can.1 n ((step_grows w row.mutator row.command can.0.mutator).names n there)
