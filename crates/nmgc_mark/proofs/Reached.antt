-- Once nothing is queued, owed or pushed, all that is reachable from the snapshot's roots is marked.
use Rattle.nmgc_mark.proofs.Vocabulary.{◌≡◌, inl, inr, ℕ, List, [], ◌∷◌, refl, arith, Contains, IsSome, Name, node_of, shared_name, IsReached, IsRoot, start, field, State, names_of, Facts, Kept, IsAhead, owed, pushed, queued, marked, stands, live_there}
use Rattle.nmgc_snapshot_laws.specs.Facts.{IsSafe, unmarked}

none_in : {A : Type 0} (xs : List A) (x : A) → xs ≡ [] → Contains xs x → ⊥
none_in [] x e c = let lt = c.1 in omega arith
none_in (y ∷ xs) x e c = cc

module _ (s : State) (f : Facts s) (queue : s.queue ≡ []) (none_owed : (m : ℕ) → names_of s.owed m ≡ []) (none_pushed : (m : ℕ) →
    names_of s.pushed m ≡ []) where
  safe_is : (name : Name) → IsSafe s name → Contains s.marked name
  safe_is name (marked c) = c
  safe_is name (owed m c) = absurd (none_in (names_of s.owed m) name (none_owed m) c)
  safe_is name (pushed m c) = absurd (none_in (names_of s.pushed m) name (none_pushed m) c)

  not_ahead : (name : Name) (i : ℕ) → Contains s.marked name → IsAhead s name i → ⊥
  not_ahead name i c (unmarked not) = not c
  not_ahead name i c (queued entry q e le) = none_in s.queue entry queue q

  kept_is : (name : Name) (i : ℕ) (target : Name) → Contains s.marked name → Kept s name i target → Contains s.marked target
  kept_is name i target c (inl safe) = safe_is target safe
  kept_is name i target c (inr (there, ahead)) = absurd (not_ahead name i c ahead)

  pub reached_marked : (name : Name) → IsReached s.snapshot (IsRoot s.snapshot) name → Contains s.marked name
  reached_marked _ (start n root) = f.roots n root
  reached_marked _ (field n target r refers) =
      let c = reached_marked n r in
      let i = stands s.snapshot n target refers in
      kept_is n i.0 target c (f.kept n i.0 target i.1)

-- marked names are names of the snapshot, and g is marked
pub marked_there : (s : State) → Facts s → ((name : Name) → Contains s.marked name → IsSome (node_of s.snapshot name)) × Contains s.marked shared_name
marked_there s f = (λ name c. live_there s.snapshot s.opened f.base.snapshot name (f.base.live name c), f.roots shared_name (inl refl))
