-- The names kept by the commands and by the weak pointers that live on are marked by each marker that took all pushed names.
use Rattle.nmgc_barrier_checker.proofs.{Vocabulary.List, Vocabulary.◌++◌, Vocabulary.sym, Vocabulary.◌∙◌, Vocabulary.inl, Vocabulary.inr, Vocabulary.◌⊎◌, Vocabulary.Contains, Vocabulary.cases_Bool, Vocabulary.false≢true, Vocabulary.Contains-append_left, Vocabulary.Contains-append_cases, Vocabulary.Name, Vocabulary.IsWorld, Vocabulary.IsLive, Vocabulary.IsDead, Vocabulary.IsKept, Vocabulary.Lists, Vocabulary.Cycle, Vocabulary.IsKeyLeft, Vocabulary.Needs, Vocabulary.KeptIsMarked, Vocabulary.NeededIsKept, Deciding.Decided, Living.live_decided}
use Rattle.nmgc_world_spec.specs.Reach as reach

module _ (h : Cycle) (is : IsWorld h.snapshot) where
  abbrev more : List Name
  more = h.opened ++ h.remembered

  live_or : (n : Name) → IsLive h.snapshot more n ⊎ (IsLive h.snapshot more n → ⊥)
  live_or n =
      let d : Decided (IsLive h.snapshot more) = live_decided h.snapshot is more in
      elim (cases_Bool (d.test n)) [ inl t ↦ inl (d.yes n t) | inr f ↦ inr (λ l. false≢true (sym f ∙ d.no n l)) ]

  -- further names that were opened, or are live anyway
  module _ (extra : List Name) (within : (n : Name) → Contains extra n → Contains h.opened n ⊎ IsLive h.snapshot more n) where
    live_on : (n : Name) → IsLive h.snapshot extra n → IsLive h.snapshot more n
    live_on n (reach.root n' r) = reach.root n' r
    live_on n (reach.further n' c there) = elim (within n' c) [
      | inl o ↦ reach.further n' (Contains-append_left h.opened h.remembered n' o) there
      | inr l ↦ l
    ]
    live_on n (reach.field m target l r) = reach.field m target (live_on m l) r
    live_on n (reach.plain_key weak target parts alive plain kept) = reach.plain_key weak target parts alive plain kept
    live_on n (reach.live_key weak target key parts alive e l kept) = reach.live_key weak target key parts alive e (live_on key l) kept

    -- the finaliser of a weak pointer that is dead by them is live, or the weak pointer is dead by the pushed names as well
    kept_on : (n : Name) → IsKept h.snapshot extra h.finalised n → IsKept h.snapshot more h.finalised n
    kept_on n (IsKept.live n' l) = IsKept.live n' (live_on n' l)
    kept_on n (IsKept.finaliser weak target d e) = elim (live_or d.key) [
      | inl l ↦ IsKept.live target (reach.live_key weak target d.key d.parts d.alive d.key_is l (inr (inr e)))
      | inr never ↦
          let dead : IsDead h.snapshot more h.finalised weak = record {
            parts = d.parts;
            alive = d.alive;
            not_finalised = d.not_finalised;
            key = d.key;
            key_is = d.key_is;
            lost = never;
          } in
          IsKept.finaliser weak target dead e
    ]
    kept_on n (IsKept.field m target k r) = IsKept.field m target (kept_on m k) r

  -- a weak pointer that doesn't die has a live key
  key_live : (dead : List Name) → Lists (IsDead h.snapshot more h.finalised) dead → (key : Name) → IsKeyLeft h dead key → IsLive h.snapshot more key
  key_live dead l key k = elim (live_or key) [
    | inl y ↦ y
    | inr never ↦ absurd (k.lives (l.complete k.weak (record {
      parts = k.parts;
      alive = k.alive;
      not_finalised = k.not_finalised;
      key = key;
      key_is = k.key_is;
      lost = never;
    })))
  ]

pub kept_is_marked : KeptIsMarked
kept_is_marked h is name k = kept_on h is h.opened (λ n c. inl c) name k

pub needed_is_kept : NeededIsKept
needed_is_kept h left is l name c =
    let n : Needs h l.dead name = l.needed.sound name c in
    let within : (x : Name) → Contains (h.opened ++ n.0) x → Contains h.opened x ⊎ IsLive h.snapshot (h.opened ++ h.remembered) x =
    λ x d. elim (Contains-append_cases h.opened n.0 x d) [
      | inl o ↦ inl o
      | inr k ↦ inr (key_live h is l.dead l.ends.lists x ((n.1 x).0 k))
    ] in
    l.kept.complete name (kept_on h is (h.opened ++ n.0) within name n.2)
