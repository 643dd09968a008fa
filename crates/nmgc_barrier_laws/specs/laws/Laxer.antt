-- Lax steps keep the facts.
use Rattle.nmgc_barrier_laws.specs.laws.Vocabulary.{ℕ, subst, inl, inr, IsSome, Name, node_of, State, target_there, part_there, refers, IsSafe, IsAhead, Kept, Base, Facts, queued, IsShuffled}
use Rattle.nmgc_snapshot_laws.specs.Facts.{unmarked}

-- waiting names in another order: the same state except for the three lists
module _ (s : State) (f : Facts s) (next : State) (h : IsShuffled s next) where
  ahead_on : (name : Name) (i : ℕ) → IsAhead s name i → IsAhead (record s { queue = next.queue; owed = next.owed; pushed = next.pushed }) name i
  ahead_on name i (unmarked n) = unmarked n
  ahead_on name i (queued entry c e le) = queued entry ((h.queue entry).1 c) e le

  safe_on : (name : Name) → IsSome (node_of s.snapshot name) → IsSafe s name →
      IsSafe (record s { queue = next.queue; owed = next.owed; pushed = next.pushed }) name
  safe_on name there k = subst (λ (t : State). IsSafe t name) h.rest (h.safe name there k)

  shuffled_base : Base (record s { queue = next.queue; owed = next.owed; pushed = next.pushed })
  shuffled_base = record {
    snapshot = f.base.snapshot;
    mutators = f.base.mutators;
    serials = f.base.serials;
    owed_lists = rw h.owed_lists f.base.owed_lists;
    pushed_lists = rw h.pushed_lists f.base.pushed_lists;
    holds = f.base.holds;
    fields = f.base.fields;
    weaks = f.base.weaks;
    alive = f.base.alive;
    owed = h.owed;
    pushed = h.pushed;
    later = f.base.later;
    live = f.base.live;
    queued = λ entry c. f.base.queued entry ((h.queue entry).0 c);
    passed = λ entry c. f.base.passed entry ((h.queue entry).0 c);
  }

  kept_on : (name : Name) (i : ℕ) (target : Name) → IsSome (node_of s.snapshot target) → Kept s name i target →
      Kept (record s { queue = next.queue; owed = next.owed; pushed = next.pushed }) name i target
  kept_on name i target there (inl safe) = inl (safe_on target there safe)
  kept_on name i target there (inr k) = inr (k.0, ahead_on name i k.1)

  pub shuffled_facts : Facts (record s { queue = next.queue; owed = next.owed; pushed = next.pushed })
  shuffled_facts = record {
    base = shuffled_base;
    roots = f.roots;
    kept = λ name i target st.
        kept_on name i target (target_there s.snapshot f.base.snapshot name target (refers s.snapshot name target i st)) (f.kept name i target st);
    opened = λ name c there. safe_on name there (f.opened name c there);
    ended = λ weak c there. safe_on weak there (f.ended weak c there);
    finalised = λ weak target parts c alive kept.
        safe_on target (part_there s.snapshot f.base.snapshot weak target parts alive kept) (f.finalised weak target parts c alive kept);
  }
