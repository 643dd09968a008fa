-- If no weak pointer is left that keeps anything new, exactly the live names are marked. Once the finalisers of the dying are
-- marked, exactly the kept names are marked, so the machine has closed.
use Rattle.std.proofs.Common.{◌≡◌, ◌↔◌, Bool, true, false, List, [], refl, sym, subst, inl, inr}
use Rattle.std.specs.Prelude.{Contains}
use Rattle.nmgc_world_spec.specs.{declared.value.Name.Name, declared.value.Value.Value, declared.node.Parts.Parts, Reach.IsAlive, Reach.IsPlain, Reach.IsKeptBy, Reach.IsDead, Reach.IsKept, Reach.Lists, Reach.RefersTo, Reach.closed}
use Rattle.nmgc_world_spec.specs.declared.value.Value.TheVariants as value
use Rattle.nmgc_world_spec.specs.Reach as reach
use Rattle.nmgc_snapshot_laws.specs.{Closing.IsWaiting, Closing.IsClosing, Facts.IsLiveIn, Facts.Facts, Machine.AreEmpty, State.State, State.is_listed, laws.Listed.contains_listed, laws.Listed.not_listed, laws.Lives.stands, laws.Ending.dead_dying, laws.Ending.dying_dead, laws.Ending.kept_last, laws.Ending.last_kept, laws.Ending.dying_lists, laws.Ending.none_ahead, laws.Ending.safe_marked}
use Rattle.nmgc_weak.specs.Steps.{IsKeyMarked, IsLost}

-- if nothing waits, is owed or is pushed, safe names are marked, and the fields of marked names are marked
module _ (s : State) (f : Facts s) (queue : s.queue ≡ []) (owed : AreEmpty s.owed) (pushed : AreEmpty s.pushed) where
  pub field_marked : (name target : Name) → Contains s.marked name → RefersTo s.snapshot name target → Contains s.marked target
  field_marked name target c r =
      let i = stands s.snapshot name target r in
      elim (f.kept name i.0 target i.1) [
        | inl safe ↦ safe_marked s f queue owed pushed target safe
        | inr ahead ↦ absurd (none_ahead s f queue owed pushed name i.0 c ahead.1)
      ]

  -- once every waiting weak pointer with a marked key has marked its parts, all live names are marked
  module _ (full : (weak target : Name) (parts : Parts) → IsWaiting s weak parts → IsKeyMarked s.marked parts.key → IsKeptBy weak parts target →
      Contains s.marked target) where
    by_weak : (weak target : Name) (parts : Parts) → IsAlive s.snapshot weak parts → IsKeyMarked s.marked parts.key → IsKeptBy weak parts target →
        Contains s.marked target
    by_weak weak target parts alive shown kept = by_test (is_listed weak s.finalised) refl
      where
        by_test : (b : Bool) → is_listed weak s.finalised ≡ b → Contains s.marked target
        by_test true e = safe_marked s f queue owed pushed target (f.finalised weak target parts (contains_listed weak s.finalised e) alive kept)
        by_test false e = full weak target parts (record { alive = alive; not_finalised = not_listed weak s.finalised e }) shown kept

    plain_shown : (v : Value) → IsPlain v → IsKeyMarked s.marked v
    plain_shown value.Nil p = tt
    plain_shown (value.Number n) p = tt
    plain_shown (value.Ref name) p = absurd p

    pub live_marked : (name : Name) → IsLiveIn s name → Contains s.marked name
    live_marked name (reach.root n r) = f.roots n r
    live_marked name (reach.further n c there) = safe_marked s f queue owed pushed n (f.opened n c there)
    live_marked name (reach.field n target l r) = field_marked n target (live_marked n l) r
    live_marked name (reach.plain_key weak target parts alive plain kept) = by_weak weak target parts alive (plain_shown parts.key plain) kept
    live_marked name (reach.live_key weak target key parts alive is l kept) =
        by_weak weak target parts alive (subst (IsKeyMarked s.marked) (sym is) (live_marked key l)) kept

    -- a lost weak pointer dies
    pub lost_dead : (weak : Name) → IsLost s weak → IsDead s.snapshot s.opened s.finalised weak
    lost_dead weak l = by_key l.parts.key refl
      where
        by_key : (v : Value) → l.parts.key ≡ v → IsDead s.snapshot s.opened s.finalised weak
        by_key value.Nil e = absurd (l.lost (subst (IsKeyMarked s.marked) (sym e) tt))
        by_key (value.Number n) e = absurd (l.lost (subst (IsKeyMarked s.marked) (sym e) tt))
        by_key (value.Ref key) e = record {
          parts = l.parts;
          alive = l.waiting.alive;
          not_finalised = l.waiting.not_finalised;
          key = key;
          key_is = e;
          lost = λ live. l.lost (subst (IsKeyMarked s.marked) (sym e) (live_marked key live));
        }

    pub dead_lost : (weak : Name) → IsDead s.snapshot s.opened s.finalised weak → IsLost s weak
    dead_lost weak d = record {
      parts = d.parts;
      waiting = record { alive = d.alive; not_finalised = d.not_finalised };
      lost = λ shown. d.lost (f.base.live d.key (let c : IsKeyMarked s.marked (value.Ref d.key) = subst (IsKeyMarked s.marked) d.key_is shown in c));
    }

-- a state that may close, with its end given by live and kept names alone
module _ (s : State) (f : Facts s) (queue : s.queue ≡ []) (owed : AreEmpty s.owed) (pushed : AreEmpty s.pushed) where
  pub closes : (dead marked : List Name) → Lists (IsDead s.snapshot s.opened s.finalised) dead →
      ((name : Name) → Contains marked name ↔ IsKept s.snapshot s.opened s.finalised name) →
      (c : IsClosing s (record s { world = closed s.world dead; marked = marked; is_closed = true })) × (c.dead ≡ dead)
  closes dead marked lists kept = (
    record {
      dead = dead;
      lists = record {
        ordered = lists.ordered;
        sound = λ name c. dead_dying s f queue owed pushed name (lists.sound name c);
        complete = λ name d. lists.complete name (dying_dead s f queue owed pushed name d);
      };
      marked = λ name. (λ c. kept_last s f queue owed pushed name ((kept name).0 c), λ l. (kept name).1 (last_kept s f queue owed pushed name l));
      rest = refl;
    },
    refl,
  )

  -- and the dead and kept names of a closing
  pub closed_dead : (next : State) (c : IsClosing s next) → Lists (IsDead s.snapshot s.opened s.finalised) c.dead
  closed_dead next c = dying_lists s f queue owed pushed c.dead c.lists

  pub closed_kept : (next : State) → IsClosing s next → (name : Name) → Contains next.marked name ↔ IsKept s.snapshot s.opened s.finalised name
  closed_kept next c name = (λ m. last_kept s f queue owed pushed name ((c.marked name).0 m), λ k. (c.marked name).1 (kept_last s f queue owed pushed name k))
