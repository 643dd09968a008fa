-- A cycle that closes with weak pointers: exactly the kept names are marked, and exactly the dead weak pointers die.
use Rattle.nmgc_collector_laws.proofs.Vocabulary.{ℕ, List, refl, sym, subst, inl, inr, Contains, IsSome, Name, World, node_of, shared_name, IsDead, IsKept, Lists, IsSound, finalised_dead, IsClosing, IsRevived, IsRescued, IsExactClosing, State, newest_first, opening_in, closing_is_exact, snapshot_theorem, Segments, AllocState, Opening, IsDeadIn, IsKeptIn, interval_of, Cycle, IsCoreOf, others_counted, once_runs, once_opening, AreOfBlocks, TiesAgree, CycleMayResolve, CycleCloses, facts_of}
use Rattle.nmgc_snapshot_laws.specs.Run.{IsMarking}

marking_of : (c : Cycle) (w : World) (core : State) → IsSound (interval_of c) → IsCoreOf c w core → IsMarking c.snapshot c.rows core
marking_of c w core sound m = (snapshot_theorem newest_first c.snapshot sound.world m.events c.rows core m.runs).before m.open_yet

pub may_resolve : CycleMayResolve
may_resolve c o words s marker weaks sound m pushed empty marking spoken ready listed =
    let k : IsMarking c.snapshot c.rows o.core = marking_of c o.core.world o.core sound m in
    record {
      ready = ready;
      marking = marking;
      facts = facts_of c o.core.world o.core sound m;
      once = (once_runs (opening_in newest_first c.snapshot) m.events c.rows o.core m.runs m.open_yet (once_opening newest_first c.snapshot)).once;
      gone = λ weak parts c_fin alive. finalised_dead c.snapshot c.rows sound.world sound.rows weak parts (rw k.world at alive) (rw k.finalised at c_fin);
      can_close = (m.open_yet, empty, m.nothing_owed, pushed);
      earlier_are = spoken;
      listed = listed;
    }

-- a name marked by a closing is in the snapshot
revived_there : (s : State) (n : Name) → IsRevived s n → IsSome (node_of s.snapshot n)
revived_there s n (IsRevived.plain_key weak _ parts w p k u) = u.there
revived_there s n (IsRevived.marked_key weak _ key parts w p c k u) = u.there
revived_there s n (IsRevived.revived_key weak _ key parts w p c k u) = u.there
revived_there s n (IsRevived.field name _ r f u) = u.there

rescued_there : (s : State) (n : Name) → IsRescued s n → IsSome (node_of s.snapshot n)
rescued_there s n (IsRescued.finaliser weak _ d e u) = u.there
rescued_there s n (IsRescued.field name _ r f u) = u.there

closed_there : (s next : State) → IsClosing s next → ((n : Name) → Contains s.marked n → IsSome (node_of s.snapshot n)) → (n : Name) →
    Contains next.marked n → IsSome (node_of s.snapshot n)
closed_there s next c old n d = elim ((c.marked n).0 d) [
  | inl first ↦ elim first [ inl was ↦ old n was | inr r ↦ revived_there s n r ]
  | inr r ↦ rescued_there s n r
]

-- the places are the blocks for the closed machine too
of_blocks : (o : Opening) (c : Cycle) (s : Segments) (words : List ℕ) (allocation : AllocState) (next : State) → IsClosing o.core next →
    AreOfBlocks o c s words allocation o.core → AreOfBlocks o c s words allocation next
of_blocks o c s words allocation next k h = record {
  sound = h.sound;
  stands = h.stands;
  layout = h.layout;
  cycle = h.cycle;
  apart = h.apart;
  shared = h.shared;
  blocks = h.blocks;
  named = h.named;
  marked = closed_there o.core next k h.marked;
  shared_marked = (k.marked shared_name).1 (inl (inl h.shared_marked));
}

pub cycle_closes : TiesAgree → CycleCloses
cycle_closes ties c s o before words segments marker list deaths sound m pushed empty blocks epoch r =
    let k : IsMarking c.snapshot c.rows o.core = marking_of c s.world o.core sound m in
    let e : IsExactClosing o.core r.next r.closing = closing_is_exact o.core r.next (facts_of c s.world o.core sound m) (
      m.open_yet,
      empty,
      m.nothing_owed,
      pushed,
    ) r.closing in
    let kept : (n : Name) → Contains r.next.marked n → IsKeptIn c n = λ n d.
    subst (λ (y : World × List Name × List Name). IsKept y.0 y.1 y.2 n) (λ i. (k.snapshot i, k.opened i, k.finalised i)) ((e.kept n).0 d) in
    let all : (n : Name) → IsKeptIn c n → Contains r.next.marked n = λ n d.
    (e.kept n).1 (subst (λ (y : World × List Name × List Name). IsKept y.0 y.1 y.2 n) (λ i. (sym k.snapshot i, sym k.opened i, sym k.finalised i)) d) in
    let dead : Lists (IsDeadIn c) r.closing.dead = subst (λ (y : World × List Name × List Name). Lists (IsDead y.0 y.1 y.2) r.closing.dead) (λ i.
    (k.snapshot i, k.opened i, k.finalised i)) e.dead in
    let after = of_blocks o c segments before s.allocation r.next r.closing blocks in
    let tied = (ties o c segments before s.allocation r.next marker after).1 (epoch, r.tied) in
    record {
      lists = dead;
      closes = record { dead = r.closing.dead; lists = dead; rest = refl };
      kept = others_counted (IsKeptIn c) shared_name r.next.marked r.once after.shared_marked kept all marker.marked r.tied.count;
      exact = λ number block name lies. (
        λ marked. kept name ((tied.marks number block name lies).0 marked),
        λ d. (tied.marks number block name lies).1 (all name d),
      );
    }
