-- A marking cycle, kept over a round, a promotion and an add; and its pace.
use Rattle.nmgc_collector_laws.proofs.Vocabulary.{◌≡◌, ◌≢◌, ◌-◌, ◌*◌, ◌<◌, ◌≤◌, ℕ, true, false, List, [], ◌∷◌, map, length, refl, sym, ap, subst, ◌∙◌, arith, inl, inr, Some, Contains, slice_get, filter, Name, World, IsWorld, IsSound, nothing_in, item, not_none, nursery_place, Layout, Entry, is_pushed_in, Core, names_of, newest_first, opening_in, AllocState, IsOne, IsIn, cycle_begun, Place, rows_in, IsFinished, places_then, now, Opening, View, Mutator, interval_of, Cycle, IsMarking, EachMutator, weak_count, ListsNumbers, AreAt, AreRemembered, IsCoreOf, IsTied, HasRoomToMark, HasListedNothing, HasNoted, epoch_of, CollectorSeen, MutatorSeen, CycleSeen, SweeperSeen, MarkerSeen, next_cycle, cycle_started, one_more, GoesOn, IsMachineAtRest, with_rows, places_after, NoneRemember, HasLeft, ShowEntries, PromotionKeepsMarking, PaceAfterRound, PaceAtStop, PaceBegins, none_at_first, each_empty}
use Rattle.nmgc_run_spec.specs.Run.{State}
use Rattle.nmgc_segment.specs.declared.state.State.TheVariants as stands
use Rattle.nmgc_collector_laws.proofs.{cycles.Beginning.IsBegun, cycles.Beginning.begun, cycles.Pushing.all_empty, cycles.Snapshots.IsReachedBy, cycles.Snapshots.reached_core, cycles.Staying.remembered_stays, cycles.Staying.tie_is_kept, cycles.Taking.HasTaken}

-- if nothing is remembered, nothing that counts was pushed
none_at : (places : List Place) (names : List Name) → AreAt places [] names → names ≡ []
none_at places [] h = refl
none_at places (name ∷ names) h = absurd h

none_pushed : (c : Cycle) (places : List Place) (entries : List ℕ) (pushed : List Name) → entries ≡ [] → AreRemembered c places entries pushed → pushed ≡ []
none_pushed c places entries pushed none r =
    let names : r.names ≡ [] = none_at places r.names (subst (λ (l : List ℕ). AreAt places l r.names) none r.at) in
    sym r.counted ∙ ap (λ (l : List Name). filter (is_pushed_in c.snapshot) l) names

-- if nothing is remembered, no entry is anywhere
none_low : (seen : CollectorSeen) → NoneRemember seen → (k : ℕ) (mutator : MutatorSeen) → slice_get seen.mutators k ≡ Some mutator → (at : ℕ) →
    Contains mutator.entries at → at < nursery_place seen.segments.layout 0
none_low seen nothing k mutator there at d = absurd (nothing_in at (subst (λ (l : List ℕ). Contains l at) (nothing k mutator there) d))

-- a cycle begins: the marker has the marks that the machine gives the roots, and the sweeper has noted the segments to sweep
pub cycle_is_marking : (s : State) (seen : CollectorSeen) (places : List Place) → IsWorld s.world →
    IsTied (next_cycle s) (cycle_begun s.allocation) seen.segments places seen.marker (opening_in newest_first s.world) → HasRoomToMark seen.segments seen.marker
    → EachMutator seen (λ m mutator. weak_count s.world m seen.weaks ≤ mutator.queue.spare) → NoneRemember seen → seen.cycle.from ≡ s.number →
    HasNoted (next_cycle s) seen.sweeper → HasListedNothing seen.sweeper
    → IsMarking (next_cycle s) (cycle_started s) seen places
cycle_is_marking s seen places world tied room queue_room nothing from noted nothing_listed =
    let core : Core = opening_in newest_first s.world in
    let b : IsBegun s.world core = begun s.world in
    let none : (k : ℕ) → names_of core.pushed k ≡ [] = λ k. ap (λ (l : List (List Name)). names_of l k) b.pushed_is ∙
    none_at_first (length s.world.mutators) k in
    record {
      core = core;
      machine = record {
        events = [];
        runs = (refl, refl);
        open_yet = b.open_yet;
        world_is = b.world_is;
        handed = λ name owed there. absurd (nothing_in name owed);
        nothing_owed = all_empty core.owed (λ k lt. ap (λ (l : List (List Name)). names_of l k) b.owed_is ∙ none_at_first (length s.world.mutators) k);
      };
      tied = tied;
      remembered = λ k mutator there. subst (λ (y : List ℕ × List Name). AreRemembered (next_cycle s) places y.0 y.1) (λ i.
          (sym (nothing k mutator there) i, sym (none k) i)) (record { names = []; at = tt; counted = refl });
      low = none_low seen nothing;
      room = room;
      queue_room = queue_room;
      from_is = from;
      noted = noted;
      nothing_listed = nothing_listed;
    }

-- at a stop the machine is at rest, and the objects that it has to scan are in the marker's queue
pub stop_is_at_rest : (c : Cycle) (s : State) (seen : CollectorSeen) (places : List Place) (h : IsMarking c s seen places) → IsSound (interval_of c) →
    length seen.mutators ≡ length s.world.mutators → NoneRemember seen →
    IsMachineAtRest c s.world h.core × AreAt places seen.marker.queue (map (λ (entry : Entry). entry.name) h.core.queue)
stop_is_at_rest c s seen places h sound many nothing =
    let core : Core = h.core in
    let r : IsReachedBy c.snapshot c.rows core = reached_core c s.world core sound h.machine in
    let lists = r.facts.base.pushed_lists in
    let same : length core.world.mutators ≡ length s.world.mutators = ap (λ (w : World). length w.mutators) h.machine.world_is in (
      record {
        sound = sound;
        machine = h.machine;
        none_pushed = all_empty core.pushed (λ k lt. let m = item seen.mutators k (omega arith) in
            none_pushed c places m.0.entries (names_of core.pushed k) (nothing k m.0 m.1) (h.remembered k m.0 m.1));
        fresh = h.tied.fresh;
      },
      h.tied.queue,
    )

-- the sweeper's notes stay
still_noted : (c d : Cycle) (old new : SweeperSeen) → d.number ≡ c.number → d.heap ≡ c.heap → new ≡ old → HasNoted c old → HasNoted d new
still_noted c d old new number heap same n = subst (HasNoted d) (sym same) (record {
  epoch = n.epoch ∙ ap (λ k. epoch_of k) (sym number);
  swept = subst (λ (a : AllocState). ListsNumbers (λ k. IsOne (IsIn stands.Filled) a k) old.swept) (sym heap) n.swept;
})

-- a sweeper that listed nothing still has listed nothing
still_nothing : (old new : SweeperSeen) → new ≡ old → HasListedNothing old → HasListedNothing new
still_nothing old new same n = subst HasListedNothing (sym same) n

-- over a round: with the machine as it goes on, and a marker that is tied to it and has room
pub round_keeps_marking : (c : Cycle) (s t : State) (old new : CollectorSeen) (o : Opening) (words : List ℕ) (v : View) (h : IsFinished o words v)
    (mutators : List Mutator) (core : Core) → IsMarking c s old o.places → GoesOn c o words v h mutators core → t.world ≡ (now o h.events).world
    → IsTied (with_rows c (rows_in h.events)) t.allocation new.segments (places_then o h.born) new.marker core →
    HasRoomToMark new.segments new.marker → new.segments.layout ≡ o.layout → HasLeft c old new → ShowEntries new mutators
    → IsMarking (with_rows c (rows_in h.events)) t new (places_then o h.born)
round_keeps_marking c s t old new o words v h mutators core was goes world tied room layout left entries =
    let d : Cycle = with_rows c (rows_in h.events) in
    record {
      core = core;
      machine = subst (λ (w : World). IsCoreOf d w core) (sym world) goes.machine;
      tied = tied;
      remembered = λ k mutator there.
          let m = entries k mutator there in
          subst (λ (l : List ℕ). AreRemembered d (places_then o h.born) l (names_of core.pushed k)) (sym m.2) (goes.remembered k m.0 m.1);
      low = λ k mutator there at d.
          let m = entries k mutator there in
          subst (λ (l : Layout). at < nursery_place l 0) (sym layout) (goes.low k m.0 m.1 at (subst (λ (l : List ℕ). Contains l at) m.2 d));
      room = room;
      queue_room = left.queue_room;
      from_is = ap (λ (x : CycleSeen). x.from) left.cycle ∙ was.from_is;
      noted = still_noted c d old.sweeper new.sweeper refl refl left.sweeper was.noted;
      nothing_listed = still_nothing old.sweeper new.sweeper left.sweeper was.nothing_listed;
    }

pub promotion_keeps_marking : PromotionKeepsMarking
promotion_keeps_marking c s old new t words after registers queues moves placed sound world was promoted same left entries =
    let core : Core = was.core in
    let machine : IsCoreOf c t.world core = subst (λ (w : World). IsCoreOf c w core) (sym world) was.machine in
    let low : (k : ℕ) (mutator : MutatorSeen) → slice_get old.mutators k ≡ Some mutator → (at : ℕ) → Contains mutator.entries at →
    at < nursery_place new.segments.layout 0 = λ k mutator there at d.
    subst (λ (l : Layout). at < nursery_place l 0) (sym promoted.layout_is) (was.low k mutator there at d) in
    let kept = tie_is_kept c t old.segments new.segments words after registers queues moves s.allocation placed old.marker core promoted sound.world
    machine was.tied in
    record {
      core = core;
      machine = was.machine;
      tied = subst (λ (m : MarkerSeen). IsTied c placed new.segments (places_after new.segments moves t) m core) (sym same) kept.0;
      remembered = λ k mutator there.
          let m = entries k mutator there in
          rw m.2 (remembered_stays c t new.segments moves m.0.entries (names_of core.pushed k) (low k m.0 m.1) (was.remembered k m.0 m.1));
      low = λ k mutator there at d. let m = entries k mutator there in low k m.0 m.1 at (subst (λ (l : List ℕ). Contains l at) m.2 d);
      room = subst (λ (m : MarkerSeen). HasRoomToMark new.segments m) (sym same) (kept.1 was.room);
      queue_room = left.queue_room;
      from_is = ap (λ (x : CycleSeen). x.from) left.cycle ∙ was.from_is;
      noted = still_noted c c old.sweeper new.sweeper refl refl left.sweeper was.noted;
      nothing_listed = still_nothing old.sweeper new.sweeper left.sweeper was.nothing_listed;
    }

-- once the marker has added the remembered entries, which the machine took, nothing is remembered any more
pub add_keeps_marking : (c : Cycle) (s : State) (old new : CollectorSeen) (places : List Place) (names : List Name) (core : Core)
    (h : IsMarking c s old places) → HasTaken c s.world h.core names core → IsTied c s.allocation new.segments places new.marker core →
    HasRoomToMark new.segments new.marker → HasLeft c old new → NoneRemember new →
    IsMarking c s new places
add_keeps_marking c s old new places names core was taken tied room left nothing = record {
  core = core;
  machine = taken.machine;
  tied = tied;
  remembered = λ k mutator there.
      let none : names_of core.pushed k ≡ [] = each_empty core.pushed taken.none_pushed k in
      subst (λ (y : List ℕ × List Name). AreRemembered c places y.0 y.1) (λ i. (sym (nothing k mutator there) i, sym none i)) (record {
        names = [];
        at = tt;
        counted = refl;
      });
  low = none_low new nothing;
  room = room;
  queue_room = left.queue_room;
  from_is = ap (λ (x : CycleSeen). x.from) left.cycle ∙ was.from_is;
  noted = still_noted c c old.sweeper new.sweeper refl refl left.sweeper was.noted;
  nothing_listed = still_nothing old.sweeper new.sweeper left.sweeper was.nothing_listed;
}

pub pace_after_round : PaceAfterRound
pace_after_round quota c rows s t old new one was from next scans grows most least empty found =
    let before = was.scanned in
    let rounds : t.number - c.from - 1 ≡ s.number - c.from = omega arith in
    let same : (t.number - c.from - 1) * quota ≡ (s.number - c.from) * quota = ap (λ k. k * quota) rounds in
    record {
      scanned = omega arith;
      most = most;
      some = λ later.
          let waits : 1 ≤ length old.marker.queue = not_none old.marker.queue (was.not_done (omega arith)) in
          elim least [
            | inl whole ↦ omega arith
            | inr done ↦ let none : length new.marker.queue ≡ 0 = ap (λ (l : List ℕ). length l) (empty.0 done) in omega arith
          ];
      quota_or_done = least;
      empty = empty;
      found = found;
    }

not_empty : (old new : List ℕ) → length old ≤ length new → old ≢ [] → new ≢ []
not_empty [] new long some = absurd (some refl)
not_empty (x ∷ old) [] long some = absurd (omega arith)
not_empty (x ∷ old) (y ∷ new) long some = λ e. cc

pub pace_at_stop : PaceAtStop
pace_at_stop quota c t old new was later more scans grows =
    let before = was.scanned in
    let whole : old.work.scanned ≡ quota = elim was.quota_or_done [ inl q ↦ q | inr done ↦ absurd (let bad : true ≡ false = sym done ∙ more in cc) ] in
    let rounds = one_more t.number c.from quota (omega arith) in
    record {
      scanned = omega arith;
      not_done = λ after. not_empty old.marker.queue new.marker.queue (omega arith) (λ none. let done = (was.empty).1 none in
          let bad : true ≡ false = sym done ∙ more in cc);
    }

pub pace_begins : PaceBegins
pace_begins quota c s seen at_once waits =
    let none : s.number - c.from ≡ 0 = omega arith in
    let rounds : (s.number - c.from) * quota ≡ 0 = ap (λ k. k * quota) none ∙ (omega arith) in
    record { scanned = omega arith; not_done = λ later. absurd (omega arith) }
