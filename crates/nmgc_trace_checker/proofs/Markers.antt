-- Each cycle of a trace began with a closed world, and got to its state by commands, values handed over, pushes and scans.
use Rattle.nmgc_trace_checker.proofs.Vocabulary.{◌+◌, ℕ, refl, sym, subst, inl, inr, List, [], ◌∷◌, Name, Command, Reply, World, IsWorld, step, new_is_world, closed_world, step_keeps_world, Cycle, Hybrid, IsWatchedIn, beginning, scanned_at_once, Watch, CanAct, AreDone, Meaning, Begun, Comes, Happens}
use Rattle.nmgc_world_spec.specs.World.{value_for}
use Rattle.nmgc_world_laws.specs.laws.Worlds.{holding_keeps, operand_known}
use Rattle.nmgc_barrier_laws.specs.Hybrid.{IsPushedIn, IsTookIn, IsScanned, handed_over}
use Rattle.nmgc_limits.specs.declared.mutators.TheConstants.{REGISTERS}
use Rattle.nmgc_trace_checker.proofs.Returning.{Stood, Stands, after_back}
use Rattle.nmgc_barrier_checker.specs.{declared.event.Event.Event, declared.rows.Task.Task, Rows.emptied, Watching.AreRows, Watching.Can, Watching.CanExit, Watching.CountsAsScanned, Cycles.Hands, Cycles.IsGivenOver, declared.hand.Hand.Hand}
use Rattle.nmgc_barrier_laws.specs.Hybrid as hybrid
use Rattle.nmgc_barrier_checker.specs.declared.event.Event.TheVariants as event
use Rattle.nmgc_barrier_checker.specs.declared.watch.Watch.TheVariants as watch
use Rattle.nmgc_trace_checker.specs.declared.meaning.Meaning.TheVariants as meaning
use Rattle.nmgc_trace_checker.specs.declared.report.Begun.TheVariants as begun

begin : (w : World) → IsWorld w → Stood (scanned_at_once w)
begin w is = record { begins = w; is = is; watches = hybrid.begun_at_once; world = is }

begin_later : (w : World) → IsWorld w → Stood (beginning w)
begin_later w is = record { begins = w; is = is; watches = hybrid.begun; world = is }

given : (h next : Hybrid) (n m : ℕ) (c : Command) (answer : Reply) → Stood h → IsWatchedIn h n m c answer next → Stood next
given h next n m c answer t k = record {
  begins = t.begins;
  is = t.is;
  watches = hybrid.given h next n m c answer t.watches k;
  world = subst (λ (x : Hybrid). IsWorld x.watch.world) (sym k.rest) (step_keeps_world h.watch.world m c t.world k.can);
}

-- a value that is handed over leaves a world closed
hand_world : (w : World) (k : Hand) → IsWorld w → Hands w k → IsWorld (handed_over w k.giver k.value k.taker k.dest)
hand_world w k is can = holding_keeps w k.taker k.dest (value_for w k.giver k.value) is can.taker
    (operand_known w k.giver is can.shows.mutator k.value can.shows.registers)

handed : (h next : Hybrid) (n : ℕ) (k : Hand) → Stood h → IsGivenOver n k h next → Stood next
handed h next n k t g = record {
  begins = t.begins;
  is = t.is;
  watches = hybrid.handed h next n k.giver k.value k.taker k.dest t.watches g;
  world = subst (λ (x : Hybrid). IsWorld x.watch.world) (sym g.rest) (hand_world h.watch.world k t.world g.can);
}

pushed : (h next : Hybrid) (name : Name) → Stood h → IsPushedIn h name next → Stood next
pushed h next name t k = record {
  begins = t.begins;
  is = t.is;
  watches = hybrid.pushed h next name t.watches k;
  world = subst (λ (x : Cycle). IsWorld x.world) (sym k.push.rest) t.world;
}

taken : (h next : Hybrid) (name : Name) → Stood h → IsTookIn h name next → Stood next
taken h next name t k = record {
  begins = t.begins;
  is = t.is;
  watches = hybrid.taken h next name t.watches k;
  world = subst (λ (x : Cycle). IsWorld x.world) (sym k.took.rest) t.world;
}

scanned : (h next : Hybrid) (m : ℕ) → Stood h → IsScanned h m next → Stood next
scanned h next m t k = record {
  begins = t.begins;
  is = t.is;
  watches = hybrid.scanned h next m t.watches k;
  world = subst (λ (x : Hybrid). IsWorld x.watch.world) (sym k.rest) t.world;
}

-- each task of a line with several keeps this fact
after_act : (n m : ℕ) (k : Task) (q after : Watch) → CanAct n m k q after → Stands q → Stands after
after_act n m k (watch.Between w) after can t =
    subst Stands (sym can.2) (subst IsWorld (sym can.1.2) (step_keeps_world w m k.command t can.1.0))
after_act n m k (watch.Marking h) after can t =
    subst Stands (sym can.3) (given h can.0 n m k.command (step h.watch.world m k.command).1 t can.1)
after_act n m k (watch.Ended left) after can t =
    subst Stands (sym can.2) (subst IsWorld (sym can.1.2) (step_keeps_world left.world m k.command t can.1.0))
after_act n m k watch.Stopped after can t = absurd can

after_tasks : (n m : ℕ) (ks : List Task) (q after : Watch) → AreDone n m ks q after → Stands q → Stands after
after_tasks n m [] q after h t = subst Stands (sym h) t
after_tasks n m (k ∷ ks) q after h t = after_tasks n m ks h.0 after h.2 (after_act n m k q h.0 h.1 t)

after_rows : (n m : ℕ) (borrowed : List ℕ) (ks : List Task) (q after : Watch) → AreRows n m borrowed ks q after → Stands q → Stands after
after_rows n m borrowed ks q after h t = after_back n m borrowed ks q h.1.0 after h.0 h.1.1 h.1.2 t (after_tasks n m ks q h.1.0 h.1.1 t)

-- and so does a mutator that counts as scanned
after_count : (m : ℕ) (q after : Watch) → CountsAsScanned m q after → Stands q → Stands after
after_count m (watch.Marking h) after (inl can) t = subst Stands (sym can.2) (scanned h can.0 m t can.1)
after_count m (watch.Between w) after (inl can) t = absurd can
after_count m (watch.Ended left) after (inl can) t = absurd can
after_count m watch.Stopped after (inl can) t = absurd can
after_count m q after (inr stays) t = subst Stands (sym stays.0) t

after_exit : (n m : ℕ) (q after : Watch) → CanExit n m q after → Stands q → Stands after
after_exit n m (watch.Between w) after can t = after_count m can.0 after can.2 (after_rows n m [] (emptied REGISTERS) (watch.Between w) can.0 can.1 t)
after_exit n m (watch.Marking h) after can t = after_count m can.0 after can.2 (after_rows n m [] (emptied REGISTERS) (watch.Marking h) can.0 can.1 t)
after_exit n m (watch.Ended left) after can t = after_count m can.0 after can.2 (after_rows n m [] (emptied REGISTERS) (watch.Ended left) can.0 can.1 t)
after_exit n m watch.Stopped after can t = absurd can.1

-- an event keeps this fact
after_event : (n : ℕ) (q : Watch) (e : Event) (after : Watch) → Can n q e after → Stands q → Stands after
after_event n (watch.Between w) (event.Given m c answer) after can t =
    subst Stands (sym can.2) (subst IsWorld (sym can.1.2) (step_keeps_world w m c t can.1.0))
after_event n (watch.Between w) (event.Rows m borrowed tasks) after can t = after_rows n m borrowed tasks (watch.Between w) after can t
after_event n (watch.Between w) (event.Hand k answer) after can t = subst Stands (sym can.2) (subst IsWorld (sym can.1.2) (hand_world w k t can.1.0))
after_event n (watch.Between w) (event.Exit m) after can t = after_exit n m (watch.Between w) after can t
after_event n (watch.Between w) event.Mark after can t = subst Stands (sym can) (begin w t)
after_event n (watch.Between w) event.MarkShared after can t = subst Stands (sym can) (begin_later w t)
after_event n (watch.Between w) _ after can t = absurd can
after_event n (watch.Marking h) (event.Given m c answer) after can t = subst Stands (sym can.2) (given h can.0 n m c answer t can.1)
after_event n (watch.Marking h) (event.Rows m borrowed tasks) after can t = after_rows n m borrowed tasks (watch.Marking h) after can t
after_event n (watch.Marking h) (event.Scan m) after can t = subst Stands (sym can.2) (scanned h can.0 m t can.1)
after_event n (watch.Marking h) (event.Hand k answer) after can t = subst Stands (sym can.3) (handed h can.0 n k t can.1)
after_event n (watch.Marking h) (event.Exit m) after can t = after_exit n m (watch.Marking h) after can t
after_event n (watch.Marking h) (event.Push name) after can t = subst Stands (sym can.2) (pushed h (record h { watch = can.0 }) name t (record { push = can.1; scanned = refl }))
after_event n (watch.Marking h) (event.Settle m) after can t = subst Stands (sym can.1) t
after_event n (watch.Marking h) (event.Take name) after can t = subst Stands (sym can.2) (taken h (record h { watch = can.0 }) name t (record { took = can.1; scanned = refl }))
after_event n (watch.Marking h) event.Close after can t =
    subst Stands (sym can.2) (subst IsWorld (sym can.1.ends.next_is) (closed_world h.watch.world can.1.dead t.world))
after_event n (watch.Marking h) (event.CloseWith dead) after can t =
    subst Stands (sym can.2) (subst IsWorld (sym can.1.ends.next_is) (closed_world h.watch.world can.1.dead t.world))
after_event n (watch.Marking h) _ after can t = absurd can
after_event n (watch.Ended left) (event.Given m c answer) after can t =
    subst Stands (sym can.2) (subst IsWorld (sym can.1.2) (step_keeps_world left.world m c t can.1.0))
after_event n (watch.Ended left) (event.Rows m borrowed tasks) after can t = after_rows n m borrowed tasks (watch.Ended left) after can t
after_event n (watch.Ended left) (event.Hand k answer) after can t =
    subst Stands (sym can.2) (subst IsWorld (sym can.1.2) (hand_world left.world k t can.1.0))
after_event n (watch.Ended left) (event.Exit m) after can t = after_exit n m (watch.Ended left) after can t
after_event n (watch.Ended left) event.Mark after can t = subst Stands (sym can) (begin left.world t)
after_event n (watch.Ended left) event.MarkShared after can t = subst Stands (sym can) (begin_later left.world t)
after_event n (watch.Ended left) (event.Marked names) after can t = subst Stands (sym can.1) t
after_event n (watch.Ended left) (event.Black names) after can t = subst Stands (sym can.1) t
after_event n (watch.Ended left) (event.Freed names) after can t = subst Stands (sym can.1) t
after_event n (watch.Ended left) event.Stop after can t = subst Stands (sym can) tt
after_event n (watch.Ended left) _ after can t = absurd can
after_event n watch.Stopped (event.Given m c answer) after can t = absurd can
after_event n watch.Stopped (event.Exit m) after can t = absurd can.1
after_event n watch.Stopped _ after can t = absurd can

abbrev StandsIn : Begun → Type 0
StandsIn begun.Nothing = Unit {0}
StandsIn (begun.Watching q) = Stands q

after_line : (n : ℕ) (p : Begun) (t : Meaning) (next : Begun) → Happens n p t next → StandsIn p → StandsIn next
after_line n p meaning.Blank next h s = subst StandsIn (sym h) s
after_line n begun.Nothing (meaning.Mutators count) next h s = subst StandsIn (sym h.2) (new_is_world count h.0 h.1)
after_line n (begun.Watching q) (meaning.Mutators count) next h s = absurd h
after_line n begun.Nothing (meaning.Event e) next h s = absurd h
after_line n (begun.Watching q) (meaning.Event e) next h s = subst StandsIn (sym h.2) (after_event n q e h.0 h.1 s)
after_line n p meaning.Unknown next h s = absurd h

after_lines : (n : ℕ) (p : Begun) (ts : List Meaning) (last : Begun) → Comes n p ts last → StandsIn p → StandsIn last
after_lines n p [] last c s = subst StandsIn (sym c) s
after_lines n p (t ∷ ts) last c s = after_lines (n + 1) c.0 ts last c.2 (after_line n p t c.0 c.1 s)

pub stood_at : (lines : List Meaning) (h : Hybrid) → Comes 1 begun.Nothing lines (begun.Watching (watch.Marking h)) → Stood h
stood_at lines h c = after_lines 1 begun.Nothing lines (begun.Watching (watch.Marking h)) c tt
