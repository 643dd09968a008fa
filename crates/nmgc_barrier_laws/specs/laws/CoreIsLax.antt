-- Each event of the marking machine except the end is lax. The names that a command owes are one of the allowed choices; a
-- push only hands over; a take marks and then hands over.
use Rattle.std.proofs.{Common.◌≡◌, Common.◌≢◌, Common.◌<◌, Common.ℕ, Common.List, Common.[], Common.◌∷◌, Common.◌++◌, Common.length, Common.refl, Common.sym, Common.subst, Common.arith, Common.length-set, Common.Bool, Common.true, Common.false, Common.cond, lemmas.List.Elements.All-head, lemmas.List.Elements.Contains-append_right}
use Rattle.std.specs.Prelude.{IsSome, All, Contains}
use Rattle.nmgc_world_spec.specs.{declared.value.Name.Name, World.node_of, Known.IsWorld, Known.CanApply, declared.command.Command.Command, Reach.owed_by}
use Rattle.nmgc_snapshot_laws.specs.{State.State, State.names_of, State.mark_name, State.with_mark, State.is_new, Machine.after_push, Machine.after_take, Machine.after_command, Machine.after_scan, laws.Listed.names_same, laws.Marking.mark_facts, laws.Marking.marked_then, Facts.MayHold, Facts.Facts, Facts.owed, Facts.pushed, Facts.marked, laws.Handing.dropped}
use Rattle.nmgc_snapshot_laws.specs.declared.event.Event.TheVariants as event
use Rattle.nmgc_barrier_laws.specs.{Lax.IsGiven, Lax.IsShuffled, Lax.IsLax, Lax.LaxSteps, laws.Given.owes_may, laws.Given.due_owed}
use Rattle.nmgc_barrier_laws.specs.Lax as lax
use Rattle.nmgc_snapshot_laws.specs.laws.Handing as handing

-- a command that owes all names of `owed_by`
pub core_gives : (s : State) → Facts s → IsWorld s.world → (m : ℕ) (c : Command) → CanApply s.world m c → IsGiven s m c (after_command s m c)
core_gives s f w m c can =
    let place : m < length s.owed = let e : length s.owed ≡ length s.world.mutators = f.base.owed_lists in
    let lt : m < length s.world.mutators = can.mutator in omega arith in
    record {
      can = can;
      names = owed_by s.world m c;
      next_is = refl;
      held = owes_may s f w m c can.mutator;
      due = λ target d. owed m (rw (names_same s.owed m (names_of s.owed m ++
          owed_by s.world m c) place) (Contains-append_right (names_of s.owed m) (owed_by s.world m c) target (due_owed s f w m c can.mutator target d)));
    }

module _ (s : State) (f : Facts s) (m : ℕ) (name : Name) (rest : List Name) (first : names_of s.owed m ≡ name ∷ rest) where
  pub push_shuffles : IsShuffled s (after_push s m (name ∷ rest))
  push_shuffles = record {
    rest = refl;
    queue = λ entry. (λ c. c, λ c. c);
    owed_lists = length-set s.owed m rest;
    pushed_lists = length-set s.pushed m _;
    owed = (handing.push_base s f m name rest first).owed;
    pushed = (handing.push_base s f m name rest first).pushed;
    safe = handing.push_safe s f m name rest first;
  }

module _ (s : State) (f : Facts s) (m : ℕ) (name : Name) (rest : List Name) (first : names_of s.pushed m ≡ name ∷
    rest) (done : IsSome (node_of s.snapshot name) → Contains s.marked name) where
  pub drop_shuffles : IsShuffled s (dropped s m rest)
  drop_shuffles = record {
    rest = refl;
    queue = λ entry. (λ c. c, λ c. c);
    owed_lists = refl;
    pushed_lists = length-set s.pushed m rest;
    owed = f.base.owed;
    pushed = (handing.drop_base s f m name rest first done).pushed;
    safe = handing.drop_safe s f m name rest first done;
  }

-- a take: the name is marked, and then it leaves the pushed names
pub record TakesLaxly (s next : State) : Type 0 where
  pub name : Name
  pub may : MayHold s name
  pub between : State
  pub marks : between ≡ mark_name s name
  pub leaves : IsShuffled between next

pub take_is_lax : (s : State) → Facts s → (m : ℕ) (name : Name) (rest : List Name) → names_of s.pushed m ≡ name ∷ rest →
    TakesLaxly s (after_take s m (name ∷ rest))
take_is_lax s f m name rest first =
    let may : MayHold s name = All-head (MayHold s) name rest (subst (All (MayHold s)) first (f.base.pushed m)) in
    record { name = name; may = may; between = mark_name s name; marks = refl; leaves = by_test (is_new s name) (mark_facts s name f may) (marked_then s name) }
  where
    by_test : (b : Bool) → Facts (cond b (with_mark s name) s) →
        (IsSome (node_of s.snapshot name) → Contains (cond b (with_mark s name) s).marked name) →
        IsShuffled (cond b (with_mark s name) s) (cond b (with_mark (dropped s m rest) name) (dropped s m rest))
    by_test true g done = drop_shuffles (with_mark s name) g m name rest first done
    by_test false g done = drop_shuffles s g m name rest first done

-- one step
once : (s next : State) → IsLax s next → LaxSteps s next
once s next h = lax.then s next lax.nothing h

to_next : (s next done : State) → next ≡ done → LaxSteps s done → LaxSteps s next
to_next s next done e h = subst (LaxSteps s) (sym e) h

push_steps : (s : State) → Facts s → (m : ℕ) (owed : List Name) → names_of s.owed m ≡ owed → owed ≢ [] → LaxSteps s (after_push s m owed)
push_steps s f m [] e some = absurd (some refl)
push_steps s f m (name ∷ rest) e some = once s (after_push s m (name ∷ rest)) (lax.shuffled (push_shuffles s f m name rest e))

take_steps : (s : State) → Facts s → (m : ℕ) (pushed : List Name) → names_of s.pushed m ≡ pushed → pushed ≢ [] → LaxSteps s (after_take s m pushed)
take_steps s f m [] e some = absurd (some refl)
take_steps s f m (name ∷ rest) e some =
    let t : TakesLaxly s (after_take s m (name ∷ rest)) = take_is_lax s f m name rest e in
    lax.then t.between (after_take s m (name ∷ rest)) (once s t.between (lax.marked t.name t.may t.marks)) (lax.shuffled t.leaves)

pub core_is_lax : lax.CoreIsLax
core_is_lax s next (event.Command m c answer) f w p other =
    to_next s next (after_command s m c) p.1 (once s (after_command s m c) (lax.given m c (core_gives s f w m c p.0.1)))
core_is_lax s next (event.Push m) f w p other = to_next s next (after_push s m (names_of s.owed m)) p.1 (push_steps s f m (names_of s.owed m) refl p.0.1)
core_is_lax s next event.Scan f w p other = to_next s next (after_scan s s.queue) p.1 (once s (after_scan s s.queue) (lax.scanned refl))
core_is_lax s next (event.Take m) f w p other = to_next s next (after_take s m (names_of s.pushed m)) p.1 (take_steps s f m (names_of s.pushed m) refl p.0.1)
core_is_lax s next event.Close f w p other = absurd (other refl)
