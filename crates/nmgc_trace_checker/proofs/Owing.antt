-- The debts of a trace's state: each was there before or is new at its line, and a reason about a due name is about one of them.
use Rattle.nmgc_trace_checker.proofs.Vocabulary.{◌≡◌, ◌⊎◌, ℕ, subst, inl, inr, List, [], ◌∷◌, get_or, Contains, nothing, Name, Command, Reply, World, Cycle, Hybrid, IsWatchedIn, Watch, CanAct, AreDone, Meaning, Begun, Happens}
use Rattle.nmgc_barrier_laws.specs.declared.debt.Debt.{Debt}
use Rattle.nmgc_world_spec.specs.declared.value.Value.{Value}
use Rattle.nmgc_world_spec.specs.declared.value.Value.TheVariants as value
use Rattle.nmgc_barrier_checker.specs.{declared.event.Event.Event, declared.rows.Task.Task, Cycles.IsNotDone, Watching.AreRows, Watching.put, Watching.put_back, Watching.registers_in, Watching.Can, Watching.IsAgainst, Watching.IsAgainstWith, Watching.IsOwed, Watching.IsWhy, Watching.WhyNoAct, declared.hand.Hand.Hand, Cycles.IsWhyNoHand, Rows.emptied, Watching.CountsAsScanned}
use Rattle.nmgc_limits.specs.declared.mutators.TheConstants.{REGISTERS}
use Rattle.nmgc_world_spec.specs.declared.command.Reply.TheVariants as reply
use Rattle.nmgc_barrier_checker.specs.declared.event.Event.TheVariants as event
use Rattle.nmgc_barrier_checker.specs.declared.event.Why.TheVariants as why
use Rattle.nmgc_barrier_checker.specs.declared.watch.Watch.TheVariants as watch
use Rattle.nmgc_trace_checker.specs.{Notes.IsOwedIn, Reports.IsRefusal}
use Rattle.nmgc_trace_checker.specs.declared.meaning.Meaning.TheVariants as meaning
use Rattle.nmgc_trace_checker.specs.declared.report.Begun.TheVariants as begun
use Rattle.nmgc_trace_checker.specs.declared.report.Refusal.TheVariants as refusal

-- a debt is new at this line, or was there before
abbrev IsFrom : ℕ → Watch → Debt → Type 0
IsFrom n p d = (d.line ≡ n) ⊎ IsOwed p d

module _ (n : ℕ) (d : Debt) where
  owed_in : (p q : Watch) → q ≡ p → IsOwed q d → IsOwed p d
  owed_in p q e o = subst (λ (x : Watch). IsOwed x d) e o

  given : (h next : Hybrid) (m : ℕ) (c : Command) (answer : Reply) → IsWatchedIn h n m c answer next → Contains next.watch.debts d →
      IsFrom n (watch.Marking h) d
  given h next m c answer w o = elim (w.new d o) [ inl old ↦ inr old | inr p ↦ inl p.0 ]

  acts : (m : ℕ) (k : Task) (p next : Watch) → CanAct n m k p next → IsOwed next d → IsFrom n p d
  acts m k (watch.Between w) next a o = inr (owed_in (watch.Between a.0) next a.2 o)
  acts m k (watch.Marking h) next a o = given h a.0 m k.command _ a.1 (owed_in (watch.Marking a.0) next a.3 o)
  acts m k (watch.Ended left) next a o = inr (owed_in (watch.Ended (record left { world = a.0 })) next a.2 o)
  acts m k watch.Stopped next a o = absurd a

  done : (m : ℕ) (ks : List Task) (p next : Watch) → AreDone n m ks p next → IsOwed next d → IsFrom n p d
  done m [] p next a o = inr (owed_in p next a o)
  done m (k ∷ ks) p next a o = elim (done m ks a.0 next a.2 o) [ inl e ↦ inl e | inr b ↦ acts m k p a.0 a.1 b ]

  -- values that are put back make nothing due
  back : (m : ℕ) (held : List Value) (rs : List ℕ) (q : Watch) → IsOwed (put_back m held rs q) d → IsOwed q d
  back m held [] q o = o
  back m held (r ∷ rs) (watch.Between w) o = back m held rs (put m r (get_or held r value.Nil) (watch.Between w)) o
  back m held (r ∷ rs) (watch.Marking h) o = back m held rs (put m r (get_or held r value.Nil) (watch.Marking h)) o
  back m held (r ∷ rs) (watch.Ended left) o = back m held rs (put m r (get_or held r value.Nil) (watch.Ended left)) o
  back m held (r ∷ rs) watch.Stopped o = back m held rs watch.Stopped o

  rows : (m : ℕ) (borrowed : List ℕ) (ks : List Task) (p next : Watch) → AreRows n m borrowed ks p next → IsOwed next d → IsFrom n p d
  rows m borrowed ks p next k o =
      done m ks p k.1.0 k.1.1 (back m (registers_in m p) borrowed k.1.0 (owed_in (put_back m (registers_in m p) borrowed k.1.0) next k.1.2 o))

  -- a mutator that counts as scanned makes nothing due
  counts : (m : ℕ) (p next : Watch) → CountsAsScanned m p next → IsOwed next d → IsOwed p d
  counts m (watch.Marking h) next (inl k) o = subst (λ (x : Hybrid). Contains x.watch.debts d) k.1.rest (owed_in (watch.Marking k.0) next k.2 o)
  counts m (watch.Between w) next (inl k) o = absurd k
  counts m (watch.Ended left) next (inl k) o = absurd k
  counts m watch.Stopped next (inl k) o = absurd k
  counts m p next (inr s) o = owed_in p next s.0 o

  -- the debts after an event
  from_event : (p next : Watch) (e : Event) → Can n p e next → IsOwed next d → IsFrom n p d
  from_event (watch.Between w) next (event.Given m c answer) k o = inr (owed_in (watch.Between k.0) next k.2 o)
  from_event (watch.Marking h) next (event.Given m c answer) k o = given h k.0 m c answer k.1 (owed_in (watch.Marking k.0) next k.2 o)
  from_event (watch.Ended left) next (event.Given m c answer) k o = inr (owed_in (watch.Ended (record left { world = k.0 })) next k.2 o)
  from_event watch.Stopped next (event.Given m c answer) k o = absurd k
  from_event (watch.Between w) next (event.Rows m borrowed ks) k o = rows m borrowed ks (watch.Between w) next k o
  from_event (watch.Marking h) next (event.Rows m borrowed ks) k o = rows m borrowed ks (watch.Marking h) next k o
  from_event (watch.Ended left) next (event.Rows m borrowed ks) k o = rows m borrowed ks (watch.Ended left) next k o
  from_event watch.Stopped next (event.Rows m borrowed ks) k o = absurd k
  from_event (watch.Between w) next event.Mark k o = absurd (nothing d (owed_in _ next k o))
  from_event (watch.Marking h) next event.Mark k o = absurd k
  from_event (watch.Ended left) next event.Mark k o = absurd (nothing d (owed_in _ next k o))
  from_event watch.Stopped next event.Mark k o = absurd k
  from_event (watch.Between w) next event.MarkShared k o = absurd (nothing d (owed_in _ next k o))
  from_event (watch.Marking h) next event.MarkShared k o = absurd k
  from_event (watch.Ended left) next event.MarkShared k o = absurd (nothing d (owed_in _ next k o))
  from_event watch.Stopped next event.MarkShared k o = absurd k
  from_event (watch.Between w) next (event.Scan m) k o = absurd k
  from_event (watch.Marking h) next (event.Scan m) k o = inr (subst (λ (x : Hybrid). Contains x.watch.debts d) k.1.rest (owed_in (watch.Marking k.0) next k.2 o))
  from_event (watch.Ended left) next (event.Scan m) k o = absurd k
  from_event watch.Stopped next (event.Scan m) k o = absurd k
  from_event (watch.Between w) next (event.Exit m) k o = rows m [] (emptied REGISTERS) (watch.Between w) k.0 k.1 (counts m k.0 next k.2 o)
  from_event (watch.Marking h) next (event.Exit m) k o = rows m [] (emptied REGISTERS) (watch.Marking h) k.0 k.1 (counts m k.0 next k.2 o)
  from_event (watch.Ended left) next (event.Exit m) k o = rows m [] (emptied REGISTERS) (watch.Ended left) k.0 k.1 (counts m k.0 next k.2 o)
  from_event watch.Stopped next (event.Exit m) k o = absurd k.1
  from_event (watch.Between w) next (event.Hand v answer) k o = inr (owed_in (watch.Between k.0) next k.2 o)
  from_event (watch.Marking h) next (event.Hand v answer) k o =
      elim (k.1.new d (owed_in (watch.Marking k.0) next k.3 o)) [ inl old ↦ inr old | inr p ↦ inl p.0 ]
  from_event (watch.Ended left) next (event.Hand v answer) k o = inr (owed_in (watch.Ended (record left { world = k.0 })) next k.2 o)
  from_event watch.Stopped next (event.Hand v answer) k o = absurd k
  from_event (watch.Between w) next (event.Push name) k o = absurd k
  from_event (watch.Marking h) next (event.Push name) k o = inr ((k.1.debts d).0 (owed_in (watch.Marking (record h { watch = k.0 })) next k.2 o)).0
  from_event (watch.Ended left) next (event.Push name) k o = absurd k
  from_event watch.Stopped next (event.Push name) k o = absurd k
  from_event (watch.Between w) next (event.Settle m) k o = absurd k
  from_event (watch.Marking h) next (event.Settle m) k o = inr (owed_in (watch.Marking h) next k.1 o)
  from_event (watch.Ended left) next (event.Settle m) k o = absurd k
  from_event watch.Stopped next (event.Settle m) k o = absurd k
  from_event (watch.Between w) next (event.Take name) k o = absurd k
  from_event (watch.Marking h) next (event.Take name) k o =
      inr (subst (λ (x : Cycle). Contains x.debts d) k.1.rest (owed_in (watch.Marking (record h { watch = k.0 })) next k.2 o))
  from_event (watch.Ended left) next (event.Take name) k o = absurd k
  from_event watch.Stopped next (event.Take name) k o = absurd k
  from_event (watch.Between w) next event.Close k o = absurd k
  from_event (watch.Marking h) next event.Close k o = absurd (owed_in (watch.Ended k.0) next k.2 o)
  from_event (watch.Ended left) next event.Close k o = absurd k
  from_event watch.Stopped next event.Close k o = absurd k
  from_event (watch.Between w) next (event.CloseWith dead) k o = absurd k
  from_event (watch.Marking h) next (event.CloseWith dead) k o = absurd (owed_in (watch.Ended k.0) next k.2 o)
  from_event (watch.Ended left) next (event.CloseWith dead) k o = absurd k
  from_event watch.Stopped next (event.CloseWith dead) k o = absurd k
  from_event (watch.Between w) next (event.Marked names) k o = absurd k
  from_event (watch.Marking h) next (event.Marked names) k o = absurd k
  from_event (watch.Ended left) next (event.Marked names) k o = absurd (owed_in (watch.Ended left) next k.1 o)
  from_event watch.Stopped next (event.Marked names) k o = absurd k
  from_event (watch.Between w) next (event.Black names) k o = absurd k
  from_event (watch.Marking h) next (event.Black names) k o = absurd k
  from_event (watch.Ended left) next (event.Black names) k o = absurd (owed_in (watch.Ended left) next k.1 o)
  from_event watch.Stopped next (event.Black names) k o = absurd k
  from_event (watch.Between w) next (event.Freed names) k o = absurd k
  from_event (watch.Marking h) next (event.Freed names) k o = absurd k
  from_event (watch.Ended left) next (event.Freed names) k o = absurd (owed_in (watch.Ended left) next k.1 o)
  from_event watch.Stopped next (event.Freed names) k o = absurd k
  from_event (watch.Between w) next event.Stop k o = absurd k
  from_event (watch.Marking h) next event.Stop k o = absurd k
  from_event (watch.Ended left) next event.Stop k o = absurd (owed_in watch.Stopped next k o)
  from_event watch.Stopped next event.Stop k o = absurd k

  owed_of : (p q : Begun) → q ≡ p → IsOwedIn q d → IsOwedIn p d
  owed_of p q e o = subst (λ (x : Begun). IsOwedIn x d) e o

  -- the debts after a line
  pub from_line : (p next : Begun) (t : Meaning) → Happens n p t next → IsOwedIn next d → (d.line ≡ n) ⊎ IsOwedIn p d
  from_line p next meaning.Blank k o = inr (owed_of p next k o)
  from_line begun.Nothing next (meaning.Mutators count) k o = absurd (owed_of _ next k.2 o)
  from_line (begun.Watching p) next (meaning.Mutators count) k o = absurd k
  from_line begun.Nothing next (meaning.Event e) k o = absurd k
  from_line (begun.Watching p) next (meaning.Event e) k o = from_event p k.0 e k.1 (owed_of (begun.Watching k.0) next k.2 o)
  from_line p next meaning.Unknown k o = absurd k

-- a reason about a due name
module _ (d : Debt) where
  same_debt : (e : Debt) → why.Due d ≡ why.Due e → e ≡ d
  same_debt e is = cc

  not_done : (w : World) (m : ℕ) (k : Task) → IsNotDone w m k (why.Due d) → ⊥
  not_done w m k x = x

  no_act : (m : ℕ) (k : Task) (p : Watch) → WhyNoAct m k p (why.Due d) → ⊥
  no_act m c (watch.Between w) x = x
  no_act m c (watch.Marking h) x = x
  no_act m c (watch.Ended left) x = x
  no_act m c watch.Stopped x = cc

  no_hand : (w : World) (k : Hand) (answer : Reply) → IsWhyNoHand w k answer (why.Due d) → ⊥
  no_hand w k answer (inl x) = let bad : why.Due d ≡ why.CannotApply = x.0 in cc
  no_hand w k answer (inr x) = let bad : why.Due d ≡ why.Answer reply.Fine = x.1 in cc

  against : (h : Cycle) → IsAgainst h (why.Due d) → Contains h.debts d
  against h (inl x) = subst (λ (e : Debt). Contains h.debts e) (same_debt x.0 x.1) x.2.0
  against h (inr x) = absurd (let bad : why.Due d ≡ why.Untaken x.1.0 = x.1.1 in cc)

  against_with : (h : Cycle) (named : List Name) → IsAgainstWith h named (why.Due d) → Contains h.debts d
  against_with h named (inl x) = against h x
  against_with h named (inr x) = absurd (let bad : why.Due d ≡ why.NotDead x.2.0 = x.2.1 in cc)

  of_event : (p : Watch) (e : Event) → IsWhy p e (why.Due d) → IsOwed p d
  of_event (watch.Between w) (event.Given m c answer) x = absurd x
  of_event (watch.Marking h) (event.Given m c answer) x = absurd x
  of_event (watch.Ended left) (event.Given m c answer) x = absurd x
  of_event watch.Stopped (event.Given m c answer) x = absurd (let bad : why.Due d ≡ why.Misplaced = x in cc)
  of_event (watch.Between w) (event.Rows m borrowed ks) x = absurd (elim x.2 [ inl s ↦ no_act m s.1.task s.0 s.1.reason | inr a ↦ (let bad : why.Due d ≡ why.CannotApply = a.0 in cc) ])
  of_event (watch.Marking h) (event.Rows m borrowed ks) x = absurd (elim x.2 [ inl s ↦ no_act m s.1.task s.0 s.1.reason | inr a ↦ (let bad : why.Due d ≡ why.CannotApply = a.0 in cc) ])
  of_event (watch.Ended left) (event.Rows m borrowed ks) x = absurd (elim x.2 [ inl s ↦ no_act m s.1.task s.0 s.1.reason | inr a ↦ (let bad : why.Due d ≡ why.CannotApply = a.0 in cc) ])
  of_event watch.Stopped (event.Rows m borrowed ks) x = absurd (let bad : why.Due d ≡ why.Misplaced = x.2.0 in cc)
  of_event (watch.Between w) (event.Exit m) x = absurd (elim x.2 [ inl s ↦ no_act m s.1.task s.0 s.1.reason | inr a ↦ (let bad : why.Due d ≡ why.CannotApply = a.0 in cc) ])
  of_event (watch.Marking h) (event.Exit m) x = absurd (elim x.2 [ inl s ↦ no_act m s.1.task s.0 s.1.reason | inr a ↦ (let bad : why.Due d ≡ why.CannotApply = a.0 in cc) ])
  of_event (watch.Ended left) (event.Exit m) x = absurd (elim x.2 [ inl s ↦ no_act m s.1.task s.0 s.1.reason | inr a ↦ (let bad : why.Due d ≡ why.CannotApply = a.0 in cc) ])
  of_event watch.Stopped (event.Exit m) x = absurd (let bad : why.Due d ≡ why.Misplaced = x.2.0 in cc)
  of_event (watch.Between w) (event.Hand v answer) x = absurd (no_hand w v answer x)
  of_event (watch.Marking h) (event.Hand v answer) x = absurd (no_hand h.watch.world v answer x)
  of_event (watch.Ended left) (event.Hand v answer) x = absurd (no_hand left.world v answer x)
  of_event watch.Stopped (event.Hand v answer) x = absurd (let bad : why.Due d ≡ why.Misplaced = x in cc)
  of_event (watch.Between w) event.Mark x = absurd x
  of_event (watch.Marking h) event.Mark x = absurd (let bad : why.Due d ≡ why.Misplaced = x in cc)
  of_event (watch.Ended left) event.Mark x = absurd x
  of_event watch.Stopped event.Mark x = absurd (let bad : why.Due d ≡ why.Misplaced = x in cc)
  of_event (watch.Between w) event.MarkShared x = absurd x
  of_event (watch.Marking h) event.MarkShared x = absurd (let bad : why.Due d ≡ why.Misplaced = x in cc)
  of_event (watch.Ended left) event.MarkShared x = absurd x
  of_event watch.Stopped event.MarkShared x = absurd (let bad : why.Due d ≡ why.Misplaced = x in cc)
  of_event (watch.Marking h) (event.Scan m) x = absurd (elim x [ inl a ↦ (let bad : why.Due d ≡ why.CannotApply = a.0 in cc) | inr a ↦ (let bad : why.Due d ≡ why.Misplaced = a.0 in cc) ])
  of_event (watch.Between w) (event.Scan m) x = absurd (let bad : why.Due d ≡ why.Misplaced = x in cc)
  of_event (watch.Ended left) (event.Scan m) x = absurd (let bad : why.Due d ≡ why.Misplaced = x in cc)
  of_event watch.Stopped (event.Scan m) x = absurd (let bad : why.Due d ≡ why.Misplaced = x in cc)
  of_event (watch.Marking h) (event.Push name) x = absurd (let bad : why.Due d ≡ why.NoSuchName name = x.0 in cc)
  of_event (watch.Between w) (event.Push name) x = absurd (let bad : why.Due d ≡ why.Misplaced = x in cc)
  of_event (watch.Ended left) (event.Push name) x = absurd (let bad : why.Due d ≡ why.Misplaced = x in cc)
  of_event watch.Stopped (event.Push name) x = absurd (let bad : why.Due d ≡ why.Misplaced = x in cc)
  of_event (watch.Marking h) (event.Settle m) (inl x) = subst (λ (e : Debt). Contains h.watch.debts e) (same_debt x.0 x.1) x.2.0.0
  of_event (watch.Marking h) (event.Settle m) (inr x) = absurd (let bad : why.Due d ≡ why.CannotApply = x.0 in cc)
  of_event (watch.Between w) (event.Settle m) x = absurd (let bad : why.Due d ≡ why.Misplaced = x in cc)
  of_event (watch.Ended left) (event.Settle m) x = absurd (let bad : why.Due d ≡ why.Misplaced = x in cc)
  of_event watch.Stopped (event.Settle m) x = absurd (let bad : why.Due d ≡ why.Misplaced = x in cc)
  of_event (watch.Marking h) (event.Take name) x = absurd (let bad : why.Due d ≡ why.NotPushed name = x.0 in cc)
  of_event (watch.Between w) (event.Take name) x = absurd (let bad : why.Due d ≡ why.Misplaced = x in cc)
  of_event (watch.Ended left) (event.Take name) x = absurd (let bad : why.Due d ≡ why.Misplaced = x in cc)
  of_event watch.Stopped (event.Take name) x = absurd (let bad : why.Due d ≡ why.Misplaced = x in cc)
  of_event (watch.Marking h) event.Close (inl x) = absurd (let bad : why.Due d ≡ why.Unscanned x.0 = x.1 in cc)
  of_event (watch.Marking h) event.Close (inr x) = against h.watch x.1
  of_event (watch.Between w) event.Close x = absurd (let bad : why.Due d ≡ why.Misplaced = x in cc)
  of_event (watch.Ended left) event.Close x = absurd (let bad : why.Due d ≡ why.Misplaced = x in cc)
  of_event watch.Stopped event.Close x = absurd (let bad : why.Due d ≡ why.Misplaced = x in cc)
  of_event (watch.Marking h) (event.CloseWith dead) (inl x) = absurd (let bad : why.Due d ≡ why.Unscanned x.0 = x.1 in cc)
  of_event (watch.Marking h) (event.CloseWith dead) (inr x) = against_with h.watch dead x.1
  of_event (watch.Between w) (event.CloseWith dead) x = absurd (let bad : why.Due d ≡ why.Misplaced = x in cc)
  of_event (watch.Ended left) (event.CloseWith dead) x = absurd (let bad : why.Due d ≡ why.Misplaced = x in cc)
  of_event watch.Stopped (event.CloseWith dead) x = absurd (let bad : why.Due d ≡ why.Misplaced = x in cc)
  of_event (watch.Ended left) (event.Marked names) (inl x) = absurd (let bad : why.Due d ≡ why.NotListed x.0 = x.1 in cc)
  of_event (watch.Ended left) (event.Marked names) (inr x) = absurd (let bad : why.Due d ≡ why.NotMarked x.1.0 = x.1.1 in cc)
  of_event (watch.Between w) (event.Marked names) x = absurd (let bad : why.Due d ≡ why.Misplaced = x in cc)
  of_event (watch.Marking h) (event.Marked names) x = absurd (let bad : why.Due d ≡ why.Misplaced = x in cc)
  of_event watch.Stopped (event.Marked names) x = absurd (let bad : why.Due d ≡ why.Misplaced = x in cc)
  of_event (watch.Ended left) (event.Black names) (inl x) = absurd (let bad : why.Due d ≡ why.NoSuchName x.0 = x.1 in cc)
  of_event (watch.Ended left) (event.Black names) (inr (there, inl x)) = absurd (let bad : why.Due d ≡ why.NotListed x.0 = x.1 in cc)
  of_event (watch.Ended left) (event.Black names) (inr (there, inr (kept, x))) = absurd (let bad : why.Due d ≡ why.NotMarked x.0 = x.1 in cc)
  of_event (watch.Between w) (event.Black names) x = absurd (let bad : why.Due d ≡ why.Misplaced = x in cc)
  of_event (watch.Marking h) (event.Black names) x = absurd (let bad : why.Due d ≡ why.Misplaced = x in cc)
  of_event watch.Stopped (event.Black names) x = absurd (let bad : why.Due d ≡ why.Misplaced = x in cc)
  of_event (watch.Ended left) (event.Freed names) x = absurd (elim x.2 [
    | inl a ↦ (let bad : why.Due d ≡ why.NoSuchName x.0 = a.0 in cc)
    | inr a ↦ elim a.1 [ inl b ↦ (let bad : why.Due d ≡ why.NotOld x.0 = b.0 in cc) | inr b ↦ (let bad : why.Due d ≡ why.Needed x.0 = b.0 in cc) ]
  ])
  of_event (watch.Between w) (event.Freed names) x = absurd (let bad : why.Due d ≡ why.Misplaced = x in cc)
  of_event (watch.Marking h) (event.Freed names) x = absurd (let bad : why.Due d ≡ why.Misplaced = x in cc)
  of_event watch.Stopped (event.Freed names) x = absurd (let bad : why.Due d ≡ why.Misplaced = x in cc)
  of_event (watch.Ended left) event.Stop x = absurd x
  of_event (watch.Between w) event.Stop x = absurd (let bad : why.Due d ≡ why.Misplaced = x in cc)
  of_event (watch.Marking h) event.Stop x = absurd (let bad : why.Due d ≡ why.Misplaced = x in cc)
  of_event watch.Stopped event.Stop x = absurd (let bad : why.Due d ≡ why.Misplaced = x in cc)

  pub of_line : (p : Begun) (t : Meaning) → IsRefusal p t (refusal.Event (why.Due d)) → IsOwedIn p d
  of_line p meaning.Blank x = absurd x
  of_line begun.Nothing (meaning.Mutators count) x = absurd (let bad : refusal.Event (why.Due d) ≡ refusal.Misplaced = x.0 in cc)
  of_line (begun.Watching p) (meaning.Mutators count) x = absurd (let bad : refusal.Event (why.Due d) ≡ refusal.Misplaced = x in cc)
  of_line begun.Nothing (meaning.Event e) x = absurd (let bad : refusal.Event (why.Due d) ≡ refusal.Misplaced = x in cc)
  of_line (begun.Watching p) (meaning.Event e) x = of_event p e x
  of_line p meaning.Unknown x = absurd (let bad : refusal.Event (why.Due d) ≡ refusal.Unknown = x in cc)
