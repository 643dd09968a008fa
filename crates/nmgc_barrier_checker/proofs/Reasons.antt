-- An event with a reason can't happen.
use Rattle.nmgc_barrier_checker.proofs.Vocabulary.{◌≡◌, ℕ, List, [], sym, subst, ◌∙◌, inl, inr, Contains, Name, Command, Reply, World, CanApply, step, Lists, nothing_in, Debt, Cycle, MarksName, IsAllTaken, IsDeadAmong, barrier_theorem, Why, CycleResult, Watch, IsWhyNot, WhyGive, CanGive, WhyMark, CanMark, WhyPush, CanPush, WhySettle, CanSettle, WhyTake, CanTake, WhyClose, CanClose, WhyCloseWith, CanCloseWith, WhyMarked, CanMarked, WhyFreed, CanFreed, WhyBlack, CanBlack, REGISTERS, emptied, WhyNotGivenOver, CanGiveOver, Hands, IsWhyNoHand, Hand, IsSome, node_of, WhyKept, MayFree, IsAgainst, WhyStop, CanStop, ReasonsRefuse, ClosedIsExact, WhyScan, CanScan, CanMarkShared, IsNotScanned, Hybrid, AreScanned, IsScanned, true, false}
use Rattle.nmgc_world_spec.specs.declared.command.Reply.TheVariants as reply
use Rattle.nmgc_barrier_checker.specs.declared.event.Event.TheVariants as event
use Rattle.nmgc_barrier_checker.specs.declared.event.Why.TheVariants as why
use Rattle.nmgc_barrier_checker.specs.declared.watch.Watch.TheVariants as watch
use Rattle.nmgc_barrier_laws.specs.laws.HybridBeside.{hybrid_joint}
use Rattle.nmgc_barrier_checker.specs.Watching.{IsAgainstWith, IsUnkept, IsUnscanned, ClosedLaterIsExact}
use Rattle.nmgc_barrier_checker.proofs.{Firsts.stands_in, RowLaws.no_rows}

no_command : (w : World) (m : ℕ) (c : Command) (answer : Reply) (y : Why) → IsWhyNot w m c answer y → CanApply w m c → (step w m c).1 ≡ answer → ⊥
no_command w m c answer why.CannotApply h can says = h can
no_command w m c answer (why.Answer r) h can says = h.2 (sym h.1 ∙ says)
no_command w m c answer why.Misplaced h can says = h
no_command w m c answer (why.NoSuchName n) h can says = h
no_command w m c answer (why.Due debt) h can says = h
no_command w m c answer (why.NotPushed n) h can says = h
no_command w m c answer (why.NotDead n) h can says = h
no_command w m c answer (why.NotListed n) h can says = h
no_command w m c answer (why.NotMarked n) h can says = h
no_command w m c answer (why.Needed n) h can says = h
no_command w m c answer (why.NotOld n) h can says = h
no_command w m c answer (why.Untaken n) h can says = h
no_command w m c answer (why.Unscanned k) h can says = h

no_give : (line m : ℕ) (c : Command) (answer : Reply) (p : Watch) (y : Why) (next : Watch) → WhyGive m c answer p y → CanGive line m c answer p next → ⊥
no_give line m c answer (watch.Between w) y next h g = no_command w m c answer y h g.1.0 g.1.1
no_give line m c answer (watch.Marking k) y next h g = no_command k.watch.world m c answer y h g.1.can g.1.says
no_give line m c answer (watch.Ended left) y next h g = no_command left.world m c answer y h g.1.0 g.1.1
no_give line m c answer watch.Stopped y next h g = g

no_hand : (w : World) (k : Hand) (answer : Reply) (y : Why) → IsWhyNoHand w k answer y → Hands w k → answer ≡ reply.Fine → ⊥
no_hand w k answer y (inl h) can fine = h.1 can
no_hand w k answer y (inr h) can fine = h.2 fine

no_give_over : (line : ℕ) (k : Hand) (answer : Reply) (p : Watch) (y : Why) (next : Watch) → WhyNotGivenOver k answer p y →
    CanGiveOver line k answer p next → ⊥
no_give_over line k answer (watch.Between w) y next h g = no_hand w k answer y h g.1.0 g.1.1
no_give_over line k answer (watch.Marking c) y next h g = no_hand c.watch.world k answer y h g.1.can g.2
no_give_over line k answer (watch.Ended left) y next h g = no_hand left.world k answer y h g.1.0 g.1.1
no_give_over line k answer watch.Stopped y next h g = g

no_mark : (p : Watch) (y : Why) (next : Watch) → WhyMark p y → CanMark p next → ⊥
no_mark (watch.Between w) y next h g = h
no_mark (watch.Marking k) y next h g = g
no_mark (watch.Ended left) y next h g = h
no_mark watch.Stopped y next h g = g

no_mark_shared : (p : Watch) (y : Why) (next : Watch) → WhyMark p y → CanMarkShared p next → ⊥
no_mark_shared (watch.Between w) y next h g = h
no_mark_shared (watch.Marking k) y next h g = g
no_mark_shared (watch.Ended left) y next h g = h
no_mark_shared watch.Stopped y next h g = g

not_scanned : (k next : Hybrid) (m : ℕ) (y : Why) → IsNotScanned k m y → IsScanned k m next → ⊥
not_scanned k next m y (inl h) g = h.1 g.mutator
not_scanned k next m y (inr h) g = let bad : true ≡ false = sym h.1 ∙ g.first in cc

no_scan : (m : ℕ) (p : Watch) (y : Why) (next : Watch) → WhyScan m p y → CanScan m p next → ⊥
no_scan m (watch.Between w) y next h g = g
no_scan m (watch.Marking k) y next h g = not_scanned k g.0 m y h g.1
no_scan m (watch.Ended left) y next h g = g
no_scan m watch.Stopped y next h g = g

no_push : (name : Name) (p : Watch) (y : Why) (next : Watch) → WhyPush name p y → CanPush name p next → ⊥
no_push name (watch.Between w) y next h g = g
no_push name (watch.Marking k) y next h g = h.1 g.1.there
no_push name (watch.Ended left) y next h g = g
no_push name watch.Stopped y next h g = g

no_settle : (m : ℕ) (p : Watch) (y : Why) (next : Watch) → WhySettle m p y → CanSettle m p next → ⊥
no_settle m (watch.Between w) y next h g = g
no_settle m (watch.Marking k) y next (inl h) g = g.0.1 h.0 h.2.0.0 h.2.0.1
no_settle m (watch.Marking k) y next (inr h) g = h.1 g.0.0
no_settle m (watch.Ended left) y next h g = g
no_settle m watch.Stopped y next h g = g

no_end : (k : Cycle) (y : Why) → IsAgainst k y → k.debts ≡ [] → IsAllTaken k → ⊥
no_end k y (inl h) none all = nothing_in h.0 (subst (λ (l : List Debt). Contains l h.0) none h.2.0)
no_end k y (inr h) none (inl e) = h.1.2.0.0 e
no_end k y (inr h) none (inr t) = h.1.2.0.3 (t h.1.0 h.1.2.0.1 h.1.2.0.2)

not_all : (k : Hybrid) (y : Why) → IsUnscanned k y → AreScanned k → ⊥
not_all k y u all = let bad : true ≡ false = sym (all u.0 u.2.0) ∙ u.2.1 in cc

no_close : (p : Watch) (y : Why) (next : Watch) → WhyClose p y → CanClose p next → ⊥
no_close (watch.Between w) y next h g = g
no_close (watch.Marking k) y next (inl h) g = not_all k y h g.3
no_close (watch.Marking k) y next (inr h) g = no_end k.watch y h.1 g.1.ends.debts g.1.ends.taken
no_close (watch.Ended left) y next h g = g
no_close watch.Stopped y next h g = g

no_take : (name : Name) (p : Watch) (y : Why) (next : Watch) → WhyTake name p y → CanTake name p next → ⊥
no_take name (watch.Between w) y next h g = g
no_take name (watch.Marking k) y next h g = h.1 g.1.pushed
no_take name (watch.Ended left) y next h g = g
no_take name watch.Stopped y next h g = g

no_end_with : (k : Cycle) (named : List Name) (y : Why) → IsAgainstWith k named y → k.debts ≡ [] → IsAllTaken k →
    ((weak : Name) → Contains named weak → IsDeadAmong k named weak) → ⊥
no_end_with k named y (inl h) none all may = no_end k y h none all
no_end_with k named y (inr h) none all may =
    h.2.2.3 (may h.2.0 (stands_in (λ other. IsDeadAmong k named other → ⊥) named h.2.0 h.2.2))

no_close_with : (named : List Name) (p : Watch) (y : Why) (next : Watch) → WhyCloseWith named p y → CanCloseWith named p next → ⊥
no_close_with named (watch.Between w) y next h g = g
no_close_with named (watch.Marking k) y next (inl h) g = not_all k y h g.3
no_close_with named (watch.Marking k) y next (inr h) g = no_end_with k.watch named y h.1 g.1.ends.debts g.1.ends.taken g.1.ends.may
no_close_with named (watch.Ended left) y next h g = g
no_close_with named watch.Stopped y next h g = g

no_marked : (names : List Name) (p : Watch) (y : Why) (next : Watch) → WhyMarked names p y → CanMarked names p next → ⊥
no_marked names (watch.Between w) y next h g = g
no_marked names (watch.Marking k) y next h g = g
no_marked names (watch.Ended left) y next (inl h) g =
    h.2.3 ((g.0 h.0).1 (stands_in (λ other. Contains names other → ⊥) left.kept h.0 h.2))
no_marked names (watch.Ended left) y next (inr h) g =
    h.1.2.3 ((g.0 h.1.0).0 (stands_in (λ other. Contains left.kept other → ⊥) names h.1.0 h.1.2))
no_marked names watch.Stopped y next h g = g

no_black : (names : List Name) (p : Watch) (y : Why) (next : Watch) → WhyBlack names p y → CanBlack names p next → ⊥
no_black names (watch.Between w) y next h g = g
no_black names (watch.Marking k) y next h g = g
no_black names (watch.Ended left) y next (inl h) g =
    h.2.3 (g.0.there h.0 (stands_in (λ other. IsSome (node_of left.world other) → ⊥) names h.0 h.2))
no_black names (watch.Ended left) y next (inr (there, inl h)) g =
    h.2.3 (g.0.kept h.0 (stands_in (λ other. Contains names other → ⊥) left.kept h.0 h.2))
no_black names (watch.Ended left) y next (inr (there, inr (all, h))) g =
    h.2.3.1 (g.0.old h.0 (stands_in (IsUnkept left) names h.0 h.2) h.2.3.0)
no_black names watch.Stopped y next h g = g

pub no_freed_name : (left : CycleResult) (name : Name) (y : Why) → WhyKept left name y → MayFree left name → ⊥
no_freed_name left name y (inl h) may = h.1 may.0
no_freed_name left name y (inr h) may = elim h.1 [ inl old ↦ old.1 may.1 | inr need ↦ may.2 need.2 ]

no_freed : (names : List Name) (p : Watch) (y : Why) (next : Watch) → WhyFreed names p y → CanFreed names p next → ⊥
no_freed names (watch.Between w) y next h g = g
no_freed names (watch.Marking k) y next h g = g
no_freed names (watch.Ended left) y next h g = no_freed_name left h.0 y h.2 (g.0 h.0 (stands_in (λ other. MayFree left other → ⊥) names h.0 h.1))
no_freed names watch.Stopped y next h g = g

no_stop : (p : Watch) (y : Why) (next : Watch) → WhyStop p y → CanStop p next → ⊥
no_stop (watch.Between w) y next h g = g
no_stop (watch.Marking k) y next h g = g
no_stop (watch.Ended left) y next h g = h
no_stop watch.Stopped y next h g = g

pub reasons_refuse : ReasonsRefuse
reasons_refuse line p (event.Given m c answer) y next h g = no_give line m c answer p y next h g
reasons_refuse line p (event.Rows m borrowed tasks) y next h g = no_rows line m borrowed tasks p next y h g
reasons_refuse line p (event.Hand k answer) y next h g = no_give_over line k answer p y next h g
reasons_refuse line p event.Mark y next h g = no_mark p y next h g
reasons_refuse line p event.MarkShared y next h g = no_mark_shared p y next h g
reasons_refuse line p (event.Scan m) y next h g = no_scan m p y next h g
reasons_refuse line p (event.Push name) y next h g = no_push name p y next h g
reasons_refuse line p (event.Exit m) y next h g = no_rows line m [] (emptied REGISTERS) p g.0 y h g.1
reasons_refuse line p (event.Settle m) y next h g = no_settle m p y next h g
reasons_refuse line p (event.Take name) y next h g = no_take name p y next h g
reasons_refuse line p event.Close y next h g = no_close p y next h g
reasons_refuse line p (event.CloseWith dead) y next h g = no_close_with dead p y next h g
reasons_refuse line p (event.Marked names) y next h g = no_marked names p y next h g
reasons_refuse line p (event.Black names) y next h g = no_black names p y next h g
reasons_refuse line p (event.Freed names) y next h g = no_freed names p y next h g
reasons_refuse line p event.Stop y next h g = no_stop p y next h g

pub closed_is_exact : ClosedIsExact
closed_is_exact h left l w is s next b possible closing name =
    let e = (barrier_theorem w is h s b).marks next possible closing name in
    let kept : Lists (MarksName h) left.kept = elim l [ inl a ↦ a.kept | inr p ↦ p.1.kept ] in
    (λ m. kept.complete name (e.0 m), λ c. e.1 (kept.sound name c))

pub closed_later_is_exact : ClosedLaterIsExact
closed_later_is_exact h left l w is watches s next b possible closing name =
    let paid : h.watch.debts ≡ [] = elim l [ inl a ↦ a.ends.debts | inr p ↦ p.1.ends.debts ] in
    let kept : Lists (MarksName h.watch) left.kept = elim l [ inl a ↦ a.kept | inr p ↦ p.1.kept ] in
    let e = (hybrid_joint w is h watches paid s b (record { queue = possible.1; pushed = possible.3 })).marks next closing name in
    (λ m. kept.complete name (e.0 m), λ c. e.1 (kept.sound name c))
