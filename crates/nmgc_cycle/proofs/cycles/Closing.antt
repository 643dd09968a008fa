-- A cycle is closed at a stop, or goes on, as a run allows it.
use Rattle.nmgc_cycle.proofs.Vocabulary.{false, ℕ, ◌≡◌, List, Option, Some, None, refl, sym, ap, subst, ◌∙◌, inl, inr, IsSome, Place, ClosesOrWaits, HoldsInCycle, IsPacedAtStop, CollectorSeen, State, Progress, idle, marking, sweeping, phase_of, Cycle, Script, Collector, Doing, Closes, HasClosed, seen, phase_in, work_in, words_in, FitsRun, StandsWithin, StandsAt, IsPacedWithin, FinishingLeads, ClosingLeads}
use Rattle.nmgc_journal.specs.declared.report.Phase.TheVariants as phase
use Rattle.nmgc_cycle.specs.declared.progress.Progress.TheVariants as doing

pub words_same : (a b : Option (List ℕ)) → IsSome a → IsSome b → words_in a ≡ words_in b → a ≡ b
words_same None b some other e = absurd cc
words_same (Some a) None some other e = absurd cc
words_same (Some a) (Some b) some other e = ap Some e

-- a cycle that goes on in pace
in_pace : (quota : ℕ) (s : State) (shown : CollectorSeen) (places : List Place) (q : Progress) →
    ((k : Cycle) → q ≡ marking k → IsPacedWithin quota k s shown → IsPacedAtStop quota k s shown) →
    HoldsInCycle (λ (k : Cycle). IsPacedWithin quota k s shown) q s shown places → HoldsInCycle (λ (k : Cycle). IsPacedAtStop quota k s shown) q s shown places
in_pace quota s shown places idle goes h = h
in_pace quota s shown places (marking k) goes h = (h.0, goes k refl h.1)
in_pace quota s shown places (sweeping k closed) goes h = h

stands_on : (script : Script) (c : Collector) (s : State) → ((k : Cycle) → s.progress ≡ marking k → IsPacedWithin script.config.quota k s (seen c) →
    IsPacedAtStop script.config.quota k s (seen c)) → StandsWithin script c s → StandsAt script c s
stands_on script c s goes h = record {
  kept = h.kept;
  sound = h.sound;
  course = h.course;
  matches = h.matches;
  heap = h.heap;
  nurseries = h.nurseries;
  empty = h.empty;
  rest = h.rest;
  cycle = in_pace script.config.quota s (seen c) h.heap.places s.progress goes h.cycle;
  sweeper = h.sweeper;
  named = h.named;
}

module _ (law : FinishingLeads) (script : Script) (old new : Collector) (s : State) (limits : FitsRun script) (h : StandsWithin script old s)
    (closed : HasClosed Closes s.number old new) where
  abbrev Leads : Type 0
  Leads = (t : State) × ClosesOrWaits script.config.quota s.progress s t × StandsAt script new t

  stays : (p : Doing) (q : Progress) → old.cycle.progress ≡ p → s.progress ≡ q → ClosesOrWaits script.config.quota q s s →
      ((k : Cycle) → s.progress ≡ marking k → IsPacedWithin script.config.quota k s (seen old) → IsPacedAtStop script.config.quota k s (seen old)) →
      new ≡ old → Leads
  stays p q at is waits goes same = (
    s,
    subst (λ (x : Progress). ClosesOrWaits script.config.quota x s s) (sym is) waits,
    subst (λ (c : Collector). StandsAt script c s) (sym same) (stands_on script old s goes h),
  )

  no_marking : (q : Progress) → s.progress ≡ q → ((k : Cycle) → q ≡ marking k → ⊥) → (k : Cycle) → s.progress ≡ marking k →
      IsPacedWithin script.config.quota k s (seen old) → IsPacedAtStop script.config.quota k s (seen old)
  no_marking q is never k marks paced = absurd (never k (sym is ∙ marks))

  by_case : (p : Doing) (q : Progress) → old.cycle.progress ≡ p → s.progress ≡ q → phase_in p ≡ phase_of q → Closes s.number p old new → Leads
  by_case doing.Idle idle at is e step = stays doing.Idle idle at is refl (no_marking idle is (λ k bad. cc)) step
  by_case doing.Idle (marking k) at is e step = absurd (let bad : phase.Idle ≡ phase.Marking = e in cc)
  by_case doing.Idle (sweeping k since) at is e step = absurd (let bad : phase.Idle ≡ phase.Sweeping = e in cc)
  by_case (doing.Marking m) idle at is e step = absurd (let bad : phase.Marking ≡ phase.Idle = e in cc)
  by_case (doing.Marking m) (marking k) at is e step = elim step [
    | inl x ↦
        let t = law script old new s k m x.1.0 limits h is at x.0 x.1.1 closed x.1.2 in
        (t.0, subst (λ (q : Progress). ClosesOrWaits script.config.quota q s t.0) (sym is) (inr (t.1, t.2)), t.3)
    | inr x ↦
        let left : (seen old).work.empty ≡ false = ap (λ (p : Doing). (work_in p).empty) at ∙ x.0 in
        let paced = subst (λ (p : Progress). HoldsInCycle (λ (r : Cycle). IsPacedWithin script.config.quota r s (seen old)) p s (seen old) h.heap.places) is h.cycle in
        stays (doing.Marking m) (marking k) at is (inl (refl, paced.1.waits left)) (λ r marks own. own.goes_on left) x.1
  ]
  by_case (doing.Marking m) (sweeping k since) at is e step = absurd (let bad : phase.Marking ≡ phase.Sweeping = e in cc)
  by_case (doing.Sweeping w) idle at is e step = absurd (let bad : phase.Sweeping ≡ phase.Idle = e in cc)
  by_case (doing.Sweeping w) (marking k) at is e step = absurd (let bad : phase.Sweeping ≡ phase.Marking = e in cc)
  by_case (doing.Sweeping w) (sweeping k since) at is e step =
      stays (doing.Sweeping w) (sweeping k since) at is refl (no_marking (sweeping k since) is (λ r bad. cc)) step

pub closing_leads : FinishingLeads → ClosingLeads
closing_leads law script old new s limits h closed =
    let phases : phase_in old.cycle.progress ≡ phase_of s.progress = h.matches.phase in
    by_case law script old new s limits h closed old.cycle.progress s.progress refl refl phases closed.closes
