-- A cycle begins at a stop exactly if one is due by the rule of the run.
use Rattle.nmgc_cycle.proofs.Vocabulary.{◌≡◌, true, false, refl, sym, ap, subst, ◌∙◌, arith, inl, inr, State, Progress, idle, marking, sweeping, phase_of, is_idle, IsCycleDue, Script, Collector, Doing, IsDue, phase_in, StandsAt, StartingLeads, BeginningLeads}
use Rattle.nmgc_journal.specs.declared.report.Phase.TheVariants as phase
use Rattle.nmgc_cycle.specs.declared.progress.Progress.TheVariants as doing

-- the collector is idle exactly if the run's state is
idle_then : (p : Doing) (q : Progress) → phase_in p ≡ phase_of q → p ≡ doing.Idle → is_idle q ≡ true
idle_then p idle e is = refl
idle_then p (marking k) e is = absurd (let bad : phase.Idle ≡ phase.Marking = ap phase_in (sym is) ∙ e in cc)
idle_then p (sweeping k closed) e is = absurd (let bad : phase.Idle ≡ phase.Sweeping = ap phase_in (sym is) ∙ e in cc)

idle_back : (p : Doing) (q : Progress) → phase_in p ≡ phase_of q → is_idle q ≡ true → p ≡ doing.Idle
idle_back doing.Idle q e is = refl
idle_back (doing.Marking m) idle e is = absurd (let bad : phase.Marking ≡ phase.Idle = e in cc)
idle_back (doing.Marking m) (marking k) e is = absurd (let bad : false ≡ true = is in cc)
idle_back (doing.Marking m) (sweeping k closed) e is = absurd (let bad : false ≡ true = is in cc)
idle_back (doing.Sweeping w) idle e is = absurd (let bad : phase.Sweeping ≡ phase.Idle = e in cc)
idle_back (doing.Sweeping w) (marking k) e is = absurd (let bad : false ≡ true = is in cc)
idle_back (doing.Sweeping w) (sweeping k closed) e is = absurd (let bad : false ≡ true = is in cc)

module _ (script : Script) (c : Collector) (s : State) (h : StandsAt script c s) where
  pub due_then : IsDue script.config.trigger c → IsCycleDue script.config s
  due_then due = (
    idle_then c.cycle.progress s.progress h.matches.phase due.0,
    elim due.1 [
      | inl asked ↦ inl (sym h.matches.collect ∙ asked)
      | inr filled ↦ inr (filled.0, (let fresh = h.heap.holds.stands.fresh in let many = filled.1 in omega (arith, fresh, many)))
    ],
  )

  pub due_back : IsCycleDue script.config s → IsDue script.config.trigger c
  due_back due = (
    idle_back c.cycle.progress s.progress h.matches.phase due.0,
    elim due.1 [
      | inl asked ↦ inl (h.matches.collect ∙ asked)
      | inr filled ↦ inr (filled.0, (let fresh = h.heap.holds.stands.fresh in let many = filled.1 in omega (arith, fresh, many)))
    ],
  )

pub beginning_leads : StartingLeads → BeginningLeads
beginning_leads law script old new s limits h step = elim step [
  | inl x ↦ (_, inl (due_then script old s h x.0, refl), law script old new s limits h x.0.0 x.1)
  | inr x ↦ (s, inr ((λ due. x.0 (due_back script old s h due)), refl), subst (λ (c : Collector). StandsAt script c s) (sym x.1) h)
]
