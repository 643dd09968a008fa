-- The phase of a collector is its run's, so its parts fit the phase.
use Rattle.nmgc_cycle.proofs.Vocabulary.{◌≡◌, List, refl, Bool, true, false, Row, Phase, snapshots, noted, Progress, idle, marking, sweeping, phase_of, phase_in, is_marking_in}
use Rattle.nmgc_journal.specs.declared.report.Phase.TheVariants as phase
use Rattle.nmgc_cycle.specs.declared.progress.Marking as of_marking
use Rattle.nmgc_cycle.specs.declared.progress.Progress as held
use Rattle.nmgc_cycle.specs.declared.progress.Progress.TheVariants as doing
use Rattle.nmgc_cycle.specs.declared.progress.Sweeping as of_sweeping

pub when_idle : (q : held.Progress) → phase_in q ≡ phase.Idle → q ≡ doing.Idle
when_idle doing.Idle e = refl
when_idle (doing.Marking m) e = let bad : phase.Marking ≡ phase.Idle = e in absurd cc
when_idle (doing.Sweeping w) e = let bad : phase.Sweeping ≡ phase.Idle = e in absurd cc

pub when_marking : (q : held.Progress) → phase_in q ≡ phase.Marking → (m : of_marking.Marking) × (q ≡ doing.Marking m)
when_marking doing.Idle e = let bad : phase.Idle ≡ phase.Marking = e in absurd cc
when_marking (doing.Marking m) e = (m, refl)
when_marking (doing.Sweeping w) e = let bad : phase.Sweeping ≡ phase.Marking = e in absurd cc

pub when_sweeping : (q : held.Progress) → phase_in q ≡ phase.Sweeping → (w : of_sweeping.Sweeping) × (q ≡ doing.Sweeping w)
when_sweeping doing.Idle e = let bad : phase.Idle ≡ phase.Sweeping = e in absurd cc
when_sweeping (doing.Marking m) e = let bad : phase.Marking ≡ phase.Sweeping = e in absurd cc
when_sweeping (doing.Sweeping w) e = (w, refl)

-- whether a cycle is marking, by the phase
abbrev pub is_marking_phase : Phase → Bool
is_marking_phase phase.Marking = true
is_marking_phase _ = false

pub marks_by_phase : (q : held.Progress) → is_marking_in q ≡ is_marking_phase (phase_in q)
marks_by_phase doing.Idle = refl
marks_by_phase (doing.Marking m) = refl
marks_by_phase (doing.Sweeping w) = refl

-- rows change neither the phase nor the snapshot
pub noted_phase : (p : Progress) (rows : List Row) → phase_of (noted p rows) ≡ phase_of p
noted_phase idle rows = refl
noted_phase (marking k) rows = refl
noted_phase (sweeping k closed) rows = refl

pub noted_snapshots : (p : Progress) (rows : List Row) → snapshots (noted p rows) ≡ snapshots p
noted_snapshots idle rows = refl
noted_snapshots (marking k) rows = refl
noted_snapshots (sweeping k closed) rows = refl
