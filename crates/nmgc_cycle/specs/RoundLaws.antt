-- The laws for a round: its opening, the mutators' slices in it, and the state to which it leads.
use Rattle.std.specs.Prelude.{ℕ, ◌≡◌, List}
use Rattle.nmgc_collector_laws.specs.{Calls.RoundIsMarking, Drops.DropKeepsRound, Drops.FreeGrows, Drops.RoundFreesUntracked, Drops.SweptHoldsAfterRound, Heaps.HeapRests, Heaps.RoundHolds, Keeps.PaceAfterRound, Owed.MachineGoesOn, Owed.SlicesAreGathered as PartsAreGathered, Owed.SlicesAreOwed, RestMarking.RestOpens as MarkingOpens, Sweeps.MarkedWait, Tie.CoreHasSnapshot, Tie.RoundBeginsTied, Turn.RestOpens, Turn.RoundIsHistory, Turn.RoundIsStopped, Turn.RoundListsFinalised, Turn.SlicesAreGathered}
use Rattle.nmgc_mutator.specs.{declared.mutator.Mutator.Mutator, Ready.HasHand, Ready.IsReady, Ready.IsUnused, Ready.IsWhole}
use Rattle.nmgc_round.specs.{declared.table.Round.Round, Seat.IsAt, Seat.RoundSeat, Seat.opening_of, Seat.seen, Seating.alone, Starting.CanOpen, View.Opening, View.hand_of}
use Rattle.nmgc_sweep.specs.Statements.{LeftIsCounted, LeftStays}

-- as a round begins, a mutator with its own seat is ready
abbrev pub MutatorsAreReady : Type 0
MutatorsAreReady = (o : Opening) (words : List ℕ) (round : Round) (seat : RoundSeat) (m : Mutator) → CanOpen o words → opening_of round ≡ o →
    IsAt round seat → seen seat ≡ alone o m.number → o.layout ≡ m.layout → IsWhole m → IsUnused m → HasHand (hand_of o.hands m.number) m → IsReady round seat m

-- the laws of a round's opening
pub record HasOpeningLaws : Type 0 where
  pub quiet : RestOpens
  pub marks : MarkingOpens
  pub rests : HeapRests
  pub snapshot : CoreHasSnapshot

-- the laws of the slices: mutators and marker may begin, and together the slices are the round's commands and objects owed
pub record HasSliceLaws : Type 0 where
  pub opens : HasOpeningLaws
  pub tied : RoundBeginsTied
  pub ready : MutatorsAreReady
  pub gathered : SlicesAreGathered
  pub parts : PartsAreGathered
  pub owed : SlicesAreOwed

-- the laws of a round: heap, cycle in progress and mutators after it represent the state of the run at its end
pub record HasRoundLaws : Type 0 where
  pub opens : HasOpeningLaws
  pub history : RoundIsHistory
  pub stopped : RoundIsStopped
  pub finalised : RoundListsFinalised
  pub holds : RoundHolds
  pub goes_on : MachineGoesOn
  pub is_marking : RoundIsMarking
  pub pace : PaceAfterRound
  pub frees : RoundFreesUntracked
  pub swept_holds : SweptHoldsAfterRound
  pub drops : DropKeepsRound
  pub grows : FreeGrows
  pub waits : MarkedWait
  pub left : LeftStays
  pub counted : LeftIsCounted
