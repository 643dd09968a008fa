-- The slices of a round by programs: each worker asks its own program for the commands.
use Rattle.std.specs.Prelude.{ℕ, ◌≡◌, ◌+◌, ◌<◌, ◌≤◌, List, length, Option, min, slice_index_or}
use Rattle.nmgc_world_spec.specs.{declared.command.Command.Command, declared.command.Reply.Reply}
use Rattle.nmgc_round.specs.{declared.table.Round.Round, Gate.passed, Seat.seen}
use Rattle.nmgc_mutator.specs.{Ready.IsReady, Slice.HasRoom, Slice.HasAsked, Slice.tried}
use Rattle.nmgc_cycle.specs.declared.worker.Worker.{Worker}

-- a worker may do its slice of the commands that a program gives
pub record CanAsk {P : Type 0} (words most : P → ℕ) (valid : P → Type 0) (round : Round) (slice : ℕ) (worker : Worker) (p : P) : Type 0 where
  pub ready : IsReady round worker.seat worker.mutator
  pub valid_is : valid p
  pub fits : words p ≤ worker.mutator.layout.words
  pub room : HasRoom worker.mutator (min slice (most p))

-- a worker did its slice of the commands that a program gave, and counted a pass of the gate for each command that it tried
pub record HasAskedOn {P : Type 0} (next : P → Option Command) (steps : P → Reply → P → Type 0) (words most : P → ℕ) (valid : P → Type 0) (round : Round)
    (slice : ℕ) (old new : Worker) (p q : P) : Type 0 where
  pub asked : HasAsked next steps words round (seen old.seat) new.seat old.mutator new.mutator slice new.done new.end p q
  pub turns : new.mutator.turns ≡ passed old.mutator.turns (tried new.done new.end)
  pub most_is : new.done ≤ slice
  pub valid_is : valid q
  pub words_are : words q ≡ words p
  pub fewer : most q + new.done ≤ most p

-- each worker may do its slice of its own program
pub record CanAskAll {P : Type 0} (words most : P → ℕ) (valid : P → Type 0) (round : Round) (slice : ℕ) (workers : List Worker) (programs : List P) : Type 0 where
  pub count : length programs ≡ length workers
  pub each : (k : ℕ) (d : Worker) (e : P) → k < length workers → CanAsk words most valid round slice (slice_index_or workers k d) (slice_index_or programs k e)

-- each worker did its slice of its own program
pub record HaveAskedAll {P : Type 0} (next : P → Option Command) (steps : P → Reply → P → Type 0) (words most : P → ℕ) (valid : P → Type 0) (round : Round)
    (slice : ℕ) (old new : List Worker) (ps qs : List P) : Type 0 where
  pub workers : length new ≡ length old
  pub programs : length qs ≡ length ps
  pub each : (k : ℕ) (d : Worker) (e : P) → k < length old → HasAskedOn next steps words most valid round slice (slice_index_or old k d)
      (slice_index_or new k d) (slice_index_or ps k e) (slice_index_or qs k e)
