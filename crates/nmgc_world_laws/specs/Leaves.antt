-- The state of other mutators after a command, and of all mutators after a closing.
use Rattle.std.specs.Prelude.{◌≡◌, ◌≢◌, ◌++◌, ℕ, List, length}
use Rattle.nmgc_world_spec.specs.{declared.value.Name.Name, declared.value.Value.Value, declared.command.Command.Command, declared.mutator_state.MutatorState.MutatorState, World.World, World.state_of, World.step, Known.IsWorld, Known.CanApply, Reach.closed}

-- two states of a mutator have the same registers, the same finaliser queue and the same number of objects
pub record SameHands (before after : MutatorState) : Type 0 where
  pub registers : after.registers ≡ before.registers
  pub queue : after.queue ≡ before.queue
  pub made : length after.nodes ≡ length before.nodes

-- a mutator has the same registers and the same number of objects, and its finaliser queue grew at most at the end
pub record QueueGrows (before after : MutatorState) : Type 0 where
  pub registers : after.registers ≡ before.registers
  pub joined : List Value
  pub queue : after.queue ≡ before.queue ++ joined
  pub made : length after.nodes ≡ length before.nodes

-- a command leaves the registers, the queue and the number of objects of every other mutator as they are
abbrev pub StepLeavesOthers : Type 0
StepLeavesOthers = (w : World) (m : ℕ) (c : Command) → IsWorld w → CanApply w m c → (other : ℕ) → other ≢ m →
    SameHands (state_of w other) (state_of (step w m c).0 other)

-- a closing leaves registers and serials as they are, and lets each queue grow only at its end
abbrev pub ClosingLeavesHands : Type 0
ClosingLeavesHands = (w : World) (weaks : List Name) → IsWorld w → (m : ℕ) → QueueGrows (state_of w m) (state_of (closed w weaks) m)
