-- How often a name comes due, by the heap and the commands alone: pushes play no part.
use Rattle.std.specs.Prelude.{◌≡◌, ◌+◌, ◌-◌, ◌^◌, min, ℕ, List, [], ◌∷◌, Option, Some, None}
use Rattle.nmgc_world_spec.specs.{declared.value.Name.Name, declared.command.Command.Command, Reach.Counts}
use Rattle.nmgc_limits.specs.declared.mutators.TheConstants.{REGISTERS}
use Rattle.nmgc_barrier_laws.specs.Hybrid.{IsDueIn, IsHandedBy}
use Rattle.nmgc_barrier_checker.specs.{declared.event.Event.Event, declared.event.Why.Why, declared.hand.Hand.Hand, declared.rows.Task.Task, declared.watch.Watch.Watch, Rows.emptied, Watching.CanAct}
use Rattle.nmgc_barrier_checker.specs.declared.event.Event.TheVariants as event
use Rattle.nmgc_barrier_checker.specs.declared.watch.Watch.TheVariants as watch

-- the number of names with a property was added to a count, which stops at 2^64 - 1
abbrev pub IsAdded : (Name → Type 0) → ℕ → ℕ → Type 0
IsAdded P before after = (count : ℕ) × Counts P count × (after ≡ min (before + count) (2 ^ 64 - 1))

-- the count after a command: in a cycle, each name that the command makes due counts once
abbrev pub AddsDues : Watch → ℕ → Command → ℕ → ℕ → Type 0
AddsDues (watch.Marking h) m c before after = IsAdded (IsDueIn h m c) before after
AddsDues p m c before after = after ≡ before

-- the tasks of one line are done, one after the other, with the counts before and after them
abbrev pub AreCounted : ℕ → ℕ → List Task → Watch → ℕ → Watch → ℕ → Type 0
AreCounted line m [] p before next after = (next ≡ p) × (after ≡ before)
AreCounted line m (k ∷ ks) p before next after = (between : Watch) × (count : ℕ) × CanAct line m k p between × AddsDues p m k.command before count ×
    AreCounted line m ks between count next after

-- the count after a value was handed over: in a cycle, the name that it makes due counts, if there is one
abbrev pub AddsHand : Watch → Hand → ℕ → ℕ → Type 0
AddsHand (watch.Marking h) k before after = IsAdded (IsHandedBy h k.giver k.value k.taker) before after
AddsHand p k before after = after ≡ before

-- the count after a line's event that can happen: only commands and values handed over make names due
abbrev pub CountsDues : ℕ → Watch → Event → ℕ → ℕ → Type 0
CountsDues line p (event.Given m c answer) before after = AddsDues p m c before after
CountsDues line p (event.Rows m borrowed tasks) before after = (next : Watch) × AreCounted line m tasks p before next after
CountsDues line p (event.Exit m) before after = (next : Watch) × AreCounted line m (emptied REGISTERS) p before next after
CountsDues line p (event.Hand k answer) before after = AddsHand p k before after
CountsDues line p e before after = after ≡ before

-- for private contracts: as above if the command or event was done, and any count if it was refused
abbrev pub IsAddedIf : (Name → Type 0) → Option Why → ℕ → ℕ → Type 0
IsAddedIf P None before after = IsAdded P before after
IsAddedIf P (Some y) before after = Unit {0}

abbrev pub AddsDuesIf : Watch → ℕ → Command → Option Why → ℕ → ℕ → Type 0
AddsDuesIf p m c None before after = AddsDues p m c before after
AddsDuesIf p m c (Some y) before after = Unit {0}

abbrev pub CountsDuesIf : ℕ → Watch → Event → Option Why → ℕ → ℕ → Type 0
CountsDuesIf line p e None before after = CountsDues line p e before after
CountsDuesIf line p e (Some y) before after = Unit {0}
