-- The effect of a step on the events: none, or one more at their end. So no step drops an event or reorders any.
use Rattle.std.specs.Prelude.{◌≡◌, ℕ, List, [], ◌∷◌, ◌++◌, Option, Bool, true, false}
use Rattle.nmgc_world_spec.specs.{declared.value.Value.Value, declared.command.Command.Command, declared.command.Reply.Reply}
use Rattle.nmgc_snapshot_laws.specs.declared.event.Entry.{Entry}
use Rattle.nmgc_round.specs.{Events.did, Events.scanned, View.Opening, View.Seen, Rule.Keeps}

-- the rule of a round holds again, for these new words and views and for the same events
abbrev pub Stays : (o : Opening) (words : List ℕ) (views : List Seen) → Keeps o words views → List ℕ → List Seen → Type 0
Stays o words views k new others = (n : Keeps o new others) × (n.events ≡ k.events)

-- the rule of a round holds again, with one more event: a command of this mutator, with some reply
abbrev pub AddsCommand : (o : Opening) (words : List ℕ) (views : List Seen) → Keeps o words views → ℕ → Command → List ℕ → List Seen → Type 0
AddsCommand o words views k m c new others = (r : Reply) × (n : Keeps o new others) × (n.events ≡ k.events ++ did m c r ∷ [])

-- after a look: the rule holds again, with one more event, this command, if the expected word was there; else with no more
abbrev pub AddsIfMet : (o : Opening) (words : List ℕ) (views : List Seen) → Keeps o words views → ℕ → Command → Bool → List ℕ → List Seen → Type 0
AddsIfMet o words views k m c true new others = AddsCommand o words views k m c new others
AddsIfMet o words views k m c false new others = Stays o words views k new others

-- the rule of a round holds again, with one more event: a scan of this entry, and the value that it read
abbrev pub AddsScan : (o : Opening) (words : List ℕ) (views : List Seen) → Keeps o words views → Entry → List ℕ → List Seen → Type 0
AddsScan o words views k entry new others = (v : Option Value) × (n : Keeps o new others) × (n.events ≡ k.events ++ scanned entry v ∷ [])
