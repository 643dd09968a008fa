-- The work of the mutators in a round: as their parts of a view show it, and as their own state shows it.
--
-- A part has rows with answers as words. The mutator has the state after these rows and the replies by name. It has the
-- addresses of fields to which it gave a new object, and of weak pointers that it made or finalised. All laws of a round's
-- end use these facts, which `nmgc_mutator` promises of a slice.
use Rattle.std.specs.Prelude.{ℕ, ◌≡◌, ◌<◌, List, length, map, slice_get, Contains, Some}
use Rattle.std.specs.List.{flat_map}
use Rattle.nmgc_limits.specs.declared.mutators.TheConstants.{REGISTERS}
use Rattle.nmgc_world_spec.specs.{declared.command.Command.Command, declared.command.Reply.Reply, declared.node.Parts.Parts, World.World, Reach.IsAlive}
use Rattle.nmgc_object.specs.declared.layout.Nursery.{Nursery}
use Rattle.nmgc_heap_spec.specs.Objects.{Place}
use Rattle.nmgc_round.specs.{View.Opening, View.Part, View.hand_of, View.hand_now, Naming.AllReply}
use Rattle.nmgc_mutator.specs.{declared.mutator.Mutator.Mutator, Ready.IsNursery, Ready.HasHand, Ready.words_by, Records.numbers, Records.all_recorded, Records.all_weaks, Records.all_finalised}

-- a command, and the reply to it
abbrev pub Done : Type 0
Done = Command × Reply

-- a mutator's work in a round: its part of the view has a row with the reply for each command, and its state is as these rows
-- leave it. It recorded fields to which the commands gave a new object, and weak pointers made, or finalised in segments
pub record HasWorked (o : Opening) (p : Part) (m : Mutator) (done : List Done) : Type 0 where
  pub number : p.number ≡ m.number
  pub layout : m.layout ≡ o.layout
  pub size : length m.registers ≡ REGISTERS
  pub holds : HasHand (hand_now o p) m
  pub nursery : IsNursery m.layout m.number p.rows m.nursery
  pub used : p.used ≡ words_by p.rows
  pub replied : AllReply p.fixed p.rows done
  pub recorded : numbers m.recorded.items ≡ all_recorded m.layout (hand_of o.hands p.number) p.rows
  pub weaks : numbers m.young_weaks.items ≡ all_weaks p.rows
  pub finalised : numbers m.finalised.items ≡ all_finalised m.layout (hand_of o.hands p.number) p.rows

-- the work of all mutators in a round, by their numbers: each has its part of the view
pub record HaveWorked (o : Opening) (parts : List Part) (mutators : List Mutator) (done : List (List Done)) : Type 0 where
  pub parts_are : length parts ≡ o.layout.mutators
  pub mutators_are : length mutators ≡ o.layout.mutators
  pub done_are : length done ≡ o.layout.mutators
  pub numbers_are : (k : ℕ) (m : Mutator) → slice_get mutators k ≡ Some m → m.number ≡ k
  pub each : (k : ℕ) (p : Part) (m : Mutator) (d : List Done) → slice_get parts k ≡ Some p → slice_get mutators k ≡ Some m →
      slice_get done k ≡ Some d → HasWorked o p m d

-- the registers of all mutators, one after another, their queues and serials, and their nurseries
abbrev pub registers_of : List Mutator → List ℕ
registers_of mutators = flat_map (λ (m : Mutator). m.registers) mutators

abbrev pub queues_of : List Mutator → List (List ℕ)
queues_of mutators = map (λ (m : Mutator). m.queue.words) mutators

abbrev pub serials_of : List Mutator → List ℕ
serials_of mutators = map (λ (m : Mutator). m.serial) mutators

abbrev pub nurseries_of : List Mutator → List Nursery
nurseries_of mutators = map (λ (m : Mutator). m.nursery) mutators

-- the addresses of all fields that the mutators recorded
abbrev pub recorded_of : List Mutator → List ℕ
recorded_of mutators = flat_map (λ (m : Mutator). numbers m.recorded.items) mutators

-- the addresses of all weak pointers that the mutators made
abbrev pub weaks_of : List Mutator → List ℕ
weaks_of mutators = flat_map (λ (m : Mutator). numbers m.young_weaks.items) mutators

-- the addresses of all weak pointers in segments that the mutators finalised
abbrev pub finalised_of : List Mutator → List ℕ
finalised_of mutators = flat_map (λ (m : Mutator). numbers m.finalised.items) mutators

-- `finalised` has each address below the base of a weak pointer alive in `began` but not in `w`, and no address in a nursery
pub record ListsFinalised (base : ℕ) (places : List Place) (began w : World) (finalised : List ℕ) : Type 0 where
  pub all : (p : Place) (parts : Parts) → Contains places p → p.at < base → IsAlive began p.name parts → (IsAlive w p.name parts → ⊥) →
      Contains finalised p.at
  pub low : (at : ℕ) → Contains finalised at → at < base
