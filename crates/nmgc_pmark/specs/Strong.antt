-- Strong reach from the mutators' values, which several markers claim.
use Rattle.std.specs.Prelude.{List, ◌++◌, ◌≡◌, ◌↔◌, ◌⊎◌, Contains, ◌≢◌}
use Rattle.std.specs.List.{flat_map}
use Rattle.nmgc_world_spec.specs.{declared.mutator_state.MutatorState.MutatorState, declared.value.Value.Value, World.World, World.shared_name, declared.value.Name.Name, declared.value.Value.TheVariants.Ref, Reach.IsReached, Known.IsWorld}
use Rattle.nmgc_run_spec.specs.Terms.{IsStrongObject}

-- the values of a world's roots: the registers of each mutator, and then the finaliser queues
abbrev pub roots_of : World → List Value
roots_of w = flat_map (λ (state : MutatorState). state.registers) w.mutators ++ flat_map (λ (state : MutatorState). state.queue) w.mutators

-- the names at which strong reach begins: g, and the targets of the roots
abbrev pub IsStart : List Value → Name → Type 0
IsStart roots name = (name ≡ shared_name) ⊎ Contains roots (Ref name)

-- strong reach from roots: the names except g reachable along strong fields from the roots and the slots of g, a least set
abbrev pub IsStrong : World → List Value → Name → Type 0
IsStrong w roots name = IsReached w (IsStart roots) name × (name ≢ shared_name)

-- the law that strong reach from the values of a world's roots is strong reach from the world's roots
abbrev pub RootsStartStrongReach : Type 0
RootsStartStrongReach = (w : World) → IsWorld w → (name : Name) → IsStrong w (roots_of w) name ↔ IsStrongObject w name
